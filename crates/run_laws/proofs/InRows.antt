-- What a stage with several inputs gives of its law for a picture: its rows of a lawful picture, and of one that rests.
use Rattle.std.specs.Prelude.{slice_get, slice_index_or}
use Rattle.std.specs.Option.{option_to_list}
use Rattle.std.proofs.Common.{◌≡◌, ◌≢◌, ℕ, zero, suc, ◌+◌, ◌<◌, ◌≤◌, ◌⊎◌, inl, inr, true, List, [], ◌∷◌, map, length, take, Some, None, refl, sym, ap, subst, ◌∙◌, arith, length-append}
use Rattle.std.proofs.lemmas.List.{length-map}
use Rattle.elem_core.specs.Prefix.{IsPrefix}
use Rattle.elem_core.specs.Tree.{Tree}
use Rattle.elem_core.specs.Items.{elements}
use Rattle.elem_core.proofs.Prefixes.{prefix_length, prefix_is_take, prefix_take_le}
use Rattle.elem_core.specs.declared.item.Item.{Item}
use Rattle.port_core.specs.View as port
use Rattle.port_core.specs.declared.view.InView.{InView}
use Rattle.port_core.specs.declared.view.InView.TheVariants.{Cancelled}
use Rattle.stream_model.specs.FanIn.{Tagged, Inflow, flow, pairs, FanStands, ZipStands, concat_taken, interleave_taken, sorted_taken, turns_of}
use Rattle.stream_model.specs.Outlook.{Outlook, End, unended, ended, failed}
use Rattle.stream_model.specs.View as picture
use Rattle.stream_model.specs.View.{demand, wanted, total}
use Rattle.stream_model.specs.Lawful.{sent_in, ConcatLawful, InterleaveLawful, SortedLawful, ZipLawful, taken_or_wanted}
use Rattle.stage_core.specs.Fans.{FanKeeps, used}
use Rattle.stage_core.specs.Held.{told}
use Rattle.stage_core.specs.Zips.{ZipKeeps, ZipStandsOf, Paired}
use Rattle.stage_core.specs.Zips as zip
use Rattle.stage_core.proofs.FanTurns.{fan_stands}
use Rattle.stage_core.proofs.ZipTurns.{zip_history_stands}
use Rattle.stage_in.specs.declared.logic.InLogic.{InLogic}
use Rattle.stage_in.specs.declared.logic.InLogic.TheVariants as logic
use Rattle.stage_in.specs.Kinds.{taking_by, sorting}
use Rattle.stage_in.specs.Logics.{InAsking, InPortState, InLaw}
use Rattle.stage_in.specs.Moves.{in_moves}
use Rattle.stage_in.specs.Pairings.{Pairing, inlet_flow, port_state_by}
use Rattle.stage_in.specs.Sortings as sorted
use Rattle.stage_in.specs.Takings as taking
use Rattle.stage_in.specs.Takings.{Taking, InOrder}
use Rattle.stage_in.specs.Zippings as zipping
use Rattle.run_laws.specs.Account.{AllBegin, Earlier}
use Rattle.run_laws.specs.KindLaws.{Moments}
use Rattle.run_laws.specs.Ports.{InPort, OutPort, EachPort, InStands, OutStands, gots_of}
use Rattle.run_laws.proofs.Coming.{elements_told, elements_prefix}
use Rattle.run_laws.proofs.Flows.{Flows, law_flows, flow_count, total_length, came_sent}
use Rattle.run_laws.proofs.Counting.{stands_few, concat_few, turns_few, sorted_few, pairs_few, used_few, used_prefix}
use Rattle.run_laws.proofs.Orders.{Views, Wants, Wires, used_up, FirstShut, concat_inputs, concat_asked, wants_some, waiting_count, one_waits, turn_ports, never_asked, asked_or_not}
use Rattle.run_laws.proofs.InMoments.{turn_of, seats_left, Waits, pair_waits, Merge, merged, length-pairs, given_count}

abbrev pub InView_of : List InPort → OutPort → port.View
InView_of is o = record { ins = Views is; outs = o.view ∷ [] }

abbrev pub InMoments : InLogic → InLogic → List InPort → OutPort → Type 0
InMoments first now is o = (p : ℕ) → 1 ≤ slice_index_or (Wants is) p 0 → Moments InPortState InLaw InAsking in_moves first now is (o ∷ []) p

pub one_list : (x y : List Item) → x ∷ [] ≡ y ∷ [] → x ≡ y
one_list x y e = cc

-- no more was given than came
given_sent : (h : ℕ) (taken : List Outlook → List Tagged) (is : List InPort) (fs : List Inflow) (o : OutPort) (g : List Tree) (f : End) → Flows (Views is) (gots_of is) fs → EachPort InStands is → OutStands o → o.sent ≡ told g f → FanStands h taken fs g f
    → length (taken (map flow fs)) ≤ total_length (map flow fs) → o.wire.sent ≤ sent_in (Wires is)
given_sent h taken is fs o g f w s so told_is stands few =
    let a = stands_few h taken fs g f stands in
    let b = came_sent is fs w s in
    let c = so.count in
    let d = ap elements told_is ∙ elements_told g f in
    omega (arith, a, b, c, d, few)

-- ---- a concat or an interleave

module _ (first now : Taking) (is : List InPort) (o : OutPort) (law : InLaw (logic.Taking first) (logic.Taking now) (InView_of is o) (gots_of is) (o.sent ∷ [])) (stands : EachPort InStands is) (so : OutStands o) where
  taking_flows : Flows (Views is) (gots_of is) law.by.law.ins
  taking_flows = law_flows (FanKeeps (taking_by first.segment) (taking.place_of first) (taking.held now)) (InView_of is o) (gots_of is) (o.sent ∷ []) law.by

  taking_given : (taken : List Outlook → List Tagged) → (taking_by first.segment).from (taking.place_of first) ≡ taken → ((os : List Outlook) → length (taken os) ≤ total_length os) → o.wire.sent ≤ sent_in (Wires is)
  taking_given taken by few =
      given_sent (taking_by first.segment).hold taken is law.by.law.ins o law.by.law.out_list law.by.law.out_end taking_flows stands so (one_list o.sent law.by.given law.by.gave_is ∙ law.by.law.gave_is)
      (subst (λ (t : List Outlook → List Tagged). FanStands (taking_by first.segment).hold t law.by.law.ins law.by.law.out_list law.by.law.out_end) by
      (fan_stands (taking_by first.segment) (taking.place_of first) (taking.held now) law.by.law.ins law.by.law.out_list law.by.law.out_end law.by.law.keeps)) (few (map flow law.by.law.ins))

  pub concat_lawful : first.segment ≡ None → (taking_by first.segment).from (taking.place_of first) ≡ concat_taken → InMoments (logic.Taking first) (logic.Taking now) is o → ConcatLawful (Wires is) o.wire
  concat_lawful none by moments = (
    taking_given concat_taken by (λ os. concat_few 0 os),
    concat_inputs (Unit {0}) tt 0 (wanted o.wire) (Wires is) (λ p v at some. asked p v at (moments p (wants_some is p v stands at some)).0),
  )
    where
      asked : (p : ℕ) (v : picture.SeenWire) → slice_get (Wires is) p ≡ Some v → Earlier InPortState InLaw InAsking in_moves p (logic.Taking first) (logic.Taking now) (gots_of is) (o.sent ∷ []) (Wants is) (o.want ∷ []) (o.wire.shut ∷ []) → FirstShut p (Wires is) × (demand v + (0 + sent_in (take p (Wires is))) ≤ wanted o.wire)
      asked p v at e =
          let t = turn_of first e.old e.knew e.had e.given p e.port_state_held e.law_held e.waited in
          let count = t.count in
          let want = e.wants 0 t.asked in
          let wants = so.wants in
          concat_asked is law.by.law.ins stands taking_flows p t.used t.over e.knew.ins e.had t.flows (wanted o.wire) e.took_on t.came t.uses (subst (λ s. InOrder s t.over p) none t.order) e.one_more (omega (arith, count, want, wants)) v at

  pub interleave_lawful : (k : ℕ) → (taking_by first.segment).from (taking.place_of first) ≡ interleave_taken k → InMoments (logic.Taking first) (logic.Taking now) is o → InterleaveLawful (Wires is) o.wire
  interleave_lawful k by moments = (taking_given (interleave_taken k) by (λ os. turns_few k (turns_of os) k os), bound (asked_or_not (Wants is)))
    where
      bound : ((p : ℕ) × (1 ≤ slice_index_or (Wants is) p 0)) ⊎ ((p : ℕ) → 1 ≤ slice_index_or (Wants is) p 0 → ⊥) → total taken_or_wanted (Wires is) ≤ wanted o.wire
      bound (inr never) = let none = never_asked is stands never in omega (arith, none)
      bound (inl some) =
          let l = (moments some.0 some.1).1 in
          let t = turn_of first l.old l.knew l.had l.given l.port l.port_state_held l.law_held l.waited in
          let open_ports : (n : ℕ) → n < length l.knew.ins → slice_index_or l.knew.ins n Cancelled ≢ Cancelled =
          subst (λ (xs : List InView). (n : ℕ) → n < length xs → slice_index_or xs n Cancelled ≢ Cancelled) (sym t.ins) (λ n h. seats_left 0 l.port n t.over true h) in
          let most = turn_ports is law.by.law.ins l.knew.ins l.had t.flows stands taking_flows l.took_on t.came open_ports l.stood in
          let one = one_waits 0 l.port t.over in
          let same = ap waiting_count t.ins in
          let all = used_up t.used t.over l.knew.ins l.had t.flows t.uses t.came in
          let count = t.count in
          let want = l.wants 0 t.asked in
          let wants = so.wants in
          omega (arith, most, one, same, all, count, want, wants)

-- ---- a merge_sorted

take_few : {A : Type 0} (n : ℕ) (l : List A) → length (take n l) ≤ n
take_few zero l = omega arith
take_few (suc n) [] = omega arith
take_few (suc n) (x ∷ l) = let r = take_few n l in omega (arith, r)

sorted_all : (os : List Outlook) → length (sorted_taken os) ≤ total_length os
sorted_all [] = omega arith
sorted_all (a ∷ []) = omega arith
sorted_all (a ∷ b ∷ []) = let r = sorted_few a.ends b.ends a.list b.list in omega (arith, r)
sorted_all (a ∷ b ∷ c ∷ os) = omega arith

never_demand : (is : List InPort) → EachPort InStands is → ((p : ℕ) → 1 ≤ slice_index_or (Wants is) p 0 → ⊥) → total demand (Wires is) ≡ 0
never_demand [] s n = refl
never_demand (i ∷ is) s n =
    let reach = s.0.reach in
    let none : i.want ≡ 0 = not_some i.want (n 0) in
    let rest = never_demand is s.1 (λ p some. n (suc p) some) in
    omega (arith, reach, none, rest)
  where
    not_some : (k : ℕ) → (1 ≤ k → ⊥) → k ≡ 0
    not_some zero n = refl
    not_some (suc k) n = absurd (n (omega arith))

begun_length : (hs xs : List (List Item)) → AllBegin hs xs → length hs ≡ length xs
begun_length [] [] b = refl
begun_length [] (x ∷ xs) b = absurd b
begun_length (h ∷ hs) [] b = absurd b
begun_length (h ∷ hs) (x ∷ xs) b = ap suc (begun_length hs xs b.1)

-- one of two inputs at the moment of its ask
record SortedAsk (p : ℕ) (all : List Tagged) (want : ℕ) (most : ℕ) : Type 0 where
  given_used : List Tagged
  part : IsPrefix given_used all
  few : length given_used ≤ most
  asked : want ≡ used p given_used + 1

pub some_or_none : (n : ℕ) → (n ≡ 0) ⊎ (1 ≤ n)
some_or_none zero = inl refl
some_or_none (suc n) = inr (omega arith)

asked_few : (p : ℕ) (all : List Tagged) (want most d : ℕ) → d ≤ want → (1 ≤ want → SortedAsk p all want most) → d ≤ used p (take most all) + 1
asked_few p all want most d reach ask = elim (some_or_none want) [
  | inl none ↦ omega (arith, none, reach)
  | inr some ↦
      let a = ask some in
      let less : IsPrefix (take (length a.given_used) all) (take most all) = prefix_take_le (length a.given_used) most all a.few in
      let begins : IsPrefix a.given_used (take most all) = subst (λ (l : List Tagged). IsPrefix l (take most all)) (prefix_is_take a.part) less in
      let u = used_prefix p a.given_used (take most all) begins in
      let w = a.asked in
      omega (arith, u, w, reach)
]

module _ (first now : Pairing) (o : OutPort) where
  abbrev SortedNow : List InPort → Type 0
  SortedNow is = InLaw (logic.Sorting first) (logic.Sorting now) (InView_of is o) (gots_of is) (o.sent ∷ [])

  abbrev SortedEarlier : List InPort → ℕ → Type 0
  SortedEarlier is p = Earlier InPortState InLaw InAsking in_moves p (logic.Sorting first) (logic.Sorting now) (gots_of is) (o.sent ∷ []) (Wants is) (o.want ∷ []) (o.wire.shut ∷ [])

  sorted_ask : (i j : InPort) (c d : Inflow) (p : ℕ) → Flows (Views (i ∷ j ∷ [])) (gots_of (i ∷ j ∷ [])) (c ∷ d ∷ []) → SortedEarlier (i ∷ j ∷ []) p → SortedAsk p (sorting.from sorted.nowhere (map flow (c ∷ d ∷ []))) (slice_index_or (Wants (i ∷ j ∷ [])) p 0) (elements o.sent)
  sorted_ask i j c d p w e = by e.old e.port_state_held e.law_held
    where
      from : Merge p (sorting.from sorted.nowhere (map flow (c ∷ d ∷ []))) e.had e.given → SortedAsk p (sorting.from sorted.nowhere (map flow (c ∷ d ∷ []))) (slice_index_or (Wants (i ∷ j ∷ [])) p 0) (elements o.sent)
      from m =
          let more = given_on e.given e.gave_on in
          let count = m.count in
          let one = e.one_more in
          let whole = m.whole in
          record { given_used = m.given_used; part = m.part; few = omega (arith, more, count); asked = omega (arith, one, whole) }
        where
          given_on : (hs : List (List Item)) → AllBegin hs (o.sent ∷ []) → elements (slice_index_or hs 0 []) ≤ elements o.sent
          given_on [] b = absurd b
          given_on (h ∷ []) b = elements_prefix h o.sent b.0
          given_on (h ∷ k ∷ hs) b = absurd b.1

      at : (l : Pairing) → InPortState (logic.Sorting l) e.knew → InLaw (logic.Sorting first) (logic.Sorting l) e.knew e.had e.given → Merge p (sorting.from sorted.nowhere (map flow (c ∷ d ∷ []))) e.had e.given
      at l r law =
          let flows = law_flows (FanKeeps sorting sorted.nowhere (sorted.held l)) e.knew e.had e.given law.by in
          two law.by.law.ins refl e.had refl flows e.took_on
        where
          two : (fs : List Inflow) → law.by.law.ins ≡ fs → (hs : List (List Item)) → e.had ≡ hs → Flows e.knew.ins hs fs → AllBegin hs (gots_of (i ∷ j ∷ [])) → Merge p (sorting.from sorted.nowhere (map flow (c ∷ d ∷ []))) e.had e.given
          two fs fe [] he f b = absurd b
          two fs fe (h ∷ []) he f b = absurd b.1
          two fs fe (h ∷ k ∷ l ∷ hs) he f b = absurd b.1.1
          two fs fe (h ∷ k ∷ []) he f b = ports e.knew.ins fs fe f
            where
              ports : (xs : List InView) (gs : List Inflow) → law.by.law.ins ≡ gs → Flows xs (h ∷ k ∷ []) gs → Merge p (sorting.from sorted.nowhere (map flow (c ∷ d ∷ []))) e.had e.given
              ports [] gs ge f = absurd f
              ports (x ∷ []) [] ge f = absurd f
              ports (x ∷ []) (a ∷ gs) ge f = absurd f.1
              ports (x ∷ y ∷ xs) [] ge f = absurd f
              ports (x ∷ y ∷ xs) (a ∷ []) ge f = absurd f.1
              ports (x ∷ y ∷ []) (a ∷ m ∷ []) ge f =
                  merged first l e.knew e.had e.given p (pair_waits sorted.Sound l e.knew p r.started r.ports e.waited) law a m c d h k i.got j.got ge he f.0.0 f.1.0.0 w.0.0 w.1.0.0 b.0 b.1.0
              ports (x ∷ y ∷ []) (a ∷ m ∷ g ∷ gs) ge f = absurd f.1.1
              ports (x ∷ y ∷ z ∷ xs) (a ∷ m ∷ gs) ge f = absurd f.1.1

      by : (old : InLogic) → InPortState old e.knew → InLaw (logic.Sorting first) old e.knew e.had e.given → SortedAsk p (sorting.from sorted.nowhere (map flow (c ∷ d ∷ []))) (slice_index_or (Wants (i ∷ j ∷ [])) p 0) (elements o.sent)
      by (logic.Sorting l) r law = from (at l r law)
      by (logic.Taking l) r law = absurd law.same
      by (logic.Merging l) r law = absurd law.same
      by (logic.Zipping l) r law = absurd law.same

  sorted_pair : (i j : InPort) (c d : Inflow) → Flows (Views (i ∷ j ∷ [])) (gots_of (i ∷ j ∷ [])) (c ∷ d ∷ []) → EachPort InStands (i ∷ j ∷ []) → OutStands o → InMoments (logic.Sorting first) (logic.Sorting now) (i ∷ j ∷ []) o → total demand (Wires (i ∷ j ∷ [])) ≤ o.wire.sent + 2
  sorted_pair i j c d w s so moments =
      let all = sorting.from sorted.nowhere (map flow (c ∷ d ∷ [])) in
      let a = asked_few 0 all i.want (elements o.sent) (demand i.wire) s.0.reach (λ some. sorted_ask i j c d 0 w (moments 0 some).0) in
      let b = asked_few 1 all j.want (elements o.sent) (demand j.wire) s.1.0.reach (λ some. sorted_ask i j c d 1 w (moments 1 some).0) in
      let sum = used_few 0 2 (take (elements o.sent) all) in
      let few = take_few (elements o.sent) all in
      let count = so.count in
      omega (arith, a, b, sum, few, count)

  -- one that has asked has two inputs
  sorted_two : (is : List InPort) (p : ℕ) → SortedEarlier is p → length is ≡ 2
  sorted_two is p e = by e.old e.port_state_held e.law_held
    where
      by : (old : InLogic) → InPortState old e.knew → InLaw (logic.Sorting first) old e.knew e.had e.given → length is ≡ 2
      by (logic.Sorting l) r law =
          let waits = pair_waits sorted.Sound l e.knew p r.started r.ports e.waited in
          let row = subst (λ f. port_state_by sorted.Sound f l e.knew) waits.is_open r.ports in
          let ins = ap (λ (v : port.View). length v.ins) row.0 in
          let ports = law.by.ports in
          let had = begun_length e.had (gots_of is) e.took_on in
          let many = length-map is (λ (i : InPort). i.got) in
          omega (arith, ins, ports, had, many)
      by (logic.Taking l) r law = absurd law.same
      by (logic.Merging l) r law = absurd law.same
      by (logic.Zipping l) r law = absurd law.same

  sorted_demand : (is : List InPort) (now_flows : List Inflow) → Flows (Views is) (gots_of is) now_flows → EachPort InStands is → OutStands o → InMoments (logic.Sorting first) (logic.Sorting now) is o → total demand (Wires is) ≤ o.wire.sent + 2
  sorted_demand is fs w s so moments = elim (asked_or_not (Wants is)) [
    | inl some ↦ two is fs (sorted_two is some.0 (moments some.0 some.1).0) w s moments
    | inr never ↦ let none = never_demand is s never in omega (arith, none)
  ]
    where
      two : (is : List InPort) (fs : List Inflow) → length is ≡ 2 → Flows (Views is) (gots_of is) fs → EachPort InStands is → InMoments (logic.Sorting first) (logic.Sorting now) is o → total demand (Wires is) ≤ o.wire.sent + 2
      two [] fs l w s m = absurd (omega (arith, l))
      two (i ∷ []) fs l w s m = absurd (omega (arith, l))
      two (i ∷ j ∷ k ∷ is) fs l w s m = absurd (omega (arith, l))
      two (i ∷ j ∷ []) [] l w s m = absurd w
      two (i ∷ j ∷ []) (c ∷ []) l w s m = absurd w.1
      two (i ∷ j ∷ []) (c ∷ d ∷ e ∷ fs) l w s m = absurd w.1.1
      two (i ∷ j ∷ []) (c ∷ d ∷ []) l w s m = sorted_pair i j c d w s so m

  pub sorted_lawful : (is : List InPort) → SortedNow is → EachPort InStands is → OutStands o → InMoments (logic.Sorting first) (logic.Sorting now) is o → SortedLawful (Wires is) o.wire
  sorted_lawful is law s so moments =
      let flows = law_flows (FanKeeps sorting sorted.nowhere (sorted.held now)) (InView_of is o) (gots_of is) (o.sent ∷ []) law.by in (
        given_sent 1 sorted_taken is law.by.law.ins o law.by.law.out_list law.by.law.out_end flows s so (one_list o.sent law.by.given law.by.gave_is ∙ law.by.law.gave_is)
            (fan_stands sorting sorted.nowhere (sorted.held now) law.by.law.ins law.by.law.out_list law.by.law.out_end law.by.law.keeps) (sorted_all (map flow law.by.law.ins)),
        sorted_demand is law.by.law.ins flows s so moments,
      )

-- ---- a zip

zip_few : (c d : Inflow) (g : List Tree) (f : End) → ZipStands c d g f → (length g ≤ length c.list) × (length g ≤ length d.list)
zip_few c d g f st =
    let p = pairs_few c.list d.list in
    let a = p.0 in
    let b = p.1 in
    let m = by f st in
    (omega (arith, a, m), omega (arith, b, m))
  where
    by : (f : End) → ZipStands c d g f → length g ≤ length (pairs c.list d.list)
    by unended st = prefix_length st
    by ended st = let e = ap length st.0 in omega (arith, e)
    by (failed x) st = prefix_length st.0

module _ (first now : Pairing) (o : OutPort) where
  abbrev ZipNow : List InPort → Type 0
  ZipNow is = InLaw (logic.Zipping first) (logic.Zipping now) (InView_of is o) (gots_of is) (o.sent ∷ [])

  abbrev ZipEarlier : List InPort → ℕ → Type 0
  ZipEarlier is p = Earlier InPortState InLaw InAsking in_moves p (logic.Zipping first) (logic.Zipping now) (gots_of is) (o.sent ∷ []) (Wants is) (o.want ∷ []) (o.wire.shut ∷ [])

  -- what it had given when it asked there is all that had come there
  zip_gave : (l : Pairing) (p : ℕ) (xs : List InView) (hs : List (List Item)) (fs : List Inflow) (g : List Tree) (f : End) → Waits l p → ZipKeeps (zip.waits (inlet_flow l.left) (inlet_flow l.right)) fs g f → Flows xs hs fs → elements (slice_index_or hs p []) ≡ length g
  zip_gave l p xs hs [] g f w k fl = absurd k
  zip_gave l p xs hs (a ∷ []) g f w k fl = absurd k
  zip_gave l p xs hs (a ∷ b ∷ c ∷ fs) g f w k fl = absurd k
  zip_gave l p [] [] (a ∷ b ∷ []) g f w k fl = absurd fl
  zip_gave l p [] (h ∷ hs) (a ∷ b ∷ []) g f w k fl = absurd fl
  zip_gave l p (x ∷ xs) [] (a ∷ b ∷ []) g f w k fl = absurd fl
  zip_gave l p (x ∷ []) (h ∷ []) (a ∷ b ∷ []) g f w k fl = absurd fl.1
  zip_gave l p (x ∷ []) (h ∷ m ∷ hs) (a ∷ b ∷ []) g f w k fl = absurd fl.1
  zip_gave l p (x ∷ y ∷ xs) (h ∷ []) (a ∷ b ∷ []) g f w k fl = absurd fl.1
  zip_gave l p (x ∷ y ∷ xs) (h ∷ m ∷ hs) (a ∷ b ∷ []) g f w k fl = by w.empty
    where
      paired : Paired a b g (inlet_flow l.left) (inlet_flow l.right)
      paired = k.1.0

      gave : length g ≡ length paired.lefts
      gave = ap length paired.gave_is ∙ length-pairs paired.lefts paired.rights paired.even

      by : ((p ≡ 0) × (option_to_list l.left.held ≡ [])) ⊎ ((p ≡ 1) × (option_to_list l.right.held ≡ [])) → elements (slice_index_or (h ∷ m ∷ hs) p []) ≡ length g
      by (inl e) =
          let here : elements (slice_index_or (h ∷ m ∷ hs) p []) ≡ elements h = ap (λ n. elements (slice_index_or (h ∷ m ∷ hs) n [])) e.0 in
          let count = flow_count a fl.0.0 in
          let whole = ap length paired.left_is ∙ length-append paired.lefts (option_to_list l.left.held) in
          let none = ap length e.1 in
          let gives = gave in
          omega (arith, here, count, whole, none, gives)
      by (inr e) =
          let here : elements (slice_index_or (h ∷ m ∷ hs) p []) ≡ elements m = ap (λ n. elements (slice_index_or (h ∷ m ∷ hs) n [])) e.0 in
          let count = flow_count b fl.1.0.0 in
          let whole = ap length paired.right_is ∙ length-append paired.rights (option_to_list l.right.held) in
          let none = ap length e.1 in
          let gives = gave in
          let even = paired.even in
          omega (arith, here, count, whole, none, gives, even)

  zip_ask : (is : List InPort) (p : ℕ) → ZipEarlier is p → slice_index_or (Wants is) p 0 ≤ elements o.sent + 1
  zip_ask is p e = by e.old e.port_state_held e.law_held
    where
      given_on : (hs : List (List Item)) → AllBegin hs (o.sent ∷ []) → elements (slice_index_or hs 0 []) ≤ elements o.sent
      given_on [] b = absurd b
      given_on (h ∷ []) b = elements_prefix h o.sent b.0
      given_on (h ∷ k ∷ hs) b = absurd b.1

      by : (old : InLogic) → InPortState old e.knew → InLaw (logic.Zipping first) old e.knew e.had e.given → slice_index_or (Wants is) p 0 ≤ elements o.sent + 1
      by (logic.Zipping l) r law =
          let waits = pair_waits zipping.Sound l e.knew p r.started r.ports e.waited in
          let keeps = subst (λ f. ZipKeeps (zipping.held_by f l) law.by.law.ins law.by.law.out_list law.by.law.out_end) waits.is_open law.by.law.keeps in
          let flows = law_flows (ZipKeeps (zipping.held l)) e.knew e.had e.given law.by in
          let all = zip_gave l p e.knew.ins e.had law.by.law.ins law.by.law.out_list law.by.law.out_end waits keeps flows in
          let count = given_count law.by in
          let more = given_on e.given e.gave_on in
          let one = e.one_more in
          omega (arith, all, count, more, one)
      by (logic.Taking l) r law = absurd law.same
      by (logic.Merging l) r law = absurd law.same
      by (logic.Sorting l) r law = absurd law.same

  zip_port : (i : InPort) (c : Inflow) (g : List Tree) → InStands i → OutStands o → i.got ≡ told c.list c.end → o.wire.sent ≡ length g → length g ≤ length c.list → (1 ≤ i.want → i.want ≤ elements o.sent + 1) → (o.wire.sent ≤ i.wire.sent) × (demand i.wire ≤ o.wire.sent + 1)
  zip_port i c g s so got sent few ask =
      let came = s.came in
      let count = flow_count c got in
      let reach = s.reach in
      let all = so.count in
      (omega (arith, came, count, sent, few), elim (some_or_none i.want) [ inl none ↦ omega (arith, none, reach) | inr some ↦ let a = ask some in omega (arith, a, reach, all) ])

  pub zip_lawful : (is : List InPort) → ZipNow is → EachPort InStands is → OutStands o → InMoments (logic.Zipping first) (logic.Zipping now) is o → ZipLawful (Wires is) o.wire
  zip_lawful is law s so moments = two is law.by.law.ins (law_flows (ZipKeeps (zipping.held now)) (InView_of is o) (gots_of is) (o.sent ∷ []) law.by) (zip_history_stands (zipping.held now) (InView_of is o) (λ i. slice_index_or (gots_of is) i []) law.by.given law.by.law) s moments
    where
      sent : o.wire.sent ≡ length law.by.law.out_list
      sent = so.count ∙ ap elements (one_list o.sent law.by.given law.by.gave_is ∙ law.by.law.gave_is) ∙ elements_told law.by.law.out_list law.by.law.out_end

      two : (is : List InPort) (fs : List Inflow) → Flows (Views is) (gots_of is) fs → ZipStandsOf fs law.by.law.out_list law.by.law.out_end → EachPort InStands is → InMoments (logic.Zipping first) (logic.Zipping now) is o → ZipLawful (Wires is) o.wire
      two is [] w st s m = absurd st
      two is (c ∷ []) w st s m = absurd st
      two is (c ∷ d ∷ e ∷ fs) w st s m = absurd st
      two [] (c ∷ d ∷ []) w st s m = absurd w
      two (i ∷ []) (c ∷ d ∷ []) w st s m = absurd w.1
      two (i ∷ j ∷ k ∷ is) (c ∷ d ∷ []) w st s m = absurd w.1.1
      two (i ∷ j ∷ []) (c ∷ d ∷ []) w st s m =
          let few = zip_few c d law.by.law.out_list law.by.law.out_end st in (
            zip_port i c law.by.law.out_list s.0 so w.0.0 sent few.0 (λ some. zip_ask (i ∷ j ∷ []) 0 (m 0 some).0),
            (zip_port j d law.by.law.out_list s.1.0 so w.1.0.0 sent few.1 (λ some. zip_ask (i ∷ j ∷ []) 1 (m 1 some).0), tt),
          )
