-- What a balance keeps in a run, and its rows in a picture, by its moves and by the moment of its last ask.
use Rattle.std.specs.Prelude.{replicate, slice_get, slice_index_or, None, Option}
use Rattle.std.specs.Option.{option_to_list}
use Rattle.std.proofs.Common.{◌≡◌, ℕ, zero, suc, ◌+◌, ◌≤◌, ◌<◌, ◌⊎◌, inl, inr, Bool, true, false, List, [], ◌∷◌, map, length, drop, Some, refl, sym, ap, subst, ◌∙◌, arith}
use Rattle.std.proofs.lemmas.List.{length-map, length-replicate}
use Rattle.std.proofs.lemmas.Option.{slice_get_within}
use Rattle.elem_core.specs.Tree.{Tree}
use Rattle.elem_core.specs.Items.{elements}
use Rattle.elem_core.specs.declared.item.Item.{Item}
use Rattle.elem_core.proofs.Prefixes.{prefix_length}
use Rattle.elem_core.specs.declared.why.Decider.{Decider}
use Rattle.port_core.specs.View.{View, in_at, out_at, output_closed}
use Rattle.port_core.specs.declared.view.InView.{InView}
use Rattle.port_core.specs.declared.view.InView.TheVariants.{Idle, Pulled, Finished, Cancelled}
use Rattle.port_core.specs.declared.view.OutView.{OutView}
use Rattle.port_core.specs.declared.view.OutView.TheVariants as outlet
use Rattle.stream_model.specs.declared.kind.Kind.{Kind}
use Rattle.stream_model.specs.declared.kind.Kind.TheVariants.{Balance}
use Rattle.stream_model.specs.Fits.{moves_fit}
use Rattle.stream_model.specs.Graph.{Graph}
use Rattle.stream_model.specs.Graph as graph
use Rattle.stream_model.specs.Node.{World, head_of, node_outlook}
use Rattle.stream_model.specs.Outlook.{Outlook, End, Agrees}
use Rattle.stream_model.specs.Picks.{count_of, balance_fits, BalanceStands}
use Rattle.stream_model.specs.OneWay.{is_sink}
use Rattle.stream_model.specs.View as picture
use Rattle.stream_model.specs.View.{EachWire, demand, wanted, total}
use Rattle.stream_model.specs.Lawful.{RowLawful, BalanceLawful}
use Rattle.stream_model.specs.Rests.{IsShut, OneToMany, BalanceRests, RowRests}
use Rattle.stage_core.specs.Held.{told}
use Rattle.stage_core.specs.OpenOuts.{want_view, OneInClosed, OutsClosed}
use Rattle.stage_core.specs.Row.{OutClosed}
use Rattle.stage_core.specs.declared.outs.OutputState.{OutputState}
use Rattle.stage_core.specs.declared.outs.OutputState.TheVariants.{Quiet, Asks, Gone}
use Rattle.stage_out.specs.Outs.{SomeAsked, own_ins, own_outs}
use Rattle.port_core.specs.Picks.{next_move, planned}
use Rattle.port_core.specs.declared.pick_log.Next.{Next}
use Rattle.port_core.specs.declared.pick_log.Next.TheVariants.{Free}
use Rattle.stage_out.specs.Balances.{BalanceKeeps}
use Rattle.stage_out.specs.BalanceRows.{BalanceRestsBy, BalanceRestsOwn}
use Rattle.stage_out.specs.Balancings.{Balancing, Core, is_gone, input_of, Holding, port_state_by, port_state, held_by, lacks, Begins, BalancesAs}
use Rattle.stage_out.specs.Dealings.{DealStands}
use Rattle.stage_out.proofs.Balances.{drop_length}
use Rattle.stage_out.proofs.BalanceNodes as node
use Rattle.stage_out.specs.OutLogics.{BeginsBalance}
use Rattle.run_laws.specs.Account.{Earlier}
use Rattle.run_laws.specs.Items.{AllMayPass, AgreesWith}
use Rattle.run_laws.specs.Replayed.{Plans, left, BalanceCause, FollowedOutputs}
use Rattle.run_laws.proofs.Freely.{left_is}
use Rattle.run_laws.specs.KindLaws.{IsHistoryOf, HearsAll, Moments, PictureLaws, RunLaws}
use Rattle.run_laws.specs.Ports.{InPort, OutPort, EachPort, InStands, OutStands, InRests, OutRests, sents_of}
use Rattle.run_laws.proofs.Coming.{elements_told}
use Rattle.run_laws.proofs.Histories.{list_of_told}
use Rattle.run_laws.specs.Unmoved.{never_ends}
use Rattle.run_laws.proofs.Choices.{counts, all_counted, sent_count, elements_all, given_counts, outputs_sent, grown, more_wanted}
use Rattle.run_laws.proofs.InRuns.{at_index, one_given}
use Rattle.run_laws.proofs.OutPictures.{OutView_of, each_shut, one_list, some_or_none}
use Rattle.run_laws.proofs.OutRows.{OutWires, OutWants, Shuts}
use Rattle.run_laws.proofs.OutRuns.{one_input}
use Rattle.run_laws.proofs.Transport.{own_in, own_out, shuts, balance_rests, balance_rests_by}

abbrev pub BalanceAsking : Balancing → View → Type 0
BalanceAsking l v = l.log.left ≡ None → SomeAsked v

-- the moves that it made
abbrev pub made : Balancing → List ℕ
made l = l.log.moves

abbrev Now : Balancing → Balancing → InPort → List OutPort → Type 0
Now first now i os = BalancesAs first now (OutView_of i os) (i.got ∷ []) (sents_of os)

abbrev Then : Balancing → Balancing → InPort → List OutPort → Type 0
Then first now i os = Earlier port_state BalancesAs BalanceAsking made 0 first now (i.got ∷ []) (sents_of os) (i.want ∷ []) (OutWants os) (Shuts os)

-- ---- its moves

-- what it gave at each output, by its moves
stands_at : (first now : Balancing) (v : View) (took gave : List (List Item)) (law : BalancesAs first now v took gave) → first.log.left ≡ None → (j : ℕ) → BalanceStands now.log.moves j law.law.flow (law.law.lists j) (law.law.ends j)
stands_at first now v took gave law free j = node.free_stands first now v took gave law free j

each_count : (first now : Balancing) (v : View) (took gave : List (List Item)) (law : BalancesAs first now v took gave) → first.log.left ≡ None → (j : ℕ) → length (law.law.lists j) ≡ count_of j now.log.moves
each_count first now v took gave law free j = let s = stands_at first now v took gave law free j in ap length s.gave ∙ sent_count j now.log.moves law.law.flow.list s.taken

gave_at : (first now : Balancing) (v : View) (took gave : List (List Item)) (law : BalancesAs first now v took gave) (j : ℕ) → j < length gave → slice_index_or gave j [] ≡ told (law.law.lists (0 + j)) (law.law.ends (0 + j))
gave_at first now v took gave law j l =
    let ports = law.ports in
    let z : j ≡ 0 + j = omega arith in
    law.law.gave_is j (omega (arith, l, ports)) ∙ ap (λ k. told (law.law.lists k) (law.law.ends k)) z

-- all that it gave is one element for each move
gave_all : (first now : Balancing) (v : View) (took gave : List (List Item)) (law : BalancesAs first now v took gave) → first.log.left ≡ None → elements_all gave ≡ length now.log.moves
gave_all first now v took gave law free =
    let ports = law.ports in
    let counts_are = given_counts now.log.moves law.law.lists law.law.ends (each_count first now v took gave law free) 0 gave (gave_at first now v took gave law) in
    counts_are ∙ ap (λ n. counts now.log.moves 0 n) ports ∙ all_counted (length v.outs) now.log.moves law.named

-- ---- as it asked

closed_wait : (xs : List InView) → OneInClosed xs → slice_index_or xs 0 Cancelled ≡ Pulled → ⊥
closed_wait [] c e = c
closed_wait (Idle ∷ []) c e = c
closed_wait (Pulled ∷ []) c e = c
closed_wait (Finished ∷ []) c e = cc
closed_wait (Cancelled ∷ []) c e = cc
closed_wait (x ∷ y ∷ xs) c e = c

is_pulled : (over pulled : Bool) → input_of over pulled ≡ Pulled → pulled ≡ true
is_pulled true p e = cc
is_pulled false true e = refl
is_pulled false false e = cc

waits_none : (next : Next) (l : Core) (w : Option Tree) → Holding w next l → l.pulled ≡ true → w ≡ None
waits_none next l None h p = refl
waits_none next l (Some t) h p = let no : true ≡ false = sym p ∙ h.1 in cc

-- where it waits for its input, it gave all that it took
took_all : (first old : Balancing) (v : View) (took gave : List (List Item)) → port_state old v → in_at v 0 ≡ Pulled → (law : BalancesAs first old v took gave) → first.log.left ≡ None → elements (slice_index_or took 0 []) ≡ elements_all gave
took_all first old v took gave r w law free = by old.core.live refl (subst (λ (s : Bool). port_state_by old.core.live s old v) calm r)
  where
    calm : old.log.stuck ≡ false
    calm = (node.stays_free first old v took gave free law).calm

    by : (b : Bool) → old.core.live ≡ b → port_state_by b false old v → elements (slice_index_or took 0 []) ≡ elements_all gave
    by false is r = absurd (closed_wait v.ins r.0 w)
    by true is r =
        let pulled = is_pulled old.core.over old.core.pulled (ap (λ (x : View). in_at x 0) (sym r.0) ∙ w) in
        let none : old.core.waiting ≡ None = waits_none (next_move old.log.left) old.core old.core.waiting r.1.holds pulled in
        let keeps : BalanceKeeps (held_by true old.log.moves (lacks old.log.left old.core.outs) old.core) law.law.flow law.law.lists law.law.ends = subst (λ b. BalanceKeeps (held_by b old.log.moves (lacks old.log.left old.core.outs) old.core) law.law.flow law.law.lists law.law.ends) is law.law.keeps in
        let h = keeps.1.0 in
        let left = h.left ∙ ap (λ x. option_to_list x) none in
        let none_left : length (drop (length old.log.moves) law.law.flow.list) ≡ 0 = ap length left in
        let all = drop_length old.log.moves law.law.flow.list h.within in
        let gave_is = gave_all first old v took gave law free in
        let took_is : elements (slice_index_or took 0 []) ≡ length law.law.flow.list =
        ap (λ (hs : List (List Item)). elements (slice_index_or hs 0 [])) law.took_is ∙ ap elements law.law.took_is ∙ elements_told law.law.flow.list law.law.flow.end in
        omega (arith, none_left, all, gave_is, took_is)

-- where it waits for its input it took as many elements as it made moves
took_few : (old : Balancing) (v : View) (first : Balancing) (took gave : List (List Item)) → port_state old v → in_at v 0 ≡ Pulled → BalancesAs first old v took gave → elements (slice_index_or took 0 []) ≤ length old.log.moves
took_few old v first took gave r w law = by old.core.live old.log.stuck refl r
  where
    by : (b stuck : Bool) → old.core.live ≡ b → port_state_by b stuck old v → elements (slice_index_or took 0 []) ≤ length old.log.moves
    by false stuck is r = absurd (closed_wait v.ins r.0 w)
    by true true is r = let none : Finished ≡ Pulled = sym (ap (λ (xs : List InView). slice_index_or xs 0 Cancelled) r.input) ∙ w in cc
    by true false is r =
        let pulled = is_pulled old.core.over old.core.pulled (ap (λ (x : View). in_at x 0) (sym r.0) ∙ w) in
        let none : old.core.waiting ≡ None = waits_none (next_move old.log.left) old.core old.core.waiting r.1.holds pulled in
        let keeps : BalanceKeeps (held_by true old.log.moves (lacks old.log.left old.core.outs) old.core) law.law.flow law.law.lists law.law.ends = subst (λ b. BalanceKeeps (held_by b old.log.moves (lacks old.log.left old.core.outs) old.core) law.law.flow law.law.lists law.law.ends) is law.law.keeps in
        let h = keeps.1.0 in
        let left = h.left ∙ ap (λ x. option_to_list x) none in
        let none_left : length (drop (length old.log.moves) law.law.flow.list) ≡ 0 = ap length left in
        let all = drop_length old.log.moves law.law.flow.list h.within in
        let took_is : elements (slice_index_or took 0 []) ≡ length law.law.flow.list =
        ap (λ (hs : List (List Item)). elements (slice_index_or hs 0 [])) law.took_is ∙ ap elements law.law.took_is ∙ elements_told law.law.flow.list law.law.flow.end in
        omega (arith, none_left, all, took_is)

-- an output that may lack elements is closed
closed_out : (y : OutView) → output_closed y ≡ true → OutClosed y
closed_out outlet.Unpulled e = cc
closed_out outlet.Available e = cc
closed_out outlet.Closed e = tt
closed_out outlet.Cancelled e = tt

gone_view : (ws : List OutputState) (j : ℕ) → is_gone (slice_index_or ws j Gone) ≡ true → OutClosed (slice_index_or (map want_view ws) j outlet.Closed)
gone_view [] j e = tt
gone_view (Quiet ∷ ws) zero e = cc
gone_view (Asks ∷ ws) zero e = cc
gone_view (Gone ∷ ws) zero e = tt
gone_view (w ∷ ws) (suc j) e = gone_view ws j e

closed_in : (ys : List OutView) (k : ℕ) → OutsClosed ys → OutClosed (slice_index_or ys k outlet.Closed)
closed_in [] k c = tt
closed_in (y ∷ ys) zero c = c.0
closed_in (y ∷ ys) (suc k) c = closed_in ys k c.1

is_lacking : (plan : Option (List ℕ)) (outs : List OutputState) (j : ℕ) → lacks plan outs j ≡ true → is_gone (slice_index_or outs j Gone) ≡ true
is_lacking None outs j e = cc
is_lacking (Some moves) outs j e = e

lacking_closed : (l : Balancing) (v : View) → port_state l v → (j : ℕ) → lacks l.log.left l.core.outs j ≡ true → OutClosed (out_at v j)
lacking_closed l v r j lacking = by l.core.live l.log.stuck r
  where
    by : (b stuck : Bool) → port_state_by b stuck l v → OutClosed (out_at v j)
    by false stuck r = closed_in v.outs j r.1
    by true true r = closed_out (out_at v j) (r.gone j (is_lacking l.log.left l.core.outs j lacking))
    by true false r = subst (λ (x : View). OutClosed (out_at x j)) (sym r.0) (gone_view l.core.outs j (is_lacking l.log.left l.core.outs j lacking))

-- ---- a lawful picture

module _ (first now : Balancing) (i : InPort) (os : List OutPort) (law : Now first now i os) (free : first.log.left ≡ None) (si : InStands i) (so : EachPort OutStands os) where
  pub lawful : ((p : ℕ) → 1 ≤ slice_index_or (i.want ∷ []) p 0 → Moments port_state BalancesAs BalanceAsking made first now (i ∷ []) os p) → BalanceLawful now.log.moves i.wire (OutWires os)
  lawful moments = (
    outputs_sent now.log.moves law.law.lists law.law.ends (each_count first now (OutView_of i os) (i.got ∷ []) (sents_of os) law free) 0 os (gave_at first now (OutView_of i os) (i.got ∷ []) (sents_of os) law) so,
    one_more (some_or_none (demand i.wire)),
    in_all (some_or_none (demand i.wire)),
  )
    where
      then : 1 ≤ demand i.wire → Then first now i os
      then some = let reach = si.reach in (moments 0 (omega (arith, some, reach))).0

      few : (e : Then first now i os) → demand i.wire ≤ elements_all e.given + 1
      few e = let reach = si.reach in let one = e.one_more in let had = took_all first e.old e.knew e.had e.given e.port_state_held e.waited e.law_held free in omega (arith, reach, one, had)

      one_more : (demand i.wire ≡ 0) ⊎ (1 ≤ demand i.wire) → demand i.wire ≤ length now.log.moves + 1
      one_more (inl none) = omega (arith, none)
      one_more (inr some) =
          let e = then some in
          let most = few e in
          let more = grown e.given (sents_of os) e.gave_on in
          let all = gave_all first now (OutView_of i os) (i.got ∷ []) (sents_of os) law free in
          omega (arith, most, more, all)

      in_all : (demand i.wire ≡ 0) ⊎ (1 ≤ demand i.wire) → demand i.wire ≤ total wanted (OutWires os)
      in_all (inl none) = omega (arith, none)
      in_all (inr some) =
          let e = then some in
          let most = few e in
          let asked = e.asking_held (node.stays_free first e.old e.knew e.had e.given free e.law_held).none in
          let more = more_wanted asked.0 e.given os e.gave_on so (e.wants asked.0 asked.1) in
          omega (arith, most, more)

-- ---- a lawful picture of one that follows moves

-- each output has no more elements than moves, and as many where it is open
followed : (moves : List ℕ) (lists : ℕ → List Tree) (ends : ℕ → End) → ((j : ℕ) → length (lists j) ≤ count_of j moves) → (q : ℕ) (os : List OutPort)
    → ((j : ℕ) → j < length os → slice_index_or (sents_of os) j [] ≡ told (lists (q + j)) (ends (q + j)))
    → ((j : ℕ) → OutClosed (slice_index_or (map (λ (o : OutPort). o.view) os) j outlet.Closed) ⊎ (length (lists (q + j)) ≡ count_of (q + j) moves))
    → EachPort OutStands os → FollowedOutputs moves q (OutWires os)
followed moves lists ends few q [] t c so = tt
followed moves lists ends few q (o ∷ os) t c so =
    let z : q + 0 ≡ q = omega arith in
    let told_here = t 0 (omega arith) in
    let sent : elements o.sent ≡ length (lists q) = ap elements told_here ∙ elements_told (lists (q + 0)) (ends (q + 0)) ∙ ap (λ (k : ℕ). length (lists k)) z in
    let count = so.0.count in
    let most = few q in (
      (
        omega (arith, sent, count, most),
        elim (c 0) [
          | inl closed ↦ inl (so.0.closed closed)
          | inr whole ↦ inr (let here : length (lists q) ≡ count_of q moves = subst (λ (k : ℕ). length (lists k) ≡ count_of k moves) z whole in omega (arith, sent, count, here))
        ],
      ),
      followed moves lists ends few (q + 1) os
          (λ j l. let y : q + suc j ≡ q + 1 + j = omega arith in subst (λ (k : ℕ). slice_index_or (sents_of os) j [] ≡ told (lists k) (ends k)) y (t (suc j) (omega (arith, l))))
          (λ j. let y : q + suc j ≡ q + 1 + j = omega arith in subst (λ (k : ℕ). OutClosed (slice_index_or (map (λ (o : OutPort). o.view) os) j outlet.Closed) ⊎ (length (lists k) ≡ count_of k moves)) y (c (suc j))) so.1,
    )

module _ (first now : Balancing) (i : InPort) (os : List OutPort) (law : Now first now i os) (si : InStands i) (so : EachPort OutStands os) where
  pub led_lawful : port_state now (OutView_of i os) → ((p : ℕ) → 1 ≤ slice_index_or (i.want ∷ []) p 0 → Moments port_state BalancesAs BalanceAsking made first now (i ∷ []) os p)
      → FollowedOutputs now.log.moves 0 (OutWires os) × (demand i.wire ≤ length now.log.moves + 1)
  led_lawful r moments = (
    followed now.log.moves law.law.lists law.law.ends few 0 os (λ j l. gave_at first now (OutView_of i os) (i.got ∷ []) (sents_of os) law j (let long = length-map os (λ (o : OutPort). o.sent) in omega (arith, l, long))) whole so,
    one_more (some_or_none (demand i.wire)),
  )
    where
      stands : (j : ℕ) → DealStands (lacks now.log.left now.core.outs j) now.log.moves j law.law.flow (law.law.lists j) (law.law.ends j)
      stands j = node.stands first now (OutView_of i os) (i.got ∷ []) (sents_of os) law j

      few : (j : ℕ) → length (law.law.lists j) ≤ count_of j now.log.moves
      few j =
          let s = stands j in
          let part = prefix_length s.part in
          let count = sent_count j now.log.moves law.law.flow.list s.taken in
          omega (arith, part, count)

      whole : (j : ℕ) → OutClosed (slice_index_or (map (λ (o : OutPort). o.view) os) j outlet.Closed) ⊎ (length (law.law.lists (0 + j)) ≡ count_of (0 + j) now.log.moves)
      whole j = by (lacks now.log.left now.core.outs j) refl
        where
          by : (b : Bool) → lacks now.log.left now.core.outs j ≡ b → OutClosed (slice_index_or (map (λ (o : OutPort). o.view) os) j outlet.Closed) ⊎ (length (law.law.lists (0 + j)) ≡ count_of (0 + j) now.log.moves)
          by true e = inl (lacking_closed now (OutView_of i os) r j e)
          by false e =
              let s = stands j in
              let z : j ≡ 0 + j = omega arith in
              inr (subst (λ (k : ℕ). length (law.law.lists k) ≡ count_of k now.log.moves) z (ap length (s.whole e) ∙ sent_count j now.log.moves law.law.flow.list s.taken))

      one_more : (demand i.wire ≡ 0) ⊎ (1 ≤ demand i.wire) → demand i.wire ≤ length now.log.moves + 1
      one_more (inl none) = omega (arith, none)
      one_more (inr some) =
          let reach = si.reach in
          let e : Then first now i os = (moments 0 (omega (arith, some, reach))).0 in
          let one = e.one_more in
          let took = took_few e.old e.knew first e.had e.given e.port_state_held e.waited e.law_held in
          let more = prefix_length e.moves_on in
          omega (arith, reach, one, took, more)

-- ---- where no event is left

outs_same : (q : ℕ) (os : List OutPort) (lists : ℕ → List Tree) (ends : ℕ → End) → ((j : ℕ) → j < length os → slice_index_or (sents_of os) j [] ≡ told (lists (q + j)) (ends (q + j))) → own_outs q (map (λ (o : OutPort). o.view) os) lists ≡ map own_out os
outs_same q [] lists ends t = refl
outs_same q (o ∷ os) lists ends t =
    let z : q + 0 ≡ q = omega arith in
    let here : o.sent ≡ told (lists q) (ends q) = t 0 (omega arith) ∙ ap (λ k. told (lists k) (ends k)) z in
    let rest = outs_same (q + 1) os lists ends (λ j l. let y : q + suc j ≡ q + 1 + j = omega arith in t (suc j) (omega (arith, l)) ∙ ap (λ k. told (lists k) (ends k)) y) in
    rw (rest, here, elements_told (lists q) (ends q), list_of_told (lists q) (ends q)) refl

in_same : (i : InPort) (l : List Tree) (e : End) → i.got ≡ told l e → own_ins (i.view ∷ []) l ≡ own_in i ∷ []
in_same i l e h = rw (h, elements_told l e, list_of_told l e) refl

module _ (first now : Balancing) (i : InPort) (os : List OutPort) (law : Now first now i os) (free : first.log.left ≡ None) (si : InStands i) (so : EachPort OutStands os) (ri : InRests i) (ro : EachPort OutRests os) where
  pub stays : port_state now (OutView_of i os) → (EachWire IsShut (i.wire ∷ []) × EachWire IsShut (OutWires os)) ⊎ BalanceRests i.wire (OutWires os)
  stays r =
      let is_free = node.stays_free first now (OutView_of i os) (i.got ∷ []) (sents_of os) free law in
      let s = subst (λ left. BalanceRestsOwn (next_move left) (OutView_of i os) law.law.flow.list law.law.lists) is_free.none (node.logic_rests first now (OutView_of i os) (i.got ∷ []) (sents_of os) is_free.calm r law) in
      let ins = in_same i law.law.flow.list law.law.flow.end (one_list i.got law.taken law.took_is ∙ law.law.took_is) in
      let long = length-map os (λ (o : OutPort). o.sent) in
      let outs = outs_same 0 os law.law.lists law.law.ends (λ j l. gave_at first now (OutView_of i os) (i.got ∷ []) (sents_of os) law j (omega (arith, l, long))) in
      elim s [
        | inl h ↦ inl (
          (shuts i ri (subst (λ (vs : List picture.SeenWire). EachWire IsShut vs) ins h.0).0, tt),
          each_shut os so ro (subst (λ (vs : List picture.SeenWire). EachWire IsShut vs) outs h.1),
        )
        | inr h ↦ inr (balance_rests i os si ri so ro (subst (λ (vs : List picture.SeenWire). BalanceRests (own_in i) vs) outs (subst (λ (vs : List picture.SeenWire). OneToMany (BalanceRestsBy Free) vs (own_outs 0 (map (λ (o : OutPort). o.view) os) law.law.lists)) ins h)))
      ]

-- ---- one that follows moves, where no event is left

module _ (g : Graph) (w : World) (plans : Plans) (k : ℕ) (first now : Balancing) (i : InPort) (os : List OutPort) (law : Now first now i os) (si : InStands i) (so : EachPort OutStands os) (ri : InRests i) (ro : EachPort OutRests os) where
  -- it meets its row by what its next move is to be, or has the cause of a misfit
  abbrev pub Led : List Outlook → Next → List ℕ → Type 0
  Led comes next moves = (EachWire IsShut (i.wire ∷ []) × EachWire IsShut (OutWires os)) ⊎ (BalanceRestsBy next i.wire (OutWires os) ⊎ BalanceCause next moves comes)

  took : i.got ≡ told law.law.flow.list law.law.flow.end
  took = one_list i.got law.taken law.took_is ∙ law.law.took_is

  row : BalanceRestsOwn (next_move now.log.left) (OutView_of i os) law.law.flow.list law.law.lists → (comes : List Outlook) → Led comes (next_move now.log.left) now.log.moves
  row s comes =
      let ins = in_same i law.law.flow.list law.law.flow.end took in
      let long = length-map os (λ (o : OutPort). o.sent) in
      let outs = outs_same 0 os law.law.lists law.law.ends (λ j l. gave_at first now (OutView_of i os) (i.got ∷ []) (sents_of os) law j (omega (arith, l, long))) in
      elim s [
        | inl h ↦ inl (
          (shuts i ri (subst (λ (vs : List picture.SeenWire). EachWire IsShut vs) ins h.0).0, tt),
          each_shut os so ro (subst (λ (vs : List picture.SeenWire). EachWire IsShut vs) outs h.1),
        )
        | inr h ↦ inr (inl (balance_rests_by i os si ri so ro (next_move now.log.left)
            (subst (λ (vs : List picture.SeenWire). BalanceRestsBy (next_move now.log.left) (own_in i) vs) outs
            (subst (λ (vs : List picture.SeenWire). OneToMany (BalanceRestsBy (next_move now.log.left)) vs (own_outs 0 (map (λ (o : OutPort). o.view) os) law.law.lists)) ins h))))
      ]

  stopped : (comes : List Outlook) → AllMayPass comes (i.got ∷ []) → now.log.stuck ≡ true → BalanceCause (next_move now.log.left) now.log.moves comes
  stopped [] a e = absurd a
  stopped (o ∷ []) a e = node.has_cause first now (OutView_of i os) (i.got ∷ []) (sents_of os) law e o (a.0 law.law.flow.list law.law.flow.end took)
  stopped (o ∷ p ∷ ps) a e = absurd a.1

  pub led_stays : (comes : List Outlook) → plans k ≡ planned first.log → w.moves k ≡ now.log.moves → port_state now (OutView_of i os) → AllMayPass comes (i.got ∷ []) → Led comes (next_move (left g w plans k)) (w.moves k)
  led_stays comes follows told_so r may =
      subst (λ (rest : Option (List ℕ)). Led comes (next_move rest) (w.moves k)) (sym rest_is) (subst (λ (ms : List ℕ). Led comes (next_move now.log.left) ms) (sym told_so) (by now.log.stuck refl))
    where
      rest_is : left g w plans k ≡ now.log.left
      rest_is = left_is (plans k) now.log.left now.log.moves (w.moves k) (follows ∙ sym law.plan) told_so

      by : (stuck : Bool) → now.log.stuck ≡ stuck → Led comes (next_move now.log.left) now.log.moves
      by true e = inr (inr (stopped comes may e))
      by false e = row (node.logic_rests first now (OutView_of i os) (i.got ∷ []) (sents_of os) e r law) comes

-- ---- by its kind

lawful_by : (g : Graph) (w : World) (k : ℕ) (d : Decider) (kd : Kind) (l : Balancing) (moves : List ℕ) (i : picture.SeenWire) (os : List picture.SeenWire) → BeginsBalance kd l → w.moves k ≡ moves → BalanceLawful moves i os → RowLawful g w k kd d (i ∷ []) os
lawful_by g w k d (Balance n) l moves i os b told r = subst (λ ms. BalanceLawful ms i os) (sym told) r
lawful_by g w k d kd l moves i os b told r = absurd b

rests_by : (g : Graph) (w : World) (k : ℕ) (d : Decider) (kd : Kind) (l : Balancing) (i : picture.SeenWire) (os : List picture.SeenWire) → BeginsBalance kd l → BalanceRests i os → RowRests g w k kd d (i ∷ []) os
rests_by g w k d (Balance n) l i os b r = r
rests_by g w k d kd l i os b r = absurd b

pub no_sink : (kd : Kind) (l : Balancing) → BeginsBalance kd l → is_sink kd ≡ false
no_sink (Balance n) l b = refl
no_sink kd l b = absurd b

module _ (g : Graph) (w : World) (k : ℕ) (n : graph.Node) where
  pub balance_picture : (first now : Balancing) (is : List InPort) (os : List OutPort) → BeginsBalance n.kind first → first.log.left ≡ None → w.moves k ≡ now.log.moves → port_state now (record { ins = map (λ (i : InPort). i.view) is; outs = map (λ (o : OutPort). o.view) os })
      → BalancesAs first now (record { ins = map (λ (i : InPort). i.view) is; outs = map (λ (o : OutPort). o.view) os }) (map (λ (i : InPort). i.got) is) (sents_of os) → PictureLaws port_state BalancesAs BalanceAsking made never_ends g w k n first now is os
  balance_picture first now [] os b free told r law = let none = law.took_is in absurd cc
  balance_picture first now (i ∷ j ∷ is) os b free told r law = let more = law.took_is in absurd cc
  balance_picture first now (i ∷ []) os b free told r law = record {
    lawful = λ s so m. lawful_by g w k n.decider n.kind first now.log.moves i.wire (OutWires os) b told (lawful first now i os law free s.0 so m);
    rests = λ s so ri ro. elim (stays first now i os law free s.0 so ri.0 ro r) [ inl h ↦ inl h | inr h ↦ inr (rests_by g w k n.decider n.kind first i.wire (OutWires os) b h) ];
    matches = λ sink ri. let no = no_sink n.kind first b in let z : true ≡ false = sym sink ∙ no in absurd cc;
  }

-- ---- a run

-- as many outputs as its kind has
outputs_are : (m : ℕ) (first now : Balancing) (v : View) (took gave : List (List Item)) → Begins m first → BalancesAs first now v took gave → length v.outs ≡ m
outputs_are m first now v took gave b law = sym law.ports ∙ (law.outputs ∙ (ap (λ (c : Core). length c.outs) b.core ∙ length-replicate m _))

module _ (g : Graph) (w : World) (k : ℕ) (d : Decider) (first now : Balancing) (v : View) (took gave : List (List Item)) (law : BalancesAs first now v took gave) (told_so : w.moves k ≡ now.log.moves) where
  passes : (os : List Outlook) → AllMayPass os took → Agrees (head_of os) law.law.flow.list law.law.flow.end
  passes os a =
      let one = one_input os law.taken (subst (λ (hs : List (List Item)). AllMayPass os hs) law.took_is a) in
      subst (λ (xs : List Outlook). Agrees (head_of xs) law.law.flow.list law.law.flow.end) (sym one.1.0) (one.1.1 law.law.flow.list law.law.flow.end law.law.took_is)

  gives : (kd : Kind) → BeginsBalance kd first → (os : List Outlook) → AllMayPass os took → (p : ℕ) (h : List Item) → slice_get gave p ≡ Some h → AgreesWith (node_outlook g w k kd d os p) h
  gives (Balance m) b os a p h at =
      let within = slice_get_within gave p h at in
      let ports = law.ports in
      record {
        list = law.law.lists p;
        end = law.law.ends p;
        is = sym (at_index gave p h at) ∙ law.law.gave_is p (omega (arith, within, ports));
        agrees = node.output_agrees first now v took gave law os (passes os a) g w k m d p told_so;
      }
  gives kd b os a p h at = absurd b

  fits : (kd : Kind) → BeginsBalance kd first → (os : List Outlook) → AllMayPass os took → moves_fit g w k kd os ≡ true
  fits (Balance m) b os a =
      let all = node.moves_fit first now v took gave law os (passes os a) in
      let many = outputs_are m first now v took gave b law in
      ap (λ ms. balance_fits m ms (head_of os)) told_so ∙ ap (λ x. balance_fits x now.log.moves (head_of os)) (sym many) ∙ all
  fits kd b os a = absurd b

pub balance_laws : (g : Graph) (w : World) (k : ℕ) (n : graph.Node) (first now : Balancing) (v : View) (took gave : List (List Item)) → BeginsBalance n.kind first → w.moves k ≡ now.log.moves → BalancesAs first now v took gave → RunLaws g w k n took gave
balance_laws g w k n first now v took gave b told_so law = record {
  gives = gives g w k n.decider first now v took gave law told_so n.kind b;
  fits = fits g w k n.decider first now v took gave law told_so n.kind b;
}

-- what came is a list and an end, which is known of the input
pub balance_hears : (first now : Balancing) (v : View) (took gave : List (List Item)) → BalancesAs first now v took gave → HearsAll v took
balance_hears first now v took gave law p h at =
    let one = one_given law.taken h p (subst (λ (hs : List (List Item)). slice_get hs p ≡ Some h) law.took_is at) in
    subst (λ q. IsHistoryOf (in_at v q) h) (sym one.0) (record { list = law.law.flow.list; end = law.law.flow.end; is = one.1 ∙ law.law.took_is; as_seen = law.law.took_as })
