-- How a stage with several inputs stood when it asked: by its row and its law at that moment.
use Rattle.std.specs.Prelude.{slice_index_or, ◌==◌}
use Rattle.std.specs.Option.{option_to_list}
use Rattle.std.proofs.Common.{◌≡◌, ◌≢◌, ℕ, zero, suc, ◌+◌, ◌<◌, ◌⊎◌, inl, inr, Bool, true, false, List, [], ◌∷◌, map, length, Option, Some, None, refl, sym, ap, subst, ◌∙◌, arith}
use Rattle.std.proofs.lemmas.List.{length-map}
use Rattle.elem_core.specs.Prefix.{IsPrefix}
use Rattle.elem_core.specs.Tree.{Tree}
use Rattle.elem_core.specs.Items.{elements}
use Rattle.elem_core.specs.declared.item.Item.{Item}
use Rattle.port_core.specs.View as port
use Rattle.port_core.specs.View.{in_at, out_at}
use Rattle.port_core.specs.declared.view.InView.{InView}
use Rattle.port_core.specs.declared.view.InView.TheVariants.{Idle, Pulled, Finished, Cancelled}
use Rattle.port_core.specs.declared.view.OutView.TheVariants.{Available}
use Rattle.stream_model.specs.Outlook.{End, unended, ended, failed}
use Rattle.stream_model.specs.FanIn.{Tagged, Inflow, flow, pairs}
use Rattle.stream_model.proofs.Compositions.{same_number}
use Rattle.stage_core.specs.Fans.{FanKept, FanKeeps, UsesInputs, used, fan_gives}
use Rattle.stage_core.specs.Held.{told}
use Rattle.stage_core.specs.Inflows.{nothing_came, joined_at, joined, joined_all}
use Rattle.stage_core.specs.declared.phase.Phase.{Phase}
use Rattle.stage_core.specs.declared.phase.Phase.TheVariants.{New, Open, Closed}
use Rattle.stage_in.specs.declared.logic.InLogic.{InLogic}
use Rattle.stage_in.specs.declared.logic.InLogic.TheVariants as logic
use Rattle.stage_in.specs.Kinds.{taking_by, sorting}
use Rattle.stage_core.specs.PortsLaws.{InPortsLaw}
use Rattle.stage_in.specs.Logics.{InPortState, InLaw}
use Rattle.stage_in.specs.Pairings.{Pairing, inlet_view, inlet_flow, pair_view, port_state_by}
use Rattle.stage_core.specs.Seats.{wish, InsClosed}
use Rattle.stage_in.specs.Seats.{seat, seats, none_of}
use Rattle.stage_in.specs.Sortings as sorted
use Rattle.stage_in.specs.Takings as taking
use Rattle.stage_in.specs.Takings.{Taking, InOrder}
use Rattle.run_laws.specs.Items.{list_of}
use Rattle.run_laws.proofs.Coming.{elements_told}
use Rattle.run_laws.proofs.Histories.{list_of_told, begun}
use Rattle.run_laws.proofs.Flows.{Flows, law_flows, flow_count, done_same}

-- an input of one that has closed its ports does not wait
pub closed_wait : (xs : List InView) (p : ℕ) → InsClosed xs → slice_index_or xs p Cancelled ≡ Pulled → ⊥
closed_wait [] p c e = cc
closed_wait (Idle ∷ xs) p c e = c.0
closed_wait (Pulled ∷ xs) p c e = c.0
closed_wait (Finished ∷ xs) zero c e = cc
closed_wait (Cancelled ∷ xs) zero c e = cc
closed_wait (Finished ∷ xs) (suc p) c e = closed_wait xs p c.1 e
closed_wait (Cancelled ∷ xs) (suc p) c e = closed_wait xs p c.1 e

seat_waiting : (b x asked : Bool) → seat b x asked ≡ Pulled → (asked ≡ true) × (x ≡ true)
seat_waiting true x asked e = cc
seat_waiting false true true e = (refl, refl)
seat_waiting false true false e = cc
seat_waiting false false asked e = cc

-- of those of which one is asked, that one waits
seats_waiting : (n c p : ℕ) (over : List Bool) (asked : Bool) → slice_index_or (seats n over c asked) p Cancelled ≡ Pulled → (asked ≡ true) × (n + p ≡ c)
seats_waiting n c p [] asked e = cc
seats_waiting n c zero (b ∷ over) asked e =
    let r = seat_waiting b (n == c) asked e in
    let same = same_number n c r.1 in
    (r.0, omega (arith, same))
seats_waiting n c (suc p) (b ∷ over) asked e =
    let r = seats_waiting (n + 1) c p over asked e in
    let same = r.1 in
    (r.0, omega (arith, same))

pub seat_left : (b x asked : Bool) → seat b x asked ≢ Cancelled
seat_left true x asked = λ e. cc
seat_left false true true = λ e. cc
seat_left false true false = λ e. cc
seat_left false false asked = λ e. cc

-- none of them is cancelled
pub seats_left : (n c p : ℕ) (over : List Bool) (asked : Bool) → p < length (seats n over c asked) → slice_index_or (seats n over c asked) p Cancelled ≢ Cancelled
seats_left n c p [] asked l = absurd (omega (arith, l))
seats_left n c zero (b ∷ over) asked l = seat_left b (n == c) asked
seats_left n c (suc p) (b ∷ over) asked l = seats_left (n + 1) c p over asked (omega (arith, l))

-- how many elements were given
pub given_count : {K : List Inflow → List Tree → End → Type 0} {v : port.View} {took gave : List (List Item)} → (law : InPortsLaw K v took gave) → elements (slice_index_or gave 0 []) ≡ length law.law.out_list
given_count law = ap (λ (hs : List (List Item)). elements (slice_index_or hs 0 [])) law.gave_is ∙ ap elements law.law.gave_is ∙ elements_told law.law.out_list law.law.out_end

-- ---- a concat or an interleave

-- it waited at input p alone, its output was asked, and all that came was given
pub record Turn (segment : Option ℕ) (p : ℕ) (v : port.View) (had given : List (List Item)) : Type 0 where
  pub over : List Bool
  pub flows : List Inflow
  pub used : List Tagged
  pub ins : v.ins ≡ seats 0 over p true
  pub asked : out_at v 0 ≡ Available
  pub came : Flows v.ins had flows
  pub uses : UsesInputs 0 used (none_of over) flows
  pub order : InOrder segment over p
  pub count : elements (slice_index_or given 0 []) ≡ length used

taking_turn : (first l : Taking) (v : port.View) (had given : List (List Item)) (p : ℕ) → taking.port_state l v → InLaw (logic.Taking first) (logic.Taking l) v had given → in_at v p ≡ Pulled → Turn first.segment p v had given
taking_turn first l v had given p r law waits = by l.live refl r
  where
    by : (b : Bool) → l.live ≡ b → taking.port_state_by b l v → Turn first.segment p v had given
    by false e r = absurd (closed_wait v.ins p r.0 waits)
    by true e r =
        let ins : v.ins ≡ seats 0 l.over l.current l.asked = ap (λ (w : port.View). w.ins) r.0 in
        let outs : v.outs ≡ wish l.asked ∷ [] = ap (λ (w : port.View). w.outs) r.0 in
        let s = seats_waiting 0 l.current p l.over l.asked (ap (λ (xs : List InView). slice_index_or xs p Cancelled) (sym ins) ∙ waits) in
        let here : p ≡ l.current = let z = s.1 in omega (arith, z) in
        let keeps = subst (λ x. FanKeeps (taking_by first.segment) (taking.place_of first) (taking.held_by x (taking.place_of l) l.over) law.by.law.ins law.by.law.out_list law.by.law.out_end) e law.by.law.keeps in
        record {
          over = l.over;
          flows = law.by.law.ins;
          used = keeps.1.given;
          ins = ins ∙ (ap (λ c. seats 0 l.over c l.asked) (sym here) ∙ ap (λ a. seats 0 l.over p a) s.0);
          asked = ap (λ (w : port.View). out_at w 0) r.0 ∙ ap wish s.0;
          came = law_flows (FanKeeps (taking_by first.segment) (taking.place_of first) (taking.held l)) v had given law.by;
          uses = keeps.1.uses;
          order = subst (λ c. InOrder first.segment l.over c) (sym here) (subst (λ x. InOrder x l.over l.current) law.same r.1.order);
          count = given_count law.by ∙ (ap length keeps.1.gave_is ∙ length-map keeps.1.given (λ (x : Tagged). x.item));
        }

pub turn_of : (first : Taking) (old : InLogic) (v : port.View) (had given : List (List Item)) (p : ℕ) → InPortState old v → InLaw (logic.Taking first) old v had given → in_at v p ≡ Pulled → Turn first.segment p v had given
turn_of first (logic.Taking l) v had given p r law waits = taking_turn first l v had given p r.ports law waits
turn_of first (logic.Sorting l) v had given p r law waits = absurd law.same
turn_of first (logic.Zipping l) v had given p r law waits = absurd law.same
turn_of first (logic.Merging l) v had given p r law waits = absurd law.same

-- ---- a merge_sorted or a zip

-- an input that waits holds nothing
inlet_empty : (h : Option Tree) (o : Bool) → inlet_view (record { held = h; over = o }) ≡ Pulled → option_to_list h ≡ []
inlet_empty None o e = refl
inlet_empty (Some t) true e = cc
inlet_empty (Some t) false e = cc

-- it was open, and nothing of input p waits
pub record Waits (l : Pairing) (p : ℕ) : Type 0 where
  pub is_open : l.phase ≡ Open
  pub empty : ((p ≡ 0) × (option_to_list l.left.held ≡ [])) ⊎ ((p ≡ 1) × (option_to_list l.right.held ≡ []))

pub pair_waits : (Sound : Pairing → Type 0) (l : Pairing) (v : port.View) (p : ℕ) → (l.phase ≡ New → ⊥) → port_state_by Sound l.phase l v → in_at v p ≡ Pulled → Waits l p
pair_waits Sound l v p started r waits = by l.phase refl r
  where
    at : (q : ℕ) → in_at (pair_view l) q ≡ Pulled → ((q ≡ 0) × (option_to_list l.left.held ≡ [])) ⊎ ((q ≡ 1) × (option_to_list l.right.held ≡ []))
    at zero e = inl (refl, inlet_empty l.left.held l.left.over e)
    at (suc zero) e = inr (refl, inlet_empty l.right.held l.right.over e)
    at (suc (suc q)) e = cc

    by : (x : Phase) → l.phase ≡ x → port_state_by Sound x l v → Waits l p
    by New e r = absurd (started e)
    by Closed e r = absurd (closed_wait v.ins p r.0 waits)
    by Open e r = record { is_open = e; empty = at p (ap (λ (w : port.View). in_at w p) (sym r.0) ∙ waits) }

-- a flow that came in two parts
grown_flow : (f y : Inflow) (h s : List Item) → h ≡ told f.list f.end → s ≡ told y.list y.end → IsPrefix h s → (r : Inflow) × (joined f r ≡ y)
grown_flow f y h s a b p = by f.end refl
  where
    done : f.end ≢ unended → y ≡ f
    done n = let d = done_same f y h s a b p n in ap (λ (l : List Tree). record { list = l; end = y.end }) d.0 ∙ ap (λ (e : End). record { list = f.list; end = e }) d.1

    by : (e : End) → f.end ≡ e → (r : Inflow) × (joined f r ≡ y)
    by unended e =
        let part : IsPrefix f.list y.list = subst (λ (l : List Tree). IsPrefix f.list l) (ap list_of b ∙ list_of_told y.list y.end) (begun f.list f.end h s a p).part in
        (record { list = part.rest; end = y.end }, ap (λ (x : End). joined_at x f.list (record { list = part.rest; end = y.end })) e ∙ ap (λ (l : List Tree). record { list = l; end = y.end }) (sym part.is))
    by ended e = (nothing_came, ap (λ (x : End). joined_at x f.list nothing_came) e ∙ (ap (λ (x : End). record { list = f.list; end = x }) (sym e) ∙ sym (done (λ x. let z : ended ≡ unended = sym e ∙ x in cc))))
    by (failed c) e = (nothing_came, ap (λ (x : End). joined_at x f.list nothing_came) e ∙ (ap (λ (x : End). record { list = f.list; end = x }) (sym e) ∙ sym (done (λ x. let z : failed c ≡ unended = sym e ∙ x in cc))))

-- what comes to two inputs
abbrev two_more : Inflow → Inflow → ℕ → Inflow
two_more a b zero = a
two_more a b (suc n) = b

-- Two inputs, what came to them then and now; what was used then begins what is used of all, and of input p all that had come was.
pub record Merge (p : ℕ) (all : List Tagged) (had : List (List Item)) (given : List (List Item)) : Type 0 where
  pub given_used : List Tagged
  pub part : IsPrefix given_used all
  pub count : elements (slice_index_or given 0 []) ≡ length given_used
  pub whole : elements (slice_index_or had p []) ≡ used p given_used

module _ (first l : Pairing) (v : port.View) (had given : List (List Item)) (p : ℕ) (waits : Waits l p) (law : InLaw (logic.Sorting first) (logic.Sorting l) v had given) where
  pub merged : (a b c d : Inflow) (h k s t : List Item) → law.by.law.ins ≡ a ∷ b ∷ [] → had ≡ h ∷ k ∷ [] → h ≡ told a.list a.end → k ≡ told b.list b.end → s ≡ told c.list c.end → t ≡ told d.list d.end → IsPrefix h s → IsPrefix k t
      → Merge p (sorting.from sorted.nowhere (map flow (c ∷ d ∷ []))) had given
  merged a b c d h k s t ins had_is ha kb sc td hs kt =
      let keeps = subst (λ x. FanKeeps sorting sorted.nowhere (sorted.held_by x l) law.by.law.ins law.by.law.out_list law.by.law.out_end) waits.is_open law.by.law.keeps in
      let kept : FanKept sorting sorted.nowhere sorted.nowhere (inlet_flow l.left ∷ inlet_flow l.right ∷ []) law.by.law.ins law.by.law.out_list = keeps.1 in
      let r = grown_flow a c h s ha sc hs in
      let q = grown_flow b d k t kb td kt in
      let more = two_more r.0 q.0 in
      let whole_now : joined_all 0 (a ∷ b ∷ []) more ≡ c ∷ d ∷ [] = ap (λ (x : Inflow). x ∷ joined b q.0 ∷ []) r.1 ∙ ap (λ (x : Inflow). c ∷ x ∷ []) q.1 in
      let gives = ap (λ (fs : List Inflow). fan_gives sorting sorted.nowhere (joined_all 0 fs more)) (sym ins) ∙ kept.rest more in
      let uses = subst (λ (fs : List Inflow). UsesInputs 0 kept.given (inlet_flow l.left ∷ inlet_flow l.right ∷ []) fs) ins kept.uses in
      record {
        given_used = kept.given;
        part = record { rest = _; is = ap (λ (fs : List Inflow). fan_gives sorting sorted.nowhere fs) (sym whole_now) ∙ gives };
        count = given_count law.by ∙ (ap length kept.gave_is ∙ length-map kept.given (λ (x : Tagged). x.item));
        whole = all_used kept.given uses waits.empty;
      }
    where
      at_port : (q : ℕ) (x : List Item) → p ≡ q → slice_index_or (h ∷ k ∷ []) q [] ≡ x → elements (slice_index_or had p []) ≡ elements x
      at_port q x e y = ap elements (ap (λ (hs : List (List Item)). slice_index_or hs p []) had_is ∙ (ap (λ n. slice_index_or (h ∷ k ∷ []) n []) e ∙ y))

      all_used : (g : List Tagged) → UsesInputs 0 g (inlet_flow l.left ∷ inlet_flow l.right ∷ []) (a ∷ b ∷ []) → ((p ≡ 0) × (option_to_list l.left.held ≡ [])) ⊎ ((p ≡ 1) × (option_to_list l.right.held ≡ [])) → elements (slice_index_or had p []) ≡ used p g
      all_used g u (inl e) =
          let here = at_port 0 h e.0 refl in
          let count = flow_count a ha in
          let none = ap length e.1 in
          let sum = u.0.0 in
          let is : used p g ≡ used 0 g = ap (λ n. used n g) e.0 in
          omega (arith, here, count, none, sum, is)
      all_used g u (inr e) =
          let here = at_port 1 k e.0 refl in
          let count = flow_count b kb in
          let none = ap length e.1 in
          let sum = u.1.0.0 in
          let is : used p g ≡ used 1 g = ap (λ n. used n g) e.0 in
          omega (arith, here, count, none, sum, is)

-- a zip gave a pair for each element that had come there
pub length-pairs : (xs ys : List Tree) → length xs ≡ length ys → length (pairs xs ys) ≡ length xs
length-pairs [] [] h = refl
length-pairs [] (y ∷ ys) h = absurd (omega (arith, h))
length-pairs (x ∷ xs) [] h = absurd (omega (arith, h))
length-pairs (x ∷ xs) (y ∷ ys) h = ap suc (length-pairs xs ys (omega (arith, h)))
