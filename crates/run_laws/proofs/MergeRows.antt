-- A merge in a picture: it gave an element for each of its moves, and of each input at most one more is asked for than its moves took there.
use Rattle.std.specs.Prelude.{slice_index_or, cond, ◌==◌}
use Rattle.std.proofs.Common.{◌≡◌, ℕ, zero, suc, ◌+◌, ◌≤◌, inl, inr, Bool, true, false, List, [], ◌∷◌, length, get_or, refl, sym, ap, subst, ◌∙◌, arith}
use Rattle.std.proofs.lemmas.List.{length-map}
use Rattle.std.proofs.lemmas.List.Sums.{sum_by-append}
use Rattle.elem_core.specs.Prefix.{IsPrefix}
use Rattle.elem_core.specs.Tree.{Tree}
use Rattle.elem_core.specs.Items.{elements}
use Rattle.elem_core.specs.declared.item.Item.{Item}
use Rattle.port_core.specs.View as port
use Rattle.port_core.specs.View.{in_at}
use Rattle.port_core.specs.declared.view.InView.{InView}
use Rattle.port_core.specs.declared.view.InView.TheVariants.{Pulled, Cancelled}
use Rattle.stream_model.specs.FanIn.{Tagged, Inflow, merge_of}
use Rattle.stream_model.specs.Picks.{count_of, MergeStands, softened_by}
use Rattle.stream_model.proofs.Fitting.{count_le}
use Rattle.stream_model.proofs.MergeTraces.{length-merge_of}
use Rattle.stream_model.specs.Lawful.{MergeLawful, MergeInputs}
use Rattle.stage_core.specs.Merges.{GathersAs, Merged, lists_of, left_by}
use Rattle.stage_core.proofs.MergeTurns.{soft_lists}
use Rattle.stage_core.specs.declared.phase.Phase.{Phase}
use Rattle.stage_core.specs.declared.phase.Phase.TheVariants.{New, Open, Closed}
use Rattle.stage_merge.specs.declared.merging.Queued.{Queued}
use Rattle.stage_merge.specs.Mergings as merging
use Rattle.stage_merge.specs.Mergings.{Merging, of_port, waiting, input_view, places}
use Rattle.stage_merge.proofs.MergeNodes.{law_stands}
use Rattle.stage_in.proofs.Nodes.{merge_law}
use Rattle.stage_merge.proofs.MergeRests.{count_left}
use Rattle.stage_in.specs.declared.logic.InLogic.{InLogic}
use Rattle.stage_in.specs.declared.logic.InLogic.TheVariants as logic
use Rattle.stage_in.specs.Logics.{InAsking, InPortState, InLaw}
use Rattle.stage_in.specs.Moves.{in_moves}
use Rattle.run_laws.specs.Account.{Earlier}
use Rattle.run_laws.specs.Ports.{InPort, OutPort, EachPort, InStands, OutStands, gots_of}
use Rattle.run_laws.proofs.Coming.{elements_told}
use Rattle.run_laws.proofs.Flows.{Flows, law_flows, flow_count}
use Rattle.run_laws.proofs.Orders.{Views, Wants, Wires}
use Rattle.run_laws.proofs.InMoments.{closed_wait}
use Rattle.run_laws.proofs.InRows.{InView_of, InMoments, one_list, some_or_none}

-- ---- how many moves an input has

-- they only grow
count_prefix : (n : ℕ) (a b : List ℕ) → IsPrefix a b → count_of n a ≤ count_of n b
count_prefix n a b p =
    let all = ap (count_of n) p.is in
    let sum = sum_by-append (λ j. cond (j == n) 1 0) a p.rest in
    omega (arith, all, sum)

-- ---- what came to an input

came_at : (xs : List InView) (hs : List (List Item)) (fs : List Inflow) (p : ℕ) → Flows xs hs fs → elements (slice_index_or hs p []) ≡ length (get_or (lists_of fs) p [])
came_at [] [] [] p w = refl
came_at [] [] (f ∷ fs) p w = absurd w
came_at [] (h ∷ hs) fs p w = absurd w
came_at (x ∷ xs) [] fs p w = absurd w
came_at (x ∷ xs) (h ∷ hs) [] p w = absurd w
came_at (x ∷ xs) (h ∷ hs) (f ∷ fs) zero w = flow_count f w.0.0
came_at (x ∷ xs) (h ∷ hs) (f ∷ fs) (suc p) w = came_at xs hs fs p w.1

place_empty : (b : Bool) (l : List Tree) → input_view b l ≡ Pulled → l ≡ []
place_empty true l e = cc
place_empty false [] e = refl
place_empty false (t ∷ l) e = cc

-- an input that waits holds nothing
waiting_none : (n p : ℕ) (over : List Bool) (q : List Queued) → slice_index_or (places n over q) p Cancelled ≡ Pulled → get_or (lists_of (waiting n over q)) p [] ≡ []
waiting_none n p [] q e = cc
waiting_none n zero (b ∷ over) q e = place_empty b (of_port n q) e
waiting_none n (suc p) (b ∷ over) q e = waiting_none (n + 1) p over q e

-- where an input waits all that came there went out
merge_whole : (first l : Merging) (v : port.View) (had given : List (List Item)) (p : ℕ) → l.log.stuck ≡ false → (l.core.phase ≡ New → ⊥) → merging.port_state l v → InLaw (logic.Merging first) (logic.Merging l) v had given → in_at v p ≡ Pulled
    → elements (slice_index_or had p []) ≡ count_of p l.log.moves
merge_whole first l v had given p calm started r law waits = by l.core.phase refl (subst (λ b. merging.port_state_in b l v) calm r)
  where
    by : (x : Phase) → l.core.phase ≡ x → merging.port_state_by x l.log.left l.core v → elements (slice_index_or had p []) ≡ count_of p l.log.moves
    by New e r = absurd (started e)
    by Closed e r = absurd (closed_wait v.ins p r.0 waits)
    by Open e r =
        let ins : List Inflow = softened_by first.gathers law.by.law.ins in
        let serves_on = subst (λ b. merging.KeepsAs first.gathers (merging.held_in b l) law.by.law.ins law.by.law.out_list law.by.law.out_end) calm law.by.law.keeps in
        let keeps = subst (λ x. GathersAs first.gathers (merging.held_by x l.log.moves l.core) law.by.law.ins law.by.law.out_list law.by.law.out_end) e serves_on in
        let m : Merged l.log.moves ins law.by.law.out_list (waiting 0 l.core.over l.core.queue) = keeps.1 in
        let count = count_left l.log.moves (lists_of ins) p m.finds in
        let none : get_or (left_by l.log.moves (lists_of ins)) p [] ≡ [] =
        ap (λ ls. get_or ls p []) m.left ∙ waiting_none 0 p l.core.over l.core.queue (ap (λ (w : port.View). in_at w p) (sym r.0) ∙ waits) in
        let empty : length (get_or (left_by l.log.moves (lists_of ins)) p []) ≡ 0 = ap length none in
        let came : elements (slice_index_or had p []) ≡ length (get_or (lists_of ins) p []) =
        came_at v.ins had law.by.law.ins p (law_flows (merging.KeepsAs first.gathers (merging.held l)) v had given law.by) ∙ ap (λ ls. length (get_or ls p [])) (sym (soft_lists first.gathers law.by.law.ins)) in
        omega (arith, count, empty, came)

-- ---- its row

-- of each input no more went out than came, and one more may be wanted
inputs_lawful : (moves : List ℕ) (n : ℕ) (is : List InPort) (fs : List Inflow) → Flows (Views is) (gots_of is) fs → EachPort InStands is → ((p : ℕ) → count_of (n + p) moves ≤ length (get_or (lists_of fs) p []))
    → ((p : ℕ) → slice_index_or (Wants is) p 0 ≤ count_of (n + p) moves + 1) → MergeInputs moves n (Wires is)
inputs_lawful moves n [] fs w s few ask = tt
inputs_lawful moves n (i ∷ is) [] w s few ask = absurd w
inputs_lawful moves n (i ∷ is) (f ∷ fs) w s few ask =
    let same : n + 0 ≡ n = omega arith in
    let most : count_of (n + 0) moves ≤ length f.list = few 0 in
    let here : count_of n moves ≤ length f.list = rw same at most in
    let wanted : i.want ≤ count_of (n + 0) moves + 1 = ask 0 in
    let one : i.want ≤ count_of n moves + 1 = rw same at wanted in
    let count = flow_count f w.0.0 in
    let came = s.0.came in
    let reach = s.0.reach in (
      (omega (arith, here, count, came), omega (arith, one, reach)),
      inputs_lawful moves (n + 1) is fs w.1 s.1 (λ p. let q : count_of (n + suc p) moves ≤ length (get_or (lists_of fs) p []) = few (suc p) in let d : n + suc p ≡ n + 1 + p = omega arith in rw d at q)
          (λ p. let q : slice_index_or (Wants is) p 0 ≤ count_of (n + suc p) moves + 1 = ask (suc p) in let d : n + suc p ≡ n + 1 + p = omega arith in rw d at q),
    )

module _ (first now : Merging) (is : List InPort) (o : OutPort) (law : InLaw (logic.Merging first) (logic.Merging now) (InView_of is o) (gots_of is) (o.sent ∷ [])) (stands : EachPort InStands is) (so : OutStands o) where
  abbrev ins : List Inflow
  ins = softened_by first.gathers law.by.law.ins

  gave : MergeStands now.log.moves ins law.by.law.out_list law.by.law.out_end
  gave = law_stands first now (InView_of is o) (gots_of is) (o.sent ∷ []) (merge_law first now (InView_of is o) (gots_of is) (o.sent ∷ []) law)

  asked : (p : ℕ) → Earlier InPortState InLaw InAsking in_moves p (logic.Merging first) (logic.Merging now) (gots_of is) (o.sent ∷ []) (Wants is) (o.want ∷ []) (o.wire.shut ∷ []) → slice_index_or (Wants is) p 0 ≤ count_of p now.log.moves + 1
  asked p e = by e.old e.port_state_held e.law_held e.asking_held e.moves_on
    where
      by : (old : InLogic) → InPortState old e.knew → InLaw (logic.Merging first) old e.knew e.had e.given → InAsking old e.knew → IsPrefix (in_moves old) now.log.moves → slice_index_or (Wants is) p 0 ≤ count_of p now.log.moves + 1
      by (logic.Taking l) r law calm on = absurd law.same
      by (logic.Sorting l) r law calm on = absurd law.same
      by (logic.Zipping l) r law calm on = absurd law.same
      by (logic.Merging l) r law calm on =
          let whole = merge_whole first l e.knew e.had e.given p calm r.started r.ports law e.waited in
          let one = e.one_more in
          let grown = count_prefix p l.log.moves now.log.moves on in
          omega (arith, whole, one, grown)

  wanted_few : InMoments (logic.Merging first) (logic.Merging now) is o → (p : ℕ) → slice_index_or (Wants is) p 0 ≤ count_of p now.log.moves + 1
  wanted_few moments p = elim (some_or_none (slice_index_or (Wants is) p 0)) [
    | inl none ↦ omega (arith, none)
    | inr some ↦ asked p (moments p some).0
  ]

  pub merge_lawful : InMoments (logic.Merging first) (logic.Merging now) is o → MergeLawful now.log.moves (Wires is) o.wire
  merge_lawful moments = (
    so.count ∙ ap elements (one_list o.sent law.by.given law.by.gave_is ∙ law.by.law.gave_is) ∙ elements_told law.by.law.out_list law.by.law.out_end ∙ ap length gave.gave
        ∙ length-map (merge_of now.log.moves (lists_of ins)) (λ (x : Tagged). x.item) ∙ length-merge_of now.log.moves (lists_of ins) gave.finds,
    inputs_lawful now.log.moves 0 is law.by.law.ins (law_flows (merging.KeepsAs first.gathers (merging.held now)) (InView_of is o) (gots_of is) (o.sent ∷ []) law.by) stands
        (λ p. let e : 0 + p ≡ p = omega arith in rw e (subst (λ ls. count_of p now.log.moves ≤ length (get_or ls p [])) (soft_lists first.gathers law.by.law.ins) (count_le now.log.moves (lists_of ins) p gave.finds))) (λ p. let e : 0 + p ≡ p = omega arith in rw e (wanted_few moments p)),
  )
