-- What a stage that follows moves gave agrees with the outlook by all its moves.
use Rattle.std.specs.Prelude.{Option, None, Some}
use Rattle.std.proofs.Common.{◌≡◌, ℕ, zero, suc, ◌+◌, ◌≤◌, Bool, true, false, List, [], ◌∷◌, ◌++◌, length, refl, sym, ap, ◌∙◌, subst, arith, length-append, inl, inr, ◌⊎◌}
use Rattle.elem_core.specs.Tree.{Tree}
use Rattle.elem_core.specs.declared.item.Item.{Item}
use Rattle.port_core.specs.View.{View}
use Rattle.port_core.specs.Picks.{IsMove, next_move, plan_of}
use Rattle.stream_model.specs.Outlook.{Outlook, End, unended, ended, failed, Agrees}
use Rattle.stream_model.specs.FanIn.{Inflow, AllAgree}
use Rattle.stream_model.specs.Picks.{acted, valve_outlook, merge_fits, MergeStands, softened_by, gathered_by, balance_fits, balance_outlook, recover_fits, recover_outlook, buffer_fits, buffer_outlook}
use Rattle.stage_switch.specs.Valves.{ValveStandsOf}
use Rattle.stage_switch.specs.States.{Valve, moves_by, counted_next, SeatBy}
use Rattle.stage_switch.specs.Handling.{ValveAs}
use Rattle.stage_switch.proofs.Following.{two_ahead}
use Rattle.stage_switch.proofs.Outlooks as valves
use Rattle.stage_merge.specs.Mergings.{Merging, MergesAs}
use Rattle.stage_merge.proofs.MergeNodes as merges
use Rattle.stage_dropping.specs.Droppings.{Dropping, DropsAs}
use Rattle.stage_dropping.specs.Drops.{DropStandsOf}
use Rattle.stage_dropping.proofs.DropNodes as drops
use Rattle.stage_dropping.specs.Recoverings.{Recover, RecoversAs}
use Rattle.stage_dropping.specs.Recovers.{RecoverStandsOf}
use Rattle.stage_dropping.proofs.RecoverNodes as recovers
use Rattle.stage_out.specs.Dealings.{DealStands}
use Rattle.stage_out.specs.Balancings.{Balancing, lacks, BalancesAs}
use Rattle.stage_out.proofs.BalanceNodes as balances
use Rattle.plan_laws.specs.Sure.{AllSure, HeldTo}
use Rattle.plan_laws.proofs.Serving.{merge_serves, balance_serves, dealt_serves}
use Rattle.plan_laws.proofs.Hubs.{hub_serves}
use Rattle.plan_laws.proofs.Recovers.{recover_serves}
use Rattle.plan_laws.proofs.Buffers.{buffer_serves}
use Rattle.plan_laws.proofs.Valves.{valve_serves}

-- the moves that were made are the first of a plan
pub made_first : (moves : List ℕ) (left : Option (List ℕ)) (plan : List ℕ) → plan_of moves left ≡ Some plan → (rest : List ℕ) × (moves ++ rest ≡ plan)
made_first moves None plan e = cc
made_first moves (Some rest) plan e = (rest, cc)

-- ---- a merge, and one that gathers

by_way : (b : Bool) (made rest : List ℕ) (os : List Outlook) (ins : List Inflow) (g : List Tree) (e : End) → merge_fits (made ++ rest) os ≡ true → AllSure os → AllAgree os ins → MergeStands made (softened_by b ins) g e
    → Agrees (gathered_by b (made ++ rest) os) g e
by_way false made rest os ins g e fits sure a s = merge_serves made rest os ins g e fits sure a s
by_way true made rest os ins g e fits sure a s = hub_serves made rest os ins g fits sure a e s

pub merge_follows_its_plan : (first now : Merging) (v : View) (took gave : List (List Item)) → (law : MergesAs first now v took gave) → (plan : List ℕ) → first.log.left ≡ Some plan
    → (os : List Outlook) → merge_fits plan os ≡ true → AllSure os → AllAgree os law.by.law.ins → Agrees (gathered_by first.gathers plan os) law.by.law.out_list law.by.law.out_end
merge_follows_its_plan first now v took gave law plan is os fits sure a =
    let l = law.by.law in
    let r = made_first now.log.moves now.log.left plan (merges.plan_begins first now v took gave law ∙ is) in
    subst (λ (ms : List ℕ). Agrees (gathered_by first.gathers ms os) l.out_list l.out_end) r.1
    (by_way first.gathers now.log.moves r.0 os l.ins l.out_list l.out_end (subst (λ (ms : List ℕ). merge_fits ms os ≡ true) (sym r.1) fits) sure a (merges.law_stands first now v took gave law))

-- ---- a balance

-- one of its outputs that lacks nothing stands as that of one that chooses, and one that may lack elements was given no end
deal_serves : (lack : Bool) (n i : ℕ) (made rest : List ℕ) (o : Outlook) (f : Inflow) (g : List Tree) (e : End) → balance_fits n (made ++ rest) o ≡ true → o.fails ≡ [] → Agrees o f.list f.end → DealStands lack made i f g e
    → Agrees (balance_outlook (made ++ rest) o i) g e
deal_serves false n i made rest o f g e fits sure a s = balance_serves n i made rest o f g e fits sure a (record { taken = s.taken; gave = s.whole refl; ends = s.ends; fails = s.fails })
deal_serves true n i made rest o f g unended fits sure a s = dealt_serves i made rest o f g a s.taken s.part
deal_serves true n i made rest o f g ended fits sure a s = let no : true ≡ false = s.closed (λ z. let q : ended ≡ unended = z in cc) in absurd cc
deal_serves true n i made rest o f g (failed c) fits sure a s = let no : true ≡ false = s.closed (λ z. let q : failed c ≡ unended = z in cc) in absurd cc

pub balance_follows_its_plan : (first now : Balancing) (v : View) (took gave : List (List Item)) → (law : BalancesAs first now v took gave) → (plan : List ℕ) → first.log.left ≡ Some plan
    → (n : ℕ) (o : Outlook) → balance_fits n plan o ≡ true → o.fails ≡ [] → Agrees o law.law.flow.list law.law.flow.end → (j : ℕ) → Agrees (balance_outlook plan o j) (law.law.lists j) (law.law.ends j)
balance_follows_its_plan first now v took gave law plan is n o fits sure a j =
    let r = made_first now.log.moves now.log.left plan (balances.plan_begins first now v took gave law ∙ is) in
    subst (λ (ms : List ℕ). Agrees (balance_outlook ms o j) (law.law.lists j) (law.law.ends j)) r.1
    (deal_serves (lacks now.log.left now.core.outs j) n j now.log.moves r.0 o law.law.flow (law.law.lists j) (law.law.ends j) (subst (λ (ms : List ℕ). balance_fits n ms o ≡ true) (sym r.1) fits) sure a (balances.stands first now v took gave law j))

-- ---- a recover

pub recover_follows_its_plan : (first now : Recover) (v : View) (took gave : List (List Item)) → (law : RecoversAs first now v took gave) → (plan : List ℕ) → first.left ≡ Some plan
    → (o : Outlook) → recover_fits plan o ≡ true → o.fails ≡ [] → AllAgree (o ∷ []) law.by.law.ins → Agrees (recover_outlook law.element plan o) law.by.law.out_list law.by.law.out_end
recover_follows_its_plan first now v took gave law plan is o fits sure a = by_ins law.by.law.ins a (recovers.stands first now v took gave law)
  where
    by_ins : (ins : List Inflow) → AllAgree (o ∷ []) ins → RecoverStandsOf law.element now.moves ins law.by.law.out_list law.by.law.out_end → Agrees (recover_outlook law.element plan o) law.by.law.out_list law.by.law.out_end
    by_ins [] a s = absurd s
    by_ins (f ∷ h ∷ fs) a s = absurd s
    by_ins (f ∷ []) a s =
        let r = made_first now.moves now.left plan (recovers.plan_begins first now v took gave law ∙ is) in
        subst (λ (ms : List ℕ). Agrees (recover_outlook law.element ms o) law.by.law.out_list law.by.law.out_end) r.1
        (recover_serves law.element now.moves r.0 o f law.by.law.out_list law.by.law.out_end (subst (λ (ms : List ℕ). recover_fits ms o ≡ true) (sym r.1) fits) sure a.0 s.1)

-- ---- a buffer that drops

pub buffer_follows_its_plan : (first now : Dropping) (v : View) (took gave : List (List Item)) → (law : DropsAs first now v took gave) → (plan : List ℕ) → first.log.left ≡ Some plan
    → (o : Outlook) → buffer_fits first.policy first.size plan o ≡ true → o.fails ≡ [] → (buffer_outlook first.node first.policy first.size plan o).fails ≡ [] → AllAgree (o ∷ []) law.by.law.ins
    → Agrees (buffer_outlook first.node first.policy first.size plan o) law.by.law.out_list law.by.law.out_end
buffer_follows_its_plan first now v took gave law plan is o fits sure calm a = by_ins law.by.law.ins a (drops.stands first now v took gave law)
  where
    by_ins : (ins : List Inflow) → AllAgree (o ∷ []) ins → DropStandsOf first.node first.policy first.size now.log.moves ins law.by.law.out_list law.by.law.out_end
        → Agrees (buffer_outlook first.node first.policy first.size plan o) law.by.law.out_list law.by.law.out_end
    by_ins [] a s = absurd s
    by_ins (f ∷ h ∷ fs) a s = absurd s
    by_ins (f ∷ []) a s =
        let r = made_first now.log.moves now.log.left plan (drops.plan_begins first now v took gave law ∙ is) in
        subst (λ (ms : List ℕ). Agrees (buffer_outlook first.node first.policy first.size ms o) law.by.law.out_list law.by.law.out_end) r.1
        (buffer_serves first.node first.policy first.size now.log.moves r.0 o f law.by.law.out_list law.by.law.out_end (subst (λ (ms : List ℕ). buffer_fits first.policy first.size ms o ≡ true) (sym r.1) fits) sure
        (subst (λ (ms : List ℕ). (buffer_outlook first.node first.policy first.size ms o).fails ≡ []) (sym r.1) calm) a.0 s)

-- ---- a valve

-- one that is to act gave no end, and no more than is to pass before
held_by : (rest : List ℕ) (g : List Tree) (e : End) → rest ≡ moves_by (acted rest) → (e ≡ unended) × (length g ≤ counted_next (Some rest)) → HeldTo (acted rest) g e
held_by [] g e f h = tt
held_by (m ∷ []) g e f h = let two = two_ahead m [] f in let z = two.is in cc
held_by (zero ∷ k ∷ l) g e f h = let two = two_ahead zero (k ∷ l) f in let z = two.order in cc
held_by (suc zero ∷ k ∷ []) g e f h = h
held_by (suc (suc zero) ∷ k ∷ []) g e f h = h
held_by (suc zero ∷ k ∷ i ∷ l) g e f h = let two = two_ahead (suc zero) (k ∷ i ∷ l) f in let z = two.is in cc
held_by (suc (suc zero) ∷ k ∷ i ∷ l) g e f h = let two = two_ahead (suc (suc zero)) (k ∷ i ∷ l) f in let z = two.is in cc
held_by (suc (suc (suc n)) ∷ k ∷ l) g e f h = let two = two_ahead (suc (suc (suc n))) (k ∷ l) f in let z = two.order in cc

-- moves that are all of a plan leave none
none_behind : (moves rest plan : List ℕ) → moves ++ rest ≡ plan → moves ≡ plan → rest ≡ []
none_behind moves rest plan all same = by_rest rest refl
  where
    by_rest : (r : List ℕ) → rest ≡ r → rest ≡ []
    by_rest [] e = e
    by_rest (j ∷ r) e =
        let a = length-append moves rest in
        let b : length (moves ++ rest) ≡ length moves = ap length (all ∙ sym same) in
        let c : length rest ≡ length (j ∷ r) = ap length e in
        absurd (omega (arith, a, b, c))

module _ (first now : Valve) (v : View) (took gave : List (List Item)) (law : ValveAs first now v took gave) (plan : List ℕ) (formed : plan ≡ moves_by (acted plan)) (none : first.moves ≡ []) (follows : first.left ≡ Some plan) where
  -- those that it follows still
  abbrev rest : List ℕ
  rest = (valves.follows_still first now v took gave law plan none follows).0

  left_is : now.left ≡ Some rest
  left_is = (valves.follows_still first now v took gave law plan none follows).1.0

  all_is : now.moves ++ rest ≡ plan
  all_is = (valves.follows_still first now v took gave law plan none follows).1.1

  ahead : rest ≡ moves_by (acted rest)
  ahead = (subst (λ (o : Option (List ℕ)). SeatBy o now.switch now.seat now.moves) left_is law.valve).1.ahead

  -- what it gave while moves are left
  held_now : (r : List ℕ) → rest ≡ r → HeldTo (acted r) law.by.law.out_list law.by.law.out_end
  held_now [] e = tt
  held_now (j ∷ r) e =
      let left : now.left ≡ Some (j ∷ r) = left_is ∙ ap (λ (l : List ℕ). Some l) e in
      let move : IsMove (next_move now.left) = subst (λ (o : Option (List ℕ)). IsMove (next_move o)) (sym left) tt in
      let few = valves.follows_few first now v took gave law move in
      let bound : length law.by.law.out_list ≤ counted_next (Some (j ∷ r)) = subst (λ (o : Option (List ℕ)). length law.by.law.out_list ≤ counted_next o) left few.1 in
      held_by (j ∷ r) law.by.law.out_list law.by.law.out_end (subst (λ (l : List ℕ). l ≡ moves_by (acted l)) e ahead) (few.0, bound)

  -- none was made, or all
  by_moves : ((now.moves ≡ []) × HeldTo (acted rest) law.by.law.out_list law.by.law.out_end) ⊎ (rest ≡ [])
  by_moves = elim (valves.follows_whole first now v took gave law plan formed none follows) [
    | inl e ↦ inl (e, held_now rest refl)
    | inr e ↦ inr (none_behind now.moves rest plan all_is e)
  ]

  one_agrees : (o : Outlook) (ins : List Inflow) → AllAgree (o ∷ []) ins → ValveStandsOf first.node (acted now.moves) ins law.by.law.out_list law.by.law.out_end
      → Agrees (valve_outlook first.node plan o) law.by.law.out_list law.by.law.out_end
  one_agrees o [] a s = absurd s
  one_agrees o (f ∷ i ∷ fs) a s = absurd s
  one_agrees o (f ∷ []) a s =
      subst (λ (ms : List ℕ). Agrees (valve_outlook first.node ms o) law.by.law.out_list law.by.law.out_end) all_is
      (valve_serves first.node o f law.by.law.out_list a.0 now.moves rest law.by.law.out_end by_moves s)

  pub valve_follows_its_plan : (o : Outlook) → AllAgree (o ∷ []) law.by.law.ins → Agrees (valve_outlook first.node plan o) law.by.law.out_list law.by.law.out_end
  valve_follows_its_plan o a = one_agrees o law.by.law.ins a (valves.stands first now v took gave law)
