-- What a node made of the moves that it follows: the first of them, and a valve and a recover all of them or none; and where it cannot make
-- the next, why, by any outlooks with which what came to it agrees.
use Rattle.std.specs.Prelude.{slice_get}
use Rattle.std.specs.Option.{unwrap_or}
use Rattle.std.proofs.Common.{◌≡◌, ◌⊎◌, inl, inr, ◌∙◌, ℕ, zero, suc, ◌+◌, ◌≤◌, Bool, true, false, List, [], ◌∷◌, ◌++◌, length, Option, Some, None, refl, sym, ap, subst, arith, length-append, append-nil}
use Rattle.elem_core.specs.Prefix.{IsPrefix}
use Rattle.elem_core.specs.Tree.{Tree}
use Rattle.elem_core.specs.declared.item.Item.{Item}
use Rattle.port_core.specs.View.{View, unpulled_ports}
use Rattle.port_core.specs.Picks.{next_move, plan_of, misfit_by}
use Rattle.stream_io.specs.State.{SourceState, DrainState}
use Rattle.stream_model.specs.declared.kind.Kind.{Kind}
use Rattle.stream_model.specs.declared.kind.Kind.TheVariants as kind
use Rattle.stream_model.specs.declared.kind.Policy.{Policy}
use Rattle.stream_model.specs.declared.kind.Policy.TheVariants.{Backpressure, DropHead, DropTail, DropBuffer, DropNew, Fail}
use Rattle.stream_model.specs.Graph.{Graph}
use Rattle.stream_model.specs.Graph as graph
use Rattle.stream_model.specs.Linear.{Role, role_of}
use Rattle.stream_model.specs.Linear as role
use Rattle.stream_model.specs.Node.{World}
use Rattle.stream_model.specs.Outlook.{Outlook}
use Rattle.stream_model.specs.Picks.{Acted, untouched, completed, aborted, acted}
use Rattle.stage_in.specs.declared.logic.InLogic.{InLogic}
use Rattle.stage_in.specs.declared.logic.InLogic.TheVariants as fan_in
use Rattle.stage_in.specs.Logics as in_logics
use Rattle.stage_in.specs.Logics.{TakesAs, InLaw}
use Rattle.stage_in.specs.Moves.{in_moves, in_misfit, in_plan}
use Rattle.stage_merge.specs.Rows.{MergeMisfits}
use Rattle.stage_out.specs.declared.logic.OutLogic.{OutLogic}
use Rattle.stage_out.specs.declared.logic.OutLogic.TheVariants as fan_out
use Rattle.stage_out.specs.OutLogics as out_logics
use Rattle.stage_out.specs.OutLogics.{BeginsBalance, OutLaw}
use Rattle.stage_out.specs.Balancings.{Balancing, BalancesAs}
use Rattle.stage_out.specs.Moves.{out_moves, out_misfit, out_plan}
use Rattle.stage_out.proofs.BalanceNodes as balances
use Rattle.stage_dropping.specs.Drops.{DropMisfits}
use Rattle.stage_dropping.specs.Droppings as drop
use Rattle.stage_dropping.specs.Droppings.{DropsAs, DropPortState}
use Rattle.stage_dropping.specs.Recovers.{RecoverCause}
use Rattle.stage_dropping.specs.Recoverings as recover
use Rattle.stage_dropping.specs.Recoverings.{Recover, Ahead, RecoverFresh}
use Rattle.stage_core.specs.declared.phase.Phase.{Phase}
use Rattle.stage_switch.specs.States.{Valve, SeatBy, Unmoved, moves_by}
use Rattle.stage_switch.specs.Handling.{ValveFresh}
use Rattle.stage_state.specs.declared.logic.StateLogic.{StateLogic}
use Rattle.stage_state.specs.declared.logic.StateLogic.TheVariants.{Machine, Dropping, Recovering, Obeying, Tripping}
use Rattle.stage_state.specs.Handling.{StatePortState, StateLaw}
use Rattle.stage_state.specs.Moves.{state_moves, state_misfit, state_plan}
use Rattle.line_chain.specs.Line.{Line, line_whole, line_rest, line_is_open}
use Rattle.stage_sub.specs.Handling.{IsSub}
use Rattle.stage_sub.specs.KeptSubs.{opening_of}
use Rattle.stage_sub.specs.Leds as subs
use Rattle.stage_sub.specs.Leds.{Led, sub_plan, misfit_at, sub_misfit}
use Rattle.stage_sub.specs.LedLaws.{SubsLaw}
use Rattle.nodes.specs.declared.node.IslandNode.{IslandNode}
use Rattle.nodes.specs.declared.node.IslandNode.TheVariants as node
use Rattle.nodes.specs.Nodes.{node_port_state, node_law, node_moves, node_misfit, node_plan}
use Rattle.fused_net.proofs.Reading.{some_same}
use Rattle.run_laws.specs.Account.{Account, knows, took, gave}
use Rattle.run_laws.specs.Items.{AllMayPass}
use Rattle.run_laws.specs.Made.{FirstOf, FirstState, FirstSub}
use Rattle.run_laws.specs.Pictures.{AllAgreeWith}
use Rattle.run_laws.specs.Replayed.{Plans, left, IsAtOnce, BalanceCause, SubsCause, RoleMisfits, MisfitsOver}
use Rattle.run_laws.specs.Runs.{IsRun}
use Rattle.run_laws.specs.Telling.{FollowsPlans, TellsMoves, TellsPicks}
use Rattle.run_laws.proofs.Freely.{left_is}
use Rattle.run_laws.proofs.LedSubs.{some_followed, moves_of, moves_are, led_stops, cause_role}
use Rattle.run_laws.proofs.Misfits.{ins_stop, states_stop}
use Rattle.run_laws.proofs.OutlookAgreeing.{came_of}
use Rattle.run_laws.proofs.StateChoices.{DropsFirst, drops_first, recovers_first}
use Rattle.run_laws.proofs.StateSwitches.{ValveFirst, valve_first}
use Rattle.run_laws.proofs.Subs.{yields_of}
use Rattle.run_laws.proofs.SwitchRows.{order_cause}

-- ---- what was made of a plan

-- the moves that were made are the first of those that are followed
begins_plan : (moves plan : List ℕ) (rest : Option (List ℕ)) → plan_of moves rest ≡ Some plan → IsPrefix moves plan
begins_plan moves plan None e = absurd cc
begins_plan moves plan (Some l) e = record { rest = l; is = some_list e }
  where
    some_list : {x y : List ℕ} → Some x ≡ Some y → y ≡ x
    some_list h = cc

nothing_left : (l : List ℕ) → length l ≡ 0 → l ≡ []
nothing_left [] e = refl
nothing_left (m ∷ l) e = absurd (omega (arith, e))

-- of a plan of n moves at most of which none or n were made, none or all were made
whole_or_none : (n : ℕ) (moves rest plan : List ℕ) → plan ≡ moves ++ rest → length plan ≤ n → (length moves ≡ 0) ⊎ (length moves ≡ n) → (moves ≡ []) ⊎ (moves ≡ plan)
whole_or_none n moves rest plan is few (inl none) = inl (nothing_left moves none)
whole_or_none n moves rest plan is few (inr all) =
    let size : length plan ≡ length moves + length rest = ap length is ∙ length-append moves rest in
    let over : rest ≡ [] = nothing_left rest (omega (arith, size, few, all)) in
    inr (sym (is ∙ ap (λ (l : List ℕ). moves ++ l) over ∙ append-nil moves))

one_or_none : (n : ℕ) → n ≤ 1 → (n ≡ 0) ⊎ (n ≡ 1)
one_or_none zero h = inl refl
one_or_none (suc zero) h = inr refl
one_or_none (suc (suc n)) h = absurd (omega (arith, h))

-- an order and a count, or nothing
order_size : (a : Acted) → (length (moves_by a) ≡ 0) ⊎ (length (moves_by a) ≡ 2)
order_size untouched = inl refl
order_size (completed k) = inr refl
order_size (aborted k) = inr refl

few_ordered : (a : Acted) → length (moves_by a) ≤ 2
few_ordered untouched = omega arith
few_ordered (completed k) = omega arith
few_ordered (aborted k) = omega arith

none_some : {A : Type 0} {x : A} → None ≡ Some x → ⊥
none_some e = cc

some_plan : {x y : List ℕ} → Some x ≡ Some y → x ≡ y
some_plan e = cc

-- a recover: one that was handed in with at most one move
recover_once : (moves plan : List ℕ) (rest : Option (List ℕ)) → plan_of moves rest ≡ Some plan → length plan ≤ 1 → (moves ≡ []) ⊎ (moves ≡ plan)
recover_once moves plan None e few = absurd (none_some e)
recover_once moves plan (Some l) e few =
    let is : plan ≡ moves ++ l = sym (some_plan e) in
    let size : length plan ≡ length moves + length l = ap length is ∙ length-append moves l in
    whole_or_none 1 moves l plan is few (one_or_none (length moves) (omega (arith, size, few)))

recover_few : (t : Tree) (p : Option (List ℕ)) (plan : List ℕ) → RecoverFresh (record (recover.begun t) { left = p }) unpulled_ports → p ≡ Some plan → length plan ≤ 1
recover_few t None plan fresh e = absurd (none_some e)
recover_few t (Some l) plan fresh e = subst (λ (x : List ℕ). length x ≤ 1) (some_plan e) (ahead_few l fresh.ports.0.ahead)
  where
    ahead_few : (x : List ℕ) → Ahead (Some x) 0 → length x ≤ 1
    ahead_few [] h = omega arith
    ahead_few (k ∷ x) h = let none : length x ≡ 0 = ap length h.1 in omega (arith, none)

-- a valve: one that was handed in with an order and a count, or with nothing
valve_once : (moves plan : List ℕ) (rest start : Option (List ℕ)) (l x : Valve) (first : List ℕ) → plan_of moves rest ≡ Some plan → plan_of first start ≡ Some plan → first ≡ [] → SeatBy rest l.switch l.seat moves → SeatBy start x.switch x.seat first → (moves ≡ []) ⊎ (moves ≡ plan)
valve_once moves plan None start l x first e f none now then = absurd (none_some e)
valve_once moves plan (Some rest) None l x first e f none now then = absurd (none_some f)
valve_once moves plan (Some rest) (Some start) l x first e f none now then =
    let is : plan ≡ moves ++ rest = sym (some_plan e) in
    let whole : plan ≡ start = sym (some_plan f) ∙ ap (λ (ms : List ℕ). ms ++ start) none in
    let formed : plan ≡ moves_by (acted start) = whole ∙ then.1.ahead in
    let few : length plan ≤ 2 = subst (λ (ms : List ℕ). length ms ≤ 2) (sym formed) (few_ordered (acted start)) in
    let size : (length moves ≡ 0) ⊎ (length moves ≡ 2) = subst (λ (ms : List ℕ). (length ms ≡ 0) ⊎ (length ms ≡ 2)) (sym now.1.formed) (order_size (acted moves)) in
    whole_or_none 2 moves rest plan is few size

-- ---- by kinds

-- the first of its moves, and where they are made at once all or none
abbrev pub Made : Kind → List ℕ → List ℕ → Type 0
Made kd moves plan = IsPrefix moves plan × (IsAtOnce kd → (moves ≡ []) ⊎ (moves ≡ plan))

state_made : (k : ℕ) (n : graph.Node) (first now : StateLogic) (v : View) (had given : List (List Item)) (plan : List ℕ) → FirstState k n first → StateLaw first now v had given → state_plan first ≡ Some plan → Made n.kind (state_moves now) plan
state_made k n (Dropping f) (Dropping l) v had given plan b law e =
    let d = drops_first k n.kind n.decider f b.begins.as_kind in
    (begins_plan l.log.moves plan l.log.left (law.plan ∙ e), λ once. absurd (subst IsAtOnce d.kind_is once))
state_made k n (Recovering f) (Recovering l) v had given plan b law e =
    let r = recovers_first k n.kind n.decider f b.begins.as_kind in
    let fresh : RecoverFresh (record (recover.begun r.element) { left = f.left }) unpulled_ports = subst (λ (x : Recover). RecoverFresh x unpulled_ports) r.is b.begins.fresh in
    let left_is : f.left ≡ Some plan = sym (none_made f.left f.moves law.unmoved) ∙ e in
    (begins_plan l.moves plan l.left (law.plan ∙ e), λ once. recover_once l.moves plan l.left (law.plan ∙ e) (recover_few r.element f.left plan fresh left_is))
  where
    none_made : (p : Option (List ℕ)) (ms : List ℕ) → ms ≡ [] → plan_of ms p ≡ p
    none_made None ms h = refl
    none_made (Some x) ms h = ap (λ (y : List ℕ). Some (y ++ x)) h
state_made k n (Obeying f) (Obeying l) v had given plan b law e =
    let fresh : ValveFresh f unpulled_ports = b.begins.fresh in
    (begins_plan l.moves plan l.left (law.plan ∙ e), λ once. valve_once l.moves plan l.left f.left l f f.moves (law.plan ∙ e) e (unmoved_new f fresh) law.valve fresh.valve)
  where
    unmoved_new : (x : Valve) → ValveFresh x unpulled_ports → x.moves ≡ []
    unmoved_new x h = subst (λ (p : Phase). Unmoved p x.moves) h.phase h.ports.1
state_made k n (Machine f) now v had given plan b law e = absurd (none_some e)
state_made k n (Tripping f) now v had given plan b law e = absurd (none_some e)
state_made k n first now v had given plan b law e = absurd law

in_made : (k : ℕ) (n : graph.Node) (first now : InLogic) (v : View) (had given : List (List Item)) (plan : List ℕ) → in_logics.Begins k n.kind n.decider first → InLaw first now v had given → in_plan first ≡ Some plan → Made n.kind (in_moves now) plan
in_made k n (fan_in.Merging f) (fan_in.Merging l) v had given plan b law e = (begins_plan l.log.moves plan l.log.left (law.same.1.1 ∙ e), λ once. absurd (never n.kind (fan_in.Merging f) b.takes once))
  where
    never : (kd : Kind) (x : InLogic) → TakesAs kd x → IsAtOnce kd → ⊥
    never (kind.Valve switch) x t h = t
    never (kind.RecoverNum m) x t h = t
    never (kind.RecoverText t) x b h = b
    never kd x t h = h
in_made k n (fan_in.Taking f) now v had given plan b law e = absurd (none_some e)
in_made k n (fan_in.Sorting f) now v had given plan b law e = absurd (none_some e)
in_made k n (fan_in.Zipping f) now v had given plan b law e = absurd (none_some e)
in_made k n (fan_in.Merging f) now v had given plan b law e = absurd law.same

out_made : (k : ℕ) (n : graph.Node) (first now : OutLogic) (v : View) (had given : List (List Item)) (plan : List ℕ) → out_logics.Begins k n.kind first → OutLaw first now v had given → out_plan first ≡ Some plan → Made n.kind (out_moves now) plan
out_made k n (fan_out.Balances f) (fan_out.Balances l) v had given plan b law e = (begins_plan l.log.moves plan l.log.left (law.plan ∙ e), λ once. absurd (never n.kind f b.as_kind once))
  where
    never : (kd : Kind) (x : Balancing) → BeginsBalance kd x → IsAtOnce kd → ⊥
    never (kind.Balance m) x t h = h
    never kd x t h = t
out_made k n (fan_out.Machines f) now v had given plan b law e = absurd (none_some e)
out_made k n (fan_out.Balances f) (fan_out.Machines l) v had given plan b law e = absurd law

sub_made : (chains : List graph.Chain) (k : ℕ) (n : graph.Node) (first now : Led Line) (v : View) (had given : List (List Item)) (plan : List ℕ) → FirstSub chains k n first → SubsLaw line_rest line_is_open line_whole first now v had given → sub_plan first ≡ Some plan → Made n.kind (subs.made_moves now) plan
sub_made chains k n first now v had given plan b law e = (begins_plan (subs.made_moves now) plan now.left (law.plan ∙ e), λ once. absurd (never n.kind b.is_sub once))
  where
    never : (kd : Kind) → IsSub kd → IsAtOnce kd → ⊥
    never (kind.Valve switch) b h = b
    never (kind.RecoverNum m) b h = b
    never (kind.RecoverText t) b h = b
    never kd b h = h

module _ {S D L H B : Type 0} (sources : S → SourceState) (drains : D → DrainState) where
  node_made : (w : World) (chains : List graph.Chain) (k : ℕ) (n : graph.Node) (first now : IslandNode S D L H B) (v : View) (had given : List (List Item)) (plan : List ℕ) → FirstOf sources chains k n first → node_law sources drains w.book first now v had given
      → node_plan first ≡ Some plan → Made n.kind (node_moves now) plan
  node_made w chains k n (node.State f) (node.State l) v had given plan b law e = state_made k n f l v had given plan b law e
  node_made w chains k n (node.FanIn f) (node.FanIn l) v had given plan b law e = in_made k n f l v had given plan b.begins law e
  node_made w chains k n (node.FanOut f) (node.FanOut l) v had given plan b law e = out_made k n f l v had given plan b.begins law e
  node_made w chains k n (node.Sub f) (node.Sub l) v had given plan b law e = sub_made chains k n f l v had given plan b law e
  node_made w chains k n (node.State f) now v had given plan b law e = absurd law
  node_made w chains k n (node.Sub f) now v had given plan b law e = absurd law
  node_made w chains k n (node.FanIn f) now v had given plan b law e = absurd law
  node_made w chains k n (node.FanOut f) now v had given plan b law e = absurd law
  node_made w chains k n first now v had given plan b law e = absurd (none_some e)

  pub every_stage_begins : (w : World) (g : Graph) (a : Account (IslandNode S D L H B)) → IsRun sources drains w.book g a → (k : ℕ) (n : graph.Node) (first now : IslandNode S D L H B) (plan : List ℕ) → slice_get g.nodes k ≡ Some n → a.firsts k ≡ Some first → a.nodes k ≡ Some now
      → node_plan first ≡ Some plan → IsPrefix (node_moves now) plan × (IsAtOnce n.kind → (node_moves now ≡ []) ⊎ (node_moves now ≡ plan))
  every_stage_begins w g a run k n first now plan at start there follows =
      let m = run.keeps.each_node k n at in
      let was : m.first ≡ first = some_same m.first first (sym m.first_at ∙ start) in
      let is : m.now ≡ now = some_same m.now now (sym m.now_at ∙ there) in
      subst (λ (x : IslandNode S D L H B). Made n.kind (node_moves x) plan) is
      (node_made w g.chains k n m.first m.now (knows g a k n) (took g a k n) (gave g a k n) plan (run.made k n m.first at m.first_at) m.law_holds (ap node_plan was ∙ follows))

-- ---- the cause of a misfit

is_stuck : (b : Bool) (moves : List ℕ) (place : ℕ) → misfit_by b moves ≡ Some place → b ≡ true
is_stuck true moves place e = refl
is_stuck false moves place e = absurd (none_some e)

place_is : (b : Bool) (moves : List ℕ) (place : ℕ) → misfit_by b moves ≡ Some place → place ≡ length moves
place_is true moves place e = cc
place_is false moves place e = absurd (none_some e)

-- the same of substreams, where they have a log
misfit_of : (stuck : Bool) (moves : Option (List ℕ)) (place : ℕ) → misfit_at stuck moves ≡ Some place → (stuck ≡ true) × (place ≡ length (unwrap_or moves []))
misfit_of stuck None place e = absurd (none_some e)
misfit_of stuck (Some moves) place e = (is_stuck stuck moves place e, place_is stuck moves place e)

module _ (g : Graph) (w : World) (plans : Plans) (k : ℕ) (n : graph.Node) where
  abbrev Cause : List Outlook → Type 0
  Cause comes = RoleMisfits g w (left g w plans k) k (role_of n.kind) comes

  -- what is left in the world is what the stage follows still
  rest_is : (now start : Option (List ℕ)) (moves first : List ℕ) → plans k ≡ plan_of first start → plan_of moves now ≡ plan_of first start → w.moves k ≡ moves → left g w plans k ≡ now
  rest_is now start moves first follows kept same = left_is (plans k) now moves (w.moves k) (follows ∙ sym kept) same

  drop_role : (m : ℕ) (p : Policy) (rest : Option (List ℕ)) (come : Outlook) → (p ≡ Backpressure → ⊥) → DropMisfits p m (next_move rest) (w.moves k) come → RoleMisfits g w rest k (role.a_flow (role.buffers m p)) (come ∷ [])
  drop_role m Backpressure rest come drops h = absurd (drops refl)
  drop_role m DropHead rest come drops h = h
  drop_role m DropTail rest come drops h = h
  drop_role m DropBuffer rest come drops h = h
  drop_role m DropNew rest come drops h = h
  drop_role m Fail rest come drops h = h

  drop_cause : (f l : drop.Dropping) (v : View) (had given : List (List Item)) (comes : List Outlook) → DropsFirst k n.kind f → left g w plans k ≡ l.log.left → w.moves k ≡ l.log.moves → DropPortState l v → DropsAs f l v had given → AllMayPass comes had → l.log.stuck ≡ true → Cause comes
  drop_cause f l v had given comes d rest same r law may stuck =
      let c = states_stop comes (Dropping f) (Dropping l) v had given r law may stuck in
      let policy_is : l.policy ≡ d.policy = law.policy ∙ ap (λ (z : drop.Dropping). z.policy) d.is.is in
      let size_is : l.size ≡ d.room = law.size ∙ ap (λ (z : drop.Dropping). z.size) d.is.is in
      let sized = subst (λ (m : ℕ). DropMisfits d.policy m (next_move l.log.left) l.log.moves c.0) size_is (subst (λ (p : Policy). DropMisfits p l.size (next_move l.log.left) l.log.moves c.0) policy_is c.1.1) in
      let told = subst (λ (ms : List ℕ). DropMisfits d.policy d.room (next_move l.log.left) ms c.0) (sym same) sized in
      let here = drop_role d.room d.policy l.log.left c.0 d.drops told in
      subst (λ (t : Kind). RoleMisfits g w (left g w plans k) k (role_of t) comes) (sym d.kind_is)
      (subst (λ (p : Option (List ℕ)). RoleMisfits g w p k (role.a_flow (role.buffers d.room d.policy)) comes) (sym rest) (subst (λ (os : List Outlook). RoleMisfits g w l.log.left k (role.a_flow (role.buffers d.room d.policy)) os) (sym c.1.0) here))

  state_cause : (first now : StateLogic) (v : View) (had given : List (List Item)) (comes : List Outlook) (place : ℕ) → FirstState k n first → plans k ≡ state_plan first → w.moves k ≡ state_moves now → StatePortState now v → StateLaw first now v had given → AllMayPass comes had → state_misfit now ≡ Some place → Cause comes
  state_cause (Dropping f) (Dropping l) v had given comes place b follows same r law may e =
      drop_cause f l v had given comes (drops_first k n.kind n.decider f b.begins.as_kind) (rest_is l.log.left f.log.left l.log.moves f.log.moves follows law.plan same) same r law may (is_stuck l.log.stuck l.log.moves place e)
  state_cause (Recovering f) (Recovering l) v had given comes place b follows same r law may e =
      let c = recovers_first k n.kind n.decider f b.begins.as_kind in
      let why : RecoverCause (next_move l.left) comes = states_stop comes (Recovering f) (Recovering l) v had given r law may (is_stuck l.stuck l.moves place e) in
      subst (λ (t : Role). RoleMisfits g w (left g w plans k) k t comes) (sym c.role_is) (subst (λ (p : Option (List ℕ)). RecoverCause (next_move p) comes) (sym (rest_is l.left f.left l.moves f.moves follows law.plan same)) why)
  state_cause (Obeying f) (Obeying l) v had given comes place b follows same r law may e =
      let c = valve_first k n.kind n.decider f b.begins.as_kind in
      let why = order_cause l.left comes (states_stop comes (Obeying f) (Obeying l) v had given r law may (is_stuck l.stuck l.moves place e)) in
      subst (λ (t : Kind). RoleMisfits g w (left g w plans k) k (role_of t) comes) (sym c.kind_is)
      (subst (λ (p : Option (List ℕ)). RoleMisfits g w p k (role.a_flow (role.obeys c.name)) comes) (sym (rest_is l.left f.left l.moves f.moves follows law.plan same)) why)
  state_cause first (Machine l) v had given comes place b follows same r law may e = absurd (none_some e)
  state_cause first (Tripping l) v had given comes place b follows same r law may e = absurd (none_some e)
  state_cause first now v had given comes place b follows same r law may e = absurd law

  -- by whether it gathers
  abbrev IsMerging : InLogic → Bool → Type 0
  IsMerging (fan_in.Merging f) b = f.gathers ≡ b
  IsMerging _ b = ⊥

  merge_cause : (kd : Kind) (first : InLogic) (b : Bool) (rest : Option (List ℕ)) (comes : List Outlook) → TakesAs kd first → IsMerging first b → MergeMisfits b (next_move rest) (w.moves k) comes → RoleMisfits g w rest k (role_of kd) comes
  merge_cause (kind.Merge m) (fan_in.Merging f) b rest comes t way h = subst (λ (x : Bool). MergeMisfits x (next_move rest) (w.moves k) comes) (sym way ∙ t.way) h
  merge_cause (kind.MergeHub c m) (fan_in.Merging f) b rest comes t way h = subst (λ (x : Bool). MergeMisfits x (next_move rest) (w.moves k) comes) (sym way ∙ t.way) h
  merge_cause (kind.Concat m) (fan_in.Taking f) b rest comes t way h = absurd way
  merge_cause (kind.Interleave m c) (fan_in.Taking f) b rest comes t way h = absurd way
  merge_cause kind.MergeSorted (fan_in.Sorting f) b rest comes t way h = absurd way
  merge_cause kind.Zip (fan_in.Zipping f) b rest comes t way h = absurd way
  merge_cause kd first b rest comes t way h = absurd t

  in_cause : (first now : InLogic) (v : View) (had given : List (List Item)) (comes : List Outlook) (place : ℕ) → in_logics.Begins k n.kind n.decider first → plans k ≡ in_plan first → w.moves k ≡ in_moves now → InLaw first now v had given → AllMayPass comes had → in_misfit now ≡ Some place → Cause comes
  in_cause (fan_in.Merging f) (fan_in.Merging l) v had given comes place b follows same law may e =
      let why : MergeMisfits l.gathers (next_move l.log.left) l.log.moves comes = ins_stop comes (fan_in.Merging f) (fan_in.Merging l) v had given law may (is_stuck l.log.stuck l.log.moves place e) in
      let told : MergeMisfits l.gathers (next_move l.log.left) (w.moves k) comes = subst (λ (ms : List ℕ). MergeMisfits l.gathers (next_move l.log.left) ms comes) (sym same) why in
      subst (λ (p : Option (List ℕ)). RoleMisfits g w p k (role_of n.kind) comes) (sym (rest_is l.log.left f.log.left l.log.moves f.log.moves follows law.same.1.1 same))
      (merge_cause n.kind (fan_in.Merging f) l.gathers l.log.left comes b.takes (sym law.same.1.0) told)
  in_cause first (fan_in.Taking l) v had given comes place b follows same law may e = absurd (none_some e)
  in_cause first (fan_in.Sorting l) v had given comes place b follows same law may e = absurd (none_some e)
  in_cause first (fan_in.Zipping l) v had given comes place b follows same law may e = absurd (none_some e)
  in_cause (fan_in.Taking f) (fan_in.Merging l) v had given comes place b follows same law may e = absurd law.same
  in_cause (fan_in.Sorting f) (fan_in.Merging l) v had given comes place b follows same law may e = absurd law.same
  in_cause (fan_in.Zipping f) (fan_in.Merging l) v had given comes place b follows same law may e = absurd law.same

  -- a balance has one input
  balance_cause : (f l : Balancing) (v : View) (had given : List (List Item)) (comes : List Outlook) → BalancesAs f l v had given → AllMayPass comes had → l.log.stuck ≡ true → BalanceCause (next_move l.log.left) l.log.moves comes
  balance_cause f l v had given comes law may stuck = by comes (subst (λ (hs : List (List Item)). AllMayPass comes hs) law.took_is may)
    where
      by : (os : List Outlook) → AllMayPass os (law.taken ∷ []) → BalanceCause (next_move l.log.left) l.log.moves os
      by [] m = absurd m
      by (o ∷ []) m = balances.has_cause f l v had given law stuck o (m.0 law.law.flow.list law.law.flow.end law.law.took_is)
      by (o ∷ q ∷ os) m = absurd m.1

  balance_role : (kd : Kind) (f : Balancing) (rest : Option (List ℕ)) (comes : List Outlook) → BeginsBalance kd f → BalanceCause (next_move rest) (w.moves k) comes → RoleMisfits g w rest k (role_of kd) comes
  balance_role (kind.Balance m) f rest comes b h = h
  balance_role kd f rest comes b h = absurd b

  out_cause : (first now : OutLogic) (v : View) (had given : List (List Item)) (comes : List Outlook) (place : ℕ) → out_logics.Begins k n.kind first → plans k ≡ out_plan first → w.moves k ≡ out_moves now → OutLaw first now v had given → AllMayPass comes had → out_misfit now ≡ Some place → Cause comes
  out_cause (fan_out.Balances f) (fan_out.Balances l) v had given comes place b follows same law may e =
      let why = balance_cause f l v had given comes law may (is_stuck l.log.stuck l.log.moves place e) in
      let told = subst (λ (ms : List ℕ). BalanceCause (next_move l.log.left) ms comes) (sym same) why in
      subst (λ (p : Option (List ℕ)). RoleMisfits g w p k (role_of n.kind) comes) (sym (rest_is l.log.left f.log.left l.log.moves f.log.moves follows law.plan same)) (balance_role n.kind f l.log.left comes b.as_kind told)
  out_cause first (fan_out.Machines l) v had given comes place b follows same law may e = absurd (none_some e)
  out_cause (fan_out.Machines f) (fan_out.Balances l) v had given comes place b follows same law may e = absurd law

  -- substreams that follow nothing never stop
  sub_cause : (f l : Led Line) (v : View) (had given : List (List Item)) (comes : List Outlook) (place : ℕ) → FirstSub g.chains k n f → plans k ≡ sub_plan f → ((ms : List ℕ) → l.logic.moves ≡ Some ms → w.moves k ≡ ms) → SubsLaw line_rest line_is_open line_whole f l v had given → AllMayPass comes had
      → sub_misfit l ≡ Some place → Cause comes
  sub_cause f l v had given comes place b follows tells law may e = by f.left refl
    where
      stuck : l.stuck ≡ true
      stuck = (misfit_of l.stuck l.logic.moves place e).0

      by : (o : Option (List ℕ)) → f.left ≡ o → Cause comes
      by None none = absurd (let z : true ≡ false = sym stuck ∙ (law.unled none).1.0 ∙ b.begins.fresh.calm in cc)
      by (Some p) some =
          let led = some_followed f.left p some in
          let own = law.led led in
          let are = moves_are g w k n f b led l v had given own in
          let told : w.moves k ≡ moves_of g w k n f b led l v had given own = tells (moves_of g w k n f b led l v had given own) are in
          let rest : left g w plans k ≡ l.left =
          left_is (plans k) l.left (moves_of g w k n f b led l v had given own) (w.moves k) (follows ∙ sym law.plan ∙ ap (λ (ms : Option (List ℕ)). plan_of (unwrap_or ms []) l.left) are) told in
          cause_role g w k n f b led (left g w plans k) comes
          (subst (λ (x : Option (List ℕ)). SubsCause (yields_of g w k n.kind) k (opening_of f.logic.how) (next_move x) (w.moves k) comes) (sym rest)
          (subst (λ (ms : List ℕ). SubsCause (yields_of g w k n.kind) k (opening_of f.logic.how) (next_move l.left) ms comes) (sym told) (led_stops g w k n f b led l v had given own stuck comes may)))

module _ {S D L H B : Type 0} (sources : S → SourceState) (drains : D → DrainState) where
  node_cause : (g : Graph) (w : World) (plans : Plans) (k : ℕ) (n : graph.Node) (first now : IslandNode S D L H B) (v : View) (had given : List (List Item)) (comes : List Outlook) (place : ℕ) → FirstOf sources g.chains k n first → plans k ≡ node_plan first → TellsMoves w k now
      → node_port_state now v → node_law sources drains w.book first now v had given → AllMayPass comes had → node_misfit now ≡ Some place → (place ≡ length (node_moves now)) × Cause g w plans k n comes
  node_cause g w plans k n (node.State f) (node.State l) v had given comes place b follows tells r law may e = (state_place l e, state_cause g w plans k n f l v had given comes place b follows (state_tells l tells e) r law may e)
    where
      state_place : (x : StateLogic) → state_misfit x ≡ Some place → place ≡ length (state_moves x)
      state_place (Dropping x) h = place_is x.log.stuck x.log.moves place h
      state_place (Recovering x) h = place_is x.stuck x.moves place h
      state_place (Obeying x) h = place_is x.stuck x.moves place h
      state_place (Machine x) h = absurd (none_some h)
      state_place (Tripping x) h = absurd (none_some h)

      state_tells : (x : StateLogic) → TellsMoves {S = S} {D = D} {L = L} {H = H} {B = B} w k (node.State x) → state_misfit x ≡ Some place → w.moves k ≡ state_moves x
      state_tells (Dropping x) t h = t x.log.moves refl
      state_tells (Recovering x) t h = t x.moves refl
      state_tells (Obeying x) t h = t x.moves refl
      state_tells (Machine x) t h = absurd (none_some h)
      state_tells (Tripping x) t h = absurd (none_some h)
  node_cause g w plans k n (node.FanIn f) (node.FanIn l) v had given comes place b follows tells r law may e = (in_place l e, in_cause g w plans k n f l v had given comes place b.begins follows (in_tells l tells e) law may e)
    where
      in_place : (x : InLogic) → in_misfit x ≡ Some place → place ≡ length (in_moves x)
      in_place (fan_in.Merging x) h = place_is x.log.stuck x.log.moves place h
      in_place (fan_in.Taking x) h = absurd (none_some h)
      in_place (fan_in.Sorting x) h = absurd (none_some h)
      in_place (fan_in.Zipping x) h = absurd (none_some h)

      in_tells : (x : InLogic) → TellsMoves {S = S} {D = D} {L = L} {H = H} {B = B} w k (node.FanIn x) → in_misfit x ≡ Some place → w.moves k ≡ in_moves x
      in_tells (fan_in.Merging x) t h = t x.log.moves refl
      in_tells (fan_in.Taking x) t h = absurd (none_some h)
      in_tells (fan_in.Sorting x) t h = absurd (none_some h)
      in_tells (fan_in.Zipping x) t h = absurd (none_some h)
  node_cause g w plans k n (node.FanOut f) (node.FanOut l) v had given comes place b follows tells r law may e = (out_place l e, out_cause g w plans k n f l v had given comes place b.begins follows (out_tells l tells e) law may e)
    where
      out_place : (x : OutLogic) → out_misfit x ≡ Some place → place ≡ length (out_moves x)
      out_place (fan_out.Balances x) h = place_is x.log.stuck x.log.moves place h
      out_place (fan_out.Machines x) h = absurd (none_some h)

      out_tells : (x : OutLogic) → TellsMoves {S = S} {D = D} {L = L} {H = H} {B = B} w k (node.FanOut x) → out_misfit x ≡ Some place → w.moves k ≡ out_moves x
      out_tells (fan_out.Balances x) t h = t x.log.moves refl
      out_tells (fan_out.Machines x) t h = absurd (none_some h)
  node_cause g w plans k n (node.Sub f) (node.Sub l) v had given comes place b follows tells r law may e = ((misfit_of l.stuck l.logic.moves place e).1, sub_cause g w plans k n f l v had given comes place b follows tells law may e)
  node_cause g w plans k n first (node.State l) v had given comes place b follows tells r law may e = absurd law
  node_cause g w plans k n first (node.Sub l) v had given comes place b follows tells r law may e = absurd law
  node_cause g w plans k n first (node.FanIn l) v had given comes place b follows tells r law may e = absurd law
  node_cause g w plans k n first (node.FanOut l) v had given comes place b follows tells r law may e = absurd law
  node_cause g w plans k n first now v had given comes place b follows tells r law may e = absurd (none_some e)

  pub every_misfit : (g : Graph) (w : World) (plans : Plans) (a : Account (IslandNode S D L H B)) (outlook : ℕ → Outlook) → IsRun sources drains w.book g a → TellsPicks w a → FollowsPlans plans a → AllAgreeWith a g outlook
      → (k : ℕ) (n : graph.Node) (now : IslandNode S D L H B) (place : ℕ) → slice_get g.nodes k ≡ Some n → a.nodes k ≡ Some now → node_misfit now ≡ Some place → (place ≡ length (node_moves now)) × MisfitsOver g w plans outlook k n
  every_misfit g w plans a outlook run chose follows agree k n now place at there found =
      let m = run.keeps.each_node k n at in
      let is : m.now ≡ now = some_same m.now now (sym m.now_at ∙ there) in
      let c = node_cause g w plans k n m.first m.now (knows g a k n) (took g a k n) (gave g a k n) _ place (run.made k n m.first at m.first_at) (follows k m.first m.first_at) (chose k m.now m.now_at) m.port_state_holds m.law_holds
      (came_of sources drains g w a run chose outlook agree k n at) (ap node_misfit is ∙ found) in
      (c.0 ∙ ap (λ (x : IslandNode S D L H B). length (node_moves x)) is, c.1)
