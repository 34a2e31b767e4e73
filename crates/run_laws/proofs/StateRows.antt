-- What a stage with state gives of its law for a picture: one that keeps, by its machine; and a buffer, which gives what came and
-- asks for no more than it can hold.
use Rattle.std.specs.Prelude.{slice_index_or}
use Rattle.std.proofs.Common.{◌≡◌, ◌≢◌, ◌⊎◌, inl, inr, ℕ, zero, suc, ◌+◌, ◌-◌, ◌<◌, ◌≤◌, Bool, true, false, Option, None, Some, List, [], ◌∷◌, length, take, map, refl, sym, ap, ◌∙◌, subst, arith}
use Rattle.elem_core.proofs.Prefixes.{prefix_length}
use Rattle.elem_core.specs.Tree.{Tree}
use Rattle.elem_core.specs.Items.{elements}
use Rattle.elem_core.specs.declared.why.Decider.{Decider}
use Rattle.elem_core.specs.declared.item.Item.{Item}
use Rattle.port_core.specs.View.{View, in_at, out_at}
use Rattle.port_core.specs.declared.view.InView.{InView}
use Rattle.port_core.specs.declared.view.InView.TheVariants.{Idle, Pulled, Finished, Cancelled}
use Rattle.port_core.specs.declared.view.OutView.{OutView}
use Rattle.port_core.specs.declared.view.OutView.TheVariants.{Unpulled, Available}
use Rattle.stream_io.specs.State.{SourceState, DrainState}
use Rattle.stream_model.specs.declared.kind.Kind.{Kind}
use Rattle.stream_model.specs.declared.kind.Kind.TheVariants.{Grouped, Fold, Reduce, Scan, Buffer}
use Rattle.stream_model.specs.declared.kind.Policy.{Policy}
use Rattle.stream_model.specs.declared.kind.Policy.TheVariants.{Backpressure, DropHead, DropTail, DropBuffer, DropNew, Fail}
use Rattle.stream_model.specs.Graph.{Graph}
use Rattle.stream_model.specs.Graph as graph
use Rattle.stream_model.specs.Linear.{Book, Role, Stage, Work, linear, begin_work, work_of, a_flow, buffers, role_of}
use Rattle.stream_model.specs.Linear as role
use Rattle.stream_model.specs.Machine.{State, going, is_going, run, Stands}
use Rattle.stream_model.specs.Node.{World}
use Rattle.stream_model.specs.Picks as picks
use Rattle.stream_model.specs.Lane.{Carries}
use Rattle.stream_model.specs.Outlook.{Outlook, End, unended, ended, failed}
use Rattle.stream_model.specs.Lawful.{RowLawful, RecoverLawful}
use Rattle.stream_model.specs.OneWay.{as_it_is, holds_at_end, is_sink}
use Rattle.stream_model.specs.Rests.{IsShut, BufferRests, DroppingRests, StageRests, RoleRests, RowRests}
use Rattle.stream_model.specs.View.{EachWire, demand, wanted}
use Rattle.stage_core.specs.Held.{Held, owing}
use Rattle.stage_core.specs.Law.{TookAs, Law}
use Rattle.stage_core.specs.Row.{InClosed, OutClosed}
use Rattle.stage_core.proofs.Whole.{stage_stands}
use Rattle.stage_core.specs.declared.phase.Phase.{Phase}
use Rattle.stage_core.specs.declared.phase.Phase.TheVariants.{New, Open, Closed}
use Rattle.step_work.specs.declared.ending.StateEnd.{StateEnd}
use Rattle.step_work.specs.declared.ending.StateEnd.TheVariants.{Lasting, Ended, Failed}
use Rattle.stage_state.specs.Buffering.{buffer}
use Rattle.stage_state.specs.Resting.{begin_buffer}
use Rattle.stage_state.specs.States.{Logic, held, held_in, keep_port_state, buffer_port_state, port_state_by, IsMachine, Begins}
use Rattle.stage_state.proofs.Buffers.{buffer_carries}
use Rattle.stage_state.proofs.Rows.{counts}
use Rattle.nodes.specs.declared.node.IslandNode.{IslandNode}
use Rattle.nodes.specs.declared.node.IslandNode.TheVariants as node
use Rattle.nodes.specs.Nodes.{node_port_state, node_law, node_asking, node_moves}
use Rattle.stage_state.specs.declared.logic.StateLogic.{StateLogic}
use Rattle.stage_state.specs.declared.logic.StateLogic.TheVariants.{Machine, Dropping, Recovering, Obeying, Tripping}
use Rattle.stage_state.specs.Handling.{StatePortState, StateLaw}
use Rattle.stage_dropping.specs.Drops.{DroppingRestsBy, DropMisfits}
use Rattle.stage_dropping.specs.Droppings as drop
use Rattle.stage_dropping.specs.Droppings.{DropPortState, DropsAs}
use Rattle.stage_dropping.specs.Recoverings.{Recover, recover_in, StillBy, RecoverPortState, RecoversAs}
use Rattle.stage_dropping.specs.Recovers.{FailedAt, RecoverCause}
use Rattle.stage_dropping.proofs.RecoverNodes as recovers
use Rattle.stage_state.specs.MachineNodes.{MachinePortState, MachineLaw}
use Rattle.run_laws.specs.Items.{AllMayPass}
use Rattle.run_laws.specs.KindLaws.{IsOneMachine, Moments, PictureLaws, PictureLawsBy}
use Rattle.run_laws.specs.Replayed.{Plans, left, RecoverRestsBy, RoleLawfulBy, RoleMisfits, RoleRestsBy, RowRestsBy, ShutByFailure}
use Rattle.run_laws.specs.Ports.{InPort, OutPort, InStands, OutStands, InRests, OutRests}
use Rattle.run_laws.proofs.Coming.{elements_told, elements_prefix}
use Rattle.run_laws.proofs.Nodes.{begins_one}
use Rattle.run_laws.specs.Made.{FirstState, LedAs}
use Rattle.port_core.specs.Picks.{next_move, plan_of}
use Rattle.port_core.specs.declared.pick_log.Next.{Next}
use Rattle.port_core.specs.declared.pick_log.Next.TheVariants.{Free, Move, UsedUp}
use Rattle.stage_state.specs.Moves.{state_plan}
use Rattle.run_laws.proofs.Machines.{IsKeeping, keeping_machine}
use Rattle.run_laws.proofs.States.{KeepsFirst, BuffersFirst, state_cases, keeps_law, buffers_law, led_machine, led_trip, Told}
use Rattle.run_laws.proofs.StateChoices.{DropsFirst, drops_first, IsRecover, recovers_first}
use Rattle.run_laws.specs.Picture.{sink_ended}
use Rattle.run_laws.proofs.MachineRows.{stage_given, stage_asked, waited_rests, idles}
use Rattle.run_laws.proofs.OnePorts.{one_views, one_same, began, given_one, reached, not_both}
use Rattle.run_laws.proofs.DropRows.{row_lawful, row_rests, drops_lawful, drops_rest, led_rests}
use Rattle.run_laws.proofs.Misfits.{states_stop}
use Rattle.run_laws.proofs.RecoverRows.{recover_ports, waits_moving, recover_stays, shut_by_failure, waits_asked, take_few, passed_all, recover_given, recover_moved, recover_rests}
use Rattle.run_laws.proofs.PictureStages.{closed_both, law_at, same_start, Waited, waited_of}
use Rattle.run_laws.proofs.SwitchRows.{valve_picture, trip_picture}

-- ---- what the rows say

-- one that keeps: it waits and owes nothing, nobody asks it, it owes a value behind the end of its input, or all is closed
data KeepPorts (p : Phase) (e : StateEnd) (k : List Tree) (x : InView) (y : OutView) : Type 0 where
  busy : p ≡ Open → e ≡ Lasting → k ≡ [] → x ≡ Pulled → y ≡ Available → KeepPorts p e k x y
  free : x ≡ Idle → y ≡ Unpulled → KeepPorts p e k x y
  behind : x ≡ Finished → y ≡ Unpulled → KeepPorts p e k x y
  over : InClosed x → OutClosed y → KeepPorts p e k x y

keep_ports : (p : Phase) (e : StateEnd) (a : Bool) (k : List Tree) (w : Work) (x : InView) (y : OutView) → p ≢ New → keep_port_state p e a k w x y → KeepPorts p e k x y
keep_ports New e a k w x y n r = absurd (n refl)
keep_ports Closed e a k w x y n r = let c = closed_both x y r in over c.0 c.1
keep_ports Open Lasting true k w Pulled Available n r = busy refl refl r.0 refl refl
keep_ports Open Lasting false k w Idle Unpulled n r = free refl refl
keep_ports Open Ended false k w Finished Unpulled n r = behind refl refl
keep_ports Open (Failed c) false k w Finished Unpulled n r = behind refl refl
keep_ports p e a k w x y n r = absurd r

-- a buffer of n: it is asked and holds nothing, it has room, it is full, it holds something behind the end of its input, or all
-- is closed
data BufferPorts (n : ℕ) (p : Phase) (e : StateEnd) (k : List Tree) (x : InView) (y : OutView) : Type 0 where
  drained : p ≡ Open → k ≡ [] → 0 < n → x ≡ Pulled → y ≡ Available → BufferPorts n p e k x y
  roomy : p ≡ Open → length k < n → x ≡ Pulled → y ≡ Unpulled → BufferPorts n p e k x y
  full : p ≡ Open → length k ≡ n → x ≡ Idle → y ≡ Unpulled → BufferPorts n p e k x y
  behind_end : x ≡ Finished → y ≡ Unpulled → BufferPorts n p e k x y
  gone : InClosed x → OutClosed y → BufferPorts n p e k x y

buffer_ports : (n : ℕ) (p : Phase) (e : StateEnd) (a : Bool) (k : List Tree) (x : InView) (y : OutView) → p ≢ New → buffer_port_state n p e a k x y → BufferPorts n p e k x y
buffer_ports n New e a k x y nn r = absurd (nn refl)
buffer_ports n Closed e a k x y nn r = let c = closed_both x y r in gone c.0 c.1
buffer_ports n Open Lasting true k Pulled Available nn r = drained refl r.0 r.1 refl refl
buffer_ports n Open Lasting false k Pulled Unpulled nn r = roomy refl r refl refl
buffer_ports n Open Lasting false k Idle Unpulled nn r = full refl r.0 refl refl
buffer_ports n Open Ended false k Finished Unpulled nn r = behind_end refl refl
buffer_ports n p e a k x y nn r = absurd r

-- what an open stage owes
open_held : (l : Logic) → l.phase ≡ Open → held l ≡ held_in Open l.ending l.pending l.stage
open_held l on = ap (λ (p : Phase). held_in p l.ending l.pending l.stage) on

busy_held : (l : Logic) → l.phase ≡ Open → l.ending ≡ Lasting → l.pending ≡ [] → held l ≡ owing (record { gave = []; state = going l.stage })
busy_held l on lasts none = open_held l on ∙ ap (λ (e : StateEnd). held_in Open e l.pending l.stage) lasts ∙ ap (λ (k : List Tree). held_in Open Lasting k l.stage) none

-- ---- its law, over its two ports

module _ (first now : Logic) (v : View) (took gave : List (List Item)) (law : MachineLaw first now v took gave) (book : Book) (t g : List Item) (ti : took ≡ t ∷ []) (gi : gave ≡ g ∷ []) where
  keeps_at : (k : ℕ) (kd : Kind) (d : Decider) → KeepsFirst k kd d first → Law (linear book first.stage.work) (begin_work k d first.stage.work) (held now) (in_at v 0) (out_at v 0) t g
  keeps_at k kd d f =
      law_at (linear book first.stage.work) law.start _ (held now) _ (in_at v 0) _ (out_at v 0) _ law.took_list t law.gave_list g
      (same_start _ _ (sym law.owes ∙ f.owes)) refl refl refl (one_same _ _ (sym law.took_is ∙ ti)) (one_same _ _ (sym law.gave_is ∙ gi)) (keeps_law first now v took gave law book f.size)

  buffers_at : (kd : Kind) (f : BuffersFirst kd first) → Law (buffer f.room) (begin_buffer first.stage) (held now) (in_at v 0) (out_at v 0) t g
  buffers_at kd f =
      law_at (buffer f.room) law.start _ (held now) _ (in_at v 0) _ (out_at v 0) _ law.took_list t law.gave_list g
      (same_start _ _ (sym law.owes ∙ f.owes)) refl refl refl (one_same _ _ (sym law.took_is ∙ ti)) (one_same _ _ (sym law.gave_is ∙ gi)) (buffers_law first now v took gave law book f.room f.size)

-- one that keeps, and waits
keeps_waited : (book : Book) (k : ℕ) (d : Decider) (wk : Work) (now : Logic) (x : InView) (y : OutView) (t g : List Item) → Law (linear book wk) (begin_work k d wk) (held now) x y t g
    → now.phase ≡ Open → now.ending ≡ Lasting → now.pending ≡ [] → x ≡ Pulled → y ≡ Available → Waited (linear book wk) (begin_work k d wk) t g
keeps_waited book k d wk now x y t g law on lasts none xi yo =
    waited_of (linear book wk) (begin_work k d wk) now.stage t g
    (law_at (linear book wk) (begin_work k d wk) _ (held now) _ x _ y _ t _ g _ refl (busy_held now on lasts none) xi yo refl refl law)

-- ---- a buffer

carries_short : (n : ℕ) (l : List Tree) (e : End) (g : List Tree) (f : End) → Carries n l e g f → length g ≤ length l
carries_short n l e g unended h = prefix_length h
carries_short n l e g ended h = let same : length g ≡ length l = ap length h.1 in omega (arith, same)
carries_short n l e g (failed c) h = prefix_length h.1

-- it gave no more than came
buffer_given : (n : ℕ) (s : Stage) (h : Held Stage) (i : InPort) (o : OutPort) → InStands i → OutStands o → Law (buffer n) (begin_buffer s) h i.view o.view i.got o.sent → o.wire.sent ≤ i.wire.sent
buffer_given n s h i o si so at =
    let stands : Stands (buffer n) (begin_buffer s) at.in_list at.in_end at.out_list at.out_end = stage_stands (buffer n) (begin_buffer s) h i.view o.view i.got o.sent at in
    let short = carries_short n at.in_list at.in_end at.out_list at.out_end (buffer_carries n s at.in_list at.in_end at.out_list at.out_end stands) in
    let sent : elements o.sent ≡ length at.out_list = ap elements at.gave_is ∙ elements_told at.out_list at.out_end in
    let got : elements i.got ≡ length at.in_list = ap elements at.took_is ∙ elements_told at.in_list at.in_end in
    let came = si.came in
    let count = so.count in
    omega (arith, short, sent, got, came, count)

-- what it took is what it gave and what it holds, while its input has not ended
holds_rest : (n : ℕ) (s : Stage) (k : List Tree) (st : State Stage) (x : InView) (y : OutView) (t g : List Item) → Law (buffer n) (begin_buffer s) (owing (record { gave = k; state = st })) x y t g → ((e : End) → TookAs x e → e ≡ unended)
    → elements t ≡ elements g + length k
holds_rest n s k st x y t g at lasts =
    let c = counts n s t g k st x y at (lasts at.in_end at.took_as) in
    let sent : elements g ≡ length at.out_list = ap elements at.gave_is ∙ elements_told at.out_list at.out_end in
    let got : elements t ≡ length at.in_list = ap elements at.took_is ∙ elements_told at.in_list at.in_end in
    omega (arith, c, sent, got)

waiting_open : (x : InView) → x ≡ Pulled → (e : End) → TookAs x e → e ≡ unended
waiting_open Pulled i e h = h
waiting_open Idle i e h = cc
waiting_open Finished i e h = cc
waiting_open Cancelled i e h = cc

idle_open : (x : InView) → x ≡ Idle → (e : End) → TookAs x e → e ≡ unended
idle_open Idle i e h = h
idle_open Pulled i e h = cc
idle_open Finished i e h = cc
idle_open Cancelled i e h = cc

-- the same of an open buffer
holds_open : (n : ℕ) (s : Stage) (l : Logic) (x : InView) (y : OutView) (t g : List Item) → Law (buffer n) (begin_buffer s) (held l) x y t g → l.phase ≡ Open → ((e : End) → TookAs x e → e ≡ unended) → elements t ≡ elements g + length l.pending
holds_open n s l x y t g at on lasts =
    holds_rest n s l.pending _ x y t g (law_at (buffer n) (begin_buffer s) _ (held l) _ x _ y _ t _ g _ refl (open_held l on) refl refl refl refl at) lasts

-- one that waits has room
waits_roomy : (n : ℕ) (p : Phase) (e : StateEnd) (k : List Tree) (x : InView) (y : OutView) → BufferPorts n p e k x y → x ≡ Pulled → (p ≡ Open) × (length k < n)
waits_roomy n p e k x y (drained on none some xi yo) i = let z : length k ≡ 0 = ap length none in (on, omega (arith, z, some))
waits_roomy n p e k x y (roomy on room xi yo) i = (on, room)
waits_roomy n p e k x y (full on room xi yo) i = cc
waits_roomy n p e k x y (behind_end xi yo) i = cc
waits_roomy n p e k x y (gone xi yo) i = let no : InClosed Pulled = subst InClosed i xi in absurd no

-- ---- the kinds

work_is : (wk : Work) (u : Work) → Some wk ≡ Some u → wk ≡ u
work_is wk u e = cc

-- one that keeps may hold a value behind the end of its input
keeping_holds : (kd : Kind) (wk : Work) → IsKeeping kd → work_of kd ≡ Some wk → holds_at_end wk ≡ true
keeping_holds (Grouped n) wk h e = subst (λ (z : Work). holds_at_end z ≡ true) (work_is _ wk e) refl
keeping_holds (Fold o) wk h e = subst (λ (z : Work). holds_at_end z ≡ true) (work_is _ wk e) refl
keeping_holds (Reduce r) wk h e = subst (λ (z : Work). holds_at_end z ≡ true) (work_is _ wk e) refl
keeping_holds (Scan o) wk h e = subst (λ (z : Work). holds_at_end z ≡ true) (work_is _ wk e) refl
keeping_holds _ wk h e = absurd h

-- one that waits was asked, is open and owes nothing
waits_busy : (l : Logic) (x : InView) (y : OutView) → KeepPorts l.phase l.ending l.pending x y → x ≡ Pulled → (l.phase ≡ Open) × ((l.ending ≡ Lasting) × ((l.pending ≡ []) × (y ≡ Available)))
waits_busy l x y (busy on lasts none xi yo) e = (on, (lasts, (none, yo)))
waits_busy l x y (free xi yo) e = cc
waits_busy l x y (behind xi yo) e = cc
waits_busy l x y (over xi yo) e = let no : InClosed Pulled = subst InClosed e xi in absurd no

-- ---- the node

module _ {S D : Type 0} (L H B : Type 0) (sources : S → SourceState) (drains : D → DrainState) (g : Graph) (w : World) (k : ℕ) (n : graph.Node) where
  -- its kind stays the same
  record StateNow (first : Logic) (v : View) (took gave : List (List Item)) : Type 0 where
    now : Logic
    port_state_holds : MachinePortState now v
    law_holds : MachineLaw first now v took gave

  state_now : (first : Logic) (x : IslandNode S D L H B) (v : View) (took gave : List (List Item)) → node_port_state x v → node_law sources drains w.book (node.State (Machine first)) x v took gave → StateNow first v took gave
  state_now first (node.State (Machine x)) v took gave r law = record { now = x; port_state_holds = r; law_holds = law }
  state_now first x v took gave r law = absurd law

  keeps_ports : (l first : Logic) (x : InView) (y : OutView) → l.size ≡ first.size → first.size ≡ None → l.phase ≢ New → port_state_by l.size l.phase l.ending l.asked l.pending l.stage.work x y → KeepPorts l.phase l.ending l.pending x y
  keeps_ports l first x y e none started r =
      keep_ports l.phase l.ending l.asked l.pending l.stage.work x y started (subst (λ z. port_state_by z l.phase l.ending l.asked l.pending l.stage.work x y) (e ∙ none) r)

  buffers_ports : (m : ℕ) (l first : Logic) (x : InView) (y : OutView) → l.size ≡ first.size → first.size ≡ Some m → l.phase ≢ New → port_state_by l.size l.phase l.ending l.asked l.pending l.stage.work x y → BufferPorts m l.phase l.ending l.pending x y
  buffers_ports m l first x y e some started r =
      buffer_ports m l.phase l.ending l.asked l.pending x y started (subst (λ z. port_state_by z l.phase l.ending l.asked l.pending l.stage.work x y) (e ∙ some) r)

  abbrev Laws : IslandNode S D L H B → IslandNode S D L H B → List InPort → List OutPort → Type 0
  Laws first x is os = PictureLaws node_port_state (node_law sources drains w.book) node_asking node_moves sink_ended g w k n first x is os

  module _ (first x : Logic) (i : InPort) (o : OutPort) (is_machine : IsMachine n.kind) (begins : Begins k n.kind n.decider first) (r : MachinePortState x (record { ins = i.view ∷ []; outs = o.view ∷ [] }))
      (law : MachineLaw first x (record { ins = i.view ∷ []; outs = o.view ∷ [] }) (i.got ∷ []) (o.sent ∷ [])) where
    abbrev LastAsks : Type 0
    LastAsks = Moments {N = IslandNode S D L H B} node_port_state (node_law sources drains w.book) node_asking node_moves (node.State (Machine first)) (node.State (Machine x)) (i ∷ []) (o ∷ []) 0

    abbrev Still : Type 0
    Still = (EachWire IsShut (i.wire ∷ []) × EachWire IsShut (o.wire ∷ [])) ⊎ RowRests g w k n.kind n.decider (i.wire ∷ []) (o.wire ∷ [])

    -- one that keeps
    module _ (c : KeepsFirst k n.kind n.decider first) where
      machine : IsOneMachine n.kind first.stage.work
      machine = keeping_machine n.kind first.stage.work c.is_keeping c.work

      kept : Law (linear w.book first.stage.work) (begin_work k n.decider first.stage.work) (held x) i.view o.view i.got o.sent
      kept = keeps_at first x _ _ _ law w.book i.got o.sent refl refl k n.kind n.decider c

      keeps_asked : InStands i → OutStands o → LastAsks → 1 ≤ demand i.wire
          → (is_going (run (linear w.book first.stage.work) (begin_work k n.decider first.stage.work) (take (demand i.wire - 1) i.wire.list)).state ≡ true)
          × (length (run (linear w.book first.stage.work) (begin_work k n.decider first.stage.work) (take (demand i.wire - 1) i.wire.list)).gave < wanted o.wire)
      keeps_asked si so m some =
          let e = m.0 in
          let l = state_now first e.old e.knew e.had e.given e.port_state_held e.law_held in
          let p = one_views (port_state_by l.now.size l.now.phase l.now.ending l.now.asked l.now.pending l.now.stage.work) e.knew l.port_state_holds.ports in
          let ports = keeps_ports l.now first p.x p.y l.law_holds.size c.size l.port_state_holds.started p.holds in
          let was = waits_busy l.now p.x p.y ports (sym p.inp ∙ e.waited) in
          let asked : out_at e.knew 0 ≡ Available = p.out ∙ was.1.1.1 in
          let b = began e.had i.got i.want e.took_on e.one_more in
          let q = given_one e.given o.sent o.want e.gave_on (e.wants 0 asked) in
          let at = keeps_at first l.now e.knew e.had e.given l.law_holds w.book b.part q.0 b.is q.1.0 k n.kind n.decider c in
          let waited = keeps_waited w.book k n.decider first.stage.work l.now (in_at e.knew 0) (out_at e.knew 0) b.part q.0 at was.0 was.1.0 was.1.1.0 e.waited asked in
          stage_asked (linear w.book first.stage.work) (begin_work k n.decider first.stage.work) i o si so kept.in_list kept.in_end kept.took_is b.part q.0 waited b.begins b.one_more q.1.1.1 some

      keeps_rest : InStands i → OutStands o → InRests i → OutRests o → KeepPorts x.phase x.ending x.pending i.view o.view → Still
      keeps_rest si so ri ro (busy on lasts none xi yo) =
          inr (machine.rests g w k n.decider (i.wire ∷ []) (o.wire ∷ [])
          (inl (waited_rests (linear w.book first.stage.work) (begin_work k n.decider first.stage.work) i o si so ri ro (keeps_waited w.book k n.decider first.stage.work x i.view o.view i.got o.sent kept on lasts none xi yo) xi yo)))
      keeps_rest si so ri ro (free xi yo) = inr (machine.rests g w k n.decider (i.wire ∷ []) (o.wire ∷ []) (inr (inl (ro.unasked yo, idles i ri xi))))
      keeps_rest si so ri ro (behind xi yo) =
          inr (machine.rests g w k n.decider (i.wire ∷ []) (o.wire ∷ []) (inr (inr (keeping_holds n.kind first.stage.work c.is_keeping c.work, ro.unasked yo, ri.shut (subst InClosed (sym xi) tt)))))
      keeps_rest si so ri ro (over xi yo) = inl ((ri.shut xi, tt), (ro.shut yo, tt))

      keeps_picture : Laws (node.State (Machine first)) (node.State (Machine x)) (i ∷ []) (o ∷ [])
      keeps_picture = record {
        lawful = λ si so m. machine.lawful g w k n.decider (i.wire ∷ []) (o.wire ∷ []) (
          stage_given (linear w.book first.stage.work) (begin_work k n.decider first.stage.work) (held x) i o kept si.0 so.0,
          λ some. keeps_asked si.0 so.0 (m 0 (reached i si.0 some)) some,
        );
        rests = λ si so ri ro. keeps_rest si.0 so.0 ri.0 ro.0 (keeps_ports x first i.view o.view law.size c.size r.started r.ports);
        matches = λ sink ri. absurd (not_both machine.no_sink sink);
      }

    -- a buffer
    module _ (c : BuffersFirst n.kind first) where
      buffered : Law (buffer c.room) (begin_buffer first.stage) (held x) i.view o.view i.got o.sent
      buffered = buffers_at first x _ _ _ law w.book i.got o.sent refl refl n.kind c

      -- it asks for no more than it can hold: at its last ask it had room
      buffers_asked : InStands i → OutStands o → LastAsks → demand i.wire ≤ o.wire.sent + c.room
      buffers_asked si so m =
          let e = m.0 in
          let l = state_now first e.old e.knew e.had e.given e.port_state_held e.law_held in
          let p = one_views (port_state_by l.now.size l.now.phase l.now.ending l.now.asked l.now.pending l.now.stage.work) e.knew l.port_state_holds.ports in
          let ports = buffers_ports c.room l.now first p.x p.y l.law_holds.size c.size l.port_state_holds.started p.holds in
          let was = waits_roomy c.room l.now.phase l.now.ending l.now.pending p.x p.y ports (sym p.inp ∙ e.waited) in
          let b = began e.had i.got i.want e.took_on e.one_more in
          let q = begins_one e.given o.sent e.gave_on in
          let at = buffers_at first l.now e.knew e.had e.given l.law_holds w.book b.part q.part b.is q.is n.kind c in
          let holds = holds_open c.room first.stage l.now (in_at e.knew 0) (out_at e.knew 0) b.part q.part at was.0 (waiting_open (in_at e.knew 0) e.waited) in
          let one = b.one_more in
          let reach = si.reach in
          let count = so.count in
          let room = was.1 in
          let more = elements_prefix q.part o.sent q.begins in
          omega (arith, holds, one, reach, count, room, more)

      -- one that asked for nothing asked for no more than that
      buffers_demand : InStands i → OutStands o → ((p : ℕ) → 1 ≤ slice_index_or (i.want ∷ []) p 0 → Moments {N = IslandNode S D L H B} node_port_state (node_law sources drains w.book) node_asking node_moves (node.State (Machine first)) (node.State (Machine x)) (i ∷ []) (o ∷ []) p)
          → (d : ℕ) → d ≡ demand i.wire → d ≤ o.wire.sent + c.room
      buffers_demand si so m zero e = omega arith
      buffers_demand si so m (suc d) e = rw e (buffers_asked si so (m 0 (reached i si (omega (arith, e)))))

      buffer_rest : InStands i → OutStands o → InRests i → OutRests o → BufferPorts c.room x.phase x.ending x.pending i.view o.view
          → (EachWire IsShut (i.wire ∷ []) × EachWire IsShut (o.wire ∷ [])) ⊎ BufferRests c.room i.wire o.wire
      buffer_rest si so ri ro (drained on none some xi yo) =
          let wt = ri.waits xi in
          let holds = holds_open c.room first.stage x i.view o.view i.got o.sent buffered on (waiting_open i.view xi) in
          let z : length x.pending ≡ 0 = ap length none in
          let all = wt.1 in
          let count = so.count in
          inr (inl (ro.asked yo, wt.0, omega (arith, all, holds, z, count)))
      buffer_rest si so ri ro (roomy on room xi yo) =
          let wt = ri.waits xi in
          let holds = holds_open c.room first.stage x i.view o.view i.got o.sent buffered on (waiting_open i.view xi) in
          let all = wt.1 in
          let count = so.count in
          inr (inr (inl (ro.unasked yo, wt.0, omega (arith, all, holds, room, count))))
      buffer_rest si so ri ro (full on room xi yo) =
          let holds = holds_open c.room first.stage x i.view o.view i.got o.sent buffered on (idle_open i.view xi) in
          let came = si.came in
          let count = so.count in
          let least : o.wire.sent + c.room ≤ i.wire.sent = omega (arith, came, holds, room, count) in
          elim (ri.idles xi) [
            | inl lane ↦ inr (inr (inr (inl (ro.unasked yo, inl lane, (least, inl lane)))))
            | inr fused ↦ let all = fused.1 in inr (inr (inr (inl (ro.unasked yo, inr fused.0, (least, inr (omega (arith, all, holds, room, count)))))))
          ]
      buffer_rest si so ri ro (behind_end xi yo) = inr (inr (inr (inr (ro.unasked yo, ri.shut (subst InClosed (sym xi) tt)))))
      buffer_rest si so ri ro (gone xi yo) = inl ((ri.shut xi, tt), (ro.shut yo, tt))

      in_row : (EachWire IsShut (i.wire ∷ []) × EachWire IsShut (o.wire ∷ [])) ⊎ BufferRests c.room i.wire o.wire → Still
      in_row (inl h) = inl h
      in_row (inr h) = inr (subst (λ (kd : Kind). RowRests g w k kd n.decider (i.wire ∷ []) (o.wire ∷ [])) (sym c.kind_is) h)

      buffers_picture : Laws (node.State (Machine first)) (node.State (Machine x)) (i ∷ []) (o ∷ [])
      buffers_picture = record {
        lawful = λ si so m. subst (λ (kd : Kind). RowLawful g w k kd n.decider (i.wire ∷ []) (o.wire ∷ [])) (sym c.kind_is) (buffer_given c.room first.stage (held x) i o si.0 so.0 buffered, buffers_demand si.0 so.0 m (demand i.wire) refl);
        rests = λ si so ri ro. in_row (buffer_rest si.0 so.0 ri.0 ro.0 (buffers_ports c.room x first i.view o.view law.size c.size r.started r.ports));
        matches = λ sink ri. let no : is_sink (Buffer c.room Backpressure) ≡ true = rw c.kind_is at sink in cc;
      }

    one_picture : Laws (node.State (Machine first)) (node.State (Machine x)) (i ∷ []) (o ∷ [])
    one_picture = elim (state_cases k n.kind n.decider first is_machine begins) [ inl c ↦ keeps_picture c | inr c ↦ buffers_picture c ]

  -- ---- one that drops

  module _ (first x : drop.Dropping) (i : InPort) (o : OutPort) (begins : LedAs n.kind k n.decider (Dropping first)) (same : w.moves k ≡ x.log.moves) (r : DropPortState x (record { ins = i.view ∷ []; outs = o.view ∷ [] }))
      (law : DropsAs first x (record { ins = i.view ∷ []; outs = o.view ∷ [] }) (i.got ∷ []) (o.sent ∷ [])) where
    drop_kind : DropsFirst k n.kind first
    drop_kind = drops_first k n.kind n.decider first begins

    drop_row : first.log.left ≡ None → InStands i → InRests i → OutRests o
        → (EachWire IsShut (i.wire ∷ []) × EachWire IsShut (o.wire ∷ [])) ⊎ DroppingRests (picks.nothing_held (picks.buffered drop_kind.policy drop_kind.room x.log.moves i.wire.list picks.empty_buffer).held) i.wire o.wire
    drop_row bare si ri ro =
        subst (λ (z : drop.Dropping). (EachWire IsShut (i.wire ∷ []) × EachWire IsShut (o.wire ∷ [])) ⊎ DroppingRests (picks.nothing_held (picks.buffered z.policy z.size x.log.moves i.wire.list picks.empty_buffer).held) i.wire o.wire) drop_kind.is.is
        (drops_rest first x i o law bare si ri ro r)

    drop_still : (EachWire IsShut (i.wire ∷ []) × EachWire IsShut (o.wire ∷ [])) ⊎ DroppingRests (picks.nothing_held (picks.buffered drop_kind.policy drop_kind.room x.log.moves i.wire.list picks.empty_buffer).held) i.wire o.wire
        → (EachWire IsShut (i.wire ∷ []) × EachWire IsShut (o.wire ∷ [])) ⊎ RowRests g w k n.kind n.decider (i.wire ∷ []) (o.wire ∷ [])
    drop_still (inl h) = inl h
    drop_still (inr h) = inr (subst (λ (kd : Kind). RowRests g w k kd n.decider (i.wire ∷ []) (o.wire ∷ [])) (sym drop_kind.kind_is) (row_rests g w k n.decider drop_kind.room x.log.moves same drop_kind.policy i.wire o.wire drop_kind.drops h))

    drops_row : InStands i → OutStands o → RowLawful g w k n.kind n.decider (i.wire ∷ []) (o.wire ∷ [])
    drops_row si so =
        subst (λ (kd : Kind). RowLawful g w k kd n.decider (i.wire ∷ []) (o.wire ∷ [])) (sym drop_kind.kind_is) (row_lawful g w k n.decider drop_kind.room x.log.moves same drop_kind.policy i.wire o.wire drop_kind.drops (drops_lawful first x i o law si so))

    -- one that follows moves: it meets its row by what its next move is to be, or has the cause of a misfit
    module _ (plans : Plans) (ms : List ℕ) (left_is : left g w plans k ≡ x.log.left) (follows : x.log.left ≡ Some ms) where
      abbrev Empty : Policy → ℕ → Bool
      Empty p m = picks.nothing_held (picks.buffered p m (w.moves k) i.wire.list picks.empty_buffer).held

      row_by : (p : Policy) (next : Next) (comes : List Outlook) → p ≢ Backpressure → DroppingRestsBy next (Empty p drop_kind.room) i.wire o.wire → RoleRestsBy g w comes next k (a_flow (buffers drop_kind.room p)) n.decider (i.wire ∷ []) (o.wire ∷ [])
      row_by Backpressure next comes drops h = absurd (drops refl)
      row_by DropHead next comes drops h = h
      row_by DropTail next comes drops h = h
      row_by DropBuffer next comes drops h = h
      row_by DropNew next comes drops h = h
      row_by Fail next comes drops h = h

      cause_by : (p : Policy) (rest : Option (List ℕ)) (come : Outlook) → p ≢ Backpressure → DropMisfits p drop_kind.room (next_move rest) (w.moves k) come → RoleMisfits g w rest k (a_flow (buffers drop_kind.room p)) (come ∷ [])
      cause_by Backpressure rest come drops h = absurd (drops refl)
      cause_by DropHead rest come drops h = h
      cause_by DropTail rest come drops h = h
      cause_by DropBuffer rest come drops h = h
      cause_by DropNew rest come drops h = h
      cause_by Fail rest come drops h = h

      own_lawful : (kd : Kind) → kd ≡ Buffer drop_kind.room drop_kind.policy → RowLawful g w k kd n.decider (i.wire ∷ []) (o.wire ∷ []) → RoleLawfulBy g w plans k (role_of kd) n.decider (i.wire ∷ []) (o.wire ∷ [])
      own_lawful kd is h =
          subst (λ (t : Kind). RoleLawfulBy g w plans k (role_of t) n.decider (i.wire ∷ []) (o.wire ∷ [])) (sym is) (subst (λ (t : Kind). RowLawful g w k t n.decider (i.wire ∷ []) (o.wire ∷ [])) is h)

      stopped : (comes : List Outlook) → AllMayPass comes (i.got ∷ []) → x.log.stuck ≡ true → RowRestsBy g w plans k n.kind n.decider comes (i.wire ∷ []) (o.wire ∷ [])
      stopped comes may stuck =
          let c = states_stop comes (Dropping first) (Dropping x) (record { ins = i.view ∷ []; outs = o.view ∷ [] }) (i.got ∷ []) (o.sent ∷ []) r law may stuck in
          let policy_is : x.policy ≡ drop_kind.policy = law.policy ∙ ap (λ (z : drop.Dropping). z.policy) drop_kind.is.is in
          let size_is : x.size ≡ drop_kind.room = law.size ∙ ap (λ (z : drop.Dropping). z.size) drop_kind.is.is in
          let sized = subst (λ (m : ℕ). DropMisfits drop_kind.policy m (next_move x.log.left) x.log.moves c.0) size_is (subst (λ (p : Policy). DropMisfits p x.size (next_move x.log.left) x.log.moves c.0) policy_is c.1.1) in
          let told = subst (λ (ls : List ℕ). DropMisfits drop_kind.policy drop_kind.room (next_move x.log.left) ls c.0) (sym same) sized in
          let here = cause_by drop_kind.policy x.log.left c.0 drop_kind.drops told in
          subst (λ (t : Kind). RowRestsBy g w plans k t n.decider comes (i.wire ∷ []) (o.wire ∷ [])) (sym drop_kind.kind_is)
          (inr (subst (λ (l : Option (List ℕ)). RoleMisfits g w l k (a_flow (buffers drop_kind.room drop_kind.policy)) comes) (sym left_is) (subst (λ (os : List Outlook). RoleMisfits g w x.log.left k (a_flow (buffers drop_kind.room drop_kind.policy)) os) (sym c.1.0) here)))

      goes_on : (comes : List Outlook) → x.log.stuck ≡ false → InRests i → OutRests o → (EachWire IsShut (i.wire ∷ []) × EachWire IsShut (o.wire ∷ [])) ⊎ RowRestsBy g w plans k n.kind n.decider comes (i.wire ∷ []) (o.wire ∷ [])
      goes_on comes calm ri ro = by (led_rests first x i o law ms (Empty drop_kind.policy drop_kind.room) follows calm ri ro r)
        where
          by : (EachWire IsShut (i.wire ∷ []) × EachWire IsShut (o.wire ∷ [])) ⊎ DroppingRestsBy (next_move (Some ms)) (Empty drop_kind.policy drop_kind.room) i.wire o.wire
              → (EachWire IsShut (i.wire ∷ []) × EachWire IsShut (o.wire ∷ [])) ⊎ RowRestsBy g w plans k n.kind n.decider comes (i.wire ∷ []) (o.wire ∷ [])
          by (inl h) = inl h
          by (inr h) =
              inr
              (subst (λ (t : Kind). RowRestsBy g w plans k t n.decider comes (i.wire ∷ []) (o.wire ∷ [])) (sym drop_kind.kind_is)
              (inl (subst (λ (l : Option (List ℕ)). RoleRestsBy g w comes (next_move l) k (a_flow (buffers drop_kind.room drop_kind.policy)) n.decider (i.wire ∷ []) (o.wire ∷ [])) (sym (left_is ∙ follows)) (row_by drop_kind.policy (next_move (Some ms)) comes drop_kind.drops h))))

      led_stays : (comes : List Outlook) → AllMayPass comes (i.got ∷ []) → InRests i → OutRests o → (stuck : Bool) → x.log.stuck ≡ stuck
          → (EachWire IsShut (i.wire ∷ []) × EachWire IsShut (o.wire ∷ [])) ⊎ RowRestsBy g w plans k n.kind n.decider comes (i.wire ∷ []) (o.wire ∷ [])
      led_stays comes may ri ro true e = inr (stopped comes may e)
      led_stays comes may ri ro false e = goes_on comes e ri ro

      pub drops_led : PictureLawsBy {N = IslandNode S D L H B} node_port_state (node_law sources drains w.book) node_asking node_moves sink_ended g w plans k n (node.State (Dropping first)) (node.State (Dropping x)) (i ∷ []) (o ∷ [])
      drops_led = record {
        lawful = λ si so m. own_lawful n.kind drop_kind.kind_is (drops_row si.0 so.0);
        rests = λ comes may si so ri ro. led_stays comes may ri.0 ro.0 x.log.stuck refl;
        matches = λ sink ri. let no : is_sink (Buffer drop_kind.room drop_kind.policy) ≡ true = rw drop_kind.kind_is at sink in cc;
      }

    drops_picture : first.log.left ≡ None → Laws (node.State (Dropping first)) (node.State (Dropping x)) (i ∷ []) (o ∷ [])
    drops_picture bare = record {
      lawful = λ si so m. drops_row si.0 so.0;
      rests = λ si so ri ro. drop_still (drop_row bare si.0 ri.0 ro.0);
      matches = λ sink ri. let no : is_sink (Buffer drop_kind.room drop_kind.policy) ≡ true = rw drop_kind.kind_is at sink in cc;
    }

  -- ---- a recover

  record RecoverNow (first : Recover) (v : View) (took gave : List (List Item)) : Type 0 where
    now : Recover
    port_state_holds : RecoverPortState now v
    law_holds : RecoversAs first now v took gave

  recover_now : (first : Recover) (x : IslandNode S D L H B) (v : View) (took gave : List (List Item)) → node_port_state x v → node_law sources drains w.book (node.State (Recovering first)) x v took gave → RecoverNow first v took gave
  recover_now first (node.State (Recovering x)) v took gave r law = record { now = x; port_state_holds = r; law_holds = law }
  recover_now first x v took gave r law = absurd law

  module _ (first x : Recover) (i : InPort) (o : OutPort) (begins : LedAs n.kind k n.decider (Recovering first)) (same : w.moves k ≡ x.moves) (r : RecoverPortState x (record { ins = i.view ∷ []; outs = o.view ∷ [] }))
      (law : RecoversAs first x (record { ins = i.view ∷ []; outs = o.view ∷ [] }) (i.got ∷ []) (o.sent ∷ [])) where
    recover_kind : IsRecover n.kind first
    recover_kind = recovers_first k n.kind n.decider first begins

    abbrev LastAsk : Type 0
    LastAsk = Moments {N = IslandNode S D L H B} node_port_state (node_law sources drains w.book) node_asking node_moves (node.State (Recovering first)) (node.State (Recovering x)) (i ∷ []) (o ∷ []) 0

    -- when it last asked it had given all that came, and was asked for more
    recover_asked : InStands i → OutStands o → LastAsk → demand i.wire ≤ wanted o.wire
    recover_asked si so m =
        let e = m.0 in
        let l = recover_now first e.old e.knew e.had e.given e.port_state_held e.law_held in
        let p = one_views (recover_in l.now.still l.now) e.knew l.port_state_holds.ports in
        let moving = waits_moving l.now p.x p.y l.now.still p.holds (sym p.inp ∙ e.waited) in
        let ports = recover_ports l.now p.x p.y l.port_state_holds.started (subst (λ b. recover_in b l.now p.x p.y) moving p.holds).0 in
        let was = waits_asked l.now p.x p.y ports (sym p.inp ∙ e.waited) in
        let asked : out_at e.knew 0 ≡ Available = p.out ∙ was.1.1 in
        let b = began e.had i.got i.want e.took_on e.one_more in
        let q = given_one e.given o.sent o.want e.gave_on (e.wants 0 asked) in
        let all = passed_all first l.now e.knew e.had e.given l.law_holds b.part q.0 b.is q.1.0 moving was.0 was.1.0 in
        let one = b.one_more in
        let reach = si.reach in
        let more = q.1.1.1 in
        let wants = so.wants in
        omega (arith, all, one, reach, more, wants)

    recover_wants : InStands i → OutStands o → LastAsk → 1 ≤ demand i.wire → (true ≡ true) × (length (take (demand i.wire - 1) i.wire.list) < wanted o.wire)
    recover_wants si so m some =
        let few = take_few (demand i.wire - 1) i.wire.list in
        let asked = recover_asked si so m in
        (refl, omega (arith, few, asked, some))

    recover_still : (EachWire IsShut (i.wire ∷ []) × EachWire IsShut (o.wire ∷ [])) ⊎ StageRests (as_it_is 1 true) i.wire o.wire
        → (EachWire IsShut (i.wire ∷ []) × EachWire IsShut (o.wire ∷ [])) ⊎ RowRests g w k n.kind n.decider (i.wire ∷ []) (o.wire ∷ [])
    recover_still (inl h) = inl h
    recover_still (inr h) = inr (recover_kind.rests g w k n.decider (i.wire ∷ []) (o.wire ∷ []) h)

    recover_row : InStands i → OutStands o → (1 ≤ demand i.wire → LastAsk) → RowLawful g w k n.kind n.decider (i.wire ∷ []) (o.wire ∷ [])
    recover_row si so m =
        recover_kind.lawful g w k n.decider (i.wire ∷ []) (o.wire ∷ []) (
          (recover_given first x i o law si so, λ some. recover_wants si so (m some) some),
          subst (λ (ms : List ℕ). RecoverLawful ms i.wire o.wire) (sym same) (recover_moved first x i o law si so),
        )

    -- one that follows a move or none: its row is its kind's own, or it has no move and its input failed, or it cannot make its move
    module _ (plans : Plans) (left_is : left g w plans k ≡ x.left) where
      abbrev Row : List Outlook → Type 0
      Row comes = (EachWire IsShut (i.wire ∷ []) × EachWire IsShut (o.wire ∷ [])) ⊎ RowRestsBy g w plans k n.kind n.decider comes (i.wire ∷ []) (o.wire ∷ [])

      abbrev Own : Type 0
      Own = RoleRests g w k (role.a_flow (role.recovers recover_kind.element)) n.decider (i.wire ∷ []) (o.wire ∷ [])

      -- by its role, and by what it follows still
      as_row : (comes : List Outlook) → RecoverRestsBy (next_move x.left) (w.moves k) comes Own (i.wire ∷ []) ⊎ RecoverCause (next_move x.left) comes → RowRestsBy g w plans k n.kind n.decider comes (i.wire ∷ []) (o.wire ∷ [])
      as_row comes h =
          subst (λ (t : Role). RoleRestsBy g w comes (next_move (left g w plans k)) k t n.decider (i.wire ∷ []) (o.wire ∷ []) ⊎ RoleMisfits g w (left g w plans k) k t comes) (sym recover_kind.role_is)
          (subst (λ (l : Option (List ℕ)). RecoverRestsBy (next_move l) (w.moves k) comes Own (i.wire ∷ []) ⊎ RecoverCause (next_move l) comes) (sym left_is) h)

      own_row : (next : Next) (comes : List Outlook) → Own → RecoverRestsBy next (w.moves k) comes Own (i.wire ∷ [])
      own_row Free comes h = h
      own_row (Move m) comes h = h
      own_row UsedUp comes h = inl h

      moves_on : (comes : List Outlook) → (EachWire IsShut (i.wire ∷ []) × EachWire IsShut (o.wire ∷ [])) ⊎ StageRests (as_it_is 1 true) i.wire o.wire → Row comes
      moves_on comes (inl h) = inl h
      moves_on comes (inr h) = inr (as_row comes (inl (own_row (next_move x.left) comes (recover_kind.own_rests g w k n.decider (i.wire ∷ []) (o.wire ∷ []) h))))

      -- without a move, behind a failure
      without : (next : Next) (comes : List Outlook) → StillBy next false i.view → w.moves k ≡ [] → ShutByFailure comes (i.wire ∷ []) → RecoverRestsBy next (w.moves k) comes Own (i.wire ∷ [])
      without Free comes s none h = absurd s
      without (Move m) comes s none h = let no : false ≡ true = s.0 in cc
      without UsedUp comes s none h = inr (none, h)

      rests_still : (comes : List Outlook) → AllMayPass comes (i.got ∷ []) → InStands i → InRests i → (stuck : Bool) → x.stuck ≡ stuck → x.still ≡ true → Row comes
      rests_still comes may si ri true e still = inr (as_row comes (inr (states_stop comes (Recovering first) (Recovering x) (record { ins = i.view ∷ []; outs = o.view ∷ [] }) (i.got ∷ []) (o.sent ∷ []) r law may e)))
      rests_still comes may si ri false e still =
          let stands : recover_in true x i.view o.view = subst (λ (b : Bool). recover_in b x i.view o.view) still r.ports in
          let failed : FailedAt i.view law.by.law.ins = recovers.rests_without first x (record { ins = i.view ∷ []; outs = o.view ∷ [] }) (i.got ∷ []) (o.sent ∷ []) still e r law in
          inr (as_row comes (inl (without (next_move x.left) comes (subst (λ (b : Bool). StillBy (next_move x.left) b i.view) e stands.1.1) (same ∙ stands.1.0) (shut_by_failure first x i o law comes may si ri failed))))

      led_row : (comes : List Outlook) → AllMayPass comes (i.got ∷ []) → InStands i → OutStands o → InRests i → OutRests o → (still : Bool) → x.still ≡ still → Row comes
      led_row comes may si so ri ro true e = rests_still comes may si ri x.stuck refl e
      led_row comes may si so ri ro false e =
          moves_on comes (recover_stays first x i o law e si so ri ro (recover_ports x i.view o.view r.started (subst (λ b. recover_in b x i.view o.view) e r.ports).0))

      pub recover_led : PictureLawsBy {N = IslandNode S D L H B} node_port_state (node_law sources drains w.book) node_asking node_moves sink_ended g w plans k n (node.State (Recovering first)) (node.State (Recovering x)) (i ∷ []) (o ∷ [])
      recover_led = record {
        lawful = λ si so m. recover_kind.lawful_by g w plans k n.decider (i.wire ∷ []) (o.wire ∷ []) (recover_row si.0 so.0 (λ some. m 0 (reached i si.0 some)));
        rests = λ comes may si so ri ro. led_row comes may si.0 so.0 ri.0 ro.0 x.still refl;
        matches = λ sink ri. absurd (not_both recover_kind.no_sink sink);
      }

    recover_picture : first.left ≡ None → Laws (node.State (Recovering first)) (node.State (Recovering x)) (i ∷ []) (o ∷ [])
    recover_picture bare = record {
      lawful = λ si so m. recover_row si.0 so.0 (λ some. m 0 (reached i si.0 some));
      rests = λ si so ri ro. recover_still (recover_rests first x i o law bare si.0 so.0 ri.0 ro.0 r);
      matches = λ sink ri. absurd (not_both recover_kind.no_sink sink);
    }

  none_left : (moves : List ℕ) (left : Option (List ℕ)) → plan_of moves left ≡ None → left ≡ None
  none_left moves None e = refl
  none_left moves (Some l) e = cc

  one_picture_of : (first x : StateLogic) (i : InPort) (o : OutPort) → FirstState k n first → state_plan first ≡ None → Told w k x → StatePortState x (record { ins = i.view ∷ []; outs = o.view ∷ [] })
      → StateLaw first x (record { ins = i.view ∷ []; outs = o.view ∷ [] }) (i.got ∷ []) (o.sent ∷ []) → Laws (node.State first) (node.State x) (i ∷ []) (o ∷ [])
  one_picture_of (Machine first) (Machine x) i o f bare told r law = let b = led_machine n.kind k n.decider first f.begins.as_kind in one_picture first x i o b.0 b.1 r law
  one_picture_of (Dropping first) (Dropping x) i o f bare told r law = drops_picture first x i o f.begins.as_kind (told x.log.moves refl) r law (none_left first.log.moves first.log.left bare)
  one_picture_of (Recovering first) (Recovering x) i o f bare told r law = recover_picture first x i o f.begins.as_kind (told x.moves refl) r law (none_left first.moves first.left bare)
  one_picture_of (Obeying first) (Obeying x) i o f bare told r law = valve_picture L H B sources drains g w k n first x i o f.begins.as_kind (told x.moves refl) r law (none_left first.moves first.left bare)
  one_picture_of (Tripping first) (Tripping x) i o f bare told r law = trip_picture L H B sources drains g w k n first x i o (led_trip n.kind k n.decider first f.begins.as_kind) r law
  one_picture_of first x i o f bare told r law = absurd law

  -- it has one input and one output
  abbrev pub NotOne : StateLogic → List InPort → List OutPort → Type 0
  NotOne x is os = StatePortState x (record { ins = map (λ (i : InPort). i.view) is; outs = map (λ (o : OutPort). o.view) os }) → ⊥

  pub no_input : (x : StateLogic) (os : List OutPort) → NotOne x [] os
  no_input (Machine x) os r = r.ports
  no_input (Dropping x) os r = r.ports
  no_input (Recovering x) os r = r.ports
  no_input (Obeying x) os r = r.ports.0
  no_input (Tripping x) os r = r.ports

  pub no_output : (x : StateLogic) (i : InPort) → NotOne x (i ∷ []) []
  no_output (Machine x) i r = r.ports
  no_output (Dropping x) i r = r.ports
  no_output (Recovering x) i r = r.ports
  no_output (Obeying x) i r = r.ports.0
  no_output (Tripping x) i r = r.ports

  pub two_outputs : (x : StateLogic) (i : InPort) (o p : OutPort) (os : List OutPort) → NotOne x (i ∷ []) (o ∷ p ∷ os)
  two_outputs (Machine x) i o p os r = r.ports
  two_outputs (Dropping x) i o p os r = r.ports
  two_outputs (Recovering x) i o p os r = r.ports
  two_outputs (Obeying x) i o p os r = r.ports.0
  two_outputs (Tripping x) i o p os r = r.ports

  pub two_inputs : (x : StateLogic) (i j : InPort) (is : List InPort) (os : List OutPort) → NotOne x (i ∷ j ∷ is) os
  two_inputs (Machine x) i j is os r = r.ports
  two_inputs (Dropping x) i j is os r = r.ports
  two_inputs (Recovering x) i j is os r = r.ports
  two_inputs (Obeying x) i j is os r = r.ports.0
  two_inputs (Tripping x) i j is os r = r.ports

  pub state_picture : (first x : StateLogic) (is : List InPort) (os : List OutPort) → FirstState k n first → state_plan first ≡ None → Told w k x → StatePortState x (record { ins = map (λ (i : InPort). i.view) is; outs = map (λ (o : OutPort). o.view) os })
      → StateLaw first x (record { ins = map (λ (i : InPort). i.view) is; outs = map (λ (o : OutPort). o.view) os }) (map (λ (i : InPort). i.got) is) (map (λ (o : OutPort). o.sent) os) → Laws (node.State first) (node.State x) is os
  state_picture first x (i ∷ []) (o ∷ []) f bare told r law = one_picture_of first x i o f bare told r law
  state_picture first x [] os f bare told r law = absurd (no_input x os r)
  state_picture first x (i ∷ []) [] f bare told r law = absurd (no_output x i r)
  state_picture first x (i ∷ []) (o ∷ p ∷ os) f bare told r law = absurd (two_outputs x i o p os r)
  state_picture first x (i ∷ j ∷ is) os f bare told r law = absurd (two_inputs x i j is os r)
