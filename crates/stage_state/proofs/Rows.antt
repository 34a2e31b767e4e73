-- A stage with state that was started is open where a call may come, and has nothing to do over its own ports between calls.
use Rattle.std.specs.Prelude.{slice_index_or}
use Rattle.std.proofs.Common.{◌≡◌, ℕ, ◌+◌, Bool, true, false, ◌⊎◌, inl, inr, List, [], ◌∷◌, ◌++◌, length, refl, sym, ap, ◌∙◌, subst, arith, length-append, Option, Some, None}
use Rattle.elem_core.specs.Tree.{Tree}
use Rattle.elem_core.specs.declared.item.Item.{Item}
use Rattle.port_core.specs.declared.view.InView.{InView}
use Rattle.port_core.specs.declared.view.InView.TheVariants.{Idle, Pulled, Finished, Cancelled}
use Rattle.port_core.specs.declared.view.OutView.{OutView}
use Rattle.port_core.specs.declared.view.OutView.TheVariants as outlet
use Rattle.port_core.specs.View.{View, in_at, out_at, OneOneOf, IsInOpen, IsOutOpen}
use Rattle.port_core.specs.Call.{Call, starts, CallAllowed}
use Rattle.stream_model.specs.Outlook.{End, unended}
use Rattle.stream_model.specs.Machine.{State, going, Run, Machine, run}
use Rattle.stream_model.specs.Linear.{Stage, Work}
use Rattle.stream_model.specs.OneWay.{holds_at_end}
use Rattle.stage_core.specs.Held.{owing}
use Rattle.stage_core.specs.Law.{ends_by, Law}
use Rattle.stage_core.specs.OwnPorts.{OwnRests}
use Rattle.stage_core.proofs.OwnRows.{waiting_rests, idle_rests, closed_rests}
use Rattle.stage_core.proofs.OpenPorts.{may_come, closed_ports}
use Rattle.stage_core.specs.declared.phase.Phase.{Phase}
use Rattle.stage_core.specs.declared.phase.Phase.TheVariants.{New, Open, Closed}
use Rattle.step_work.specs.declared.ending.StateEnd.{StateEnd}
use Rattle.step_work.specs.declared.ending.StateEnd.TheVariants.{Lasting, Ended, Failed}
use Rattle.stage_state.specs.Buffering.{buffer}
use Rattle.stage_state.specs.Resting.{begin_buffer, BufferOwnRests}
use Rattle.stage_state.specs.States.{Logic, held, held_in, keep_port_state, buffer_port_state, port_state_by, port_state}
use Rattle.stage_state.proofs.Buffers.{buffer_run}

-- ---- where a call may come, a stage that was started is open

open_keep : (p : Phase) (e : StateEnd) (a : Bool) (k : List Tree) (w : Work) (x : InView) (y : OutView) → (p ≡ New → ⊥) → (IsInOpen x ⊎ IsOutOpen y) → keep_port_state p e a k w x y → p ≡ Open
open_keep Open e a k w x y n h r = refl
open_keep New e a k w x y n h r = absurd (n refl)
open_keep Closed e a k w x y n h r = absurd (closed_ports x y h r)

open_buffer : (size : ℕ) (p : Phase) (e : StateEnd) (a : Bool) (k : List Tree) (x : InView) (y : OutView) → (p ≡ New → ⊥) → (IsInOpen x ⊎ IsOutOpen y) → buffer_port_state size p e a k x y → p ≡ Open
open_buffer size Open e a k x y n h r = refl
open_buffer size New e a k x y n h r = absurd (n refl)
open_buffer size Closed e a k x y n h r = absurd (closed_ports x y h r)

open_by : (size : Option ℕ) (p : Phase) (e : StateEnd) (a : Bool) (k : List Tree) (w : Work) (x : InView) (y : OutView) → (p ≡ New → ⊥) → (IsInOpen x ⊎ IsOutOpen y) → port_state_by size p e a k w x y → p ≡ Open
open_by None p e a k w x y n h r = open_keep p e a k w x y n h r
open_by (Some size) p e a k w x y n h r = open_buffer size p e a k x y n h r

open_lists : (l : Logic) (call : Call) (xs : List InView) (ys : List OutView) → (l.phase ≡ New → ⊥) → (call ≡ starts → ⊥) → CallAllowed call (record { ins = xs; outs = ys })
    → OneOneOf (port_state_by l.size l.phase l.ending l.asked l.pending l.stage.work) xs ys → l.phase ≡ Open
open_lists l call (x ∷ []) (y ∷ []) n s h r = open_by l.size l.phase l.ending l.asked l.pending l.stage.work x y n (may_come call x y s h) r
open_lists l call [] ys n s h r = absurd r
open_lists l call (x ∷ []) [] n s h r = absurd r
open_lists l call (x ∷ []) (y ∷ z ∷ ys) n s h r = absurd r
open_lists l call (x ∷ u ∷ xs) ys n s h r = absurd r

pub called_open : (l : Logic) (call : Call) (v : View) → (l.phase ≡ New → ⊥) → (call ≡ starts → ⊥) → CallAllowed call v → port_state l v → l.phase ≡ Open
called_open l call v n s h r = open_lists l call v.ins v.outs n s h r

-- ---- a stage that keeps

module _ (m : Machine Stage Tree) (start : Run Stage Tree) (took gave : List Item) where
  abbrev LawOf : Phase → StateEnd → List Tree → Stage → InView → OutView → Type 0
  LawOf p e k s x y = Law m start (held_in p e k s) x y took gave

  abbrev Resting : (p : Phase) (e : StateEnd) (k : List Tree) (s : Stage) (x : InView) (y : OutView) → LawOf p e k s x y → Type 0
  Resting p e k s x y law = OwnRests m start (holds_at_end s.work) x y law.in_list law.out_list

  waiting : (k : List Tree) (s : Stage) → k ≡ [] → (law : LawOf Open Lasting k s Pulled outlet.Available) → Resting Open Lasting k s Pulled outlet.Available law
  waiting k s none law =
      subst (λ (h : List Tree). (law : LawOf Open Lasting h s Pulled outlet.Available) → Resting Open Lasting h s Pulled outlet.Available law) (sym none) (λ law. waiting_rests m start (holds_at_end s.work) (going s) took gave law) law

  at_ports : (p : Phase) (e : StateEnd) (a : Bool) (k : List Tree) (s : Stage) (x : InView) (y : OutView) → (p ≡ New → ⊥) → keep_port_state p e a k s.work x y → (law : LawOf p e k s x y) → Resting p e k s x y law
  at_ports New e a k s x y n r law = absurd (n refl)
  at_ports Closed e a k s x y n r law = closed_rests m start (holds_at_end s.work) x y law.in_list law.out_list r
  at_ports Open Lasting true k s Pulled outlet.Available n r law = waiting k s r.0 law
  at_ports Open Lasting false k s Idle outlet.Unpulled n r law = idle_rests m start (holds_at_end s.work) law.in_list law.out_list
  at_ports Open Ended false k s Finished outlet.Unpulled n r law = inr (inr (inr (r.1, (refl, refl), refl)))
  at_ports Open (Failed c) false k s Finished outlet.Unpulled n r law = inr (inr (inr (r.1, (refl, refl), refl)))
  at_ports Open Lasting true k s Pulled outlet.Unpulled n r law = absurd r
  at_ports Open Lasting true k s Pulled outlet.Closed n r law = absurd r
  at_ports Open Lasting true k s Pulled outlet.Cancelled n r law = absurd r
  at_ports Open Lasting true k s Idle y n r law = absurd r
  at_ports Open Lasting true k s Finished y n r law = absurd r
  at_ports Open Lasting true k s Cancelled y n r law = absurd r
  at_ports Open Lasting false k s Idle outlet.Available n r law = absurd r
  at_ports Open Lasting false k s Idle outlet.Closed n r law = absurd r
  at_ports Open Lasting false k s Idle outlet.Cancelled n r law = absurd r
  at_ports Open Lasting false k s Pulled y n r law = absurd r
  at_ports Open Lasting false k s Finished y n r law = absurd r
  at_ports Open Lasting false k s Cancelled y n r law = absurd r
  at_ports Open Ended true k s x y n r law = absurd r
  at_ports Open Ended false k s Finished outlet.Available n r law = absurd r
  at_ports Open Ended false k s Finished outlet.Closed n r law = absurd r
  at_ports Open Ended false k s Finished outlet.Cancelled n r law = absurd r
  at_ports Open Ended false k s Idle y n r law = absurd r
  at_ports Open Ended false k s Pulled y n r law = absurd r
  at_ports Open Ended false k s Cancelled y n r law = absurd r
  at_ports Open (Failed c) true k s x y n r law = absurd r
  at_ports Open (Failed c) false k s Finished outlet.Available n r law = absurd r
  at_ports Open (Failed c) false k s Finished outlet.Closed n r law = absurd r
  at_ports Open (Failed c) false k s Finished outlet.Cancelled n r law = absurd r
  at_ports Open (Failed c) false k s Idle y n r law = absurd r
  at_ports Open (Failed c) false k s Pulled y n r law = absurd r
  at_ports Open (Failed c) false k s Cancelled y n r law = absurd r

  at_lists : (l : Logic) (xs : List InView) (ys : List OutView) → (l.phase ≡ New → ⊥) → OneOneOf (keep_port_state l.phase l.ending l.asked l.pending l.stage.work) xs ys
      → (law : Law m start (held l) (slice_index_or xs 0 Cancelled) (slice_index_or ys 0 outlet.Closed) took gave) → OwnRests m start (holds_at_end l.stage.work) (slice_index_or xs 0 Cancelled) (slice_index_or ys 0 outlet.Closed) law.in_list law.out_list
  at_lists l (x ∷ []) (y ∷ []) n r law = at_ports l.phase l.ending l.asked l.pending l.stage x y n r law
  at_lists l [] ys n r law = absurd r
  at_lists l (x ∷ []) [] n r law = absurd r
  at_lists l (x ∷ []) (y ∷ z ∷ ys) n r law = absurd r
  at_lists l (x ∷ u ∷ xs) ys n r law = absurd r

  pub keeping_rests : (l : Logic) (v : View) → l.size ≡ None → (l.phase ≡ New → ⊥) → port_state l v → (law : Law m start (held l) (in_at v 0) (out_at v 0) took gave) → OwnRests m start (holds_at_end l.stage.work) (in_at v 0) (out_at v 0) law.in_list law.out_list
  keeping_rests l v none n r law = at_lists l v.ins v.outs n (subst (λ size. OneOneOf (port_state_by size l.phase l.ending l.asked l.pending l.stage.work) v.ins v.outs) none r) law

-- ---- a buffer

module _ (n : ℕ) (s : Stage) (took gave : List Item) where
  abbrev BufferLaw : Phase → StateEnd → List Tree → Stage → InView → OutView → Type 0
  BufferLaw p e k t x y = Law (buffer n) (begin_buffer s) (held_in p e k t) x y took gave

  -- what it took is what it gave and what it holds
  pub counts : (k : List Tree) (st : State Stage) (x : InView) (y : OutView) → (law : Law (buffer n) (begin_buffer s) (owing (record { gave = k; state = st })) x y took gave) → law.in_end ≡ unended → length law.in_list ≡ length law.out_list + length k
  counts k st x y law u =
      let now : run (buffer n) (begin_buffer s) law.in_list ≡ record { gave = law.out_list ++ k; state = st } = ap (λ (e : End). ends_by (buffer n) (run (buffer n) (begin_buffer s) law.in_list) e) (sym u) ∙ law.keeps.1.0 in
      let all : law.in_list ≡ law.out_list ++ k = ap (λ (z : Run Stage Tree). z.gave) (sym (buffer_run n s law.in_list) ∙ now) in
      ap length all ∙ length-append law.out_list k

  buffer_at : (p : Phase) (e : StateEnd) (a : Bool) (k : List Tree) (t : Stage) (x : InView) (y : OutView) → (p ≡ New → ⊥) → buffer_port_state n p e a k x y → (law : BufferLaw p e k t x y) → BufferOwnRests n x y law.in_list law.out_list
  buffer_at New e a k t x y nn r law = absurd (nn refl)
  buffer_at Closed e a k t Finished outlet.Closed nn r law = inl (refl, refl)
  buffer_at Closed e a k t Finished outlet.Cancelled nn r law = inl (refl, refl)
  buffer_at Closed e a k t Cancelled outlet.Closed nn r law = inl (refl, refl)
  buffer_at Closed e a k t Cancelled outlet.Cancelled nn r law = inl (refl, refl)
  buffer_at Closed e a k t Finished outlet.Unpulled nn r law = absurd r
  buffer_at Closed e a k t Finished outlet.Available nn r law = absurd r
  buffer_at Closed e a k t Cancelled outlet.Unpulled nn r law = absurd r
  buffer_at Closed e a k t Cancelled outlet.Available nn r law = absurd r
  buffer_at Closed e a k t Idle y nn r law = absurd r
  buffer_at Closed e a k t Pulled y nn r law = absurd r
  buffer_at Open Lasting true k t Pulled outlet.Available nn r law =
      let c = counts k (going t) Pulled outlet.Available law law.took_as in
      let z : length k ≡ 0 = ap length r.0 in
      inr (inl ((refl, refl), (refl, refl), omega (arith, c, z)))
  buffer_at Open Lasting false k t Pulled outlet.Unpulled nn r law =
      let c = counts k (going t) Pulled outlet.Unpulled law law.took_as in
      inr (inr (inl ((refl, refl), (refl, refl), omega (arith, c, r))))
  buffer_at Open Lasting false k t Idle outlet.Unpulled nn r law =
      let c = counts k (going t) Idle outlet.Unpulled law law.took_as in
      inr (inr (inr (inl ((refl, refl), inr (refl, refl), (omega (arith, c, r.0), inr (omega (arith, c, r.0)))))))
  buffer_at Open Ended false k t Finished outlet.Unpulled nn r law = inr (inr (inr (inr ((refl, refl), refl))))
  buffer_at Open Lasting true k t Pulled outlet.Unpulled nn r law = absurd r
  buffer_at Open Lasting true k t Pulled outlet.Closed nn r law = absurd r
  buffer_at Open Lasting true k t Pulled outlet.Cancelled nn r law = absurd r
  buffer_at Open Lasting true k t Idle y nn r law = absurd r
  buffer_at Open Lasting true k t Finished y nn r law = absurd r
  buffer_at Open Lasting true k t Cancelled y nn r law = absurd r
  buffer_at Open Lasting false k t Pulled outlet.Available nn r law = absurd r
  buffer_at Open Lasting false k t Pulled outlet.Closed nn r law = absurd r
  buffer_at Open Lasting false k t Pulled outlet.Cancelled nn r law = absurd r
  buffer_at Open Lasting false k t Idle outlet.Available nn r law = absurd r
  buffer_at Open Lasting false k t Idle outlet.Closed nn r law = absurd r
  buffer_at Open Lasting false k t Idle outlet.Cancelled nn r law = absurd r
  buffer_at Open Lasting false k t Finished y nn r law = absurd r
  buffer_at Open Lasting false k t Cancelled y nn r law = absurd r
  buffer_at Open Ended true k t x y nn r law = absurd r
  buffer_at Open Ended false k t Finished outlet.Available nn r law = absurd r
  buffer_at Open Ended false k t Finished outlet.Closed nn r law = absurd r
  buffer_at Open Ended false k t Finished outlet.Cancelled nn r law = absurd r
  buffer_at Open Ended false k t Idle y nn r law = absurd r
  buffer_at Open Ended false k t Pulled y nn r law = absurd r
  buffer_at Open Ended false k t Cancelled y nn r law = absurd r
  buffer_at Open (Failed c) a k t x y nn r law = absurd r

  buffer_lists : (l : Logic) (xs : List InView) (ys : List OutView) → (l.phase ≡ New → ⊥) → OneOneOf (buffer_port_state n l.phase l.ending l.asked l.pending) xs ys
      → (law : Law (buffer n) (begin_buffer s) (held l) (slice_index_or xs 0 Cancelled) (slice_index_or ys 0 outlet.Closed) took gave) → BufferOwnRests n (slice_index_or xs 0 Cancelled) (slice_index_or ys 0 outlet.Closed) law.in_list law.out_list
  buffer_lists l (x ∷ []) (y ∷ []) nn r law = buffer_at l.phase l.ending l.asked l.pending l.stage x y nn r law
  buffer_lists l [] ys nn r law = absurd r
  buffer_lists l (x ∷ []) [] nn r law = absurd r
  buffer_lists l (x ∷ []) (y ∷ z ∷ ys) nn r law = absurd r
  buffer_lists l (x ∷ u ∷ xs) ys nn r law = absurd r

  pub buffer_rests : (l : Logic) (v : View) → l.size ≡ Some n → (l.phase ≡ New → ⊥) → port_state l v → (law : Law (buffer n) (begin_buffer s) (held l) (in_at v 0) (out_at v 0) took gave) → BufferOwnRests n (in_at v 0) (out_at v 0) law.in_list law.out_list
  buffer_rests l v is nn r law = buffer_lists l v.ins v.outs nn (subst (λ size. OneOneOf (port_state_by size l.phase l.ending l.asked l.pending l.stage.work) v.ins v.outs) is r) law
