-- A linear stage that was started has nothing to do over its own ports.
use Rattle.std.specs.Prelude.{slice_index_or}
use Rattle.std.proofs.Common.{◌≡◌, Bool, ◌⊎◌, inr, List, [], ◌∷◌, refl, sym, subst}
use Rattle.elem_core.specs.Tree.{Tree}
use Rattle.elem_core.specs.declared.item.Item.{Item}
use Rattle.port_core.specs.declared.view.InView.{InView}
use Rattle.port_core.specs.declared.view.InView.TheVariants.{Idle, Pulled, Finished, Cancelled}
use Rattle.port_core.specs.declared.view.OutView.{OutView}
use Rattle.port_core.specs.declared.view.OutView.TheVariants as outlet
use Rattle.port_core.specs.View.{View, in_at, out_at, OneOneOf, IsInOpen, IsOutOpen}
use Rattle.port_core.specs.Call.{Call, starts, CallAllowed}
use Rattle.stream_model.specs.Machine.{going, Run, Machine}
use Rattle.stream_model.specs.Linear.{Book, Stage, Work}
use Rattle.stage_core.specs.Law.{Law}
use Rattle.stage_core.specs.OwnPorts.{OwnRests}
use Rattle.stage_core.specs.Held.{owing}
use Rattle.stream_model.specs.OneWay.{holds_at_end}
use Rattle.stage_core.proofs.OwnRows.{waiting_rests, idle_rests, closed_rests}
use Rattle.stage_core.proofs.OpenPorts.{may_come, closed_ports}
use Rattle.stage_core.specs.declared.phase.Phase.{Phase}
use Rattle.stage_core.specs.declared.phase.Phase.TheVariants.{New, Open, Closed}
use Rattle.stage_linear.specs.declared.course.Course.{Course}
use Rattle.stage_linear.specs.declared.course.Course.TheVariants as course
use Rattle.stage_linear.specs.States.{Logic, held, held_in, port_state, port_state_in}

module _ (m : Machine Stage Tree) (start : Run Stage Tree) (took gave : List Item) where
  waiting : (h : List Tree) (s : Stage) → h ≡ [] → (law : Law m start (owing (record { gave = h; state = going s })) Pulled outlet.Available took gave) → OwnRests m start (holds_at_end s.work) Pulled outlet.Available law.in_list law.out_list
  waiting h s none law = subst (λ (k : List Tree). (law : Law m start (owing (record { gave = k; state = going s })) Pulled outlet.Available took gave) → OwnRests m start (holds_at_end s.work) Pulled outlet.Available law.in_list law.out_list) (sym none)
      (λ law. waiting_rests m start (holds_at_end s.work) (going s) took gave law) law

  at_ports : (b : Book) (p : Phase) (c : Course) (h : List Tree) (s : Stage) (g : Bool) (x : InView) (y : OutView) → (p ≡ New → ⊥) → port_state_in p c h s.work g x y → (law : Law m start (held_in b p c h s) x y took gave)
      → OwnRests m start (holds_at_end s.work) x y law.in_list law.out_list
  at_ports b New c h s g x y n r law = absurd (n refl)
  at_ports b Closed c h s g x y n r law = closed_rests m start (holds_at_end s.work) x y law.in_list law.out_list r
  at_ports b Open course.Waits h s g Pulled outlet.Available n r law = waiting h s r.0 law
  at_ports b Open course.Idles h s g Idle outlet.Unpulled n r law = idle_rests m start (holds_at_end s.work) law.in_list law.out_list
  at_ports b Open course.Leaves h s g Idle outlet.Unpulled n r law = idle_rests m start (holds_at_end s.work) law.in_list law.out_list
  at_ports b Open course.Closes h s g Finished outlet.Unpulled n r law = inr (inr (inr (r.0.1.1, (refl, refl), refl)))
  at_ports b Open course.Ends h s g Finished outlet.Unpulled n r law = inr (inr (inr (r.1.1, (refl, refl), refl)))
  at_ports b Open course.Waits h s g Pulled outlet.Unpulled n r law = absurd r
  at_ports b Open course.Waits h s g Pulled outlet.Closed n r law = absurd r
  at_ports b Open course.Waits h s g Pulled outlet.Cancelled n r law = absurd r
  at_ports b Open course.Waits h s g Idle y n r law = absurd r
  at_ports b Open course.Waits h s g Finished y n r law = absurd r
  at_ports b Open course.Waits h s g Cancelled y n r law = absurd r
  at_ports b Open course.Idles h s g Idle outlet.Available n r law = absurd r
  at_ports b Open course.Idles h s g Idle outlet.Closed n r law = absurd r
  at_ports b Open course.Idles h s g Idle outlet.Cancelled n r law = absurd r
  at_ports b Open course.Idles h s g Pulled y n r law = absurd r
  at_ports b Open course.Idles h s g Finished y n r law = absurd r
  at_ports b Open course.Idles h s g Cancelled y n r law = absurd r
  at_ports b Open course.Leaves h s g Idle outlet.Available n r law = absurd r
  at_ports b Open course.Leaves h s g Idle outlet.Closed n r law = absurd r
  at_ports b Open course.Leaves h s g Idle outlet.Cancelled n r law = absurd r
  at_ports b Open course.Leaves h s g Pulled y n r law = absurd r
  at_ports b Open course.Leaves h s g Finished y n r law = absurd r
  at_ports b Open course.Leaves h s g Cancelled y n r law = absurd r
  at_ports b Open course.Closes h s g Finished outlet.Available n r law = absurd r
  at_ports b Open course.Closes h s g Finished outlet.Closed n r law = absurd r
  at_ports b Open course.Closes h s g Finished outlet.Cancelled n r law = absurd r
  at_ports b Open course.Closes h s g Idle y n r law = absurd r
  at_ports b Open course.Closes h s g Pulled y n r law = absurd r
  at_ports b Open course.Closes h s g Cancelled y n r law = absurd r
  at_ports b Open course.Ends h s g Finished outlet.Available n r law = absurd r
  at_ports b Open course.Ends h s g Finished outlet.Closed n r law = absurd r
  at_ports b Open course.Ends h s g Finished outlet.Cancelled n r law = absurd r
  at_ports b Open course.Ends h s g Idle y n r law = absurd r
  at_ports b Open course.Ends h s g Pulled y n r law = absurd r
  at_ports b Open course.Ends h s g Cancelled y n r law = absurd r

  at_lists : (b : Book) (p : Phase) (c : Course) (h : List Tree) (s : Stage) (g : Bool) (xs : List InView) (ys : List OutView) → (p ≡ New → ⊥) → OneOneOf (port_state_in p c h s.work g) xs ys
      → (law : Law m start (held_in b p c h s) (slice_index_or xs 0 Cancelled) (slice_index_or ys 0 outlet.Closed) took gave) → OwnRests m start (holds_at_end s.work) (slice_index_or xs 0 Cancelled) (slice_index_or ys 0 outlet.Closed) law.in_list law.out_list
  at_lists b p c h s g (x ∷ []) (y ∷ []) n r law = at_ports b p c h s g x y n r law
  at_lists b p c h s g [] ys n r law = absurd r
  at_lists b p c h s g (x ∷ []) [] n r law = absurd r
  at_lists b p c h s g (x ∷ []) (y ∷ z ∷ ys) n r law = absurd r
  at_lists b p c h s g (x ∷ w ∷ xs) ys n r law = absurd r

  pub started_rests : (b : Book) (l : Logic) (v : View) → (l.phase ≡ New → ⊥) → port_state l v → (law : Law m start (held b l) (in_at v 0) (out_at v 0) took gave) → OwnRests m start (holds_at_end l.stage.work) (in_at v 0) (out_at v 0) law.in_list law.out_list
  started_rests b l v n r law = at_lists b l.phase l.course l.pending l.stage l.ready v.ins v.outs n r law

-- ---- where a call may come, a stage that was started is open

open_at : (p : Phase) (c : Course) (k : List Tree) (w : Work) (g : Bool) (x : InView) (y : OutView) → (p ≡ New → ⊥) → (IsInOpen x ⊎ IsOutOpen y) → port_state_in p c k w g x y → p ≡ Open
open_at Open c k w g x y n h r = refl
open_at New c k w g x y n h r = absurd (n refl)
open_at Closed c k w g x y n h r = absurd (closed_ports x y h r)

open_lists : (p : Phase) (c : Course) (k : List Tree) (w : Work) (g : Bool) (call : Call) (xs : List InView) (ys : List OutView) → (p ≡ New → ⊥) → (call ≡ starts → ⊥) → CallAllowed call (record { ins = xs; outs = ys }) → OneOneOf (port_state_in p c k w g) xs ys → p ≡ Open
open_lists p c k w g call (x ∷ []) (y ∷ []) n s h r = open_at p c k w g x y n (may_come call x y s h) r
open_lists p c k w g call [] ys n s h r = absurd r
open_lists p c k w g call (x ∷ []) [] n s h r = absurd r
open_lists p c k w g call (x ∷ []) (y ∷ z ∷ ys) n s h r = absurd r
open_lists p c k w g call (x ∷ u ∷ xs) ys n s h r = absurd r

pub called_open : (l : Logic) (call : Call) (v : View) → (l.phase ≡ New → ⊥) → (call ≡ starts → ⊥) → CallAllowed call v → port_state l v → l.phase ≡ Open
called_open l call v n s h r = open_lists l.phase l.course l.pending l.stage.work l.ready call v.ins v.outs n s h r
