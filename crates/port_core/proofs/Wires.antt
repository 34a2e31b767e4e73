-- Each action and each delivery leads a wire from a joint state to a joint state.
use Rattle.std.proofs.Common.{◌≡◌, Bool, true, false, ◌⊎◌, inl, inr, Option, None, Some, List, [], ◌∷◌, ◌++◌, refl, sym, ap, ◌∙◌, subst, append_assoc, append-nil}
use Rattle.elem_core.specs.Tree.{Tree}
use Rattle.elem_core.specs.declared.why.Cause.{Cause}
use Rattle.elem_core.specs.declared.item.Item.{Item}
use Rattle.elem_core.specs.declared.item.Item.TheVariants as item
use Rattle.port_core.specs.Connection.{ConnStep, Connection, quiet, pulled, ready, pushed}
use Rattle.port_core.specs.Decoding.{can_pull, can_push, is_at_rest}
use Rattle.port_core.specs.View.{IsInOpen, IsOutOpen}
use Rattle.port_core.specs.Wire.{JointPorts, new_wire, pull_of, push_of, close_of, cancel_of, end_item, closed_by, delivery_of, after_delivery, again}
use Rattle.port_core.specs.Joint.{Joint, idle, asking, asked, moving, ending, closing, leaving, finished, parted, cancelled, joint_wire, Histories, Queues, IsSound, LeavesSound, Heard, under_way}
use Rattle.port_core.specs.declared.view.InView.{InView}
use Rattle.port_core.specs.declared.view.InView.TheVariants.{Idle, Pulled, Cancelled}
use Rattle.port_core.specs.declared.view.OutView.TheVariants.{Available, Closed}

pub new_sound : IsSound new_wire false
new_sound = record { joint = idle; is = refl; histories = refl; queues = refl }

longer : (g r s : List Item) (x : Item) → s ≡ g ++ r → s ++ x ∷ [] ≡ g ++ (r ++ x ∷ [])
longer g r s x h = ap (λ (l : List Item). l ++ x ∷ []) h ∙ append_assoc g r (x ∷ [])

same : (g s : List Item) → s ≡ g → s ≡ g ++ []
same g s h = h ∙ sym (append-nil g)

-- by the joint states
pull_at : (j : Joint) (s g : List Item) (q : Bool) → Histories j s g → Queues j q → (joint_wire j s g).inp ≡ Idle
    → LeavesSound (pull_of (joint_wire j s g)) q (can_pull (joint_wire j s g).conn)
pull_at idle s g q h r e = rw r (record { sound = record { joint = asking; is = refl; histories = h; queues = refl }; free = λ _. refl })
pull_at asking s g q h r e = cc
pull_at asked s g q h r e = cc
pull_at (moving x) s g q h r e = cc
pull_at (ending c) s g q h r e = rw r (record { sound = record { joint = closing quiet c; is = refl; histories = h; queues = refl }; free = λ f. cc })
pull_at (closing t c) s g q h r e = cc
pull_at (leaving true t) s g q h r e = cc
pull_at (leaving false t) s g q h r e = cc
pull_at (finished t c) s g q h r e = cc
pull_at (parted t c) s g q h r e = cc
pull_at (cancelled t c) s g q h r e = cc

push_at : (x : Tree) (j : Joint) (s g : List Item) (q : Bool) → Histories j s g → Queues j q → (joint_wire j s g).out ≡ Available
    → LeavesSound (push_of x (joint_wire j s g)) q (can_push (joint_wire j s g).conn)
push_at x idle s g q h r e = cc
push_at x asking s g q h r e = cc
push_at x asked s g q h r e = rw r (record { sound = record { joint = moving x; is = refl; histories = ap (λ (l : List Item). l ++ item.Elem x ∷ []) h; queues = refl }; free = λ _. refl })
push_at x (moving y) s g q h r e = cc
push_at x (ending c) s g q h r e = cc
push_at x (closing t c) s g q h r e = cc
push_at x (leaving true t) s g q h r e = rw r (record { sound = record { joint = leaving false t; is = refl; histories = (h.0 ++ item.Elem x ∷ [], longer g h.0 s (item.Elem x) h.1); queues = refl }; free = λ f. cc })
push_at x (leaving false t) s g q h r e = cc
push_at x (finished t c) s g q h r e = cc
push_at x (parted t c) s g q h r e = cc
push_at x (cancelled t c) s g q h r e = cc

-- a closing where no side was closed, and behind a cancel
closed_open : (c : Option Cause) (t : ConnStep) → closed_by c (record { step = t; to_grab = None; in_closed = false; out_closed = false; cause = None }) ≡ record { step = t; to_grab = None; in_closed = false; out_closed = true; cause = c }
closed_open None t = refl
closed_open (Some c) t = refl

closed_left : (c : Option Cause) (t : ConnStep) → closed_by c (record { step = t; to_grab = None; in_closed = true; out_closed = false; cause = None }) ≡ record { step = t; to_grab = None; in_closed = true; out_closed = true; cause = None }
closed_left None t = refl
closed_left (Some c) t = refl

-- two wires whose output has closed, with equal connections
shut_with : (i : InView) (s g : List Item) (p q : Connection) → p ≡ q → ◌≡◌ {A = JointPorts} (record { out = Closed; inp = i; conn = p; sent = s; got = g }) (record { out = Closed; inp = i; conn = q; sent = s; got = g })
shut_with i s g p q e = ap (λ (r : Connection). record { out = Closed; inp = i; conn = r; sent = s; got = g }) e

close_at : (c : Option Cause) (j : Joint) (s g : List Item) (q : Bool) → Histories j s g → Queues j q → IsOutOpen (joint_wire j s g).out
    → LeavesSound (close_of c (joint_wire j s g)) q (is_at_rest (joint_wire j s g).conn)
close_at c idle s g q h r e = rw r (record { sound = record { joint = ending c; is = shut_with Idle (s ++ end_item c ∷ []) g _ _ (closed_open c quiet); histories = ap (λ (l : List Item). l ++ end_item c ∷ []) h; queues = refl }; free = λ _. refl })
close_at c asking s g q h r e = rw r (record { sound = record { joint = closing pulled c; is = shut_with Pulled (s ++ end_item c ∷ []) g _ _ (closed_open c pulled); histories = ap (λ (l : List Item). l ++ end_item c ∷ []) h; queues = refl }; free = λ f. cc })
close_at c asked s g q h r e = rw r (record { sound = record { joint = closing ready c; is = shut_with Pulled (s ++ end_item c ∷ []) g _ _ (closed_open c ready); histories = ap (λ (l : List Item). l ++ end_item c ∷ []) h; queues = refl }; free = λ _. refl })
close_at c (moving y) s g q h r e = rw r (record { sound = record { joint = closing (pushed y) c; is = shut_with Pulled (s ++ end_item c ∷ []) g _ _ (closed_open c (pushed y)); histories = longer g (item.Elem y ∷ []) s (end_item c) h; queues = refl }; free = λ f. cc })
close_at c (ending d) s g q h r e = absurd e
close_at c (closing t d) s g q h r e = absurd e
close_at c (leaving true t) s g q h r e = rw r (record { sound = record { joint = parted t None; is = shut_with Cancelled (s ++ end_item c ∷ []) g _ _ (closed_left c t); histories = (h.0 ++ end_item c ∷ [], longer g h.0 s (end_item c) h.1); queues = tt }; free = λ f. cc })
close_at c (leaving false t) s g q h r e = rw r (record { sound = record { joint = parted t None; is = shut_with Cancelled (s ++ end_item c ∷ []) g _ _ (closed_left c t); histories = (h.0 ++ end_item c ∷ [], longer g h.0 s (end_item c) h.1); queues = tt }; free = λ f. cc })
close_at c (finished t d) s g q h r e = absurd e
close_at c (parted t d) s g q h r e = absurd e
close_at c (cancelled t d) s g q h r e = absurd e

cancel_at : (j : Joint) (s g : List Item) (q : Bool) → Histories j s g → Queues j q → IsInOpen (joint_wire j s g).inp
    → LeavesSound (cancel_of (joint_wire j s g)) q (is_at_rest (joint_wire j s g).conn)
cancel_at idle s g q h r e = rw r (record { sound = record { joint = leaving false quiet; is = refl; histories = ([], same g s h); queues = refl }; free = λ _. refl })
cancel_at asking s g q h r e = rw r (record { sound = record { joint = leaving false pulled; is = refl; histories = ([], same g s h); queues = refl }; free = λ f. cc })
cancel_at asked s g q h r e = rw r (record { sound = record { joint = leaving true ready; is = refl; histories = ([], same g s h); queues = refl }; free = λ _. refl })
cancel_at (moving y) s g q h r e = rw r (record { sound = record { joint = leaving false (pushed y); is = refl; histories = (item.Elem y ∷ [], h); queues = refl }; free = λ f. cc })
cancel_at (ending c) s g q h r e = rw r (record { sound = record { joint = parted quiet c; is = refl; histories = (end_item c ∷ [], h); queues = tt }; free = λ f. cc })
cancel_at (closing t c) s g q h r e = rw r (record { sound = record { joint = parted t c; is = refl; histories = (under_way t ++ end_item c ∷ [], h); queues = tt }; free = λ f. cc })
cancel_at (leaving true t) s g q h r e = absurd e
cancel_at (leaving false t) s g q h r e = absurd e
cancel_at (finished t c) s g q h r e = absurd e
cancel_at (parted t c) s g q h r e = absurd e
cancel_at (cancelled t c) s g q h r e = absurd e

-- an event that was taken from the queue
deliver_at : (j : Joint) (s g : List Item) → Histories j s g → Queues j true
    → IsSound (after_delivery (delivery_of (joint_wire j s g)) (joint_wire j s g)) (again (delivery_of (joint_wire j s g)))
deliver_at idle s g h r = cc
deliver_at asking s g h r = record { joint = asked; is = refl; histories = h; queues = refl }
deliver_at asked s g h r = cc
deliver_at (moving y) s g h r = record { joint = idle; is = refl; histories = h; queues = refl }
deliver_at (ending None) s g h r = record { joint = finished quiet None; is = refl; histories = h; queues = tt }
deliver_at (ending (Some c)) s g h r = record { joint = finished quiet (Some c); is = refl; histories = h; queues = tt }
deliver_at (closing quiet None) s g h r = record { joint = finished quiet None; is = refl; histories = h; queues = tt }
deliver_at (closing quiet (Some c)) s g h r = record { joint = finished quiet (Some c); is = refl; histories = h; queues = tt }
deliver_at (closing pulled None) s g h r = record { joint = finished pulled None; is = refl; histories = h; queues = tt }
deliver_at (closing pulled (Some c)) s g h r = record { joint = finished pulled (Some c); is = refl; histories = h; queues = tt }
deliver_at (closing ready None) s g h r = record { joint = finished ready None; is = refl; histories = h; queues = tt }
deliver_at (closing ready (Some c)) s g h r = record { joint = finished ready (Some c); is = refl; histories = h; queues = tt }
deliver_at (closing (pushed y) c) s g h r = record { joint = ending c; is = refl; histories = h ∙ sym (append_assoc g (item.Elem y ∷ []) (end_item c ∷ [])); queues = refl }
deliver_at (leaving true t) s g h r = record { joint = cancelled t None; is = refl; histories = h; queues = tt }
deliver_at (leaving false t) s g h r = record { joint = cancelled t None; is = refl; histories = h; queues = tt }
deliver_at (finished t c) s g h r = record { joint = finished t c; is = refl; histories = h; queues = tt }
deliver_at (parted t c) s g h r = record { joint = parted t c; is = refl; histories = h; queues = tt }
deliver_at (cancelled t c) s g h r = record { joint = cancelled t c; is = refl; histories = h; queues = tt }

heard_at : (j : Joint) (s g : List Item) → Queues j true → Heard (delivery_of (joint_wire j s g)) (joint_wire j s g)
heard_at idle s g r = cc
heard_at asking s g r = refl
heard_at asked s g r = cc
heard_at (moving y) s g r = refl
heard_at (ending None) s g r = tt
heard_at (ending (Some c)) s g r = tt
heard_at (closing quiet None) s g r = tt
heard_at (closing quiet (Some c)) s g r = tt
heard_at (closing pulled None) s g r = tt
heard_at (closing pulled (Some c)) s g r = tt
heard_at (closing ready None) s g r = tt
heard_at (closing ready (Some c)) s g r = tt
heard_at (closing (pushed y) c) s g r = refl
heard_at (leaving true t) s g r = tt
heard_at (leaving false t) s g r = tt
heard_at (finished t c) s g r = tt
heard_at (parted t c) s g r = tt
heard_at (cancelled t c) s g r = tt

-- for any wire
pub pull_kept : (w : JointPorts) (q : Bool) → IsSound w q → w.inp ≡ Idle → LeavesSound (pull_of w) q (can_pull w.conn)
pull_kept w q h e = subst (λ (v : JointPorts). LeavesSound (pull_of v) q (can_pull v.conn)) (sym h.is) (pull_at h.joint w.sent w.got q h.histories h.queues (sym (ap (λ (v : JointPorts). v.inp) h.is) ∙ e))

pub push_kept : (x : Tree) (w : JointPorts) (q : Bool) → IsSound w q → w.out ≡ Available → LeavesSound (push_of x w) q (can_push w.conn)
push_kept x w q h e = subst (λ (v : JointPorts). LeavesSound (push_of x v) q (can_push v.conn)) (sym h.is) (push_at x h.joint w.sent w.got q h.histories h.queues (sym (ap (λ (v : JointPorts). v.out) h.is) ∙ e))

pub close_kept : (c : Option Cause) (w : JointPorts) (q : Bool) → IsSound w q → IsOutOpen w.out → LeavesSound (close_of c w) q (is_at_rest w.conn)
close_kept c w q h e = subst (λ (v : JointPorts). LeavesSound (close_of c v) q (is_at_rest v.conn)) (sym h.is) (close_at c h.joint w.sent w.got q h.histories h.queues (subst (λ (v : JointPorts). IsOutOpen v.out) h.is e))

pub cancel_kept : (w : JointPorts) (q : Bool) → IsSound w q → IsInOpen w.inp → LeavesSound (cancel_of w) q (is_at_rest w.conn)
cancel_kept w q h e = subst (λ (v : JointPorts). LeavesSound (cancel_of v) q (is_at_rest v.conn)) (sym h.is) (cancel_at h.joint w.sent w.got q h.histories h.queues (subst (λ (v : JointPorts). IsInOpen v.inp) h.is e))

pub deliver_kept : (w : JointPorts) → IsSound w true → IsSound (after_delivery (delivery_of w) w) (again (delivery_of w))
deliver_kept w h = subst (λ (v : JointPorts). IsSound (after_delivery (delivery_of v) v) (again (delivery_of v))) (sym h.is) (deliver_at h.joint w.sent w.got h.histories h.queues)

pub deliver_heard : (w : JointPorts) → IsSound w true → Heard (delivery_of w) w
deliver_heard w h = subst (λ (v : JointPorts). Heard (delivery_of v) v) (sym h.is) (heard_at h.joint w.sent w.got h.queues)

-- what the view allows the table allows, where the other end has not closed
pull_free : (j : Joint) (s g : List Item) → (joint_wire j s g).inp ≡ Idle → (can_pull (joint_wire j s g).conn ≡ true) ⊎ ((joint_wire j s g).conn.out_closed ≡ true)
pull_free idle s g e = inl refl
pull_free asking s g e = cc
pull_free asked s g e = cc
pull_free (moving x) s g e = cc
pull_free (ending c) s g e = inr refl
pull_free (closing t c) s g e = cc
pull_free (leaving true t) s g e = cc
pull_free (leaving false t) s g e = cc
pull_free (finished t c) s g e = cc
pull_free (parted t c) s g e = cc
pull_free (cancelled t c) s g e = cc

push_free : (j : Joint) (s g : List Item) → (joint_wire j s g).out ≡ Available → (can_push (joint_wire j s g).conn ≡ true) ⊎ ((joint_wire j s g).conn.in_closed ≡ true)
push_free idle s g e = cc
push_free asking s g e = cc
push_free asked s g e = inl refl
push_free (moving x) s g e = cc
push_free (ending c) s g e = cc
push_free (closing t c) s g e = cc
push_free (leaving true t) s g e = inr refl
push_free (leaving false t) s g e = cc
push_free (finished t c) s g e = cc
push_free (parted t c) s g e = cc
push_free (cancelled t c) s g e = cc

pub pull_agrees : (w : JointPorts) (q : Bool) → IsSound w q → w.inp ≡ Idle → (can_pull w.conn ≡ true) ⊎ (w.conn.out_closed ≡ true)
pull_agrees w q h e = subst (λ (v : JointPorts). (can_pull v.conn ≡ true) ⊎ (v.conn.out_closed ≡ true)) (sym h.is) (pull_free h.joint w.sent w.got (sym (ap (λ (v : JointPorts). v.inp) h.is) ∙ e))

pub push_agrees : (w : JointPorts) (q : Bool) → IsSound w q → w.out ≡ Available → (can_push w.conn ≡ true) ⊎ (w.conn.in_closed ≡ true)
push_agrees w q h e = subst (λ (v : JointPorts). (can_push v.conn ≡ true) ⊎ (v.conn.in_closed ≡ true)) (sym h.is) (push_free h.joint w.sent w.got (sym (ap (λ (v : JointPorts). v.out) h.is) ∙ e))
