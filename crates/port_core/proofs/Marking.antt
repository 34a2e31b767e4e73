-- The mark of a wire, and how each action and each delivery lets the wire go on.
use Rattle.std.proofs.Common.{◌≡◌, ℕ, ◌+◌, ◌≤◌, Bool, true, false, ◌&&◌, if◌then◌else◌, Option, None, Some, List, [], ◌∷◌, ◌++◌, refl, sym, ap, ◌∙◌, subst, arith}
use Rattle.elem_core.specs.Tree.{Tree}
use Rattle.elem_core.specs.Items.{elements}
use Rattle.elem_core.proofs.Prefixes.{prefix_refl, prefix_append, prefix_trans}
use Rattle.elem_core.specs.declared.why.Cause.{Cause}
use Rattle.elem_core.specs.declared.item.Item.{Item}
use Rattle.elem_core.specs.declared.item.Item.TheVariants as item
use Rattle.port_core.specs.Connection.{quiet, pulled, ready, pushed, Connection}
use Rattle.port_core.specs.Decoding.{is_open, can_pull, can_push}
use Rattle.port_core.specs.Wire.{JointPorts, pull_of, push_of, close_of, cancel_of, end_item, Delivery, nothing, pull, cancel, arrived, delivery_of, after_delivery}
use Rattle.port_core.specs.Joint.{Joint, idle, asking, asked, moving, ending, closing, leaving, finished, parted, cancelled, joint_wire, Queues, IsSound}
use Rattle.port_core.specs.declared.view.OutView.TheVariants.{Available}
use Rattle.port_core.specs.Cell.{WireState, new_cell}
use Rattle.port_core.specs.Marks.{IsMarked, wanted, Grown}
use Rattle.port_core.proofs.Counting.{elements_elem, elements_end}

-- a wire with its mark
abbrev pub cell : JointPorts → Bool → WireState
cell w b = record { wire = w; asked = b }

pub new_marked : IsMarked new_cell
new_marked = record { unclosed = λ o. refl; known = λ e. cc; came = λ e. cc }

-- ---- the mark

and_false : (b : Bool) → (b && false) ≡ false
and_false true = refl
and_false false = refl

-- an input whose pull has come may not pull
ready_pulls_not : (p : Connection) → p.step ≡ ready → can_pull p ≡ true → ⊥
ready_pulls_not p e h = let no : can_pull p ≡ false = rw e (and_false (is_open p)) in cc

pull_by : (w : JointPorts) (b t : Bool) → can_pull w.conn ≡ t → IsMarked (cell w b) → IsMarked (cell (pull_of w) (if can_pull w.conn then true else b))
pull_by w b true e m = rw e (record { unclosed = λ o. refl; known = λ k. refl; came = λ k. absurd (ready_pulls_not w.conn (m.came k) e) })
pull_by w b false e m = rw e (record { unclosed = m.unclosed; known = m.known; came = m.came })

pub pull_marked : (w : JointPorts) (b : Bool) → IsMarked (cell w b) → IsMarked (cell (pull_of w) (if can_pull w.conn then true else b))
pull_marked w b m = pull_by w b (can_pull w.conn) refl m

marks_push : (x : Tree) (j : Joint) (s g : List Item) → (joint_wire j s g).out ≡ Available → IsMarked (cell (push_of x (joint_wire j s g)) false)
marks_push x idle s g e = cc
marks_push x asking s g e = cc
marks_push x asked s g e = record { unclosed = λ o. refl; known = λ k. cc; came = λ k. cc }
marks_push x (moving y) s g e = cc
marks_push x (ending c) s g e = cc
marks_push x (closing t c) s g e = cc
marks_push x (leaving true t) s g e = record { unclosed = λ o. cc; known = λ k. cc; came = λ k. cc }
marks_push x (leaving false t) s g e = cc
marks_push x (finished t c) s g e = cc
marks_push x (parted t c) s g e = cc
marks_push x (cancelled t c) s g e = cc

pub push_marked : (x : Tree) (w : JointPorts) (q : Bool) → IsSound w q → w.out ≡ Available → IsMarked (cell (push_of x w) false)
push_marked x w q h e = subst (λ (v : JointPorts). IsMarked (cell (push_of x v) false)) (sym h.is) (marks_push x h.joint w.sent w.got (sym (ap (λ (v : JointPorts). v.out) h.is) ∙ e))

pub close_marked : (c : Option Cause) (w : JointPorts) (b : Bool) → IsMarked (cell w b) → IsMarked (cell (close_of c w) b)
close_marked None w b m = record { unclosed = m.unclosed; known = λ k. cc; came = λ k. cc }
close_marked (Some c) w b m = record { unclosed = m.unclosed; known = λ k. cc; came = λ k. cc }

pub cancel_marked : (w : JointPorts) (b : Bool) → IsMarked (cell w b) → IsMarked (cell (cancel_of w) b)
cancel_marked w b m = record { unclosed = λ o. cc; known = m.known; came = m.came }

marks_deliver : (j : Joint) (s g : List Item) (b : Bool) → Queues j true → IsMarked (cell (joint_wire j s g) b) → IsMarked (cell (after_delivery (delivery_of (joint_wire j s g)) (joint_wire j s g)) b)
marks_deliver idle s g b r m = cc
marks_deliver asking s g b r m = record { unclosed = λ o. m.unclosed refl; known = λ k. m.unclosed refl; came = λ k. refl }
marks_deliver asked s g b r m = cc
marks_deliver (moving y) s g b r m = record { unclosed = λ o. m.unclosed refl; known = λ k. cc; came = λ k. cc }
marks_deliver (ending None) s g b r m = record { unclosed = λ o. cc; known = λ k. cc; came = λ k. cc }
marks_deliver (ending (Some c)) s g b r m = record { unclosed = λ o. cc; known = λ k. cc; came = λ k. cc }
marks_deliver (closing quiet None) s g b r m = record { unclosed = λ o. cc; known = λ k. cc; came = λ k. cc }
marks_deliver (closing quiet (Some c)) s g b r m = record { unclosed = λ o. cc; known = λ k. cc; came = λ k. cc }
marks_deliver (closing pulled None) s g b r m = record { unclosed = λ o. cc; known = λ k. cc; came = λ k. cc }
marks_deliver (closing pulled (Some c)) s g b r m = record { unclosed = λ o. cc; known = λ k. cc; came = λ k. cc }
marks_deliver (closing ready None) s g b r m = record { unclosed = λ o. cc; known = λ k. cc; came = λ k. cc }
marks_deliver (closing ready (Some c)) s g b r m = record { unclosed = λ o. cc; known = λ k. cc; came = λ k. cc }
marks_deliver (closing (pushed y) c) s g b r m = record { unclosed = λ o. m.unclosed refl; known = λ k. cc; came = λ k. cc }
marks_deliver (leaving true t) s g b r m = record { unclosed = λ o. cc; known = λ k. cc; came = λ k. cc }
marks_deliver (leaving false t) s g b r m = record { unclosed = λ o. cc; known = λ k. cc; came = λ k. cc }
marks_deliver (finished t c) s g b r m = m
marks_deliver (parted t c) s g b r m = m
marks_deliver (cancelled t c) s g b r m = m

pub deliver_marked : (w : JointPorts) (b : Bool) → IsSound w true → IsMarked (cell w b) → IsMarked (cell (after_delivery (delivery_of w) w) b)
deliver_marked w b h m =
    let at : IsMarked (cell (joint_wire h.joint w.sent w.got) b) = subst (λ (v : JointPorts). IsMarked (cell v b)) h.is m in
    subst (λ (v : JointPorts). IsMarked (cell (after_delivery (delivery_of v) v) b)) (sym h.is) (marks_deliver h.joint w.sent w.got b h.queues at)

-- ---- the wire goes on

pub grown_same : (c : WireState) → Grown c c
grown_same c = record { sent = prefix_refl c.wire.sent; got = prefix_refl c.wire.got; wanted = omega arith; in_closed = λ e. e; out_closed = λ e. e }

pub grown_trans : (a b c : WireState) → Grown a b → Grown b c → Grown a c
grown_trans a b c f g = record {
  sent = prefix_trans f.sent g.sent;
  got = prefix_trans f.got g.got;
  wanted = let x = f.wanted in let y = g.wanted in omega (arith, x, y);
  in_closed = λ e. g.in_closed (f.in_closed e);
  out_closed = λ e. g.out_closed (f.out_closed e);
}

wanted_least : (n : ℕ) (b : Bool) → (if b then n + 1 else n) ≤ n + 1
wanted_least n true = omega arith
wanted_least n false = omega arith

wanted_most : (n : ℕ) (b : Bool) → n ≤ (if b then n + 1 else n)
wanted_most n true = omega arith
wanted_most n false = omega arith

grows_pull : (w : JointPorts) (b t : Bool) → can_pull w.conn ≡ t → Grown (cell w b) (cell (pull_of w) (if can_pull w.conn then true else b))
grows_pull w b true e = rw e (record { sent = prefix_refl w.sent; got = prefix_refl w.got; wanted = wanted_least (elements w.sent) b; in_closed = λ x. x; out_closed = λ x. x })
grows_pull w b false e = rw e (record { sent = prefix_refl w.sent; got = prefix_refl w.got; wanted = omega arith; in_closed = λ x. x; out_closed = λ x. x })

pub pull_grown : (w : JointPorts) (b : Bool) → Grown (cell w b) (cell (pull_of w) (if can_pull w.conn then true else b))
pull_grown w b = grows_pull w b (can_pull w.conn) refl

-- a push answers the pull
pub push_wanted : (x : Tree) (w : JointPorts) (b : Bool) → b ≡ true → wanted (cell (push_of x w) false) ≡ wanted (cell w b)
push_wanted x w b e = rw e (elements_elem w.sent x)

pushed_sides : (w : JointPorts) (x : Tree) (t : Bool) → can_push w.conn ≡ t → ((push_of x w).conn.in_closed ≡ w.conn.in_closed) × ((push_of x w).conn.out_closed ≡ w.conn.out_closed)
pushed_sides w x true e = rw e (refl, refl)
pushed_sides w x false e = rw e (refl, refl)

pub push_grown : (x : Tree) (w : JointPorts) (b : Bool) → b ≡ true → Grown (cell w b) (cell (push_of x w) false)
push_grown x w b e =
    let sides = pushed_sides w x (can_push w.conn) refl in
    record {
      sent = prefix_append w.sent (item.Elem x ∷ []);
      got = prefix_refl w.got;
      wanted = let same = push_wanted x w b e in omega (arith, same);
      in_closed = λ o. sides.0 ∙ o;
      out_closed = λ o. sides.1 ∙ o;
    }

-- a closing leaves the pulls as they were
wanted_same : (n m : ℕ) (b : Bool) → n ≡ m → (if b then n + 1 else n) ≡ (if b then m + 1 else m)
wanted_same n m b e = ap (λ (k : ℕ). if b then k + 1 else k) e

pub close_wanted : (c : Option Cause) (w : JointPorts) (b : Bool) → wanted (cell (close_of c w) b) ≡ wanted (cell w b)
close_wanted c w b = wanted_same (elements (w.sent ++ end_item c ∷ [])) (elements w.sent) b (elements_end w.sent c)

pub close_grown : (c : Option Cause) (w : JointPorts) (b : Bool) → Grown (cell w b) (cell (close_of c w) b)
close_grown None w b = record { sent = prefix_append w.sent _; got = prefix_refl w.got; wanted = let same = close_wanted None w b in omega (arith, same); in_closed = λ o. o; out_closed = λ o. refl }
close_grown (Some c) w b = record { sent = prefix_append w.sent _; got = prefix_refl w.got; wanted = let same = close_wanted (Some c) w b in omega (arith, same); in_closed = λ o. o; out_closed = λ o. refl }

pub cancel_grown : (w : JointPorts) (b : Bool) → Grown (cell w b) (cell (cancel_of w) b)
cancel_grown w b = record { sent = prefix_refl w.sent; got = prefix_refl w.got; wanted = omega arith; in_closed = λ o. refl; out_closed = λ o. o }

-- so does an event
pub deliver_wanted : (d : Delivery) (w : JointPorts) (b : Bool) → wanted (cell (after_delivery d w) b) ≡ wanted (cell w b)
deliver_wanted nothing w b = refl
deliver_wanted pull w b = refl
deliver_wanted cancel w b = refl
deliver_wanted (arrived (item.Elem e) more) w b = refl
deliver_wanted (arrived item.Ended more) w b = refl
deliver_wanted (arrived (item.Failed c) more) w b = refl

pub deliver_grown : (d : Delivery) (w : JointPorts) (b : Bool) → Grown (cell w b) (cell (after_delivery d w) b)
deliver_grown nothing w b = grown_same (cell w b)
deliver_grown pull w b = record { sent = prefix_refl w.sent; got = prefix_refl w.got; wanted = omega arith; in_closed = λ o. o; out_closed = λ o. o }
deliver_grown cancel w b = record { sent = prefix_refl w.sent; got = prefix_refl w.got; wanted = omega arith; in_closed = λ o. o; out_closed = λ o. refl }
deliver_grown (arrived (item.Elem e) more) w b = record { sent = prefix_refl w.sent; got = prefix_append w.got _; wanted = omega arith; in_closed = λ o. o; out_closed = λ o. o }
deliver_grown (arrived item.Ended more) w b = record { sent = prefix_refl w.sent; got = prefix_append w.got _; wanted = omega arith; in_closed = λ o. refl; out_closed = λ o. o }
deliver_grown (arrived (item.Failed c) more) w b = record { sent = prefix_refl w.sent; got = prefix_append w.got _; wanted = omega arith; in_closed = λ o. refl; out_closed = λ o. o }
