-- The counts of one wire: what each action and each event does to them.
use Rattle.std.proofs.Common.{◌≡◌, ℕ, suc, ◌+◌, ◌≤◌, Bool, true, false, if◌then◌else◌, Option, None, Some, List, [], ◌∷◌, ◌++◌, length, refl, sym, ap, ◌∙◌, subst, arith}
use Rattle.elem_core.specs.Tree.{Tree}
use Rattle.elem_core.specs.Items.{elements}
use Rattle.elem_core.specs.declared.why.Cause.{Cause}
use Rattle.elem_core.specs.declared.item.Item.{Item}
use Rattle.elem_core.specs.declared.item.Item.TheVariants as item
use Rattle.port_core.specs.Connection.{ConnStep, quiet, pulled, ready, pushed}
use Rattle.port_core.specs.View.{IsInOpen, IsOutOpen}
use Rattle.port_core.specs.Wire.{JointPorts, pull_of, push_of, close_of, cancel_of, end_item, delivery_of, after_delivery, again, Delivery, nothing, pull, cancel, arrived}
use Rattle.port_core.specs.Decoding.{can_pull}
use Rattle.port_core.specs.declared.act.Act.TheVariants.{Pull, Push}
use Rattle.port_core.specs.Joint.{Joint, idle, asking, asked, moving, ending, closing, leaving, finished, parted, cancelled, joint_wire, Queues, IsSound}
use Rattle.port_core.specs.declared.view.InView.{InView}
use Rattle.port_core.specs.declared.view.InView.TheVariants.{Idle, Pulled, Finished, Cancelled}
use Rattle.port_core.specs.declared.view.OutView.{OutView}
use Rattle.port_core.specs.declared.view.OutView.TheVariants as outlet
use Rattle.port_core.specs.Cell.{WireState, moved_by}
use Rattle.port_core.specs.Counts.{ready_bit, free_bit, extra, spent, asked_bit, asks, standing, events_heard}
use Rattle.port_core.specs.Marks.{IsMarked}

-- one element more, and an end
pub elements_elem : (s : List Item) (e : Tree) → elements (s ++ item.Elem e ∷ []) ≡ elements s + 1
elements_elem [] e = omega arith
elements_elem (item.Elem t ∷ s) e = omega (arith, elements_elem s e)
elements_elem (item.Ended ∷ s) e = elements_elem s e
elements_elem (item.Failed c ∷ s) e = elements_elem s e

pub elements_ended : (s : List Item) → elements (s ++ item.Ended ∷ []) ≡ elements s
elements_ended [] = refl
elements_ended (item.Elem t ∷ s) = ap suc (elements_ended s)
elements_ended (item.Ended ∷ s) = elements_ended s
elements_ended (item.Failed c ∷ s) = elements_ended s

pub elements_failed : (s : List Item) (d : Cause) → elements (s ++ item.Failed d ∷ []) ≡ elements s
elements_failed [] d = refl
elements_failed (item.Elem t ∷ s) d = ap suc (elements_failed s d)
elements_failed (item.Ended ∷ s) d = elements_failed s d
elements_failed (item.Failed c ∷ s) d = elements_failed s d

pub elements_end : (s : List Item) (c : Option Cause) → elements (s ++ end_item c ∷ []) ≡ elements s
elements_end s None = elements_ended s
elements_end s (Some c) = elements_failed s c

-- one item more
length_one : (s : List Item) (x : Item) → length (s ++ x ∷ []) ≡ length s + 1
length_one [] x = omega arith
length_one (y ∷ s) x = omega (arith, length_one s x)

ready_le : (t : ConnStep) → ready_bit t ≤ 1
ready_le quiet = omega arith
ready_le pulled = omega arith
ready_le ready = omega arith
ready_le (pushed e) = omega arith

free_le : (q : Bool) → free_bit q ≤ 1
free_le true = omega arith
free_le false = omega arith

-- a delivered event raises what the wire has cost
spent_deliver : (j : Joint) (s g : List Item) → Queues j true
    → spent (joint_wire j s g) true + 1 ≤ spent (after_delivery (delivery_of (joint_wire j s g)) (joint_wire j s g)) (again (delivery_of (joint_wire j s g)))
spent_deliver idle s g r = cc
spent_deliver asking s g r = omega arith
spent_deliver asked s g r = cc
spent_deliver (moving y) s g r = omega (arith, elements_elem g y)
spent_deliver (ending None) s g r = omega (arith, elements_ended g)
spent_deliver (ending (Some c)) s g r = omega (arith, elements_failed g c)
spent_deliver (closing quiet None) s g r = omega (arith, elements_ended g)
spent_deliver (closing quiet (Some c)) s g r = omega (arith, elements_failed g c)
spent_deliver (closing pulled None) s g r = omega (arith, elements_ended g)
spent_deliver (closing pulled (Some c)) s g r = omega (arith, elements_failed g c)
spent_deliver (closing ready None) s g r = omega (arith, elements_ended g)
spent_deliver (closing ready (Some c)) s g r = omega (arith, elements_failed g c)
spent_deliver (closing (pushed y) c) s g r = omega (arith, elements_elem g y)
spent_deliver (leaving true t) s g r = omega arith
spent_deliver (leaving false t) s g r = omega arith
spent_deliver (finished t c) s g r = omega arith
spent_deliver (parted t c) s g r = omega arith
spent_deliver (cancelled t c) s g r = omega arith

spent_push : (x : Tree) (j : Joint) (s g : List Item) → (joint_wire j s g).out ≡ outlet.Available → (q : Bool) → spent (joint_wire j s g) q ≤ spent (push_of x (joint_wire j s g)) true
spent_push x idle s g e q = cc
spent_push x asking s g e q = cc
spent_push x asked s g e q = omega (arith, elements_elem s x)
spent_push x (moving y) s g e q = cc
spent_push x (ending c) s g e q = cc
spent_push x (closing t c) s g e q = cc
spent_push x (leaving true t) s g e q = omega (arith, elements_elem s x)
spent_push x (leaving false t) s g e q = cc
spent_push x (finished t c) s g e q = cc
spent_push x (parted t c) s g e q = cc
spent_push x (cancelled t c) s g e q = cc

spent_close : (c : Option Cause) (j : Joint) (s g : List Item) → IsOutOpen (joint_wire j s g).out → (q : Bool) → spent (joint_wire j s g) q ≤ spent (close_of c (joint_wire j s g)) true
spent_close c idle s g e q = omega (arith, elements_end s c)
spent_close c asking s g e q = omega (arith, elements_end s c)
spent_close None asked s g e q = omega (arith, elements_ended s)
spent_close (Some d) asked s g e q = omega (arith, elements_failed s d)
spent_close c (moving y) s g e q = omega (arith, elements_end s c)
spent_close c (ending d) s g e q = absurd e
spent_close c (closing t d) s g e q = absurd e
spent_close c (leaving true t) s g e q = omega (arith, elements_end s c)
spent_close c (leaving false t) s g e q = omega (arith, elements_end s c)
spent_close c (finished t d) s g e q = absurd e
spent_close c (parted t d) s g e q = absurd e
spent_close c (cancelled t d) s g e q = absurd e

spent_cancel : (j : Joint) (s g : List Item) → IsInOpen (joint_wire j s g).inp → (q : Bool) → spent (joint_wire j s g) q ≤ spent (cancel_of (joint_wire j s g)) true
spent_cancel idle s g e q = omega arith
spent_cancel asking s g e q = omega arith
spent_cancel asked s g e q = omega arith
spent_cancel (moving y) s g e q = omega arith
spent_cancel (ending c) s g e q = omega arith
spent_cancel (closing t c) s g e q = omega (arith, ready_le t)
spent_cancel (leaving true t) s g e q = absurd e
spent_cancel (leaving false t) s g e q = absurd e
spent_cancel (finished t c) s g e q = absurd e
spent_cancel (parted t c) s g e q = absurd e
spent_cancel (cancelled t c) s g e q = absurd e

spent_pull : (j : Joint) (s g : List Item) (q : Bool) → (joint_wire j s g).inp ≡ Idle → spent (joint_wire j s g) q ≤ spent (pull_of (joint_wire j s g)) true
spent_pull idle s g q e = omega arith
spent_pull asking s g q e = cc
spent_pull asked s g q e = cc
spent_pull (moving x) s g q e = cc
spent_pull (ending c) s g q e = omega arith
spent_pull (closing t c) s g q e = cc
spent_pull (leaving true t) s g q e = cc
spent_pull (leaving false t) s g q e = cc
spent_pull (finished t c) s g q e = cc
spent_pull (parted t c) s g q e = cc
spent_pull (cancelled t c) s g q e = cc

-- for any wire
extra_least : (o : OutView) (i : InView) (t : ConnStep) (q : Bool) → extra o i t true ≤ extra o i t q
extra_least outlet.Closed Finished t q = omega (arith, free_le q)
extra_least outlet.Closed Cancelled t q = omega (arith, free_le q)
extra_least outlet.Cancelled Cancelled t q = omega (arith, free_le q)
extra_least outlet.Available Pulled t q = omega arith
extra_least outlet.Available Cancelled t q = omega arith
extra_least outlet.Closed Pulled t q = omega arith
extra_least outlet.Available Idle t q = omega arith
extra_least outlet.Available Finished t q = omega arith
extra_least outlet.Closed Idle t q = omega arith
extra_least outlet.Cancelled Idle t q = omega arith
extra_least outlet.Cancelled Pulled t q = omega arith
extra_least outlet.Cancelled Finished t q = omega arith
extra_least outlet.Unpulled i t q = omega arith

spent_least : (w : JointPorts) (q : Bool) → spent w true ≤ spent w q
spent_least w q = omega (arith, extra_least w.out w.inp w.conn.step q)

pub deliver_spent : (w : JointPorts) → IsSound w true → spent w true + 1 ≤ spent (after_delivery (delivery_of w) w) (again (delivery_of w))
deliver_spent w h = subst (λ (v : JointPorts). spent v true + 1 ≤ spent (after_delivery (delivery_of v) v) (again (delivery_of v))) (sym h.is) (spent_deliver h.joint w.sent w.got h.queues)

pub push_spent : (x : Tree) (w : JointPorts) (q r : Bool) → IsSound w q → w.out ≡ outlet.Available → spent w q ≤ spent (push_of x w) r
push_spent x w q r h e =
    let up : spent w q ≤ spent (push_of x w) true = subst (λ (v : JointPorts). spent v q ≤ spent (push_of x v) true) (sym h.is) (spent_push x h.joint w.sent w.got (sym (ap (λ (v : JointPorts). v.out) h.is) ∙ e) q) in
    omega (arith, up, spent_least (push_of x w) r)

pub close_spent : (c : Option Cause) (w : JointPorts) (q r : Bool) → IsSound w q → IsOutOpen w.out → spent w q ≤ spent (close_of c w) r
close_spent c w q r h e =
    let up : spent w q ≤ spent (close_of c w) true = subst (λ (v : JointPorts). spent v q ≤ spent (close_of c v) true) (sym h.is) (spent_close c h.joint w.sent w.got (subst (λ (v : JointPorts). IsOutOpen v.out) h.is e) q) in
    omega (arith, up, spent_least (close_of c w) r)

pub cancel_spent : (w : JointPorts) (q r : Bool) → IsSound w q → IsInOpen w.inp → spent w q ≤ spent (cancel_of w) r
cancel_spent w q r h e =
    let up : spent w q ≤ spent (cancel_of w) true = subst (λ (v : JointPorts). spent v q ≤ spent (cancel_of v) true) (sym h.is) (spent_cancel h.joint w.sent w.got (subst (λ (v : JointPorts). IsInOpen v.inp) h.is e) q) in
    omega (arith, up, spent_least (cancel_of w) r)

pub pull_spent : (w : JointPorts) (q r : Bool) → IsSound w q → w.inp ≡ Idle → spent w q ≤ spent (pull_of w) r
pull_spent w q r h e =
    let up : spent w q ≤ spent (pull_of w) true = subst (λ (v : JointPorts). spent v q ≤ spent (pull_of v) true) (sym h.is) (spent_pull h.joint w.sent w.got q (sym (ap (λ (v : JointPorts). v.inp) h.is) ∙ e)) in
    omega (arith, up, spent_least (pull_of w) r)

-- No action raises the pulls that came to the output, and an event raises them by one at most.
pub pull_asks : (w : JointPorts) → asks (pull_of w) ≤ asks w
pull_asks w = omega arith

pub push_asks : (x : Tree) (w : JointPorts) → w.out ≡ outlet.Available → asks (push_of x w) ≤ asks w
push_asks x w e = let was : asked_bit w.out ≡ 1 = ap asked_bit e in omega (arith, elements_elem w.sent x, was)

pub close_asks : (c : Option Cause) (w : JointPorts) → asks (close_of c w) ≤ asks w
close_asks c w = omega (arith, elements_end w.sent c)

pub cancel_asks : (w : JointPorts) → asks (cancel_of w) ≤ asks w
cancel_asks w = omega arith

-- the pull that stands counts once at most
standing_le : (b : Bool) (t : ConnStep) → (if b then ready_bit t else 0) ≤ 1
standing_le true t = ready_le t
standing_le false t = omega arith

quiet_stands : (b : Bool) → (if b then 0 else 0) ≤ 0
quiet_stands true = omega arith
quiet_stands false = omega arith

pull_stands : (c : WireState) (i : ℕ) (t : Bool) → can_pull c.wire.conn ≡ t → standing (moved_by (Pull i) c) ≤ standing c
pull_stands c i true e = rw e (omega arith)
pull_stands c i false e = rw e (omega arith)

-- No action raises the events that were heard, and an event raises them by one at most.
pub pull_heard : (i : ℕ) (c : WireState) → events_heard (moved_by (Pull i) c) ≤ events_heard c
pull_heard i c = omega (arith, pull_stands c i (can_pull c.wire.conn) refl)

pub push_heard : (j : ℕ) (e : Tree) (c : WireState) → IsMarked c → c.wire.out ≡ outlet.Available → events_heard (moved_by (Push j e) c) ≤ events_heard c
push_heard j e c m is =
    let stood : standing c ≡ 1 = rw (m.known is) (ap ready_bit (m.came is)) in
    omega (arith, elements_elem c.wire.sent e, stood)

close_stands : (d : Option Cause) (w : JointPorts) (b : Bool) → (if b then ready_bit (close_of d w).conn.step else 0) ≡ (if b then ready_bit w.conn.step else 0)
close_stands None w b = refl
close_stands (Some c) w b = refl

pub close_heard : (d : Option Cause) (c : WireState) → events_heard (record c { wire = close_of d c.wire }) ≤ events_heard c
close_heard d c = omega (arith, elements_end c.wire.sent d, close_stands d c.wire c.asked)

pub cancel_heard : (c : WireState) → events_heard (record c { wire = cancel_of c.wire }) ≤ events_heard c
cancel_heard c = omega arith

pub deliver_heard : (d : Delivery) (c : WireState) → events_heard (record c { wire = after_delivery d c.wire }) ≤ events_heard c + 1
deliver_heard nothing c = omega arith
deliver_heard pull c = omega (arith, standing_le c.asked ready)
deliver_heard cancel c = omega arith
deliver_heard (arrived (item.Elem e) more) c = omega (arith, quiet_stands c.asked, length_one c.wire.got (item.Elem e))
deliver_heard (arrived item.Ended more) c = omega (arith, length_one c.wire.got item.Ended)
deliver_heard (arrived (item.Failed d) more) c = omega (arith, length_one c.wire.got (item.Failed d))
