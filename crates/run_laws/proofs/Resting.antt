-- How a wire that is not queued stands, by what its ends know of it.
use Rattle.std.proofs.Common.{◌≡◌, Bool, true, false, not, List, refl, sym, ap, ◌∙◌, subst}
use Rattle.elem_core.specs.Prefix.{IsPrefix}
use Rattle.elem_core.proofs.Prefixes.{prefix_refl}
use Rattle.elem_core.specs.declared.item.Item.{Item}
use Rattle.port_core.specs.Decoding.{is_open}
use Rattle.port_core.specs.Wire.{JointPorts}
use Rattle.port_core.specs.Joint.{Joint, idle, asking, asked, moving, ending, closing, leaving, finished, parted, cancelled, joint_wire, Histories, Queues, IsSound}
use Rattle.port_core.specs.declared.view.InView.TheVariants.{Idle, Pulled}
use Rattle.port_core.specs.declared.view.OutView.TheVariants.{Unpulled, Available}
use Rattle.port_core.specs.Cell.{WireState}
use Rattle.port_core.specs.Marks.{IsMarked}
use Rattle.port_core.proofs.Marking.{cell}
use Rattle.stage_core.specs.Row.{InClosed, OutClosed}

-- neither end has closed the wire, and its mark is this
pub record Stands (w : JointPorts) (b is : Bool) : Type 0 where
  pub mark : b ≡ is
  pub still : not (is_open w.conn) ≡ false

-- its input waits: it was asked, and all that was sent has come
waits_j : (j : Joint) (s g : List Item) (b : Bool) → Histories j s g → Queues j false → IsMarked (cell (joint_wire j s g) b) → (joint_wire j s g).inp ≡ Pulled → Stands (joint_wire j s g) b true × (s ≡ g)
waits_j idle s g b h q m e = cc
waits_j asking s g b h q m e = cc
waits_j asked s g b h q m e = (record { mark = m.known refl; still = refl }, h)
waits_j (moving x) s g b h q m e = cc
waits_j (ending c) s g b h q m e = cc
waits_j (closing t c) s g b h q m e = cc
waits_j (leaving true t) s g b h q m e = cc
waits_j (leaving false t) s g b h q m e = cc
waits_j (finished t c) s g b h q m e = cc
waits_j (parted t c) s g b h q m e = cc
waits_j (cancelled t c) s g b h q m e = cc

-- its input has not asked
idles_j : (j : Joint) (s g : List Item) (b : Bool) → Queues j false → IsMarked (cell (joint_wire j s g) b) → (joint_wire j s g).inp ≡ Idle → Stands (joint_wire j s g) b false
idles_j idle s g b q m e = record { mark = m.unclosed refl; still = refl }
idles_j asking s g b q m e = cc
idles_j asked s g b q m e = cc
idles_j (moving x) s g b q m e = cc
idles_j (ending c) s g b q m e = cc
idles_j (closing t c) s g b q m e = cc
idles_j (leaving true t) s g b q m e = cc
idles_j (leaving false t) s g b q m e = cc
idles_j (finished t c) s g b q m e = cc
idles_j (parted t c) s g b q m e = cc
idles_j (cancelled t c) s g b q m e = cc

-- and all that was sent has come
all_idle_j : (j : Joint) (s g : List Item) → Histories j s g → Queues j false → (joint_wire j s g).inp ≡ Idle → s ≡ g
all_idle_j idle s g h q e = h
all_idle_j asking s g h q e = cc
all_idle_j asked s g h q e = cc
all_idle_j (moving x) s g h q e = cc
all_idle_j (ending c) s g h q e = cc
all_idle_j (closing t c) s g h q e = cc
all_idle_j (leaving true t) s g h q e = cc
all_idle_j (leaving false t) s g h q e = cc
all_idle_j (finished t c) s g h q e = cc
all_idle_j (parted t c) s g h q e = cc
all_idle_j (cancelled t c) s g h q e = cc

-- its output was asked, or was not
asked_j : (j : Joint) (s g : List Item) (b : Bool) → Queues j false → IsMarked (cell (joint_wire j s g) b) → (joint_wire j s g).out ≡ Available → Stands (joint_wire j s g) b true
asked_j idle s g b q m e = cc
asked_j asking s g b q m e = cc
asked_j asked s g b q m e = record { mark = m.known refl; still = refl }
asked_j (moving x) s g b q m e = cc
asked_j (ending c) s g b q m e = cc
asked_j (closing t c) s g b q m e = cc
asked_j (leaving true t) s g b q m e = cc
asked_j (leaving false t) s g b q m e = cc
asked_j (finished t c) s g b q m e = cc
asked_j (parted t c) s g b q m e = cc
asked_j (cancelled t c) s g b q m e = cc

unasked_j : (j : Joint) (s g : List Item) (b : Bool) → Queues j false → IsMarked (cell (joint_wire j s g) b) → (joint_wire j s g).out ≡ Unpulled → Stands (joint_wire j s g) b false
unasked_j idle s g b q m e = record { mark = m.unclosed refl; still = refl }
unasked_j asking s g b q m e = cc
unasked_j asked s g b q m e = cc
unasked_j (moving x) s g b q m e = cc
unasked_j (ending c) s g b q m e = cc
unasked_j (closing t c) s g b q m e = cc
unasked_j (leaving true t) s g b q m e = cc
unasked_j (leaving false t) s g b q m e = cc
unasked_j (finished t c) s g b q m e = cc
unasked_j (parted t c) s g b q m e = cc
unasked_j (cancelled t c) s g b q m e = cc

-- its input has closed, or its output
in_closed_j : (j : Joint) (s g : List Item) → InClosed (joint_wire j s g).inp → not (is_open (joint_wire j s g).conn) ≡ true
in_closed_j idle s g h = absurd h
in_closed_j asking s g h = absurd h
in_closed_j asked s g h = absurd h
in_closed_j (moving x) s g h = absurd h
in_closed_j (ending c) s g h = absurd h
in_closed_j (closing t c) s g h = absurd h
in_closed_j (leaving true t) s g h = refl
in_closed_j (leaving false t) s g h = refl
in_closed_j (finished t c) s g h = refl
in_closed_j (parted t c) s g h = refl
in_closed_j (cancelled t c) s g h = refl

out_closed_j : (j : Joint) (s g : List Item) → OutClosed (joint_wire j s g).out → not (is_open (joint_wire j s g).conn) ≡ true
out_closed_j idle s g h = absurd h
out_closed_j asking s g h = absurd h
out_closed_j asked s g h = absurd h
out_closed_j (moving x) s g h = absurd h
out_closed_j (ending c) s g h = refl
out_closed_j (closing t c) s g h = refl
out_closed_j (leaving true t) s g h = absurd h
out_closed_j (leaving false t) s g h = absurd h
out_closed_j (finished t c) s g h = refl
out_closed_j (parted t c) s g h = refl
out_closed_j (cancelled t c) s g h = refl

-- ---- the same of any wire

module _ (c : WireState) (m : IsMarked c) where
  at_joint : (q : Bool) (h : IsSound c.wire q) → IsMarked (cell (joint_wire h.joint c.wire.sent c.wire.got) c.asked)
  at_joint q h = subst (λ (v : JointPorts). IsMarked (cell v c.asked)) h.is m

  back : (q : Bool) (h : IsSound c.wire q) (b : Bool) → Stands (joint_wire h.joint c.wire.sent c.wire.got) c.asked b → Stands c.wire c.asked b
  back q h b s = subst (λ (v : JointPorts). Stands v c.asked b) (sym h.is) s

  pub waits : IsSound c.wire false → c.wire.inp ≡ Pulled → Stands c.wire c.asked true × (c.wire.sent ≡ c.wire.got)
  waits h e =
      let r = waits_j h.joint c.wire.sent c.wire.got c.asked h.histories h.queues (at_joint false h) (sym (ap (λ (v : JointPorts). v.inp) h.is) ∙ e) in
      (back false h true r.0, r.1)

  pub idles : IsSound c.wire false → c.wire.inp ≡ Idle → Stands c.wire c.asked false
  idles h e = back false h false (idles_j h.joint c.wire.sent c.wire.got c.asked h.queues (at_joint false h) (sym (ap (λ (v : JointPorts). v.inp) h.is) ∙ e))

  pub is_asked : IsSound c.wire false → c.wire.out ≡ Available → Stands c.wire c.asked true
  is_asked h e = back false h true (asked_j h.joint c.wire.sent c.wire.got c.asked h.queues (at_joint false h) (sym (ap (λ (v : JointPorts). v.out) h.is) ∙ e))

  pub is_unasked : IsSound c.wire false → c.wire.out ≡ Unpulled → Stands c.wire c.asked false
  is_unasked h e = back false h false (unasked_j h.joint c.wire.sent c.wire.got c.asked h.queues (at_joint false h) (sym (ap (λ (v : JointPorts). v.out) h.is) ∙ e))

pub all_idle : (w : JointPorts) → IsSound w false → w.inp ≡ Idle → w.sent ≡ w.got
all_idle w h e = all_idle_j h.joint w.sent w.got h.histories h.queues (sym (ap (λ (v : JointPorts). v.inp) h.is) ∙ e)

pub in_shut : (w : JointPorts) (q : Bool) → IsSound w q → InClosed w.inp → not (is_open w.conn) ≡ true
in_shut w q h e = subst (λ (v : JointPorts). not (is_open v.conn) ≡ true) (sym h.is) (in_closed_j h.joint w.sent w.got (subst (λ (v : JointPorts). InClosed v.inp) h.is e))

pub out_shut : (w : JointPorts) (q : Bool) → IsSound w q → OutClosed w.out → not (is_open w.conn) ≡ true
out_shut w q h e = subst (λ (v : JointPorts). not (is_open v.conn) ≡ true) (sym h.is) (out_closed_j h.joint w.sent w.got (subst (λ (v : JointPorts). OutClosed v.out) h.is e))

-- ---- at any moment

-- what came is a first part of what was sent
part_j : (j : Joint) (s g : List Item) → Histories j s g → IsPrefix g s
part_j idle s g h = rw h (prefix_refl g)
part_j asking s g h = rw h (prefix_refl g)
part_j asked s g h = rw h (prefix_refl g)
part_j (moving x) s g h = record { rest = _; is = h }
part_j (ending c) s g h = record { rest = _; is = h }
part_j (closing t c) s g h = record { rest = _; is = h }
part_j (leaving a t) s g h = record { rest = h.0; is = h.1 }
part_j (finished t c) s g h = rw h (prefix_refl g)
part_j (parted t c) s g h = record { rest = h.0; is = h.1 }
part_j (cancelled t c) s g h = record { rest = h.0; is = h.1 }

pub got_part : (w : JointPorts) (q : Bool) → IsSound w q → IsPrefix w.got w.sent
got_part w q h = part_j h.joint w.sent w.got h.histories
