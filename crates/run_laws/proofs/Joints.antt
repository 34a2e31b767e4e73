-- What one end of a connection knows, by what the other knows of it.
use Rattle.std.proofs.Common.{◌≡◌, Bool, true, false, List, refl, sym, ap, subst, ◌∙◌}
use Rattle.elem_core.specs.declared.item.Item.{Item}
use Rattle.port_core.specs.Wire.{JointPorts}
use Rattle.port_core.specs.Joint.{Joint, idle, asking, asked, moving, ending, closing, leaving, finished, parted, cancelled, joint_wire, Queues, IsSound}
use Rattle.port_core.specs.declared.view.InView.TheVariants.{Idle, Pulled, Finished, Cancelled}
use Rattle.port_core.specs.declared.view.OutView.TheVariants.{Unpulled, Available, Closed}
use Rattle.stage_core.specs.Row.{OutClosed}

out_shut_j : (j : Joint) (s g : List Item) → (joint_wire j s g).inp ≡ Finished → (joint_wire j s g).out ≡ Closed
out_shut_j idle s g e = cc
out_shut_j asking s g e = cc
out_shut_j asked s g e = cc
out_shut_j (moving x) s g e = cc
out_shut_j (ending c) s g e = cc
out_shut_j (closing t c) s g e = cc
out_shut_j (leaving true t) s g e = cc
out_shut_j (leaving false t) s g e = cc
out_shut_j (finished t c) s g e = refl
out_shut_j (parted t c) s g e = cc
out_shut_j (cancelled t c) s g e = cc

out_asked_j : (j : Joint) (s g : List Item) → Queues j false → (joint_wire j s g).inp ≡ Pulled → (joint_wire j s g).out ≡ Available
out_asked_j idle s g q e = cc
out_asked_j asking s g q e = cc
out_asked_j asked s g q e = refl
out_asked_j (moving x) s g q e = cc
out_asked_j (ending c) s g q e = cc
out_asked_j (closing t c) s g q e = cc
out_asked_j (leaving true t) s g q e = cc
out_asked_j (leaving false t) s g q e = cc
out_asked_j (finished t c) s g q e = cc
out_asked_j (parted t c) s g q e = cc
out_asked_j (cancelled t c) s g q e = cc

out_left_j : (j : Joint) (s g : List Item) → Queues j false → (joint_wire j s g).inp ≡ Cancelled → OutClosed (joint_wire j s g).out
out_left_j idle s g q e = absurd cc
out_left_j asking s g q e = absurd cc
out_left_j asked s g q e = absurd cc
out_left_j (moving x) s g q e = absurd cc
out_left_j (ending c) s g q e = absurd cc
out_left_j (closing t c) s g q e = absurd cc
out_left_j (leaving true t) s g q e = absurd cc
out_left_j (leaving false t) s g q e = absurd cc
out_left_j (finished t c) s g q e = tt
out_left_j (parted t c) s g q e = tt
out_left_j (cancelled t c) s g q e = tt

inp_idle_j : (j : Joint) (s g : List Item) → Queues j false → (joint_wire j s g).out ≡ Unpulled → (joint_wire j s g).inp ≡ Idle
inp_idle_j idle s g q e = refl
inp_idle_j asking s g q e = cc
inp_idle_j asked s g q e = cc
inp_idle_j (moving x) s g q e = cc
inp_idle_j (ending c) s g q e = cc
inp_idle_j (closing t c) s g q e = cc
inp_idle_j (leaving true t) s g q e = cc
inp_idle_j (leaving false t) s g q e = cc
inp_idle_j (finished t c) s g q e = cc
inp_idle_j (parted t c) s g q e = cc
inp_idle_j (cancelled t c) s g q e = cc

module _ (w : JointPorts) (q : Bool) (h : IsSound w q) where
  pub over_shut : w.inp ≡ Finished → w.out ≡ Closed
  over_shut e = ap (λ (v : JointPorts). v.out) h.is ∙ out_shut_j h.joint w.sent w.got (sym (ap (λ (v : JointPorts). v.inp) h.is) ∙ e)

module _ (w : JointPorts) (h : IsSound w false) where
  pub waiting_asked : w.inp ≡ Pulled → w.out ≡ Available
  waiting_asked e = ap (λ (v : JointPorts). v.out) h.is ∙ out_asked_j h.joint w.sent w.got h.queues (sym (ap (λ (v : JointPorts). v.inp) h.is) ∙ e)

  pub left_closed : w.inp ≡ Cancelled → OutClosed w.out
  left_closed e = subst OutClosed (sym (ap (λ (v : JointPorts). v.out) h.is)) (out_left_j h.joint w.sent w.got h.queues (sym (ap (λ (v : JointPorts). v.inp) h.is) ∙ e))

  pub unasked_idle : w.out ≡ Unpulled → w.inp ≡ Idle
  unasked_idle e = ap (λ (v : JointPorts). v.inp) h.is ∙ inp_idle_j h.joint w.sent w.got h.queues (sym (ap (λ (v : JointPorts). v.out) h.is) ∙ e)
