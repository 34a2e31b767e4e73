-- What is known of one wire by what its output's stage knows.
use Rattle.std.proofs.Common.{◌≡◌, Bool, true, false, List, [], ◌∷◌, refl, sym, ap, ◌∙◌}
use Rattle.elem_core.specs.Tree.{Tree}
use Rattle.elem_core.specs.declared.item.Item.{Item}
use Rattle.elem_core.specs.declared.item.Item.TheVariants as item
use Rattle.port_core.specs.Decoding.{can_push}
use Rattle.port_core.specs.Joint.{Joint, idle, asking, asked, moving, ending, closing, leaving, finished, parted, cancelled, joint_wire, IsSound, Queues}
use Rattle.port_core.specs.Wire.{JointPorts}
use Rattle.port_core.specs.declared.view.OutView.{OutView}
use Rattle.port_core.specs.declared.view.OutView.TheVariants.{Unpulled, Available, Closed, Cancelled}
use Rattle.stream_model.specs.Outlook.{End, unended, ended, failed}
use Rattle.stage_core.specs.Held.{told}
use Rattle.stage_core.specs.Law.{GaveAs}

-- where an output may push its stage knows that it was asked
push_j : (j : Joint) (s g : List Item) → can_push (joint_wire j s g).conn ≡ true → (joint_wire j s g).out ≡ Available
push_j idle s g e = cc
push_j asking s g e = cc
push_j asked s g e = refl
push_j (moving x) s g e = cc
push_j (ending c) s g e = cc
push_j (closing t c) s g e = cc
push_j (leaving true t) s g e = refl
push_j (leaving false t) s g e = cc
push_j (finished t c) s g e = cc
push_j (parted t c) s g e = cc
push_j (cancelled t c) s g e = cc

pub push_asked : (w : JointPorts) (q : Bool) → IsSound w q → can_push w.conn ≡ true → w.out ≡ Available
push_asked w q h e = ap (λ (v : JointPorts). v.out) h.is ∙ push_j h.joint w.sent w.got (sym (ap (λ (v : JointPorts). can_push v.conn) h.is) ∙ e)

-- where it was asked and may not push, a cancel is on its way
away_j : (j : Joint) (s g : List Item) → (joint_wire j s g).out ≡ Available → can_push (joint_wire j s g).conn ≡ false → (joint_wire j s g).conn.in_closed ≡ true
away_j idle s g a e = cc
away_j asking s g a e = cc
away_j asked s g a e = cc
away_j (moving x) s g a e = cc
away_j (ending c) s g a e = cc
away_j (closing t c) s g a e = cc
away_j (leaving true t) s g a e = refl
away_j (leaving false t) s g a e = cc
away_j (finished t c) s g a e = cc
away_j (parted t c) s g a e = cc
away_j (cancelled t c) s g a e = cc

pub cancel_away : (w : JointPorts) (q : Bool) → IsSound w q → w.out ≡ Available → can_push w.conn ≡ false → w.conn.in_closed ≡ true
cancel_away w q h a e = ap (λ (v : JointPorts). v.conn.in_closed) h.is ∙ away_j h.joint w.sent w.got (sym (ap (λ (v : JointPorts). v.out) h.is) ∙ a) (sym (ap (λ (v : JointPorts). can_push v.conn) h.is) ∙ e)

-- but not where the wire has no event
rest_j : (j : Joint) (s g : List Item) → (joint_wire j s g).out ≡ Available → Queues j false → (joint_wire j s g).conn.in_closed ≡ false
rest_j idle s g a e = refl
rest_j asking s g a e = refl
rest_j asked s g a e = refl
rest_j (moving x) s g a e = refl
rest_j (ending c) s g a e = refl
rest_j (closing t c) s g a e = refl
rest_j (leaving b t) s g a e = absurd cc
rest_j (finished t c) s g a e = cc
rest_j (parted t c) s g a e = cc
rest_j (cancelled t c) s g a e = cc

pub rest_open : (w : JointPorts) → IsSound w false → w.out ≡ Available → w.conn.in_closed ≡ false
rest_open w h a = ap (λ (v : JointPorts). v.conn.in_closed) h.is ∙ rest_j h.joint w.sent w.got (sym (ap (λ (v : JointPorts). v.out) h.is) ∙ a) h.queues

-- an output that was closed, but not by its stage, was cancelled
refused_j : (j : Joint) (s g : List Item) → (joint_wire j s g).conn.out_closed ≡ true → ((joint_wire j s g).out ≡ Closed → ⊥) → (joint_wire j s g).out ≡ Cancelled
refused_j idle s g c n = cc
refused_j asking s g c n = cc
refused_j asked s g c n = cc
refused_j (moving x) s g c n = cc
refused_j (ending x) s g c n = absurd (n refl)
refused_j (closing t x) s g c n = absurd (n refl)
refused_j (leaving true t) s g c n = cc
refused_j (leaving false t) s g c n = cc
refused_j (finished t x) s g c n = absurd (n refl)
refused_j (parted t x) s g c n = absurd (n refl)
refused_j (cancelled t x) s g c n = refl

pub was_refused : (w : JointPorts) (q : Bool) → IsSound w q → w.conn.out_closed ≡ true → (w.out ≡ Closed → ⊥) → w.out ≡ Cancelled
was_refused w q h c n = ap (λ (v : JointPorts). v.out) h.is ∙ refused_j h.joint w.sent w.got (sym (ap (λ (v : JointPorts). v.conn.out_closed) h.is) ∙ c) (λ e. n (ap (λ (v : JointPorts). v.out) h.is ∙ e))

closed_j : (j : Joint) (s g : List Item) → (joint_wire j s g).out ≡ Cancelled → (joint_wire j s g).conn.out_closed ≡ true
closed_j idle s g e = cc
closed_j asking s g e = cc
closed_j asked s g e = cc
closed_j (moving x) s g e = cc
closed_j (ending c) s g e = cc
closed_j (closing t c) s g e = cc
closed_j (leaving true t) s g e = cc
closed_j (leaving false t) s g e = cc
closed_j (finished t c) s g e = cc
closed_j (parted t c) s g e = cc
closed_j (cancelled t c) s g e = refl

pub refused_closed : (w : JointPorts) (q : Bool) → IsSound w q → w.out ≡ Cancelled → w.conn.out_closed ≡ true
refused_closed w q h e = ap (λ (v : JointPorts). v.conn.out_closed) h.is ∙ closed_j h.joint w.sent w.got (sym (ap (λ (v : JointPorts). v.out) h.is) ∙ e)

-- ---- a history and its end

-- the end of a history
abbrev end_in : List Item → End
end_in [] = unended
end_in (item.Elem e ∷ l) = end_in l
end_in (item.Ended ∷ l) = ended
end_in (item.Failed c ∷ l) = failed c

end_told : (l : List Tree) (e : End) → end_in (told l e) ≡ e
end_told [] unended = refl
end_told [] ended = refl
end_told [] (failed c) = refl
end_told (t ∷ l) e = end_told l e

pub one_end : (l k : List Tree) (e f : End) → told l e ≡ told k f → e ≡ f
one_end l k e f h = sym (end_told l e) ∙ ap end_in h ∙ end_told k f

pub shut_ended : (y : OutView) (e : End) → GaveAs y e → (e ≡ unended → ⊥) → y ≡ Closed
shut_ended Unpulled e g n = absurd (n g)
shut_ended Available e g n = absurd (n g)
shut_ended Closed e g n = refl
shut_ended Cancelled e g n = absurd (n g)

pub open_unended : (y : OutView) (e : End) → GaveAs y e → (y ≡ Closed → ⊥) → e ≡ unended
open_unended Unpulled e g n = g
open_unended Available e g n = g
open_unended Closed e g n = absurd (n refl)
open_unended Cancelled e g n = g

pub unended_open : (y : OutView) (e : End) → GaveAs y e → e ≡ unended → y ≡ Closed → ⊥
unended_open Closed unended g n s = g
unended_open Closed ended g n s = cc
unended_open Closed (failed c) g n s = cc
unended_open Unpulled e g n s = cc
unended_open Available e g n s = cc
unended_open Cancelled e g n s = cc

-- an output that stands at the same history stands closed by its stage exactly where it did
pub shut_stays : (y z : OutView) (l k : List Tree) (e f : End) → told l e ≡ told k f → GaveAs y e → GaveAs z f → y ≡ Closed → z ≡ Closed
shut_stays y z l k e f h a b s = shut_ended z f b (λ n. unended_open y e a (one_end l k e f h ∙ n) s)

pub open_stays : (y z : OutView) (l k : List Tree) (e f : End) → told l e ≡ told k f → GaveAs y e → GaveAs z f → (y ≡ Closed → ⊥) → z ≡ Closed → ⊥
open_stays y z l k e f h a b n = unended_open z f b (sym (one_end l k e f h) ∙ open_unended y e a n)
