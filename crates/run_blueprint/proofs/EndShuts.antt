-- A connection on which an end was sent is closed, one that is closed without was cancelled; and how one stands whose input waits, at
-- any moment.
use Rattle.std.specs.Prelude.{Option, None, Some, if◌then◌else◌}
use Rattle.std.proofs.Common.{◌≡◌, ◌≢◌, ℕ, ◌+◌, Bool, true, false, not, List, [], ◌∷◌, ◌++◌, refl, sym, ap, subst, ◌∙◌, arith}
use Rattle.elem_core.specs.Tree.{Tree}
use Rattle.elem_core.specs.Items.{elements}
use Rattle.elem_core.specs.declared.item.Item.{Item}
use Rattle.elem_core.specs.declared.item.Item.TheVariants as item
use Rattle.elem_core.specs.declared.why.Cause.{Cause}
use Rattle.port_core.specs.Cell.{WireState}
use Rattle.port_core.specs.Connection.{ConnStep, quiet, pulled, ready, pushed}
use Rattle.port_core.specs.Decoding.{is_open}
use Rattle.port_core.specs.Joint.{Joint, idle, asking, asked, moving, ending, closing, leaving, finished, parted, cancelled, joint_wire, Histories, under_way, IsSound}
use Rattle.port_core.specs.Marks.{IsMarked}
use Rattle.port_core.specs.Wire.{JointPorts, end_item}
use Rattle.port_core.specs.declared.view.InView.TheVariants.{Pulled, Finished, Cancelled}
use Rattle.port_core.specs.declared.view.OutView.TheVariants as outlet
use Rattle.port_core.proofs.Marking.{cell}
use Rattle.stage_core.specs.Held.{told}
use Rattle.stage_core.specs.Law.{TookAs}
use Rattle.stream_model.specs.Outlook.{End, unended, ended, failed}
use Rattle.run_laws.specs.Items.{end_of_items}
use Rattle.run_laws.proofs.Coming.{elements_append}
use Rattle.run_laws.proofs.Histories.{standing_told}

-- what stands behind a list that goes on
told_on : (l : List Tree) (r : List Item) → end_of_items (told l unended ++ r) ≡ end_of_items r
told_on [] r = refl
told_on (t ∷ l) r = told_on l r

-- all that was sent has come, or all but one element, and no end
all_open : (s g : List Item) (l : List Tree) (e : End) → s ≡ g → g ≡ told l e → e ≡ unended → end_of_items s ≡ unended
all_open s g l e h is goes = ap end_of_items (h ∙ is) ∙ standing_told l e ∙ goes

one_open : (s g : List Item) (x : Tree) (l : List Tree) (e : End) → s ≡ g ++ item.Elem x ∷ [] → g ≡ told l e → e ≡ unended → end_of_items s ≡ unended
one_open s g x l e h is goes = ap end_of_items (h ∙ ap (λ (y : List Item). y ++ item.Elem x ∷ []) (is ∙ ap (told l) goes)) ∙ told_on l (item.Elem x ∷ [])

ends_j : (j : Joint) (s g : List Item) (l : List Tree) (e : End) → Histories j s g → g ≡ told l e → TookAs (joint_wire j s g).inp e → (end_of_items s ≡ unended → ⊥) → not (is_open (joint_wire j s g).conn) ≡ true
ends_j idle s g l e h is seen over = absurd (over (all_open s g l e h is seen))
ends_j asking s g l e h is seen over = absurd (over (all_open s g l e h is seen))
ends_j asked s g l e h is seen over = absurd (over (all_open s g l e h is seen))
ends_j (moving x) s g l e h is seen over = absurd (over (one_open s g x l e h is seen))
ends_j (ending c) s g l e h is seen over = refl
ends_j (closing t c) s g l e h is seen over = refl
ends_j (leaving true t) s g l e h is seen over = refl
ends_j (leaving false t) s g l e h is seen over = refl
ends_j (finished t c) s g l e h is seen over = refl
ends_j (parted t c) s g l e h is seen over = refl
ends_j (cancelled t c) s g l e h is seen over = refl

-- one on which an end was sent, of which a list and its end came, as is known there
pub end_shuts : (w : JointPorts) (q : Bool) → IsSound w q → (l : List Tree) (e : End) → w.got ≡ told l e → TookAs w.inp e → (end_of_items w.sent ≡ unended → ⊥) → not (is_open w.conn) ≡ true
end_shuts w q h l e is seen over =
    subst (λ (v : JointPorts). not (is_open v.conn) ≡ true) (sym h.is) (ends_j h.joint w.sent w.got l e h.histories is (subst (λ (v : JointPorts). TookAs v.inp e) h.is seen) over)

ends_behind : (t : ConnStep) (c : Option Cause) → end_of_items (under_way t ++ end_item c ∷ []) ≡ unended → ⊥
ends_behind quiet None e = cc
ends_behind quiet (Some c) e = cc
ends_behind pulled None e = cc
ends_behind pulled (Some c) e = cc
ends_behind ready None e = cc
ends_behind ready (Some c) e = cc
ends_behind (pushed x) None e = cc
ends_behind (pushed x) (Some c) e = cc

closing_ends : (t : ConnStep) (c : Option Cause) (s g : List Item) (l : List Tree) (e : End) → s ≡ g ++ (under_way t ++ end_item c ∷ []) → g ≡ told l e → e ≡ unended → end_of_items s ≡ unended → ⊥
closing_ends t c s g l e h is goes none =
    let all : s ≡ told l unended ++ (under_way t ++ end_item c ∷ []) = h ∙ ap (λ (y : List Item). y ++ (under_way t ++ end_item c ∷ [])) (is ∙ ap (told l) goes) in
    ends_behind t c (sym (told_on l (under_way t ++ end_item c ∷ [])) ∙ sym (ap end_of_items all) ∙ none)

-- ---- one that is closed and on which no end was sent

finished_ends : (s g : List Item) (l : List Tree) (e : End) → s ≡ g → g ≡ told l e → TookAs Finished e → end_of_items s ≡ unended → ⊥
finished_ends s g l unended h is seen none = seen
finished_ends s g l ended h is seen none = let same : ended ≡ unended = sym (standing_told l ended) ∙ ap end_of_items (sym is ∙ sym h) ∙ none in cc
finished_ends s g l (failed c) h is seen none = let same : failed c ≡ unended = sym (standing_told l (failed c)) ∙ ap end_of_items (sym is ∙ sym h) ∙ none in cc

left_j : (j : Joint) (s g : List Item) (l : List Tree) (e : End) → Histories j s g → g ≡ told l e → TookAs (joint_wire j s g).inp e → not (is_open (joint_wire j s g).conn) ≡ true → end_of_items s ≡ unended → (joint_wire j s g).inp ≡ Cancelled
left_j idle s g l e h is seen shut none = cc
left_j asking s g l e h is seen shut none = cc
left_j asked s g l e h is seen shut none = cc
left_j (moving x) s g l e h is seen shut none = cc
left_j (ending c) s g l e h is seen shut none = absurd (closing_ends quiet c s g l e h is seen none)
left_j (closing t c) s g l e h is seen shut none = absurd (closing_ends t c s g l e h is seen none)
left_j (leaving true t) s g l e h is seen shut none = refl
left_j (leaving false t) s g l e h is seen shut none = refl
left_j (finished t c) s g l e h is seen shut none = absurd (finished_ends s g l e h is seen none)
left_j (parted t c) s g l e h is seen shut none = refl
left_j (cancelled t c) s g l e h is seen shut none = refl

-- its input cancelled it
pub shut_left : (w : JointPorts) (q : Bool) → IsSound w q → (l : List Tree) (e : End) → w.got ≡ told l e → TookAs w.inp e → not (is_open w.conn) ≡ true → end_of_items w.sent ≡ unended → w.inp ≡ Cancelled
shut_left w q h l e is seen shut none =
    let inp : w.inp ≡ (joint_wire h.joint w.sent w.got).inp = ap (λ (v : JointPorts). v.inp) h.is in
    inp ∙ left_j h.joint w.sent w.got l e h.histories is (subst (λ (v : JointPorts). TookAs v.inp e) h.is seen) (subst (λ (v : JointPorts). not (is_open v.conn) ≡ true) h.is shut) none

-- one whose output knows of a cancel was cancelled by its input
out_left_j : (j : Joint) (s g : List Item) → (joint_wire j s g).out ≡ outlet.Cancelled → (joint_wire j s g).inp ≡ Cancelled
out_left_j idle s g e = cc
out_left_j asking s g e = cc
out_left_j asked s g e = cc
out_left_j (moving x) s g e = cc
out_left_j (ending c) s g e = cc
out_left_j (closing t c) s g e = cc
out_left_j (leaving true t) s g e = cc
out_left_j (leaving false t) s g e = cc
out_left_j (finished t c) s g e = cc
out_left_j (parted t c) s g e = cc
out_left_j (cancelled t c) s g e = refl

pub out_left : (w : JointPorts) (q : Bool) → IsSound w q → w.out ≡ outlet.Cancelled → w.inp ≡ Cancelled
out_left w q h e = ap (λ (v : JointPorts). v.inp) h.is ∙ out_left_j h.joint w.sent w.got (sym (ap (λ (v : JointPorts). v.out) h.is) ∙ e)

-- ---- its input waits

marks_j : (j : Joint) (s g : List Item) (b : Bool) → Histories j s g → IsMarked (cell (joint_wire j s g) b) → (joint_wire j s g).inp ≡ Pulled → not (is_open (joint_wire j s g).conn) ≡ false
    → elements s ≡ (if b then elements g else elements g + 1)
marks_j idle s g b h m p none = cc
marks_j asking s g b h m p none = subst (λ (x : Bool). elements s ≡ (if x then elements g else elements g + 1)) (sym (m.unclosed refl)) (ap elements h)
marks_j asked s g b h m p none = subst (λ (x : Bool). elements s ≡ (if x then elements g else elements g + 1)) (sym (m.unclosed refl)) (ap elements h)
marks_j (moving x) s g b h m p none =
    let same : elements s ≡ elements (g ++ item.Elem x ∷ []) = ap elements h in
    let one : elements s ≡ elements g + 1 = omega (arith, same, elements_append g (item.Elem x ∷ [])) in
    subst (λ (y : Bool). elements s ≡ (if y then elements g else elements g + 1)) (sym (m.unclosed refl)) one
marks_j (ending c) s g b h m p none = cc
marks_j (closing t c) s g b h m p none = cc
marks_j (leaving true t) s g b h m p none = cc
marks_j (leaving false t) s g b h m p none = cc
marks_j (finished t c) s g b h m p none = cc
marks_j (parted t c) s g b h m p none = cc
marks_j (cancelled t c) s g b h m p none = cc

-- where it is open, all that was sent has come where it is marked, and else all but one element
pub waits_marked : (c : WireState) (q : Bool) → IsMarked c → IsSound c.wire q → c.wire.inp ≡ Pulled → not (is_open c.wire.conn) ≡ false → elements c.wire.sent ≡ (if c.asked then elements c.wire.got else elements c.wire.got + 1)
waits_marked c q m h p none =
    let marked : IsMarked (cell (joint_wire h.joint c.wire.sent c.wire.got) c.asked) = subst (λ (v : JointPorts). IsMarked (cell v c.asked)) h.is m in
    marks_j h.joint c.wire.sent c.wire.got c.asked h.histories marked (sym (ap (λ (v : JointPorts). v.inp) h.is) ∙ p) (subst (λ (v : JointPorts). not (is_open v.conn) ≡ false) h.is none)
