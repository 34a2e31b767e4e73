-- What came to the input of a wire, of what was sent on it.
use Rattle.std.proofs.Common.{◌≡◌, suc, ◌+◌, ◌≤◌, Bool, true, false, List, [], ◌∷◌, ◌++◌, length, refl, sym, ap, ◌∙◌, subst, arith}
use Rattle.std.specs.Prelude.{Option, Some, None}
use Rattle.elem_core.specs.Prefix.{IsPrefix}
use Rattle.elem_core.specs.Tree.{Tree}
use Rattle.elem_core.specs.Items.{elements}
use Rattle.elem_core.specs.declared.item.Item.{Item}
use Rattle.elem_core.specs.declared.item.Item.TheVariants as item
use Rattle.elem_core.specs.declared.why.Cause.{Cause}
use Rattle.port_core.specs.Connection.{ConnStep, quiet, pulled, ready, pushed}
use Rattle.port_core.specs.Wire.{JointPorts, end_item}
use Rattle.port_core.specs.Joint.{Joint, idle, asking, asked, moving, ending, closing, leaving, finished, parted, cancelled, joint_wire, Histories, Queues, under_way, IsSound}
use Rattle.port_core.specs.declared.view.InView.{InView}
use Rattle.port_core.specs.declared.view.InView.TheVariants.{Pulled, Finished}
use Rattle.port_core.specs.Cell.{WireState}
use Rattle.port_core.specs.Marks.{IsMarked}
use Rattle.port_core.proofs.Counting.{elements_end}
use Rattle.port_core.proofs.Marking.{cell}
use Rattle.stream_model.specs.Outlook.{End, unended, ended, failed}
use Rattle.stage_core.specs.Held.{told}
use Rattle.run_laws.proofs.Histories.{got_begins}

-- elements in a row, and a list that was told
pub elements_append : (a b : List Item) → elements (a ++ b) ≡ elements a + elements b
elements_append [] b = omega arith
elements_append (item.Elem t ∷ a) b = omega (arith, elements_append a b)
elements_append (item.Ended ∷ a) b = elements_append a b
elements_append (item.Failed c ∷ a) b = elements_append a b

-- a first part of a history has no more elements
pub elements_prefix : (g s : List Item) → IsPrefix g s → elements g ≤ elements s
elements_prefix g s p = let same : elements s ≡ elements (g ++ p.rest) = ap elements p.is in omega (arith, same, elements_append g p.rest)

pub elements_told : (l : List Tree) (e : End) → elements (told l e) ≡ length l
elements_told [] unended = refl
elements_told [] ended = refl
elements_told [] (failed c) = refl
elements_told (t ∷ l) e = ap suc (elements_told l e)

-- the end of a wire is no element, and one element at most is on its way
end_none : (c : Option Cause) → elements (end_item c ∷ []) ≡ 0
end_none None = refl
end_none (Some c) = refl

way_few : (t : ConnStep) → elements (under_way t) ≤ 1
way_few quiet = omega arith
way_few pulled = omega arith
way_few ready = omega arith
way_few (pushed e) = omega arith

closing_few : (t : ConnStep) (c : Option Cause) → elements (under_way t ++ end_item c ∷ []) ≤ 1
closing_few t c = omega (arith, elements_append (under_way t) (end_item c ∷ []), end_none c, way_few t)

-- an input that saw the end got all that was sent
over_at : (j : Joint) (s g : List Item) → Histories j s g → (joint_wire j s g).inp ≡ Finished → elements s ≡ elements g
over_at idle s g h e = cc
over_at asking s g h e = cc
over_at asked s g h e = cc
over_at (moving x) s g h e = cc
over_at (ending c) s g h e = cc
over_at (closing t c) s g h e = cc
over_at (leaving true t) s g h e = cc
over_at (leaving false t) s g h e = cc
over_at (finished t c) s g h e = ap elements h
over_at (parted t c) s g h e = cc
over_at (cancelled t c) s g h e = cc

-- one that waits got all but one element at most, and all where no event is left
waiting_at : (j : Joint) (s g : List Item) → Histories j s g → (joint_wire j s g).inp ≡ Pulled → elements s ≤ elements g + 1
waiting_at idle s g h e = cc
waiting_at asking s g h e = let same : elements s ≡ elements g = ap elements h in omega (arith, same)
waiting_at asked s g h e = let same : elements s ≡ elements g = ap elements h in omega (arith, same)
waiting_at (moving x) s g h e = let same : elements s ≡ elements (g ++ item.Elem x ∷ []) = ap elements h in omega (arith, same, elements_append g (item.Elem x ∷ []))
waiting_at (ending c) s g h e = cc
waiting_at (closing t c) s g h e =
    let same : elements s ≡ elements (g ++ (under_way t ++ end_item c ∷ [])) = ap elements h in
    omega (arith, same, elements_append g (under_way t ++ end_item c ∷ []), closing_few t c)
waiting_at (leaving true t) s g h e = cc
waiting_at (leaving false t) s g h e = cc
waiting_at (finished t c) s g h e = cc
waiting_at (parted t c) s g h e = cc
waiting_at (cancelled t c) s g h e = cc

resting_at : (j : Joint) (s g : List Item) → Histories j s g → Queues j false → (joint_wire j s g).inp ≡ Pulled → elements s ≡ elements g
resting_at idle s g h q e = cc
resting_at asking s g h q e = cc
resting_at asked s g h q e = ap elements h
resting_at (moving x) s g h q e = cc
resting_at (ending c) s g h q e = cc
resting_at (closing t c) s g h q e = cc
resting_at (leaving true t) s g h q e = cc
resting_at (leaving false t) s g h q e = cc
resting_at (finished t c) s g h q e = cc
resting_at (parted t c) s g h q e = cc
resting_at (cancelled t c) s g h q e = cc

no_mark : {b : Bool} → b ≡ false → b ≡ true → ⊥
no_mark e f = cc

-- while its ask is not answered, all elements that were sent have come
all_j : (j : Joint) (s g : List Item) (b : Bool) → Histories j s g → IsMarked (cell (joint_wire j s g) b) → (joint_wire j s g).inp ≡ Pulled → b ≡ true → elements s ≡ elements g
all_j idle s g b h m e t = cc
all_j asking s g b h m e t = ap elements h
all_j asked s g b h m e t = ap elements h
all_j (moving x) s g b h m e t = absurd (no_mark (m.unclosed refl) t)
all_j (ending c) s g b h m e t = cc
all_j (closing quiet c) s g b h m e t = absurd (no_mark (m.unclosed refl) t)
all_j (closing pulled c) s g b h m e t = ap elements h ∙ elements_end g c
all_j (closing ready c) s g b h m e t = ap elements h ∙ elements_end g c
all_j (closing (pushed x) c) s g b h m e t = absurd (no_mark (m.unclosed refl) t)
all_j (leaving true u) s g b h m e t = cc
all_j (leaving false u) s g b h m e t = cc
all_j (finished u c) s g b h m e t = cc
all_j (parted u c) s g b h m e t = cc
all_j (cancelled u c) s g b h m e t = cc

pub all_came : (c : WireState) (q : Bool) → IsMarked c → IsSound c.wire q → c.wire.inp ≡ Pulled → c.asked ≡ true → elements c.wire.sent ≡ elements c.wire.got
all_came c q m h e t =
    let marked : IsMarked (cell (joint_wire h.joint c.wire.sent c.wire.got) c.asked) = subst (λ (v : JointPorts). IsMarked (cell v c.asked)) h.is m in
    all_j h.joint c.wire.sent c.wire.got c.asked h.histories marked (sym (ap (λ (v : JointPorts). v.inp) h.is) ∙ e) t

module _ (c : JointPorts) (q : Bool) (sound : IsSound c q) where
  inp_is : (i : InView) → c.inp ≡ i → (joint_wire sound.joint c.sent c.got).inp ≡ i
  inp_is i e = sym (ap (λ (v : JointPorts). v.inp) sound.is) ∙ e

  pub over_same : c.inp ≡ Finished → elements c.sent ≡ elements c.got
  over_same e = over_at sound.joint c.sent c.got sound.histories (inp_is Finished e)

  pub waiting_few : c.inp ≡ Pulled → elements c.sent ≤ elements c.got + 1
  waiting_few e = waiting_at sound.joint c.sent c.got sound.histories (inp_is Pulled e)

  pub resting_same : q ≡ false → c.inp ≡ Pulled → elements c.sent ≡ elements c.got
  resting_same none e = resting_at sound.joint c.sent c.got sound.histories (rw none at sound.queues) (inp_is Pulled e)

  pub no_fewer : elements c.got ≤ elements c.sent
  no_fewer =
      elements_prefix c.got c.sent (got_begins c q sound)
