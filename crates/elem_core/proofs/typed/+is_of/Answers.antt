-- The goal that the search leaves in `are_of_type`.
use Rattle.std.proofs.Common.{arith, ap}
use Rattle.elem_core.specs.Tree.{size_of_row, row}
use Rattle.elem_core.proofs.Sizes.{item_size}
use Rattle.elem_core.proofs.typed.+is_of.Goals as goal

-- each item is smaller than the list that it is taken from
pub are_of_type-is_of_type-requires : goal.are_of_type-is_of_type-requires
are_of_type-is_of_type-requires t c =
    let smaller = item_size c.deref-e-items.result.now c.loop-e.e-index c.e-item.result c.e-item.is c.loop-e-test.true in
    let same = ap (λ ts. size_of_row (row ts)) c.deref-e-items.ensures.value in
    (omega (arith, c.decreases), tt)
