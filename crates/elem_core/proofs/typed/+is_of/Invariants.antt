-- The measures and the invariant of `is_of_type` and `are_of_type`.
use Rattle.std.proofs.Common.{◌≡◌, drop}
use Rattle.elem_core.specs.Tree.{row, size_of, size_of_row}
use Rattle.elem_core.specs.Typed.{all_of}
use Rattle.elem_core.proofs.typed.+is_of.Given as goal

abbrev pub decreases-is_of_type : goal.decreases-is_of_type
decreases-is_of_type l = size_of l.e.now

abbrev pub decreases-are_of_type : goal.decreases-are_of_type
decreases-are_of_type l = size_of_row (row l.items.now.items)

abbrev pub invariant-are_of_type-loop-e : goal.invariant-are_of_type-loop-e
invariant-are_of_type-loop-e l = all_of l.t (row (drop l.e-index l.items.items)) ≡ all_of l.t (row l.items.items)
