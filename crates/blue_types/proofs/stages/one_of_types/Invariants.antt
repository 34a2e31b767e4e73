use Rattle.std.proofs.Common.{◌≡◌, not, drop}
use Rattle.std.specs.Prelude.{nat_le}
use Rattle.elem_core.specs.Sort.{nesting}
use Rattle.blue_names.specs.First.{first_from, when}
use Rattle.blue_names.specs.declared.typed.TheConstants.{MAX_NESTING}
use Rattle.blue_types.proofs.stages.one_of_types.Given as goal

abbrev pub invariant-loop-t : goal.invariant-loop-t
invariant-loop-t l =
    first_from (λ _ t. when (not (nat_le (nesting t) MAX_NESTING)) t) 0 l.types
    ≡ first_from (λ _ t. when (not (nat_le (nesting t) MAX_NESTING)) t) l.t-index (drop l.t-index l.types)
