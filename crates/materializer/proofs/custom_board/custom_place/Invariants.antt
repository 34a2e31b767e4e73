-- The loop of `custom_board::custom_place`.
use Rattle.std.proofs.Common.{◌≡◌, drop}
use Rattle.elem_core.specs.Values.{same_text}
use Rattle.blue_names.specs.First.{first_from, when}
use Rattle.materializer.specs.HandedCustoms.{custom_place}
use Rattle.materializer.proofs.custom_board.custom_place.Given as goal

-- none of the custom stages so far
abbrev pub invariant-loop-k : goal.invariant-loop-k
invariant-loop-k g l = custom_place l.name l.customs ≡ first_from (λ k c. when (same_text l.name c.head.name) k) l.k (drop l.k l.customs)
