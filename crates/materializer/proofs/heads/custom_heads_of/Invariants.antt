use Rattle.std.proofs.Common.{◌≡◌, ◌++◌, drop, map}
use Rattle.stream_model.specs.Known.{head_shape}
use Rattle.materializer.proofs.heads.custom_heads_of.Given as goal

-- with those of the custom stages that are left they are all
abbrev pub invariant-loop-custom : goal.invariant-loop-custom
invariant-loop-custom g l = map head_shape l.heads.items ++ map (λ c. head_shape c.head) (drop l.custom-index l.customs) ≡ map (λ c. head_shape c.head) l.customs
