use Rattle.std.proofs.Common.{◌≡◌, ◌++◌, map, take}
use Rattle.blue_names.specs.Names.{hires}
use Rattle.stream_model.specs.Known.{head_shape}
use Rattle.blue_names.specs.Claims.{claim_of}
use Rattle.blue_names.proofs.claims.add_customs.Given as goal

abbrev pub invariant-loop-custom : goal.invariant-loop-custom
invariant-loop-custom l = map claim_of l.claims.items ≡ map claim_of l.fn.claims.items ++ map (λ c. hires c.name) (map head_shape (take l.custom-index l.customs))
