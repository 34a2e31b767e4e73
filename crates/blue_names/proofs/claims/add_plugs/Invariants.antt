use Rattle.std.proofs.Common.{◌≡◌, ◌++◌, map, take}
use Rattle.blue_names.specs.Names.{called}
use Rattle.blue_names.specs.Claims.{claim_of}
use Rattle.blue_names.proofs.claims.add_plugs.Given as goal

abbrev pub invariant-loop-plug : goal.invariant-loop-plug
invariant-loop-plug l = map claim_of l.claims.items ≡ map claim_of l.fn.claims.items ++ map (λ p. called p.name) (take l.plug-index l.plugs)
