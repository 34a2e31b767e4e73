use Rattle.std.proofs.Common.{◌≡◌, ◌++◌, map, take}
use Rattle.blue_names.specs.Names.{called}
use Rattle.blue_names.specs.Claims.{claim_of}
use Rattle.blue_names.proofs.claims.add_chains.Given as goal

abbrev pub invariant-loop-chain : goal.invariant-loop-chain
invariant-loop-chain l = map claim_of l.claims.items ≡ map claim_of l.fn.claims.items ++ map (λ c. called c.name) (take l.chain-index l.chains)
