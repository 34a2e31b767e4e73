use Rattle.std.proofs.Common.{◌≡◌, ◌++◌, map, take}
use Rattle.blue_names.specs.Names.{called}
use Rattle.blue_names.specs.Claims.{claim_of}
use Rattle.blue_names.proofs.claims.add_switches.Given as goal

abbrev pub invariant-loop-name : goal.invariant-loop-name
invariant-loop-name l = map claim_of l.claims.items ≡ map claim_of l.fn.claims.items ++ map called (take l.name-index l.switches)
