use Rattle.std.proofs.Common.{map, drop}
use Rattle.blue_names.specs.Names.{opens, first_again}
use Rattle.blue_names.specs.Claims.{claim_of}
use Rattle.blue_names.proofs.ClaimTables.{Going}
use Rattle.blue_names.proofs.claims.first_again.Given as goal

abbrev pub invariant-loop-claim : goal.invariant-loop-claim
invariant-loop-claim l =
    Going l.taken.names l.taken.files l.taken.customs (first_again (map opens l.files) (map claim_of l.claims)) (map claim_of (drop l.claim-index l.claims))
