use Rattle.std.proofs.Common.{◌≡◌, true, false, sym, ◌∙◌}
use Rattle.blue_names.specs.Claims.{claim_of}
use Rattle.blue_names.proofs.ClaimTables.{Going-next, Going-found}
use Rattle.blue_names.proofs.claims.first_again.Goals as goal

pub returns-then-not-branch : goal.returns-then-not-branch
returns-then-not-branch c =
    let v = c.loop-claim.invariant in
    let free = c.in_ok-take.ensures.free v.before v.knows in
    Going-found claim_of c.loop-claim.taken.names c.loop-claim.taken.files c.loop-claim.taken.customs c.args.claims.now c.loop-claim.claim-index c.claim-item.result _ c.loop-claim-test.true c.claim-item.is v c.line.result.now (sym c.if-not-branch.true ∙ free) c.line.ensures

pub loop-claim-preserved : goal.loop-claim-preserved
loop-claim-preserved c =
    let v = c.loop-claim.invariant in
    let free = c.in_ok-take.ensures.free v.before v.knows in
    Going-next claim_of c.loop-claim.taken.names c.loop-claim.taken.files c.loop-claim.taken.customs c.args.claims.now c.loop-claim.claim-index c.claim-item.result _ c.loop-claim-test.true c.claim-item.is v c.take.new.self.names c.take.new.self.files c.take.new.self.customs (sym c.if-not-branch.false ∙ free) (c.in_ok-take.ensures.taken v.before v.knows)
