use Rattle.std.proofs.Common.{subst}
use Rattle.stage_out.specs.OutLogics.{Begins, IsNewBalance}
use Rattle.stage_out.proofs.OutLogics.{follows, followed_plan}
use Rattle.stage_out.proofs.logic.OutLogic.follow.Goals as goal

pub follow-requires-clause-new : goal.follow-requires-clause-new
follow-requires-clause-new c = let m = c.requires.balance in (m.outputs, subst (λ l. IsNewBalance m.outputs l) c.in-Balances.is m.begins, m.named)

pub returns-clause-begins : goal.returns-clause-begins
returns-clause-begins c =
    let m = c.requires.balance in
    let was = subst (λ l. IsNewBalance m.outputs l) c.in-Balances.is m.begins in
    λ node kind h. follows node kind m.outputs _ c.follow.new.self m.fan was c.follow.ensures.begins (subst (λ l. Begins node kind l) c.in-Balances.is h)

pub returns-clause-plan : goal.returns-clause-plan
returns-clause-plan c =
    let m = c.requires.balance in
    let was = subst (λ l. IsNewBalance m.outputs l) c.in-Balances.is m.begins in
    followed_plan c.follow.new.self c.args.moves.items c.follow.ensures.plan (c.follow.ensures.begins m.outputs was).moves
