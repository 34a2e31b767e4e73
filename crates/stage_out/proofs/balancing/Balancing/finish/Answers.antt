use Rattle.stage_out.proofs.BalanceParts.{ended_waits, ended_all}
use Rattle.stage_out.proofs.balancing.Balancing.finish.Goals as goal

pub returns-then-waits_none-clause-ended : goal.returns-then-waits_none-clause-ended
returns-then-waits_none-clause-ended c =
    ended_all c.args.self.now c.end_input.new.self c.settle.new.self c.args.acts.now.items c.settle.new.acts.items c.end_input.ensures c.requires.empty (c.waits_none.ensures.none c.if-waits_none.true) c.settle.ensures.settles

pub returns-else-waits_none-clause-ended : goal.returns-else-waits_none-clause-ended
returns-else-waits_none-clause-ended c = ended_waits c.args.self.now c.end_input.new.self c.args.acts.now.items c.end_input.ensures c.requires.empty (c.waits_none.ensures.some c.if-waits_none.false)
