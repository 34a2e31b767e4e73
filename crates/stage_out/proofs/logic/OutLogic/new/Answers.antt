use Rattle.std.proofs.Common.{ap}
use Rattle.port_core.specs.Picks.{plan_of}
use Rattle.stage_out.proofs.OutLogics.{balance_begins}
use Rattle.stage_out.proofs.logic.OutLogic.new.Goals as goal

pub returns-in_ok-new-in-Balance-clause-begins : goal.returns-in_ok-new-in-Balance-clause-begins
returns-in_ok-new-in-Balance-clause-begins c = balance_begins c.args.stage c.args.kind c.in-Balance.outputs c.in_ok-new-in-Balance.field-0 c.in-Balance.is c.requires c.in_ok-new-in-Balance.ensures.begins

pub returns-in_ok-new-in-Balance-clause-free : goal.returns-in_ok-new-in-Balance-clause-free
returns-in_ok-new-in-Balance-clause-free c = ap (plan_of c.in_ok-new-in-Balance.field-0.log.moves) c.in_ok-new-in-Balance.ensures.free
