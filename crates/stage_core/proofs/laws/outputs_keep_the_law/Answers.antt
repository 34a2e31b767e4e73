use Rattle.stage_core.proofs.Calls.{stands_later}
use Rattle.stage_core.proofs.OutTurns.{outs_call}
use Rattle.stage_core.proofs.laws.outputs_keep_the_law.Goals as goal

pub returns-clause-call : goal.returns-clause-call
returns-clause-call c = outs_call 0

pub returns-clause-closed : goal.returns-clause-closed
returns-clause-closed c = stands_later
