use Rattle.stage_core.proofs.FanTurns.{fan_new, fan_call, fan_rest, fan_history_stands}
use Rattle.stage_core.proofs.laws.fans_keep_the_law.Goals as goal

pub returns-clause-new : goal.returns-clause-new
returns-clause-new c = fan_new

pub returns-clause-call : goal.returns-clause-call
returns-clause-call c = fan_call

pub returns-clause-rest : goal.returns-clause-rest
returns-clause-rest c = fan_rest

pub returns-clause-stands : goal.returns-clause-stands
returns-clause-stands c = fan_history_stands
