use Rattle.stage_core.proofs.Calls.{new_law, call_law}
use Rattle.stage_core.proofs.laws.calls_keep_the_law.Goals as goal

pub returns-clause-new : goal.returns-clause-new
returns-clause-new c = λ m start. new_law m start

pub returns-clause-call : goal.returns-clause-call
returns-clause-call c = λ m start j. call_law m start j
