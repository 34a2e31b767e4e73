use Rattle.stage_core.proofs.MergeTurns.{merge_new, merge_call, merge_rest, merge_history_stands}
use Rattle.stage_core.proofs.laws.merges_keep_the_law.Goals as goal

pub returns-clause-new : goal.returns-clause-new
returns-clause-new c = merge_new

pub returns-clause-call : goal.returns-clause-call
returns-clause-call c = merge_call

pub returns-clause-rest : goal.returns-clause-rest
returns-clause-rest c = merge_rest

pub returns-clause-stands : goal.returns-clause-stands
returns-clause-stands c = merge_history_stands
