use Rattle.stage_core.proofs.ZipTurns.{zip_new, zip_call, paired_rest, zip_history_stands}
use Rattle.stage_core.proofs.laws.zips_keep_the_law.Goals as goal

pub returns-clause-new : goal.returns-clause-new
returns-clause-new c = zip_new

pub returns-clause-call : goal.returns-clause-call
returns-clause-call c = zip_call

pub returns-clause-rest : goal.returns-clause-rest
returns-clause-rest c = paired_rest

pub returns-clause-stands : goal.returns-clause-stands
returns-clause-stands c = zip_history_stands
