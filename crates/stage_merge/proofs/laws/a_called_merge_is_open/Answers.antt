use Rattle.stage_merge.proofs.MergeNodes.{called_open, called_fits}
use Rattle.stage_merge.proofs.laws.a_called_merge_is_open.Goals as goal

pub returns-clause-opens : goal.returns-clause-opens
returns-clause-opens c = called_open

pub returns-clause-room : goal.returns-clause-room
returns-clause-room c = called_fits
