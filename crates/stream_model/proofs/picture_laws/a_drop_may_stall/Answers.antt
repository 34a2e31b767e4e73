use Rattle.stream_model.proofs.StalledRows.{lawful, rests}
use Rattle.stream_model.proofs.picture_laws.a_drop_may_stall.Goals as goal

pub returns-clause-rests : goal.returns-clause-rests
returns-clause-rests c = rests

pub returns-clause-lawful : goal.returns-clause-lawful
returns-clause-lawful c = lawful
