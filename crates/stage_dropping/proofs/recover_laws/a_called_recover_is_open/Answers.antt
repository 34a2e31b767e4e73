use Rattle.stage_dropping.proofs.RecoverNodes.{called_open}
use Rattle.stage_dropping.proofs.recover_laws.a_called_recover_is_open.Goals as goal

pub returns : goal.returns
returns c = called_open
