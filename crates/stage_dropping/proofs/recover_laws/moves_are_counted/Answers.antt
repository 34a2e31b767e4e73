use Rattle.stage_dropping.proofs.RecoverNodes.{counted}
use Rattle.stage_dropping.proofs.recover_laws.moves_are_counted.Goals as goal

pub returns : goal.returns
returns c = counted
