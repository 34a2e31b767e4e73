use Rattle.stage_dropping.proofs.DropNodes.{counted}
use Rattle.stage_dropping.proofs.laws.moves_are_counted.Goals as goal

pub returns : goal.returns
returns c = counted
