use Rattle.stage_dropping.proofs.DropNodes.{rest_given}
use Rattle.stage_dropping.proofs.laws.moves_give_for_every_rest.Goals as goal

pub returns : goal.returns
returns c = rest_given
