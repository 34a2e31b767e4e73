use Rattle.graph_stage.proofs.Failing.{failures_lead}
use Rattle.graph_stage.proofs.laws.a_custom_stage_blames_itself.Goals as goal

pub returns : goal.returns
returns c b = failures_lead
