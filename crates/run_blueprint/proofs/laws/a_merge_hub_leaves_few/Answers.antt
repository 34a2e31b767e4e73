use Rattle.run_blueprint.proofs.HubRows.{hub_leaves}
use Rattle.run_blueprint.proofs.laws.a_merge_hub_leaves_few.Goals as goal

pub returns : goal.returns
returns c = hub_leaves
