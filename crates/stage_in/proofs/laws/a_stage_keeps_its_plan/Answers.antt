use Rattle.stage_in.proofs.Nodes.{plan_stays}
use Rattle.stage_in.proofs.laws.a_stage_keeps_its_plan.Goals as goal

pub returns : goal.returns
returns c = plan_stays
