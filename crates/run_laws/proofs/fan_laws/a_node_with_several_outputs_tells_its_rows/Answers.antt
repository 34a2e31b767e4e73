use Rattle.run_laws.proofs.ByPlan.{out_by_plan}
use Rattle.run_laws.proofs.fan_laws.a_node_with_several_outputs_tells_its_rows.Goals as goal

pub returns : goal.returns
returns c = out_by_plan
