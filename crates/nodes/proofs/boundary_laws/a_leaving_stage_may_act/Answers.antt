use Rattle.nodes.proofs.Leaves.{may_pull, may_cancel}
use Rattle.nodes.proofs.boundary_laws.a_leaving_stage_may_act.Goals as goal

pub returns-clause-pull : goal.returns-clause-pull
returns-clause-pull c = may_pull

pub returns-clause-cancel : goal.returns-clause-cancel
returns-clause-cancel c = may_cancel
