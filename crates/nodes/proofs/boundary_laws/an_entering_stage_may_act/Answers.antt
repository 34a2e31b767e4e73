use Rattle.nodes.proofs.Enters.{may_push, may_complete, may_fail}
use Rattle.nodes.proofs.boundary_laws.an_entering_stage_may_act.Goals as goal

pub returns-clause-push : goal.returns-clause-push
returns-clause-push c = may_push

pub returns-clause-complete : goal.returns-clause-complete
returns-clause-complete c = may_complete

pub returns-clause-fail : goal.returns-clause-fail
returns-clause-fail c = may_fail
