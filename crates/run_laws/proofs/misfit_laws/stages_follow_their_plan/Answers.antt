use Rattle.run_laws.proofs.Plans.{merge_follows_its_plan, recover_follows_its_plan, buffer_follows_its_plan, valve_follows_its_plan}
use Rattle.run_laws.proofs.misfit_laws.stages_follow_their_plan.Goals as goal

pub returns-clause-merge : goal.returns-clause-merge
returns-clause-merge c = merge_follows_its_plan

pub returns-clause-recover : goal.returns-clause-recover
returns-clause-recover c = recover_follows_its_plan

pub returns-clause-buffer : goal.returns-clause-buffer
returns-clause-buffer c = buffer_follows_its_plan

pub returns-clause-valve : goal.returns-clause-valve
returns-clause-valve c = valve_follows_its_plan
