-- The goal of `misfit_laws::every_node_begins_its_plan`.
use Rattle.run_laws.proofs.Stopping.{every_stage_begins}
use Rattle.run_laws.proofs.misfit_laws.every_node_begins_its_plan.Goals as goal

pub returns : goal.returns
returns g c = λ graph w a run k n first now plan at start there follows. every_stage_begins g.S.Source.state g.D.Drain.state w graph a run k n first now plan at start there follows
