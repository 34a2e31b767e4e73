use Rattle.port_core.specs.Call.{starts}
use Rattle.stage_core.proofs.OnOks.{on_ok_two}
use Rattle.stage_out.proofs.OutLogics.{started, asks_first_ok, grows_ok}
use Rattle.stage_out.proofs.handlers.OutLogicStage.start.Goals as goal

pub returns-clause-starts : goal.returns-clause-starts
returns-clause-starts c = on_ok_two _ c.start.ensures.ports c.start.ensures.gives (λ o t. started _ _ _ o t)

pub returns-clause-pulls : goal.returns-clause-pulls
returns-clause-pulls c = asks_first_ok c.start.result c.args.self.now c.start.new.self c.start.new.acts.items c.start.ensures.gives

pub returns-clause-grows : goal.returns-clause-grows
returns-clause-grows c = grows_ok c.start.result c.args.self.now c.start.new.self c.start.new.acts.items starts c.start.ensures.gives
