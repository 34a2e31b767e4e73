use Rattle.port_core.specs.Call.{pulls}
use Rattle.stage_in.specs.Logics.{InPortState}
use Rattle.stage_in.proofs.Handling.{fits, asks, grows, handles}
use Rattle.stage_in.proofs.handlers.InLogicStage.on_pull.Goals as goal

pub on_pull-requires-clause-room : goal.on_pull-requires-clause-room
on_pull-requires-clause-room c = fits (pulls c.args._port) _ _ c.requires.ports

pub returns-clause-handles : goal.returns-clause-handles
returns-clause-handles c = handles (pulls c.args._port) _ _ _ _ (λ e. cc) c.requires.meets c.on_pull.ensures.ports c.on_pull.ensures.gives

pub returns-clause-pulls : goal.returns-clause-pulls
returns-clause-pulls c = asks (pulls c.args._port) (pulls 0) (InPortState c.args.self.now) c.args.self.now c.on_pull.new.self c.on_pull.new.acts.items c.on_pull.result c.on_pull.ensures.gives

pub returns-clause-grows : goal.returns-clause-grows
returns-clause-grows c = grows _ _ _ _ _ c.on_pull.ensures.gives
