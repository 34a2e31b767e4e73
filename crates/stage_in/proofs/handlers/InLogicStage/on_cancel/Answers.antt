use Rattle.port_core.specs.Call.{cancels}
use Rattle.stage_in.specs.Logics.{InPortState}
use Rattle.stage_in.proofs.Handling.{fits, asks, grows, handles}
use Rattle.stage_in.proofs.handlers.InLogicStage.on_cancel.Goals as goal

pub on_cancel-requires-clause-room : goal.on_cancel-requires-clause-room
on_cancel-requires-clause-room c = fits (cancels c.args._port) _ _ c.requires.ports

pub returns-clause-handles : goal.returns-clause-handles
returns-clause-handles c = handles (cancels c.args._port) _ _ _ _ (λ e. cc) c.requires.meets c.on_cancel.ensures.ports c.on_cancel.ensures.gives

pub returns-clause-pulls : goal.returns-clause-pulls
returns-clause-pulls c = asks (cancels c.args._port) (cancels 0) (InPortState c.args.self.now) c.args.self.now c.on_cancel.new.self c.on_cancel.new.acts.items c.on_cancel.result c.on_cancel.ensures.gives

pub returns-clause-grows : goal.returns-clause-grows
returns-clause-grows c = grows _ _ _ _ _ c.on_cancel.ensures.gives
