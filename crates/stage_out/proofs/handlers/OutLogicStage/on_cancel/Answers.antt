use Rattle.port_core.specs.Call.{cancels}
use Rattle.stage_core.proofs.OnOks.{on_ok_two}
use Rattle.stage_out.proofs.OutLogics.{fits, handled, asks_ok, grows_ok}
use Rattle.stage_out.proofs.handlers.OutLogicStage.on_cancel.Goals as goal

pub on_cancel-requires-clause-room : goal.on_cancel-requires-clause-room
on_cancel-requires-clause-room c = fits (cancels c.args.port) _ _ c.requires.ports

pub returns-clause-handles : goal.returns-clause-handles
returns-clause-handles c = on_ok_two _ c.on_cancel.ensures.ports c.on_cancel.ensures.gives (λ o t. handled _ _ _ _ o t)

pub returns-clause-pulls : goal.returns-clause-pulls
returns-clause-pulls c = asks_ok c.on_cancel.result c.args.self.now c.on_cancel.new.self c.on_cancel.new.acts.items (cancels c.args.port) c.on_cancel.ensures.gives

pub returns-clause-grows : goal.returns-clause-grows
returns-clause-grows c = grows_ok c.on_cancel.result c.args.self.now c.on_cancel.new.self c.on_cancel.new.acts.items (cancels c.args.port) c.on_cancel.ensures.gives
