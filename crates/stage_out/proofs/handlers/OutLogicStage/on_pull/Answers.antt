use Rattle.port_core.specs.Call.{pulls}
use Rattle.stage_core.proofs.OnOks.{on_ok_two}
use Rattle.stage_out.proofs.OutLogics.{fits, handled, asks_ok, grows_ok}
use Rattle.stage_out.proofs.handlers.OutLogicStage.on_pull.Goals as goal

pub on_pull-requires-clause-room : goal.on_pull-requires-clause-room
on_pull-requires-clause-room c = fits (pulls c.args.port) _ _ c.requires.ports

pub returns-clause-handles : goal.returns-clause-handles
returns-clause-handles c = on_ok_two _ c.on_pull.ensures.ports c.on_pull.ensures.gives (λ o t. handled _ _ _ _ o t)

pub returns-clause-pulls : goal.returns-clause-pulls
returns-clause-pulls c = asks_ok c.on_pull.result c.args.self.now c.on_pull.new.self c.on_pull.new.acts.items (pulls c.args.port) c.on_pull.ensures.gives

pub returns-clause-grows : goal.returns-clause-grows
returns-clause-grows c = grows_ok c.on_pull.result c.args.self.now c.on_pull.new.self c.on_pull.new.acts.items (pulls c.args.port) c.on_pull.ensures.gives
