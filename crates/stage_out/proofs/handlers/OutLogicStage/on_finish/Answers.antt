use Rattle.elem_core.specs.declared.item.Item.TheVariants as item
use Rattle.port_core.specs.Call.{arrives}
use Rattle.stage_core.proofs.OnOks.{on_ok_two}
use Rattle.stage_out.proofs.OutLogics.{fits, handled, asks_ok, grows_ok}
use Rattle.stage_out.proofs.handlers.OutLogicStage.on_finish.Goals as goal

pub on_finish-requires-clause-room : goal.on_finish-requires-clause-room
on_finish-requires-clause-room c = fits (arrives c.args.port item.Ended) _ _ c.requires.ports

pub returns-clause-handles : goal.returns-clause-handles
returns-clause-handles c = on_ok_two _ c.on_finish.ensures.ports c.on_finish.ensures.gives (λ o t. handled _ _ _ _ o t)

pub returns-clause-pulls : goal.returns-clause-pulls
returns-clause-pulls c = asks_ok c.on_finish.result c.args.self.now c.on_finish.new.self c.on_finish.new.acts.items (arrives c.args.port item.Ended) c.on_finish.ensures.gives

pub returns-clause-grows : goal.returns-clause-grows
returns-clause-grows c = grows_ok c.on_finish.result c.args.self.now c.on_finish.new.self c.on_finish.new.acts.items (arrives c.args.port item.Ended) c.on_finish.ensures.gives
