use Rattle.port_core.specs.Call.{arrives}
use Rattle.elem_core.specs.declared.item.Item.TheVariants as item
use Rattle.stage_in.specs.Logics.{InPortState}
use Rattle.stage_in.proofs.Handling.{fits, asks, grows, handles}
use Rattle.stage_in.proofs.handlers.InLogicStage.on_fail.Goals as goal

pub on_fail-requires-clause-room : goal.on_fail-requires-clause-room
on_fail-requires-clause-room c = fits (arrives c.args.port (item.Failed c.args.cause)) _ _ c.requires.ports

pub returns-clause-handles : goal.returns-clause-handles
returns-clause-handles c = handles (arrives c.args.port (item.Failed c.args.cause)) _ _ _ _ (λ e. cc) c.requires.meets c.on_fail.ensures.ports c.on_fail.ensures.gives

pub returns-clause-pulls : goal.returns-clause-pulls
returns-clause-pulls c = asks (arrives c.args.port (item.Failed c.args.cause)) (arrives c.args.port (item.Failed c.args.cause)) (InPortState c.args.self.now) c.args.self.now c.on_fail.new.self c.on_fail.new.acts.items c.on_fail.result c.on_fail.ensures.gives

pub returns-clause-grows : goal.returns-clause-grows
returns-clause-grows c = grows _ _ _ _ _ c.on_fail.ensures.gives
