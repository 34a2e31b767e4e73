use Rattle.elem_core.specs.declared.item.Item.TheVariants as item
use Rattle.port_core.specs.Call.{arrives}
use Rattle.graph_stage.proofs.Handles.{room_at}
use Rattle.graph_stage.proofs.stage.CustomStageStage.on_fail.Goals as goal

pub on_fail-requires-clause-room : goal.on_fail-requires-clause-room
on_fail-requires-clause-room g c = room_at (arrives c.args.port (item.Failed c.args.cause)) _ _ c.requires.ports
