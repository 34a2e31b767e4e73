use Rattle.elem_core.specs.declared.item.Item.TheVariants as item
use Rattle.port_core.specs.Call.{arrives}
use Rattle.graph_stage.proofs.Handles.{room_at}
use Rattle.graph_stage.proofs.stage.CustomStageStage.on_finish.Goals as goal

pub on_finish-requires-clause-room : goal.on_finish-requires-clause-room
on_finish-requires-clause-room g c = room_at (arrives c.args.port item.Ended) _ _ c.requires.ports
