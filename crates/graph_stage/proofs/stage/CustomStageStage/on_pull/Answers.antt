use Rattle.port_core.specs.Call.{pulls}
use Rattle.graph_stage.proofs.Handles.{room_at}
use Rattle.graph_stage.proofs.stage.CustomStageStage.on_pull.Goals as goal

pub on_pull-requires-clause-room : goal.on_pull-requires-clause-room
on_pull-requires-clause-room g c = room_at (pulls c.args.port) _ _ c.requires.ports
