use Rattle.graph_stage.proofs.Handles.{room_before}
use Rattle.graph_stage.proofs.stage.CustomStageStage.start.Goals as goal

pub start-requires-clause-room : goal.start-requires-clause-room
start-requires-clause-room g c = room_before _ _ c.requires.ports
