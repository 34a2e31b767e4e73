use Rattle.port_core.specs.Call.{cancels}
use Rattle.graph_stage.proofs.Handles.{room_at}
use Rattle.graph_stage.proofs.stage.CustomStageStage.on_cancel.Goals as goal

pub on_cancel-requires-clause-room : goal.on_cancel-requires-clause-room
on_cancel-requires-clause-room g c = room_at (cancels c.args.port) _ _ c.requires.ports
