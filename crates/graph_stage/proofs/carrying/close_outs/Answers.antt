use Rattle.std.specs.Prelude.{slice_index_or}
use Rattle.std.proofs.lemmas.List.Edits.{map_over_more}
use Rattle.std.proofs.Common.{◌<◌, false, length, arith}
use Rattle.graph_stage.specs.OwnView.{closed_out}
use Rattle.graph_stage.proofs.Rooms.{get_self}
use Rattle.graph_stage.proofs.carrying.close_outs.Goals as goal

pub loop-y-preserved : goal.loop-y-preserved
loop-y-preserved c =
    let within : c.loop-y.y-index < length c.args.outs.now = omega (arith, c.loop-y.auto.outs, c.loop-y-test.true) in
    map_over_more closed_out c.args.outs.now c.loop-y.outs c.loop-y.y-index (slice_index_or c.loop-y.outs c.loop-y.y-index (record { asked = false; closed = false })) within c.loop-y.invariant
    (get_self c.loop-y.outs c.loop-y.y-index (record { asked = false; closed = false }))
