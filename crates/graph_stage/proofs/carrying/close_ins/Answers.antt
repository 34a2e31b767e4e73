use Rattle.std.specs.Prelude.{slice_index_or}
use Rattle.std.proofs.lemmas.List.Edits.{map_over_more}
use Rattle.std.proofs.Common.{◌<◌, false, length, arith}
use Rattle.graph_stage.specs.OwnView.{closed_in}
use Rattle.graph_stage.proofs.Rooms.{get_self}
use Rattle.graph_stage.proofs.carrying.close_ins.Goals as goal

pub loop-x-preserved : goal.loop-x-preserved
loop-x-preserved c =
    let within : c.loop-x.x-index < length c.args.ins.now = omega (arith, c.loop-x.auto.ins, c.loop-x-test.true) in
    map_over_more closed_in c.args.ins.now c.loop-x.ins c.loop-x.x-index (slice_index_or c.loop-x.ins c.loop-x.x-index (record { asked = false; closed = false })) within c.loop-x.invariant
    (get_self c.loop-x.ins c.loop-x.x-index (record { asked = false; closed = false }))
