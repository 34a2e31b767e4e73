use Rattle.std.specs.Prelude.{slice_index_or}
use Rattle.std.proofs.Common.{◌<◌, length, arith}
use Rattle.std.proofs.lemmas.List.Edits.{map_over_more}
use Rattle.stage_core.specs.declared.outs.OutputState.TheVariants.{Quiet}
use Rattle.stage_out.specs.Copies.{served_one}
use Rattle.stage_out.proofs.Wants.{at_within}
use Rattle.stage_out.proofs.copy_logic.settle.Goals as goal

pub loop-i-preserved : goal.loop-i-preserved
loop-i-preserved c =
    let l : c.loop-i.i < length c.loop-i.outs = omega (arith, c.loop-i-test.true, c.loop-i.auto.outs) in
    rw c.served_one.ensures (map_over_more served_one c.args.outs.now c.loop-i.outs c.loop-i.i (slice_index_or c.loop-i.outs c.loop-i.i Quiet) c.loop-i-test.true c.loop-i.invariant (at_within c.loop-i.outs c.loop-i.i Quiet (slice_index_or c.loop-i.outs c.loop-i.i Quiet) l))
