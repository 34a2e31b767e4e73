use Rattle.std.specs.Prelude.{slice_index_or}
use Rattle.std.proofs.Common.{◌<◌, length, arith}
use Rattle.std.proofs.lemmas.List.Edits.{map_over_more}
use Rattle.stage_in.specs.Takings.{followed_by}
use Rattle.stage_in.proofs.Links.{at_within}
use Rattle.stage_in.proofs.taking.relink.Goals as goal

pub loop-c-preserved : goal.loop-c-preserved
loop-c-preserved c =
    let l : c.loop-c.c < length c.loop-c.next = omega (arith, c.loop-c-test.true, c.loop-c.auto.next) in
    rw c.followed_by.ensures (map_over_more (followed_by c.args.from c.args.to) c.args.next.now c.loop-c.next c.loop-c.c (slice_index_or c.loop-c.next c.loop-c.c 0) c.loop-c-test.true c.loop-c.invariant (at_within c.loop-c.next c.loop-c.c 0 (slice_index_or c.loop-c.next c.loop-c.c 0) l))
