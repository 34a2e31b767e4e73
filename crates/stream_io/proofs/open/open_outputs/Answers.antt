-- The goals of `open::open_outputs` that the search leaves.
use Rattle.std.proofs.Common.{arith}
use Rattle.stream_io.proofs.OpenHandles.{more_next}
use Rattle.stream_io.proofs.Lists.{place_next, len_next}
use Rattle.stream_io.proofs.Openings.{drain_next}
use Rattle.stream_io.proofs.open.open_outputs.Goals as goal

pub loop-name-preserved : goal.loop-name-preserved
loop-name-preserved g c =
    let kept = c.loop-name.invariant in
    let next = c.in-Some.ensures.steps in
    let said = c.in-Ok.ensures in (
      tt,
      tt,
      len_next _ _ _ _ _ next.0 next.1 kept.2,
      place_next _ _ _ _ _ kept.3 next.0,
      omega (arith, kept.4, next.1, c.push_reserved.ensures.len, c.push_reserved.ensures.capacity),
      drain_next g.F.Out.Drain.state _ _ _ _ _ _ _ _ c.push_reserved.ensures.items kept.5 said.opened said.faults said.no_refusal,
      more_next _ _ _ _ _ _ kept.6 said.one_more c.push_reserved.ensures.items,
    )
