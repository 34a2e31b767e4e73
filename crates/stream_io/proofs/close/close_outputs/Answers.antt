-- The goals of `close::close_outputs` that the search leaves.
use Rattle.stream_io.proofs.OpenHandles.{less_next}
use Rattle.stream_io.proofs.Lists.{place_next, len_next}
use Rattle.stream_io.proofs.Closings.{keeps_next}
use Rattle.std.proofs.Common.{refl}
use Rattle.stream_io.proofs.close.close_outputs.Goals as goal

pub loop-drain-preserved : goal.loop-drain-preserved
loop-drain-preserved g c =
    let kept = c.loop-drain.invariant in
    let next = c.in-Some.ensures.steps in (
      tt,
      tt,
      len_next _ _ _ _ _ next.0 next.1 kept.2,
      place_next _ _ _ _ _ kept.3 next.0,
      keeps_next g.F.Out.Drain.state _ _ _ c.loop-drain.yielded _ _ refl kept.4 c.close_out.ensures.closed,
      less_next _ _ _ c.loop-drain.yielded _ kept.5 c.close_out.ensures.one_less,
    )
