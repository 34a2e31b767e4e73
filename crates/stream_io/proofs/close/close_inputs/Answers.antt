-- The goals of `close::close_inputs` that the search leaves.
use Rattle.stream_io.proofs.OpenHandles.{less_next}
use Rattle.stream_io.proofs.Lists.{place_next, len_next}
use Rattle.stream_io.proofs.Closings.{closes_next}
use Rattle.std.proofs.Common.{refl}
use Rattle.stream_io.proofs.close.close_inputs.Goals as goal

pub loop-source-preserved : goal.loop-source-preserved
loop-source-preserved g c =
    let kept = c.loop-source.invariant in
    let next = c.in-Some.ensures.steps in (
      tt,
      tt,
      len_next _ _ _ _ _ next.0 next.1 kept.2,
      place_next _ _ _ _ _ kept.3 next.0,
      closes_next g.F.Inp.Source.state _ _ _ c.loop-source.yielded _ _ refl kept.4 c.close_in.ensures.closed c.close_in.ensures.files,
      less_next _ _ _ c.loop-source.yielded _ kept.5 c.close_in.ensures.one_less,
    )
