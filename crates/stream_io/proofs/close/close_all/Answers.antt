-- The goal of `close::close_all`.
use Rattle.stream_io.proofs.Closings.{closes_both}
use Rattle.stream_io.proofs.close.close_all.Goals as goal

pub returns-clause-closes : goal.returns-clause-closes
returns-clause-closes g c = closes_both _ _ _ _ _ c.close_inputs.ensures.closes c.close_outputs.ensures.closes
