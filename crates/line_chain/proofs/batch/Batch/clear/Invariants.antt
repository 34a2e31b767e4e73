use Rattle.std.proofs.Common.{length}
use Rattle.line_chain.proofs.batch.Batch.clear.Given as goal

abbrev pub decreases-loop : goal.decreases-loop
decreases-loop l = length l.self
