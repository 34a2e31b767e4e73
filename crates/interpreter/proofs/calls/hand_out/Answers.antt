-- The goals of `calls::hand_out` that the search leaves.
use Rattle.interpreter.proofs.calls.hand_out.Goals as goal

pub returns-clause-none : goal.returns-clause-none
returns-clause-none g c = rw c.ends-ends.ensures at c.hand_out.ensures.none

pub returns-clause-some : goal.returns-clause-some
returns-clause-some g c = rw c.ends-ends.ensures at c.hand_out.ensures.some
