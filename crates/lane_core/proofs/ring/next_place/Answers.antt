use Rattle.lane_core.proofs.Places.{next_inside, next_around}
use Rattle.std.proofs.Common.{arith}
use Rattle.lane_core.proofs.ring.next_place.Goals as goal

pub returns-then-place-last : goal.returns-then-place-last
returns-then-place-last c = λ k is. next_inside k c.args.place c.args.last is c.if-place-last.true

pub returns-else-place-last : goal.returns-else-place-last
returns-else-place-last c = let ge = c.if-place-last.false in λ k is. next_around k c.args.place c.args.last is (omega (arith, ge))
