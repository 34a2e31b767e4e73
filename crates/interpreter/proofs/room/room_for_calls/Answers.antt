-- The goals of `room::room_for_calls` that the search leaves.
use Rattle.std.proofs.Common.{◌≡◌, length, rules, arith}
use Rattle.interpreter.proofs.Tables.{place_here, calls_next, calls_all}
use Rattle.interpreter.proofs.room.room_for_calls.Goals as goal

pub returns-clause-calls : goal.returns-clause-calls
returns-clause-calls c = let all : c.loop-n.n ≡ length c.args.places.now = search rules in calls_all _ _ _ all c.loop-n.invariant.1

pub loop-n-preserved : goal.loop-n-preserved
loop-n-preserved c = (
  omega (arith, c.loop-n.invariant.0, c.in_ok-wanted.ensures.least),
  calls_next _ _ _ _ c.in_ok-wanted.ensures.least (place_here _ _ _ _ c.loop-n-test.true c.in_ok-wanted.ensures.calls) c.loop-n.invariant.1,
)
