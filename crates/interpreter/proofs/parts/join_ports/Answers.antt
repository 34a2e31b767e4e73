-- The goals of `parts::join` that the search leaves.
use Rattle.std.proofs.Common.{◌≡◌, rules, length}
use Rattle.interpreter.proofs.Tables.{sized_next, filled_next, wired_of}
use Rattle.interpreter.proofs.parts.join_ports.Goals as goal

pub loop-w-preserved : goal.loop-w-preserved
loop-w-preserved c = rw c.write_wire.ensures (
  sized_next _ _ _ _ c.requires.wiring _ _ c.loop-w-test.true c.loop-w.invariant.0,
  filled_next _ _ _ _ c.requires.wiring _ _ c.loop-w-test.true c.loop-w.invariant.0 c.loop-w.invariant.1,
)

pub returns-clause-wired : goal.returns-clause-wired
returns-clause-wired c = let all : c.loop-w.w ≡ length c.args.ends.now = search rules in wired_of _ _ _ _ c.requires.wiring _ c.loop-w.invariant.0 (rw all at c.loop-w.invariant.1)
