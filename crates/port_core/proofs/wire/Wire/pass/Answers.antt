-- The goals of `wire::Wire::pass` that the search leaves.
use Rattle.std.proofs.Common.{rules}
use Rattle.port_core.proofs.Passing.{passed}
use Rattle.port_core.proofs.wire.Wire.pass.Goals as goal

pub returns-clause-after : goal.returns-clause-after
returns-clause-after c = λ e is. rw (passed c.args.self.now e c.requires.free, c.pass.ensures.after e) (search rules)
