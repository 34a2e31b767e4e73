-- The goal of `taken::untaken` that the search leaves.
use Rattle.std.proofs.Common.{sym}
use Rattle.lane_core.proofs.Each.{sum_none}
use Rattle.dispatcher.proofs.taken.untaken.Goals as goal

pub returns-clause-spent : goal.returns-clause-spent
returns-clause-spent g c = sym (sum_none g.B.Turning.spent c.args.bodies.items c.requires.unspent)
