-- What a counted source says.
use Rattle.std.proofs.Common.{refl}
use Rattle.stream_io.proofs.Tallies.{closed_in}
use Rattle.stream_io.proofs.tally.Tally.close_in.Goals as goal

pub returns : goal.returns
returns c = rw c.add.ensures (closed_in c.args.self.now _ _ refl refl refl refl refl)
