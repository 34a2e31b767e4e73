-- What a counted drain says.
use Rattle.std.proofs.Common.{refl}
use Rattle.stream_io.proofs.Tallies.{closed_out}
use Rattle.stream_io.proofs.tally.Tally.close_out.Goals as goal

pub returns : goal.returns
returns c = rw c.add.ensures (closed_out c.args.self.now _ _ refl refl refl refl refl)
