-- What a counted refusal says.
use Rattle.std.proofs.Common.{refl}
use Rattle.stream_io.proofs.Tallies.{refused}
use Rattle.stream_io.proofs.tally.Tally.refuse.Goals as goal

pub returns-clause-rose : goal.returns-clause-rose
returns-clause-rose c = rw c.add.ensures (refused c.args.self.now _ refl refl refl refl).0

pub returns-clause-refusal : goal.returns-clause-refusal
returns-clause-refusal c = rw c.add.ensures (refused c.args.self.now _ refl refl refl refl).1

pub returns-clause-faults : goal.returns-clause-faults
returns-clause-faults c = rw c.add.ensures (refused c.args.self.now _ refl refl refl refl).2
