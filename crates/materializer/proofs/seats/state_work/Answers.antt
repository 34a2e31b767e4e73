-- The goals of `seats::state_work` that the search leaves.
use Rattle.materializer.proofs.Switches.{to_handed}
use Rattle.materializer.proofs.seats.state_work.Goals as goal

pub new-requires-clause-handed : goal.new-requires-clause-handed
new-requires-clause-handed g c = to_handed c.args.kind c.args.switch c.requires.handed
