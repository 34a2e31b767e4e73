-- The goals of `split::Split::join` that the search leaves.
use Rattle.island_parts.proofs.Joining.{islands_are}
use Rattle.island_parts.proofs.split.Split.join.Goals as goal

pub returns : goal.returns
returns g c = islands_are c.args.self c.deref.result.now c.args.seats.items c.scatter.result.items c.join_lists.result.items c.deref.ensures.value c.scatter.ensures.shares c.join_lists.ensures
