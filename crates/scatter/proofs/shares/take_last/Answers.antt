-- The goal of `shares::take_last` that the search leaves.
use Rattle.scatter.specs.Shares.{items_in}
use Rattle.scatter.proofs.Putting.{one_less, is_there}
use Rattle.scatter.proofs.shares.take_last.Goals as goal

pub returns-clause-items : goal.returns-clause-items
returns-clause-items g c = one_less items_in c.args.lists.now.items c.args.home c.index_mut.result.now c.pop.new.self c.in-Some.item (is_there c.args.lists.now.items c.args.home c.requires.some) c.index_mut.ensures.value c.in-Some.ensures.items
