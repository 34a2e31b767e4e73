-- The goals of `shares::put` that the search leaves.
use Rattle.std.proofs.Common.{arith}
use Rattle.scatter.specs.Shares.{items_in, room_in}
use Rattle.scatter.proofs.Putting.{one_more, as_was}
use Rattle.scatter.proofs.shares.put.Goals as goal

pub returns-clause-items : goal.returns-clause-items
returns-clause-items g c = one_more items_in c.args.lists.now.items c.args.home c.index_mut.result.now c.push_reserved.new.self c.args.item (omega (arith, c.args.lists.now.ok.0, c.requires.home)) c.index_mut.ensures.value c.push_reserved.ensures.items

pub returns-clause-room : goal.returns-clause-room
returns-clause-room g c = as_was room_in c.args.lists.now.items c.args.home c.index_mut.result.now c.push_reserved.new.self (omega (arith, c.args.lists.now.ok.0, c.requires.home)) c.index_mut.ensures.value c.push_reserved.ensures.capacity
