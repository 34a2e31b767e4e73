-- The goals of `board::put_all` that the search leaves.
use Rattle.std.proofs.Common.{◌≡◌, [], rules}
use Rattle.materializer.proofs.Put.{has_room, put_next, put_end}
use Rattle.materializer.proofs.switch_board.put_all.Goals as goal

pub put-requires-clause-room : goal.put-requires-clause-room
put-requires-clause-room c = has_room _ _ _ _ _ _ c.in-Some.entry c.loop-entry.invariant c.in-Some.ensures.items c.requires.lists c.requires.room

pub loop-entry-preserved : goal.loop-entry-preserved
loop-entry-preserved c = put_next _ _ _ _ _ _ _ c.in-Some.entry c.loop-entry.invariant c.in-Some.ensures.items c.put.ensures

pub returns-clause-seats : goal.returns-clause-seats
returns-clause-seats c =
    let none : c.loop-entry.seats.items ≡ [] = search rules in
    put_end _ _ _ _ _ c.loop-entry.invariant none
