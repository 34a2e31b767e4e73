-- The goals of `output::OutputBoundary::send_one` that the search leaves.
use Rattle.std.proofs.Common.{refl}
use Rattle.island_body.proofs.BoundarySending.{may_send, room_for, sent_keeps}
use Rattle.island_body.proofs.Serving.{clear_waits, handed_less}
use Rattle.island_body.proofs.output.OutputBoundary.send_one.Goals as goal

pub returns-then-is_clear_by_place-clause-rest : goal.returns-then-is_clear_by_place-clause-rest
returns-then-is_clear_by_place-clause-rest g c e = (refl, refl, clear_waits c.args.island.now c.args.self.now.wire (c.is_clear_by_place.ensures.0 c.if-is_clear_by_place.true))

pub returns-in-None-clause-rest : goal.returns-in-None-clause-rest
returns-in-None-clause-rest g c e =
    let n = c.in-None.ensures.none in
    (refl, n.0, clear_waits c.args.island.now c.args.self.now.wire n.1)

pub send-requires-clause-open : goal.send-requires-clause-open
send-requires-clause-open g c = may_send c.args.self.now.lane _ _ c.came_by_place.ensures c.requires.keeps _ c.in-Some.item c.in-Some.ensures.some

pub send-requires-clause-room : goal.send-requires-clause-room
send-requires-clause-room g c = room_for c.args.self.now.lane _ _ c.came_by_place.ensures c.requires.keeps _ c.in-Some.item c.in-Some.ensures.some

pub returns-in-Some-clause-keeps : goal.returns-in-Some-clause-keeps
returns-in-Some-clause-keeps g c =
    let r = c.send.ensures in
    rw r.rest.0 (sent_keeps c.args.self.now.lane _ _ c.came_by_place.ensures c.requires.keeps _ c.in-Some.item c.in-Some.ensures.some _ r.sent r.ended r.rest.2 r.rest.3)

pub returns-in-Some-clause-less : goal.returns-in-Some-clause-less
returns-in-Some-clause-less g c e = handed_less c.args.island.now c.hand_out_by_place.new.self c.args.self.now.wire c.in-Some.item c.in-Some.ensures.some
