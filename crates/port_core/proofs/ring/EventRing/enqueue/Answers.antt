-- The goals of `ring::EventRing::enqueue` that the search leaves.
use Rattle.std.proofs.Common.{◌≡◌, false, ◌<◌, length, rules}
use Rattle.port_core.specs.Ring.{is_queued}
use Rattle.port_core.proofs.RingLemmas.{room_for, enqueued}
use Rattle.port_core.proofs.ring.EventRing.enqueue.Goals as goal

pub push_back_reserved-requires : goal.push_back_reserved-requires
push_back_reserved-requires c =
    let absent : is_queued c.self.inside.queue.items c.args.c ≡ false = search rules in
    let within : c.args.c < length c.self.inside.marks.items = search rules in
    search (rules, room_for _ _ _ _ c.self.invariant within absent)

pub invariant_of-self : goal.invariant_of-self
invariant_of-self c =
    let absent : is_queued c.self.inside.queue.items c.args.c ≡ false = search rules in
    let within : c.args.c < length c.self.inside.marks.items = search rules in
    rw (c.push_back_reserved.ensures.items, c.push_back_reserved.ensures.capacity) (enqueued _ _ _ _ c.self.invariant within absent)
