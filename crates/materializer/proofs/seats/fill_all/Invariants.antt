-- The loop of `seats::fill_all`.
use Rattle.std.proofs.Common.{◌≡◌, ◌+◌, ◌≤◌, List, ◌++◌, length, map, vec_len, vec_capacity}
use Rattle.std.specs.Vec.Iter.{into_iter_items, into_iter_len}
use Rattle.stream_model.specs.declared.blueprint.Node.{Node}
use Rattle.materializer.specs.Graphs.{Around}
use Rattle.materializer.specs.Planned.{ArePlanned, planned_plan, planned_seat, planned_room, planned_types, reads_in, writes_in}
use Rattle.materializer.specs.Seats.{place_plan, place_seat, place_room, place_types}
use Rattle.materializer.proofs.SeatLoops.{FillsRest}
use Rattle.materializer.proofs.seats.fill_all.Given as goal

-- there are handles for the seats that are left, and room for their works
abbrev pub invariant-loop-seat : goal.invariant-loop-seat
invariant-loop-seat g l =
    (goal.iterator-loop-seat g).can_next l.seat-iterator
    × (goal.iterator-loop-seat g).is_finite l.seat-iterator
    × (into_iter_len l.seat-iterator ≡ length (into_iter_items l.seat-iterator))
    × (into_iter_len l.unread ≡ reads_in (into_iter_items l.seat-iterator))
    × (into_iter_len l.unwritten ≡ writes_in (into_iter_items l.seat-iterator))
    × (vec_len l.places + into_iter_len l.seat-iterator ≤ vec_capacity l.places)
    × (vec_capacity l.places ≡ vec_capacity l.fn.places)
    × (vec_len l.places + into_iter_len l.seat-iterator ≡ vec_len l.fn.seats)
    × ((around : Around) (nodes : List Node) → ArePlanned around 0 nodes l.fn.seats.items → FillsRest nodes l.fn.sources.items l.fn.drains.items around (into_iter_items l.seat-iterator) (into_iter_items l.unread) (into_iter_items l.unwritten) l.places.items)
    × (map place_seat l.places.items ++ map planned_seat (into_iter_items l.seat-iterator) ≡ map planned_seat l.fn.seats.items)
    × (map place_plan l.places.items ++ map planned_plan (into_iter_items l.seat-iterator) ≡ map planned_plan l.fn.seats.items)
    × (map place_room l.places.items ++ map planned_room (into_iter_items l.seat-iterator) ≡ map planned_room l.fn.seats.items)
    × (map place_types l.places.items ++ map planned_types (into_iter_items l.seat-iterator) ≡ map planned_types l.fn.seats.items)
