-- The loop of `seats::seat_all`.
use Rattle.std.proofs.Common.{◌≡◌, ◌+◌, true, List, ◌++◌, length, map}
use Rattle.std.specs.List.{list_all}
use Rattle.std.specs.Vec.Iter.{into_iter_items, into_iter_len}
use Rattle.blue_names.specs.Sizes.{sizes_fit}
use Rattle.materializer.specs.Graphs.{graph_chain}
use Rattle.materializer.specs.Planned.{ArePlanned, planned_plan, planned_seat, planned_room, planned_types}
use Rattle.materializer.specs.Choosers.{moves_of, PlansFit}
use Rattle.materializer.specs.HandedCustoms.{AreGuests, HaveUsedPorts, guest_types}
use Rattle.stream_model.specs.declared.blueprint.WireDecl.{WireDecl}
use Rattle.materializer.specs.Board.{AreHanded, seat_of_end}
use Rattle.materializer.proofs.seats.seat_all.Given as goal

-- the sizes of the nodes that are left fit, and behind the seats that there are they complete all;
-- each is handed its own seat, its own guest and its own moves, and so it was with those that are done
abbrev pub invariant-loop-node : goal.invariant-loop-node
invariant-loop-node g l =
    (goal.iterator-loop-node g).can_next l.node-iterator
    × (goal.iterator-loop-node g).is_finite l.node-iterator
    × (into_iter_len l.node-iterator ≡ length (into_iter_items l.node-iterator))
    × (list_all (λ n. sizes_fit n.kind) (into_iter_items l.node-iterator) ≡ true)
    × ((wires : List WireDecl) → HaveUsedPorts wires l.fn.nodes.items l.fn.guests.items → HaveUsedPorts wires (into_iter_items l.node-iterator) (into_iter_items l.unhanded_guests)
    × ((xs : List _) → ArePlanned (record { chains = map graph_chain l.fn.chains; wires = wires }) (length l.seats.items) (into_iter_items l.node-iterator) xs
    → ArePlanned (record { chains = map graph_chain l.fn.chains; wires = wires }) 0 l.fn.nodes.items (l.seats.items ++ xs)))
    × AreHanded (map (λ n. n.kind) (into_iter_items l.node-iterator)) (into_iter_items l.unhanded)
    × (into_iter_len l.unhanded ≡ length (into_iter_items l.unhanded))
    × (map planned_seat l.seats.items ++ map seat_of_end (into_iter_items l.unhanded) ≡ map seat_of_end l.fn.ends.items)
    × AreGuests g.L.Logic.gives g.H.Handlers.tells g.B.PlugBook.lists (map (λ n. n.kind) (into_iter_items l.node-iterator)) (into_iter_items l.unhanded_guests)
    × (into_iter_len l.unhanded_guests ≡ length (into_iter_items l.unhanded_guests))
    × PlansFit (map (λ n. n.kind) (into_iter_items l.node-iterator)) (map moves_of (into_iter_items l.unmade))
    × (into_iter_len l.unmade ≡ length (into_iter_items l.unmade))
    × (map planned_plan l.seats.items ++ map moves_of (into_iter_items l.unmade) ≡ map moves_of l.fn.plans.items)
    × (map planned_room l.seats.items ++ into_iter_items l.unroomed ≡ l.fn.rooms.items)
    × (length l.seats.items + length (into_iter_items l.node-iterator) ≡ length l.fn.nodes.items)
    × (into_iter_len l.unroomed ≡ length (into_iter_items l.unroomed))
    × (map planned_types l.seats.items ++ map guest_types (into_iter_items l.unhanded_guests) ≡ map guest_types l.fn.guests.items)
