use Rattle.std.proofs.Common.{◌≡◌, drop}
use Rattle.blue_names.specs.Links.{wires_of_links}
use Rattle.island_plans.specs.Rooms.{with_rooms, rooms_by}
use Rattle.island_plans.proofs.rooms.rooms_of.Given as goal

abbrev pub invariant-loop-wire : goal.invariant-loop-wire
invariant-loop-wire l = with_rooms l.rooms.items (wires_of_links (drop l.wire-index l.wires)) ≡ rooms_by l.nodes (wires_of_links l.wires)
