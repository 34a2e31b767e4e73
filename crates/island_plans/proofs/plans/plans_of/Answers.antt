-- The goals of `plans::plans_of` that the search leaves.
use Rattle.std.proofs.Common.{◌≡◌, ◌∙◌, ◌+◌, ◌<◌, ℕ, List, length, map, vec_len, vec_capacity, ap, sym, subst, rules, arith}
use Rattle.std.specs.List.{All}
use Rattle.stream_model.specs.Graph.{Edge}
use Rattle.stream_model.specs.declared.blueprint.Blueprint.{Blueprint}
use Rattle.stream_model.specs.declared.blueprint.ChainDecl.{ChainDecl}
use Rattle.stream_model.specs.declared.blueprint.Node.{Node}
use Rattle.stream_model.specs.declared.blueprint.WireDecl.{WireDecl}
use Rattle.blue_names.specs.declared.links.NumberedWire.{NumberedWire}
use Rattle.blue_names.specs.Links.{AreInRange, wires_of_links}
use Rattle.blue_check.specs.Wires.{blueprint_wires}
use Rattle.blue_names.specs.RuleLinks.{wires_of}
use Rattle.interpreter.specs.declared.parts.Place.{Place}
use Rattle.blue_check.specs.Plan.{lanes_from}
use Rattle.island_parts.specs.Split.{IsSplit}
use Rattle.materializer.specs.Fit.{CanRun}
use Rattle.materializer.specs.Graphs.{graph_chain, around_of}
use Rattle.materializer.specs.HandedCustoms.{handed_heads, HasGuests, AreGuests, HaveUsedPorts, types_by_heads}
use Rattle.materializer.specs.Board.{IsBoard, AreAtSwitches, AreHanded, seat_of_end}
use Rattle.materializer.specs.Planned.{ArePlanned, places_from, planned_seat}
use Rattle.materializer.proofs.Fitting.{few_link_ports, all_sized}
use Rattle.island_plans.specs.Ends.{AreEndHomes}
use Rattle.island_plans.specs.Homes.{AreNumberedHomes}
use Rattle.island_plans.specs.Rooms.{rooms_by}
use Rattle.island_plans.proofs.LaneRooms.{rooms_many}
use Rattle.island_plans.proofs.Standing.{in_range, places_count}
use Rattle.island_plans.proofs.plans.plans_of.Goals as goal

pub homes_of_links-requires : goal.homes_of_links-requires
homes_of_links-requires g c =
    let r = c.requires.runs in
    let b = c.args.b in
    let same : wires_of_links c.deref-3.result.now ≡ blueprint_wires b = search rules in
    subst (λ (n : ℕ). AreInRange n c.deref-3.result.now) (sym (c.len.ensures ∙ b.nodes.ok.0)) (in_range b r.heads r.taken r.fit c.deref-3.result.now same)

pub end_homes-requires : goal.end_homes-requires
end_homes-requires g c = ap length c.deref-8.ensures.value ∙ c.in_ok-found.ensures.are.each ∙ c.len.ensures ∙ c.args.b.nodes.ok.0 ∙ sym (ap length c.deref-6.ensures.value)

pub split_of-requires-clause-each : goal.split_of-requires-clause-each
split_of-requires-clause-each g c =
    let own = c.in_ok-own.own in
    let nodes = c.in_ok-nodes.nodes in
    let b = c.args.b in
    let homes : length own.items ≡ length b.nodes.items = ap length (c.in_ok-own.ensures ∙ c.deref-11.ensures.value) ∙ c.in_ok-found.ensures.are.each ∙ c.len.ensures ∙ b.nodes.ok.0 in
    let places : length nodes.items ≡ length b.nodes.items = ap length c.in_ok-nodes.ensures ∙ places_count c.deref-10.result.now 0 c.deref-9.result.now ∙ ap length c.deref-9.ensures.value in
    own.ok.0 ∙ homes ∙ sym places ∙ sym nodes.ok.0

pub split_of-requires-clause-below : goal.split_of-requires-clause-below
split_of-requires-clause-below g c =
    let own = c.in_ok-own.own in
    subst (λ (n : ℕ). All (λ h. h < n) own.items) (sym c.len-count.ensures) (subst (λ (l : List ℕ). All (λ h. h < vec_len c.in_ok-found.found.firsts) l) (sym (c.in_ok-own.ensures ∙ c.deref-11.ensures.value)) c.in_ok-found.ensures.below)

pub split_of-requires-clause-ports : goal.split_of-requires-clause-ports
split_of-requires-clause-ports g c =
    let r = c.requires.runs in
    let same : wires_of_links c.deref-12.result.now ≡ blueprint_wires c.args.b = search rules in
    few_link_ports c.args.b r.heads r.taken r.fit c.deref-12.result.now same

pub split_of-requires-clause-ends : goal.split_of-requires-clause-ends
split_of-requires-clause-ends g c =
    let r = c.requires.runs in
    let b = c.args.b in
    let nodes = c.in_ok-nodes.nodes in
    let same : wires_of_links c.deref-12.result.now ≡ blueprint_wires b = search rules in
    let places : length nodes.items ≡ length b.nodes.items = ap length c.in_ok-nodes.ensures ∙ places_count c.deref-10.result.now 0 c.deref-9.result.now ∙ ap length c.deref-9.ensures.value in
    subst (λ (n : ℕ). AreInRange n c.deref-12.result.now) (sym (nodes.ok.0 ∙ places)) (in_range b r.heads r.taken r.fit c.deref-12.result.now same)

pub split_of-requires-clause-lanes : goal.split_of-requires-clause-lanes
split_of-requires-clause-lanes g c =
    let own = c.in_ok-own.own.items in
    let homes : c.deref-5.result.now ≡ own = c.deref-5.ensures.value ∙ sym (c.in_ok-own.ensures ∙ c.deref-11.ensures.value) in
    let links : c.deref-4.result.now ≡ c.deref-12.result.now = c.deref-4.ensures.value ∙ sym c.deref-12.ensures.value in
    c.deref-13.ensures.value ∙ c.in_ok-lanes.ensures ∙ ap (λ (hs : List ℕ). lanes_from hs 0 (wires_of_links c.deref-4.result.now)) homes ∙ ap (λ (ls : List NumberedWire). lanes_from own 0 (wires_of_links ls)) links

pub seat_all-requires-clause-sized : goal.seat_all-requires-clause-sized
seat_all-requires-clause-sized g c = all_sized c.args.b c.requires.runs.heads c.requires.runs.taken c.requires.runs.fit

pub seat_all-requires-clause-handed : goal.seat_all-requires-clause-handed
seat_all-requires-clause-handed g c = subst (λ (l : List Node). AreHanded (map (λ (n : Node). n.kind) l) c.in_ok-board.switches.items) c.deref-14.ensures.value c.in_ok-board.ensures.handed

pub hand_out-requires-clause-has : goal.hand_out-requires-clause-has
hand_out-requires-clause-has g c = (c.args.b.wires.items, subst (λ (l : List Node). HasGuests (handed_heads c.args.plugs.items c.args.customs.items) c.args.b.wires.items l) (sym c.deref-15.ensures.value) c.requires.has)

pub seat_all-requires-clause-guests : goal.seat_all-requires-clause-guests
seat_all-requires-clause-guests g c = subst (λ (l : List Node). AreGuests g.L.Logic.gives g.H.Handlers.tells g.B.PlugBook.lists (map (λ (n : Node). n.kind) l) c.in_ok-handed.handed.items) c.deref-15.ensures.value c.in_ok-handed.ensures.guests

pub seat_all-requires-clause-rooms : goal.seat_all-requires-clause-rooms
seat_all-requires-clause-rooms g c =
    let rooms = c.in_ok-rooms.rooms in
    rooms.ok.0 ∙ ap length c.in_ok-rooms.ensures ∙ rooms_many c.len-many.result (wires_of_links c.deref-16.result.now) ∙ c.len-many.ensures

pub returns-clause-plans : goal.returns-clause-plans
returns-clause-plans g c =
    let b = c.args.b in
    let p = c.of-blueprint.result.value in
    let is : b ≡ p = sym c.of-blueprint.ensures in
    let ns = b.nodes.items in
    let ws = blueprint_wires b in
    let found = c.in_ok-found.found in
    let homes = found.homes.items in
    let count = c.len-count.result in
    let own : c.in_ok-own.own.items ≡ homes = c.in_ok-own.ensures ∙ c.deref-11.ensures.value in
    let same : wires_of_links c.in_ok-wires.wires.items ≡ ws = c.in_ok-wires.ensures ∙ ap (λ (l : List Node). wires_of l c.deref-2.result.now) c.deref.ensures.value ∙ ap (λ (l : List WireDecl). wires_of ns l) c.deref-2.ensures.value in
    let same-3 : wires_of_links c.deref-3.result.now ≡ ws = ap wires_of_links c.deref-3.ensures.value ∙ same in
    let same-4 : wires_of_links c.deref-4.result.now ≡ ws = ap wires_of_links c.deref-4.ensures.value ∙ same in
    let same-7 : wires_of_links c.deref-7.result.now ≡ ws = ap wires_of_links c.deref-7.ensures.value ∙ same in
    let same-12 : wires_of_links c.deref-12.result.now ≡ ws = ap wires_of_links c.deref-12.ensures.value ∙ same in
    let size : c.len.result ≡ length ns = c.len.ensures ∙ b.nodes.ok.0 in
    let homes_are : AreNumberedHomes (length ns) count ws homes =
    subst (λ (us : List Edge). AreNumberedHomes (length ns) count us homes) same-3
    (subst (λ (n : ℕ). AreNumberedHomes (length ns) n (wires_of_links c.deref-3.result.now) homes) (sym c.len-count.ensures)
    (subst (λ (n : ℕ). AreNumberedHomes n (vec_len found.firsts) (wires_of_links c.deref-3.result.now) homes) size c.in_ok-found.ensures)) in
    let lanes : c.in_ok-lanes.lanes.items ≡ lanes_from homes 0 ws =
    c.in_ok-lanes.ensures ∙ ap (λ (hs : List ℕ). lanes_from hs 0 (wires_of_links c.deref-4.result.now)) c.deref-5.ensures.value ∙ ap (λ (us : List Edge). lanes_from homes 0 us) same-4 in
    let ends : AreEndHomes homes ns ws c.in_ok-ends.ends =
    subst (λ (us : List Edge). AreEndHomes homes ns us c.in_ok-ends.ends) same-7
    (subst (λ (ms : List Node). AreEndHomes homes ms (wires_of_links c.deref-7.result.now) c.in_ok-ends.ends) c.deref-6.ensures.value
    (subst (λ (hs : List ℕ). AreEndHomes hs c.deref-6.result.now (wires_of_links c.deref-7.result.now) c.in_ok-ends.ends) c.deref-8.ensures.value c.in_ok-ends.ensures)) in
    let places : c.in_ok-nodes.nodes.items ≡ places_from b.wires.items 0 ns =
    c.in_ok-nodes.ensures ∙ ap (λ (l : List WireDecl). places_from l 0 c.deref-9.result.now) c.deref-10.ensures.value ∙ ap (places_from b.wires.items 0) c.deref-9.ensures.value in
    let split : IsSplit homes count ws (places_from b.wires.items 0 ns) c.in_ok-split.split =
    subst (λ (l : List Place). IsSplit homes count ws l c.in_ok-split.split) places
    (subst (λ (us : List Edge). IsSplit homes count us c.in_ok-nodes.nodes.items c.in_ok-split.split) same-12
    (subst (λ (hs : List ℕ). IsSplit hs count (wires_of_links c.deref-12.result.now) c.in_ok-nodes.nodes.items c.in_ok-split.split) own c.in_ok-split.ensures)) in
    let board = c.in_ok-board.board in
    let board_is : IsBoard (map (λ (n : Node). n.kind) ns) board = subst (λ (l : List Node). IsBoard (map (λ (n : Node). n.kind) l) board) c.deref-14.ensures.value c.in_ok-board.ensures.board in
    let switches : AreAtSwitches (map (λ (n : Node). n.kind) ns) board (map seat_of_end c.in_ok-board.switches.items) =
    subst (λ (l : List Node). AreAtSwitches (map (λ (n : Node). n.kind) l) board (map seat_of_end c.in_ok-board.switches.items)) c.deref-14.ensures.value c.in_ok-board.ensures.ends in
    let at_switches : AreAtSwitches (map (λ (n : Node). n.kind) ns) board (map planned_seat c.in_ok-seats.seats.items) =
    subst (λ l. AreAtSwitches (map (λ (n : Node). n.kind) ns) board l) (sym c.in_ok-seats.ensures.seats) switches in
    let ports : HaveUsedPorts b.wires.items ns c.in_ok-handed.handed.items =
    subst (λ (l : List Node). HaveUsedPorts b.wires.items l c.in_ok-handed.handed.items) c.deref-15.ensures.value (c.in_ok-handed.ensures.ports b.wires.items (subst (λ (l : List Node). HasGuests (handed_heads c.args.plugs.items c.args.customs.items) b.wires.items l) (sym c.deref-15.ensures.value) c.requires.has)) in
    let planned : ArePlanned (around_of b) 0 ns c.in_ok-seats.seats.items = subst (λ (l : List ChainDecl). ArePlanned (record { chains = map graph_chain l; wires = b.wires.items }) 0 ns c.in_ok-seats.seats.items) c.deref-17.ensures.value (c.in_ok-seats.ensures.planned b.wires.items ports) in
    let same-16 : wires_of_links c.deref-16.result.now ≡ ws = ap wires_of_links c.deref-16.ensures.value ∙ same in
    let rooms : c.in_ok-rooms.rooms.items ≡ rooms_by (length ns) ws =
    c.in_ok-rooms.ensures ∙ ap (λ (n : ℕ). rooms_by n (wires_of_links c.deref-16.result.now)) (c.len-many.ensures ∙ b.nodes.ok.0) ∙ ap (rooms_by (length ns)) same-16 in
    let exact : vec_capacity c.in_ok-places.places ≡ c.in_ok-all_places.field-0 = c.in_ok-places.ensures.exact in
    let places_all : c.in_ok-all_places.field-0 ≡ c.len-2.result + c.len-3.result + c.len-3.result = c.in_ok-all_places.ensures in
    record {
      runs = subst CanRun is c.requires.runs;
      homes_are = subst (λ (x : Blueprint). AreNumberedHomes (length x.nodes.items) count (blueprint_wires x) homes) is homes_are;
      lanes_are = lanes ∙ ap (λ (x : Blueprint). lanes_from homes 0 (blueprint_wires x)) is;
      ends_are = subst (λ (x : Blueprint). AreEndHomes homes x.nodes.items (blueprint_wires x) c.in_ok-ends.ends) is ends;
      seats = subst (λ (x : Blueprint). ArePlanned (around_of x) 0 x.nodes.items c.in_ok-seats.seats.items) is planned;
      split = subst (λ (x : Blueprint). IsSplit homes count (blueprint_wires x) (places_from x.wires.items 0 x.nodes.items) c.in_ok-split.split) is split;
      board_is = subst (λ (x : Blueprint). IsBoard (map (λ (n : Node). n.kind) x.nodes.items) board) is board_is;
      at_switches = subst (λ (x : Blueprint). AreAtSwitches (map (λ (n : Node). n.kind) x.nodes.items) board (map planned_seat c.in_ok-seats.seats.items)) is at_switches;
      rooms = c.in_ok-seats.ensures.rooms ∙ rooms ∙ ap (λ (x : Blueprint). rooms_by (length x.nodes.items) (blueprint_wires x)) is;
      empty = search rules;
      room_for_places = omega (arith, exact, places_all, c.len-2.ensures, c.len-3.ensures, c.in_ok-lanes.lanes.ok.0);
    }

pub returns-clause-types : goal.returns-clause-types
returns-clause-types g c =
    c.in_ok-seats.ensures.types ∙ c.in_ok-handed.ensures.types ∙ ap (λ (l : List Node). types_by_heads (handed_heads c.args.plugs.items c.args.customs.items) l) c.deref-15.ensures.value
