-- The goals of `plans::Plans::fill` that the search leaves.
use Rattle.std.proofs.Common.{◌≡◌, ◌∙◌, ℕ, length, map, ap, sym, subst, arith}
use Rattle.stream_model.specs.declared.blueprint.Node.{Node}
use Rattle.blue_check.specs.Wires.{blueprint_wires}
use Rattle.materializer.specs.Board.{AreAtSwitches}
use Rattle.interpreter.specs.Parts.{AreParts}
use Rattle.blue_check.specs.Plan.{lanes_from}
use Rattle.scatter.specs.Shares.{of_home}
use Rattle.island_parts.specs.Split.{IsReady}
use Rattle.island_parts.specs.Whole.{own_links, whole_homes, whole_links, whole_seats}
use Rattle.materializer.specs.Graphs.{around_of}
use Rattle.materializer.proofs.Filling.{reads_all, writes_all, places_same, all_sources, all_drains}
use Rattle.materializer.proofs.Placing.{seats_count}
use Rattle.island_plans.proofs.Islands.{few_whole, island_is, seats_each}
use Rattle.island_plans.proofs.Standing.{are_nodes, keeps_inside}
use Rattle.island_plans.proofs.plans.Plans.fill.Goals as goal

pub fill_all-nodes-requires-clause-room : goal.fill_all-nodes-requires-clause-room
fill_all-nodes-requires-clause-room g c = omega (arith, c.requires.plans.room_for_places)

pub fill_all-nodes-requires-clause-sources : goal.fill_all-nodes-requires-clause-sources
fill_all-nodes-requires-clause-sources g c = c.requires.sources ∙ sym (reads_all (around_of c.args.self.blueprint.value) 0 c.args.self.blueprint.value.nodes.items c.args.self.seats.items c.requires.plans.seats)

pub fill_all-nodes-requires-clause-drains : goal.fill_all-nodes-requires-clause-drains
fill_all-nodes-requires-clause-drains g c = c.requires.drains ∙ sym (writes_all (around_of c.args.self.blueprint.value) 0 c.args.self.blueprint.value.nodes.items c.args.self.seats.items c.requires.plans.seats)

pub whole_seats-requires : goal.whole_seats-requires
whole_seats-requires g c =
    let size : length c.deref.result.now ≡ length c.args.self.lanes.items = ap length c.deref.ensures.value in
    omega (arith, size, c.fill_all-nodes.ensures.room, c.fill_all-nodes.ensures.each, c.requires.plans.room_for_places)

pub join-islands-requires-clause-ready : goal.join-islands-requires-clause-ready
join-islands-requires-clause-ready g c =
    let ready = c.requires.plans.split.ready in
    let split = c.args.self.split in
    subst (λ (n : ℕ). IsReady n split) (sym (split.lists.ok.0 ∙ ready.lists_are.many)) ready

pub join-islands-requires-clause-each : goal.join-islands-requires-clause-each
join-islands-requires-clause-each g c =
    let p = c.requires.plans in
    let self = c.args.self in
    let b = self.blueprint.value in
    let ns = b.nodes.items in
    let nodes = c.fill_all-nodes.result.items in
    let seats = c.fill_all-nodes.ensures.seats (around_of b) ns p.seats in
    let each : length self.homes.items ≡ length nodes = p.homes_are.are.each ∙ sym (seats_count (around_of b) 0 ns c.args.sources.items c.args.drains.items nodes seats) in
    c.whole_seats.result.ok.0
    ∙ seats_each self.homes.items self.count (blueprint_wires b) b.wires.items ns nodes self.split p.split (places_same (around_of b) 0 ns c.args.sources.items c.args.drains.items nodes seats) self.lanes.items c.deref.result.now c.whole_seats.result.items each p.lanes_are c.deref.ensures.value c.whole_seats.ensures
    ∙ sym self.split.homes.ok.0

pub returns-clause-filled : goal.returns-clause-filled
returns-clause-filled g c =
    let p = c.requires.plans in
    let self = c.args.self in
    let b = self.blueprint.value in
    let ns = b.nodes.items in
    let ws = blueprint_wires b in
    let ss = c.args.sources.items in
    let ds = c.args.drains.items in
    let homes = self.homes.items in
    let nodes = c.fill_all-nodes.result.items in
    let seats = c.fill_all-nodes.ensures.seats (around_of b) ns p.seats in
    let joined = are_nodes b ss ds nodes p.runs seats in
    let same = places_same (around_of b) 0 ns ss ds nodes seats in
    let each : length homes ≡ length nodes = p.homes_are.are.each ∙ sym (seats_count (around_of b) 0 ns ss ds nodes seats) in
    let cut = lanes_from homes 0 ws in
    let laws = c.islands_have_parts.ensures in
    let parts : (k : ℕ) → AreParts (of_home (whole_homes homes cut) k (whole_seats nodes cut)) (own_links (whole_homes homes cut) (whole_links (length nodes) ws) k) =
    λ k. laws.parts homes ws nodes k each (keeps_inside _ ws homes p.homes_are.are) joined (few_whole homes self.count ws b.wires.items ns nodes self.split p.split same) in
    let islands = c.join-islands.ensures in (
      record {
        nodes = nodes;
        seats = seats;
        joined = joined;
        sources_are = all_sources (around_of b) 0 ns ss ds nodes seats (sym c.args.sources.ok.0 ∙ c.requires.sources);
        drains_are = all_drains (around_of b) 0 ns ss ds nodes seats (sym c.args.drains.ok.0 ∙ c.requires.drains);
        homes_are = p.homes_are;
        lanes_are = p.lanes_are;
        ends_are = p.ends_are;
        board_is = p.board_is;
        at_switches = subst (λ l. AreAtSwitches (map (λ (n : Node). n.kind) ns) self.board l) (sym c.fill_all-nodes.ensures.kept) p.at_switches;
        rooms = c.fill_all-nodes.ensures.rooms ∙ p.rooms;
        many = islands.many ∙ p.split.ready.spaces_many;
        each = λ k x at. island_is homes self.count ws b.wires.items ns nodes self.split p.split same self.lanes.items c.deref.result.now c.whole_seats.result.items parts (laws.places nodes cut) p.lanes_are c.deref.ensures.value c.whole_seats.ensures k x (islands.each k x at);
      },
      c.fill_all-nodes.ensures.plans,
      c.fill_all-nodes.ensures.types,
    )
