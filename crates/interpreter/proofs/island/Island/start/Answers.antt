-- The goals of `island::Island::start` that the search leaves.
use Rattle.std.proofs.Common.{◌≡◌, ◌∙◌, ap, length, map, sym, arith}
use Rattle.std.proofs.lemmas.List.{length-map}
use Rattle.fused_net.proofs.Ongoing.{goes_room}
use Rattle.interpreter.specs.Parts.{wire_number, seat_place}
use Rattle.interpreter.specs.Ways.{ListsLaneEnds}
use Rattle.interpreter.proofs.Islands.{calls_fit, keeps_new, room_as, numbers_same}
use Rattle.interpreter.proofs.Alone.{all_one}
use Rattle.interpreter.proofs.Handing.{hands_back, holds_handles}
use Rattle.interpreter.proofs.Bounding.{enters_new, leaves_new, begins_in_new, begins_out_new}
use Rattle.interpreter.proofs.island.Island.start.Goals as goal

pub invariant_of-result : goal.invariant_of-result
invariant_of-result g c =
    let places : length (map seat_place c.args.parts.nodes.items) ≡ length c.args.parts.nodes.items = length-map c.args.parts.nodes.items seat_place in
    let nodes : length c.start.new.self.nodes ≡ length (map seat_place c.args.parts.nodes.items) = c.start.ensures.count ∙ c.assemble-engine.ensures.count ∙ c.args.parts.nodes.ok.0 ∙ sym places in (
      room_as _ _ _ _ _ c.requires.room.end nodes (ap length c.requires.room.numbers ∙ length-map c.args.parts.links.items wire_number),
      ap length c.requires.room.places_are ∙ length-map (map seat_place c.args.parts.nodes.items) _ ∙ sym nodes,
      λ _. (
        keeps_new _ _ _ c.assemble-engine.result c.start.new.self c.in-Ok.ensures.laws c.in-Ok.ensures.asks c.assemble-engine.ensures.asks,
        ap (λ a. a.items) c.in-Ok.ensures.acts ∙ c.requires.room.no_acts,
        omega (arith, ap (λ a. a.room) c.in-Ok.ensures.acts, c.requires.room.least_room),
        goes_room _ _ _ _ c.in-Ok.ensures.on c.in-Ok.ensures.acts (calls_fit _ _ _ c.assemble-engine.ensures.ports c.requires.room.room_for_acts),
        λ off. all_one c.args.parts.nodes.items _ (rw c.in-Ok.ensures.on.firsts c.assemble-engine.ensures.firsts) (rw c.deref-3.ensures.value at (c.may_gather-gathers.ensures off)),
      ),
    )

pub start-requires-clause-ports : goal.start-requires-clause-ports
start-requires-clause-ports g c = calls_fit _ _ _ c.assemble-engine.ensures.ports c.requires.room.room_for_acts

pub returns-in-Ok-clause-places : goal.returns-in-Ok-clause-places
returns-in-Ok-clause-places g c = c.requires.room.places_are ∙ numbers_same c.args.parts.nodes.items

pub returns-in-Err-clause-no_memory : goal.returns-in-Err-clause-no_memory
returns-in-Err-clause-no_memory g c = hands_back g.S.Source.state g.D.Drain.state _ _ _ _ c.assemble-engine.ensures.firsts c.start.ensures.kept c.leave.ensures.readers c.leave.ensures.writers

pub returns-in-Ok-clause-enters : goal.returns-in-Ok-clause-enters
returns-in-Ok-clause-enters g c =
    let places = c.args.parts.nodes.items in
    let links = c.args.parts.links.items in
    let keeps = keeps_new _ _ _ c.assemble-engine.result c.start.new.self c.in-Ok.ensures.laws c.in-Ok.ensures.asks c.assemble-engine.ensures.asks in
    let leads : ListsLaneEnds places links c.list_lanes-ways.result.ins.items c.list_lanes-ways.result.outs.items = rw (c.deref.ensures.value, c.deref-2.ensures.value) at c.list_lanes-ways.ensures in
    enters_new g.S.Source.state g.D.Drain.state _ _ places links keeps (rw c.in-Ok.ensures.on.firsts c.assemble-engine.ensures.firsts) (c.in-Ok.ensures.on.ends ∙ c.assemble-engine.ensures.ends) leads.come

pub returns-in-Ok-clause-leaves : goal.returns-in-Ok-clause-leaves
returns-in-Ok-clause-leaves g c =
    let places = c.args.parts.nodes.items in
    let links = c.args.parts.links.items in
    let keeps = keeps_new _ _ _ c.assemble-engine.result c.start.new.self c.in-Ok.ensures.laws c.in-Ok.ensures.asks c.assemble-engine.ensures.asks in
    let leads : ListsLaneEnds places links c.list_lanes-ways.result.ins.items c.list_lanes-ways.result.outs.items = rw (c.deref.ensures.value, c.deref-2.ensures.value) at c.list_lanes-ways.ensures in
    leaves_new g.S.Source.state g.D.Drain.state _ _ places links keeps (rw c.in-Ok.ensures.on.firsts c.assemble-engine.ensures.firsts) (c.in-Ok.ensures.on.ends ∙ c.assemble-engine.ensures.ends) leads.go

pub leave-requires-clause-room : goal.leave-requires-clause-room
leave-requires-clause-room g c =
    let places : length (map seat_place c.args.parts.nodes.items) ≡ length c.args.parts.nodes.items = length-map c.args.parts.nodes.items seat_place in
    let nodes : length c.start.new.self.nodes ≡ length (map seat_place c.args.parts.nodes.items) = c.start.ensures.count ∙ c.assemble-engine.ensures.count ∙ c.args.parts.nodes.ok.0 ∙ sym places in
    room_as _ _ _ _ _ c.requires.room.end nodes (ap length c.deref-in-Err.ensures.value ∙ ap length c.requires.room.numbers ∙ length-map c.args.parts.links.items wire_number)

pub leave-requires-clause-places : goal.leave-requires-clause-places
leave-requires-clause-places g c =
    let places : length (map seat_place c.args.parts.nodes.items) ≡ length c.args.parts.nodes.items = length-map c.args.parts.nodes.items seat_place in
    let nodes : length c.start.new.self.nodes ≡ length (map seat_place c.args.parts.nodes.items) = c.start.ensures.count ∙ c.assemble-engine.ensures.count ∙ c.args.parts.nodes.ok.0 ∙ sym places in
    ap length c.deref-in-Err-2.ensures.value ∙ ap length c.requires.room.places_are ∙ length-map (map seat_place c.args.parts.nodes.items) _ ∙ sym nodes

pub returns-in-Ok-clause-handles : goal.returns-in-Ok-clause-handles
returns-in-Ok-clause-handles g c = holds_handles g.S.Source.state g.D.Drain.state _ _ _ c.assemble-engine.ensures.firsts c.start.ensures.kept

pub returns-in-Ok-clause-begins_in : goal.returns-in-Ok-clause-begins_in
returns-in-Ok-clause-begins_in g c = begins_in_new c.assemble-engine.result c.start.new.self c.args.parts.nodes.items c.args.parts.links.items c.assemble-engine.ensures.nodes c.assemble-engine.ensures.firsts c.assemble-engine.ensures.ends c.assemble-engine.ensures.wires c.in-Ok.ensures.on c.in-Ok.ensures.still

pub returns-in-Ok-clause-begins_out : goal.returns-in-Ok-clause-begins_out
returns-in-Ok-clause-begins_out g c = begins_out_new c.assemble-engine.result c.start.new.self c.args.parts.nodes.items c.args.parts.links.items c.assemble-engine.ensures.nodes c.assemble-engine.ensures.firsts c.assemble-engine.ensures.ends c.assemble-engine.ensures.wires c.in-Ok.ensures.on c.in-Ok.ensures.still c.in-Ok.ensures.gone
