-- The goals of `input::IslandInput::hand_on` that the search leaves.
use Rattle.std.proofs.Common.{◌∙◌, ap}
use Rattle.elem_core.specs.declared.item.Item.TheVariants as item
use Rattle.port_core.specs.Decoding.{can_push}
use Rattle.lane_core.specs.Boundary.{waits, state}
use Rattle.interpreter.specs.Boundary.{cell_in}
use Rattle.island_body.proofs.Feeding.{few_given, wanted_push, handed_feeds, handed_live, handed_unasked, handed_beside}
use Rattle.island_body.proofs.input.IslandInput.hand_on.Goals as goal

pub next-requires : goal.next-requires
next-requires g c = record { few = few_given c.args.self.now.boundary c.args.island.now c.args.self.now.wire (c.laws.ensures c.requires.whole) c.requires.enters c.requires.feeds c.requires.asked }

pub returns-in-None-clause-flows : goal.returns-in-None-clause-flows
returns-in-None-clause-flows g c = ap state c.in-None.ensures.none.0 ∙ c.requires.flows

pub returns-in-None-clause-given : goal.returns-in-None-clause-given
returns-in-None-clause-given g c e = ap waits c.in-None.ensures.none.0 ∙ c.in-None.ensures.none.1

pub returns-in-None-clause-live : goal.returns-in-None-clause-live
returns-in-None-clause-live g c =
    let cell = cell_in c.args.island.now c.args.self.now.wire in
    (wanted_push cell.wire.out (can_push cell.wire.conn) c.requires.asked).1

pub returns-in-Some-clause-feeds : goal.returns-in-Some-clause-feeds
returns-in-Some-clause-feeds g c = handed_feeds c.args.self.now.boundary c.args.island.now c.args.self.now.wire (item.Elem c.in-Some.e) c.push_by_place.new.self c.push_by_place.ensures.after c.requires.enters.place c.requires.feeds c.next.new.self c.in-Some.ensures.some c.in-Some.ensures.flows

pub returns-in-Some-clause-live : goal.returns-in-Some-clause-live
returns-in-Some-clause-live g c = handed_live c.args.self.now.boundary c.args.island.now c.args.self.now.wire (item.Elem c.in-Some.e) c.push_by_place.new.self c.push_by_place.ensures.after c.requires.enters.place

pub returns-in-Some-clause-given : goal.returns-in-Some-clause-given
returns-in-Some-clause-given g c e = absurd (handed_unasked c.args.self.now.boundary c.args.island.now c.args.self.now.wire (item.Elem c.in-Some.e) c.push_by_place.new.self c.push_by_place.ensures.after c.requires.enters.place e)

pub returns-in-Some-clause-beside : goal.returns-in-Some-clause-beside
returns-in-Some-clause-beside g c = handed_beside c.args.self.now.boundary c.args.island.now c.args.self.now.wire (item.Elem c.in-Some.e) c.push_by_place.new.self c.push_by_place.ensures.after c.requires.enters.place
