-- The goals of `input::IslandInput::hand_on_end` that the search leaves.
use Rattle.std.proofs.Common.{◌≡◌, ◌∙◌, inl, sym}
use Rattle.lane_core.specs.declared.state.State.TheVariants.{Flowing, Closed}
use Rattle.island_body.proofs.Feeding.{open_live, fed_over, fed_live, handed_feeds, handed_beside}
use Rattle.island_body.proofs.input.IslandInput.hand_on_end.Goals as goal

pub give_end-requires-clause-live : goal.give_end-requires-clause-live
give_end-requires-clause-live g c = open_live _ (c.requires.feeds.flowing c.requires.flows) c.requires.live

pub returns-in-None-clause-fed : goal.returns-in-None-clause-fed
returns-in-None-clause-fed g c =
    let n = c.in-None.ensures.none in
    rw n.0 (fed_live c.args.self.now.boundary c.args.island.now c.args.self.now.wire c.requires.live (λ e. inl (n.1 c.requires.flows)) (λ e w. n.1 e))

pub returns-in-Some-clause-feeds : goal.returns-in-Some-clause-feeds
returns-in-Some-clause-feeds g c = handed_feeds c.args.self.now.boundary c.args.island.now c.args.self.now.wire c.in-Some.end c.give_end.new.island c.give_end.ensures.after c.requires.enters.place c.requires.feeds c.next_end.new.self c.in-Some.ensures.some.0 (rw c.in-Some.ensures.some.1 c.in-Some.ensures.some.2)

pub returns-in-Some-clause-fed : goal.returns-in-Some-clause-fed
returns-in-Some-clause-fed g c =
    fed_over c.next_end.new.self c.give_end.new.island c.args.self.now.wire
    (handed_feeds c.args.self.now.boundary c.args.island.now c.args.self.now.wire c.in-Some.end c.give_end.new.island c.give_end.ensures.after c.requires.enters.place c.requires.feeds c.next_end.new.self c.in-Some.ensures.some.0 (rw c.in-Some.ensures.some.1 c.in-Some.ensures.some.2))
    (λ e. let two : Closed ≡ Flowing = sym c.in-Some.ensures.some.2 ∙ e in cc)

pub returns-in-Some-clause-beside : goal.returns-in-Some-clause-beside
returns-in-Some-clause-beside g c = handed_beside c.args.self.now.boundary c.args.island.now c.args.self.now.wire c.in-Some.end c.give_end.new.island c.give_end.ensures.after c.requires.enters.place
