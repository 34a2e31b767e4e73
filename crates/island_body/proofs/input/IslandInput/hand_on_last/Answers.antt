-- The goals of `input::IslandInput::hand_on_last` that the search leaves.
use Rattle.island_body.proofs.Feeding.{fed_last}
use Rattle.island_body.proofs.input.IslandInput.hand_on_last.Goals as goal

pub returns-else-is_at_end-clause-fed : goal.returns-else-is_at_end-clause-fed
returns-else-is_at_end-clause-fed g c = fed_last c.args.self.now.boundary c.args.island.now c.args.self.now.wire c.requires.live c.requires.given c.requires.flows (c.is_at_end.ensures.none c.if-is_at_end.false)
