use Rattle.std.proofs.Common.{ap, sym, ◌∙◌}
use Rattle.stage_sub.specs.Logs.{moves_in}
use Rattle.stage_sub.specs.Leds.{Led}
use Rattle.stage_sub.proofs.Pushing.{waits, on_pushed}
use Rattle.stage_sub.proofs.logic.SubLogic.push_freely.Goals as goal

pub returns-clause-gives : goal.returns-clause-gives
returns-clause-gives g c = record {
  turn =
      on_pushed g.C.Chain.whole g.C.Chain.rest g.C.Chain.is_open c.args.self.now.logic c.self.inside.state.value c.take_in.new.self c.answer-gave.new.self c.args.e c.in_ok-taken.taken c.in_ok-blame.blame c.answer-gave.new.acts.items c.answer-gave.result
      (moves_in c.self.inside.log) (moves_in c.make_room.new.log) (moves_in c.note.new.log)
      (ap (λ (l : Led _). l.logic) c.self.view_is) c.requires.open (waits c.args.self.now.logic c.args.e c.requires.open c.requires.meets) (rw (sym c.deref.ensures) c.in_ok-taken.ensures) (rw (sym c.deref_mut.ensures.value) c.in_ok-blame.ensures.stays) (rw (sym c.deref_mut.ensures.value) c.in_ok-blame.ensures.takes)
      (rw (sym c.deref_mut-2.ensures.value) c.answer-gave.ensures.stage) (rw (sym c.deref_mut-2.ensures.value) (ap (λ a. a.items) c.answer-gave.ensures.acts)) (rw (sym c.deref_mut-2.ensures.value) c.answer-gave.ensures.gave) c.make_room.ensures.moves c.note.ensures.moves;
  left = c.note.ensures.left;
  stuck = (c.note.ensures.stuck ∙ c.make_room.ensures.stuck ∙ ap (λ (l : Led _). l.stuck) c.self.view_is);
}

pub note-requires-clause-free : goal.note-requires-clause-free
note-requires-clause-free g c = c.make_room.ensures.left ∙ ap (λ (l : Led _). l.left) c.self.view_is ∙ c.requires.free
