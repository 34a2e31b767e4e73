use Rattle.std.proofs.Common.{ap, sym, ◌∙◌}
use Rattle.stage_sub.specs.Logs.{moves_in}
use Rattle.stage_sub.specs.Leds.{Led}
use Rattle.stage_sub.proofs.Asking.{ended_ports}
use Rattle.stage_sub.proofs.Turning.{goes_on, on_ended}
use Rattle.stage_sub.proofs.logic.SubLogic.finish_freely.Goals as goal

pub returns-clause-gives : goal.returns-clause-gives
returns-clause-gives g c = record {
  turn =
      on_ended g.C.Chain.whole g.C.Chain.rest g.C.Chain.is_open c.args.self.now.logic c.self.inside.state.value c.end_in.new.self c.finish-gave.new.self c.in_ok-blame.blame c.finish-gave.new.acts.items c.finish-gave.result
      (moves_in c.self.inside.log) (moves_in c.make_room.new.log) (moves_in c.note.new.log)
      (ap (λ (l : Led _). l.logic) c.self.view_is) c.requires.open (goes_on c.args.self.now.logic c.requires.open c.requires.meets) (rw (sym c.deref_mut.ensures.value) c.in_ok-blame.ensures.stays) (rw (sym c.deref_mut.ensures.value) c.in_ok-blame.ensures.becomes)
      (rw (sym c.deref_mut-2.ensures.value) c.finish-gave.ensures.stage) (rw (sym c.deref_mut-2.ensures.value) (ap (λ a. a.items) c.finish-gave.ensures.acts)) (rw (sym c.deref_mut-2.ensures.value) c.finish-gave.ensures.gave) c.make_room.ensures.moves c.note.ensures.moves;
  left = c.note.ensures.left;
  stuck = (c.note.ensures.stuck ∙ c.make_room.ensures.stuck ∙ ap (λ (l : Led _). l.stuck) c.self.view_is);
}

pub returns-clause-ports : goal.returns-clause-ports
returns-clause-ports g c =
    ended_ports c.args.self.now.logic c.self.inside.state.value c.end_in.new.self c.finish-gave.new.self c.in_ok-blame.blame c.finish-gave.new.acts.items (moves_in c.self.inside.log) (moves_in c.note.new.log)
    (ap (λ (l : Led _). l.logic) c.self.view_is) c.requires.open (rw (sym c.deref_mut.ensures.value) c.in_ok-blame.ensures.stays) (rw (sym c.deref_mut-2.ensures.value) c.finish-gave.ensures.stage) (rw (sym c.deref_mut-2.ensures.value) (ap (λ a. a.items) c.finish-gave.ensures.acts))

pub note-requires-clause-free : goal.note-requires-clause-free
note-requires-clause-free g c = c.make_room.ensures.left ∙ ap (λ (l : Led _). l.left) c.self.view_is ∙ c.requires.free
