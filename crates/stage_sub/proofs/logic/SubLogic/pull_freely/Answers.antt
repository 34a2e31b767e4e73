use Rattle.std.proofs.Common.{ap, sym, ◌∙◌}
use Rattle.stage_sub.specs.Logs.{moves_in}
use Rattle.stage_sub.specs.Leds.{Led}
use Rattle.stage_sub.proofs.Asking.{asked_ports}
use Rattle.stage_sub.proofs.Turning.{on_asked}
use Rattle.stage_sub.proofs.logic.SubLogic.pull_freely.Goals as goal

pub returns-clause-gives : goal.returns-clause-gives
returns-clause-gives g c = record {
  turn =
      on_asked g.C.Chain.whole g.C.Chain.rest g.C.Chain.is_open c.args.self.now.logic c.self.inside.state.value c.pull-gave.new.self c.pull-gave.new.acts.items c.pull-gave.result (moves_in c.self.inside.log) (moves_in c.make_room.new.log) (moves_in c.note.new.log)
      (ap (λ (l : Led _). l.logic) c.self.view_is) c.requires.open (rw (sym c.deref_mut.ensures.value) c.pull-gave.ensures.stage) (rw (sym c.deref_mut.ensures.value) (ap (λ a. a.items) c.pull-gave.ensures.acts)) (rw (sym c.deref_mut.ensures.value) c.pull-gave.ensures.gave) c.make_room.ensures.moves c.note.ensures.moves;
  left = c.note.ensures.left;
  stuck = (c.note.ensures.stuck ∙ c.make_room.ensures.stuck ∙ ap (λ (l : Led _). l.stuck) c.self.view_is);
}

pub returns-clause-ports : goal.returns-clause-ports
returns-clause-ports g c =
    asked_ports c.args.self.now.logic c.self.inside.state.value c.pull-gave.new.self c.pull-gave.new.acts.items (moves_in c.self.inside.log) (moves_in c.note.new.log) (ap (λ (l : Led _). l.logic) c.self.view_is) c.requires.open (rw (sym c.deref_mut.ensures.value) c.pull-gave.ensures.stage) (rw (sym c.deref_mut.ensures.value) (ap (λ a. a.items) c.pull-gave.ensures.acts))

pub note-requires-clause-free : goal.note-requires-clause-free
note-requires-clause-free g c = c.make_room.ensures.left ∙ ap (λ (l : Led _). l.left) c.self.view_is ∙ c.requires.free
