use Rattle.std.proofs.Common.{ap, sym, ◌∙◌}
use Rattle.stage_sub.specs.Logs.{moves_in}
use Rattle.stage_sub.specs.Leds.{Led}
use Rattle.stage_sub.proofs.Turning.{on_left}
use Rattle.stage_sub.proofs.logic.SubLogic.leave_freely.Goals as goal

pub returns-clause-gives : goal.returns-clause-gives
returns-clause-gives g c = record {
  turn =
      on_left g.C.Chain.whole g.C.Chain.rest g.C.Chain.is_open c.args.self.now.logic c.self.inside.state.value c.leave.new.self c.leave.new.acts.items (moves_in c.self.inside.log)
      (ap (λ (l : Led _). l.logic) c.self.view_is) c.requires.open (rw (sym c.deref_mut.ensures.value) c.leave.ensures.stage) (rw (sym c.deref_mut.ensures.value) (ap (λ a. a.items) c.leave.ensures.acts));
  left = (ap (λ (l : Led _). l.left) c.self.view_is ∙ c.requires.free);
  stuck = (ap (λ (l : Led _). l.stuck) c.self.view_is);
}
