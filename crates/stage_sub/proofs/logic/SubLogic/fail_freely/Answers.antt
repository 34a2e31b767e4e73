use Rattle.std.proofs.Common.{ap, sym, ◌∙◌}
use Rattle.stage_sub.specs.Logs.{moves_in}
use Rattle.stage_sub.specs.Leds.{Led}
use Rattle.stage_sub.proofs.Turning.{goes_on_still, on_failed}
use Rattle.stage_sub.proofs.logic.SubLogic.fail_freely.Goals as goal

pub returns-clause-gives : goal.returns-clause-gives
returns-clause-gives g c = record {
  turn =
      on_failed g.C.Chain.whole g.C.Chain.rest g.C.Chain.is_open c.args.self.now.logic c.self.inside.state.value c.fail.new.self c.args.cause c.fail.new.acts.items (moves_in c.self.inside.log)
      (ap (λ (l : Led _). l.logic) c.self.view_is) c.requires.open (goes_on_still c.args.self.now.logic c.args.cause c.requires.open c.requires.meets) (rw (sym c.deref_mut.ensures.value) c.fail.ensures.stage) (ap (λ a. a.items) c.fail.ensures.acts);
  left = (ap (λ (l : Led _). l.left) c.self.view_is ∙ c.requires.free);
  stuck = (ap (λ (l : Led _). l.stuck) c.self.view_is);
}
