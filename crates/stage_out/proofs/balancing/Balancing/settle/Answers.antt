use Rattle.std.proofs.Common.{◌∙◌, sym, ap}
use Rattle.stage_out.specs.Balancings.{Balancing}
use Rattle.stage_out.proofs.BalanceParts.{settle_over, settle_going}
use Rattle.stage_out.proofs.balancing.Balancing.settle.Goals as goal

pub returns-then-self-clause-settles : goal.returns-then-self-clause-settles
returns-then-self-clause-settles c = settle_over c.args.self.now c.end.new.self c.args.acts.now.items c.end.new.acts.items (sym (ap (λ (l : Balancing). l.core.over) c.self.view_is) ∙ c.if-self.true) c.end.ensures.completes c.end.ensures.halts

pub returns-else-self-clause-settles : goal.returns-else-self-clause-settles
returns-else-self-clause-settles c = settle_going c.args.self.now c.ask.new.self c.args.acts.now.items c.ask.new.acts.items (sym (ap (λ (l : Balancing). l.core.over) c.self.view_is) ∙ c.if-self.false) c.ask.ensures.asks c.ask.ensures.rests
