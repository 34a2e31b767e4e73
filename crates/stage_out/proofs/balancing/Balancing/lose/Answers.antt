use Rattle.std.proofs.Common.{◌∙◌, sym, ap, subst}
use Rattle.stage_out.specs.Balancings.{Balancing, MayServe}
use Rattle.stage_out.proofs.BalanceParts.{lost_last, lost_more}
use Rattle.stage_out.proofs.balancing.Balancing.lose.Goals as goal

pub serve-requires-clause-may : goal.serve-requires-clause-may
serve-requires-clause-may c = subst (λ (l : Balancing). MayServe l) (sym c.forget.ensures) c.requires.may

pub returns-then-self-eq0-clause-lost : goal.returns-then-self-eq0-clause-lost
returns-then-self-eq0-clause-lost c = lost_last c.args.self.now c.forget.new.self c.leave_input.new.self c.leave_input.new.acts.items c.args.port c.forget.ensures (sym (ap (λ (l : Balancing). l.core.open_outs) c.self.view_is) ∙ c.if-self-eq0.true) c.requires.some c.leave_input.ensures.does

pub returns-else-self-eq0-clause-lost : goal.returns-else-self-eq0-clause-lost
returns-else-self-eq0-clause-lost c = lost_more c.args.self.now c.forget.new.self c.serve.new.self c.serve.new.acts.items c.args.port c.forget.ensures (λ e. c.if-self-eq0.false (ap (λ (l : Balancing). l.core.open_outs) c.self.view_is ∙ e)) c.serve.ensures.serves
