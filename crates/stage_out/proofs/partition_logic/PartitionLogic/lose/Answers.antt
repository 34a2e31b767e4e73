use Rattle.std.proofs.Common.{◌≡◌, ◌-◌, ◌∙◌, ap, subst, arith}
use Rattle.stage_out.specs.PartitionStates.{PartitionLogic, others, PassedOver}
use Rattle.stage_out.proofs.partition_logic.PartitionLogic.lose.Goals as goal

pub returns-else-self-eq0-clause-does : goal.returns-else-self-eq0-clause-does
returns-else-self-eq0-clause-does c = others (λ e. let z : c.args.self.now.open_outs - 1 ≡ 0 = omega (arith, e) in c.if-self-eq0.false (ap (λ (l : PartitionLogic). l.open_outs) c.self.view_is ∙ ap (λ (l : PartitionLogic). l.open_outs) c.strike.ensures.stage ∙ z))
    (subst (λ o. PassedOver c.args.port o c.pass_over.new.self c.pass_over.new.acts.items) c.strike.ensures.stage c.pass_over.ensures.does)
