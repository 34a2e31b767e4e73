-- The goals of `replays::plans_of_text` that the search leaves.
use Rattle.std.proofs.Common.{◌≡◌, ◌≤◌, ◌∙◌, inl, inr, List, length, map, Err, ap, refl, subst, sym, arith}
use borrow.Enum.Total.{values_d}
use Rattle.plan_reader.specs.Plans.{SaysPlans, IsFault}
use Rattle.plan_reader.specs.contracts.plans.PlanEnd as plan_end
use Rattle.plan_reader.specs.declared.plans.PlanEnd.{PlanEnd}
use Rattle.plan_reader.specs.declared.plans.Chooser.{Chooser}
use Rattle.materializer.specs.Choosers.{choosers_in}
use Rattle.materializer.proofs.Choosing.{few_choosers}
use Rattle.stream_command.proofs.replays.plans_of_text.Goals as goal

pub returns-then-is_too_long-clause-says : goal.returns-then-is_too_long-clause-says
returns-then-is_too_long-clause-says c = inl (refl, c.is_too_long.ensures.long c.if-is_too_long.true)

pub read_plans-requires : goal.read_plans-requires
read_plans-requires c =
    let few = few_choosers c.args.nodes.now in
    subst (λ (cs : List Chooser). length cs ≤ 1024) (sym (c.deref.ensures.value ∙ c.in-Ok.ensures)) (omega (arith, few, c.requires))

pub plans_by_node-requires : goal.plans_by_node-requires
plans_by_node-requires c =
    let short = c.is_too_long.ensures.short c.if-is_too_long.false in
    (c.args.text.now, (omega (arith, short), subst (λ (cs : List Chooser). SaysPlans cs c.args.text.now (map (λ p. p.items) c.in-Ok-read_plans.plans.items)) (c.deref.ensures.value ∙ c.in-Ok.ensures) c.in-Ok-read_plans.ensures.ok))

pub returns-in-Ok-plans_by_node-clause-says : goal.returns-in-Ok-plans_by_node-clause-says
returns-in-Ok-plans_by_node-clause-says c = (
  c.is_too_long.ensures.short c.if-is_too_long.false,
  (map (λ p. p.items) c.in-Ok-read_plans.plans.items, (subst (λ (cs : List Chooser). SaysPlans cs c.args.text.now (map (λ p. p.items) c.in-Ok-read_plans.plans.items)) (c.deref.ensures.value ∙ c.in-Ok.ensures) c.in-Ok-read_plans.ensures.ok, c.in-Ok-plans_by_node.ensures.plans)),
)

pub returns-in-Err-Fault-clause-says : goal.returns-in-Err-Fault-clause-says
returns-in-Err-Fault-clause-says c = inr (
  c.is_too_long.ensures.short c.if-is_too_long.false,
  subst (λ (e : PlanEnd). IsFault (choosers_in c.args.nodes.now) c.args.text.now (values_d plan_end.enum 0 (0, tt) e).0) (sym c.in-Err-Fault.field-0-is)
      (subst (λ (cs : List Chooser). IsFault cs c.args.text.now c.in-Err-Fault.line) (c.deref.ensures.value ∙ c.in-Ok.ensures) (c.in-Err-Fault.ensures.fault c.in-Err-Fault.line (ap Err c.in-Err-Fault.field-0-is))),
)
