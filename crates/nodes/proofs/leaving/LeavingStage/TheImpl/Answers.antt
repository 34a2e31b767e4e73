use Rattle.std.proofs.Common.{rules, ap, ◌∙◌}
use Rattle.elem_core.specs.declared.item.Item.TheVariants as item
use Rattle.nodes.proofs.Passive.{stays}
use Rattle.nodes.proofs.Leaves.{starts_leaving, leaves_got}
use Rattle.nodes.proofs.leaving.LeavingStage.TheImpl.Goals as goal

pub start-tells : goal.start-tells
start-tells x c = record {
  starts = starts_leaving c.result _ _ _ c.ensures.same.0 (ap (λ a. a.items) c.ensures.same.1 ∙ c.requires.empty);
  pulls = search rules;
  grows = search rules;
  passive = stays c.result _ (ap (λ a. a.items) c.ensures.same.1 ∙ c.requires.empty);
  gone = search rules;
  room = search rules;
  kept = search rules;
}

pub on_push-tells : goal.on_push-tells
on_push-tells x c = record {
  handles = leaves_got c.result c.args.port (item.Elem c.args.e) _ _ _ c.ensures.waits (ap (λ a. a.items) c.ensures.nothing ∙ c.requires.empty);
  pulls = search rules;
  grows = search rules;
  passive = stays c.result _ (ap (λ a. a.items) c.ensures.nothing ∙ c.requires.empty);
  gone = search rules;
  room = search rules;
  kept = search rules;
}

pub on_finish-tells : goal.on_finish-tells
on_finish-tells x c = record {
  handles = leaves_got c.result c.args.port item.Ended _ _ _ c.ensures.waits (ap (λ a. a.items) c.ensures.nothing ∙ c.requires.empty);
  pulls = search rules;
  grows = search rules;
  passive = stays c.result _ (ap (λ a. a.items) c.ensures.nothing ∙ c.requires.empty);
  gone = search rules;
  room = search rules;
  kept = search rules;
}

pub on_fail-tells : goal.on_fail-tells
on_fail-tells x c = record {
  handles = leaves_got c.result c.args.port (item.Failed c.args.cause) _ _ _ c.ensures.waits (ap (λ a. a.items) c.ensures.nothing ∙ c.requires.empty);
  pulls = search rules;
  grows = search rules;
  passive = stays c.result _ (ap (λ a. a.items) c.ensures.nothing ∙ c.requires.empty);
  gone = search rules;
  room = search rules;
  kept = search rules;
}
