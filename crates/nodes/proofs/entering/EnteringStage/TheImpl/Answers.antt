use Rattle.std.proofs.Common.{rules, ap, ◌∙◌}
use Rattle.nodes.proofs.Passive.{stays}
use Rattle.nodes.proofs.Enters.{starts_entering}
use Rattle.nodes.proofs.entering.EnteringStage.TheImpl.Goals as goal

pub start-tells : goal.start-tells
start-tells x c = record {
  starts = starts_entering c.result _ _ _ c.ensures.same.0 (ap (λ a. a.items) c.ensures.same.1 ∙ c.requires.empty);
  pulls = search rules;
  grows = search rules;
  passive = stays c.result _ (ap (λ a. a.items) c.ensures.same.1 ∙ c.requires.empty);
  gone = search rules;
  room = search rules;
  kept = search rules;
}
