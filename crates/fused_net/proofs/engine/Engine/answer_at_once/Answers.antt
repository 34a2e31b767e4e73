-- The goals of `engine::Engine::answer_at_once` that the search leaves.
use Rattle.std.proofs.Common.{ap}
use Rattle.stage_core.specs.declared.stage.Swift.{Swift}
use Rattle.fused_net.specs.Hand.{acts_at_once}
use Rattle.fused_net.specs.Laws.{AnyRow, AnyLaw}
use Rattle.fused_net.proofs.Acting.{next_able}
use Rattle.fused_net.proofs.engine.Engine.answer_at_once.Goals as goal

pub push_beside-hand-requires : goal.push_beside-hand-requires
push_beside-hand-requires g c = next_able AnyRow AnyLaw _ _ _ _ _ (ap (λ (s : Swift). acts_at_once s c.args.e.now c.args.acts.now.items) c.in-Gives.is) c.requires.busy c.requires.few

pub pull_held-hand-requires : goal.pull_held-hand-requires
pull_held-hand-requires g c = next_able AnyRow AnyLaw _ _ _ _ _ (ap (λ (s : Swift). acts_at_once s c.args.e.now c.args.acts.now.items) c.in-Asks.is) c.requires.busy c.requires.few
