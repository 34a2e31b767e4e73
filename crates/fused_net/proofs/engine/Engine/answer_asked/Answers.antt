-- The goals of `engine::Engine::answer_asked` that the search leaves.
use Rattle.std.proofs.Common.{Bool, ap}
use Rattle.fused_net.specs.Hand.{acts_asked}
use Rattle.fused_net.specs.Laws.{AnyRow, AnyLaw}
use Rattle.fused_net.proofs.Acting.{next_able}
use Rattle.fused_net.proofs.engine.Engine.answer_asked.Goals as goal

pub pull_held-hand-requires : goal.pull_held-hand-requires
pull_held-hand-requires g c = next_able AnyRow AnyLaw _ _ _ _ _ (ap (λ (b : Bool). acts_asked b c.args.acts.now.items) c.if-asks.true) c.requires.busy c.requires.few
