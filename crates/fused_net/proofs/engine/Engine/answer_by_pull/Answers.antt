-- The goals of `engine::Engine::answer_by_pull` that the search leaves.
use Rattle.fused_net.specs.Laws.{AnyRow, AnyLaw}
use Rattle.fused_net.proofs.Acting.{next_able}
use Rattle.fused_net.proofs.engine.Engine.answer_by_pull.Goals as goal

pub pull_held-hand-requires : goal.pull_held-hand-requires
pull_held-hand-requires g c = next_able AnyRow AnyLaw _ _ _ _ _ c.in-Some.ensures.one.0 c.requires.busy c.requires.few
