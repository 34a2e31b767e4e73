-- The goals of `engine::Engine::next` that the search leaves.
use Rattle.std.proofs.Common.{refl, ◌∙◌}
use Rattle.fused_net.proofs.Queues.{next_none, next_some}
use Rattle.fused_net.proofs.engine.Engine.next.Goals as goal

pub returns-clause-none : goal.returns-clause-none
returns-clause-none g c = next_none _ _ _ c.self.inside.queue c.next.new.self c.next.result c.self.view_is refl refl c.next.ensures.none

pub returns-clause-some : goal.returns-clause-some
returns-clause-some g c = next_some _ _ _ c.self.inside.queue c.next.new.self c.next.result c.self.view_is refl refl (c.next.ensures.size ∙ c.self.invariant) c.next.ensures.some c.next.ensures.once
