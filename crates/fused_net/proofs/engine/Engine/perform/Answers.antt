-- The goals of `engine::Engine::perform` that the search leaves.
use Rattle.fused_net.specs.Laws.{AnyRow, AnyLaw}
use Rattle.fused_net.proofs.Acting.{next_able}
use Rattle.fused_net.proofs.Still.{acts_passive}
use Rattle.fused_net.proofs.engine.Engine.perform.Goals as goal

pub act-requires : goal.act-requires
act-requires g c = next_able AnyRow AnyLaw _ _ _ _ _ c.in-Some.ensures.one.0 c.requires.busy c.requires.few

pub returns-in-None-clause-passive : goal.returns-in-None-clause-passive
returns-in-None-clause-passive g c = acts_passive g.S.Stage.passive c.args.self.now _ c.perform_all.new.self c.args.n c.only.new.self.items _ _ c.self.view_is c.perform_all.ensures.after c.requires.within c.index.ensures c.is_passive-passive.ensures
