-- The goals of `engine::Engine::let_go` that the search leaves.
use Rattle.std.proofs.Common.{refl}
use Rattle.fused_net.proofs.Poking.{node_goes, node_uses, handed}
use Rattle.fused_net.proofs.engine.Engine.let_go.Goals as goal

pub returns-clause-laws : goal.returns-clause-laws
returns-clause-laws g c = (handed g.S.Stage.port_state g.S.Stage.law g.S.Stage.asking g.S.Stage.moves g.S.Stage.gone g.S.Stage.waits _ _ _ _ _ _ _ c.self.view_is c.requires.within c.index_mut.ensures.value c.requires.laws c.let_go.ensures refl).1

pub returns-clause-on : goal.returns-clause-on
returns-clause-on g c = node_goes _ _ _ c.args.n c.let_go.new.self c.self.view_is refl

pub returns-clause-uses : goal.returns-clause-uses
returns-clause-uses g c = node_uses _ _ _ c.args.n c.let_go.new.self c.self.view_is refl
