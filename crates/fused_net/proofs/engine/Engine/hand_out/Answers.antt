-- The goals of `engine::Engine::hand_out` that the search leaves.
use Rattle.std.proofs.Common.{refl}
use Rattle.fused_net.proofs.Poking.{node_goes, node_uses, hand_none, hand_some, hand_laws}
use Rattle.fused_net.proofs.engine.Engine.hand_out.Goals as goal

pub returns-clause-none : goal.returns-clause-none
returns-clause-none g c = hand_none g.S.Stage.port_state g.S.Stage.law g.S.Stage.asking g.S.Stage.moves g.S.Stage.gone g.S.Stage.waits _ _ _ _ _ _ _ c.self.view_is c.requires.within c.index_mut.ensures.value refl c.hand_out.ensures.none

pub returns-clause-some : goal.returns-clause-some
returns-clause-some g c = hand_some g.S.Stage.port_state g.S.Stage.law g.S.Stage.asking g.S.Stage.moves g.S.Stage.gone g.S.Stage.waits _ _ _ _ _ _ _ c.self.view_is c.requires.within c.index_mut.ensures.value c.requires.laws refl c.hand_out.ensures.some

pub returns-clause-laws : goal.returns-clause-laws
returns-clause-laws g c = hand_laws g.S.Stage.port_state g.S.Stage.law g.S.Stage.asking g.S.Stage.moves g.S.Stage.gone g.S.Stage.waits _ _ _ _ _ _ _ c.self.view_is c.requires.within c.index_mut.ensures.value c.requires.laws refl c.hand_out.ensures.none c.hand_out.ensures.some

pub returns-clause-on : goal.returns-clause-on
returns-clause-on g c = node_goes _ _ _ c.args.n c.hand_out.new.self c.self.view_is refl

pub returns-clause-uses : goal.returns-clause-uses
returns-clause-uses g c = node_uses _ _ _ c.args.n c.hand_out.new.self c.self.view_is refl
