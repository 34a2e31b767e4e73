-- The goals of `engine::Engine::poke` that the search leaves.
use Rattle.std.proofs.Common.{refl, [], ◌∷◌}
use Rattle.fused_net.proofs.Acting.{next_able}
use Rattle.fused_net.proofs.Poking.{poked_busy, poked}
use Rattle.fused_net.proofs.engine.Engine.poke.Goals as goal

pub act-requires : goal.act-requires
act-requires g c = next_able g.S.Stage.port_state g.S.Stage.law _ _ c.args.act (c.args.act ∷ []) [] refl (poked_busy g.S.Stage.port_state g.S.Stage.law g.S.Stage.asking g.S.Stage.moves _ _ _ c.requires.laws c.requires.within c.requires.may) c.requires.few

pub returns-clause-laws : goal.returns-clause-laws
returns-clause-laws g c = (poked g.S.Stage.port_state g.S.Stage.law g.S.Stage.asking g.S.Stage.moves _ _ _ c.args.act c.act.ensures c.requires.laws c.requires.within c.requires.may c.requires.tells).laws

pub returns-clause-uses : goal.returns-clause-uses
returns-clause-uses g c = (poked g.S.Stage.port_state g.S.Stage.law g.S.Stage.asking g.S.Stage.moves _ _ _ c.args.act c.act.ensures c.requires.laws c.requires.within c.requires.may c.requires.tells).uses
