-- The goals of `engine::Engine::poke_push` that the search leaves.
use Rattle.fused_net.proofs.Poking.{push_free, pushed_there, push_poked}
use Rattle.fused_net.proofs.engine.Engine.poke_push.Goals as goal

pub push_at-requires-clause-free : goal.push_at-requires-clause-free
push_at-requires-clause-free g c = (push_free g.S.Stage.port_state g.S.Stage.law g.S.Stage.asking g.S.Stage.moves c.args.self.now c.requires.laws c.args.w c.requires.within c.args.e c.requires.may c.requires.few).0

pub push_at-requires-clause-count : goal.push_at-requires-clause-count
push_at-requires-clause-count g c = (push_free g.S.Stage.port_state g.S.Stage.law g.S.Stage.asking g.S.Stage.moves c.args.self.now c.requires.laws c.args.w c.requires.within c.args.e c.requires.may c.requires.few).1

pub returns-clause-after : goal.returns-clause-after
returns-clause-after g c = pushed_there g.S.Stage.port_state g.S.Stage.law g.S.Stage.asking g.S.Stage.moves c.args.self.now c.requires.laws c.args.w c.requires.within _ c.args.e c.push_at.ensures

pub returns-clause-laws : goal.returns-clause-laws
returns-clause-laws g c = (push_poked g.S.Stage.port_state g.S.Stage.law g.S.Stage.asking g.S.Stage.moves c.args.self.now c.requires.laws c.args.w c.requires.within _ c.args.e c.push_at.ensures c.requires.may).laws

pub returns-clause-on : goal.returns-clause-on
returns-clause-on g c = (push_poked g.S.Stage.port_state g.S.Stage.law g.S.Stage.asking g.S.Stage.moves c.args.self.now c.requires.laws c.args.w c.requires.within _ c.args.e c.push_at.ensures c.requires.may).on

pub returns-clause-uses : goal.returns-clause-uses
returns-clause-uses g c = (push_poked g.S.Stage.port_state g.S.Stage.law g.S.Stage.asking g.S.Stage.moves c.args.self.now c.requires.laws c.args.w c.requires.within _ c.args.e c.push_at.ensures c.requires.may).uses
