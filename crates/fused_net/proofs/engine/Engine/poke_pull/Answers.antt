-- The goals of `engine::Engine::poke_pull` that the search leaves.
use Rattle.fused_net.proofs.Poking.{pull_free, pulled_there, pull_poked}
use Rattle.fused_net.proofs.engine.Engine.poke_pull.Goals as goal

pub pull_at-requires-clause-free : goal.pull_at-requires-clause-free
pull_at-requires-clause-free g c = (pull_free g.S.Stage.port_state g.S.Stage.law g.S.Stage.asking g.S.Stage.moves c.args.self.now c.requires.laws c.args.w c.requires.within c.requires.may c.requires.few).0

pub returns-clause-after : goal.returns-clause-after
returns-clause-after g c = pulled_there g.S.Stage.port_state g.S.Stage.law g.S.Stage.asking g.S.Stage.moves c.args.self.now c.requires.laws c.args.w c.requires.within _ c.pull_at.ensures

pub returns-clause-laws : goal.returns-clause-laws
returns-clause-laws g c = (pull_poked g.S.Stage.port_state g.S.Stage.law g.S.Stage.asking g.S.Stage.moves c.args.self.now c.requires.laws c.args.w c.requires.within _ c.pull_at.ensures c.requires.may c.requires.tells).laws

pub returns-clause-on : goal.returns-clause-on
returns-clause-on g c = (pull_poked g.S.Stage.port_state g.S.Stage.law g.S.Stage.asking g.S.Stage.moves c.args.self.now c.requires.laws c.args.w c.requires.within _ c.pull_at.ensures c.requires.may c.requires.tells).on

pub returns-clause-uses : goal.returns-clause-uses
returns-clause-uses g c = (pull_poked g.S.Stage.port_state g.S.Stage.law g.S.Stage.asking g.S.Stage.moves c.args.self.now c.requires.laws c.args.w c.requires.within _ c.pull_at.ensures c.requires.may c.requires.tells).uses
