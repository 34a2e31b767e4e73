-- The goals of `engine::Engine::put_off_at` that the search leaves.
use Rattle.fused_net.proofs.Settling.{settled_by, settled_able, settled_here, settled_others}
use Rattle.fused_net.proofs.engine.Engine.put_off_at.Goals as goal

pub cancel_if-requires : goal.cancel_if-requires
cancel_if-requires g c = settled_able g.S.Stage.port_state g.S.Stage.law g.S.Stage.asking g.S.Stage.moves g.S.Stage.gone g.S.Stage.passive _ _ c.args.n _ c.put_off-failed.new.self c.put_off-failed.result c.self.view_is c.requires.within c.index_mut.ensures.value c.requires.laws c.requires.few c.put_off-failed.ensures.puts

pub returns-clause-laws : goal.returns-clause-laws
returns-clause-laws g c = (settled_by g.S.Stage.port_state g.S.Stage.law g.S.Stage.asking g.S.Stage.moves g.S.Stage.gone g.S.Stage.passive _ _ _ c.args.n _ c.put_off-failed.new.self c.put_off-failed.result c.self.view_is c.requires.within c.index_mut.ensures.value c.requires.laws c.put_off-failed.ensures.puts c.cancel_if.ensures).laws

pub returns-clause-on : goal.returns-clause-on
returns-clause-on g c = (settled_by g.S.Stage.port_state g.S.Stage.law g.S.Stage.asking g.S.Stage.moves g.S.Stage.gone g.S.Stage.passive _ _ _ c.args.n _ c.put_off-failed.new.self c.put_off-failed.result c.self.view_is c.requires.within c.index_mut.ensures.value c.requires.laws c.put_off-failed.ensures.puts c.cancel_if.ensures).on

pub returns-clause-uses : goal.returns-clause-uses
returns-clause-uses g c = (settled_by g.S.Stage.port_state g.S.Stage.law g.S.Stage.asking g.S.Stage.moves g.S.Stage.gone g.S.Stage.passive _ _ _ c.args.n _ c.put_off-failed.new.self c.put_off-failed.result c.self.view_is c.requires.within c.index_mut.ensures.value c.requires.laws c.put_off-failed.ensures.puts c.cancel_if.ensures).uses

pub returns-clause-gone : goal.returns-clause-gone
returns-clause-gone g c = (settled_by g.S.Stage.port_state g.S.Stage.law g.S.Stage.asking g.S.Stage.moves g.S.Stage.gone g.S.Stage.passive _ _ _ c.args.n _ c.put_off-failed.new.self c.put_off-failed.result c.self.view_is c.requires.within c.index_mut.ensures.value c.requires.laws c.put_off-failed.ensures.puts c.cancel_if.ensures).gone_is

pub returns-clause-still : goal.returns-clause-still
returns-clause-still g c = (settled_by g.S.Stage.port_state g.S.Stage.law g.S.Stage.asking g.S.Stage.moves g.S.Stage.gone g.S.Stage.passive _ _ _ c.args.n _ c.put_off-failed.new.self c.put_off-failed.result c.self.view_is c.requires.within c.index_mut.ensures.value c.requires.laws c.put_off-failed.ensures.puts c.cancel_if.ensures).still

pub returns-clause-untouched : goal.returns-clause-untouched
returns-clause-untouched g c = (settled_by g.S.Stage.port_state g.S.Stage.law g.S.Stage.asking g.S.Stage.moves g.S.Stage.gone g.S.Stage.passive _ _ _ c.args.n _ c.put_off-failed.new.self c.put_off-failed.result c.self.view_is c.requires.within c.index_mut.ensures.value c.requires.laws c.put_off-failed.ensures.puts c.cancel_if.ensures).untouched

pub returns-clause-here : goal.returns-clause-here
returns-clause-here g c = settled_here g.S.Stage.late _ _ _ c.args.n c.put_off-failed.new.self c.put_off-failed.result c.self.view_is c.requires.within c.put_off-failed.ensures.all c.cancel_if.ensures

pub returns-clause-others : goal.returns-clause-others
returns-clause-others g c = settled_others _ _ _ c.args.n c.put_off-failed.new.self c.put_off-failed.result c.self.view_is c.cancel_if.ensures
