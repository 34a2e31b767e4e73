-- The goals of `engine::Engine::start_at` that the search leaves.
use Rattle.fused_net.proofs.Responding.{start_meets, start_fits, start_awaited, started}
use Rattle.fused_net.proofs.Keeping.{kept_called_first, kept_started}
use Rattle.fused_net.proofs.Poking.{gone_acts}
use Rattle.fused_net.proofs.Still.{still_acts}
use Rattle.fused_net.proofs.engine.Engine.start_at.Goals as goal

pub start-requires-clause-meets : goal.start-requires-clause-meets
start-requires-clause-meets g c = start_meets g.S.Stage.port_state g.S.Stage.law g.S.Stage.asking g.S.Stage.moves g.S.Stage.fresh _ _ _ _ c.requires.starting c.self.view_is c.requires.within c.index_mut.ensures.value

pub start-requires-clause-ports : goal.start-requires-clause-ports
start-requires-clause-ports g c = start_fits g.S.Stage.port_state g.S.Stage.law g.S.Stage.asking g.S.Stage.moves g.S.Stage.fresh _ _ _ _ _ c.requires.starting c.self.view_is c.requires.within c.index_mut.ensures.value c.requires.ports

pub perform_all-requires-clause-busy : goal.perform_all-requires-clause-busy
perform_all-requires-clause-busy g c = start_awaited g.S.Stage.port_state g.S.Stage.law g.S.Stage.asking g.S.Stage.moves g.S.Stage.fresh _ _ _ _ _ _ c.requires.starting c.self.view_is c.requires.within c.index_mut.ensures.value c.in_ok-start.ensures.starts

pub returns-clause-starting : goal.returns-clause-starting
returns-clause-starting g c = (started g.S.Stage.port_state g.S.Stage.law g.S.Stage.asking g.S.Stage.moves g.S.Stage.fresh _ _ _ _ _ _ _ c.requires.starting c.self.view_is c.requires.within c.index_mut.ensures.value c.in_ok-start.ensures.starts c.in_ok-start.ensures.pulls c.in_ok-start.ensures.grows c.perform_all.ensures.after).starting

pub returns-clause-on : goal.returns-clause-on
returns-clause-on g c = (started g.S.Stage.port_state g.S.Stage.law g.S.Stage.asking g.S.Stage.moves g.S.Stage.fresh _ _ _ _ _ _ _ c.requires.starting c.self.view_is c.requires.within c.index_mut.ensures.value c.in_ok-start.ensures.starts c.in_ok-start.ensures.pulls c.in_ok-start.ensures.grows c.perform_all.ensures.after).on

pub returns-clause-asks : goal.returns-clause-asks
returns-clause-asks g c = (started g.S.Stage.port_state g.S.Stage.law g.S.Stage.asking g.S.Stage.moves g.S.Stage.fresh _ _ _ _ _ _ _ c.requires.starting c.self.view_is c.requires.within c.index_mut.ensures.value c.in_ok-start.ensures.starts c.in_ok-start.ensures.pulls c.in_ok-start.ensures.grows c.perform_all.ensures.after).asks

pub returns-clause-gone : goal.returns-clause-gone
returns-clause-gone g c = gone_acts g.S.Stage.gone _ _ _ _ _ _ c.start.new.acts.items c.self.view_is c.requires.within c.index_mut.ensures.value c.in_ok-start.ensures.gone c.perform_all.ensures.after

pub returns-clause-kept : goal.returns-clause-kept
returns-clause-kept g c = kept_started g.S.Stage.port_state g.S.Stage.law g.S.Stage.asking g.S.Stage.moves g.S.Stage.fresh g.S.Stage.keeps _ _ _ _ _ _ c.start.new.acts.items c.requires.starting c.self.view_is c.requires.within c.index_mut.ensures.value c.requires.kept c.start.ensures.kept c.perform_all.ensures.after

pub returns-in_err-start-clause-kept : goal.returns-in_err-start-clause-kept
returns-in_err-start-clause-kept g c = kept_called_first g.S.Stage.port_state g.S.Stage.law g.S.Stage.asking g.S.Stage.moves g.S.Stage.fresh g.S.Stage.keeps _ _ _ _ _ c.requires.starting c.self.view_is c.requires.within c.index_mut.ensures.value c.requires.kept c.start.ensures.kept

pub returns-clause-still : goal.returns-clause-still
returns-clause-still g c = still_acts g.S.Stage.passive _ _ _ _ _ _ c.start.new.acts.items c.self.view_is c.requires.within c.index_mut.ensures.value (start_awaited g.S.Stage.port_state g.S.Stage.law g.S.Stage.asking g.S.Stage.moves g.S.Stage.fresh _ _ _ _ _ _ c.requires.starting c.self.view_is c.requires.within c.index_mut.ensures.value c.in_ok-start.ensures.starts) c.in_ok-start.ensures.passive c.perform_all.ensures.after
