-- The goals of `engine::Engine::handle_closing` that the search leaves.
use Rattle.std.proofs.Common.{arith}
use Rattle.std.proofs.lemmas.List.{length-set}
use Rattle.fused_net.proofs.Keeping.{on_err}
use Rattle.fused_net.proofs.Handling.{closing_within, calling_closing, call_meets, call_fits, call_busy, call_few, call_still, call_kept, answered, answered_nothing}
use Rattle.fused_net.proofs.engine.Engine.handle_closing.Goals as goal

pub returns-in_default-clause-answered : goal.returns-in_default-clause-answered
returns-in_default-clause-answered g c = answered_nothing g.S.Stage.port_state g.S.Stage.law g.S.Stage.asking g.S.Stage.moves g.S.Stage.gone g.S.Stage.passive _ _ _ c.requires.laws c.requires.within c.requires.absent c.in_default.ensures.none c.deliver.ensures.after

pub index_mut-requires : goal.index_mut-requires
index_mut-requires g c = omega (arith, closing_within g.S.Stage.port_state g.S.Stage.law g.S.Stage.asking g.S.Stage.moves c.in-Some.event _ _ _ _ _ c.args.w _ _ c.requires.laws c.requires.within c.requires.after c.self.view_is c.index-ends.ensures c.deliver.ensures.after c.node_of-n.ensures c.self-2.view_is, c.self-2.inside.nodes.ok.0)

pub call-requires-clause-meets : goal.call-requires-clause-meets
call-requires-clause-meets g c = call_meets g.S.Stage.port_state g.S.Stage.law g.S.Stage.asking g.S.Stage.moves _ _ _ _ _ _ _ _ (calling_closing g.S.Stage.port_state g.S.Stage.law g.S.Stage.asking g.S.Stage.moves c.in-Some.event _ _ _ _ _ c.args.w _ _ _ c.requires.laws c.requires.within c.requires.absent c.requires.after c.self.view_is c.index-ends.ensures c.in-Some.ensures.some c.deliver.ensures.after c.node_of-n.ensures c.self-2.view_is c.index_mut.ensures.value)

pub call-requires-clause-ports : goal.call-requires-clause-ports
call-requires-clause-ports g c = call_fits g.S.Stage.port_state g.S.Stage.law g.S.Stage.asking g.S.Stage.moves _ _ _ _ _ _ _ _ _ (calling_closing g.S.Stage.port_state g.S.Stage.law g.S.Stage.asking g.S.Stage.moves c.in-Some.event _ _ _ _ _ c.args.w _ _ _ c.requires.laws c.requires.within c.requires.absent c.requires.after c.self.view_is c.index-ends.ensures c.in-Some.ensures.some c.deliver.ensures.after c.node_of-n.ensures c.self-2.view_is c.index_mut.ensures.value) c.requires.ports

pub returns-in_err-call-clause-kept : goal.returns-in_err-call-clause-kept
returns-in_err-call-clause-kept g c = on_err _ (call_kept g.S.Stage.port_state g.S.Stage.law g.S.Stage.asking g.S.Stage.moves g.S.Stage.gone g.S.Stage.passive g.S.Stage.keeps _ _ _ _ _ _ _ _ _ (calling_closing g.S.Stage.port_state g.S.Stage.law g.S.Stage.asking g.S.Stage.moves c.in-Some.event _ _ _ _ _ c.args.w _ _ _ c.requires.laws c.requires.within c.requires.absent c.requires.after c.self.view_is c.index-ends.ensures c.in-Some.ensures.some c.deliver.ensures.after c.node_of-n.ensures c.self-2.view_is c.index_mut.ensures.value) c.in_err-call.ensures.kept)

pub perform-requires-clause-within : goal.perform-requires-clause-within
perform-requires-clause-within g c = rw length-set (closing_within g.S.Stage.port_state g.S.Stage.law g.S.Stage.asking g.S.Stage.moves c.in-Some.event _ _ _ _ _ c.args.w _ _ c.requires.laws c.requires.within c.requires.after c.self.view_is c.index-ends.ensures c.deliver.ensures.after c.node_of-n.ensures c.self-2.view_is)

pub perform-requires-clause-busy : goal.perform-requires-clause-busy
perform-requires-clause-busy g c = call_busy g.S.Stage.port_state g.S.Stage.law g.S.Stage.asking g.S.Stage.moves _ _ _ _ _ _ _ _ _ _ (calling_closing g.S.Stage.port_state g.S.Stage.law g.S.Stage.asking g.S.Stage.moves c.in-Some.event _ _ _ _ _ c.args.w _ _ _ c.requires.laws c.requires.within c.requires.absent c.requires.after c.self.view_is c.index-ends.ensures c.in-Some.ensures.some c.deliver.ensures.after c.node_of-n.ensures c.self-2.view_is c.index_mut.ensures.value) c.in_ok-call.ensures.handles

pub perform-requires-clause-few : goal.perform-requires-clause-few
perform-requires-clause-few g c = call_few g.S.Stage.port_state g.S.Stage.law g.S.Stage.asking g.S.Stage.moves _ _ _ _ _ _ _ _ c.call.new.node (calling_closing g.S.Stage.port_state g.S.Stage.law g.S.Stage.asking g.S.Stage.moves c.in-Some.event _ _ _ _ _ c.args.w _ _ _ c.requires.laws c.requires.within c.requires.absent c.requires.after c.self.view_is c.index-ends.ensures c.in-Some.ensures.some c.deliver.ensures.after c.node_of-n.ensures c.self-2.view_is c.index_mut.ensures.value) c.requires.few

pub perform-requires-clause-still : goal.perform-requires-clause-still
perform-requires-clause-still g c = call_still g.S.Stage.port_state g.S.Stage.law g.S.Stage.asking g.S.Stage.moves g.S.Stage.gone g.S.Stage.passive _ _ _ _ _ _ _ _ _ _ (calling_closing g.S.Stage.port_state g.S.Stage.law g.S.Stage.asking g.S.Stage.moves c.in-Some.event _ _ _ _ _ c.args.w _ _ _ c.requires.laws c.requires.within c.requires.absent c.requires.after c.self.view_is c.index-ends.ensures c.in-Some.ensures.some c.deliver.ensures.after c.node_of-n.ensures c.self-2.view_is c.index_mut.ensures.value) c.in_ok-call.ensures.passive

pub returns-clause-answered : goal.returns-clause-answered
returns-clause-answered g c = answered g.S.Stage.port_state g.S.Stage.law g.S.Stage.asking g.S.Stage.moves g.S.Stage.gone g.S.Stage.passive _ _ _ _ _ _ _ _ _ _ c.call.new.acts.items _ (calling_closing g.S.Stage.port_state g.S.Stage.law g.S.Stage.asking g.S.Stage.moves c.in-Some.event _ _ _ _ _ c.args.w _ _ _ c.requires.laws c.requires.within c.requires.absent c.requires.after c.self.view_is c.index-ends.ensures c.in-Some.ensures.some c.deliver.ensures.after c.node_of-n.ensures c.self-2.view_is c.index_mut.ensures.value) c.in_ok-call.ensures.handles c.in_ok-call.ensures.pulls c.in_ok-call.ensures.grows c.in_ok-call.ensures.passive c.in_ok-call.ensures.gone c.perform.ensures.after c.perform.ensures.passive
