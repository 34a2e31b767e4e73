-- The goals of `engine::Engine::handle` that the search leaves.
use Rattle.fused_net.proofs.Keeping.{on_err}
use Rattle.fused_net.proofs.Handling.{calling_push, calling_pull, call_meets, call_fits, call_busy, call_few, call_still, call_kept, answered}
use Rattle.fused_net.proofs.engine.Engine.handle.Goals as goal

pub on_push-requires-clause-meets : goal.on_push-requires-clause-meets
on_push-requires-clause-meets g c = call_meets g.S.Stage.port_state g.S.Stage.law g.S.Stage.asking g.S.Stage.moves _ _ _ _ _ _ _ _ (calling_push g.S.Stage.port_state g.S.Stage.law g.S.Stage.asking g.S.Stage.moves c.args.self.now c.tell.new.self c.take-x.new.self _ _ c.args.w c.take-x.result _ _ c.requires.laws c.requires.within c.requires.absent c.in-Push.ensures.tells c.tell.ensures.after c.take-x.ensures.value c.take-x.ensures.after c.self.view_is c.index-ends.ensures c.self-in-Push.view_is c.index_mut.ensures.value)

pub on_push-requires-clause-ports : goal.on_push-requires-clause-ports
on_push-requires-clause-ports g c = call_fits g.S.Stage.port_state g.S.Stage.law g.S.Stage.asking g.S.Stage.moves _ _ _ _ _ _ _ _ _ (calling_push g.S.Stage.port_state g.S.Stage.law g.S.Stage.asking g.S.Stage.moves c.args.self.now c.tell.new.self c.take-x.new.self _ _ c.args.w c.take-x.result _ _ c.requires.laws c.requires.within c.requires.absent c.in-Push.ensures.tells c.tell.ensures.after c.take-x.ensures.value c.take-x.ensures.after c.self.view_is c.index-ends.ensures c.self-in-Push.view_is c.index_mut.ensures.value) c.requires.ports

pub returns-in_err-on_push-in-Push-clause-kept : goal.returns-in_err-on_push-in-Push-clause-kept
returns-in_err-on_push-in-Push-clause-kept g c = on_err _ (call_kept g.S.Stage.port_state g.S.Stage.law g.S.Stage.asking g.S.Stage.moves g.S.Stage.gone g.S.Stage.passive g.S.Stage.keeps _ _ _ _ _ _ _ _ _ (calling_push g.S.Stage.port_state g.S.Stage.law g.S.Stage.asking g.S.Stage.moves c.args.self.now c.tell.new.self c.take-x.new.self _ _ c.args.w c.take-x.result _ _ c.requires.laws c.requires.within c.requires.absent c.in-Push.ensures.tells c.tell.ensures.after c.take-x.ensures.value c.take-x.ensures.after c.self.view_is c.index-ends.ensures c.self-in-Push.view_is c.index_mut.ensures.value) c.in_err-on_push-in-Push.ensures.kept)

pub answer_push-requires-clause-busy : goal.answer_push-requires-clause-busy
answer_push-requires-clause-busy g c = call_busy g.S.Stage.port_state g.S.Stage.law g.S.Stage.asking g.S.Stage.moves _ _ _ _ _ _ _ _ _ _ (calling_push g.S.Stage.port_state g.S.Stage.law g.S.Stage.asking g.S.Stage.moves c.args.self.now c.tell.new.self c.take-x.new.self _ _ c.args.w c.take-x.result _ _ c.requires.laws c.requires.within c.requires.absent c.in-Push.ensures.tells c.tell.ensures.after c.take-x.ensures.value c.take-x.ensures.after c.self.view_is c.index-ends.ensures c.self-in-Push.view_is c.index_mut.ensures.value) c.in_ok-on_push-in-Push.ensures.handles

pub answer_push-requires-clause-few : goal.answer_push-requires-clause-few
answer_push-requires-clause-few g c = call_few g.S.Stage.port_state g.S.Stage.law g.S.Stage.asking g.S.Stage.moves _ _ _ _ _ _ _ _ c.on_push.new.self (calling_push g.S.Stage.port_state g.S.Stage.law g.S.Stage.asking g.S.Stage.moves c.args.self.now c.tell.new.self c.take-x.new.self _ _ c.args.w c.take-x.result _ _ c.requires.laws c.requires.within c.requires.absent c.in-Push.ensures.tells c.tell.ensures.after c.take-x.ensures.value c.take-x.ensures.after c.self.view_is c.index-ends.ensures c.self-in-Push.view_is c.index_mut.ensures.value) c.requires.few

pub answer_push-requires-clause-still : goal.answer_push-requires-clause-still
answer_push-requires-clause-still g c = call_still g.S.Stage.port_state g.S.Stage.law g.S.Stage.asking g.S.Stage.moves g.S.Stage.gone g.S.Stage.passive _ _ _ _ _ _ _ _ _ _ (calling_push g.S.Stage.port_state g.S.Stage.law g.S.Stage.asking g.S.Stage.moves c.args.self.now c.tell.new.self c.take-x.new.self _ _ c.args.w c.take-x.result _ _ c.requires.laws c.requires.within c.requires.absent c.in-Push.ensures.tells c.tell.ensures.after c.take-x.ensures.value c.take-x.ensures.after c.self.view_is c.index-ends.ensures c.self-in-Push.view_is c.index_mut.ensures.value) c.in_ok-on_push-in-Push.ensures.passive

pub returns-in_ok-on_push-in-Push-clause-answered : goal.returns-in_ok-on_push-in-Push-clause-answered
returns-in_ok-on_push-in-Push-clause-answered g c = answered g.S.Stage.port_state g.S.Stage.law g.S.Stage.asking g.S.Stage.moves g.S.Stage.gone g.S.Stage.passive _ _ _ _ _ _ _ _ _ _ c.on_push.new.acts.items _ (calling_push g.S.Stage.port_state g.S.Stage.law g.S.Stage.asking g.S.Stage.moves c.args.self.now c.tell.new.self c.take-x.new.self _ _ c.args.w c.take-x.result _ _ c.requires.laws c.requires.within c.requires.absent c.in-Push.ensures.tells c.tell.ensures.after c.take-x.ensures.value c.take-x.ensures.after c.self.view_is c.index-ends.ensures c.self-in-Push.view_is c.index_mut.ensures.value) c.in_ok-on_push-in-Push.ensures.handles c.in_ok-on_push-in-Push.ensures.pulls c.in_ok-on_push-in-Push.ensures.grows c.in_ok-on_push-in-Push.ensures.passive c.in_ok-on_push-in-Push.ensures.gone c.answer_push.ensures.after c.answer_push.ensures.passive

pub on_pull-requires-clause-meets : goal.on_pull-requires-clause-meets
on_pull-requires-clause-meets g c = call_meets g.S.Stage.port_state g.S.Stage.law g.S.Stage.asking g.S.Stage.moves _ _ _ _ _ _ _ _ (calling_pull g.S.Stage.port_state g.S.Stage.law g.S.Stage.asking g.S.Stage.moves c.args.self.now c.tell.new.self _ _ c.args.w _ _ c.requires.laws c.requires.within c.requires.absent c.in-Pull.ensures.tells c.tell.ensures.after c.self.view_is c.index-ends.ensures c.self-in-Pull.view_is c.index_mut-in-Pull.ensures.value)

pub on_pull-requires-clause-ports : goal.on_pull-requires-clause-ports
on_pull-requires-clause-ports g c = call_fits g.S.Stage.port_state g.S.Stage.law g.S.Stage.asking g.S.Stage.moves _ _ _ _ _ _ _ _ _ (calling_pull g.S.Stage.port_state g.S.Stage.law g.S.Stage.asking g.S.Stage.moves c.args.self.now c.tell.new.self _ _ c.args.w _ _ c.requires.laws c.requires.within c.requires.absent c.in-Pull.ensures.tells c.tell.ensures.after c.self.view_is c.index-ends.ensures c.self-in-Pull.view_is c.index_mut-in-Pull.ensures.value) c.requires.ports

pub returns-in_err-on_pull-in-Pull-clause-kept : goal.returns-in_err-on_pull-in-Pull-clause-kept
returns-in_err-on_pull-in-Pull-clause-kept g c = on_err _ (call_kept g.S.Stage.port_state g.S.Stage.law g.S.Stage.asking g.S.Stage.moves g.S.Stage.gone g.S.Stage.passive g.S.Stage.keeps _ _ _ _ _ _ _ _ _ (calling_pull g.S.Stage.port_state g.S.Stage.law g.S.Stage.asking g.S.Stage.moves c.args.self.now c.tell.new.self _ _ c.args.w _ _ c.requires.laws c.requires.within c.requires.absent c.in-Pull.ensures.tells c.tell.ensures.after c.self.view_is c.index-ends.ensures c.self-in-Pull.view_is c.index_mut-in-Pull.ensures.value) c.in_err-on_pull-in-Pull.ensures.kept)

pub answer_pull-requires-clause-busy : goal.answer_pull-requires-clause-busy
answer_pull-requires-clause-busy g c = call_busy g.S.Stage.port_state g.S.Stage.law g.S.Stage.asking g.S.Stage.moves _ _ _ _ _ _ _ _ _ _ (calling_pull g.S.Stage.port_state g.S.Stage.law g.S.Stage.asking g.S.Stage.moves c.args.self.now c.tell.new.self _ _ c.args.w _ _ c.requires.laws c.requires.within c.requires.absent c.in-Pull.ensures.tells c.tell.ensures.after c.self.view_is c.index-ends.ensures c.self-in-Pull.view_is c.index_mut-in-Pull.ensures.value) c.in_ok-on_pull-in-Pull.ensures.handles

pub answer_pull-requires-clause-few : goal.answer_pull-requires-clause-few
answer_pull-requires-clause-few g c = call_few g.S.Stage.port_state g.S.Stage.law g.S.Stage.asking g.S.Stage.moves _ _ _ _ _ _ _ _ c.on_pull.new.self (calling_pull g.S.Stage.port_state g.S.Stage.law g.S.Stage.asking g.S.Stage.moves c.args.self.now c.tell.new.self _ _ c.args.w _ _ c.requires.laws c.requires.within c.requires.absent c.in-Pull.ensures.tells c.tell.ensures.after c.self.view_is c.index-ends.ensures c.self-in-Pull.view_is c.index_mut-in-Pull.ensures.value) c.requires.few

pub answer_pull-requires-clause-still : goal.answer_pull-requires-clause-still
answer_pull-requires-clause-still g c = call_still g.S.Stage.port_state g.S.Stage.law g.S.Stage.asking g.S.Stage.moves g.S.Stage.gone g.S.Stage.passive _ _ _ _ _ _ _ _ _ _ (calling_pull g.S.Stage.port_state g.S.Stage.law g.S.Stage.asking g.S.Stage.moves c.args.self.now c.tell.new.self _ _ c.args.w _ _ c.requires.laws c.requires.within c.requires.absent c.in-Pull.ensures.tells c.tell.ensures.after c.self.view_is c.index-ends.ensures c.self-in-Pull.view_is c.index_mut-in-Pull.ensures.value) c.in_ok-on_pull-in-Pull.ensures.passive

pub returns-in_ok-on_pull-in-Pull-clause-answered : goal.returns-in_ok-on_pull-in-Pull-clause-answered
returns-in_ok-on_pull-in-Pull-clause-answered g c = answered g.S.Stage.port_state g.S.Stage.law g.S.Stage.asking g.S.Stage.moves g.S.Stage.gone g.S.Stage.passive _ _ _ _ _ _ _ _ _ _ c.on_pull.new.acts.items _ (calling_pull g.S.Stage.port_state g.S.Stage.law g.S.Stage.asking g.S.Stage.moves c.args.self.now c.tell.new.self _ _ c.args.w _ _ c.requires.laws c.requires.within c.requires.absent c.in-Pull.ensures.tells c.tell.ensures.after c.self.view_is c.index-ends.ensures c.self-in-Pull.view_is c.index_mut-in-Pull.ensures.value) c.in_ok-on_pull-in-Pull.ensures.handles c.in_ok-on_pull-in-Pull.ensures.pulls c.in_ok-on_pull-in-Pull.ensures.grows c.in_ok-on_pull-in-Pull.ensures.passive c.in_ok-on_pull-in-Pull.ensures.gone c.answer_pull.ensures.after c.answer_pull.ensures.passive
