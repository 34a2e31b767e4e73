-- The goals of `engine::Engine::go_up` that the search leaves.
use Rattle.std.proofs.Common.{refl}
use Rattle.port_core.specs.Cell.{moved_by}
use Rattle.port_core.specs.Wire.{pull}
use Rattle.port_core.specs.declared.act.Act.TheVariants as act
use Rattle.fused_net.specs.Net.{wire_at}
use Rattle.fused_net.specs.Hand.{acts_asked}
use Rattle.fused_net.proofs.Keeping.{on_err}
use Rattle.fused_net.proofs.Handling.{calling_held, call_meets, call_fits, call_busy, call_few, call_still, call_kept, answered}
use Rattle.fused_net.proofs.engine.Engine.go_up.Goals as goal

pub pull_from-requires-clause-meets : goal.pull_from-requires-clause-meets
pull_from-requires-clause-meets g c = call_meets g.S.Stage.port_state g.S.Stage.law g.S.Stage.asking g.S.Stage.moves _ _ _ _ _ _ _ _ (calling_held g.S.Stage.port_state g.S.Stage.law g.S.Stage.asking g.S.Stage.moves c.args.self.now c.ask.new.self _ _ c.args.w (moved_by (act.Pull 0) (wire_at c.args.self.now c.args.w)) (pull) _ _ c.requires.laws c.requires.held.0 c.requires.held.1.1 c.ask.ensures.brings (λ none. cc) refl c.ask.ensures.after c.self.view_is c.index-ends.ensures c.self-2.view_is c.index_mut.ensures.value)

pub pull_from-requires-clause-ports : goal.pull_from-requires-clause-ports
pull_from-requires-clause-ports g c = call_fits g.S.Stage.port_state g.S.Stage.law g.S.Stage.asking g.S.Stage.moves _ _ _ _ _ _ _ _ _ (calling_held g.S.Stage.port_state g.S.Stage.law g.S.Stage.asking g.S.Stage.moves c.args.self.now c.ask.new.self _ _ c.args.w (moved_by (act.Pull 0) (wire_at c.args.self.now c.args.w)) (pull) _ _ c.requires.laws c.requires.held.0 c.requires.held.1.1 c.ask.ensures.brings (λ none. cc) refl c.ask.ensures.after c.self.view_is c.index-ends.ensures c.self-2.view_is c.index_mut.ensures.value) c.requires.ports

pub returns-in_err-asks-clause-kept : goal.returns-in_err-asks-clause-kept
returns-in_err-asks-clause-kept g c = on_err _ (call_kept g.S.Stage.port_state g.S.Stage.law g.S.Stage.asking g.S.Stage.moves g.S.Stage.gone g.S.Stage.passive g.S.Stage.keeps _ _ _ _ _ _ _ _ _ (calling_held g.S.Stage.port_state g.S.Stage.law g.S.Stage.asking g.S.Stage.moves c.args.self.now c.ask.new.self _ _ c.args.w (moved_by (act.Pull 0) (wire_at c.args.self.now c.args.w)) (pull) _ _ c.requires.laws c.requires.held.0 c.requires.held.1.1 c.ask.ensures.brings (λ none. cc) refl c.ask.ensures.after c.self.view_is c.index-ends.ensures c.self-2.view_is c.index_mut.ensures.value) c.in_err-asks.ensures.kept)

pub answer_asked-requires-clause-busy : goal.answer_asked-requires-clause-busy
answer_asked-requires-clause-busy g c = call_busy g.S.Stage.port_state g.S.Stage.law g.S.Stage.asking g.S.Stage.moves _ _ _ _ _ _ _ _ _ _ (calling_held g.S.Stage.port_state g.S.Stage.law g.S.Stage.asking g.S.Stage.moves c.args.self.now c.ask.new.self _ _ c.args.w (moved_by (act.Pull 0) (wire_at c.args.self.now c.args.w)) (pull) _ _ c.requires.laws c.requires.held.0 c.requires.held.1.1 c.ask.ensures.brings (λ none. cc) refl c.ask.ensures.after c.self.view_is c.index-ends.ensures c.self-2.view_is c.index_mut.ensures.value) c.in_ok-asks.ensures.reacts.handles

pub answer_asked-requires-clause-few : goal.answer_asked-requires-clause-few
answer_asked-requires-clause-few g c = call_few g.S.Stage.port_state g.S.Stage.law g.S.Stage.asking g.S.Stage.moves _ _ _ _ _ _ _ _ c.pull_from.new.node (calling_held g.S.Stage.port_state g.S.Stage.law g.S.Stage.asking g.S.Stage.moves c.args.self.now c.ask.new.self _ _ c.args.w (moved_by (act.Pull 0) (wire_at c.args.self.now c.args.w)) (pull) _ _ c.requires.laws c.requires.held.0 c.requires.held.1.1 c.ask.ensures.brings (λ none. cc) refl c.ask.ensures.after c.self.view_is c.index-ends.ensures c.self-2.view_is c.index_mut.ensures.value) c.requires.few

pub answer_asked-requires-clause-still : goal.answer_asked-requires-clause-still
answer_asked-requires-clause-still g c = call_still g.S.Stage.port_state g.S.Stage.law g.S.Stage.asking g.S.Stage.moves g.S.Stage.gone g.S.Stage.passive _ _ _ _ _ _ _ _ _ _ (calling_held g.S.Stage.port_state g.S.Stage.law g.S.Stage.asking g.S.Stage.moves c.args.self.now c.ask.new.self _ _ c.args.w (moved_by (act.Pull 0) (wire_at c.args.self.now c.args.w)) (pull) _ _ c.requires.laws c.requires.held.0 c.requires.held.1.1 c.ask.ensures.brings (λ none. cc) refl c.ask.ensures.after c.self.view_is c.index-ends.ensures c.self-2.view_is c.index_mut.ensures.value) c.in_ok-asks.ensures.reacts.stays

pub returns-clause-answered : goal.returns-clause-answered
returns-clause-answered g c = answered g.S.Stage.port_state g.S.Stage.law g.S.Stage.asking g.S.Stage.moves g.S.Stage.gone g.S.Stage.passive _ _ _ _ _ _ _ _ _ _ (acts_asked c.in_ok-asks.asks c.pull_from.new.acts.items) _ (calling_held g.S.Stage.port_state g.S.Stage.law g.S.Stage.asking g.S.Stage.moves c.args.self.now c.ask.new.self _ _ c.args.w (moved_by (act.Pull 0) (wire_at c.args.self.now c.args.w)) (pull) _ _ c.requires.laws c.requires.held.0 c.requires.held.1.1 c.ask.ensures.brings (λ none. cc) refl c.ask.ensures.after c.self.view_is c.index-ends.ensures c.self-2.view_is c.index_mut.ensures.value) c.in_ok-asks.ensures.reacts.handles c.in_ok-asks.ensures.reacts.pulls c.in_ok-asks.ensures.reacts.grows c.in_ok-asks.ensures.reacts.stays c.in_ok-asks.ensures.reacts.none_gone c.answer_asked.ensures.after c.answer_asked.ensures.passive
