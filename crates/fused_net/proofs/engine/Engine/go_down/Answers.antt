-- The goals of `engine::Engine::go_down` that the search leaves.
use Rattle.std.proofs.Common.{false, refl, subst}
use Rattle.elem_core.specs.Tree.{Tree}
use Rattle.elem_core.specs.declared.item.Item.TheVariants as item
use Rattle.port_core.specs.Call.{arrives}
use Rattle.port_core.specs.Cell.{moved_by}
use Rattle.port_core.specs.Wire.{arrived}
use Rattle.port_core.specs.declared.act.Act.TheVariants as act
use Rattle.stage_core.specs.Handling.{Reacts}
use Rattle.fused_net.specs.Net.{wire_at}
use Rattle.fused_net.specs.Hand.{acts_at_once}
use Rattle.fused_net.proofs.Keeping.{on_err}
use Rattle.fused_net.proofs.Handling.{calling_held, call_meets, call_fits, call_busy, call_few, call_still, call_kept, answered}
use Rattle.fused_net.proofs.engine.Engine.go_down.Goals as goal

pub push_to-requires-clause-meets : goal.push_to-requires-clause-meets
push_to-requires-clause-meets g c = call_meets g.S.Stage.port_state g.S.Stage.law g.S.Stage.asking g.S.Stage.moves _ _ _ _ _ _ _ _ (calling_held g.S.Stage.port_state g.S.Stage.law g.S.Stage.asking g.S.Stage.moves c.args.self.now c.pass.new.self _ _ c.args.w (moved_by (act.Push 0 c.args.e.now) (wire_at c.args.self.now c.args.w)) (arrived (item.Elem c.args.e.now) false) _ _ c.requires.laws c.requires.held.0 c.requires.held.1.1.0 c.pass.ensures.brings (λ none. cc) refl c.pass.ensures.after c.self.view_is c.index-ends.ensures c.self-2.view_is c.index_mut.ensures.value)

pub push_to-requires-clause-ports : goal.push_to-requires-clause-ports
push_to-requires-clause-ports g c = call_fits g.S.Stage.port_state g.S.Stage.law g.S.Stage.asking g.S.Stage.moves _ _ _ _ _ _ _ _ _ (calling_held g.S.Stage.port_state g.S.Stage.law g.S.Stage.asking g.S.Stage.moves c.args.self.now c.pass.new.self _ _ c.args.w (moved_by (act.Push 0 c.args.e.now) (wire_at c.args.self.now c.args.w)) (arrived (item.Elem c.args.e.now) false) _ _ c.requires.laws c.requires.held.0 c.requires.held.1.1.0 c.pass.ensures.brings (λ none. cc) refl c.pass.ensures.after c.self.view_is c.index-ends.ensures c.self-2.view_is c.index_mut.ensures.value) c.requires.ports

pub returns-in_err-swift-clause-kept : goal.returns-in_err-swift-clause-kept
returns-in_err-swift-clause-kept g c = on_err _ (call_kept g.S.Stage.port_state g.S.Stage.law g.S.Stage.asking g.S.Stage.moves g.S.Stage.gone g.S.Stage.passive g.S.Stage.keeps _ _ _ _ _ _ _ _ _ (calling_held g.S.Stage.port_state g.S.Stage.law g.S.Stage.asking g.S.Stage.moves c.args.self.now c.pass.new.self _ _ c.args.w (moved_by (act.Push 0 c.args.e.now) (wire_at c.args.self.now c.args.w)) (arrived (item.Elem c.args.e.now) false) _ _ c.requires.laws c.requires.held.0 c.requires.held.1.1.0 c.pass.ensures.brings (λ none. cc) refl c.pass.ensures.after c.self.view_is c.index-ends.ensures c.self-2.view_is c.index_mut.ensures.value) c.in_err-swift.ensures.kept)

pub answer_at_once-requires-clause-busy : goal.answer_at_once-requires-clause-busy
answer_at_once-requires-clause-busy g c = call_busy g.S.Stage.port_state g.S.Stage.law g.S.Stage.asking g.S.Stage.moves _ _ _ _ _ _ _ _ _ _ (calling_held g.S.Stage.port_state g.S.Stage.law g.S.Stage.asking g.S.Stage.moves c.args.self.now c.pass.new.self _ _ c.args.w (moved_by (act.Push 0 c.args.e.now) (wire_at c.args.self.now c.args.w)) (arrived (item.Elem c.args.e.now) false) _ _ c.requires.laws c.requires.held.0 c.requires.held.1.1.0 c.pass.ensures.brings (λ none. cc) refl c.pass.ensures.after c.self.view_is c.index-ends.ensures c.self-2.view_is c.index_mut.ensures.value) (subst (λ (t : Tree). Reacts g.S.Stage.port_state g.S.Stage.law g.S.Stage.asking g.S.Stage.moves g.S.Stage.passive g.S.Stage.gone (arrives c.index-ends.result.now.input (item.Elem t)) c.index_mut.result.now c.push_to.new.node (acts_at_once c.in_ok-swift.swift c.push_to.new.e c.push_to.new.acts.items)) c.pass.ensures.same c.in_ok-swift.ensures.reacts).handles

pub answer_at_once-requires-clause-few : goal.answer_at_once-requires-clause-few
answer_at_once-requires-clause-few g c = call_few g.S.Stage.port_state g.S.Stage.law g.S.Stage.asking g.S.Stage.moves _ _ _ _ _ _ _ _ c.push_to.new.node (calling_held g.S.Stage.port_state g.S.Stage.law g.S.Stage.asking g.S.Stage.moves c.args.self.now c.pass.new.self _ _ c.args.w (moved_by (act.Push 0 c.args.e.now) (wire_at c.args.self.now c.args.w)) (arrived (item.Elem c.args.e.now) false) _ _ c.requires.laws c.requires.held.0 c.requires.held.1.1.0 c.pass.ensures.brings (λ none. cc) refl c.pass.ensures.after c.self.view_is c.index-ends.ensures c.self-2.view_is c.index_mut.ensures.value) c.requires.few

pub answer_at_once-requires-clause-still : goal.answer_at_once-requires-clause-still
answer_at_once-requires-clause-still g c = call_still g.S.Stage.port_state g.S.Stage.law g.S.Stage.asking g.S.Stage.moves g.S.Stage.gone g.S.Stage.passive _ _ _ _ _ _ _ _ _ _ (calling_held g.S.Stage.port_state g.S.Stage.law g.S.Stage.asking g.S.Stage.moves c.args.self.now c.pass.new.self _ _ c.args.w (moved_by (act.Push 0 c.args.e.now) (wire_at c.args.self.now c.args.w)) (arrived (item.Elem c.args.e.now) false) _ _ c.requires.laws c.requires.held.0 c.requires.held.1.1.0 c.pass.ensures.brings (λ none. cc) refl c.pass.ensures.after c.self.view_is c.index-ends.ensures c.self-2.view_is c.index_mut.ensures.value) (subst (λ (t : Tree). Reacts g.S.Stage.port_state g.S.Stage.law g.S.Stage.asking g.S.Stage.moves g.S.Stage.passive g.S.Stage.gone (arrives c.index-ends.result.now.input (item.Elem t)) c.index_mut.result.now c.push_to.new.node (acts_at_once c.in_ok-swift.swift c.push_to.new.e c.push_to.new.acts.items)) c.pass.ensures.same c.in_ok-swift.ensures.reacts).stays

pub returns-clause-answered : goal.returns-clause-answered
returns-clause-answered g c = answered g.S.Stage.port_state g.S.Stage.law g.S.Stage.asking g.S.Stage.moves g.S.Stage.gone g.S.Stage.passive _ _ _ _ _ _ _ _ _ _ (acts_at_once c.in_ok-swift.swift c.push_to.new.e c.push_to.new.acts.items) _ (calling_held g.S.Stage.port_state g.S.Stage.law g.S.Stage.asking g.S.Stage.moves c.args.self.now c.pass.new.self _ _ c.args.w (moved_by (act.Push 0 c.args.e.now) (wire_at c.args.self.now c.args.w)) (arrived (item.Elem c.args.e.now) false) _ _ c.requires.laws c.requires.held.0 c.requires.held.1.1.0 c.pass.ensures.brings (λ none. cc) refl c.pass.ensures.after c.self.view_is c.index-ends.ensures c.self-2.view_is c.index_mut.ensures.value) (subst (λ (t : Tree). Reacts g.S.Stage.port_state g.S.Stage.law g.S.Stage.asking g.S.Stage.moves g.S.Stage.passive g.S.Stage.gone (arrives c.index-ends.result.now.input (item.Elem t)) c.index_mut.result.now c.push_to.new.node (acts_at_once c.in_ok-swift.swift c.push_to.new.e c.push_to.new.acts.items)) c.pass.ensures.same c.in_ok-swift.ensures.reacts).handles (subst (λ (t : Tree). Reacts g.S.Stage.port_state g.S.Stage.law g.S.Stage.asking g.S.Stage.moves g.S.Stage.passive g.S.Stage.gone (arrives c.index-ends.result.now.input (item.Elem t)) c.index_mut.result.now c.push_to.new.node (acts_at_once c.in_ok-swift.swift c.push_to.new.e c.push_to.new.acts.items)) c.pass.ensures.same c.in_ok-swift.ensures.reacts).pulls (subst (λ (t : Tree). Reacts g.S.Stage.port_state g.S.Stage.law g.S.Stage.asking g.S.Stage.moves g.S.Stage.passive g.S.Stage.gone (arrives c.index-ends.result.now.input (item.Elem t)) c.index_mut.result.now c.push_to.new.node (acts_at_once c.in_ok-swift.swift c.push_to.new.e c.push_to.new.acts.items)) c.pass.ensures.same c.in_ok-swift.ensures.reacts).grows (subst (λ (t : Tree). Reacts g.S.Stage.port_state g.S.Stage.law g.S.Stage.asking g.S.Stage.moves g.S.Stage.passive g.S.Stage.gone (arrives c.index-ends.result.now.input (item.Elem t)) c.index_mut.result.now c.push_to.new.node (acts_at_once c.in_ok-swift.swift c.push_to.new.e c.push_to.new.acts.items)) c.pass.ensures.same c.in_ok-swift.ensures.reacts).stays (subst (λ (t : Tree). Reacts g.S.Stage.port_state g.S.Stage.law g.S.Stage.asking g.S.Stage.moves g.S.Stage.passive g.S.Stage.gone (arrives c.index-ends.result.now.input (item.Elem t)) c.index_mut.result.now c.push_to.new.node (acts_at_once c.in_ok-swift.swift c.push_to.new.e c.push_to.new.acts.items)) c.pass.ensures.same c.in_ok-swift.ensures.reacts).none_gone c.answer_at_once.ensures.after c.answer_at_once.ensures.passive
