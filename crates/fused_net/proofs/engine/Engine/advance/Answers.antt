-- The goals of `engine::Engine::advance` that the search leaves.
use Rattle.std.proofs.Common.{rules, arith, false}
use Rattle.fused_net.specs.Hand.{done_in_hand}
use Rattle.fused_net.proofs.Events.{hand_nodes, steps_trans}
use Rattle.fused_net.proofs.Keeping.{of_some, on_err, step_count}
use Rattle.fused_net.proofs.Still.{breaks_aside, untouched_trans, untouched_as, untouched_more}
use Rattle.fused_net.proofs.engine.Engine.advance.Goals as goal

pub returns-in_err-came-clause-breaks : goal.returns-in_err-came-clause-breaks
returns-in_err-came-clause-breaks g c = on_err _ (breaks_aside g.S.Stage.port_state g.S.Stage.law g.S.Stage.asking g.S.Stage.moves g.S.Stage.gone g.S.Stage.passive g.S.Stage.keeps _ (done_in_hand c.loop-used.hand c.loop-used.e c.loop-used.self) _ c.loop-used.invariant.0.laws c.loop-used.invariant.0.on (rw (hand_nodes c.loop-used.hand c.loop-used.e c.loop-used.self) c.in_err-came.ensures.kept) c.loop-used.invariant.0.none_gone c.loop-used.invariant.0.still)

pub returns-in_err-came-clause-count : goal.returns-in_err-came-clause-count
returns-in_err-came-clause-count g c = step_count g.S.Stage.keeps _ (done_in_hand c.loop-used.hand c.loop-used.e c.loop-used.self) _ c.loop-used.invariant.0.on (rw (hand_nodes c.loop-used.hand c.loop-used.e c.loop-used.self) c.in_err-came.ensures.kept)

pub returns-then-is_to_stop-clause-steps : goal.returns-then-is_to_stop-clause-steps
returns-then-is_to_stop-clause-steps g c = rw c.put_down.ensures (steps_trans g.S.Stage.port_state g.S.Stage.law g.S.Stage.asking g.S.Stage.moves g.S.Stage.gone g.S.Stage.passive _ _ _ _ 1 c.loop-used.invariant.0 (of_some _ _ _ c.in-Some.is c.in_ok-came.ensures.steps))

pub returns-then-is_to_stop-clause-still : goal.returns-then-is_to_stop-clause-still
returns-then-is_to_stop-clause-still g c = rw c.put_down.ensures (steps_trans g.S.Stage.port_state g.S.Stage.law g.S.Stage.asking g.S.Stage.moves g.S.Stage.gone g.S.Stage.passive _ _ _ _ 1 c.loop-used.invariant.0 (of_some _ _ _ c.in-Some.is c.in_ok-came.ensures.steps)).still

pub returns-then-is_to_stop-clause-untouched : goal.returns-then-is_to_stop-clause-untouched
returns-then-is_to_stop-clause-untouched g c = rw c.put_down.ensures (untouched_trans g.S.Stage.passive _ _ (done_in_hand c.loop-used.hand c.loop-used.e c.loop-used.self) _ c.loop-used.invariant.0.on.ends c.loop-used.invariant.0.on.ports c.loop-used.invariant.0.still.kinds c.loop-used.invariant.3 (untouched_more g.S.Stage.passive _ _ _ _ (of_some _ _ _ c.in-Some.is c.in_ok-came.ensures.untouched)))

pub loop-used-preserved : goal.loop-used-preserved
loop-used-preserved g c = (
  steps_trans g.S.Stage.port_state g.S.Stage.law g.S.Stage.asking g.S.Stage.moves g.S.Stage.gone g.S.Stage.passive _ _ _ _ 1 c.loop-used.invariant.0 (of_some _ _ _ c.in-Some.is c.in_ok-came.ensures.steps),
  search (rules, arith),
  (of_some _ _ _ c.in-Some.is c.in_ok-came.ensures.held),
  untouched_trans g.S.Stage.passive _ _ (done_in_hand c.loop-used.hand c.loop-used.e c.loop-used.self) _ c.loop-used.invariant.0.on.ends c.loop-used.invariant.0.on.ports c.loop-used.invariant.0.still.kinds c.loop-used.invariant.3 (untouched_as g.S.Stage.passive _ false _ _ _ (c.is_to_stop.ensures c.if-is_to_stop.false) (of_some _ _ _ c.in-Some.is c.in_ok-came.ensures.untouched)),
  search (rules, arith),
)
