-- The goals of `engine::Engine::execute` that the search leaves.
use Rattle.std.proofs.Common.{rules, arith}
use Rattle.fused_net.specs.Hand.{done_in_hand}
use Rattle.fused_net.proofs.Events.{hand_nodes, steps_trans}
use Rattle.fused_net.proofs.Keeping.{of_some, step_count}
use Rattle.fused_net.proofs.engine.Engine.execute.Goals as goal

pub returns-in_err-came-clause-count : goal.returns-in_err-came-clause-count
returns-in_err-came-clause-count g c = step_count g.S.Stage.keeps _ (done_in_hand c.loop-used.hand c.loop-used.e c.loop-used.self) _ c.loop-used.invariant.0.on (rw (hand_nodes c.loop-used.hand c.loop-used.e c.loop-used.self) c.in_err-came.ensures.kept)

pub loop-used-preserved : goal.loop-used-preserved
loop-used-preserved g c = (steps_trans g.S.Stage.port_state g.S.Stage.law g.S.Stage.asking g.S.Stage.moves g.S.Stage.gone g.S.Stage.passive _ _ _ _ 1 c.loop-used.invariant.0 (of_some _ _ _ c.in-Some.is c.in_ok-came.ensures.steps), search (rules, arith), (of_some _ _ _ c.in-Some.is c.in_ok-came.ensures.held))
