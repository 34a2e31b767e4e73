-- The loop of `engine::Engine::execute`.
use Rattle.std.proofs.Common.{◌≡◌}
use Rattle.fused_net.specs.Hand.{done_in_hand, IsHeld}
use Rattle.fused_net.specs.Events.{EventsLead}
use Rattle.fused_net.proofs.engine.Engine.execute.Given as goal

abbrev pub invariant-loop-used : goal.invariant-loop-used
invariant-loop-used g l = EventsLead g.S.Stage.port_state g.S.Stage.law g.S.Stage.asking g.S.Stage.moves g.S.Stage.gone g.S.Stage.passive l.fn.self (done_in_hand l.hand l.e l.self) l.used × (l.acts ≡ l.initial.acts) × IsHeld l.hand l.self
