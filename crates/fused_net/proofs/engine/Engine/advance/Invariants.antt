-- The loop of `engine::Engine::advance`.
use Rattle.std.proofs.Common.{◌≡◌, None}
use Rattle.fused_net.specs.Hand.{done_in_hand, IsHeld}
use Rattle.fused_net.specs.Events.{EventsLead}
use Rattle.fused_net.specs.Outside.{Untouched}
use Rattle.fused_net.specs.declared.hand.Hand.TheVariants as hands
use Rattle.fused_net.proofs.engine.Engine.advance.Given as goal

abbrev pub invariant-loop-used : goal.invariant-loop-used
invariant-loop-used g l = EventsLead g.S.Stage.port_state g.S.Stage.law g.S.Stage.asking g.S.Stage.moves g.S.Stage.gone g.S.Stage.passive l.fn.self (done_in_hand l.hand l.e l.self) l.used × (l.acts ≡ l.initial.acts) × IsHeld l.hand l.self × Untouched g.S.Stage.passive None l.fn.self (done_in_hand l.hand l.e l.self) × (l.used ≡ 0 → (l.hand ≡ hands.Empty) × (l.self ≡ l.fn.self))
