-- The loop of `engine::Engine::start`.
use Rattle.std.proofs.Common.{◌≡◌, ◌≤◌, map}
use Rattle.fused_net.specs.Laws.{Starting, NetGoesOn, AllKept}
use Rattle.fused_net.specs.Costs.{all_asks}
use Rattle.fused_net.specs.Outside.{StandsStill}
use Rattle.fused_net.proofs.engine.Engine.start.Given as goal

abbrev pub invariant-loop-n : goal.invariant-loop-n
invariant-loop-n g l = Starting g.S.Stage.port_state g.S.Stage.law g.S.Stage.asking g.S.Stage.moves g.S.Stage.fresh l.self l.n × NetGoesOn l.initial.self l.self × (all_asks l.self ≤ all_asks l.initial.self) × (l.acts ≡ l.initial.acts) × (map g.S.Stage.gone l.self.nodes ≡ map g.S.Stage.gone l.initial.self.nodes) × AllKept g.S.Stage.keeps l.initial.self.firsts l.self.nodes × StandsStill g.S.Stage.passive l.initial.self l.self
