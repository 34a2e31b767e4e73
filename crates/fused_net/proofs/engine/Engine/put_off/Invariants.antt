-- The loop of `engine::Engine::put_off`.
use Rattle.std.proofs.Common.{◌≡◌, ℕ, ◌<◌, None, map}
use Rattle.fused_net.specs.Laws.{Settled, NetGoesOn}
use Rattle.fused_net.specs.Costs.{Uses}
use Rattle.fused_net.specs.Outside.{StandsStill, Untouched}
use Rattle.fused_net.specs.Poking.{AtNode}
use Rattle.fused_net.proofs.engine.Engine.put_off.Given as goal

abbrev pub invariant-loop-n : goal.invariant-loop-n
invariant-loop-n g l = record {
  laws : Settled g.S.Stage.port_state g.S.Stage.law g.S.Stage.asking g.S.Stage.moves l.self;
  on : NetGoesOn l.fn.self l.self;
  uses : Uses l.fn.self l.self 0;
  gone : map g.S.Stage.gone l.self.nodes ≡ map g.S.Stage.gone l.fn.self.nodes;
  still : StandsStill g.S.Stage.passive l.fn.self l.self;
  untouched : Untouched g.S.Stage.passive None l.fn.self l.self;
  done : (k : ℕ) → k < l.n → AtNode l.self k (λ x. g.S.Stage.late x ≡ 0);
}
