-- The loop of `body::Body::take_from`.
use Rattle.std.proofs.Common.{◌≡◌, ◌≤◌, ◌+◌, ◌-◌, length}
use Rattle.fused_net.specs.Costs.{Uses}
use Rattle.island_body.specs.Ends.{all_taken, all_finds, AllDone}
use Rattle.island_body.specs.Keeping.{BodyStands, BodyGoes}
use Rattle.island_body.specs.Telling.{WakesOn}
use Rattle.island_body.specs.Moving.{OnlyIn}
use Rattle.island_body.proofs.body.Body.take_from.Given as goal

abbrev pub invariant-loop-count : goal.invariant-loop-count
invariant-loop-count g l = record {
  stands : BodyStands l.self;
  served : AllDone l.self.island l.self.ins.items l.self.outs.items;
  ends : length l.self.ins.items ≡ length l.fn.self.ins.items;
  goes : BodyGoes l.fn.self l.self;
  wakes : WakesOn l.fn.self l.self;
  only : OnlyIn l.fn.self l.self l.k;
  uses : Uses l.fn.self.island.net l.self.island.net 0;
  more : l.fn.used ≤ l.count;
  less : l.count ≤ l.limit;
  took : all_taken l.self.ins.items + l.fn.used ≡ all_taken l.fn.self.ins.items + l.count;
  finds : all_finds l.self.outs.items ≡ all_finds l.fn.self.outs.items;
  rest : (l.self.island.used ≡ l.fn.self.island.used) × (l.self.spent ≡ l.fn.self.spent);
  same : l.count ≡ l.fn.used → l.self ≡ l.fn.self;
}

abbrev pub decreases-loop-count : goal.decreases-loop-count
decreases-loop-count g l = l.limit - l.count
