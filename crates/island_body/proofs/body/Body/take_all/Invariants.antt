-- The loop of `body::Body::take_all`.
use Rattle.std.proofs.Common.{◌≡◌, ◌≤◌, ◌<◌, ◌+◌, ℕ, length, slice_get}
use Rattle.fused_net.specs.Costs.{Uses}
use Rattle.island_body.specs.Ends.{all_taken, all_finds, AllDone}
use Rattle.island_body.specs.Keeping.{BodyStands, BodyGoes}
use Rattle.island_body.specs.Telling.{WakesOn}
use Rattle.island_body.specs.Moving.{TookNoneBelow, LeftNoneAt}
use Rattle.island_body.proofs.body.Body.take_all.Given as goal

abbrev pub invariant-loop-k : goal.invariant-loop-k
invariant-loop-k g l = record {
  stands : BodyStands l.self;
  served : AllDone l.self.island l.self.ins.items l.self.outs.items;
  ends : length l.self.ins.items ≡ length l.fn.self.ins.items;
  goes : BodyGoes l.fn.self l.self;
  wakes : WakesOn l.fn.self l.self;
  uses : Uses l.fn.self.island.net l.self.island.net 0;
  less : l.used ≤ l.limit;
  took : all_taken l.self.ins.items ≡ all_taken l.fn.self.ins.items + l.used;
  finds : all_finds l.self.outs.items ≡ all_finds l.fn.self.outs.items;
  rest : (l.self.island.used ≡ l.fn.self.island.used) × (l.self.spent ≡ l.fn.self.spent);
  none : l.used ≡ 0 → 1 ≤ l.limit → TookNoneBelow l.fn.self l.self l.k;
  outs : l.self.outs ≡ l.fn.self.outs;
  above : (j : ℕ) → l.k ≤ j → slice_get l.self.ins.items j ≡ slice_get l.fn.self.ins.items j;
  last : l.used < l.limit → (j : ℕ) → j < l.k → LeftNoneAt l.fn.self.ins.items l.self.ins.items j;
}
