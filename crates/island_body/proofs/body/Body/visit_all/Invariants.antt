-- The loop of `body::Body::visit_all`.
use Rattle.std.proofs.Common.{◌≡◌, ◌≤◌, ◌<◌, ◌+◌, ℕ, length, slice_get}
use Rattle.fused_net.specs.Costs.{Uses}
use Rattle.island_body.specs.Ends.{all_taken, all_finds, AllDone}
use Rattle.island_body.specs.Keeping.{BodyStands, BodyGoes}
use Rattle.island_body.specs.Telling.{WakesOn}
use Rattle.island_body.specs.Moving.{FoundNoneBelow, SawAllAt}
use Rattle.island_body.proofs.body.Body.visit_all.Given as goal

abbrev pub invariant-loop-k : goal.invariant-loop-k
invariant-loop-k g l = record {
  stands : BodyStands l.self;
  served : AllDone l.self.island l.self.ins.items l.self.outs.items;
  ends : length l.self.outs.items ≡ length l.fn.self.outs.items;
  goes : BodyGoes l.fn.self l.self;
  wakes : WakesOn l.fn.self l.self;
  uses : Uses l.fn.self.island.net l.self.island.net 0;
  more : l.fn.used ≤ l.count;
  less : l.count ≤ l.limit;
  taken : all_taken l.self.ins.items ≡ all_taken l.fn.self.ins.items;
  finds : all_finds l.self.outs.items + l.fn.used ≡ all_finds l.fn.self.outs.items + l.count;
  rest : (l.self.island.used ≡ l.fn.self.island.used) × (l.self.spent ≡ l.fn.self.spent);
  none : l.count ≡ l.fn.used → l.fn.used < l.limit → FoundNoneBelow l.fn.self l.self l.k;
  ins : l.self.ins ≡ l.fn.self.ins;
  above : (j : ℕ) → l.k ≤ j → slice_get l.self.outs.items j ≡ slice_get l.fn.self.outs.items j;
  last : l.count < l.limit → (j : ℕ) → j < l.k → SawAllAt l.fn.self.outs.items l.self.outs.items j;
}
