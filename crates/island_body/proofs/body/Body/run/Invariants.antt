-- The loop of `body::Body::run`.
use Rattle.std.proofs.Common.{◌≡◌, ◌≤◌, ◌+◌, ◌-◌, ◌*◌, [], cond}
use Rattle.fused_net.specs.Costs.{total_cost}
use Rattle.island_body.specs.Ends.{all_taken, all_finds, AllDone}
use Rattle.island_body.specs.Keeping.{BodyStands, BodyGoes, is_pending}
use Rattle.island_body.specs.Telling.{WakesOn}
use Rattle.island_body.specs.Moving.{KeepsLooks}
use Rattle.island_body.proofs.body.Body.run.Given as goal

abbrev pub invariant-loop-alloc : goal.invariant-loop-alloc
invariant-loop-alloc g l = record {
  stands : BodyStands l.self;
  served : AllDone l.self.island l.self.ins.items l.self.outs.items;
  goes : BodyGoes l.fn.self l.self;
  wakes : WakesOn l.fn.self l.self;
  looks : KeepsLooks l.fn.self l.self;
  more : l.fn.used ≤ l.count;
  less : l.count ≤ l.limit;
  uses : total_cost l.fn.self.island.net + l.count ≤ total_cost l.self.island.net + l.fn.used;
  used : l.self.island.used + l.fn.used ≡ l.fn.self.island.used + l.count;
  costs : (all_taken l.self.ins.items ≡ all_taken l.fn.self.ins.items) × (all_finds l.self.outs.items ≡ all_finds l.fn.self.outs.items) × (l.self.spent ≡ l.fn.self.spent);
  same : l.count ≡ l.fn.used → (l.self.ins ≡ l.fn.self.ins) × (l.self.outs ≡ l.fn.self.outs) × (l.self.island.net.queue ≡ [] → l.fn.self.island.net.queue ≡ []);
}

abbrev pub decreases-loop-alloc : goal.decreases-loop-alloc
decreases-loop-alloc g l = (l.limit - l.count) * 2 + cond (is_pending l.self) 0 1
