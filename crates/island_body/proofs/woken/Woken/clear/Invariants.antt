-- The loop of `woken::Woken::clear`.
use Rattle.std.proofs.Common.{◌≡◌, ◌+◌, length, vec_capacity}
use Rattle.island_body.specs.Waked.{MarkedFrom}
use Rattle.island_body.proofs.woken.Woken.clear.Given as goal

abbrev pub invariant-loop-island : goal.invariant-loop-island
invariant-loop-island l = record {
  marked : MarkedFrom l.self-inside.least l.self-inside.islands.items l.self-inside.marks.items (vec_capacity l.self-inside.islands);
  least : l.self-inside.least ≡ l.fn.self.least;
  size : l.self-inside.least + length l.self-inside.marks.items ≡ l.fn.self.size;
}

abbrev pub decreases-loop-island : goal.decreases-loop-island
decreases-loop-island l = length l.self-inside.islands.items
