-- A write that failed behind bytes that were put.
use Rattle.std.proofs.Common.{◌≡◌, ℕ, ◌<◌, ◌≤◌, List, ◌∙◌, arith}
use Rattle.stream_io.specs.Counts.{Rose}
use Rattle.stream_io.specs.State.{DrainState}
use Rattle.stream_io.specs.Putting.{Puts}
use Rattle.nodes.specs.Sink.{PutsFirst}

pub puts_short : (s t u : DrainState) (bytes : List ℕ) → Puts s t bytes → u.holds ≡ t.holds → Rose t.faults u.faults → t.faults ≤ u.faults → u.name ≡ t.name → PutsFirst s u bytes
puts_short s t u bytes p holds rose stays name = record {
  holds = holds ∙ p.holds;
  faults = let same : t.faults ≡ s.faults = p.faults in λ h. let more : t.faults < u.faults = rose h in omega (arith, same, more);
  stays = let same : t.faults ≡ s.faults = p.faults in omega (arith, same, stays);
  name = name ∙ p.name;
}
