-- The loop of `run::counts_of`.
use Rattle.std.proofs.Common.{◌≡◌, ◌≤◌, length, map, take, vec_capacity}
use Rattle.island_runs.proofs.run.counts_of.Given as goal

-- of the wires so far is told what they carried, and there is room for those of all
abbrev pub invariant-loop-wire : goal.invariant-loop-wire
invariant-loop-wire l = (l.counts.items ≡ map (λ wire. wire.1) (take l.wire-index l.wires)) × (length l.wires ≤ vec_capacity l.counts)
