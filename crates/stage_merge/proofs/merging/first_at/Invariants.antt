use Rattle.std.proofs.Common.{◌≡◌, take, None}
use Rattle.stage_merge.specs.Mergings.{first_queued}
use Rattle.stage_merge.proofs.merging.first_at.Given as goal

abbrev pub invariant-loop-place : goal.invariant-loop-place
invariant-loop-place l = first_queued l.m (take l.place l.queue.items) ≡ None
