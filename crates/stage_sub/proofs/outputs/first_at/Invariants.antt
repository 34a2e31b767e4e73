use Rattle.std.proofs.Common.{◌≡◌, take, None}
use Rattle.stage_sub.specs.Picking.{first_kept}
use Rattle.stage_sub.proofs.outputs.first_at.Given as goal

abbrev pub invariant-loop-place : goal.invariant-loop-place
invariant-loop-place l = first_kept l.port (take l.place l.queue.items) ≡ None
