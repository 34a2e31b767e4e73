use Rattle.std.proofs.Common.{◌≡◌, ◌-◌, ◌≤◌, length}
use Rattle.stage_sub.specs.Groups.{MayCallAll}
use Rattle.stage_sub.proofs.Keying.{Half}
use Rattle.stage_sub.proofs.keyed.end_groups.Given as goal

abbrev pub invariant-loop-i : goal.invariant-loop-i
invariant-loop-i g l = ((l.i ≤ length l.slots.items) × (length l.slots.items ≡ length l.fn.slots.items)) × (MayCallAll g.C.Chain.rest g.C.Chain.is_open l.slots.items × Half g.C.Chain.rest g.C.Chain.is_open l.fn.slots.items l.fn.outs l.i l.slots.items l.outs)

abbrev pub decreases-loop-i : goal.decreases-loop-i
decreases-loop-i g l = length l.slots.items - l.i
