-- The loop of `boundary::OutputBoundary::serve`.
use Rattle.std.proofs.Common.{◌≡◌, ◌≤◌, ◌<◌, true, false, length}
use Rattle.fused_net.specs.Costs.{Uses}
use Rattle.lane_core.specs.Ends.{sent, seen_count, finds, IsSameOut}
use Rattle.interpreter.specs.Boundary.{Leaves, way_out, cell_out}
use Rattle.island_body.specs.Beside.{Beside, out_node, waiting}
use Rattle.island_body.specs.Sending.{Sends}
use Rattle.island_body.proofs.output.OutputBoundary.serve.Given as goal

abbrev pub invariant-loop-sent : goal.invariant-loop-sent
invariant-loop-sent g l =
    Sends l.self.lane l.island l.self.wire
    × (l.self.wire ≡ l.initial.self.wire)
    × IsSameOut l.initial.self.lane l.self.lane
    × (seen_count l.self.lane ≡ seen_count l.initial.self.lane)
    × (finds l.self.lane ≡ finds l.initial.self.lane)
    × Leaves l.island l.self.wire
    × (l.island.broken ≡ false)
    × Beside (way_out l.initial.island l.initial.self.wire) (out_node l.initial.island l.initial.self.wire) l.initial.island l.island
    × (cell_out l.island l.initial.self.wire ≡ cell_out l.initial.island l.initial.self.wire)
    × (length (sent l.initial.self.lane) ≤ length (sent l.self.lane))
    × (l.sent ≡ true → length (sent l.initial.self.lane) < length (sent l.self.lane))
    × (l.sent ≡ false → sent l.self.lane ≡ sent l.initial.self.lane)
    × Uses l.initial.island.net l.island.net 0

-- each turn hands out one of those that wait
abbrev pub decreases-loop-sent : goal.decreases-loop-sent
decreases-loop-sent g l = length (waiting l.island l.self.wire)
