-- What a graph's wires have cost and what their ends have heard, and how both are tied to the units that were used: each event is one unit.
use Rattle.std.specs.Prelude.{ℕ, zero, suc, ◌+◌, ◌≤◌, length}
use Rattle.port_core.specs.Ring.{is_queued}
use Rattle.port_core.specs.Counts.{spent, asks, events_heard}
use Rattle.fused_net.specs.Net.{Net, wire_at}

-- f 0 + .. + f (n - 1)
abbrev pub sum_below : (ℕ → ℕ) → ℕ → ℕ
sum_below f zero = 0
sum_below f (suc n) = sum_below f n + f n

module _ {N : Type 0} where
  -- what all wires have cost
  abbrev pub total_cost : Net N → ℕ
  total_cost net = sum_below (λ w. spent (wire_at net w).wire (is_queued net.queue w)) (length net.wires)

  -- the pulls that came to outputs, on all wires: one for each element that was pushed, and those that were not answered
  abbrev pub all_asks : Net N → ℕ
  all_asks net = sum_below (λ w. asks (wire_at net w).wire) (length net.wires)

  -- the events that the ends of all wires have heard
  abbrev pub all_heard : Net N → ℕ
  all_heard net = sum_below (λ w. events_heard (wire_at net w)) (length net.wires)

  -- So many units lead from one to the other: each raises the cost, and each brings one pull at most. No event is heard without one.
  pub record Uses (old new : Net N) (units : ℕ) : Type 0 where
    pub least : total_cost old + units ≤ total_cost new
    pub most : all_asks new ≤ all_asks old + units
    pub each : all_heard new ≤ all_heard old + units
