-- What each wire is told to have carried, and of how many elements its lane was asked.
use Rattle.std.specs.Prelude.{ℕ, ◌+◌, ◌-◌, ◌==◌, if◌then◌else◌, List, [], ◌∷◌, Option, None, Some}
use Rattle.stream_model.specs.Graph.{Edge}
use Rattle.stream_model.specs.declared.outcome.WireCount.{WireCount}
use Rattle.port_core.specs.Cell.{WireState}
use Rattle.interpreter.specs.Island.{state_count}
use Rattle.blue_check.specs.declared.plan.LanePlan.{LanePlan}

-- the number of each wire, and how its connection at the output stands, where the first is wire u
abbrev pub told_from : (ℕ → WireState) → ℕ → List Edge → List (ℕ × WireCount)
told_from near u [] = []
told_from near u (v ∷ vs) = (u, state_count (near u)) ∷ told_from near (u + 1) vs

-- of the wire of a number how many elements its lane was asked for in all, where these were asked of the lanes; 0 where it is no lane
abbrev pub lane_demand : List LanePlan → List ℕ → ℕ → ℕ
lane_demand [] all u = 0
lane_demand (l ∷ ls) [] u = 0
lane_demand (l ∷ ls) (a ∷ more) u = if l.wire == u then a else lane_demand ls more u

-- how many elements passed all wires
abbrev pub all_sent : List WireCount → ℕ
all_sent [] = 0
all_sent (c ∷ cs) = c.sent + all_sent cs

-- of so many elements that were sent on a wire, at least so many were taken off it where it is a lane: all but as many as it has places
abbrev pub off_lane : Option ℕ → ℕ → ℕ
off_lane None sent = 0
off_lane (Some size) sent = sent - size

-- of these wires, by what each was sent, at least so many elements were taken off the lanes
abbrev pub taken_off : List Edge → List WireCount → ℕ
taken_off [] cs = 0
taken_off (v ∷ vs) [] = 0
taken_off (v ∷ vs) (c ∷ cs) = off_lane v.lane c.sent + taken_off vs cs
