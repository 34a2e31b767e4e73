-- Room for what a call appends: two actions for each port of its stage.
use Rattle.std.specs.Prelude.{ℕ, ◌+◌, ◌*◌, ◌≤◌, List, length}
use Rattle.port_core.specs.View.{View}
use Rattle.port_core.specs.Call.{Call, CallAllowed}

-- two for each port
-- Choice: docs/DECISIONS.md#room-by-ports
abbrev pub acts_for : View → ℕ
acts_for v = 2 * (length v.ins + length v.outs)

-- the call may come, and there is room for what it appends
abbrev pub HasRoom : Call → (View → Type 0) → ℕ → Type 0
HasRoom call PortState room = (v : View) × (CallAllowed call v × (PortState v × (acts_for v ≤ room)))
