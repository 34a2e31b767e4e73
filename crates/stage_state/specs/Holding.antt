-- What a buffer does once an element went out.
use Rattle.std.specs.Prelude.{◌<◌, ℕ, Bool, true, false, if◌then◌else◌, List, [], ◌∷◌, length, Option, Some, None}
use Rattle.elem_core.specs.Tree.{Tree}
use Rattle.port_core.specs.declared.act.Act.{Act}
use Rattle.port_core.specs.declared.act.Act.TheVariants.{Pull, Complete}
use Rattle.stage_core.specs.declared.phase.Phase.TheVariants.{Closed}
use Rattle.step_work.specs.declared.ending.StateEnd.{StateEnd}
use Rattle.step_work.specs.declared.ending.StateEnd.TheVariants.{Lasting, Ended, Failed}
use Rattle.stage_state.specs.States.{Logic}

-- nothing is held
abbrev pub is_none : List Tree → Bool
is_none [] = true
is_none (t ∷ l) = false

-- there is room for one more
abbrev RoomBy : Option ℕ → List Tree → Type 0
RoomBy None p = ⊥
RoomBy (Some n) p = length p < n

-- a buffer has room for one more element
abbrev pub HasRoom : Logic → Type 0
HasRoom l = RoomBy l.size l.pending

-- the buffer ends with the last of what it holds, where its input has ended
abbrev gone_by : StateEnd → Bool → Logic → Logic
gone_by Lasting none l = l
gone_by Ended true l = record l { phase = Closed }
gone_by Ended false l = l
gone_by (Failed c) none l = l

-- the buffer once an element went out
abbrev pub gone_on : Logic → Logic
gone_on l = gone_by l.ending (is_none l.pending) l

-- its actions then: it completes with the last, where its input has ended, and else asks where it had no room before
abbrev go_by : StateEnd → Bool → Bool → List Act
go_by Lasting none was_full = if was_full then Pull 0 ∷ [] else []
go_by Ended true was_full = Complete 0 ∷ []
go_by Ended false was_full = []
go_by (Failed c) none was_full = []

-- its actions then
abbrev pub go_on_acts : Logic → Bool → List Act
go_on_acts l was_full = go_by l.ending (is_none l.pending) was_full
