-- What a stage that keeps does, and how it stands, once an element or the end of its input came to this.
use Rattle.std.specs.Prelude.{ℕ, Bool, true, false, List, [], ◌∷◌, Option, Some, None, Result, Ok, Err}
use Rattle.elem_core.specs.Tree.{Tree}
use Rattle.elem_core.specs.declared.why.Why.{Why}
use Rattle.elem_core.specs.declared.why.Cause.{Cause}
use Rattle.port_core.specs.declared.act.Act.{Act}
use Rattle.port_core.specs.declared.act.Act.TheVariants.{Pull, Push, Complete, FailOut, Cancel}
use Rattle.stream_model.specs.Linear.{Work, Stage}
use Rattle.stage_core.specs.declared.phase.Phase.TheVariants.{Closed}
use Rattle.step_work.specs.declared.ending.StateEnd.{StateEnd}
use Rattle.step_work.specs.declared.ending.StateEnd.TheVariants.{Lasting, Ended, Failed}
use Rattle.step_work.specs.declared.keeping.StateReaction.{StateReaction}
use Rattle.step_work.specs.declared.keeping.StateReaction.TheVariants.{Gives, Asks, Fails}
use Rattle.stage_state.specs.States.{Logic}

-- the stage with this work
abbrev pub working : Logic → Work → Logic
working l w = record l { stage = record l.stage { work = w } }

-- the stage that took n elements
abbrev pub counted : Logic → ℕ → Logic
counted l n = record l { stage = record l.stage { taken = n } }

-- the stage once its n-th element came to this
abbrev pub answered : Logic → ℕ → StateReaction → Logic
answered l n (Gives u) = record (counted l n) { asked = false }
answered l n Asks = counted l n
answered l n (Fails why) = record l { phase = Closed }

-- the cause of a failure, by the number of the element to blame
abbrev pub cause_at : Stage → ℕ → Why → Cause
cause_at s n why = record { stage = s.node; nth = n; why = why }

-- its actions then
abbrev pub answer_acts : Logic → ℕ → StateReaction → List Act
answer_acts l n (Gives u) = Push 0 u ∷ []
answer_acts l n Asks = Pull 0 ∷ []
answer_acts l n (Fails why) = FailOut 0 (cause_at l.stage n why) ∷ Cancel 0 ∷ []

-- by whether its output is asked, the last value goes out and the stage ends, or it is owed
abbrev last_by : Bool → Logic → Tree → Logic
last_by true l u = record l { phase = Closed; asked = false }
last_by false l u = record l { pending = u ∷ []; ending = Ended }

-- its actions then
abbrev last_acts_by : Bool → Tree → List Act
last_acts_by true u = Push 0 u ∷ Complete 0 ∷ []
last_acts_by false u = []

-- the stage once the end of its input came to this
abbrev pub finished : Logic → Result (Option Tree) Why → Logic
finished l (Ok None) = record l { phase = Closed }
finished l (Ok (Some u)) = last_by l.asked l u
finished l (Err why) = record l { phase = Closed }

-- its actions then
abbrev pub finish_acts : Logic → Result (Option Tree) Why → List Act
finish_acts l (Ok None) = Complete 0 ∷ []
finish_acts l (Ok (Some u)) = last_acts_by l.asked u
finish_acts l (Err why) = FailOut 0 (cause_at l.stage 0 why) ∷ []

-- the stage once it gave what it owed
abbrev pub settled : StateEnd → Logic → Logic
settled Lasting l = l
settled Ended l = record l { phase = Closed }
settled (Failed c) l = record l { phase = Closed }

-- its actions then, by how its input stands: it completes, fails or goes on
abbrev pub settle_acts : StateEnd → List Act
settle_acts Lasting = []
settle_acts Ended = Complete 0 ∷ []
settle_acts (Failed c) = FailOut 0 c ∷ []
