-- The outputs that a linear stage holds, and gives one by one, and what it does once it gave the last of them.
use Rattle.std.specs.Prelude.{◌≡◌, ⊤, ℕ, Bool, List, [], ◌∷◌, Option, Some, None}
use Rattle.elem_core.specs.Tree.{Tree}
use Rattle.port_core.specs.declared.act.Act.{Act}
use Rattle.port_core.specs.declared.act.Act.TheVariants.{Pull, Push, Complete, FailOut, Cancel}
use Rattle.stream_model.specs.Machine.{Finish, adds, refuses}
use Rattle.stage_core.specs.declared.phase.Phase.{Phase}
use Rattle.stage_core.specs.declared.phase.Phase.TheVariants.{Open, Closed}
use Rattle.stage_linear.specs.declared.course.Course.{Course}
use Rattle.stage_linear.specs.declared.course.Course.TheVariants.{Waits, Idles, Leaves, Closes, Ends}
use Rattle.stage_linear.specs.States.{Logic, counted, skipped}

-- what is held; where there is no list yet, nothing is
abbrev pub outputs_in : Option (List Tree) → List Tree
outputs_in None = []
outputs_in (Some l) = l

-- ---- what one element gave

-- the first goes out, and the others are held; where there is none the stage asks again
abbrev pub spread : Logic → ℕ → List Tree → Logic
spread l n [] = skipped l n
spread l n (t ∷ l₁) = record (counted l n) { pending = l₁ }

-- its actions then
abbrev pub first_acts : List Tree → List Act
first_acts [] = Pull 0 ∷ []
first_acts (t ∷ l) = Push 0 t ∷ []

-- the same, and it is done: it ends with the last of them
abbrev pub leaving : Logic → ℕ → List Tree → Logic
leaving l n [] = record l { phase = Closed }
leaving l n (t ∷ []) = record l { phase = Closed }
leaving l n (t ∷ u ∷ l₁) = record (counted l n) { pending = u ∷ l₁; course = Leaves }

-- its actions then
abbrev pub leaving_acts : List Tree → List Act
leaving_acts [] = Complete 0 ∷ Cancel 0 ∷ []
leaving_acts (t ∷ []) = Push 0 t ∷ Complete 0 ∷ Cancel 0 ∷ []
leaving_acts (t ∷ u ∷ l) = Push 0 t ∷ []

-- ---- the last outputs, once its input has ended and nothing is held

-- where its output is asked, the first goes out; the others are held
abbrev pub ended_with : Logic → Course → List Tree → Logic
ended_with l c [] = record l { phase = Closed }
ended_with l Waits (t ∷ []) = record l { phase = Closed }
ended_with l Waits (t ∷ u ∷ l₁) = record l { pending = u ∷ l₁; course = Ends }
ended_with l _ (t ∷ l₁) = record l { pending = t ∷ l₁; course = Ends }

-- its actions then
abbrev pub ended_acts : Course → List Tree → List Act
ended_acts c [] = Complete 0 ∷ []
ended_acts Waits (t ∷ []) = Push 0 t ∷ Complete 0 ∷ []
ended_acts Waits (t ∷ u ∷ l) = Push 0 t ∷ []
ended_acts _ (t ∷ l) = []

-- the stage once its input's end came to this: the outputs that it adds are given, or it fails
abbrev pub ended_by : Logic → Finish Tree → Logic
ended_by l (adds us) = ended_with l l.course us
ended_by l (refuses c) = record l { phase = Closed }

-- its actions then
abbrev pub closed_acts : Logic → Finish Tree → List Act
closed_acts l (adds us) = ended_acts l.course us
closed_acts l (refuses c) = FailOut 0 c ∷ []

-- ---- once the first of what is held went out

-- it is done with the last, and this is what its input's end adds then
abbrev pub behind_last : Logic → Course → Finish Tree → Logic
behind_last l Leaves f = record l { phase = Closed }
behind_last l Closes f = ended_by l f
behind_last l Ends f = record l { phase = Closed }
behind_last l _ f = l

-- its actions then
abbrev pub behind_last_acts : Logic → Course → Finish Tree → List Act
behind_last_acts l Leaves f = Complete 0 ∷ Cancel 0 ∷ []
behind_last_acts l Closes f = closed_acts l f
behind_last_acts l Ends f = Complete 0 ∷ []
behind_last_acts l _ f = []

-- the stage with these outputs left: it goes on where there are some, and else does what comes behind the last
abbrev given_on_at : Logic → List Tree → Finish Tree → Logic
given_on_at l [] f = behind_last l l.course f
given_on_at l (t ∷ p) f = l

-- its actions then
abbrev given_acts_at : Logic → List Tree → Finish Tree → List Act
given_acts_at l [] f = behind_last_acts l l.course f
given_acts_at l (t ∷ p) f = []

-- the stage once an output went out, by what is left
abbrev pub given_on_from : Logic → Finish Tree → Logic
given_on_from l f = given_on_at l l.pending f

-- its actions behind that output
abbrev pub last_acts : Logic → Finish Tree → List Act
last_acts l f = given_acts_at l l.pending f

-- its plug may be called as before, where the stage goes on to call it
abbrev stays_ready : Phase → Course → Bool → Bool → Type 0
stays_ready Open Waits b c = c ≡ b
stays_ready Open Idles b c = c ≡ b
stays_ready Open Closes b c = c ≡ b
stays_ready _ _ b c = ⊤

-- its plug may be called as before, where the stage goes on to call it
abbrev pub StaysReady : Logic → Logic → Type 0
StaysReady old new = stays_ready new.phase new.course old.ready new.ready
