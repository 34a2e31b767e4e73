-- What does the work of a linear stage, in the words of the model.
use Rattle.std.specs.Prelude.{◌≡◌, Bool, true}
use Rattle.stream_model.specs.Linear.{Work}
use Rattle.step_work.specs.Tasks.{work_in}
use Rattle.stage_linear.specs.Plugs.{plug_work, StaysOn}
use Rattle.step_work.specs.declared.task.LinearReaction.{LinearReaction}
use Rattle.stage_linear.specs.declared.worker.Worker.{Worker}
use Rattle.stage_linear.specs.declared.worker.Worker.TheVariants.{Plain, Plug}

-- the work in the words of the model, of a plug or of any other
abbrev pub work_by : {L B : Type 0} → Worker L B → Work
work_by (Plain t) = work_in t
work_by (Plug s) = plug_work s

-- its plug, where it has one, may be called
abbrev pub ready_by : {L B : Type 0} → Worker L B → Bool
ready_by (Plain t) = true
ready_by (Plug s) = s.running

-- its plug, where it has one, may be called
abbrev pub CanTake : {L B : Type 0} → Worker L B → Type 0
CanTake k = ready_by k ≡ true

-- it may still be called, where the stage goes on
abbrev pub GoesOnReady : {L B : Type 0} → Worker L B → LinearReaction → Type 0
GoesOnReady k o = StaysOn (ready_by k) o
