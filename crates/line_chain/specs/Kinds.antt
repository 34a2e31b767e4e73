-- What a step of a chain does from its start, in the words of the model.
use Rattle.std.specs.Prelude.{◌≡◌, zero, None, unwrap_or}
use Rattle.step_work.specs.Tasks as tasks
use Rattle.step_work.specs.Keeping as keeping
use Rattle.step_work.specs.declared.ending.StateEnd.{StateEnd}
use Rattle.step_work.specs.declared.ending.StateEnd.TheVariants as ending
use Rattle.stream_model.specs.Linear.{Work, taking, passing, heading, lasting, work_of}
use Rattle.stream_model.specs.declared.kind.Kind.{Kind}
use Rattle.line_chain.specs.declared.kind.StepKind.{StepKind}
use Rattle.line_chain.specs.declared.kind.StepKind.TheVariants.{Plain, Keeps, Passes, First, Last}

-- the work that a step begins with
abbrev pub begun : StepKind → Work
begun (Plain t) = tasks.work_in t
begun (Keeps k) = keeping.begun k
begun Passes = passing
begun First = heading
begun Last = lasting None

-- how a step that begins with this work stands before any element: one that is to pass none has ended
abbrev pub begun_ending : Work → StateEnd
begun_ending (taking zero) = ending.Ended
begun_ending _ = ending.Lasting

-- it does what a step of this kind does
abbrev pub DoesStep : Kind → StepKind → Type 0
DoesStep k s = begun s ≡ unwrap_or (work_of k) passing
