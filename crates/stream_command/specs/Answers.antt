-- What the command answers and leaves, by what its words ask for.
use Rattle.std.specs.Prelude.{◌≡◌, ◌≢◌, ℕ, ◌⊎◌, IsTrue, List, Option, Some, None}
use Rattle.stream_io.specs.Counts.{GrewAtMost}
use Rattle.stream_io.specs.State.{FolderState}
use Rattle.run_report.specs.Answer.{Answer}
use Rattle.run_report.specs.declared.outcome.Status.{Status}
use Rattle.run_report.specs.declared.outcome.Status.TheVariants as status
use Rattle.run_report.specs.Asking.{Asked}
use Rattle.run_report.specs.Generated.{Generates, MissesInputFile, FailsAtFile, StopsGenerating}
use Rattle.stream_command.specs.Outcome.{Blank, Told, Causes, SinksOf, IsValid, RoseNowhere, RanWithoutFault, plan_limit}
use Rattle.stream_io.specs.Text.{text_limit}
use Rattle.stream_command.specs.Asked.{Plugged}

-- no command: nothing is touched. Want of memory may be told in place of the usage.
pub record IsNoCommand (a : Answer) (old new : FolderState) : Type 0 where
  pub status : (a.status ≡ status.Usage) ⊎ (a.status ≡ status.NoMemory)
  pub blank : Blank a
  pub same : new ≡ old

-- the blueprint of a file was run, or the call ended before
pub record RunsFile (p : Plugged) (file : List ℕ) (trace replay : Option (List ℕ)) (turns : ℕ) (a : Answer) (old new : FolderState) : Type 0 where
  pub tells : IsTrue new.tells → IsTrue old.tells
  pub told : IsTrue old.tells → Told p a (record { file = file; trace = trace; replay = replay; turns = turns }) old new
  pub complete : IsTrue old.tells → IsValid p file trace replay old → RoseNowhere old new → RanWithoutFault a.status
  pub causes : Causes p a.status a file trace replay turns old new
  pub sinks : SinksOf a.status a trace
  pub no_usage : a.status ≡ status.Usage → ⊥
  pub reads : replay ≢ Some file → GrewAtMost (old.read file) text_limit (new.read file)
  pub reads_moves : (t : List ℕ) → replay ≡ Some t → t ≢ file → GrewAtMost (old.read t) plan_limit (new.read t)

-- why the generator ended the call, and what it left
abbrev pub StopsBefore : Status → ℕ → FolderState → FolderState → Type 0
StopsBefore (status.Missing name) n old new = MissesInputFile old new n name
StopsBefore status.WriteFault n old new = FailsAtFile old new n
StopsBefore status.NoMemory n old new = StopsGenerating old new n
StopsBefore _ n old new = ⊥

-- The generator ended the call, and nothing was run.
pub record EndsGenerating (n : ℕ) (a : Answer) (old new : FolderState) : Type 0 where
  pub blank : Blank a
  pub stops : StopsBefore a.status n old new

-- The files were generated, and then the blueprint was run. Between the two each generated file holds its text and every other file is
-- as before, and no count rose; this is told wherever the folder still tells its files after the run, since it tells them then in between.
pub record GeneratesAndRuns (p : Plugged) (n : ℕ) (file : List ℕ) (trace replay : Option (List ℕ)) (turns : ℕ) (a : Answer)
    (old new : FolderState) : Type 0 where
  pub between : FolderState
  pub generates : Generates old between n
  pub runs : RunsFile p file trace replay turns a between new

-- the command with a file, or with lines to generate
abbrev pub AnswersTo : Plugged → Option ℕ → Asked → Answer → FolderState → FolderState → Type 0
AnswersTo p None c a old new = RunsFile p c.file c.trace c.replay c.turns a old new
AnswersTo p (Some n) c a old new = EndsGenerating n a old new ⊎ GeneratesAndRuns p n c.file c.trace c.replay c.turns a old new

-- what is answered and left
abbrev pub AnswersCommand : Plugged → Option Asked → Answer → FolderState → FolderState → Type 0
AnswersCommand p None a old new = IsNoCommand a old new
AnswersCommand p (Some c) a old new = AnswersTo p c.generated c a old new

-- The command's blueprint is valid: that of its file, in a folder that tells its files before the call; or, where lines are generated,
-- that of its file in whatever folder the generator leaves, and the folder tells its files after the call.
abbrev pub IsValidFor : Plugged → Option ℕ → List ℕ → Option (List ℕ) → Option (List ℕ) → FolderState → FolderState → Type 0
IsValidFor p None file trace replay old new = IsTrue old.tells × IsValid p file trace replay old
IsValidFor p (Some n) file trace replay old new = IsTrue new.tells × ((between : FolderState) → Generates old between n → IsTrue between.tells
    → IsValid p file trace replay between)
