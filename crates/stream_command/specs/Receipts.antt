-- The receipt of the command's run.
use Rattle.std.specs.Prelude.{◌≡◌, ℕ, ◌⊎◌, IsTrue, List, Option, Some, None}
use Rattle.run_report.specs.Asking.{Asked}
use Rattle.run_blueprint.specs.Receipt.{Ran}
use Rattle.run_report.specs.Generated.{Generates}
use Rattle.run_report.specs.Answer.{Answer}
use Rattle.run_report.specs.declared.outcome.Status.{Status}
use Rattle.run_report.specs.declared.outcome.Status.TheVariants as status
use Rattle.stream_io.specs.State.{FolderState}
use Rattle.stream_command.specs.Outcome.{Blank}
use Rattle.stream_command.specs.RunReceipts.{Receipts, RanFile}
use Rattle.stream_command.specs.Asked.{Plugged}

-- as of the run of a file; where files are generated a failed write may end the call before the run, and then nothing is told of one
abbrev pub ReceiptsBy : Option ℕ → Status → Answer → ℕ → Option Ran → Type 0
ReceiptsBy (Some n) status.WriteFault a workers ran = ((ran ≡ None) × Blank a) ⊎ Receipts status.WriteFault workers a.used ran
ReceiptsBy _ s a workers ran = Receipts s workers a.used ran

-- the receipt by the answer, where files may be generated before the run
abbrev pub ReceiptsFor : Option ℕ → Answer → ℕ → Option Ran → Type 0
ReceiptsFor generated a workers ran = ReceiptsBy generated a.status a workers ran

-- of the workers that the words ask for; where they are no command there is none
abbrev pub ReceiptsOf : Option Asked → Answer → Option Ran → Type 0
ReceiptsOf None a ran = ran ≡ None
ReceiptsOf (Some c) a ran = ReceiptsFor c.generated a c.workers ran

-- The islands are those of the blueprint that the generated file says, wherever the folder still tells its files after the run.
pub record RanGenerated (p : Plugged) (n : ℕ) (file : List ℕ) (trace replay : Option (List ℕ)) (ran : Option Ran) (old new : FolderState) : Type 0 where
  pub between : FolderState
  pub generates : Generates old between n
  pub tells : IsTrue new.tells → IsTrue between.tells
  pub islands : IsTrue between.tells → RanFile p between file trace replay ran

-- the islands of the file's blueprint, in a folder that told its files; where the generator ended the call nothing was run
abbrev pub IslandsFor : Plugged → Option ℕ → List ℕ → Option (List ℕ) → Option (List ℕ) → Option Ran → FolderState → FolderState → Type 0
IslandsFor p None file trace replay ran old new = IsTrue old.tells → RanFile p old file trace replay ran
IslandsFor p (Some n) file trace replay ran old new = (ran ≡ None) ⊎ RanGenerated p n file trace replay ran old new

-- the islands that were run are those of the blueprint that the words ask for; words that are no command run none
abbrev pub IslandsOf : Plugged → Option Asked → Option Ran → FolderState → FolderState → Type 0
IslandsOf p None ran old new = ran ≡ None
IslandsOf p (Some c) ran old new = IslandsFor p c.generated c.file c.trace c.replay ran old new
