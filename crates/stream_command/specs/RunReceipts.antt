-- The receipt of a run: what it tells, by the status of the call.
use Rattle.std.specs.Prelude.{◌≡◌, ℕ, true, false, List, Option, Some, None, IfSome}
use Rattle.stream_model.specs.declared.blueprint.Blueprint.{Blueprint}
use Rattle.blue_check.specs.Fitness.{IsFit}
use Rattle.blue_modules.specs.Plain.{plain}
use Rattle.blue_modules.specs.Text.{PlainText}
use Rattle.blue_lang.specs.Texts as language
use Rattle.blue_modules.specs.Fitness.{IsFlat}
use Rattle.blue_check.specs.Meaning.{Denotes}
use Rattle.run_blueprint.specs.Receipt.{HasIslands, Ran}
use Rattle.run_report.specs.declared.outcome.Status.{Status}
use Rattle.run_report.specs.declared.outcome.Status.TheVariants as status
use Rattle.stream_io.specs.State.{FolderState}
use Rattle.stream_command.specs.Outcome.{SaysFit}
use Rattle.stream_command.specs.Asked.{Plugged}

-- there is a receipt of so many workers and so many units
pub record HasReceipt (workers used : ℕ) (ran : Option Ran) : Type 0 where
  pub receipt : Ran
  pub there : ran ≡ Some receipt
  pub workers_are : receipt.workers ≡ workers
  pub used_is : receipt.used ≡ used

-- After a run there is one; where all units were used before the sinks had ended it says that events were left, and where the run stalled
-- that none was. Else there is none.
abbrev pub Receipts : Status → ℕ → ℕ → Option Ran → Type 0
Receipts status.Done workers used ran = HasReceipt workers used ran
Receipts status.StreamFailed workers used ran = HasReceipt workers used ran
Receipts status.Stalled workers used ran = (r : HasReceipt workers used ran) × (r.receipt.more ≡ false)
Receipts status.OutOfTurns workers used ran = (r : HasReceipt workers used ran) × (r.receipt.more ≡ true)
Receipts (status.Misfit stage pick) workers used ran = HasReceipt workers used ran
Receipts status.WriteFault workers used ran = HasReceipt workers used ran
Receipts _ workers used ran = ran ≡ None

-- the islands of this blueprint were run, which breaks no rule where these files are taken
pub record RanIslands (p : Plugged) (b : Blueprint) (taken : List (List ℕ)) (r : Ran) : Type 0 where
  pub fit : IsFit b p.heads taken
  pub islands : HasIslands b r.islands

-- those of the blueprint of what is said
abbrev pub RanSaid : Plugged → PlainText → List (List ℕ) → Option Ran → Type 0
RanSaid p t taken ran = IfSome ran (λ r. (b : Blueprint) × (IsFlat t (plain b) × RanIslands p b taken r))

-- those of the blueprint of what this text says
abbrev pub RanText : Plugged → List ℕ → List (List ℕ) → Option Ran → Type 0
RanText p text taken ran = IfSome ran (λ r. (b : Blueprint) × (Denotes (language.Says text) b × RanIslands p b taken r))

-- those of the blueprint of what this file says
abbrev pub RanFile : Plugged → FolderState → List ℕ → Option (List ℕ) → Option (List ℕ) → Option Ran → Type 0
RanFile p folder file trace replay ran = IfSome ran (λ r. (b : Blueprint) × (SaysFit p folder file trace replay b × HasIslands b r.islands))
