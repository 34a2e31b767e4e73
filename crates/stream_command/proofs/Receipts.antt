-- The receipt of a run, by the status of the call.
use Rattle.std.proofs.Common.{◌≡◌, ℕ, Bool, true, false, List, sym, subst}
use Rattle.std.specs.Prelude.{if◌then◌else◌, ◌||◌, Option, Some, None, IfSome, IsTrue}
use Rattle.std.specs.List.{list_any}
use Rattle.stream_model.specs.declared.blueprint.Blueprint.{Blueprint}
use Rattle.blue_check.specs.Fitness.{IsFit}
use Rattle.blue_modules.specs.Plain.{plain}
use Rattle.blue_modules.specs.Text.{PlainText}
use Rattle.blue_modules.specs.Fitness.{IsFlat}
use Rattle.blue_check.specs.Meaning.{Denotes}
use Rattle.blue_lang.specs.Texts as language
use Rattle.run_blueprint.specs.Stands.{SinkStand, is_write_fault, is_unended, is_failed}
use Rattle.stream_io.specs.Text.{ReadsFile}
use Rattle.run_blueprint.specs.Receipt.{HasIslands, IsReceipt, Ran}
use Rattle.run_report.specs.declared.outcome.Status.{Status}
use Rattle.run_report.specs.declared.outcome.Status.TheVariants as status
use Rattle.stream_io.specs.State.{FolderState}
use Rattle.stream_command.specs.AfterRun.{status_found, status_after}
use Rattle.stream_command.specs.Outcome.{taken_files, SaysFit}
use Rattle.stream_command.proofs.TextRead.{denotes_read}
use Rattle.stream_command.specs.RunReceipts.{HasReceipt, Receipts, RanIslands, RanSaid, RanText, RanFile}
use Rattle.stream_command.specs.Asked.{Plugged}

-- a status that is another's tells what that tells
pub as_status : (s t : Status) (workers used : ℕ) (ran : Option Ran) → s ≡ t → Receipts t workers used ran → Receipts s workers used ran
as_status s t workers used ran e h = subst (λ (x : Status). Receipts x workers used ran) (sym e) h

module _ (b : Blueprint) (workers used : ℕ) (r : Ran) (ran : Option Ran) (is : ran ≡ Some r) where
  abbrev has : (rest : Bool) → IsReceipt b workers used rest r → HasReceipt workers used ran
  has rest i = record { receipt = r; there = is; workers_are = i.workers_are; used_is = i.used_is }

  -- by whether a sink has not ended, a sink failed, and no event was left
  by_sinks : (unended failed rest : Bool) → IsReceipt b workers used rest r
      → Receipts (if unended then (if rest then status.Stalled else status.OutOfTurns) else (if failed then status.StreamFailed else status.Done)) workers used ran
  by_sinks true f true i = (has true i, i.more_is)
  by_sinks true f false i = (has false i, i.more_is)
  by_sinks false true rest i = has rest i
  by_sinks false false rest i = has rest i

  -- and before that by whether a write failed, and a stage could not make its next move
  by_tests : (fault : Bool) (found : Option (ℕ × ℕ)) (stands : List SinkStand) (rest : Bool) → IsReceipt b workers used rest r → Receipts (if fault then status.WriteFault else status_found found stands rest) workers used ran
  by_tests true found stands rest i = has rest i
  by_tests false (Some found) stands rest i = has rest i
  by_tests false None stands rest i = by_sinks (list_any (λ (x : SinkStand). is_unended x.2) stands) (list_any (λ (x : SinkStand). is_failed x.2) stands) rest i

  pub after_run : (s : Status) (stands : List SinkStand) (trace_failed : Bool) (misfit : Option (ℕ × ℕ)) (rest : Bool) → s ≡ status_after stands trace_failed misfit rest → IsReceipt b workers used rest r → Receipts s workers used ran
  after_run s stands trace_failed misfit rest e i =
      as_status s (status_after stands trace_failed misfit rest) workers used ran e
      (by_tests (list_any (λ (x : SinkStand). is_write_fault x.2) stands || trace_failed) misfit stands rest i)

  -- the islands of the receipt
  pub its_islands : (rest : Bool) → IsReceipt b workers used rest r → IfSome ran (λ (t : Ran). HasIslands b t.islands)
  its_islands rest i = subst (λ (o : Option Ran). IfSome o (λ (t : Ran). HasIslands b t.islands)) (sym is) i.islands_are

-- where nothing was run
pub no_islands : (P : Ran → Type 0) (ran : Option Ran) → ran ≡ None → IfSome ran P
no_islands P ran e = subst (λ (o : Option Ran). IfSome o P) (sym e) tt

-- what is told of the receipt follows from what was told of it
pub told_on : (P Q : Ran → Type 0) → ((r : Ran) → P r → Q r) → (ran : Option Ran) → IfSome ran P → IfSome ran Q
told_on P Q f None h = tt
told_on P Q f (Some r) h = f r h

-- a blueprint that breaks no rule
pub of_fit : (plugged : Plugged) (b c : Blueprint) (taken : List (List ℕ)) (ran : Option Ran) → b ≡ c → IsFit c plugged.heads taken → IfSome ran (λ (r : Ran). HasIslands b r.islands) → IfSome ran (λ (r : Ran). RanIslands plugged c taken r)
of_fit plugged b c taken ran same fit h = told_on (λ (r : Ran). HasIslands b r.islands) (λ (r : Ran). RanIslands plugged c taken r)
    (λ r i. record { fit = fit; islands = subst (λ (x : Blueprint). HasIslands x r.islands) same i }) ran h

-- the blueprint of a checked one
pub of_checked : (plugged : Plugged) (b c : Blueprint) (taken : List (List ℕ)) (ran : Option Ran) → c ≡ b → IfSome ran (λ (r : Ran). RanIslands plugged c taken r) → IfSome ran (λ (r : Ran). RanIslands plugged b taken r)
of_checked plugged b c taken ran same h = subst (λ (x : Blueprint). IfSome ran (λ (r : Ran). RanIslands plugged x taken r)) same h

-- that of what is said
pub of_said : (plugged : Plugged) (t : PlainText) (b : Blueprint) (taken : List (List ℕ)) (ran : Option Ran) → IsFlat t (plain b) → IfSome ran (λ (r : Ran). RanIslands plugged b taken r) → RanSaid plugged t taken ran
of_said plugged t b taken ran flat h = told_on (λ (r : Ran). RanIslands plugged b taken r) (λ (r : Ran). (c : Blueprint) × (IsFlat t (plain c) × RanIslands plugged c taken r)) (λ r i. (b, (flat, i))) ran h

-- that of a text
pub of_text : (plugged : Plugged) (text : List ℕ) (t : PlainText) (taken : List (List ℕ)) (ran : Option Ran) → language.Says text t → RanSaid plugged t taken ran → RanText plugged text taken ran
of_text plugged text t taken ran says h = told_on (λ (r : Ran). (c : Blueprint) × (IsFlat t (plain c) × RanIslands plugged c taken r)) (λ (r : Ran). (c : Blueprint) × (Denotes (language.Says text) c × RanIslands plugged c taken r))
    (λ r i. (i.0, (record { text = t; says = says; flat = i.1.0 }, i.1.1))) ran h

-- that of a file that was read
pub of_file : (plugged : Plugged) (old mid : FolderState) (file text : List ℕ) (trace replay : Option (List ℕ)) (taken : List (List ℕ)) (ran : Option Ran) → IsTrue old.tells → ReadsFile old mid file text → taken ≡ taken_files file trace replay → RanText plugged text taken ran → RanFile plugged old file trace replay ran
of_file plugged old mid file text trace replay taken ran tells read same h =
    told_on (λ (r : Ran). (c : Blueprint) × (Denotes (language.Says text) c × RanIslands plugged c taken r)) (λ (r : Ran). (c : Blueprint) × (SaysFit plugged old file trace replay c × HasIslands c r.islands))
    (λ r i. (
      i.0,
      (
        record { says = denotes_read old mid file text i.0 tells read i.1.0; fit = subst (λ (t : List (List ℕ)). IsFit i.0 plugged.heads t) same i.1.1.fit },
        i.1.1.islands,
      ),
    ))
    ran h
