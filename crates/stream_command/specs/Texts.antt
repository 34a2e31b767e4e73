-- What a text comes to: it is refused, or what it says is unfit, or its blueprint is run.
use Rattle.std.specs.Prelude.{◌≡◌, ℕ, ◌⊎◌, IsTrue, IsSome, List, ◌++◌, Option, None, Some}
use Rattle.std.specs.Option.{option_to_list}
use Rattle.stream_io.specs.State.{FolderState}
use Rattle.stream_model.specs.declared.blueprint.Blueprint.{Blueprint}
use Rattle.blue_modules.specs.Plain.{plain}
use Rattle.blue_modules.specs.Text.{PlainText}
use Rattle.blue_lang.specs.Texts as language
use Rattle.blue_modules.specs.Fitness.{IsFlat}
use Rattle.blue_check.specs.Fitness.{IsFit, IsFirstFault}
use Rattle.blue_check.specs.Meaning.{Denotes, modules_fault}
use Rattle.stream_io.specs.Quiet.{Quiet, QuietBut}
use Rattle.run_report.specs.Answer.{Answer}
use Rattle.run_report.specs.declared.outcome.Status.{Status}
use Rattle.run_report.specs.declared.outcome.Status.TheVariants as status
use Rattle.materializer.specs.Files.{inputs_of_nodes}
use Rattle.stream_command.specs.Outcome.{RanNothing, EndedChecked, RunCauses, QuietButAll, IsAbsent, FollowsFile}
use Rattle.materializer.specs.Choosers.{NoneFollow}
use Rattle.stream_io.specs.Counts.{Rose}
use Rattle.stream_command.specs.Asked.{Plugged}

-- a blueprint that is not fit, or memory was wanting
abbrev pub NotFit : Plugged → Status → Answer → Blueprint → List (List ℕ) → FolderState → FolderState → Type 0
NotFit p (status.Unfit f) a b taken old new = RanNothing old new a × IsFirstFault b p.heads taken f
NotFit p status.NoMemory a b taken old new = RanNothing old new a
NotFit p _ a b taken old new = ⊥

-- it is not fit, or it was run, once the moves to follow were read
abbrev pub EndedParsed : Plugged → Status → Answer → Blueprint → List (List ℕ) → Option (List ℕ) → Option (List ℕ) → ℕ → FolderState → FolderState → Type 0
EndedParsed p s a b taken trace replay turns old new = NotFit p s a b taken old new ⊎ (IsFit b p.heads taken × EndedChecked p s a b trace replay turns old new)

-- what breaks a rule on modules, or memory was wanting
abbrev pub NotFlat : Status → Answer → PlainText → FolderState → FolderState → Type 0
NotFlat (status.Unfit f) a t old new = RanNothing old new a × (modules_fault t ≡ Some f)
NotFlat status.NoMemory a t old new = RanNothing old new a
NotFlat _ a t old new = ⊥

-- it breaks a rule on modules, or its blueprint is unfit or was run
abbrev pub EndedSaid : Plugged → Status → Answer → PlainText → List (List ℕ) → Option (List ℕ) → Option (List ℕ) → ℕ → FolderState → FolderState → Type 0
EndedSaid p s a t taken trace replay turns old new = NotFlat s a t old new
    ⊎ ((b : Blueprint) × (IsFlat t (plain b) × EndedParsed p s a b taken trace replay turns old new))

-- a text that says nothing, or memory was wanting
abbrev pub NotSaid : Status → Answer → List ℕ → FolderState → FolderState → Type 0
NotSaid (status.Refused f) a text old new = RanNothing old new a × (language.text_fault text ≡ Some f)
NotSaid status.NoMemory a text old new = RanNothing old new a
NotSaid _ a text old new = ⊥

-- what a call comes to by its text: the text says nothing, or memory was wanting, or what it says was flattened, checked and run
abbrev pub EndedText : Plugged → Status → Answer → List ℕ → List (List ℕ) → Option (List ℕ) → Option (List ℕ) → ℕ → FolderState → FolderState → Type 0
EndedText p s a text taken trace replay turns old new = NotSaid s a text old new ⊎ ((t : PlainText)
    × (language.Says text t × EndedSaid p s a t taken trace replay turns old new))

-- no count rose, and nothing was read
pub record AllQuiet (old new : FolderState) : Type 0 where
  pub refusals : Quiet old.refusals new.refusals
  pub rfaults : Quiet old.rfaults new.rfaults
  pub wfaults : Quiet old.wfaults new.wfaults
  pub read : Quiet old.read new.read

-- the statuses of calls that read their text and ran nothing
abbrev pub CausesQuiet : Status → FolderState → FolderState → Type 0
CausesQuiet (status.Refused f) old new = AllQuiet old new
CausesQuiet (status.Unfit f) old new = AllQuiet old new
CausesQuiet status.NoMemory old new = AllQuiet old new
CausesQuiet _ old new = ⊥

-- the statuses of calls that ended as the file of moves was read, of which alone more was read
abbrev pub CausesReplay : Status → Option (List ℕ) → FolderState → FolderState → Type 0
CausesReplay (status.Missing n) replay old new = (replay ≡ Some n) × IsAbsent old new n × QuietBut n old.refusals new.refusals
    × Quiet old.rfaults new.rfaults × Quiet old.wfaults new.wfaults × Quiet old.read new.read
CausesReplay status.ReadFault replay old new = Quiet old.refusals new.refusals
    × ((n : List ℕ) × ((replay ≡ Some n) × Rose (old.rfaults n) (new.rfaults n) × QuietBut n old.rfaults new.rfaults))
    × Quiet old.wfaults new.wfaults × QuietButAll (option_to_list replay) old.read new.read
CausesReplay (status.BadTrace line) replay old new = IsSome replay × Quiet old.refusals new.refusals × Quiet old.rfaults new.rfaults
    × Quiet old.wfaults new.wfaults × QuietButAll (option_to_list replay) old.read new.read
CausesReplay status.NoMemory replay old new = Quiet old.refusals new.refusals × Quiet old.rfaults new.rfaults
    × Quiet old.wfaults new.wfaults × QuietButAll (option_to_list replay) old.read new.read
CausesReplay _ replay old new = ⊥

-- The blueprint was run by these moves, which are those of the file of moves; of that and of its inputs alone more was read, and these counts
-- rose.
pub record CausesMoved (p : Plugged) (s : Status) (a : Answer) (b : Blueprint) (trace replay : Option (List ℕ)) (turns : ℕ)
    (old new : FolderState) : Type 0 where
  pub plans : List (Option (List ℕ))
  pub follows : IsTrue old.tells → FollowsFile old replay b.nodes.items plans
  pub free : replay ≡ None → NoneFollow plans
  pub reads : QuietButAll (option_to_list replay ++ inputs_of_nodes b.nodes.items) old.read new.read
  pub causes : RunCauses p s a b plans trace turns old new

-- which counts rose, of a blueprint that breaks no rule
abbrev pub CausesChecked : Plugged → Status → Answer → Blueprint → Option (List ℕ) → Option (List ℕ) → ℕ → FolderState → FolderState → Type 0
CausesChecked p s a b trace replay turns old new = CausesReplay s replay old new ⊎ CausesMoved p s a b trace replay turns old new

-- the blueprint is fit where these files are taken, and these counts rose
pub record CausesFit (p : Plugged) (s : Status) (a : Answer) (b : Blueprint) (taken : List (List ℕ)) (trace replay : Option (List ℕ)) (turns : ℕ)
    (old new : FolderState) : Type 0 where
  pub fit : IsFit b p.heads taken
  pub causes : CausesChecked p s a b trace replay turns old new

-- which counts rose, of a blueprint
abbrev pub CausesParsed : Plugged → Status → Answer → Blueprint → List (List ℕ) → Option (List ℕ) → Option (List ℕ) → ℕ → FolderState → FolderState → Type 0
CausesParsed p s a b taken trace replay turns old new = CausesQuiet s old new ⊎ CausesFit p s a b taken trace replay turns old new

-- which counts rose, of what a text says
abbrev pub CausesSaid : Plugged → Status → Answer → PlainText → List (List ℕ) → Option (List ℕ) → Option (List ℕ) → ℕ → FolderState → FolderState → Type 0
CausesSaid p s a t taken trace replay turns old new = CausesQuiet s old new
    ⊎ ((b : Blueprint) × (IsFlat t (plain b) × CausesFit p s a b taken trace replay turns old new))

-- which counts rose, of a text
abbrev pub CausesText : Plugged → Status → Answer → List ℕ → List (List ℕ) → Option (List ℕ) → Option (List ℕ) → ℕ → FolderState → FolderState → Type 0
CausesText p s a text taken trace replay turns old new = CausesQuiet s old new ⊎ ((b : Blueprint)
    × (Denotes (language.Says text) b × CausesFit p s a b taken trace replay turns old new))
