-- What follows from what is answered, by what the words ask for.
use Rattle.std.proofs.Common.{◌≡◌, ◌≢◌, ℕ, ◌<◌, List, ◌⊎◌, inl, inr, refl, sym, subst, arith}
use Rattle.std.specs.Prelude.{Option, Some, None, IsTrue, ◌↔◌}
use Rattle.stream_io.specs.Counts.{Rose, Grew, GrewAtMost}
use Rattle.stream_io.specs.State.{FolderState}
use Rattle.stream_io.proofs.Counts.{quiet_same}
use Rattle.run_report.specs.Answer.{Answer}
use Rattle.run_report.specs.declared.outcome.Status.{Status}
use Rattle.run_report.specs.declared.outcome.Status.TheVariants as status
use Rattle.run_report.specs.Asking.{Asked, asked_of}
use Rattle.run_report.specs.Generated.{Generates, StopsGenerating}
use Rattle.run_report.specs.Texts.{lines_file, blueprint_file}
use Rattle.stream_command.specs.Outcome.{Blank, EndedBefore, CausesBefore, SinksOf, RoseNowhere, RanWithoutFault, plan_limit}
use Rattle.stream_io.specs.Text.{text_limit}
use Rattle.stream_io.proofs.Quiets.{read_none}
use Rattle.stream_command.specs.Answers.{AnswersCommand, AnswersTo, RunsFile, StopsBefore, IsValidFor}
use Rattle.stream_command.specs.Asked.{Plugged}
use Rattle.stream_command.specs.Receipts.{ReceiptsBy, ReceiptsOf, IslandsFor, IslandsOf}
use Rattle.run_blueprint.specs.Receipt.{Ran}

none_some : (c : Asked) (o : Option Asked) → o ≡ None → o ≡ Some c → ⊥
none_some c o e f = cc

some_same : {A : Type 0} {a b : A} → Some a ≡ Some b → a ≡ b
some_same e = cc

-- ---- the generator ended the call

-- it read nothing, and told its files before where it tells them now
record LeavesReads (old new : FolderState) : Type 0 where
  told : IsTrue new.tells → IsTrue old.tells
  read : (n : List ℕ) → new.read n ≡ old.read n

stopped : (s : Status) (n : ℕ) (old new : FolderState) → StopsBefore s n old new → LeavesReads old new
stopped (status.Missing name) n old new (inl h) = record { told = λ t. subst (λ b. IsTrue b) h.1.files.telling t; read = h.1.read }
stopped (status.Missing name) n old new (inr h) = record { told = h.1.two.told; read = h.1.two.read }
stopped status.WriteFault n old new (inl h) = record { told = h.only.told; read = h.only.read }
stopped status.WriteFault n old new (inr h) = record { told = h.two.told; read = h.two.read }
stopped status.NoMemory n old new h = record { told = h.two.told; read = h.two.read }
stopped status.Done n old new h = absurd h
stopped status.Usage n old new h = absurd h
stopped (status.Refused f) n old new h = absurd h
stopped (status.Unfit f) n old new h = absurd h
stopped status.StreamFailed n old new h = absurd h
stopped status.Stalled n old new h = absurd h
stopped status.OutOfTurns n old new h = absurd h
stopped (status.BadTrace line) n old new h = absurd h
stopped (status.Misfit stage pick) n old new h = absurd h
stopped status.ReadFault n old new h = absurd h

-- where no count rose only want of memory ends it
calm_stops : (s : Status) (n : ℕ) (old new : FolderState) → RoseNowhere old new → StopsBefore s n old new → RanWithoutFault s
calm_stops (status.Missing name) n old new calm (inl h) = absurd (calm.refusals lines_file h.1.rose)
calm_stops (status.Missing name) n old new calm (inr h) = absurd (calm.refusals blueprint_file h.1.rose)
calm_stops status.WriteFault n old new calm (inl h) = absurd (calm.wfaults lines_file h.rose)
calm_stops status.WriteFault n old new calm (inr h) = absurd (calm.wfaults blueprint_file h.rose)
calm_stops status.NoMemory n old new calm h = tt
calm_stops status.Done n old new calm h = tt
calm_stops status.Usage n old new calm h = absurd h
calm_stops (status.Refused f) n old new calm h = absurd h
calm_stops (status.Unfit f) n old new calm h = absurd h
calm_stops status.StreamFailed n old new calm h = tt
calm_stops status.Stalled n old new calm h = tt
calm_stops status.OutOfTurns n old new calm h = tt
calm_stops (status.BadTrace line) n old new calm h = absurd h
calm_stops (status.Misfit stage pick) n old new calm h = tt
calm_stops status.ReadFault n old new calm h = absurd h

-- ---- the files were generated

-- a count that rose behind the generator rose in the call
rose_before : (old between new : ℕ) → Grew old 0 between → Rose between new → Rose old new
rose_before old between new g rose = λ h. let above : between < new = rose h in omega (arith, g.stays, above)

calm_behind : (old between new : FolderState) (n : ℕ) → Generates old between n → RoseNowhere old new → RoseNowhere between new
calm_behind old between new n g calm = record {
  refusals = λ m rose. calm.refusals m (rose_before (old.refusals m) (between.refusals m) (new.refusals m) (g.refusals m) rose);
  rfaults = λ m rose. calm.rfaults m (rose_before (old.rfaults m) (between.rfaults m) (new.rfaults m) (g.two.rfaults m) rose);
  wfaults = λ m rose. calm.wfaults m (rose_before (old.wfaults m) (between.wfaults m) (new.wfaults m) (g.wfaults m) rose);
}

-- ---- the whole call

-- it told its files before where it tells them now
told_to : (plugged : Plugged) (g : Option ℕ) (c : Asked) (a : Answer) (old new : FolderState) → AnswersTo plugged g c a old new → IsTrue new.tells → IsTrue old.tells
told_to plugged None c a old new h t = h.tells t
told_to plugged (Some n) c a old new (inl h) t = (stopped a.status n old new h.stops).told t
told_to plugged (Some n) c a old new (inr h) t = h.generates.two.told (h.runs.tells t)

pub told_before : (plugged : Plugged) (o : Option Asked) (a : Answer) (old new : FolderState) → AnswersCommand plugged o a old new → IsTrue new.tells → IsTrue old.tells
told_before plugged None a old new h t = subst (λ (f : FolderState). IsTrue f.tells) h.same t
told_before plugged (Some c) a old new h t = told_to plugged c.generated c a old new h t

-- how much of the blueprint's file is read
read_to : (plugged : Plugged) (g : Option ℕ) (c : Asked) (a : Answer) (old new : FolderState) → AnswersTo plugged g c a old new → c.replay ≢ Some c.file → GrewAtMost (old.read c.file) text_limit (new.read c.file)
read_to plugged None c a old new h apart = h.reads apart
read_to plugged (Some n) c a old new (inl h) apart = read_none (old.read c.file) (new.read c.file) text_limit ((stopped a.status n old new h.stops).read c.file)
read_to plugged (Some n) c a old new (inr h) apart = subst (λ k. GrewAtMost k text_limit (new.read c.file)) (h.generates.two.read c.file) (h.runs.reads apart)

pub reads_little : (plugged : Plugged) (o : Option Asked) (a : Answer) (old new : FolderState) → AnswersCommand plugged o a old new → (c : Asked) → o ≡ Some c → c.replay ≢ Some c.file → GrewAtMost (old.read c.file) text_limit (new.read c.file)
reads_little plugged None a old new h c e apart = absurd (none_some c None refl e)
reads_little plugged (Some d) a old new h c e apart =
    subst (λ (x : Asked). GrewAtMost (old.read x.file) text_limit (new.read x.file)) (some_same e) (read_to plugged d.generated d a old new h (subst (λ (x : Asked). x.replay ≢ Some x.file) (sym (some_same e)) apart))

-- a valid blueprint and no fault give a run
complete_to : (plugged : Plugged) (g : Option ℕ) (c : Asked) (a : Answer) (old new : FolderState) → AnswersTo plugged g c a old new → IsValidFor plugged g c.file c.trace c.replay old new → RoseNowhere old new → RanWithoutFault a.status
complete_to plugged None c a old new h v calm = h.complete v.0 v.1 calm
complete_to plugged (Some n) c a old new (inl h) v calm = calm_stops a.status n old new calm h.stops
complete_to plugged (Some n) c a old new (inr h) v calm =
    let tells = h.runs.tells v.0 in
    h.runs.complete tells (v.1 h.between h.generates tells) (calm_behind old h.between new n h.generates calm)

pub completes : (plugged : Plugged) (o : Option Asked) (a : Answer) (old new : FolderState) → AnswersCommand plugged o a old new → (c : Asked) → o ≡ Some c → IsValidFor plugged c.generated c.file c.trace c.replay old new → RoseNowhere old new → RanWithoutFault a.status
completes plugged None a old new h c e v calm = absurd (none_some c None refl e)
completes plugged (Some d) a old new h c e v calm =
    complete_to plugged d.generated d a old new h (subst (λ (x : Asked). IsValidFor plugged x.generated x.file x.trace x.replay old new) (sym (some_same e)) v) calm

-- usage is told of words that are no command alone
no_usage_to : (plugged : Plugged) (g : Option ℕ) (c : Asked) (a : Answer) (old new : FolderState) → AnswersTo plugged g c a old new → a.status ≡ status.Usage → ⊥
no_usage_to plugged None c a old new h e = h.no_usage e
no_usage_to plugged (Some n) c a old new (inl h) e = subst (λ s. StopsBefore s n old new) e h.stops
no_usage_to plugged (Some n) c a old new (inr h) e = h.runs.no_usage e

only_usage : (plugged : Plugged) (o : Option Asked) (a : Answer) (old new : FolderState) → AnswersCommand plugged o a old new → a.status ≡ status.Usage → o ≡ None
only_usage plugged None a old new h e = refl
only_usage plugged (Some c) a old new h e = absurd (no_usage_to plugged c.generated c a old new h e)

told_usage : (s : Status) → (s ≡ status.NoMemory → ⊥) → (s ≡ status.Usage) ⊎ (s ≡ status.NoMemory) → s ≡ status.Usage
told_usage s room (inl e) = e
told_usage s room (inr e) = absurd (room e)

each_usage : (plugged : Plugged) (o : Option Asked) (a : Answer) (old new : FolderState) → AnswersCommand plugged o a old new → (a.status ≡ status.NoMemory → ⊥) → o ≡ None → a.status ≡ status.Usage
each_usage plugged None a old new h room e = told_usage a.status room h.status
each_usage plugged (Some c) a old new h room e = absurd (none_some c (Some c) e refl)

-- and of each of them, unless memory was wanting
pub usage_of : (plugged : Plugged) (o : Option Asked) (a : Answer) (old new : FolderState) → AnswersCommand plugged o a old new → a.status ≢ status.NoMemory → (a.status ≡ status.Usage) ↔ (o ≡ None)
usage_of plugged o a old new h room = (only_usage plugged o a old new h, each_usage plugged o a old new h room)

-- ---- memory was wanting as the words were read

none_stops : (n : ℕ) (s : FolderState) → StopsGenerating s s n
none_stops n s = record {
  two = record { told = λ t. t; others = λ t m p q. refl; read = λ m. refl; rfaults = quiet_same s.rfaults s.rfaults (λ m. refl) };
  lines = λ t. inl refl;
  blueprint = λ t. inl refl;
  refusals = quiet_same s.refusals s.refusals (λ m. refl);
  wfaults = quiet_same s.wfaults s.wfaults (λ m. refl);
}

no_memory_usage : (s : Status) → s ≡ status.NoMemory → s ≡ status.Usage → ⊥
no_memory_usage s e f = cc

none_runs : (plugged : Plugged) (file : List ℕ) (trace replay : Option (List ℕ)) (turns : ℕ) (a : Answer) (s : FolderState) → a.status ≡ status.NoMemory → Blank a → RunsFile plugged file trace replay turns a s s
none_runs plugged file trace replay turns a s e blank = record {
  tells = λ t. t;
  told = λ t. inl (subst (λ x. EndedBefore plugged x a file trace replay s s) (sym e) (record { files = record { telling = refl; files = λ h n. refl }; blank = blank }));
  complete = λ t v calm. subst (λ x. RanWithoutFault x) (sym e) tt;
  causes = inl (subst (λ x. CausesBefore x file replay s s) (sym e) (quiet_same s.refusals s.refusals (λ m. refl), quiet_same s.rfaults s.rfaults (λ m. refl), quiet_same s.wfaults s.wfaults (λ m. refl), λ m never. quiet_same s.read s.read (λ k. refl) m));
  sinks = subst (λ x. SinksOf x a trace) (sym e) blank;
  no_usage = no_memory_usage a.status e;
  reads = λ apart. read_none (s.read file) (s.read file) text_limit refl;
  reads_moves = λ t is other. read_none (s.read t) (s.read t) plan_limit refl;
}

none_to : (plugged : Plugged) (g : Option ℕ) (c : Asked) (a : Answer) (s : FolderState) → a.status ≡ status.NoMemory → Blank a → AnswersTo plugged g c a s s
none_to plugged None c a s e blank = none_runs plugged c.file c.trace c.replay c.turns a s e blank
none_to plugged (Some n) c a s e blank = inl (record { blank = blank; stops = subst (λ x. StopsBefore x n s s) (sym e) (none_stops n s) })

pub gave_up : (plugged : Plugged) (o : Option Asked) (a : Answer) (s : FolderState) → a.status ≡ status.NoMemory → Blank a → AnswersCommand plugged o a s s
gave_up plugged None a s e blank = record { status = inr e; blank = blank; same = refl }
gave_up plugged (Some c) a s e blank = none_to plugged c.generated c a s e blank

-- ---- memory was wanting before a run: nothing was run, and there is no receipt

receipt_none : (generated : Option ℕ) (s : Status) (a : Answer) (workers : ℕ) (ran : Option Ran) → s ≡ status.NoMemory → ran ≡ None → ReceiptsBy generated s a workers ran
receipt_none None s a workers ran e none = rw e none
receipt_none (Some n) s a workers ran e none = rw e none

pub none_received : (o : Option Asked) (a : Answer) (ran : Option Ran) → a.status ≡ status.NoMemory → ran ≡ None → ReceiptsOf o a ran
none_received None a ran e none = none
none_received (Some c) a ran e none = receipt_none c.generated a.status a c.workers ran e none

none_run : (p : Plugged) (generated : Option ℕ) (file : List ℕ) (trace replay : Option (List ℕ)) (ran : Option Ran) (old new : FolderState) → ran ≡ None
    → IslandsFor p generated file trace replay ran old new
none_run p None file trace replay ran old new none = λ tells. rw none tt
none_run p (Some n) file trace replay ran old new none = inl none

pub no_islands : (p : Plugged) (o : Option Asked) (ran : Option Ran) (old new : FolderState) → ran ≡ None → IslandsOf p o ran old new
no_islands p None ran old new none = none
no_islands p (Some c) ran old new none = none_run p c.generated c.file c.trace c.replay ran old new none

-- ---- steps of the call

pub refused : (plugged : Plugged) (o : Option Asked) (a : Answer) (s : FolderState) → o ≡ None → a.status ≡ status.Usage → Blank a → AnswersCommand plugged o a s s
refused plugged None a s none e blank = record { status = inl e; blank = blank; same = refl }
refused plugged (Some c) a s none e blank = absurd (none_some c (Some c) none refl)

-- the generator ended it
pub ended : (plugged : Plugged) (n : ℕ) (c : Asked) (s : Status) (a : Answer) (old new : FolderState) → StopsBefore s n old new → a.status ≡ s → Blank a → AnswersTo plugged (Some n) c a old new
ended plugged n c s a old new stops e blank = inl (record { blank = blank; stops = subst (λ x. StopsBefore x n old new) (sym e) stops })

-- the generated files were run
pub ran : (plugged : Plugged) (n : ℕ) (c : Asked) (a : Answer) (old between new : FolderState) → Generates old between n → RunsFile plugged c.file c.trace c.replay c.turns a between new → AnswersTo plugged (Some n) c a old new
ran plugged n c a old between new g r = inr (record { between = between; generates = g; runs = r })

-- the run of a file, where the names of the trace and of the moves are lent
pub runs_as : (plugged : Plugged) (file : List ℕ) (lent trace given replay : Option (List ℕ)) (turns : ℕ) (a : Answer) (old new : FolderState) → lent ≡ trace → given ≡ replay → RunsFile plugged file lent given turns a old new → RunsFile plugged file trace replay turns a old new
runs_as plugged file lent trace given replay turns a old new e f h =
    subst (λ (t : Option (List ℕ)). RunsFile plugged file trace t turns a old new) f (subst (λ (t : Option (List ℕ)). RunsFile plugged file t given turns a old new) e h)

-- one with a file to run
pub file_was_run : (plugged : Plugged) (c : Asked) (a : Answer) (old new : FolderState) → c.generated ≡ None → RunsFile plugged c.file c.trace c.replay c.turns a old new → AnswersCommand plugged (Some c) a old new
file_was_run plugged c a old new g r = subst (λ (o : Option ℕ). AnswersTo plugged o c a old new) (sym g) r

-- one with lines to generate
pub was_generated : (plugged : Plugged) (n : ℕ) (c : Asked) (a : Answer) (old new : FolderState) → c.generated ≡ Some n → AnswersTo plugged (Some n) c a old new → AnswersCommand plugged (Some c) a old new
was_generated plugged n c a old new g r = subst (λ (o : Option ℕ). AnswersTo plugged o c a old new) (sym g) r

-- what the words ask for, by what was read of them
pub as_asked : (plugged : Plugged) (words : List (List ℕ)) (c : Asked) (a : Answer) (old new : FolderState) → asked_of words ≡ Some c → AnswersCommand plugged (Some c) a old new → AnswersCommand plugged (asked_of words) a old new
as_asked plugged words c a old new e h = subst (λ (o : Option Asked). AnswersCommand plugged o a old new) (sym e) h
