-- What is told of a text is told of a call that read it: its answer, and which counts it raised.
use Rattle.std.proofs.Common.{◌≡◌, ◌≢◌, ℕ, zero, suc, ◌<◌, List, [], ◌∷◌, ◌++◌, ◌⊎◌, inl, inr, refl, sym, ap, ◌∙◌, subst, arith, length, map}
use Rattle.std.specs.Prelude.{slice_index_or, IsTrue, Option, Some, None}
use Rattle.std.specs.List.{Contains}
use Rattle.std.specs.Option.{option_to_list}
use Rattle.stream_io.specs.Counts.{Grew, GrewAtMost}
use Rattle.stream_io.specs.State.{FolderState}
use Rattle.stream_model.specs.Known.{CustomShape, head_shape, HeadLists}
use Rattle.stream_model.specs.declared.blueprint.Blueprint.{Blueprint}
use Rattle.stream_model.specs.declared.head.CustomHead.{CustomHead}
use Rattle.stream_model.specs.declared.head.PlugHead.{PlugHead}
use Rattle.blue_modules.specs.Plain.{plain}
use Rattle.blue_modules.specs.Text.{PlainText}
use Rattle.blue_lang.specs.Texts as language
use Rattle.blue_modules.specs.Fitness.{IsFlat}
use Rattle.blue_check.specs.Fitness.{IsFit, IsFirstFault}
use Rattle.blue_check.specs.Meaning.{modules_fault}
use Rattle.blue_check.specs.declared.fault.CheckFault.{CheckFault}
use Rattle.graph_stage.specs.declared.custom.Custom.{Custom}
use Rattle.plug_logic.specs.declared.plug.Plug.{Plug}
use Rattle.materializer.specs.Files.{inputs_of_nodes}
use Rattle.materializer.specs.HandedCustoms.{handed_heads}
use Rattle.stream_io.specs.Quiet.{Quiet}
use Rattle.run_blueprint.specs.Tracing.{IsApart}
use Rattle.stream_io.proofs.Counts.{grew_same, quiet_two}
use Rattle.run_blueprint.proofs.Apart.{inputs_untaken, outputs_untaken}
use Rattle.run_report.specs.Answer.{Answer}
use Rattle.run_report.specs.declared.outcome.Status.{Status}
use Rattle.run_report.specs.declared.outcome.Status.TheVariants as status
use Rattle.stream_command.specs.Asked.{Plugged, AskedRun}
use Rattle.stream_io.specs.Text.{text_limit, ReadsFile}
use Rattle.stream_command.specs.Outcome.{taken_files, SaysText, SaysFile, SaysFit, Blank, RanNothing, EndedBefore, EndedChecked, Told, Causes, CausesBefore, QuietButAll, QuietAmong, ReadsMost, SinksOf, plan_limit}
use Rattle.stream_command.specs.Texts.{NotFit, EndedParsed, NotFlat, EndedSaid, NotSaid, EndedText, AllQuiet, CausesQuiet, CausesReplay, CausesChecked, CausesParsed, CausesSaid, CausesText}
use Rattle.stream_io.proofs.Quiets.{files_two, most_later, tells_behind}
use Rattle.stream_command.proofs.TextRead.{says_read, denotes_read, refused_read}
use Rattle.stream_command.proofs.ReadBefore.{read_one, rose_later, absent_later, quiet_but_later, causes_later}
use Rattle.stream_command.proofs.MovesRead.{unread_but, reads_since, follows_later, checked_later}
use Rattle.stream_command.specs.Replays.{IsReadApart}

-- ---- a call that read its file

nothing_since : (old mid new : FolderState) (file t : List ℕ) (r : ReadsFile old mid file t) (a : Answer) → RanNothing mid new a → RanNothing old new a
nothing_since old mid new file t r a h = record { files = files_two old mid new r.files h.files; blank = h.blank }

-- the blueprint's own file is none of its sources
own_apart : (plugged : Plugged) (b : Blueprint) (file : List ℕ) (trace replay : Option (List ℕ)) → IsFit b plugged.heads (taken_files file trace replay) → Contains (inputs_of_nodes b.nodes.items) file → ⊥
own_apart plugged b file trace replay fit input = inputs_untaken b plugged.heads (taken_files file trace replay) fit file input (0, omega arith, refl)

module _ (plugged : Plugged) (a : Answer) (c : AskedRun) (old mid new : FolderState) (t : List ℕ) (r : ReadsFile old mid c.file t) (tells : IsTrue old.tells) where
  not_said : (s : Status) → NotSaid s a t mid new → EndedBefore plugged s a c.file c.trace c.replay old new
  not_said (status.Refused f) h = (nothing_since old mid new c.file t r a h.0, refused_read old mid c.file t f tells r h.1)
  not_said status.NoMemory h = nothing_since old mid new c.file t r a h
  not_said status.Done h = absurd h
  not_said status.StreamFailed h = absurd h
  not_said status.Stalled h = absurd h
  not_said status.OutOfTurns h = absurd h
  not_said (status.BadTrace line) h = absurd h
  not_said (status.Misfit stage pick) h = absurd h
  not_said status.WriteFault h = absurd h
  not_said status.ReadFault h = absurd h
  not_said status.Usage h = absurd h
  not_said (status.Missing n) h = absurd h
  not_said (status.Unfit f) h = absurd h

  module _ (said : PlainText) (says : language.Says t said) where
    file_says : SaysText old c.file said
    file_says = says_read old mid c.file t said tells r says

    not_flat : (s : Status) → NotFlat s a said mid new → EndedBefore plugged s a c.file c.trace c.replay old new
    not_flat (status.Unfit f) h = (nothing_since old mid new c.file t r a h.0, (said, (file_says, inl h.1)))
    not_flat status.NoMemory h = nothing_since old mid new c.file t r a h
    not_flat status.Done h = absurd h
    not_flat status.StreamFailed h = absurd h
    not_flat status.Stalled h = absurd h
    not_flat status.OutOfTurns h = absurd h
    not_flat (status.BadTrace line) h = absurd h
    not_flat (status.Misfit stage pick) h = absurd h
    not_flat status.WriteFault h = absurd h
    not_flat status.ReadFault h = absurd h
    not_flat status.Usage h = absurd h
    not_flat (status.Missing n) h = absurd h
    not_flat (status.Refused f) h = absurd h

    module _ (b : Blueprint) (flat : IsFlat said (plain b)) where
      not_fit : (s : Status) → NotFit plugged s a b (taken_files c.file c.trace c.replay) mid new → EndedBefore plugged s a c.file c.trace c.replay old new
      not_fit (status.Unfit f) h = (nothing_since old mid new c.file t r a h.0, (said, (file_says, inr (b, (flat, h.1)))))
      not_fit status.NoMemory h = nothing_since old mid new c.file t r a h
      not_fit status.Done h = absurd h
      not_fit status.StreamFailed h = absurd h
      not_fit status.Stalled h = absurd h
      not_fit status.OutOfTurns h = absurd h
      not_fit (status.BadTrace line) h = absurd h
      not_fit (status.Misfit stage pick) h = absurd h
      not_fit status.WriteFault h = absurd h
      not_fit status.ReadFault h = absurd h
      not_fit status.Usage h = absurd h
      not_fit (status.Missing n) h = absurd h
      not_fit (status.Refused f) h = absurd h

      module _ (fit : IsFit b plugged.heads (taken_files c.file c.trace c.replay)) where
        said_fit : SaysFit plugged old c.file c.trace c.replay b
        said_fit = record { says = record { text = said; says = file_says; flat = flat }; fit = fit }

        told_fit : EndedChecked plugged a.status a b c.trace c.replay c.turns mid new → Told plugged a c old new
        told_fit h = inr (b, (said_fit, checked_later plugged old mid new c.file (read_one text_limit old mid c.file t r) b c.trace c.replay (own_apart plugged b c.file c.trace c.replay fit) c.turns a tells a.status h))

      told_parsed : EndedParsed plugged a.status a b (taken_files c.file c.trace c.replay) c.trace c.replay c.turns mid new → Told plugged a c old new
      told_parsed (inl h) = inl (not_fit a.status h)
      told_parsed (inr h) = told_fit h.0 h.1

    told_said : EndedSaid plugged a.status a said (taken_files c.file c.trace c.replay) c.trace c.replay c.turns mid new → Told plugged a c old new
    told_said (inl h) = inl (not_flat a.status h)
    told_said (inr h) = told_parsed h.0 h.1.0 h.1.1

  -- what is told of the text is told of the call
  pub told_text : EndedText plugged a.status a t (taken_files c.file c.trace c.replay) c.trace c.replay c.turns mid new → Told plugged a c old new
  told_text (inl h) = inl (not_said a.status h)
  told_text (inr h) = told_said h.0 h.1.0 h.1.1

-- the file of moves is read behind the blueprint's own
behind_own : (file : List ℕ) (replay : Option (List ℕ)) (n : List ℕ) → replay ≡ Some n → Contains (file ∷ option_to_list replay) n
behind_own file None n e = absurd cc
behind_own file (Some f) n e = let same : f ≡ n = cc in (1, omega arith, same)

module _ (plugged : Plugged) (old mid new : FolderState) (file t : List ℕ) (r : ReadsFile old mid file t) where
  refusals_since : AllQuiet mid new → Quiet old.refusals new.refusals
  refusals_since q = quiet_two _ _ _ r.refusals q.refusals

  rfaults_since : AllQuiet mid new → Quiet old.rfaults new.rfaults
  rfaults_since q = quiet_two _ _ _ r.rfaults q.rfaults

  wfaults_since : AllQuiet mid new → Quiet old.wfaults new.wfaults
  wfaults_since q = quiet_two _ _ _ r.wfaults q.wfaults

  only_file : AllQuiet mid new → QuietButAll (file ∷ []) old.read new.read
  only_file q = reads_since file [] old.read mid.read new.read r.read (λ n never. q.read n)

  -- nor of the file of moves
  only_file_or : (replay : Option (List ℕ)) → AllQuiet mid new → QuietButAll (file ∷ option_to_list replay) old.read new.read
  only_file_or replay q = reads_since file (option_to_list replay) old.read mid.read new.read r.read (λ n never. q.read n)

  quiet_before : (s : Status) (replay : Option (List ℕ)) → CausesQuiet s mid new → CausesBefore s file replay old new
  quiet_before (status.Refused f) replay h = (refusals_since h, rfaults_since h, wfaults_since h, only_file h)
  quiet_before (status.Unfit f) replay h = (refusals_since h, rfaults_since h, wfaults_since h, only_file h)
  quiet_before status.NoMemory replay h = (refusals_since h, rfaults_since h, wfaults_since h, only_file_or replay h)
  quiet_before status.Done replay h = absurd h
  quiet_before status.StreamFailed replay h = absurd h
  quiet_before status.Stalled replay h = absurd h
  quiet_before status.OutOfTurns replay h = absurd h
  quiet_before (status.BadTrace line) replay h = absurd h
  quiet_before (status.Misfit stage pick) replay h = absurd h
  quiet_before status.WriteFault replay h = absurd h
  quiet_before status.ReadFault replay h = absurd h
  quiet_before status.Usage replay h = absurd h
  quiet_before (status.Missing n) replay h = absurd h

  -- a call that ended as the file of moves was read
  replay_before : (s : Status) (replay : Option (List ℕ)) → CausesReplay s replay mid new → CausesBefore s file replay old new
  replay_before (status.Missing n) replay h = (
    behind_own file replay n h.0,
    absent_later old mid new n r.files r.refusals h.1,
    quiet_but_later n _ _ _ r.refusals h.2,
    quiet_two _ _ _ r.rfaults h.3,
    quiet_two _ _ _ r.wfaults h.4,
    reads_since file (option_to_list replay) old.read mid.read new.read r.read (λ n never. h.5 n),
  )
  replay_before status.ReadFault replay h = (
    quiet_two _ _ _ r.refusals h.0,
    (
      h.1.0,
      (
        behind_own file replay h.1.0 h.1.1.0,
        rose_later (old.rfaults h.1.0) (mid.rfaults h.1.0) (new.rfaults h.1.0) (r.rfaults h.1.0) h.1.1.1,
        quiet_but_later h.1.0 _ _ _ r.rfaults h.1.1.2,
      ),
    ),
    quiet_two _ _ _ r.wfaults h.2,
    reads_since file (option_to_list replay) old.read mid.read new.read r.read h.3,
  )
  replay_before (status.BadTrace line) replay h = (
    h.0,
    quiet_two _ _ _ r.refusals h.1,
    quiet_two _ _ _ r.rfaults h.2,
    quiet_two _ _ _ r.wfaults h.3,
    reads_since file (option_to_list replay) old.read mid.read new.read r.read h.4,
  )
  replay_before status.NoMemory replay h = (quiet_two _ _ _ r.refusals h.0, quiet_two _ _ _ r.rfaults h.1, quiet_two _ _ _ r.wfaults h.2, reads_since file (option_to_list replay) old.read mid.read new.read r.read h.3)
  replay_before (status.Refused f) replay h = absurd h
  replay_before (status.Unfit f) replay h = absurd h
  replay_before status.Done replay h = absurd h
  replay_before status.StreamFailed replay h = absurd h
  replay_before status.Stalled replay h = absurd h
  replay_before status.OutOfTurns replay h = absurd h
  replay_before (status.Misfit stage pick) replay h = absurd h
  replay_before status.WriteFault replay h = absurd h
  replay_before status.Usage replay h = absurd h

  -- which counts the call raised
  checked_causes : (s : Status) (a : Answer) (b : Blueprint) (trace replay : Option (List ℕ)) (turns : ℕ) → (IsTrue old.tells → SaysFile old file b) → IsFit b plugged.heads (taken_files file trace replay) → CausesChecked plugged s a b trace replay turns mid new → Causes plugged s a file trace replay turns old new
  checked_causes s a b trace replay turns says fit (inl h) = inl (replay_before s replay h)
  checked_causes s a b trace replay turns says fit (inr h) = inr (record {
    blueprint = b;
    says = says;
    fit = fit;
    plans = h.plans;
    follows = λ tells. follows_later old mid r.files tells replay b.nodes.items h.plans (h.follows (tells_behind old mid r.files tells));
    free = h.free;
    reads = reads_since file (option_to_list replay ++ inputs_of_nodes b.nodes.items) old.read mid.read new.read r.read h.reads;
    causes = causes_later plugged old mid new file (read_one text_limit old mid file t r) b h.plans trace turns a s h.causes;
  })

  pub causes_text : (s : Status) (a : Answer) (trace replay : Option (List ℕ)) (turns : ℕ) → CausesText plugged s a t (taken_files file trace replay) trace replay turns mid new → Causes plugged s a file trace replay turns old new
  causes_text s a trace replay turns (inl h) = inl (quiet_before s replay h)
  causes_text s a trace replay turns (inr h) = checked_causes s a h.0 trace replay turns (λ tells. denotes_read old mid file t h.0 tells r h.1.0) h.1.1.fit h.1.1.causes

-- what is said of the counts before a run, by the status
pub causes_before : (plugged : Plugged) (s t : Status) (a : Answer) (file : List ℕ) (trace replay : Option (List ℕ)) (turns : ℕ) (old new : FolderState) → s ≡ t → CausesBefore t file replay old new → Causes plugged s a file trace replay turns old new
causes_before plugged s t a file trace replay turns old new e h = inl (subst (λ x. CausesBefore x file replay old new) (sym e) h)

-- ---- statuses before a run

quiet_here : (s : FolderState) → AllQuiet s s
quiet_here s = record { refusals = λ n. grew_same _ _ refl; rfaults = λ n. grew_same _ _ refl; wfaults = λ n. grew_same _ _ refl; read = λ n. grew_same _ _ refl }

nothing_here : (s : FolderState) (a : Answer) → Blank a → RanNothing s s a
nothing_here s a b = record { files = record { telling = refl; files = λ h n. refl }; blank = b }

-- a blueprint that breaks a rule is not run
unfit_by : (plugged : Plugged) (s : FolderState) (a : Answer) (b : Blueprint) (taken : List (List ℕ)) (f : CheckFault) → (a.status ≡ status.Unfit f) ⊎ (a.status ≡ status.NoMemory) → Blank a → IsFirstFault b plugged.heads taken f → NotFit plugged a.status a b taken s s
unfit_by plugged s a b taken f (inl e) blank first = subst (λ x. NotFit plugged x a b taken s s) (sym e) (nothing_here s a blank, first)
unfit_by plugged s a b taken f (inr e) blank first = subst (λ x. NotFit plugged x a b taken s s) (sym e) (nothing_here s a blank)

pub unfit_told : (plugged : Plugged) (s : FolderState) (a : Answer) (b : Blueprint) (taken : List (List ℕ)) (trace replay : Option (List ℕ)) (turns : ℕ) (f : CheckFault) → (a.status ≡ status.Unfit f) ⊎ (a.status ≡ status.NoMemory) → Blank a → IsFirstFault b plugged.heads taken f
    → EndedParsed plugged a.status a b taken trace replay turns s s
unfit_told plugged s a b taken trace replay turns f is blank first = inl (unfit_by plugged s a b taken f is blank first)

-- nor is what breaks a rule on modules
flat_by : (s : FolderState) (a : Answer) (t : PlainText) (f : CheckFault) → (a.status ≡ status.Unfit f) ⊎ (a.status ≡ status.NoMemory) → Blank a → modules_fault t ≡ Some f → NotFlat a.status a t s s
flat_by s a t f (inl e) blank first = subst (λ x. NotFlat x a t s s) (sym e) (nothing_here s a blank, first)
flat_by s a t f (inr e) blank first = subst (λ x. NotFlat x a t s s) (sym e) (nothing_here s a blank)

pub flat_told : (plugged : Plugged) (s : FolderState) (a : Answer) (t : PlainText) (taken : List (List ℕ)) (trace replay : Option (List ℕ)) (turns : ℕ) (f : CheckFault) → (a.status ≡ status.Unfit f) ⊎ (a.status ≡ status.NoMemory) → Blank a → modules_fault t ≡ Some f
    → EndedSaid plugged a.status a t taken trace replay turns s s
flat_told plugged s a t taken trace replay turns f is blank first = inl (flat_by s a t f is blank first)

-- what is so of these heads is so of what is known of the plugs and the custom stages that have them
pub as_handed : {L H : Type 0} (P : HeadLists → Type 0) (plugs : List (Plug L)) (customs : List (Custom H)) (heads : List PlugHead) (shapes : List CustomHead) → heads ≡ map (λ (p : Plug L). p.head) plugs → map head_shape shapes ≡ map (λ (c : Custom H). head_shape c.head) customs
    → P (record { plugs = heads; customs = map head_shape shapes }) → P (handed_heads plugs customs)
as_handed {L} P plugs customs heads shapes same alike holds =
    subst (λ (l : List CustomShape). P (record { plugs = map (λ (p : Plug L). p.head) plugs; customs = l })) alike
    (subst (λ (l : List PlugHead). P (record { plugs = l; customs = map head_shape shapes })) same holds)

-- a blueprint that was found fit is the one that was parsed
pub causes_parsed : (plugged : Plugged) (s : Status) (a : Answer) (b c : Blueprint) (taken : List (List ℕ)) (trace replay : Option (List ℕ)) (turns : ℕ) (old new : FolderState) → IsFit b plugged.heads taken → c ≡ b → CausesChecked plugged s a c trace replay turns old new
    → CausesParsed plugged s a b taken trace replay turns old new
causes_parsed plugged s a b c taken trace replay turns old new fit same h = inr (record {
  fit = fit;
  causes = subst (λ x. CausesChecked plugged s a x trace replay turns old new) same h;
})

-- it is the one of what is said
pub causes_flat : (plugged : Plugged) (s : Status) (a : Answer) (t : PlainText) (b : Blueprint) (taken : List (List ℕ)) (trace replay : Option (List ℕ)) (turns : ℕ) (old new : FolderState) → IsFlat t (plain b) → CausesParsed plugged s a b taken trace replay turns old new → CausesSaid plugged s a t taken trace replay turns old new
causes_flat plugged s a t b taken trace replay turns old new flat (inl h) = inl h
causes_flat plugged s a t b taken trace replay turns old new flat (inr h) = inr (b, (flat, h))

-- and that of what the text says
pub causes_said : (plugged : Plugged) (s : Status) (a : Answer) (text : List ℕ) (t : PlainText) (taken : List (List ℕ)) (trace replay : Option (List ℕ)) (turns : ℕ) (old new : FolderState) → language.Says text t → CausesSaid plugged s a t taken trace replay turns old new → CausesText plugged s a text taken trace replay turns old new
causes_said plugged s a text t taken trace replay turns old new says (inl h) = inl h
causes_said plugged s a text t taken trace replay turns old new says (inr h) = inr (h.0, (record { text = t; says = says; flat = h.1.0 }, h.1.1))

-- the trace's file is taken, so it is none of the blueprint's
pub apart_of : (plugged : Plugged) (b c : Blueprint) (taken : List (List ℕ)) (trace : Option (List ℕ)) → IsFit b plugged.heads taken → c ≡ b → ((t : List ℕ) → trace ≡ Some t → Contains taken t) → IsApart c trace
apart_of plugged b c taken trace fit same among = subst (λ x. IsApart x trace) (sym same)
    (λ t e. ((λ input. inputs_untaken b plugged.heads taken fit t input (among t e)), (λ output. outputs_untaken b plugged.heads taken fit t output (among t e))))

-- nor is the file of moves, which is taken too, one of its sources
pub read_apart_of : (plugged : Plugged) (b c : Blueprint) (taken : List (List ℕ)) (replay : Option (List ℕ)) → IsFit b plugged.heads taken → c ≡ b → ((t : List ℕ) → replay ≡ Some t → Contains taken t) → IsReadApart c replay
read_apart_of plugged b c taken replay fit same among = subst (λ x. IsReadApart x replay) (sym same) (λ t e input. inputs_untaken b plugged.heads taken fit t input (among t e))

-- a name that is not the first stands behind it
behind_first : (t : List ℕ) (names : List (List ℕ)) (n : List ℕ) → (t ≡ n → ⊥) → Contains (t ∷ names) n → Contains names n
behind_first t names n other c = by_place c.0 c.1 c.2
  where
    by_place : (i : ℕ) → i < length (t ∷ names) → slice_index_or (t ∷ names) i n ≡ n → Contains names n
    by_place zero within at = absurd (other at)
    by_place (suc i) within at = (i, omega (arith, within), at)

-- of a file that is taken no more is read, but of the file of moves
behind_moves : (names : List (List ℕ)) (replay : Option (List ℕ)) (n : List ℕ) → replay ≢ Some n → Contains (option_to_list replay ++ names) n → Contains names n
behind_moves names None n other c = c
behind_moves names (Some t) n other c = behind_first t names n (λ e. other (ap Some e)) c

pub reads_parsed : (plugged : Plugged) (b c : Blueprint) (taken : List (List ℕ)) (replay : Option (List ℕ)) (old new : List ℕ → ℕ) → IsFit b plugged.heads taken → c ≡ b → QuietButAll (option_to_list replay ++ inputs_of_nodes c.nodes.items) old new
    → (n : List ℕ) → Contains taken n → replay ≢ Some n → Grew (old n) 0 (new n)
reads_parsed plugged b c taken replay old new fit same quiet n among other =
    let its : QuietButAll (option_to_list replay ++ inputs_of_nodes b.nodes.items) old new = subst (λ x. QuietButAll (option_to_list replay ++ inputs_of_nodes x.nodes.items) old new) same quiet in
    its n (λ c. inputs_untaken b plugged.heads taken fit n (behind_moves (inputs_of_nodes b.nodes.items) replay n other c) among)

pub reads_checked : (b c : Blueprint) (replay : Option (List ℕ)) (old new : List ℕ → ℕ) → c ≡ b → QuietButAll (option_to_list replay ++ inputs_of_nodes c.nodes.items) old new → QuietButAll (option_to_list replay ++ inputs_of_nodes b.nodes.items) old new
reads_checked b c replay old new same quiet = subst (λ x. QuietButAll (option_to_list replay ++ inputs_of_nodes x.nodes.items) old new) same quiet

-- how the sinks stand, where the trace's name is a copy
pub sinks_text : (s : Status) (a : Answer) (path trace : Option (List ℕ)) → path ≡ trace → SinksOf s a path → SinksOf s a trace
sinks_text s a path trace e h = subst (SinksOf s a) e h

-- the trace's file and that of the moves are among those that are taken
trace_taken : (file : List ℕ) (trace replay : Option (List ℕ)) (t : List ℕ) → trace ≡ Some t → Contains (taken_files file trace replay) t
trace_taken file None replay t e = absurd cc
trace_taken file (Some u) replay t e = let same : u ≡ t = cc in (1, omega arith, same)

moves_taken : (file : List ℕ) (trace replay : Option (List ℕ)) (t : List ℕ) → replay ≡ Some t → Contains (taken_files file trace replay) t
moves_taken file trace None t e = absurd cc
moves_taken file None (Some u) t e = let same : u ≡ t = cc in (1, omega arith, same)
moves_taken file (Some v) (Some u) t e = let same : u ≡ t = cc in (2, omega arith, same)

pub trace_among : (file : List ℕ) (trace replay path : Option (List ℕ)) (taken : List (List ℕ)) → path ≡ trace → taken ≡ taken_files file trace replay → (t : List ℕ) → path ≡ Some t → Contains taken t
trace_among file trace replay path taken e is t at = subst (λ (l : List (List ℕ)). Contains l t) (sym is) (trace_taken file trace replay t (sym e ∙ at))

pub moves_among : (file : List ℕ) (trace replay moves : Option (List ℕ)) (taken : List (List ℕ)) → moves ≡ replay → taken ≡ taken_files file trace replay → (t : List ℕ) → moves ≡ Some t → Contains taken t
moves_among file trace replay moves taken e is t at = subst (λ (l : List (List ℕ)). Contains l t) (sym is) (moves_taken file trace replay t (sym e ∙ at))

-- of no other file than these anything was read
pub unread_or : (file : List ℕ) (replay : Option (List ℕ)) (old new : List ℕ → ℕ) → ((n : List ℕ) → n ≢ file → new n ≡ old n) → QuietButAll (file ∷ option_to_list replay) old new
unread_or file replay old new same n never = grew_same _ _ (same n (λ e. never (0, omega arith, sym e)))

-- the file that was read is taken
pub reads_text : (old mid new : List ℕ → ℕ) (file : List ℕ) (trace replay moves : Option (List ℕ)) (taken : List (List ℕ)) → moves ≡ replay → taken ≡ taken_files file trace replay → GrewAtMost (old file) text_limit (mid file) → QuietAmong taken moves mid new → replay ≢ Some file
    → GrewAtMost (old file) text_limit (new file)
reads_text old mid new file trace replay moves taken e is most quiet apart =
    most_later (old file) (mid file) (new file) text_limit most (quiet file (subst (λ (l : List (List ℕ)). Contains l file) (sym is) (0, omega arith, refl)) (λ f. apart (sym e ∙ f)))

-- and the file of moves, where it is another
pub moves_text : (old mid new : List ℕ → ℕ) (file : List ℕ) (replay moves : Option (List ℕ)) → moves ≡ replay → ((n : List ℕ) → n ≢ file → mid n ≡ old n) → ReadsMost moves mid new → (t : List ℕ) → replay ≡ Some t → t ≢ file → GrewAtMost (old t) plan_limit (new t)
moves_text old mid new file replay moves e same most t is other = subst (λ (k : ℕ). GrewAtMost k plan_limit (new t)) (same t other) (most t (e ∙ is))
