-- A valid text and inputs and no fault leave the answers of a run.
use Rattle.std.proofs.Common.{◌≡◌, ℕ, suc, ◌<◌, ◌≤◌, ◌∷◌, ◌++◌, [], List, length, arith, ◌⊎◌, inl, inr, refl, sym, ap, ◌∙◌, subst, slice_get}
use Rattle.std.specs.Prelude.{Option, Some, None, IsTrue, IsSome}
use Rattle.std.specs.Option.{option_map}
use Rattle.stream_model.specs.Graph.{Edge}
use Rattle.stream_io.specs.State.{FolderState}
use Rattle.stream_model.specs.declared.blueprint.Blueprint.{Blueprint}
use Rattle.blue_lang.specs.Texts as language
use Rattle.blue_lang.proofs.Texts.{one_text}
use Rattle.blue_modules.specs.Text.{PlainText}
use Rattle.blue_check.specs.Fitness.{IsFit, IsFirstFault, IsClosedFault}
use Rattle.blue_check.specs.Meaning.{as_check_fault, modules_fault, BreaksRule}
use Rattle.blue_check.specs.Wires.{blueprint_wires}
use Rattle.blue_check.specs.declared.fault.CheckFault.{CheckFault}
use Rattle.blue_check.specs.declared.fault.CheckFault.TheVariants as fault
use Rattle.blue_names.specs.Paths.{HasNoClosedWalk}
use Rattle.stream_model.specs.declared.blueprint.Node.{Node}
use Rattle.plan_reader.specs.Plans.{SaysPlans, IsFault}
use Rattle.plan_reader.specs.declared.plans.Chooser.{Chooser}
use Rattle.materializer.specs.Choosers.{choosers_in}
use Rattle.materializer.specs.Files.{inputs_of_nodes}
use Rattle.run_blueprint.proofs.Places.{all_at}
use Rattle.run_report.specs.Answer.{Answer}
use Rattle.run_report.specs.declared.outcome.Status.{Status}
use Rattle.run_report.specs.declared.outcome.Status.TheVariants as status
use Rattle.stream_command.specs.Asked.{Plugged, AskedRun}
use Rattle.stream_command.specs.Outcome.{taken_files, plan_limit, IsAbsent, IsBadTrace, LacksInput, LacksOutput, EndedBefore, EndedReplay, EndedRun, EndedChecked, SaysText, SaysFile, SaysFit, SaysMoves, Told, IsValid, RoseNowhere, RanWithoutFault}

some_same : {A : Type 0} {a b : A} → Some a ≡ Some b → a ≡ b
some_same e = cc

none_some : {A : Type 0} (o : Option A) (x : A) → o ≡ None → o ≡ Some x → ⊥
none_some o x e f = cc

absent_some : (o : Option (List ℕ)) → IsSome o → o ≡ None → ⊥
absent_some o h e = cc

-- a file that is there is absent only where its opening was refused
there_absent : (old new : FolderState) (n : List ℕ) → IsSome (old.file n) → RoseNowhere old new → IsAbsent old new n → ⊥
there_absent old new n there calm (inl h) = absent_some (old.file n) there h.1
there_absent old new n there calm (inr h) = calm.refusals n h

some_there : (o : Option (List ℕ)) (x : List ℕ) → o ≡ Some x → IsSome o
some_there o x e = rw e refl

at_middle : (before after : List (List ℕ)) (n : List ℕ) → (i : ℕ) × (slice_get (before ++ n ∷ after) i ≡ Some n)
at_middle [] after n = (0, refl)
at_middle (x ∷ xs) after n = let h = at_middle xs after n in (suc h.0, h.1)

-- a fit blueprint has no fault
closed_never : (ws : List Edge) (f : CheckFault) → HasNoClosedWalk ws → IsClosedFault ws f → ⊥
closed_never ws (fault.ClosedWalk i) none h = none.none i h.lies
closed_never ws (fault.TwoNames n) none h = h
closed_never ws (fault.NoSuchName n) none h = h
closed_never ws (fault.NoSuchPort i) none h = h
closed_never ws (fault.PortTwice i) none h = h
closed_never ws (fault.PortOpen n o p) none h = h
closed_never ws (fault.TypeClash i t w) none h = h
closed_never ws (fault.TooDeep n) none h = h
closed_never ws (fault.NoSuchPlug n) none h = h
closed_never ws (fault.PlugTwice n) none h = h
closed_never ws (fault.BadSize s) none h = h
closed_never ws (fault.NoSuchModule n) none h = h
closed_never ws (fault.PortName n p) none h = h
closed_never ws fault.TooLarge none h = h
closed_never ws (fault.HubWire i) none h = h

fit_never : (plugged : Plugged) (b : Blueprint) (taken : List (List ℕ)) (f : CheckFault) → IsFit b plugged.heads taken → IsFirstFault b plugged.heads taken f → ⊥
fit_never plugged b taken f fit (inl h) = none_some _ f fit.early h
fit_never plugged b taken f fit (inr h) = closed_never (blueprint_wires b) f fit.open_walks h.1

-- a file says one thing
same_text : (folder : FolderState) (file : List ℕ) (s t : PlainText) → SaysText folder file s → SaysText folder file t → s ≡ t
same_text folder file s t x y =
    let whole : x.whole ≡ y.whole = some_same (sym x.there ∙ y.there) in
    one_text y.whole s t (subst (λ w. language.Says w s) whole x.says) y.says

-- a text says moves or has a fault, and never both
abbrev pub OneReading : Type 0
OneReading = (choosers : List Chooser) (text : List ℕ) (ps : List (List ℕ)) (line : ℕ) → SaysPlans choosers text ps → IsFault choosers text line → ⊥

-- a text that says moves is not at fault
good_never : OneReading → (nodes : List Node) (line : ℕ) (text : List ℕ) → length text < plan_limit → (lists : List (List ℕ)) → SaysPlans (choosers_in nodes) text lists → IsBadTrace text nodes line → ⊥
good_never one nodes line text short lists says (inl h) = let long : plan_limit ≤ length text = h.1 in omega (arith, short, long)
good_never one nodes line text short lists says (inr h) = one (choosers_in nodes) text lists line says h.1

module _ (one : OneReading) (plugged : Plugged) (c : AskedRun) (old new : FolderState) (v : IsValid plugged c.file c.trace c.replay old) (calm : RoseNowhere old new) (a : Answer) where
  absent_never : (b : Blueprint) (n : List ℕ) → SaysFile old c.file b → LacksInput old new b n a ⊎ LacksOutput old new b c.trace n a → ⊥
  absent_never b n says (inl h) =
      let at = at_middle h.before h.after n in
      let among : slice_get (inputs_of_nodes b.nodes.items) at.0 ≡ Some n = ap (λ (x : List (List ℕ)). slice_get x at.0) h.place ∙ at.1 in
      there_absent old new n (all_at (λ m. IsSome (old.file m)) (inputs_of_nodes b.nodes.items) at.0 n (v.inputs b says) among) calm h.absent
  absent_never b n says (inr h) = calm.refusals n h.refused

  -- and it breaks no rule
  broken_never : (t : PlainText) (f : CheckFault) → SaysText old c.file t → BreaksRule t plugged.heads (taken_files c.file c.trace c.replay) f → ⊥
  broken_never t f says (inl h) =
      let same : t ≡ v.says.text = same_text old c.file t v.says.text says v.says.says in
      let none : modules_fault t ≡ None = ap modules_fault same ∙ ap (option_map as_check_fault) v.says.flat.fit in
      none_some (modules_fault t) f none h
  broken_never t f says (inr h) =
      fit_never plugged h.0 (taken_files c.file c.trace c.replay) f (v.fit h.0 (record { text = t; says = says; flat = h.1.0 })) h.1.1

  -- and moves for its stages are there, where they are to follow some
  module _ (b : Blueprint) (says : SaysFile old c.file b) where
    moves_never : (replay : Option (List ℕ)) (s : Status) → SaysMoves old replay b.nodes.items → EndedReplay s a b.nodes.items replay old new → RanWithoutFault s
    moves_never (Some f) (status.Missing n) moves h = absurd (there_absent old new f (some_there (old.file f) moves.0 moves.1.0) calm h.2)
    moves_never (Some f) status.ReadFault moves h = absurd (calm.rfaults f h.1)
    moves_never (Some f) (status.BadTrace line) moves h =
        let same : moves.0 ≡ h.1.0 = some_same (sym moves.1.0 ∙ h.1.1.0) in
        absurd (good_never one b.nodes.items line moves.0 moves.1.1.0 moves.1.1.1.0 moves.1.1.1.1 (subst (λ (x : List ℕ). IsBadTrace x b.nodes.items line) (sym same) h.1.1.1))
    moves_never None (status.Missing n) moves h = absurd h
    moves_never None status.ReadFault moves h = absurd h
    moves_never None (status.BadTrace line) moves h = absurd h
    moves_never replay status.NoMemory moves h = tt
    moves_never replay status.Done moves h = tt
    moves_never replay status.StreamFailed moves h = tt
    moves_never replay status.Stalled moves h = tt
    moves_never replay status.OutOfTurns moves h = tt
    moves_never replay (status.Misfit stage place) moves h = tt
    moves_never replay status.WriteFault moves h = absurd h
    moves_never replay status.Usage moves h = absurd h
    moves_never replay (status.Refused f) moves h = absurd h
    moves_never replay (status.Unfit f) moves h = absurd h

    run_completes : (s : Status) (plans : List (Option (List ℕ))) → EndedRun plugged s a b plans c.trace c.turns old new → RanWithoutFault s
    run_completes status.Done plans h = tt
    run_completes status.StreamFailed plans h = tt
    run_completes status.Stalled plans h = tt
    run_completes status.OutOfTurns plans h = tt
    run_completes (status.Misfit stage place) plans h = tt
    run_completes status.NoMemory plans h = tt
    run_completes status.WriteFault plans h = absurd (calm.wfaults h.2.file h.2.rose)
    run_completes (status.Missing n) plans h = absurd (absent_never b n says h)
    run_completes (status.BadTrace line) plans h = absurd h
    run_completes status.Usage plans h = absurd h
    run_completes status.ReadFault plans h = absurd h
    run_completes (status.Refused f) plans h = absurd h
    run_completes (status.Unfit f) plans h = absurd h

    checked_completes : (s : Status) → EndedChecked plugged s a b c.trace c.replay c.turns old new → RanWithoutFault s
    checked_completes s (inl h) = moves_never c.replay s (v.moves b says) h
    checked_completes s (inr h) = run_completes s h.0 h.1.1

  completes : (s : Status) → EndedBefore plugged s a c.file c.trace c.replay old new ⊎ ((b : Blueprint) × (SaysFit plugged old c.file c.trace c.replay b × EndedChecked plugged s a b c.trace c.replay c.turns old new)) → RanWithoutFault s
  completes s (inr h) = checked_completes h.0 h.1.0.says s h.1.1
  completes status.Done (inl h) = tt
  completes status.StreamFailed (inl h) = tt
  completes status.Stalled (inl h) = tt
  completes status.OutOfTurns (inl h) = tt
  completes (status.Misfit stage place) (inl h) = tt
  completes status.NoMemory (inl h) = tt
  completes (status.BadTrace line) (inl h) = absurd h
  completes status.Usage (inl h) = absurd h
  completes status.ReadFault (inl h) = absurd (calm.rfaults c.file h.1)
  completes status.WriteFault (inl h) = absurd h
  completes (status.Refused f) (inl h) =
      let same : h.1.0 ≡ v.says.says.whole = some_same (sym h.1.1.0 ∙ v.says.says.there) in
      absurd (none_some _ f v.says.says.says.faultless (subst (λ x. language.text_fault x ≡ Some f) same h.1.1.1))
  completes (status.Unfit f) (inl h) = absurd (broken_never h.1.0 f h.1.1.0 h.1.1.1)
  completes (status.Missing n) (inl h) = absurd (there_absent old new c.file (some_there (old.file c.file) v.says.says.whole v.says.says.there) calm h.2)

-- the answer to a valid call without faults
pub complete : OneReading → (plugged : Plugged) (c : AskedRun) (old new : FolderState) (a : Answer) → (IsTrue old.tells → Told plugged a c old new) → IsTrue old.tells → IsValid plugged c.file c.trace c.replay old → RoseNowhere old new → RanWithoutFault a.status
complete one plugged c old new a told tells v calm = completes one plugged c old new v calm a a.status (told tells)
