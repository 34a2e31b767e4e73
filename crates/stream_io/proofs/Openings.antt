-- Openings that follow one another.
use Rattle.std.proofs.Common.{◌≡◌, ℕ, inl, inr, List, [], ◌∷◌, ◌++◌, map, Some, refl, sym, ap, ◌∙◌, subst}
use Rattle.std.specs.Prelude.{IsTrue, IsSome}
use Rattle.std.specs.List.{All, Contains}
use Rattle.std.proofs.lemmas.List.{map-append}
use Rattle.std.proofs.lemmas.List.Elements.{All-nil, All-push, All-weaker, Contains-append_left, Contains-push}
use Rattle.stream_io.specs.State.{FolderState, SourceState, DrainState, SameFiles, SameFaults, SameRefusals, OpensSource, OpensDrain}
use Rattle.stream_io.specs.Opening.{AtStart, HoldsNone, Empties, OpensAll}
use Rattle.stream_io.proofs.Counts.{quiet_same, quiet_two, same_name}
use Rattle.stream_io.proofs.Lists.{contains_none}

-- a folder that tells still told before, so that a drain stands as it stood
pub drains_stay : (t u : FolderState) (os : List DrainState) → (IsTrue u.tells → IsTrue t.tells) → All (HoldsNone t) os → All (HoldsNone u) os
drains_stay t u os told all = All-weaker (HoldsNone t) (HoldsNone u) (λ o at. record { holds = λ h. at.holds (told h); faults = at.faults }) os all

pub empties_none : (s : FolderState) → Empties s s []
empties_none s = record { told = λ h. h; still = λ e. refl; emptied = λ h. All-nil _; others = λ h n no. refl }

-- where no file was emptied, or changed, the folder still tells
pub tells_still : (s t : FolderState) → s.tells ≡ t.tells → IsTrue t.tells → IsTrue s.tells
tells_still s t e h = subst (λ b. IsTrue b) (sym e) h

-- one input more
pub opens_source : (s t u : FolderState) (inputs : List (List ℕ)) (n : List ℕ) (is : List SourceState) (i : SourceState) → OpensAll s t inputs [] is [] → OpensSource t n i → SameFiles t u → SameFaults t u → SameRefusals t u → OpensAll s u (inputs ++ n ∷ []) [] (is ++ i ∷ []) []
opens_source s t u inputs n is i was opened same faults refusals = record {
  input_names = map-append (λ (j : SourceState). j.name) is (i ∷ []) ∙ ap (λ l. l ++ i.name ∷ []) was.input_names ∙ ap (λ m. inputs ++ m ∷ []) opened.name_is;
  sources =
      All-push (AtStart s) is i was.sources
      (let tells : IsTrue s.tells → IsTrue t.tells = tells_still t s (was.files.still refl) in
      let file : IsTrue s.tells → t.file n ≡ s.file i.name = λ h. was.files.others (tells h) n (contains_none n) ∙ ap s.file (sym opened.name_is) in
      record {
        there = λ h. subst (λ f. IsSome f) (file h) (opened.there (tells h));
        whole = λ h. opened.whole (tells h) ∙ file h;
        given = opened.given;
        faults = opened.faults;
      });
  output_names = refl;
  drains = All-nil _;
  files =
      let tells : IsTrue u.tells → IsTrue t.tells = tells_still t u (sym same.telling) in
      record {
        told = λ h. was.files.told (tells h);
        still = λ e. same.telling ∙ was.files.still refl;
        emptied = λ h. All-nil _;
        others = λ h m no. same.files (tells h) m ∙ was.files.others (tells h) m no;
      };
  read = λ m. faults.read m ∙ was.read m;
  refusals = quiet_two s.refusals t.refusals u.refusals was.refusals (quiet_same _ _ refusals);
  rfaults = quiet_two s.rfaults t.rfaults u.rfaults was.rfaults (quiet_same _ _ faults.rfaults);
  wfaults = quiet_two s.wfaults t.wfaults u.wfaults was.wfaults (quiet_same _ _ faults.wfaults);
}

no_push : (names : List (List ℕ)) (n : List ℕ) → names ++ n ∷ [] ≡ [] → ⊥
no_push [] n e = cc
no_push (m ∷ ms) n e = cc

-- one output more, which may have the name of an earlier one
pub empties_more : (s t u : FolderState) (names : List (List ℕ)) (n : List ℕ) (o : DrainState) → Empties s t names → OpensDrain t u n o → Empties s u (names ++ n ∷ [])
empties_more s t u names n o was opened = record {
  told = λ h. was.told (opened.told h);
  still = λ e. absurd (no_push names n e);
  emptied = λ h.
      All-push (λ m. u.file m ≡ Some []) names n
      (All-weaker (λ m. t.file m ≡ Some []) (λ m. u.file m ≡ Some []) (λ m old. elim (same_name m n) [
        | inl e ↦ (ap u.file e ∙ opened.emptied h)
        | inr differs ↦ (opened.others h m differs ∙ old)
      ]) names (was.emptied (opened.told h)))
      (opened.emptied h);
  others = λ h m no.
      opened.others h m (λ e. no (subst (λ k. Contains (names ++ n ∷ []) k) (sym e) (Contains-push names n)))
      ∙ was.others (opened.told h) m (λ among. no (Contains-append_left names (n ∷ []) m among));
}

pub opens_drain : (s t u : FolderState) (outputs : List (List ℕ)) (n : List ℕ) (os : List DrainState) (o : DrainState) → OpensAll s t [] outputs [] os → OpensDrain t u n o → SameFaults t u → SameRefusals t u → OpensAll s u [] (outputs ++ n ∷ []) [] (os ++ o ∷ [])
opens_drain s t u outputs n os o was opened faults refusals = record {
  input_names = refl;
  sources = All-nil _;
  output_names = map-append (λ (p : DrainState). p.name) os (o ∷ []) ∙ ap (λ l. l ++ o.name ∷ []) was.output_names ∙ ap (λ m. outputs ++ m ∷ []) opened.name_is;
  drains = All-push (HoldsNone u) os o (drains_stay t u os opened.told was.drains) (record { holds = opened.holds; faults = opened.faults });
  files = empties_more s t u outputs n o was.files opened;
  read = λ m. faults.read m ∙ was.read m;
  refusals = quiet_two s.refusals t.refusals u.refusals was.refusals (quiet_same _ _ refusals);
  rfaults = quiet_two s.rfaults t.rfaults u.rfaults was.rfaults (quiet_same _ _ faults.rfaults);
  wfaults = quiet_two s.wfaults t.wfaults u.wfaults was.wfaults (quiet_same _ _ faults.wfaults);
}

-- first the inputs and then the outputs
pub opens_both : (s t u : FolderState) (inputs outputs : List (List ℕ)) (is : List SourceState) (os : List DrainState) → OpensAll s t inputs [] is [] → OpensAll t u [] outputs [] os → OpensAll s u inputs outputs is os
opens_both s t u inputs outputs is os first then = record {
  input_names = first.input_names;
  sources = first.sources;
  output_names = then.output_names;
  drains = then.drains;
  files = record {
    told = λ h. first.files.told (then.files.told h);
    still = λ e. then.files.still e ∙ first.files.still refl;
    emptied = then.files.emptied;
    others = λ h n no. then.files.others h n no ∙ first.files.others (then.files.told h) n (contains_none n);
  };
  read = λ n. then.read n ∙ first.read n;
  refusals = quiet_two s.refusals t.refusals u.refusals first.refusals then.refusals;
  rfaults = quiet_two s.rfaults t.rfaults u.rfaults first.rfaults then.rfaults;
  wfaults = quiet_two s.wfaults t.wfaults u.wfaults first.wfaults then.wfaults;
}

-- one more, of a list that was mapped
pub source_next : {A : Type 0} (state : A → SourceState) (s t u : FolderState) (inputs : List (List ℕ)) (n : List ℕ) (done all : List A) (x : A) → all ≡ done ++ x ∷ [] → OpensAll s t inputs [] (map state done) [] → OpensSource t n (state x) → SameFiles t u → SameFaults t u → SameRefusals t u → OpensAll s u (inputs ++ n ∷ []) [] (map state all) []
source_next state s t u inputs n done all x e was opened same faults refusals =
    subst (λ is. OpensAll s u (inputs ++ n ∷ []) [] is []) (sym (ap (λ l. map state l) e ∙ map-append state done (x ∷ []))) (opens_source s t u inputs n (map state done) (state x) was opened same faults refusals)

pub drain_next : {A : Type 0} (state : A → DrainState) (s t u : FolderState) (outputs : List (List ℕ)) (n : List ℕ) (done all : List A) (x : A) → all ≡ done ++ x ∷ [] → OpensAll s t [] outputs [] (map state done) → OpensDrain t u n (state x) → SameFaults t u → SameRefusals t u → OpensAll s u [] (outputs ++ n ∷ []) [] (map state all)
drain_next state s t u outputs n done all x e was opened faults refusals =
    subst (λ os. OpensAll s u [] (outputs ++ n ∷ []) [] os) (sym (ap (λ l. map state l) e ∙ map-append state done (x ∷ []))) (opens_drain s t u outputs n (map state done) (state x) was opened faults refusals)
