-- Closings that follow one another.
use Rattle.std.proofs.Common.{◌≡◌, ◌≢◌, ℕ, inl, inr, List, [], ◌∷◌, ◌++◌, map, refl, sym, ap, ◌∙◌, subst}
use Rattle.std.specs.Prelude.{IsTrue}
use Rattle.std.specs.List.{Contains}
use Rattle.std.proofs.lemmas.List.{map-append}
use Rattle.std.proofs.lemmas.List.Elements.{All-nil, All-push, Contains-append_left, Contains-push}
use Rattle.stream_io.specs.Counts.{Grew}
use Rattle.stream_io.specs.State.{FolderState, SourceState, DrainState, SameFiles, ClosesSource, ClosesDrain}
use Rattle.stream_io.specs.Names.{drain_names, DistinctNames}
use Rattle.stream_io.specs.Closing.{Adds, KeepsFiles, ClosesAll}
use Rattle.stream_io.proofs.Counts.{grew_same, grew_two, quiet_same, quiet_two, same_name}
use Rattle.stream_io.proofs.Openings.{tells_still}
use Rattle.stream_io.proofs.Lists.{all_with, all_left, all_last, contains_none, contains_map, distinct_left, distinct_last}

module _ {X : Type 0} (name : X → List ℕ) (amount : X → ℕ) where
  -- no handle adds nothing
  pub adds_none : (f g : List ℕ → ℕ) → ((n : List ℕ) → g n ≡ f n) → Adds name amount [] f g
  adds_none f g e = record {
    each = λ d. All-nil _;
    others = λ n no. e n;
    quiet = λ all. quiet_same f g e;
  }

  -- one handle more
  pub adds_more : (xs : List X) (x : X) (f g h : List ℕ → ℕ) → Adds name amount xs f g → Grew (g (name x)) (amount x) (h (name x)) → ((n : List ℕ) → n ≢ name x → h n ≡ g n) → Adds name amount (xs ++ x ∷ []) f h
  adds_more xs x f g h was grew others =
      let names : map name (xs ++ x ∷ []) ≡ map name xs ++ name x ∷ [] = map-append name xs (x ∷ []) in
      record {
        each = λ d.
            let apart : DistinctNames (map name xs ++ name x ∷ []) = subst (λ ns. DistinctNames ns) names d in
            let new : ¬ (Contains (map name xs) (name x)) = distinct_last (map name xs) (name x) apart in
            All-push (λ y. Grew (f (name y)) (amount y) (h (name y))) xs x
            (all_with (λ y. Grew (f (name y)) (amount y) (g (name y))) (λ y. Grew (f (name y)) (amount y) (h (name y))) xs
            (λ y among old. subst (λ k. Grew (f (name y)) (amount y) k) (sym (others (name y) (λ e. new (subst (λ n. Contains (map name xs) n) e (contains_map name xs y among))))) old)
            (was.each (distinct_left (map name xs) (name x) apart)))
            (subst (λ k. Grew k (amount x) (h (name x))) (was.others (name x) new) grew);
        others = λ n no.
            let no_more : ¬ (Contains (map name xs ++ name x ∷ []) n) = subst (λ ns. ¬ (Contains ns n)) names no in
            others n (λ e. no_more (subst (λ m. Contains (map name xs ++ name x ∷ []) m) (sym e) (Contains-push (map name xs) (name x))))
            ∙ was.others n (λ among. no_more (Contains-append_left (map name xs) (name x ∷ []) n among));
        quiet = λ all n.
            let none : amount x ≡ 0 = all_last (λ y. amount y ≡ 0) xs x all in
            let before : Grew (f n) 0 (g n) = was.quiet (all_left (λ y. amount y ≡ 0) xs (x ∷ []) all) n in
            elim (same_name n (name x)) [
              | inl e ↦ grew_two (f n) (g n) (h n) 0 0 before (subst (λ m. Grew (g m) 0 (h m)) (sym e) (subst (λ k. Grew (g (name x)) k (h (name x))) none grew))
              | inr differs ↦ grew_two (f n) (g n) (h n) 0 0 before (grew_same (g n) (h n) (others n differs))
            ];
      }

  -- counts that stay as they are before, or behind
  pub adds_behind : (xs : List X) (f g h : List ℕ → ℕ) → Adds name amount xs f g → ((n : List ℕ) → h n ≡ g n) → Adds name amount xs f h
  adds_behind xs f g h was same = record {
    each = λ d. all_with (λ y. Grew (f (name y)) (amount y) (g (name y))) (λ y. Grew (f (name y)) (amount y) (h (name y))) xs (λ y _ old. subst (λ k. Grew (f (name y)) (amount y) k) (sym (same (name y))) old) (was.each d);
    others = λ n no. same n ∙ was.others n no;
    quiet = λ all. quiet_two f g h (was.quiet all) (quiet_same g h same);
  }

  pub adds_before : (xs : List X) (f g h : List ℕ → ℕ) → ((n : List ℕ) → g n ≡ f n) → Adds name amount xs g h → Adds name amount xs f h
  adds_before xs f g h same was = record {
    each = λ d. all_with (λ y. Grew (g (name y)) (amount y) (h (name y))) (λ y. Grew (f (name y)) (amount y) (h (name y))) xs (λ y _ old. subst (λ k. Grew k (amount y) (h (name y))) (same (name y)) old) (was.each d);
    others = λ n no. was.others n no ∙ same n;
    quiet = λ all. quiet_two f g h (quiet_same f g same) (was.quiet all);
  }

-- where no drain is closed no file is changed
pub keeps_none : (s t : FolderState) → SameFiles s t → KeepsFiles s t []
keeps_none s t same =
    let told : IsTrue t.tells → IsTrue s.tells = tells_still s t (sym same.telling) in
    record {
      told = told;
      still = λ e. same.telling;
      each = λ d tells. All-nil _;
      alike = λ held all tells. All-nil _;
      others = λ tells n no. same.files (told tells) n;
    }

no_push : (os : List DrainState) (o : DrainState) → os ++ o ∷ [] ≡ [] → ⊥
no_push [] o e = cc
no_push (p ∷ ps) o e = cc

pub keeps_more : (s t u : FolderState) (os : List DrainState) (o : DrainState) → KeepsFiles s t os → ClosesDrain t u o → KeepsFiles s u (os ++ o ∷ [])
keeps_more s t u os o was closed =
    let names : drain_names (os ++ o ∷ []) ≡ drain_names os ++ o.name ∷ [] = map-append (λ (p : DrainState). p.name) os (o ∷ []) in
    record {
      told = λ tells. was.told (closed.told tells);
      still = λ e. absurd (no_push os o e);
      each = λ d tells.
          let apart : DistinctNames (drain_names os ++ o.name ∷ []) = subst (λ ns. DistinctNames ns) names d in
          let new : ¬ (Contains (drain_names os) o.name) = distinct_last (drain_names os) o.name apart in
          All-push (λ p. u.file p.name ≡ p.holds) os o
          (all_with (λ p. t.file p.name ≡ p.holds) (λ p. u.file p.name ≡ p.holds) os
          (λ p among old. closed.others tells p.name (λ e. new (subst (λ n. Contains (drain_names os) n) e (contains_map (λ (q : DrainState). q.name) os p among))) ∙ old)
          (was.each (distinct_left (drain_names os) o.name apart) (closed.told tells)))
          (closed.file tells);
      alike = λ held all tells.
          All-push (λ p. u.file p.name ≡ held) os o
          (all_with (λ p. t.file p.name ≡ held) (λ p. u.file p.name ≡ held) os
          (λ p _ old. elim (same_name p.name o.name) [
            | inl e ↦ (ap u.file e ∙ closed.file tells ∙ all_last (λ (q : DrainState). q.holds ≡ held) os o all)
            | inr differs ↦ (closed.others tells p.name differs ∙ old)
          ])
          (was.alike held (all_left (λ (q : DrainState). q.holds ≡ held) os (o ∷ []) all) (closed.told tells)))
          (closed.file tells ∙ all_last (λ (q : DrainState). q.holds ≡ held) os o all);
      others = λ tells n no.
          let no_more : ¬ (Contains (drain_names os ++ o.name ∷ []) n) = subst (λ ns. ¬ (Contains ns n)) names no in
          closed.others tells n (λ e. no_more (subst (λ m. Contains (drain_names os ++ o.name ∷ []) m) (sym e) (Contains-push (drain_names os) o.name)))
          ∙ was.others (closed.told tells) n (λ among. no_more (Contains-append_left (drain_names os) (o.name ∷ []) n among));
    }

-- files that no drain's closing changed before are as they were then
pub keeps_before : (s t u : FolderState) (os : List DrainState) → SameFiles s t → KeepsFiles t u os → KeepsFiles s u os
keeps_before s t u os same was =
    let told : IsTrue t.tells → IsTrue s.tells = tells_still s t (sym same.telling) in
    record {
      told = λ tells. told (was.told tells);
      still = λ e. was.still e ∙ same.telling;
      each = was.each;
      alike = was.alike;
      others = λ tells n no. was.others tells n no ∙ same.files (told (was.told tells)) n;
    }

pub same_files : (s t : FolderState) → KeepsFiles s t [] → SameFiles s t
same_files s t none = record {
  telling = none.still refl;
  files = λ tells n. none.others (tells_still t s (none.still refl) tells) n (contains_none n);
}

-- ---- sources and drains

pub closes_source : (s t u : FolderState) (is : List SourceState) (i : SourceState) → ClosesAll s t is [] → ClosesSource t u i → SameFiles t u → ClosesAll s u (is ++ i ∷ []) []
closes_source s t u is i was closed same = record {
  read = adds_more _ _ is i s.read t.read u.read was.read closed.read closed.other_read;
  rfaults = adds_more _ _ is i s.rfaults t.rfaults u.rfaults was.rfaults closed.rfaults closed.other_rfaults;
  wfaults = adds_behind _ _ [] s.wfaults t.wfaults u.wfaults was.wfaults closed.wfaults;
  files = keeps_before s t u [] (same_files s t was.files) (keeps_none t u same);
  refusals = λ n. closed.refusals n ∙ was.refusals n;
}

pub closes_drain : (s t u : FolderState) (os : List DrainState) (o : DrainState) → ClosesAll s t [] os → ClosesDrain t u o → ClosesAll s u [] (os ++ o ∷ [])
closes_drain s t u os o was closed = record {
  read = adds_behind _ _ [] s.read t.read u.read was.read closed.read;
  rfaults = adds_behind _ _ [] s.rfaults t.rfaults u.rfaults was.rfaults closed.rfaults;
  wfaults = adds_more _ _ os o s.wfaults t.wfaults u.wfaults was.wfaults closed.wfaults closed.other_wfaults;
  files = keeps_more s t u os o was.files closed;
  refusals = λ n. closed.refusals n ∙ was.refusals n;
}

-- first the sources and then the drains
pub closes_both : (s t u : FolderState) (is : List SourceState) (os : List DrainState) → ClosesAll s t is [] → ClosesAll t u [] os → ClosesAll s u is os
closes_both s t u is os first then = record {
  read = adds_behind _ _ is s.read t.read u.read first.read (λ n. then.read.others n (contains_none n));
  rfaults = adds_behind _ _ is s.rfaults t.rfaults u.rfaults first.rfaults (λ n. then.rfaults.others n (contains_none n));
  wfaults = adds_before _ _ os s.wfaults t.wfaults u.wfaults (λ n. first.wfaults.others n (contains_none n)) then.wfaults;
  files = keeps_before s t u os (same_files s t first.files) then.files;
  refusals = λ n. then.refusals n ∙ first.refusals n;
}

-- one more, of a list that was mapped
pub closes_next : {A : Type 0} (state : A → SourceState) (s t u : FolderState) (done all : List A) (x : A) → all ≡ done ++ x ∷ [] → ClosesAll s t (map state done) [] → ClosesSource t u (state x) → SameFiles t u → ClosesAll s u (map state all) []
closes_next state s t u done all x e was closed same = subst (λ is. ClosesAll s u is []) (sym (ap (λ l. map state l) e ∙ map-append state done (x ∷ []))) (closes_source s t u (map state done) (state x) was closed same)

pub keeps_next : {A : Type 0} (state : A → DrainState) (s t u : FolderState) (done all : List A) (x : A) → all ≡ done ++ x ∷ [] → ClosesAll s t [] (map state done) → ClosesDrain t u (state x) → ClosesAll s u [] (map state all)
keeps_next state s t u done all x e was closed = subst (λ os. ClosesAll s u [] os) (sym (ap (λ l. map state l) e ∙ map-append state done (x ∷ []))) (closes_drain s t u (map state done) (state x) was closed)
