-- What an addition to the counts by name changes.
use Rattle.std.proofs.Common.{◌≡◌, ◌≢◌, ℕ, Bool, true, false, cond, List, [], ◌∷◌, refl, sym, ◌∙◌, arith}
use Rattle.std.specs.Cmp.Lexicographic.{same_text, other_text}
use Rattle.std.proofs.lemmas.Bool.{false≢true}
use Rattle.stream_io.specs.Counts.{Grew, Rose}
use Rattle.stream_io.specs.State.{SourceState, DrainState, RefusesName, SameFaults, ClosesSource, ClosesDrain}
use Rattle.stream_io.specs.Tally.{same_name, first_count, count_grown, counts_grown, tallied, folder_of_counts}
use Rattle.stream_io.specs.declared.tally.Counts.{Counts}

-- a name is itself
pub same_name-self : (n : List ℕ) → same_name n n ≡ true
same_name-self n =
    let P : Bool → Type 0 = λ b. (b ≡ same_name n n) → b ≡ true in
    elim (same_name n n) as (λ b. (b ≡ same_name n n) → same_name n n ≡ true) [ true ↦ λ e. sym e | false ↦ λ e. absurd (other_text n n e refl) ] refl

-- two names differ
pub same_name-other : (a b : List ℕ) → a ≢ b → same_name a b ≡ false
same_name-other a b other =
    elim (same_name a b) as (λ t. (t ≡ same_name a b) → same_name a b ≡ false) [ true ↦ λ e. absurd (other (same_text a b e)) | false ↦ λ e. sym e ] refl

-- what it means that the test of two names was true, or false
pub same_name-true : (a b : List ℕ) → same_name a b ≡ true → a ≡ b
same_name-true a b e = same_text a b (sym e)

pub count_grown-Grew : (a b : ℕ) → Grew a b (count_grown a b)
count_grown-Grew a b = record { stays = omega arith; grew = λ h. omega arith }

count_grown-none : (a b : ℕ) → b ≡ 0 → count_grown a b ≡ a
count_grown-none a b none = omega arith

-- one kind of count, after more was added
pub record Counted (f : Counts → ℕ) (old : List Counts) (more : Counts) (new : List Counts) : Type 0 where
  pub grew : Grew (first_count f old more.name) (f more) (first_count f new more.name)
  pub others : (n : List ℕ) → n ≢ more.name → first_count f new n ≡ first_count f old n

pub counted : (f : Counts → ℕ) → ((c m : Counts) → f (counts_grown c m) ≡ count_grown (f c) (f m)) → (cs : List Counts) (m : Counts) → Counted f cs m (tallied cs m)
counted f grows [] m =
    record {
      grew = rw (same_name-self m.name) (record { stays = omega arith; grew = λ _. omega arith });
      others = λ n other. rw (same_name-other m.name n (λ e. other (sym e))) refl;
    }
counted f grows (c ∷ cs) m =
    elim (same_name c.name m.name) as (λ t. (same_name c.name m.name ≡ t) → Counted f (c ∷ cs) m (cond t (counts_grown c m ∷ cs) (c ∷ tallied cs m))) [
      | true ↦ λ e. record {
        grew = rw (e, grows c m) (count_grown-Grew (f c) (f m));
        others = λ n other. let apart = same_name-other c.name n (λ s. other (sym s ∙ same_name-true c.name m.name e)) in rw apart refl;
      }
      | false ↦ λ e.
          let later = counted f grows cs m in
          record {
            grew = rw e later.grew;
            others = λ n other. elim (same_name c.name n) as (λ u. cond u (f c) (first_count f (tallied cs m) n) ≡ cond u (f c) (first_count f cs n)) [ true ↦ refl | false ↦ later.others n other ];
          }
    ] refl

-- no more of this kind was added
pub counted-none : (f : Counts → ℕ) → ((c m : Counts) → f (counts_grown c m) ≡ count_grown (f c) (f m)) → (cs : List Counts) (m : Counts) → f m ≡ 0 → (n : List ℕ) → first_count f (tallied cs m) n ≡ first_count f cs n
counted-none f grows [] m none n =
    elim (same_name m.name n) as (λ u. cond u (f m) 0 ≡ 0) [ true ↦ none | false ↦ refl ]
counted-none f grows (c ∷ cs) m none n =
    elim (same_name c.name m.name) as (λ t. (same_name c.name m.name ≡ t) → first_count f (cond t (counts_grown c m ∷ cs) (c ∷ tallied cs m)) n ≡ first_count f (c ∷ cs) n) [
      | true ↦ λ e. let same : f (counts_grown c m) ≡ f c = grows c m ∙ count_grown-none (f c) (f m) none in rw same refl
      | false ↦ λ e. elim (same_name c.name n) as (λ u. cond u (f c) (first_count f (tallied cs m) n) ≡ cond u (f c) (first_count f cs n)) [ true ↦ refl | false ↦ counted-none f grows cs m none n ]
    ] refl

-- more of one kind was added to a count that then grew
pub Rose-grew : (old n new : ℕ) → n ≡ 1 → Grew old n new → Rose old new
Rose-grew old n new one g below = omega (arith, g.grew below)

-- a refused opening was counted
pub refused : (cs : List Counts) (m : Counts) → m.refusals ≡ 1 → m.rfaults ≡ 0 → m.wfaults ≡ 0 → m.read ≡ 0 → Rose (first_count (λ c. c.refusals) cs m.name) (first_count (λ c. c.refusals) (tallied cs m) m.name) × RefusesName (folder_of_counts cs) (folder_of_counts (tallied cs m)) m.name × SameFaults (folder_of_counts cs) (folder_of_counts (tallied cs m))
refused cs m one rf wf rd =
    let r = counted (λ c. c.refusals) (λ c m. refl) cs m in (
      Rose-grew _ _ _ one r.grew,
      record { stays = r.grew.stays; others = r.others },
      record {
        rfaults = counted-none (λ c. c.rfaults) (λ c m. refl) cs m rf;
        wfaults = counted-none (λ c. c.wfaults) (λ c m. refl) cs m wf;
        read = counted-none (λ c. c.read) (λ c m. refl) cs m rd;
      },
    )

-- a source was closed
pub closed_in : (cs : List Counts) (m : Counts) (h : SourceState) → m.name ≡ h.name → m.refusals ≡ 0 → m.rfaults ≡ h.faults → m.wfaults ≡ 0 → m.read ≡ h.given → ClosesSource (folder_of_counts cs) (folder_of_counts (tallied cs m)) h
closed_in cs m h name none rf wf rd =
    let f = counted (λ c. c.rfaults) (λ c m. refl) cs m in
    let g = counted (λ c. c.read) (λ c m. refl) cs m in
    record {
      rfaults = rw (← name, ← rf) f.grew;
      read = rw (← name, ← rd) g.grew;
      other_rfaults = rw (← name) f.others;
      other_read = rw (← name) g.others;
      wfaults = counted-none (λ c. c.wfaults) (λ c m. refl) cs m wf;
      refusals = counted-none (λ c. c.refusals) (λ c m. refl) cs m none;
    }

-- a drain was closed
pub closed_out : (cs : List Counts) (m : Counts) (h : DrainState) → m.name ≡ h.name → m.refusals ≡ 0 → m.rfaults ≡ 0 → m.wfaults ≡ h.faults → m.read ≡ 0 → ClosesDrain (folder_of_counts cs) (folder_of_counts (tallied cs m)) h
closed_out cs m h name none rf wf rd =
    let f = counted (λ c. c.wfaults) (λ c m. refl) cs m in
    record {
      wfaults = rw (← name, ← wf) f.grew;
      other_wfaults = rw (← name) f.others;
      rfaults = counted-none (λ c. c.rfaults) (λ c m. refl) cs m rf;
      read = counted-none (λ c. c.read) (λ c m. refl) cs m rd;
      refusals = counted-none (λ c. c.refusals) (λ c m. refl) cs m none;
      told = λ t. absurd (false≢true t);
      file = λ t. absurd (false≢true t);
      others = λ t. absurd (false≢true t);
    }
