-- The handles of a run's nodes were closed, and then that of its trace, where there is one.
use Rattle.std.proofs.Common.{◌≡◌, ℕ, List, slice_get, refl, sym, ap, ◌∙◌, subst}
use Rattle.std.specs.Prelude.{IsTrue, Option, Some, None, slice_index_or}
use Rattle.std.specs.List.{All, Contains}
use Rattle.stream_io.specs.Counts.{Grew}
use Rattle.stream_io.specs.State.{FolderState, SourceState, DrainState, ClosesDrain, SameRefusals}
use Rattle.stream_io.specs.Names.{source_names, drain_names, DistinctNames}
use Rattle.stream_io.specs.Closing.{ClosesAll}
use Rattle.run_blueprint.specs.Opening.{ClosesAs}
use Rattle.run_blueprint.proofs.Places.{place_of, place_reads, mapped_at, contains_at}

-- none of the drains has the name of one of these others
abbrev pub Lone : List (List ℕ) → List DrainState → Type 0
Lone others os = (n : List ℕ) → Contains (drain_names os) n → Contains others n → ⊥

-- these sources and drains were closed; of the files and the counts of failed writes of other names only those of these others changed
pub record Shuts (old new : FolderState) (others : List (List ℕ)) (is : List SourceState) (os : List DrainState) : Type 0 where
  pub read_each : DistinctNames (source_names is) → All (λ i. Grew (old.read i.name) i.given (new.read i.name)) is
  pub read_others : (n : List ℕ) → ¬ (Contains (source_names is) n) → new.read n ≡ old.read n
  pub rfaults_each : DistinctNames (source_names is) → All (λ i. Grew (old.rfaults i.name) i.faults (new.rfaults i.name)) is
  pub rfaults_others : (n : List ℕ) → ¬ (Contains (source_names is) n) → new.rfaults n ≡ old.rfaults n
  pub wfaults_each : DistinctNames (drain_names os) → Lone others os → All (λ o. Grew (old.wfaults o.name) o.faults (new.wfaults o.name)) os
  pub wfaults_others : (n : List ℕ) → ¬ (Contains (drain_names os) n) → ¬ (Contains others n) → new.wfaults n ≡ old.wfaults n
  pub told : IsTrue new.tells → IsTrue old.tells
  pub held : DistinctNames (drain_names os) → Lone others os → IsTrue new.tells → All (λ o. new.file o.name ≡ o.holds) os
  pub held_others : IsTrue new.tells → (n : List ℕ) → ¬ (Contains (drain_names os) n) → ¬ (Contains others n) → new.file n ≡ old.file n
  pub refusals : SameRefusals old new

-- what holds of each follows from what held of each
all_each : {X : Type 0} (P Q : X → Type 0) (xs : List X) → ((i : ℕ) (x : X) → slice_get xs i ≡ Some x → P x → Q x) → All P xs → All Q xs
all_each P Q xs f all = λ k d h.
    let found = place_of xs k h in
    let is : slice_index_or xs k d ≡ found.0 = place_reads xs k found.0 d found.1 in
    subst Q (sym is) (f k found.0 found.1 (subst P is (all k d h)))

-- the name of a drain is not another's
apart_name : (others : List (List ℕ)) (os : List DrainState) (i : ℕ) (o : DrainState) (t : List ℕ) → Lone others os → Contains others t → slice_get os i ≡ Some o → o.name ≡ t → ⊥
apart_name others os i o t lone among at e =
    lone t (contains_at (drain_names os) i t (mapped_at (λ (x : DrainState). x.name) os i o at ∙ ap Some e)) among

shuts_alone : (old new : FolderState) (others : List (List ℕ)) (is : List SourceState) (os : List DrainState) → ClosesAll old new is os → Shuts old new others is os
shuts_alone old new others is os c = record {
  read_each = c.read.each;
  read_others = c.read.others;
  rfaults_each = c.rfaults.each;
  rfaults_others = c.rfaults.others;
  wfaults_each = λ one lone. c.wfaults.each one;
  wfaults_others = λ n never aside. c.wfaults.others n never;
  told = c.files.told;
  held = λ one lone tells. c.files.each one tells;
  held_others = λ tells n never aside. c.files.others tells n never;
  refusals = c.refusals;
}

module _ (old mid new : FolderState) (others : List (List ℕ)) (is : List SourceState) (os : List DrainState) (c : ClosesAll old mid is os) (t : DrainState) (d : ClosesDrain mid new t) (among : Contains others t.name) where
  shuts_both : Shuts old new others is os
  shuts_both = record {
    read_each = λ one. all_each (λ i. Grew (old.read i.name) i.given (mid.read i.name)) (λ i. Grew (old.read i.name) i.given (new.read i.name)) is (λ k i at. subst (Grew (old.read i.name) i.given) (sym (d.read i.name))) (c.read.each one);
    read_others = λ n never. d.read n ∙ c.read.others n never;
    rfaults_each = λ one. all_each (λ i. Grew (old.rfaults i.name) i.faults (mid.rfaults i.name)) (λ i. Grew (old.rfaults i.name) i.faults (new.rfaults i.name)) is (λ k i at. subst (Grew (old.rfaults i.name) i.faults) (sym (d.rfaults i.name))) (c.rfaults.each one);
    rfaults_others = λ n never. d.rfaults n ∙ c.rfaults.others n never;
    wfaults_each = λ one lone. all_each (λ o. Grew (old.wfaults o.name) o.faults (mid.wfaults o.name)) (λ o. Grew (old.wfaults o.name) o.faults (new.wfaults o.name)) os
        (λ k o at. subst (Grew (old.wfaults o.name) o.faults) (sym (d.other_wfaults o.name (apart_name others os k o t.name lone among at)))) (c.wfaults.each one);
    wfaults_others = λ n never aside. d.other_wfaults n (λ e. aside (subst (Contains others) (sym e) among)) ∙ c.wfaults.others n never;
    told = λ h. c.files.told (d.told h);
    held = λ one lone tells. all_each (λ o. mid.file o.name ≡ o.holds) (λ o. new.file o.name ≡ o.holds) os
        (λ k o at e. d.others tells o.name (apart_name others os k o t.name lone among at) ∙ e) (c.files.each one (d.told tells));
    held_others = λ tells n never aside. d.others tells n (λ e. aside (subst (Contains others) (sym e) among)) ∙ c.files.others (d.told tells) n never;
    refusals = λ n. d.refusals n ∙ c.refusals n;
  }

-- the name of a drain that is there is among these
abbrev pub NameAmong : List (List ℕ) → Option DrainState → Type 0
NameAmong others o = (t : DrainState) → o ≡ Some t → Contains others t.name

pub shuts_of : (old mid new : FolderState) (others : List (List ℕ)) (is : List SourceState) (os : List DrainState) (o : Option DrainState) → ClosesAll old mid is os → ClosesAs mid new o → NameAmong others o → Shuts old new others is os
shuts_of old mid new others is os None c d among = shuts_alone old new others is os (subst (λ (x : FolderState). ClosesAll old x is os) (sym d) c)
shuts_of old mid new others is os (Some t) c d among = shuts_both old mid new others is os c t d (among t refl)
