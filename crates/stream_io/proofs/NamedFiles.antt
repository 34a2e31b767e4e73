-- Files in memory after one of them was replaced.
use Rattle.std.proofs.Common.{◌≡◌, ◌≢◌, ℕ, ◌+◌, ◌<◌, Bool, true, false, ◌&&◌, cond, List, [], ◌∷◌, ◌++◌, Option, Some, None, is_some, option_map, length, take, drop, set, get_or, Vec, refl, sym, ap, ◌∙◌, add-one}
use Rattle.std.specs.declared.alloc.Global.{Global}
use Rattle.std.proofs.lemmas.List.{set_split, drop_more}
use Rattle.std.proofs.lemmas.Bool.{false≢true}
use Rattle.stream_io.specs.State.{ClosesDrain}
use Rattle.stream_io.specs.Tally.{same_name, folder_of_counts}
use Rattle.stream_io.specs.Files.{bytes_of_file, with_file, folder_of}
use Rattle.stream_io.specs.declared.named_file.NamedFile.{NamedFile}
use Rattle.stream_io.specs.declared.tally.Counts.{Counts}
use Rattle.stream_io.proofs.Tallies.{same_name-self, same_name-other, same_name-true}

-- the write at the first file of the name
pub set-with_file : (fs : List NamedFile) (i : ℕ) (d : NamedFile) (n : List ℕ) (b : Vec ℕ Global) → i < length fs → take i fs ++ with_file (drop i fs) n b ≡ with_file fs n b → same_name (get_or fs i d).name n ≡ true → set fs i (record { name = (get_or fs i d).name; bytes = b }) ≡ with_file fs n b
set-with_file fs i d n b fits before found =
    let here : with_file (drop i fs) n b ≡ (record { name = (get_or fs i d).name; bytes = b }) ∷ drop (i + 1) fs = rw (drop_more fs i d fits) (rw found refl) in
    set_split fs i (record { name = (get_or fs i d).name; bytes = b }) fits ∙ rw (← add-one) (ap (λ (r : List NamedFile). take i fs ++ r) (sym here)) ∙ before

-- the same, by the file that was read there
pub set-read : (fs : List NamedFile) (i : ℕ) (g : NamedFile) (n : List ℕ) (b : Vec ℕ Global) → i < length fs → g ≡ get_or fs i g → take i fs ++ with_file (drop i fs) n b ≡ with_file fs n b → same_name g.name n ≡ true → set fs i (record { name = g.name; bytes = b }) ≡ with_file fs n b
set-read fs i g n b fits is before found =
    rw (ap (λ (f : NamedFile). f.name) is) (set-with_file fs i g n b fits before (rw (← is) found))

-- whether there is one does not hang on how it is read
pub is_some-read : {X Y : Type 0} (f : X → Y) (r : Option X) (o : Option Y) (b : Bool) → option_map f r ≡ o → is_some r ≡ b → is_some o ≡ b
is_some-read f None o b is known = rw (← is) known
is_some-read f (Some x) o b is known = rw (← is) known

-- a file that was there has the new bytes
pub bytes_of_file-with_file : (fs : List NamedFile) (n : List ℕ) (b : Vec ℕ Global) → is_some (bytes_of_file fs n) ≡ true → bytes_of_file (with_file fs n b) n ≡ Some b.items
bytes_of_file-with_file [] n b there = cc
bytes_of_file-with_file (f ∷ fs) n b there =
    elim (same_name f.name n) as (λ t. (same_name f.name n ≡ t) → (is_some (cond t (Some f.bytes.items) (bytes_of_file fs n)) ≡ true) → bytes_of_file (cond t (record f { bytes = b } ∷ fs) (f ∷ with_file fs n b)) n ≡ Some b.items) [
      | true ↦ λ e there. rw e refl
      | false ↦ λ e there. rw e (bytes_of_file-with_file fs n b there)
    ] refl there

-- each other file is as before
pub bytes_of_file-other : (fs : List NamedFile) (n m : List ℕ) (b : Vec ℕ Global) → m ≢ n → bytes_of_file (with_file fs n b) m ≡ bytes_of_file fs m
bytes_of_file-other [] n m b other = refl
bytes_of_file-other (f ∷ fs) n m b other =
    elim (same_name f.name n) as (λ t. (same_name f.name n ≡ t) → bytes_of_file (cond t (record f { bytes = b } ∷ fs) (f ∷ with_file fs n b)) m ≡ bytes_of_file (f ∷ fs) m) [
      | true ↦ λ e. let apart = same_name-other f.name m (λ s. other (sym s ∙ same_name-true f.name n e)) in rw apart refl
      | false ↦ λ e. elim (same_name f.name m) as (λ u. cond u (Some f.bytes.items) (bytes_of_file (with_file fs n b) m) ≡ cond u (Some f.bytes.items) (bytes_of_file fs m)) [ true ↦ refl | false ↦ bytes_of_file-other fs n m b other ]
    ] refl

-- a file that was added behind the others
pub bytes_of_file-added : (fs : List NamedFile) (f : NamedFile) → is_some (bytes_of_file fs f.name) ≡ false → bytes_of_file (fs ++ f ∷ []) f.name ≡ Some f.bytes.items
bytes_of_file-added [] f lacks = rw (same_name-self f.name) refl
bytes_of_file-added (g ∷ fs) f lacks =
    elim (same_name g.name f.name) as (λ t. (is_some (cond t (Some g.bytes.items) (bytes_of_file fs f.name)) ≡ false) → cond t (Some g.bytes.items) (bytes_of_file (fs ++ f ∷ []) f.name) ≡ Some f.bytes.items) [
      | true ↦ λ lacks. cc
      | false ↦ λ lacks. bytes_of_file-added fs f lacks
    ] lacks

pub bytes_of_file-added_other : (fs : List NamedFile) (f : NamedFile) (m : List ℕ) → m ≢ f.name → bytes_of_file (fs ++ f ∷ []) m ≡ bytes_of_file fs m
bytes_of_file-added_other [] f m other = rw (same_name-other f.name m (λ s. other (sym s))) refl
bytes_of_file-added_other (g ∷ fs) f m other =
    elim (same_name g.name m) as (λ u. cond u (Some g.bytes.items) (bytes_of_file (fs ++ f ∷ []) m) ≡ cond u (Some g.bytes.items) (bytes_of_file fs m)) [ true ↦ refl | false ↦ bytes_of_file-added_other fs f m other ]

-- a drain was closed into a folder in memory, which tells its files as long as the drain's was one of them
pub ClosesDrain-file : (tells found : Bool) (fs : List NamedFile) (cs cs' : List Counts) (n : List ℕ) (faults : ℕ) (b : Vec ℕ Global) → ClosesDrain (folder_of_counts cs) (folder_of_counts cs') (record { name = n; holds = None; faults = faults }) → found ≡ is_some (bytes_of_file fs n) → ClosesDrain (folder_of tells fs cs) (folder_of (found && tells) (with_file fs n b) cs') (record { name = n; holds = Some b.items; faults = faults })
ClosesDrain-file tells false fs cs cs' n faults b counts found =
    record {
      wfaults = counts.wfaults;
      other_wfaults = counts.other_wfaults;
      rfaults = counts.rfaults;
      read = counts.read;
      refusals = counts.refusals;
      told = λ t. absurd (false≢true t);
      file = λ t. absurd (false≢true t);
      others = λ t. absurd (false≢true t);
    }
ClosesDrain-file tells true fs cs cs' n faults b counts found =
    record {
      wfaults = counts.wfaults;
      other_wfaults = counts.other_wfaults;
      rfaults = counts.rfaults;
      read = counts.read;
      refusals = counts.refusals;
      told = λ t. t;
      file = λ t. bytes_of_file-with_file fs n b (sym found);
      others = λ t m other. bytes_of_file-other fs n m b other;
    }
