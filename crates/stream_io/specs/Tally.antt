-- Counts by name, as a list of at most one entry a name.
use Rattle.std.specs.Prelude.{ℕ, ◌+◌, ◌==◌, Bool, List, [], ◌∷◌, None, false, max, min, if◌then◌else◌}
use Rattle.std.specs.Cmp.Lexicographic.{pointwise}
use Rattle.stream_io.specs.Counts.{last_count}
use Rattle.stream_io.specs.State.{FolderState}
use Rattle.stream_io.specs.declared.tally.Counts.{Counts}

-- two names are the same bytes
abbrev pub same_name : List ℕ → List ℕ → Bool
same_name a b = pointwise ◌==◌ a b

-- what the first entry of a name says, and 0 where there is none
abbrev pub first_count : (Counts → ℕ) → List Counts → List ℕ → ℕ
first_count f [] n = 0
first_count f (c ∷ cs) n = if same_name c.name n then f c else first_count f cs n

-- a count that grew, and stopped at its last value
abbrev pub count_grown : ℕ → ℕ → ℕ
count_grown a b = max a (min (a + b) last_count)

-- the counts of a name, with more added
abbrev pub counts_grown : Counts → Counts → Counts
counts_grown c more = record c {
  refusals = count_grown c.refusals more.refusals;
  rfaults = count_grown c.rfaults more.rfaults;
  wfaults = count_grown c.wfaults more.wfaults;
  read = count_grown c.read more.read;
}

-- the entries after more was added to those of its name
abbrev pub tallied : List Counts → Counts → List Counts
tallied [] more = more ∷ []
tallied (c ∷ cs) more =
    if same_name c.name more.name then counts_grown c more ∷ cs else c ∷ tallied cs more

-- what a folder tells that tells no files, only counts by name
abbrev pub folder_of_counts : List Counts → FolderState
folder_of_counts counts = record {
  tells = false;
  file = λ n. None;
  refusals = first_count (λ c. c.refusals) counts;
  rfaults = first_count (λ c. c.rfaults) counts;
  wfaults = first_count (λ c. c.wfaults) counts;
  read = first_count (λ c. c.read) counts;
}
