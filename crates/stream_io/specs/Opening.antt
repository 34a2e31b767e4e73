-- The opening of the files of a run: the inputs in order, and then the outputs. Rules: own.
use Rattle.std.specs.Prelude.{◌≡◌, ℕ, ◌⊎◌, IsTrue, IsSome, List, [], ◌∷◌, ◌++◌, Some}
use Rattle.std.specs.List.{All, Contains}
use Rattle.stream_io.specs.Counts.{Rose}
use Rattle.stream_io.specs.State.{FolderState, SourceState, DrainState, SameFiles, LacksFile}
use Rattle.stream_io.specs.Quiet.{Quiet, QuietBut}
use Rattle.stream_io.specs.Names.{source_names, drain_names}

-- the source stands at the start of its file, which was there, where the folder told its files before; and no read has failed
pub record AtStart (old : FolderState) (i : SourceState) : Type 0 where
  pub there : IsTrue old.tells → IsSome (old.file i.name)
  pub whole : IsTrue old.tells → i.whole ≡ old.file i.name
  pub given : i.given ≡ 0
  pub faults : i.faults ≡ 0

-- the drain holds nothing, and no write has failed
pub record HoldsNone (new : FolderState) (o : DrainState) : Type 0 where
  pub holds : IsTrue new.tells → o.holds ≡ Some []
  pub faults : o.faults ≡ 0

-- The files of these names are empty, and every other is as it was, where the folder still tells its files. Where no file was
-- emptied it tells them as before.
pub record Empties (old new : FolderState) (names : List (List ℕ)) : Type 0 where
  pub told : IsTrue new.tells → IsTrue old.tells
  pub still : names ≡ [] → new.tells ≡ old.tells
  pub emptied : IsTrue new.tells → All (λ n. new.file n ≡ Some []) names
  pub others : IsTrue new.tells → (n : List ℕ) → ¬ (Contains names n) → new.file n ≡ old.file n

-- these inputs and these outputs were opened, in their order, and the outputs are empty; nothing else came of it
pub record OpensAll (old new : FolderState) (inputs outputs : List (List ℕ)) (is : List SourceState) (os : List DrainState) : Type 0 where
  pub input_names : source_names is ≡ inputs
  pub sources : All (AtStart old) is
  pub output_names : drain_names os ≡ outputs
  pub drains : All (HoldsNone new) os
  pub files : Empties old new outputs
  pub read : (n : List ℕ) → new.read n ≡ old.read n
  pub refusals : Quiet old.refusals new.refusals
  pub rfaults : Quiet old.rfaults new.rfaults
  pub wfaults : Quiet old.wfaults new.wfaults

-- The first of the inputs that was not there, or whose opening was refused, has this name; nothing else came of it. What is said of
-- input files is said wherever the folder told them before.
pub record MissesInput (old new : FolderState) (inputs : List (List ℕ)) (n : List ℕ) : Type 0 where
  pub before : List (List ℕ)
  pub after : List (List ℕ)
  pub place : inputs ≡ before ++ n ∷ after
  pub there : IsTrue old.tells → All (λ m. IsSome (old.file m)) before
  pub why : LacksFile old n ⊎ Rose (old.refusals n) (new.refusals n)
  pub files : SameFiles old new
  pub refusals : QuietBut n old.refusals new.refusals
  pub read : Quiet old.read new.read
  pub rfaults : Quiet old.rfaults new.rfaults
  pub wfaults : Quiet old.wfaults new.wfaults

-- the inputs were there, and the first of the outputs whose opening was refused has this name: those before it are empty, and nothing else came of it
pub record RefusesOutput (old new : FolderState) (inputs outputs : List (List ℕ)) (n : List ℕ) : Type 0 where
  pub before : List (List ℕ)
  pub after : List (List ℕ)
  pub place : outputs ≡ before ++ n ∷ after
  pub there : IsTrue old.tells → All (λ m. IsSome (old.file m)) inputs
  pub rose : Rose (old.refusals n) (new.refusals n)
  pub files : Empties old new before
  pub refusals : QuietBut n old.refusals new.refusals
  pub read : Quiet old.read new.read
  pub rfaults : Quiet old.rfaults new.rfaults
  pub wfaults : Quiet old.wfaults new.wfaults

-- memory was wanting: some first outputs are empty, and nothing else came of it
pub record GivesUp (old new : FolderState) (outputs : List (List ℕ)) : Type 0 where
  pub before : List (List ℕ)
  pub after : List (List ℕ)
  pub place : outputs ≡ before ++ after
  pub files : Empties old new before
  pub refusals : Quiet old.refusals new.refusals
  pub read : Quiet old.read new.read
  pub rfaults : Quiet old.rfaults new.rfaults
  pub wfaults : Quiet old.wfaults new.wfaults
