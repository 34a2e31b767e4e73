-- Openings that stop at a name, before the handles that are open are closed.
use Rattle.std.specs.Prelude.{◌≡◌, ℕ, ◌⊎◌, List, [], ◌∷◌, ◌++◌}
use Rattle.stream_io.specs.Counts.{Rose}
use Rattle.stream_io.specs.State.{FolderState, SourceState, DrainState, SameFiles, SameFaults, SameRefusals, RefusesName, LacksFile}
use Rattle.stream_io.specs.Opening.{OpensAll}

-- the inputs before this name were opened; its own opening was refused, or its file is not there
pub record StopsAtInput (old new : FolderState) (inputs : List (List ℕ)) (n : List ℕ) (is : List SourceState) (os : List DrainState) : Type 0 where
  pub before : List (List ℕ)
  pub after : List (List ℕ)
  pub place : inputs ≡ before ++ n ∷ after
  pub mid : FolderState
  pub opens : OpensAll old mid before [] is os
  pub files : SameFiles mid new
  pub faults : SameFaults mid new
  pub why : LacksFile mid n ⊎ Rose (mid.refusals n) (new.refusals n)
  pub refusal : RefusesName mid new n

-- the inputs and the outputs before this name were opened; its own opening was refused
pub record StopsAtOutput (old new : FolderState) (inputs outputs : List (List ℕ)) (n : List ℕ) (is : List SourceState) (os : List DrainState) : Type 0 where
  pub before : List (List ℕ)
  pub after : List (List ℕ)
  pub place : outputs ≡ before ++ n ∷ after
  pub mid : FolderState
  pub opens : OpensAll old mid inputs before is os
  pub files : SameFiles mid new
  pub faults : SameFaults mid new
  pub rose : Rose (mid.refusals n) (new.refusals n)
  pub refusal : RefusesName mid new n

-- some first inputs and some first outputs were opened, and then memory was wanting
pub record LacksRoom (old new : FolderState) (outputs : List (List ℕ)) (is : List SourceState) (os : List DrainState) : Type 0 where
  pub inputs : List (List ℕ)
  pub before : List (List ℕ)
  pub after : List (List ℕ)
  pub place : outputs ≡ before ++ after
  pub mid : FolderState
  pub opens : OpensAll old mid inputs before is os
  pub files : SameFiles mid new
  pub faults : SameFaults mid new
  pub refusals : SameRefusals mid new
