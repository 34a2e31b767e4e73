-- The closing of the files of a run. Rules: own.
use Rattle.std.specs.Prelude.{◌≡◌, ℕ, IsTrue, List, [], map, Option}
use Rattle.std.specs.List.{All, Contains}
use Rattle.stream_io.specs.Counts.{Grew}
use Rattle.stream_io.specs.State.{FolderState, SourceState, DrainState, SameRefusals}
use Rattle.stream_io.specs.Quiet.{Quiet}
use Rattle.stream_io.specs.Names.{drain_names, DistinctNames}

-- Each handle's amount was added to the count of its name, where no two have one name. A count of no handle's name is as it was,
-- and none rose where every amount is 0.
pub record Adds {X : Type 0} (name : X → List ℕ) (amount : X → ℕ) (xs : List X) (old new : List ℕ → ℕ) : Type 0 where
  pub each : DistinctNames (map name xs) → All (λ x. Grew (old (name x)) (amount x) (new (name x))) xs
  pub others : (n : List ℕ) → ¬ (Contains (map name xs) n) → new n ≡ old n
  pub quiet : All (λ x. amount x ≡ 0) xs → Quiet old new

-- Each drain's file is what it held, where no two have one name, and also where all of them held the same; every other file is
-- as it was. All this where the folder still tells its files; where no drain was closed it tells them as before.
pub record KeepsFiles (old new : FolderState) (os : List DrainState) : Type 0 where
  pub told : IsTrue new.tells → IsTrue old.tells
  pub still : os ≡ [] → new.tells ≡ old.tells
  pub each : DistinctNames (drain_names os) → IsTrue new.tells → All (λ o. new.file o.name ≡ o.holds) os
  pub alike : (held : Option (List ℕ)) → All (λ o. o.holds ≡ held) os → IsTrue new.tells → All (λ o. new.file o.name ≡ held) os
  pub others : IsTrue new.tells → (n : List ℕ) → ¬ (Contains (drain_names os) n) → new.file n ≡ old.file n

-- these sources and these drains were closed; nothing else came of it
pub record ClosesAll (old new : FolderState) (is : List SourceState) (os : List DrainState) : Type 0 where
  pub read : Adds (λ i. i.name) (λ i. i.given) is old.read new.read
  pub rfaults : Adds (λ i. i.name) (λ i. i.faults) is old.rfaults new.rfaults
  pub wfaults : Adds (λ o. o.name) (λ o. o.faults) os old.wfaults new.wfaults
  pub files : KeepsFiles old new os
  pub refusals : SameRefusals old new
