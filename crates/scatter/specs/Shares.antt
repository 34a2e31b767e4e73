-- A list that is shared out: each of its items has a home, and goes, in order, into the list of its home.
use Rattle.std.specs.Prelude.{◌≡◌, ℕ, suc, ◌<◌, ◌≤◌, ◌==◌, if◌then◌else◌, List, [], ◌∷◌, length, take, slice_get, slice_index, Option, None, Some, vec_capacity}
use Rattle.std.specs.declared.vec.Vec.{Vec}
use Rattle.std.specs.declared.alloc.Global.{Global}

-- the items whose home is k, in order, where these are the homes
abbrev pub of_home : {X : Type 0} → List ℕ → ℕ → List X → List X
of_home [] k xs = []
of_home (h ∷ hs) k [] = []
of_home (h ∷ hs) k (x ∷ xs) = if h == k then x ∷ of_home hs k xs else of_home hs k xs

-- how many of the homes are k
abbrev pub share_of : ℕ → List ℕ → ℕ
share_of k [] = 0
share_of k (h ∷ hs) = if h == k then suc (share_of k hs) else share_of k hs

-- the place of item i among those of its home: how many before it have the same
abbrev pub rank_of : List ℕ → ℕ → ℕ
rank_of homes i = share_of (slice_index homes i) (take i homes)

-- the items of a list, none where there is no list
abbrev pub items_in : {X : Type 0} → Option (Vec X Global) → List X
items_in None = []
items_in (Some v) = v.items

-- the items of list k, none where there is no such list
abbrev pub items_at : {X : Type 0} → List (Vec X Global) → ℕ → List X
items_at lists k = items_in (slice_get lists k)

-- for how many items a list has room, none where there is no list
abbrev pub room_in : {X : Type 0} → Option (Vec X Global) → ℕ
room_in None = 0
room_in (Some v) = vec_capacity v

-- for how many items list k has room, none where there is no such list
abbrev pub room_at : {X : Type 0} → List (Vec X Global) → ℕ → ℕ
room_at lists k = room_in (slice_get lists k)

-- the rank of each item, and of each of so many homes how many have it
pub record AreRanks (homes : List ℕ) (count : ℕ) (ranks counts : List ℕ) : Type 0 where
  pub each : length ranks ≡ length homes
  pub ranks_are : (i : ℕ) → i < length homes → slice_index ranks i ≡ rank_of homes i
  pub many : length counts ≡ count
  pub counts_are : (k : ℕ) → k < count → slice_index counts k ≡ share_of k homes

-- empty lists, one for each of so many homes, that have room for the items of these homes
pub record AreEmptyFor {X : Type 0} (homes : List ℕ) (count : ℕ) (lists : List (Vec X Global)) : Type 0 where
  pub many : length lists ≡ count
  pub none : (k : ℕ) → items_at lists k ≡ []
  pub room : (k : ℕ) → k < count → share_of k homes ≤ room_at lists k

-- the lists are the shares of these items
pub record AreShares {X : Type 0} (homes : List ℕ) (items : List X) (lists : List (Vec X Global)) : Type 0 where
  pub each : length items ≡ length homes
  pub shares : (k : ℕ) → items_at lists k ≡ of_home homes k items

-- each list has as many items as there are of its home
pub record AreWhole {X : Type 0} (homes : List ℕ) (lists : List (Vec X Global)) : Type 0 where
  pub below : (i : ℕ) → i < length homes → slice_index homes i < length lists
  pub counts : (k : ℕ) → k < length lists → length (items_at lists k) ≡ share_of k homes
