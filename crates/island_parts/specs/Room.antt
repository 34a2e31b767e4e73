-- Room for what islands leave at their ends.
use Rattle.std.specs.Prelude.{◌≡◌, ◌≤◌, ◌<◌, ◌+◌, ◌++◌, ◌∷◌, [], ℕ, List, length, map, slice_index, Option, None, vec_len, vec_capacity}
use Rattle.interpreter.specs.declared.island.IslandEnd.{IslandEnd}
use Rattle.interpreter.specs.Misfits.{least, least_all}
use Rattle.scatter.specs.Shares.{share_of}
use Rattle.island_parts.specs.declared.lists.EndLists.{EndLists}
use Rattle.island_parts.specs.declared.room.EndHomes.{EndHomes}
use Rattle.island_parts.specs.declared.room.EndRoom.{EndRoom}

-- there is room for the lists of so many islands more
pub record HasRoomForMore {S D : Type 0} (count : ℕ) (l : EndLists S D) : Type 0 where
  pub sinks : vec_len l.sinks + count ≤ vec_capacity l.sinks
  pub wires : vec_len l.wires + count ≤ vec_capacity l.wires
  pub picks : vec_len l.picks + count ≤ vec_capacity l.picks
  pub seats : vec_len l.seats + count ≤ vec_capacity l.seats
  pub readers : vec_len l.readers + count ≤ vec_capacity l.readers
  pub writers : vec_len l.writers + count ≤ vec_capacity l.writers

-- there are no lists, and there is room for those of so many islands
pub record AreEmptyLists {S D : Type 0} (count : ℕ) (l : EndLists S D) : Type 0 where
  pub no_sinks : l.sinks.items ≡ []
  pub no_wires : l.wires.items ≡ []
  pub no_picks : l.picks.items ≡ []
  pub no_misfit : l.misfit ≡ None
  pub no_seats : l.seats.items ≡ []
  pub no_readers : l.readers.items ≡ []
  pub no_writers : l.writers.items ≡ []
  pub room : HasRoomForMore count l

-- the lists of one more island are there
pub record IsEndPut {S D : Type 0} (old : EndLists S D) (e : IslandEnd S D) (new : EndLists S D) : Type 0 where
  pub sinks : new.sinks.items ≡ old.sinks.items ++ e.sinks ∷ []
  pub wires : new.wires.items ≡ old.wires.items ++ e.wires ∷ []
  pub picks : new.picks.items ≡ old.picks.items ++ e.picks ∷ []
  pub misfit : new.misfit ≡ least old.misfit e.misfit
  pub seats : new.seats.items ≡ old.seats.items ++ e.seats ∷ []
  pub readers : new.readers.items ≡ old.readers.items ++ e.readers ∷ []
  pub writers : new.writers.items ≡ old.writers.items ++ e.writers ∷ []
  pub room : (n : ℕ) → HasRoomForMore (n + 1) old → HasRoomForMore n new

-- the lists of these islands, in their order
pub record AreSorted {S D : Type 0} (ends : List (IslandEnd S D)) (l : EndLists S D) : Type 0 where
  pub sinks : l.sinks.items ≡ map (λ (e : IslandEnd S D). e.sinks) ends
  pub wires : l.wires.items ≡ map (λ (e : IslandEnd S D). e.wires) ends
  pub picks : l.picks.items ≡ map (λ (e : IslandEnd S D). e.picks) ends
  pub misfit : l.misfit ≡ least_all (map (λ (e : IslandEnd S D). e.misfit) ends)
  pub seats : l.seats.items ≡ map (λ (e : IslandEnd S D). e.seats) ends
  pub readers : l.readers.items ≡ map (λ (e : IslandEnd S D). e.readers) ends
  pub writers : l.writers.items ≡ map (λ (e : IslandEnd S D). e.writers) ends

-- an end with nothing left, and room for what has these homes
pub record IsEmptyEnd {S D : Type 0} (homes : EndHomes) (e : IslandEnd S D) : Type 0 where
  pub no_sinks : e.sinks.items ≡ []
  pub no_wires : e.wires.items ≡ []
  pub no_picks : e.picks.items ≡ []
  pub no_seats : e.seats.items ≡ []
  pub no_readers : e.readers.items ≡ []
  pub no_writers : e.writers.items ≡ []
  pub room_for_sinks : length homes.sinks.items ≤ vec_capacity e.sinks
  pub room_for_wires : length homes.wires.items ≤ vec_capacity e.wires
  pub room_for_picks : length homes.picks.items ≤ vec_capacity e.picks
  pub room_for_seats : length homes.seats.items ≤ vec_capacity e.seats
  pub room_for_readers : length homes.readers.items ≤ vec_capacity e.readers
  pub room_for_writers : length homes.writers.items ≤ vec_capacity e.writers

-- there is all memory for the ends of so many islands, which leave what has these homes
pub record IsRoomForEnds {S D : Type 0} (homes : EndHomes) (count : ℕ) (r : EndRoom S D) : Type 0 where
  pub counts_many : length r.counts.items ≡ count
  pub counts_are : (k : ℕ) → k < count → slice_index r.counts.items k ≡ share_of k homes.wires.items
  pub lists : AreEmptyLists count r.lists
  pub end : IsEmptyEnd homes r.end
