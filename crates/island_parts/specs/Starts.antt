-- Several islands are started: what they keep then, and what they leave where one did not start.
use Rattle.std.specs.Prelude.{◌≡◌, ℕ, true, false, List, [], ◌∷◌, ◌++◌, Some, length, map, slice_get}
use Rattle.stream_io.specs.State.{SourceState, DrainState}
use Rattle.fused_net.specs.Net.{wire_at}
use Rattle.interpreter.specs.declared.island.IslandEnd.{IslandEnd}
use Rattle.interpreter.specs.declared.parts.Link.{Link}
use Rattle.interpreter.specs.declared.parts.Parts.{Parts}
use Rattle.interpreter.specs.declared.room.IslandRoom.{IslandRoom}
use Rattle.interpreter.specs.Boundary.{BeginsOut, EntersBy, LeavesBy}
use Rattle.interpreter.specs.Handles.{HandsBack, HoldsHandles}
use Rattle.interpreter.specs.Island.{Kept, IslandKeeps, readers_of, writers_of}
use Rattle.interpreter.specs.Parts.{AreParts, AllBecome, ends_of, wire_number, seat_place}
use Rattle.interpreter.specs.Picks.{place_number}
use Rattle.interpreter.specs.Room.{IsRoom}
use Rattle.interpreter.specs.Ways.{comes_in, goes_out}
use Rattle.stream_model.specs.Linear.{Book}

-- there are as many as of the others, and each is so of the one at its place
pub record AreOf {X Y : Type 0} (r : X → Y → Type 0) (xs : List X) (ys : List Y) : Type 0 where
  pub many : length ys ≡ length xs
  pub each : (k : ℕ) (x : X) (y : Y) → slice_get xs k ≡ Some x → slice_get ys k ≡ Some y → r x y

-- behind what stood in a list such ones were put
pub record Appends {X Y : Type 0} (r : X → Y → Type 0) (xs : List X) (old new : List Y) : Type 0 where
  pub more : List Y
  pub new_is : new ≡ old ++ more
  pub are : AreOf r xs more

module _ {S D L H B : Type 0} where
  -- the parts of an island, and room for it
  pub record CanStart (x : Parts S D L H B × IslandRoom S D L H B) : Type 0 where
    pub parts : AreParts x.0.nodes.items x.0.links.items
    pub room : IsRoom x.1 (map seat_place x.0.nodes.items) x.0.links.items

  -- each of these islands can start
  abbrev pub CanAllStart : List (Parts S D L H B × IslandRoom S D L H B) → Type 0
  CanAllStart islands = (k : ℕ) (x : Parts S D L H B × IslandRoom S D L H B) → slice_get islands k ≡ Some x → CanStart x

  -- what an island leaves has the handles of its nodes
  pub record IslandLeaves (i : Kept S D L H B) (e : IslandEnd S D) : Type 0 where
    pub readers : e.readers.items ≡ readers_of i.net.nodes
    pub writers : e.writers.items ≡ writers_of i.net.nodes

  module _ (sources : S → SourceState) (drains : D → DrainState) (book : Book) where
    -- An island of these parts has started: it keeps its laws, no unit was used, its nodes began as what stands at its places, and hold
    -- their handles as they were handed in; its connections are its links, and where lanes come in and go out nothing has passed.
    pub record HasStarted (parts : Parts S D L H B) (i : Kept S D L H B) : Type 0 where
      pub whole : i.broken ≡ false
      pub unused : i.used ≡ 0
      pub laws : IslandKeeps sources drains book i.net 0
      pub firsts : AllBecome parts.nodes.items i.net.firsts
      pub ends : i.net.ends ≡ map ends_of parts.links.items
      pub numbers : i.numbers ≡ map wire_number parts.links.items
      pub places : i.places ≡ map place_number parts.nodes.items
      pub enters : (q : ℕ) (l : Link) → slice_get parts.links.items q ≡ Some l → comes_in parts.nodes.items l.from ≡ true → EntersBy i l.wire q
      pub leaves : (q : ℕ) (l : Link) → slice_get parts.links.items q ≡ Some l → goes_out parts.nodes.items l.to ≡ true → LeavesBy i l.wire q
      pub begins_in : (q : ℕ) (l : Link) → slice_get parts.links.items q ≡ Some l → comes_in parts.nodes.items l.from ≡ true → (wire_at i.net q).wire.sent ≡ []
      pub begins_out : (q : ℕ) (l : Link) → slice_get parts.links.items q ≡ Some l → goes_out parts.nodes.items l.to ≡ true → BeginsOut i.net q
      pub handles : HoldsHandles sources drains parts.nodes.items i.net.nodes

    -- each of these islands has started
    abbrev pub AllStarted : List (Parts S D L H B × IslandRoom S D L H B) → List (Kept S D L H B) → Type 0
    AllStarted islands started = AreOf (λ (x : Parts S D L H B × IslandRoom S D L H B). HasStarted x.0) islands started

  module _ (sources : S → SourceState) (drains : D → DrainState) where
    -- an island was taken apart, and hands its handles back as they were handed in
    abbrev pub GivesBack : Parts S D L H B × IslandRoom S D L H B → IslandEnd S D → Type 0
    GivesBack x e = HandsBack sources drains x.0.nodes.items e

    -- each of these islands hands its handles back as they were handed in
    abbrev pub AllGiveBack : List (Parts S D L H B × IslandRoom S D L H B) → List (IslandEnd S D) → Type 0
    AllGiveBack islands ends = AreOf GivesBack islands ends

    -- what these islands leave that had started, then this, and then what those leave that were not to be started
    pub record TakenApart (started : List (Kept S D L H B)) (end : IslandEnd S D) (rest : List (Parts S D L H B × IslandRoom S D L H B)) (ends : List (IslandEnd S D))
        : Type 0 where
      pub front : List (IslandEnd S D)
      pub behind : List (IslandEnd S D)
      pub all_are : ends ≡ front ++ (end ∷ behind)
      pub front_are : AreOf IslandLeaves started front
      pub behind_are : AreOf GivesBack rest behind
