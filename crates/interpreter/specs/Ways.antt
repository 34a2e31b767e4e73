-- The places of the connections at which lanes come in and go out.
use Rattle.std.specs.Prelude.{◌≡◌, ℕ, ◌≤◌, Bool, true, false, List, [], Option, Some, None, length, slice_get, vec_capacity}
use Rattle.interpreter.specs.declared.parts.Link.{Link}
use Rattle.interpreter.specs.declared.parts.Seated.{Seated}
use Rattle.interpreter.specs.declared.parts.Work.{Work}
use Rattle.interpreter.specs.declared.parts.Work.TheVariants.{LaneIn, LaneOut}
use Rattle.interpreter.specs.declared.ways.LanePlace.{LanePlace}
use Rattle.interpreter.specs.declared.ways.Ways.{Ways}
use Rattle.interpreter.specs.LanePlaces.{listed_place, HasEachOnce}

-- whether a lane comes in at a work
abbrev pub is_lane_in : {S D L H B : Type 0} → Work S D L H B → Bool
is_lane_in (LaneIn u) = true
is_lane_in _ = false

-- whether a lane goes out at a work
abbrev pub is_lane_out : {S D L H B : Type 0} → Work S D L H B → Bool
is_lane_out (LaneOut u) = true
is_lane_out _ = false

-- whether a lane comes in at what stands at a place, if anything does
abbrev pub lane_comes : {S D L H B : Type 0} → Option (Seated S D L H B) → Bool
lane_comes None = false
lane_comes (Some x) = is_lane_in x.work

-- whether a lane goes out at what stands at a place, if anything does
abbrev pub lane_goes : {S D L H B : Type 0} → Option (Seated S D L H B) → Bool
lane_goes None = false
lane_goes (Some x) = is_lane_out x.work

-- whether a lane comes in at place n
abbrev pub comes_in : {S D L H B : Type 0} → List (Seated S D L H B) → ℕ → Bool
comes_in places n = lane_comes (slice_get places n)

-- whether a lane goes out at place n
abbrev pub goes_out : {S D L H B : Type 0} → List (Seated S D L H B) → ℕ → Bool
goes_out places n = lane_goes (slice_get places n)

-- no two links at which lanes come in, and no two at which lanes go out, are of one wire
pub record IsOnce {S D L H B : Type 0} (places : List (Seated S D L H B)) (links : List Link) : Type 0 where
  pub ins : (p q : ℕ) (l m : Link) → slice_get links p ≡ Some l → slice_get links q ≡ Some m → comes_in places l.from ≡ true → comes_in places m.from ≡ true
      → l.wire ≡ m.wire → p ≡ q
  pub outs : (p q : ℕ) (l m : Link) → slice_get links p ≡ Some l → slice_get links q ≡ Some m → goes_out places l.to ≡ true → goes_out places m.to ≡ true
      → l.wire ≡ m.wire → p ≡ q

-- both lists are empty, and have room for each link
pub record HasLaneRoom (ways : Ways) (links : List Link) : Type 0 where
  pub no_ins : ways.ins.items ≡ []
  pub no_outs : ways.outs.items ≡ []
  pub room_for_ins : length links ≤ vec_capacity ways.ins
  pub room_for_outs : length links ≤ vec_capacity ways.outs

-- the links at which lanes come in are listed, each by its place among the links, and no two of them are one wire
pub record ListsIns {S D L H B : Type 0} (places : List (Seated S D L H B)) (links : List Link) (ins : List LanePlace) : Type 0 where
  pub listed : (q : ℕ) (l : Link) → slice_get links q ≡ Some l → comes_in places l.from ≡ true → listed_place ins l.wire ≡ Some q
  pub apart : HasEachOnce ins

-- the same of those at which they go out
pub record ListsOuts {S D L H B : Type 0} (places : List (Seated S D L H B)) (links : List Link) (outs : List LanePlace) : Type 0 where
  pub listed : (q : ℕ) (l : Link) → slice_get links q ≡ Some l → goes_out places l.to ≡ true → listed_place outs l.wire ≡ Some q
  pub apart : HasEachOnce outs

-- both lists are those of the ends of lanes
pub record ListsLaneEnds {S D L H B : Type 0} (places : List (Seated S D L H B)) (links : List Link) (ins outs : List LanePlace) : Type 0 where
  pub come : ListsIns places links ins
  pub go : ListsOuts places links outs
