-- The lanes between bodies: where their ends lie, that they were brought together, what waits at them, and which body has an event.
use Rattle.std.specs.Prelude.{◌≡◌, ◌≤◌, ◌<◌, ◌⊎◌, ℕ, Bool, true, false, List, Some, IsTrue, length, slice_get}
use Rattle.lane_core.specs.declared.room.Waits.{Waits}
use Rattle.lane_core.specs.Pairs.{MayMeetAt}
use Rattle.lane_core.specs.declared.crossing.Crossing.{Crossing}

-- both ends of the lane lie at bodies that are there, and may meet
pub record IsWithin {B : Type 0} (may_meet : B → ℕ → B → ℕ → Type 0) (bodies : List B) (c : Crossing) : Type 0 where
  pub from_there : c.from < length bodies
  pub to_there : c.to < length bodies
  pub may : MayMeetAt may_meet bodies c.from c.out c.to c.inp

-- both ends of each of these lanes lie at bodies that are there, and may meet
abbrev pub AreCrossings : {B : Type 0} → (B → ℕ → B → ℕ → Type 0) → List B → List Crossing → Type 0
AreCrossings may_meet bodies lanes = (n : ℕ) (c : Crossing) → slice_get lanes n ≡ Some c → IsWithin may_meet bodies c

-- the two ends of the lane were brought together, and this waits there
abbrev pub JoinedAt : {B : Type 0} → (B → ℕ → B → ℕ → Waits → Type 0) → List B → Crossing → Waits → Type 0
JoinedAt joined bodies c w = (a b : _) → slice_get bodies c.from ≡ Some a → slice_get bodies c.to ≡ Some b → joined a c.out b c.inp w

-- this meeting brought the ends of a lane together
abbrev pub MeetsAt : {B : Type 0} → (B → ℕ → B → ℕ → B → B → Waits → Type 0) → List B → Crossing → List B → Waits → Type 0
MeetsAt met old c new w = (a b d e : _) → slice_get old c.from ≡ Some a → slice_get old c.to ≡ Some b → slice_get new c.from ≡ Some d
    → slice_get new c.to ≡ Some e → met a c.out b c.inp d e w

-- the two ends of each of these lanes were brought together, and what waits there
abbrev pub AllJoined : {B : Type 0} → (B → ℕ → B → ℕ → Waits → Type 0) → List B → List Crossing → Type 0
AllJoined joined bodies lanes = (n : ℕ) (c : Crossing) → slice_get lanes n ≡ Some c → (w : Waits) × JoinedAt joined bodies c w

-- the ends of the first `count` lanes were brought together, and nothing waits there for a body before the one at `first`
abbrev pub LanesFrom : {B : Type 0} → (B → ℕ → B → ℕ → Waits → Type 0) → List B → List Crossing → ℕ → ℕ → Type 0
LanesFrom joined bodies lanes count first =
    (n : ℕ) (c : Crossing) → n < count → slice_get lanes n ≡ Some c → (w : Waits) × (JoinedAt joined bodies c w) × (IsTrue w.item → first ≤ c.to)
    × (IsTrue w.demand → first ≤ c.from)

-- An item waits for the body at k at a lane that it takes from, or demand at one that it sends on.
pub record LaneEvent {B : Type 0} (joined : B → ℕ → B → ℕ → Waits → Type 0) (bodies : List B) (lanes : List Crossing) (k : ℕ) : Type 0 where
  pub lane : ℕ
  pub crossing : Crossing
  pub waits : Waits
  pub there : slice_get lanes lane ≡ Some crossing
  pub joined_there : JoinedAt joined bodies crossing waits
  pub event : ((crossing.to ≡ k) × IsTrue waits.item) ⊎ ((crossing.from ≡ k) × IsTrue waits.demand)

-- an event is pending in the ring of the body at k
abbrev pub RingEvent : {B : Type 0} → (B → Bool) → List B → ℕ → Type 0
RingEvent pending bodies k = (b : _) → slice_get bodies k ≡ Some b → pending b ≡ true

-- the ends of the first `count` lanes were brought together, and nothing waits there
abbrev pub QuietBelow : {B : Type 0} → (B → ℕ → B → ℕ → Waits → Type 0) → List B → List Crossing → ℕ → Type 0
QuietBelow joined bodies lanes count = (n : ℕ) (c : Crossing) → n < count → slice_get lanes n ≡ Some c
    → (w : Waits) × (JoinedAt joined bodies c w) × (w.item ≡ false) × (w.demand ≡ false)

-- No body has an event: none is pending in a ring, and nothing waits at a lane.
pub record AtRest {B : Type 0} (pending : B → Bool) (joined : B → ℕ → B → ℕ → Waits → Type 0) (bodies : List B) (lanes : List Crossing) : Type 0 where
  pub rings : (k : ℕ) (b : B) → slice_get bodies k ≡ Some b → pending b ≡ false
  pub nothing_waits : (n : ℕ) (c : Crossing) → slice_get lanes n ≡ Some c → (w : Waits) × (JoinedAt joined bodies c w) × (w.item ≡ false) × (w.demand ≡ false)

-- The body at k has an event, and no body before it has one.
pub record FirstEvent {B : Type 0} (pending : B → Bool) (joined : B → ℕ → B → ℕ → Waits → Type 0) (bodies : List B) (lanes : List Crossing) (k : ℕ)
    : Type 0 where
  pub there : k < length bodies
  pub event : (RingEvent pending bodies k) ⊎ (LaneEvent joined bodies lanes k)
  pub no_ring : (j : ℕ) (b : B) → slice_get bodies j ≡ Some b → pending b ≡ true → k ≤ j
  pub no_lane : LanesFrom joined bodies lanes (length lanes) k
