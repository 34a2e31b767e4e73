-- Where more is asked of a lane in all than was sent, by its input end among bodies.
use Rattle.std.specs.Prelude.{◌≡◌, ◌≢◌, ℕ, suc, ◌<◌, nat_le, List, Some, length, slice_get}
use Rattle.stream_model.specs.declared.outcome.WireCount.{WireCount}
use Rattle.lane_core.specs.Ends.{asked_in_all}
use Rattle.island_body.specs.declared.input.IslandInput.{IslandInput}
use Rattle.lane_core.specs.declared.crossing.Crossing.{Crossing}
use Rattle.blue_check.specs.declared.plan.LanePlan.{LanePlan}
use Rattle.island_body.specs.declared.body.Body.{Body}

-- the wires of lanes are some of so many
abbrev pub AreWithin : ℕ → List LanePlan → Type 0
AreWithin count lanes = (n : ℕ) (l : LanePlan) → slice_get lanes n ≡ Some l → l.wire < count

-- the count of a lane of which so much was asked in all
abbrev pub with_demand : WireCount → ℕ → WireCount
with_demand c all = record { sent = c.sent; asked = nat_le (suc c.sent) all; shut = c.shut }

module _ {S D L H B : Type 0} where
  -- the input end of this crossing is there
  pub record LiesThere (bodies : List (Body S D L H B)) (c : Crossing) : Type 0 where
    pub body : Body S D L H B
    pub body_at : slice_get bodies c.to ≡ Some body
    pub inp_there : c.inp < length body.ins.items

  -- the input end of each of these crossings is there
  abbrev pub LieThere : List (Body S D L H B) → List Crossing → Type 0
  LieThere bodies crossings = (n : ℕ) (c : Crossing) → slice_get crossings n ≡ Some c → LiesThere bodies c

  -- of each crossing how many elements the input end there has asked for in all
  pub record AreAsked (bodies : List (Body S D L H B)) (crossings : List Crossing) (all : List ℕ) : Type 0 where
    pub many : length all ≡ length crossings
    pub each : (n : ℕ) (c : Crossing) (b : Body S D L H B) (x : IslandInput) → slice_get crossings n ≡ Some c → slice_get bodies c.to ≡ Some b
        → slice_get b.ins.items c.inp ≡ Some x → slice_get all n ≡ Some (asked_in_all x.boundary.lane)

-- The count of each lane says whether more was asked in all than was sent, where so much was asked of the lanes; all else is as before.
pub record AreNoted (all : List ℕ) (lanes : List LanePlan) (old new : List WireCount) : Type 0 where
  pub many : length new ≡ length old
  pub each : (n a : ℕ) (l : LanePlan) (w : WireCount) → slice_get lanes n ≡ Some l → slice_get all n ≡ Some a → slice_get old l.wire ≡ Some w
      → slice_get new l.wire ≡ Some (with_demand w a)
  pub others : (u : ℕ) → ((n : ℕ) (l : LanePlan) → slice_get lanes n ≡ Some l → l.wire ≢ u) → slice_get new u ≡ slice_get old u
