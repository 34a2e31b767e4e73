-- Both ends of every lane of a blueprint, and where they lie.
use Rattle.std.specs.Prelude.{◌≡◌, ℕ, ◌<◌, ◌≤◌, false, List, [], Some, length, map, slice_get, slice_index}
use Rattle.std.specs.declared.vec.Vec.{Vec}
use Rattle.std.specs.declared.alloc.Global.{Global}
use Rattle.lane_core.specs.Ends.{sent, seen_count, saw_cancel, finds, has_ended, out_size, taken_items, asked_in_all, has_cancelled, in_size, AreOneLane}
use Rattle.lane_core.specs.Boundary.{given, waits, is_over, state, keeps_all}
use Rattle.lane_core.specs.declared.state.State.TheVariants.{Flowing}
use Rattle.island_body.specs.declared.input.IslandInput.{IslandInput}
use Rattle.island_body.specs.declared.output.OutputBoundary.{OutputBoundary}
use Rattle.lane_core.specs.declared.crossing.Crossing.{Crossing}
use Rattle.scatter.specs.Shares.{share_of, items_at}
use Rattle.blue_check.specs.declared.plan.LanePlan.{LanePlan}
use Rattle.island_plans.specs.declared.lane_ends.AllEnds.{AllEnds}

-- a lane between two of so many islands, of a size that lanes have
pub record CanBeMade (count : ℕ) (l : LanePlan) : Type 0 where
  pub least : 1 ≤ l.size
  pub most : l.size ≤ 1024
  pub from_there : l.from < count
  pub to_there : l.to < count

-- each lane lies between two of so many islands, and is of a size that lanes have
abbrev pub CanAllBeMade : ℕ → List LanePlan → Type 0
CanAllBeMade count lanes = (n : ℕ) (l : LanePlan) → slice_get lanes n ≡ Some l → CanBeMade count l

-- lanes in the order of their wires
abbrev pub AreRising : List LanePlan → Type 0
AreRising lanes = (m n : ℕ) (l k : LanePlan) → m < n → slice_get lanes m ≡ Some l → slice_get lanes n ≡ Some k → l.wire < k.wire

-- all lanes have sizes that lanes may have
abbrev pub CanAllHaveEnds : List LanePlan → Type 0
CanAllHaveEnds lanes = (n : ℕ) (l : LanePlan) → slice_get lanes n ≡ Some l → (1 ≤ l.size) × (l.size ≤ 1024)

-- The two ends of this lane, at which nothing has passed: the input has asked for as many elements as there are places,
-- and keeps what came before a failure where the lane does.
pub record AreEnds (l : LanePlan) (o : OutputBoundary) (i : IslandInput) : Type 0 where
  pub out_wire : o.wire ≡ l.wire
  pub in_wire : i.wire ≡ l.wire
  pub one : AreOneLane o.lane i.boundary.lane
  pub out_size_is : out_size o.lane ≡ l.size
  pub in_size_is : in_size i.boundary.lane ≡ l.size
  pub keep_is : keeps_all i.boundary ≡ l.keep
  pub none_sent : sent o.lane ≡ []
  pub none_seen : seen_count o.lane ≡ 0
  pub no_cancel_seen : saw_cancel o.lane ≡ 0
  pub none_found : finds o.lane ≡ 0
  pub not_ended : has_ended o.lane ≡ false
  pub none_taken : taken_items i.boundary.lane ≡ []
  pub asked_all : asked_in_all i.boundary.lane ≡ l.size
  pub not_cancelled : has_cancelled i.boundary.lane ≡ 0
  pub none_given : given i.boundary ≡ []
  pub none_waits : waits i.boundary ≡ []
  pub not_over : is_over i.boundary ≡ false
  pub flows : state i.boundary ≡ Flowing

-- the two ends of each lane, in the order of lanes
pub record AreMade (lanes : List LanePlan) (outs : List OutputBoundary) (ins : List IslandInput) : Type 0 where
  pub outs_many : length outs ≡ length lanes
  pub ins_many : length ins ≡ length lanes
  pub each : (n : ℕ) (l : LanePlan) (o : OutputBoundary) (i : IslandInput) → slice_get lanes n ≡ Some l → slice_get outs n ≡ Some o → slice_get ins n ≡ Some i
      → AreEnds l o i

-- where the ends of each lane lie, by their places among those of their islands
pub record AreCrossingsOf (lanes : List LanePlan) (outs ins : List ℕ) (crossings : List Crossing) : Type 0 where
  pub many : length crossings ≡ length lanes
  pub each : (n : ℕ) (l : LanePlan) (c : Crossing) → slice_get lanes n ≡ Some l → slice_get crossings n ≡ Some c
      → c ≡ record { from = l.from; out = slice_index outs n; to = l.to; inp = slice_index ins n }

-- place p of the list of island k is that of an end of a lane
pub record IsLaneEndOf (island place : Crossing → ℕ) (crossings : List Crossing) (k p : ℕ) : Type 0 where
  pub lane : ℕ
  pub crossing : Crossing
  pub there : slice_get crossings lane ≡ Some crossing
  pub island_is : island crossing ≡ k
  pub place_is : place crossing ≡ p

-- Each end in the lists of islands is that of exactly one lane, and the wires of a list rise.
pub record LieBy {X : Type 0} (island place : Crossing → ℕ) (wire : X → ℕ) (crossings : List Crossing) (lists : List (Vec X Global)) : Type 0 where
  pub each : (k p : ℕ) (x : X) → slice_get (items_at lists k) p ≡ Some x → IsLaneEndOf island place crossings k p
  pub one : (m n : ℕ) (c d : Crossing) → slice_get crossings m ≡ Some c → slice_get crossings n ≡ Some d → island c ≡ island d → place c ≡ place d → m ≡ n
  pub rise : (k p q : ℕ) (x y : X) → p < q → slice_get (items_at lists k) p ≡ Some x → slice_get (items_at lists k) q ≡ Some y → wire x < wire y

-- where the two ends of a lane lie
pub record LaneJoins (e : AllEnds) (l : LanePlan) (c : Crossing) : Type 0 where
  pub from_is : c.from ≡ l.from
  pub to_is : c.to ≡ l.to
  pub out : OutputBoundary
  pub inp : IslandInput
  pub out_at : slice_get (items_at e.outs.items c.from) c.out ≡ Some out
  pub inp_at : slice_get (items_at e.ins.items c.to) c.inp ≡ Some inp
  pub ends : AreEnds l out inp

-- Both ends of each lane lie in the lists of their islands where its crossing says, and no others do; no list is longer than that of the
-- lanes.
pub record AreAllEnds (lanes : List LanePlan) (count : ℕ) (e : AllEnds) : Type 0 where
  pub outs_many : length e.outs.items ≡ count
  pub ins_many : length e.ins.items ≡ count
  pub many : length e.crossings.items ≡ length lanes
  pub each : (n : ℕ) (l : LanePlan) (c : Crossing) → slice_get lanes n ≡ Some l → slice_get e.crossings.items n ≡ Some c → LaneJoins e l c
  pub outs_few : (k : ℕ) → length (items_at e.outs.items k) ≤ length lanes
  pub ins_few : (k : ℕ) → length (items_at e.ins.items k) ≤ length lanes
  pub outs_count : (k : ℕ) → length (items_at e.outs.items k) ≡ share_of k (map (λ (l : LanePlan). l.from) lanes)
  pub ins_count : (k : ℕ) → length (items_at e.ins.items k) ≡ share_of k (map (λ (l : LanePlan). l.to) lanes)
  pub outs_lie : LieBy (λ c. c.from) (λ c. c.out) (λ (o : OutputBoundary). o.wire) e.crossings.items e.outs.items
  pub ins_lie : LieBy (λ c. c.to) (λ c. c.inp) (λ (i : IslandInput). i.wire) e.crossings.items e.ins.items
