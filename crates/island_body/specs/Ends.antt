-- The ends of lanes of an island, and what stands at them.
use Rattle.std.specs.Prelude.{◌≡◌, ◌≢◌, ℕ, ◌+◌, ◌<◌, List, [], ◌∷◌, length, map, slice_get, Option, Some, None}
use Rattle.fused_net.specs.Laws.{NetGoesOn}
use Rattle.fused_net.specs.Net.{ports_at}
use Rattle.fused_net.specs.Outside.{HasOnly, IsElse}
use Rattle.lane_core.specs.Ends.{taken_items, finds}
use Rattle.interpreter.specs.Island.{Kept}
use Rattle.interpreter.specs.Boundary.{Enters, Leaves, way_in, way_out}
use Rattle.island_body.specs.Beside.{in_node, out_node}
use Rattle.island_body.specs.Serving.{Serves, IsServed}
use Rattle.island_body.specs.declared.output.OutputBoundary.{OutputBoundary}
use Rattle.island_body.specs.Feeding.{Feeds, IsFed}
use Rattle.island_body.specs.declared.input.IslandInput.{IslandInput}
use Rattle.island_body.specs.declared.way.Way.{Way}
use Rattle.island_body.specs.declared.way.Way.TheVariants.{In, Out}

-- the wires of the input ends
abbrev pub in_wires : List IslandInput → List ℕ
in_wires ins = map (λ (x : IslandInput). x.wire) ins

-- the wires of the output ends
abbrev pub out_wires : List OutputBoundary → List ℕ
out_wires outs = map (λ (o : OutputBoundary). o.wire) outs

-- how many items the input ends have taken
abbrev pub all_taken : List IslandInput → ℕ
all_taken [] = 0
all_taken (x ∷ xs) = length (taken_items x.boundary.lane) + all_taken xs

-- how often the output ends have found new demand or a cancel
abbrev pub all_finds : List OutputBoundary → ℕ
all_finds [] = 0
all_finds (o ∷ os) = finds o.lane + all_finds os

module _ {S D L H B : Type 0} where
  -- an input end stands at a stage of its island that has no other connection
  pub record InputEndStands (i : Kept S D L H B) (x : IslandInput) : Type 0 where
    pub enters : Enters i x.wire
    pub feeds : Feeds x.boundary i x.wire

  -- an output end stands at a stage of its island that has no other connection
  pub record OutputEndStands (i : Kept S D L H B) (o : OutputBoundary) : Type 0 where
    pub leaves : Leaves i o.wire
    pub serves : Serves o.lane i o.wire
    pub only : HasOnly (ports_at i.net (out_node i o.wire)) (way_out i o.wire)

  -- all ends of an island's lanes stand at their stages
  pub record AllStand (i : Kept S D L H B) (ins : List IslandInput) (outs : List OutputBoundary) : Type 0 where
    pub ins_stand : (k : ℕ) (x : IslandInput) → slice_get ins k ≡ Some x → InputEndStands i x
    pub outs_stand : (k : ℕ) (o : OutputBoundary) → slice_get outs k ≡ Some o → OutputEndStands i o

  -- of the first n input ends and the first m output ends none has anything to do, but that at the connection of this place, if one
  -- is named
  pub record AllServed (at : Option ℕ) (n m : ℕ) (i : Kept S D L H B) (ins : List IslandInput) (outs : List OutputBoundary) : Type 0 where
    pub ins_fed : (k : ℕ) (x : IslandInput) → k < n → slice_get ins k ≡ Some x → IsElse at (way_in i x.wire) → IsFed x.boundary i x.wire
    pub outs_served : (k : ℕ) (o : OutputBoundary) → k < m → slice_get outs k ≡ Some o → IsElse at (way_out i o.wire) → IsServed o.lane i o.wire

  -- no end of the lanes of an island has anything to do
  abbrev pub AllDone : Kept S D L H B → List IslandInput → List OutputBoundary → Type 0
  AllDone i ins outs = AllServed None (length ins) (length outs) i ins outs

  -- no two ends of these wires have one stage
  pub record AreApart (i : Kept S D L H B) (ins outs : List ℕ) : Type 0 where
    pub ins_apart : (j k u v : ℕ) → slice_get ins j ≡ Some u → slice_get ins k ≡ Some v → j ≢ k → in_node i u ≢ in_node i v
    pub outs_apart : (j k u v : ℕ) → slice_get outs j ≡ Some u → slice_get outs k ≡ Some v → j ≢ k → out_node i u ≢ out_node i v
    pub both_apart : (j k u v : ℕ) → slice_get ins j ≡ Some u → slice_get outs k ≡ Some v → in_node i u ≢ out_node i v

  -- a table says of each connection which end stands there, if one does
  pub record IsTable (i : Kept S D L H B) (ins outs : List ℕ) (ways : List Way) : Type 0 where
    pub many : length ways ≡ length i.net.wires
    pub ins_there : (k u : ℕ) → slice_get ins k ≡ Some u → slice_get ways (way_in i u) ≡ Some (In k)
    pub outs_there : (k u : ℕ) → slice_get outs k ≡ Some u → slice_get ways (way_out i u) ≡ Some (Out k)
    pub ins_right : (q k : ℕ) → slice_get ways q ≡ Some (In k) → (u : ℕ) × ((slice_get ins k ≡ Some u) × (way_in i u ≡ q))
    pub outs_right : (q k : ℕ) → slice_get ways q ≡ Some (Out k) → (u : ℕ) × ((slice_get outs k ≡ Some u) × (way_out i u ≡ q))

  -- an island goes on with the same tables
  pub record IslandGoes (old new : Kept S D L H B) : Type 0 where
    pub on : NetGoesOn old.net new.net
    pub ins : new.ins ≡ old.ins
    pub outs : new.outs ≡ old.outs
    pub numbers : new.numbers ≡ old.numbers
    pub places : new.places ≡ old.places
