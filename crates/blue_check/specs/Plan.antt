-- The plan of a blueprint: which nodes run together, and what joins them.
use Rattle.std.specs.Prelude.{◌≡◌, ℕ, ◌+◌, ◌<◌, ◌==◌, ◌&&◌, Bool, true, is_none, if◌then◌else◌, List, [], ◌∷◌, ◌++◌, length, slice_get, slice_index, Option, Some, None}
use Rattle.std.specs.List.{filter}
use Rattle.stream_model.specs.Graph.{Edge}
use Rattle.blue_check.specs.Forest.{Linked}
use Rattle.blue_check.specs.declared.plan.Plan.{Plan}
use Rattle.blue_check.specs.declared.plan.IslandPlan.{IslandPlan}
use Rattle.blue_check.specs.declared.plan.LanePlan.{LanePlan}

-- a wire without a lane
abbrev pub is_fused : Edge → Bool
is_fused w = is_none w.lane

-- the islands of so many nodes: two nodes are in one where a walk along wires without a lane links them, and only there; so each
-- wire without a lane is inside one
pub record AreHomes (count : ℕ) (ws : List Edge) (homes : List ℕ) : Type 0 where
  pub each : length homes ≡ count
  pub linked : (a b : ℕ) → a < count → b < count → slice_index homes a ≡ slice_index homes b → Linked (filter is_fused ws) a b
  pub whole : (a b : ℕ) → a < count → b < count → Linked (filter is_fused ws) a b → slice_index homes a ≡ slice_index homes b
  pub inside : (i : ℕ) (w : Edge) → slice_get ws i ≡ Some w → is_fused w ≡ true → slice_index homes w.from ≡ slice_index homes w.to

-- the numbers of those that pass, in order, where the first is number n
abbrev pub numbers_from : {X : Type 0} → ℕ → (X → Bool) → List X → List ℕ
numbers_from n p [] = []
numbers_from n p (x ∷ xs) = if p x then n ∷ numbers_from (n + 1) p xs else numbers_from (n + 1) p xs

-- the nodes of island k
abbrev pub island_nodes : List ℕ → ℕ → List ℕ
island_nodes homes k = numbers_from 0 (λ h. h == k) homes

-- a wire of island k: it has no lane and begins there, and so it ends there too
abbrev pub is_wire_of : List ℕ → ℕ → Edge → Bool
is_wire_of homes k w = is_fused w && (slice_index homes w.from == k)

-- the wires of island k, in order
abbrev pub island_wires : List ℕ → List Edge → ℕ → List ℕ
island_wires homes ws k = numbers_from 0 (is_wire_of homes k) ws

-- the lane of wire n, where it has one: from the island of its output to that of its input
abbrev pub lane_sized : List ℕ → ℕ → Edge → Option ℕ → List LanePlan
lane_sized homes n w None = []
lane_sized homes n w (Some s) = record { wire = n; size = s; keep = w.keep; from = slice_index homes w.from; to = slice_index homes w.to; hub = w.hub } ∷ []

-- the lane of wire n, where it has one: from the island of its output to that of its input
abbrev pub lane_plan_of : List ℕ → ℕ → Edge → List LanePlan
lane_plan_of homes n w = lane_sized homes n w w.lane

-- all wires with a lane, each with its number, its size, the island of its output and that of its input, and its hub, where the first
-- wire is number n
abbrev pub lanes_from : List ℕ → ℕ → List Edge → List LanePlan
lanes_from homes n [] = []
lanes_from homes n (w ∷ ws) = lane_plan_of homes n w ++ lanes_from homes (n + 1) ws

-- what a plan lists as the nodes of an island; nothing where there is none
abbrev pub nodes_in : Option IslandPlan → List ℕ
nodes_in None = []
nodes_in (Some i) = i.nodes.items

-- what a plan lists as the wires of an island; nothing where there is none
abbrev pub wires_in : Option IslandPlan → List ℕ
wires_in None = []
wires_in (Some i) = i.wires.items

-- what a plan lists as the nodes of island k
abbrev pub nodes_at : List IslandPlan → ℕ → List ℕ
nodes_at islands k = nodes_in (slice_get islands k)

-- what a plan lists as the wires of island k
abbrev pub wires_at : List IslandPlan → ℕ → List ℕ
wires_at islands k = wires_in (slice_get islands k)

-- no island is empty, and of two the later one has the greater least node, which is the first that it lists
pub record AreInOrder (islands : List IslandPlan) : Type 0 where
  pub some : (k : ℕ) → k < length islands → 0 < length (nodes_at islands k)
  pub rising : (j k : ℕ) → j < k → k < length islands → slice_index (nodes_at islands j) 0 < slice_index (nodes_at islands k) 0

-- each node has an island, and the plan lists the nodes and the wires of each, and all lanes, each list in ascending order
pub record IsPlan (count : ℕ) (ws : List Edge) (p : Plan) : Type 0 where
  pub homes : List ℕ
  pub are : AreHomes count ws homes
  pub there : (a : ℕ) → a < count → slice_index homes a < length p.islands.items
  pub nodes : (k : ℕ) → nodes_at p.islands.items k ≡ island_nodes homes k
  pub wires : (k : ℕ) → wires_at p.islands.items k ≡ island_wires homes ws k
  pub order : AreInOrder p.islands.items
  pub lanes : p.lanes.items ≡ lanes_from homes 0 ws
