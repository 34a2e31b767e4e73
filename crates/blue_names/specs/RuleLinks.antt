-- A blueprint's wires by the numbers of their nodes.
use Rattle.std.specs.Prelude.{ℕ, Bool, ◌+◌, if◌then◌else◌, List, [], ◌∷◌, map, unwrap_or, is_some, Option, Some, None}
use Rattle.elem_core.specs.Values.{same_text}
use Rattle.stream_model.specs.Graph.{Edge}
use Rattle.stream_model.specs.declared.blueprint.Node.{Node}
use Rattle.stream_model.specs.declared.blueprint.WireDecl.{WireDecl}
use Rattle.blue_names.specs.First.{first_from, when}
use Rattle.blue_names.specs.Hubs.{hub_of, hub_size, lane_by, keep_by, is_hub_fault}

-- the number of the first of these names that is this one, where they are numbered from n
abbrev pub number_from : List ℕ → ℕ → List (List ℕ) → Option ℕ
number_from name n [] = None
number_from name n (x ∷ xs) = if same_text name x then Some n else number_from name (n + 1) xs

-- the number of the node of that name; no rule that numbers serve is asked where there is none
abbrev pub node_number : List ℕ → List Node → ℕ
node_number name nodes = unwrap_or (number_from name 0 (map (λ n. n.name) nodes)) 0

-- the size that a hub gives a wire, where it belongs to one
abbrev pub size_of_hub : List Node → WireDecl → Option ℕ
size_of_hub nodes w = hub_size nodes (node_number w.from nodes) (node_number w.to nodes)

-- a wire by the numbers of its nodes; one that belongs to a hub is a lane of the hub's size, which keeps
-- Choice: docs/DECISIONS.md#hub-wires-are-lanes
abbrev pub wire_of : List Node → WireDecl → Edge
wire_of nodes w = record {
  from = node_number w.from nodes;
  output = w.output;
  to = node_number w.to nodes;
  input = w.input;
  lane = lane_by (size_of_hub nodes w) w.lane;
  keep = keep_by (size_of_hub nodes w) w.keep;
  hub = hub_of nodes (node_number w.from nodes) (node_number w.to nodes);
}

-- a wire of a hub that is marked as a lane itself, or that goes from a broadcast hub to a merge hub
abbrev pub is_faulty_wire : List Node → WireDecl → Bool
is_faulty_wire nodes w = is_hub_fault nodes (node_number w.from nodes) (node_number w.to nodes) (is_some w.lane)

-- the first such wire
abbrev pub hub_wrong : List Node → List WireDecl → Option ℕ
hub_wrong nodes wires = first_from (λ i w. when (is_faulty_wire nodes w) i) 0 wires

-- the wires by the numbers of their nodes
-- Choice: docs/DECISIONS.md#names-before-numbers
abbrev pub wires_of : List Node → List WireDecl → List Edge
wires_of nodes ws = map (wire_of nodes) ws
