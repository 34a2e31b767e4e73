-- The wires of hubs: those into a merge hub and those out of a broadcast hub are lanes of the hub's size, which keep.
use Rattle.std.specs.Prelude.{ℕ, Bool, true, ◌&&◌, ◌||◌, is_some, List, slice_get, Option, Some, None}
use Rattle.std.specs.Option.{option_or}
use Rattle.stream_model.specs.declared.kind.Kind.{Kind}
use Rattle.stream_model.specs.declared.kind.Kind.TheVariants.{MergeHub, BroadcastHub}
use Rattle.stream_model.specs.declared.blueprint.Node.{Node}

-- the size of the lanes into a kind, where it is a merge hub
abbrev pub size_into : Kind → Option ℕ
size_into (MergeHub s n) = Some s
size_into _ = None

-- the size of the lanes out of a kind, where it is a broadcast hub
abbrev pub size_out_of : Kind → Option ℕ
size_out_of (BroadcastHub s n) = Some s
size_out_of _ = None

-- the size of the lanes into a node
abbrev pub size_into_node : Option Node → Option ℕ
size_into_node None = None
size_into_node (Some n) = size_into n.kind

-- the size of the lanes out of a node
abbrev pub size_out_of_node : Option Node → Option ℕ
size_out_of_node None = None
size_out_of_node (Some n) = size_out_of n.kind

-- the size that a hub gives a wire from one node to another, where the wire belongs to one
abbrev pub hub_size : List Node → ℕ → ℕ → Option ℕ
hub_size nodes from to = option_or (size_out_of_node (slice_get nodes from)) (size_into_node (slice_get nodes to))

-- the number of a node where lanes of a hub are there
abbrev pub where_lanes : Option ℕ → ℕ → Option ℕ
where_lanes None node = None
where_lanes (Some s) node = Some node

-- the hub that a wire from one node to another belongs to, by its number, where it belongs to one
abbrev pub hub_of : List Node → ℕ → ℕ → Option ℕ
hub_of nodes from to = option_or (where_lanes (size_out_of_node (slice_get nodes from)) from) (where_lanes (size_into_node (slice_get nodes to)) to)

-- the lane of a wire: that of its hub, and else that which it declares
abbrev pub lane_by : Option ℕ → Option ℕ → Option ℕ
lane_by (Some s) lane = Some s
lane_by None lane = lane

-- the lane keeps: that of a hub, and else one that is declared so
abbrev pub keep_by : Option ℕ → Bool → Bool
keep_by (Some s) keep = true
keep_by None keep = keep

-- a wire of a hub that is marked as a lane itself, or one from a broadcast hub to a merge hub
abbrev pub is_hub_fault : List Node → ℕ → ℕ → Bool → Bool
is_hub_fault nodes from to marked =
    (marked && is_some (hub_size nodes from to)) || (is_some (size_out_of_node (slice_get nodes from)) && is_some (size_into_node (slice_get nodes to)))
