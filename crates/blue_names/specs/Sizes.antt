-- The rule on sizes: each is within its limits.
use Rattle.std.specs.Prelude.{ℕ, Bool, true, not, ◌&&◌, nat_le, List, Option, Some, None}
use Rattle.std.specs.Int.{is_power_of_two}
use Rattle.std.specs.List.{list_all}
use Rattle.std.specs.Option.{option_or, option_map}
use Rattle.stream_model.specs.declared.kind.Kind.{Kind}
use Rattle.stream_model.specs.declared.kind.Kind.TheVariants.{Lines, Range, Empty, Failed, Map, Filter, FilterNot, TakeWhile, DropWhile, Take, Drop, Limit, Grouped, MapConcat, Fold, Scan, Reduce, Buffer, RecoverNum, RecoverText, Valve, TripShutdown, TripAbort, Plug, Custom, GroupBy, SplitWhen, SplitAfter, Merge, MergeHub, Concat, Interleave, MergeSorted, Zip, Broadcast, BroadcastHub, Balance, Partition, Unzip, ToLines, Head, Last, Ignore}
use Rattle.stream_model.specs.declared.kind.TheConstants.{MAX_FAN}
use Rattle.stream_model.specs.declared.limit.TheConstants.{MAX_HELD, MAX_COUNT, MAX_KEYS, MAX_LANE}
use Rattle.stream_model.specs.declared.blueprint.Node.{Node}
use Rattle.stream_model.specs.declared.blueprint.ChainDecl.{ChainDecl}
use Rattle.stream_model.specs.declared.blueprint.WireDecl.{WireDecl}
use Rattle.blue_names.specs.declared.spot.Spot.{Spot}
use Rattle.blue_names.specs.declared.spot.Spot.TheVariants as at
use Rattle.stream_model.specs.Known.{HeadLists}
use Rattle.blue_names.specs.CustomPorts.{custom_head, head_fits}
use Rattle.blue_names.specs.First.{first_from, when}

-- a size is within its limits
abbrev pub is_within : ℕ → ℕ → ℕ → Bool
is_within least most n = nat_le least n && nat_le n most

-- the sizes of a kind; of some there are none
abbrev pub sizes_fit : Kind → Bool
sizes_fit (Lines file) = true
sizes_fit (Range low high) = true
sizes_fit (Empty b) = true
sizes_fit (Failed b) = true
sizes_fit (Map f) = true
sizes_fit (Filter p) = true
sizes_fit (FilterNot p) = true
sizes_fit (TakeWhile p) = true
sizes_fit (DropWhile p) = true
sizes_fit (Take n) = true
sizes_fit (Drop n) = true
sizes_fit (Limit n) = true
sizes_fit (Grouped n) = is_within 1 MAX_HELD n
sizes_fit (MapConcat x) = true
sizes_fit (Fold o) = true
sizes_fit (Scan o) = true
sizes_fit (Reduce r) = true
sizes_fit (Buffer n p) = is_within 1 MAX_HELD n
sizes_fit (RecoverNum k) = true
sizes_fit (RecoverText l) = true
sizes_fit (Valve name) = true
sizes_fit (TripShutdown name n) = is_within 1 MAX_COUNT n
sizes_fit (TripAbort name n) = is_within 1 MAX_COUNT n
sizes_fit (Plug name) = true
sizes_fit (Custom name) = true
sizes_fit (GroupBy n f name) = is_within 1 MAX_KEYS n
sizes_fit (SplitWhen p name j) = true
sizes_fit (SplitAfter p name j) = true
sizes_fit (Merge n) = is_within 2 MAX_FAN n
sizes_fit (MergeHub s n) = is_within 1 MAX_LANE s && is_within 1 MAX_FAN n
sizes_fit (Concat n) = is_within 2 MAX_FAN n
sizes_fit (Interleave n s) = is_within 2 MAX_FAN n && is_within 1 MAX_COUNT s
sizes_fit MergeSorted = true
sizes_fit Zip = true
sizes_fit (Broadcast n) = is_within 2 MAX_FAN n
sizes_fit (BroadcastHub s n) = is_within 1 MAX_LANE s && is_within 1 MAX_FAN n
sizes_fit (Balance n) = is_within 2 MAX_FAN n
sizes_fit (Partition n f) = is_within 2 MAX_FAN n
sizes_fit Unzip = true
sizes_fit (ToLines file) = true
sizes_fit (Head file) = true
sizes_fit (Last file) = true
sizes_fit Ignore = true

-- the size of a lane, where a wire has one
abbrev pub lane_fits : Option ℕ → Bool
lane_fits None = true
lane_fits (Some n) = is_within 1 MAX_LANE n && is_power_of_two n

-- the first chain with a size that is out of its limits
abbrev pub chain_wrong : List ChainDecl → Option ℕ
chain_wrong chains = first_from (λ i c. when (not (list_all (λ s. sizes_fit s.kind) c.steps.items)) i) 0 chains

-- the sizes of a node of this kind: its own, and of a custom stage those of its head
abbrev pub node_fits : HeadLists → Kind → Bool
node_fits heads k = sizes_fit k && head_fits (custom_head heads k)

-- the first node with a size that is out of its limits
abbrev pub node_wrong : HeadLists → List Node → Option ℕ
node_wrong heads nodes = first_from (λ i n. when (not (node_fits heads n.kind)) i) 0 nodes

-- the first wire with a size that is out of its limits
abbrev pub wire_wrong : List WireDecl → Option ℕ
wire_wrong wires = first_from (λ i w. when (not (lane_fits w.lane)) i) 0 wires

-- the first place of all: chains, nodes, and then wires
abbrev pub size_wrong : HeadLists → List ChainDecl → List Node → List WireDecl → Option Spot
size_wrong heads chains nodes wires =
    option_or (option_map at.Chain (chain_wrong chains)) (option_or (option_map at.Node (node_wrong heads nodes)) (option_map at.Wire (wire_wrong wires)))
