-- Which blueprints make moves that a run has to record.
use Rattle.std.specs.Prelude.{Bool, true, false, List}
use Rattle.std.specs.List.{list_any}
use Rattle.stream_model.specs.declared.kind.Kind.{Kind}
use Rattle.stream_model.specs.declared.kind.Joining.{Joining}
use Rattle.stream_model.specs.declared.kind.Joining.TheVariants as joining
use Rattle.stream_model.specs.Linear.{Role, a_source, a_flow, a_fan_in, a_fan_out, works, trips, plugs_in, buffers, recovers, obeys, groups_by, splits_when, splits_after, merges, gathers, concats, interleaves, merges_sorted, zips, broadcasts, balances, partitions, unzips, customs, sinks, role_of}
use Rattle.stream_model.specs.declared.kind.Policy.{Policy}
use Rattle.stream_model.specs.declared.kind.Policy.TheVariants.{Backpressure, DropHead, DropTail, DropBuffer, DropNew, Fail}
use Rattle.stream_model.specs.declared.blueprint.Node.{Node}

-- a buffer that does not hold its input back
abbrev pub may_drop : Policy → Bool
may_drop Backpressure = false
may_drop DropHead = true
may_drop DropTail = true
may_drop DropBuffer = true
may_drop DropNew = true
may_drop Fail = true

-- substreams come together as they are
abbrev pub is_merged : Joining → Bool
is_merged joining.Merge = true
is_merged joining.Concat = false

-- a role whose moves depend on what comes first
abbrev pub picks_by : Role → Bool
picks_by (a_source source) = false
picks_by (a_flow (works w)) = false
picks_by (a_flow (trips order name n)) = false
picks_by (a_flow (plugs_in name)) = false
picks_by (a_flow (buffers n p)) = may_drop p
picks_by (a_flow (recovers t)) = true
picks_by (a_flow (obeys name)) = true
picks_by (a_flow (groups_by n f chain)) = true
picks_by (a_flow (splits_when p chain j)) = is_merged j
picks_by (a_flow (splits_after p chain j)) = is_merged j
picks_by (a_fan_in (merges n)) = true
picks_by (a_fan_in (gathers n)) = true
picks_by (a_fan_in (concats n)) = false
picks_by (a_fan_in (interleaves n s)) = false
picks_by (a_fan_in merges_sorted) = false
picks_by (a_fan_in zips) = false
picks_by (a_fan_out (broadcasts n)) = false
picks_by (a_fan_out (balances n)) = true
picks_by (a_fan_out (partitions n f)) = false
picks_by (a_fan_out unzips) = false
picks_by (customs name) = false
picks_by (sinks file keeps) = false

-- a kind whose moves depend on what comes first
abbrev pub picks : Kind → Bool
picks k = picks_by (role_of k)

-- some node has such a kind: a run of this blueprint records moves
abbrev pub needs_picks : List Node → Bool
needs_picks nodes = list_any (λ n. picks n.kind) nodes
