-- The files that the nodes of a blueprint read and write, and its sinks, each in the order of nodes.
use Rattle.std.specs.Prelude.{ℕ, Bool, List, map, filter, filter_map, Option, Some, None}
use Rattle.stream_model.specs.declared.kind.Kind.{Kind}
use Rattle.stream_model.specs.Linear.{Role, a_source, a_flow, a_fan_in, a_fan_out, reads_lines, gives_range, gives_nothing, gives_failure, customs, sinks, role_of}
use Rattle.stream_model.specs.OneWay as oneway
use Rattle.stream_model.specs.declared.blueprint.Node.{Node}

-- the file that a source reads
abbrev read_by : Role → Option (List ℕ)
read_by (a_source (reads_lines name)) = Some name
read_by (a_source (gives_range low high)) = None
read_by (a_source (gives_nothing b)) = None
read_by (a_source (gives_failure b)) = None
read_by (a_flow flow) = None
read_by (a_fan_in fan) = None
read_by (a_fan_out fan) = None
read_by (customs name) = None
read_by (sinks file keeps) = None

-- the file that a source reads
abbrev pub source_file : Kind → Option (List ℕ)
source_file k = read_by (role_of k)

-- the file that a sink writes
abbrev written_by : Role → Option (List ℕ)
written_by (a_source source) = None
written_by (a_flow flow) = None
written_by (a_fan_in fan) = None
written_by (a_fan_out fan) = None
written_by (customs name) = None
written_by (sinks file keeps) = file

-- the file that a sink writes
abbrev pub output_of : Kind → Option (List ℕ)
output_of k = written_by (role_of k)

-- the files that the sources read, in order of nodes
abbrev pub inputs_of_nodes : List Node → List (List ℕ)
inputs_of_nodes nodes = filter_map (λ n. source_file n.kind) nodes

-- the files that the sinks write, in order of nodes
abbrev pub outputs_of_nodes : List Node → List (List ℕ)
outputs_of_nodes nodes = filter_map (λ n. output_of n.kind) nodes

-- a sink
abbrev pub is_sink : Node → Bool
is_sink n = oneway.is_sink n.kind

-- the names of the sinks
abbrev pub sinks_of_nodes : List Node → List (List ℕ)
sinks_of_nodes nodes = map (λ n. n.name) (filter is_sink nodes)
