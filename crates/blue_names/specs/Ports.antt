-- The rules on ports: each that a wire uses is there, none is used twice, and none is left open.
use Rattle.std.specs.Prelude.{ℕ, ◌==◌, Bool, true, false, not, ◌||◌, ◌&&◌, nat_le, is_none, List, [], ◌∷◌, slice_get, Option, Some, None}
use Rattle.std.specs.Option.{option_or}
use Rattle.stream_model.specs.Graph.{Edge, find_wire, find_source}
use Rattle.stream_model.specs.Composed.{count_from}
use Rattle.stream_model.specs.Known.{HeadLists}
use Rattle.stream_model.specs.declared.blueprint.Node.{Node}
use Rattle.blue_names.specs.CustomPorts.{kind_inputs, kind_outputs, is_headless}
use Rattle.blue_names.specs.First.{first_from, when}

-- there is no such node, or it has no such output; of a custom stage that is not handed in that cannot be said
abbrev pub lacks_output : HeadLists → Option Node → ℕ → Bool
lacks_output heads None p = true
lacks_output heads (Some n) p = not (is_headless heads n.kind) && nat_le (kind_outputs heads n.kind) p

-- there is no such node, or it has no such input; of a custom stage that is not handed in that cannot be said
abbrev pub lacks_input : HeadLists → Option Node → ℕ → Bool
lacks_input heads None p = true
lacks_input heads (Some n) p = not (is_headless heads n.kind) && nat_le (kind_inputs heads n.kind) p

-- the first wire that uses a port that its node does not have
abbrev pub port_missing : HeadLists → List Node → List Edge → Option ℕ
port_missing heads nodes ws =
    first_from (λ i w. when (lacks_output heads (slice_get nodes w.from) w.output || lacks_input heads (slice_get nodes w.to) w.input) i) 0 ws

-- it is that number
abbrev pub is_port_number : ℕ → Option ℕ → Bool
is_port_number i None = true
is_port_number i (Some k) = k == i

-- a node is there, and names a custom stage that is not handed in
abbrev pub lacks_guest : HeadLists → Option Node → Bool
lacks_guest heads None = false
lacks_guest heads (Some n) = is_headless heads n.kind

-- the first wire that uses a port that an earlier wire uses, but for those of a custom stage that is not handed in
abbrev pub port_twice : HeadLists → List Node → List Edge → Option ℕ
port_twice heads nodes ws =
    first_from (λ i w. when
    ((not (lacks_guest heads (slice_get nodes w.from)) && not (is_port_number i (find_source w.from w.output ws)))
    || (not (lacks_guest heads (slice_get nodes w.to)) && not (is_port_number i (find_wire w.to w.input ws)))) i) 0 ws

-- a port without a wire: of which node, whether it is an output, and which
pub record OpenPort : Type 0 where
  pub node : ℕ
  pub output : Bool
  pub port : ℕ

-- the first input of node i without a wire
abbrev pub open_input : HeadLists → ℕ → Node → List Edge → Option OpenPort
open_input heads i n ws = first_from (λ _ p. when (is_none (find_wire i p ws)) (record { node = i; output = false; port = p })) 0
    (count_from 0 (kind_inputs heads n.kind))

-- the first output of node i without a wire
abbrev pub open_output : HeadLists → ℕ → Node → List Edge → Option OpenPort
open_output heads i n ws = first_from (λ _ p. when (is_none (find_source i p ws)) (record { node = i; output = true; port = p })) 0
    (count_from 0 (kind_outputs heads n.kind))

-- the first port without a wire; within a node inputs come first
abbrev pub port_open : HeadLists → List Node → List Edge → Option OpenPort
port_open heads nodes ws = first_from (λ i n. option_or (open_input heads i n ws) (open_output heads i n ws)) 0 nodes
