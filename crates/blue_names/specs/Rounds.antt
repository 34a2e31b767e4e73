-- How types reach wires, in rounds, and the rules on types.
use Rattle.std.specs.Prelude.{ℕ, zero, suc, ◌==◌, Bool, true, false, if◌then◌else◌, List, [], ◌∷◌, length, slice_get, Option, Some, None}
use Rattle.std.specs.Option.{unwrap_or, option_map, option_or, option_and_then}
use Rattle.elem_core.specs.Sort.{Sort, pair_type, same_sort}
use Rattle.stream_model.specs.declared.kind.Kind.{Kind}
use Rattle.stream_model.specs.Linear.{Role, a_source, a_flow, a_fan_in, a_fan_out, merges, gathers, concats, interleaves, merges_sorted, zips, broadcasts, balances, partitions, unzips, customs, sinks, role_of}
use Rattle.stream_model.specs.Graph.{Edge, find_wire}
use Rattle.stream_model.specs.Composed.{count_from}
use Rattle.stream_model.specs.Known.{HeadLists}
use Rattle.stream_model.specs.declared.blueprint.ChainDecl.{ChainDecl}
use Rattle.stream_model.specs.declared.blueprint.Node.{Node}
use Rattle.blue_names.specs.CustomPorts.{custom_named, kind_inputs, output_type}
use Rattle.blue_names.specs.First.{first_from, when}
use Rattle.blue_names.specs.FnTypes.{left_type, right_type}
use Rattle.blue_names.specs.StageTypes.{source_type, fixed_type, stage_typed, port_typed, limited}
use Rattle.blue_names.specs.declared.typed.Clash.{Clash}
use Rattle.blue_names.specs.declared.typed.Typed.{Typed}
use Rattle.blue_names.specs.declared.typed.Typed.TheVariants.{Gives, Clashes, TooDeep}
use Rattle.blue_names.specs.declared.want.Want.TheVariants.{Is}

-- what an output carries, where the node's type is t: an unzip has the halves of its pairs on its outputs, and a custom stage what its
-- head says
abbrev half_by : HeadLists → Role → ℕ → Sort → Sort
half_by heads (a_source source) port t = t
half_by heads (a_flow flow) port t = t
half_by heads (a_fan_in fan) port t = t
half_by heads (a_fan_out (broadcasts n)) port t = t
half_by heads (a_fan_out (balances n)) port t = t
half_by heads (a_fan_out (partitions n f)) port t = t
half_by heads (a_fan_out unzips) port t = if port == 0 then left_type t else right_type t
half_by heads (customs name) port t = unwrap_or (output_type (custom_named heads name) port) t
half_by heads (sinks file keeps) port t = t

-- what output p of a kind carries, where the type of its node is t
abbrev pub half_type : HeadLists → Kind → ℕ → Sort → Sort
half_type heads k p t = half_by heads (role_of k) p t

-- what output p of a node carries, where its type is t
abbrev pub port_type : HeadLists → Option Node → ℕ → Sort → Sort
port_type heads None p t = t
port_type heads (Some n) p t = half_type heads n.kind p t

-- the type of the lowest-numbered of these inputs that has one
abbrev pub first_typed : List (Option Sort) → Option Sort
first_typed [] = None
first_typed (o ∷ os) = option_or o (first_typed os)

-- the pair of the types of two inputs that both have one
abbrev pub pair_up : List (Option Sort) → Option Sort
pair_up (Some t ∷ Some u ∷ os) = Some (pair_type t u)
pair_up _ = None

-- the inputs of these take one type
abbrev joins_types : Role → Bool
joins_types (a_source source) = false
joins_types (a_flow flow) = false
joins_types (a_fan_in (merges n)) = true
joins_types (a_fan_in (gathers n)) = true
joins_types (a_fan_in (concats n)) = true
joins_types (a_fan_in (interleaves n s)) = true
joins_types (a_fan_in merges_sorted) = true
joins_types (a_fan_in zips) = false
joins_types (a_fan_out fan) = false
joins_types (customs name) = false
joins_types (sinks file keeps) = false

-- the inputs of this kind take one type
abbrev pub is_joining : Kind → Bool
is_joining k = joins_types (role_of k)

-- the type of a source
abbrev pub source_at : Option Node → Option Sort
source_at None = None
source_at (Some n) = source_type n.kind

-- the type that is fixed, where one is
abbrev pub fixes : Option Typed → Option Sort
fixes (Some (Gives t)) = Some t
fixes _ = None

-- a type that would nest too deep
abbrev pub is_deep : Option Typed → Bool
is_deep (Some TooDeep) = true
is_deep _ = false

-- a clash on a wire
abbrev pub clash_of : ℕ → Typed → Option Clash
clash_of i (Clashes t w) = Some (record { wire = i; left = t; want = w })
clash_of i _ = None

-- a type that is not the one that a node took
abbrev pub unlike : ℕ → Sort → Option Sort → Option Clash
unlike i t None = None
unlike i t (Some s) = if same_sort s t then None else Some (record { wire = i; left = t; want = Is s })

module _ (nodes : List Node) (ws : List Edge) where
  -- the wire into an input of a node
  abbrev pub wire_into : ℕ → ℕ → Option Edge
  wire_into i p = option_and_then (slice_get ws) (find_wire i p ws)

module _ (heads : HeadLists) (nodes : List Node) (ws : List Edge) where
  -- the type on a wire, where the types of these nodes are fixed
  abbrev pub type_on : (ℕ → Option Sort) → Option Edge → Option Sort
  type_on types None = None
  type_on types (Some w) = option_map (port_type heads (slice_get nodes w.from) w.output) (types w.from)

  -- the types that arrive at these inputs of a node
  abbrev pub arrivals : (ℕ → Option Sort) → ℕ → List ℕ → List (Option Sort)
  arrivals types i [] = []
  arrivals types i (p ∷ ps) = type_on types (wire_into nodes ws i p) ∷ arrivals types i ps

module _ (heads : HeadLists) (chains : List ChainDecl) where
  -- what a role would give, where its inputs have these types and its type depends on them: it may lack what it needs. All but
  -- a zip go by the first input that has a type
  abbrev pub attempt_on : Role → List (Option Sort) → (Sort → Typed) → Option Typed
  attempt_on (a_source source) os by_one = option_map by_one (first_typed os)
  attempt_on (a_flow flow) os by_one = option_map by_one (first_typed os)
  attempt_on (a_fan_in (merges n)) os by_one = option_map by_one (first_typed os)
  attempt_on (a_fan_in (gathers n)) os by_one = option_map by_one (first_typed os)
  attempt_on (a_fan_in (concats n)) os by_one = option_map by_one (first_typed os)
  attempt_on (a_fan_in (interleaves n s)) os by_one = option_map by_one (first_typed os)
  attempt_on (a_fan_in merges_sorted) os by_one = option_map by_one (first_typed os)
  attempt_on (a_fan_in zips) os by_one = option_map limited (pair_up os)
  attempt_on (a_fan_out fan) os by_one = option_map by_one (first_typed os)
  attempt_on (customs name) os by_one = None
  attempt_on (sinks file keeps) os by_one = option_map by_one (first_typed os)

  -- what a kind would give, by its fixed type, where it has one
  abbrev pub attempt_by : Option Sort → Kind → List (Option Sort) → Option Typed
  attempt_by (Some s) k os = Some (limited s)
  attempt_by None k os = attempt_on (role_of k) os (stage_typed heads chains k)

  -- what a kind would give: its fixed type, where it has one, and else what comes of the types at its inputs
  abbrev pub attempt : Kind → List (Option Sort) → Option Typed
  attempt k os = attempt_by (fixed_type heads k) k os

  -- what arrives on a wire, against what its input accepts
  abbrev pub clash_with : ℕ → ℕ → Option Node → Option Sort → Option Sort → Option Clash
  clash_with i p (Some n) taken (Some t) = if is_joining n.kind then unlike i t taken else clash_of i (port_typed heads chains p n.kind t)
  clash_with i p _ taken _ = None

  module _ (nodes : List Node) (ws : List Edge) where
    -- what a node would give
    abbrev pub attempt_at : (ℕ → Option Sort) → ℕ → Option Node → Option Typed
    attempt_at types i None = None
    attempt_at types i (Some n) = attempt n.kind (arrivals heads nodes ws types i (count_from 0 (kind_inputs heads n.kind)))

    -- the types before the first round: those of the sources
    abbrev pub before : ℕ → Option Sort
    before i = source_at (slice_get nodes i)

    -- one round: each node that is not fixed sees what earlier rounds fixed
    abbrev pub next : (ℕ → Option Sort) → ℕ → Option Sort
    next types i = option_or (types i) (fixes (attempt_at types i (slice_get nodes i)))

    -- so many rounds
    abbrev pub rounds : ℕ → ℕ → Option Sort
    rounds zero = before
    rounds (suc n) = next (rounds n)

    -- as many rounds as there are nodes: a further one fixes nothing
    abbrev pub settled : ℕ → Option Sort
    settled = rounds (length nodes)

    -- what arrives on a wire, where the types of these nodes are fixed
    abbrev pub clash_on : (ℕ → Option Sort) → ℕ → Edge → Option Clash
    clash_on types i w = clash_with i w.input (slice_get nodes w.to) (types w.to) (type_on heads nodes ws types (Some w))

    -- the first wire on which a type arrives that its input does not accept
    abbrev pub type_clash : Option Clash
    type_clash = first_from (clash_on settled) 0 ws

    -- the first node at which a type would nest too deep
    abbrev pub too_deep : Option ℕ
    too_deep = first_from (λ i n. when (is_deep (attempt_at settled i (Some n))) i) 0 nodes
