-- The kinds of nodes that the laws of types speak of, and how their types hang together.
use Rattle.std.specs.Option.{option_map, option_or}
use Rattle.std.specs.Prelude.{ℕ, Bool, true, List, [], ◌∷◌, Option, Some, is_some}
use Rattle.elem_core.specs.Sort.{Sort}
use Rattle.stream_model.specs.declared.kind.Kind.{Kind}
use Rattle.stream_model.specs.Linear.{Role, a_source, a_flow, a_fan_in, a_fan_out, works, trips, plugs_in, buffers, recovers, obeys, groups_by, splits_when, splits_after, merges, gathers, concats, interleaves, merges_sorted, zips, broadcasts, balances, partitions, unzips, customs, sinks, role_of, Mention, no_name, a_file, a_switch, a_trip, a_plug, a_custom, a_chain, mention_of}
use Rattle.stream_model.specs.declared.blueprint.ChainDecl.{ChainDecl}
use Rattle.stream_model.specs.declared.blueprint.Step.{Step}
use Rattle.stream_model.specs.Known.{HeadLists}
use Rattle.blue_names.specs.declared.want.Want.{Want}
use Rattle.blue_names.specs.declared.want.Want.TheVariants.{Is}
use Rattle.blue_names.specs.CustomPorts.{custom_named, custom_head, input_type}
use Rattle.blue_names.specs.FnTypes.{map_want, pred_want}
use Rattle.blue_names.specs.StageTypes.{plug_named, chain_named, stage_want, stage_gives}
use Rattle.run_blueprint.specs.Types.{TakesSort}

-- a plug or a custom stage that is handed in, or anything else
abbrev known_by : HeadLists → Mention → Bool
known_by heads no_name = true
known_by heads (a_file file) = true
known_by heads (a_switch name) = true
known_by heads (a_trip order name n) = true
known_by heads (a_plug name) = is_some (plug_named name heads.plugs)
known_by heads (a_custom name) = is_some (custom_named heads name)
known_by heads (a_chain name) = true

-- a kind that names a plug or a custom stage which is handed in, or that names none
abbrev pub is_known : HeadLists → Kind → Bool
is_known heads k = known_by heads (mention_of k)

-- a source, a node whose inputs are all of one type, a zip, a node with one input, or one whose ports are typed by its head
pub data Shape : Type 0 where
  source : Shape
  joining : Shape
  zipping : Shape
  single : Shape
  hired : Shape

-- how the types at the ports of a role hang together
abbrev shape_by : Role → Shape
shape_by (a_source role) = source
shape_by (a_flow flow) = single
shape_by (a_fan_in (merges n)) = joining
shape_by (a_fan_in (gathers n)) = joining
shape_by (a_fan_in (concats n)) = joining
shape_by (a_fan_in (interleaves n s)) = joining
shape_by (a_fan_in merges_sorted) = joining
shape_by (a_fan_in zips) = zipping
shape_by (a_fan_out fan) = single
shape_by (customs name) = hired
shape_by (sinks file keeps) = single

-- how the types at the ports of a kind hang together
abbrev pub shape_of : Kind → Shape
shape_of k = shape_by (role_of k)

-- what the function of a node of this role wants, where it parts elements by it, or else this
abbrev want_by : Role → Option Want → Option Want
want_by (a_source role) own = own
want_by (a_flow (works w)) own = own
want_by (a_flow (trips order name n)) own = own
want_by (a_flow (plugs_in name)) own = own
want_by (a_flow (buffers n p)) own = own
want_by (a_flow (recovers t)) own = own
want_by (a_flow (obeys name)) own = own
want_by (a_flow (groups_by n f chain)) own = map_want f
want_by (a_flow (splits_when p chain j)) own = Some (pred_want p)
want_by (a_flow (splits_after p chain j)) own = Some (pred_want p)
want_by (a_fan_in fan) own = own
want_by (a_fan_out (broadcasts n)) own = own
want_by (a_fan_out (balances n)) own = own
want_by (a_fan_out (partitions n f)) own = map_want f
want_by (a_fan_out unzips) own = own
want_by (customs name) own = own
want_by (sinks file keeps) own = own

-- what the function of a node wants, also where it parts elements
abbrev pub function_want : HeadLists → Kind → Option Want
function_want heads k = want_by (role_of k) (stage_want heads k)

-- what a node wants at this input: a custom stage what its head says, and any other what its function wants
abbrev pub port_want : HeadLists → Kind → ℕ → Option Want
port_want heads k p = option_or (option_map Is (input_type (custom_head heads k) p)) (function_want heads k)

-- the steps of a chain that is named
abbrev chain_by : List ChainDecl → Mention → List Step
chain_by chains no_name = []
chain_by chains (a_file file) = []
chain_by chains (a_switch name) = []
chain_by chains (a_trip order name n) = []
chain_by chains (a_plug name) = []
chain_by chains (a_custom name) = []
chain_by chains (a_chain name) = chain_named name chains

-- the steps that each substream of a node runs
abbrev pub chain_in : List ChainDecl → Kind → List Step
chain_in chains k = chain_by chains (mention_of k)

-- the function of each step takes what the steps before it give
abbrev pub StepsTake : HeadLists → List Step → Sort → Type 0
StepsTake heads [] t = Unit {0}
StepsTake heads (s ∷ ss) t = TakesSort (stage_want heads s.kind) t × StepsTake heads ss (stage_gives heads s.kind t)
