-- When a blueprint can be run: twelve rules, of which the first that is broken decides.
use Rattle.std.specs.Prelude.{◌≡◌, ℕ, List, [], slice_get, Option, Some, None, ◌⊎◌}
use Rattle.std.specs.Option.{option_map, option_or}
use Rattle.stream_model.specs.Graph.{Edge}
use Rattle.stream_model.specs.declared.blueprint.Blueprint.{Blueprint}
use Rattle.stream_model.specs.declared.blueprint.ChainDecl.{ChainDecl}
use Rattle.stream_model.specs.declared.blueprint.Node.{Node}
use Rattle.stream_model.specs.declared.blueprint.WireDecl.{WireDecl}
use Rattle.stream_model.specs.Known.{HeadLists}
use Rattle.blue_names.specs.Names.{taken_twice, unknown_name, unknown_guest, guest_twice}
use Rattle.blue_names.specs.Paths.{IsFirstClosed, HasNoClosedWalk}
use Rattle.blue_names.specs.Ports.{OpenPort, port_missing, port_twice, port_open}
use Rattle.blue_names.specs.Rounds.{type_clash, too_deep}
use Rattle.blue_names.specs.Sizes.{size_wrong}
use Rattle.blue_names.specs.declared.typed.Clash.{Clash}
use Rattle.blue_names.specs.RuleLinks.{wires_of, hub_wrong}
use Rattle.blue_check.specs.Wires.{blueprint_wires}
use Rattle.blue_check.specs.declared.fault.CheckFault.{CheckFault}
use Rattle.blue_check.specs.declared.fault.CheckFault.TheVariants.{TwoNames, NoSuchName, NoSuchPort, PortTwice, PortOpen, TypeClash, ClosedWalk, TooDeep, NoSuchPlug, PlugTwice, BadSize, HubWire}

-- the name of a node
abbrev pub node_name : Option Node → List ℕ
node_name None = []
node_name (Some n) = n.name

-- the name of node i
abbrev pub name_at : List Node → ℕ → List ℕ
name_at nodes i = node_name (slice_get nodes i)

-- the fault of an open port: the name of its node, and which port
abbrev pub open_fault : List Node → OpenPort → CheckFault
open_fault nodes o = PortOpen (name_at nodes o.node) o.output o.port

-- the fault of a clash: the wire, the type that arrives and what is wanted
abbrev pub clash_fault : Clash → CheckFault
clash_fault c = TypeClash c.wire c.left c.want

-- the fault of the rules on names and files, where one is broken
abbrev pub names_fault : List (List ℕ) → List ChainDecl → List Node → List WireDecl → List (List ℕ) → Option CheckFault
names_fault switches chains nodes wires taken =
    option_or (option_map TwoNames (taken_twice switches chains nodes taken)) (option_map NoSuchName (unknown_name switches chains nodes wires))

-- the fault of the rules on ports, where one is broken
abbrev pub ports_fault : HeadLists → List Node → List Edge → Option CheckFault
ports_fault heads nodes ws =
    option_or (option_map NoSuchPort (port_missing heads nodes ws))
    (option_or (option_map PortTwice (port_twice heads nodes ws)) (option_map (open_fault nodes) (port_open heads nodes ws)))

-- the fault of the rules on plugs and custom stages, where one is broken
abbrev pub guests_fault : HeadLists → List ChainDecl → List Node → Option CheckFault
guests_fault heads chains nodes = option_or (option_map NoSuchPlug (unknown_guest heads chains nodes)) (option_map PlugTwice (guest_twice heads nodes))

-- the fault of the rules on sizes and on the wires of hubs, where one is broken
abbrev pub sizes_fault : HeadLists → List ChainDecl → List Node → List WireDecl → Option CheckFault
sizes_fault heads chains nodes wires = option_or (option_map BadSize (size_wrong heads chains nodes wires)) (option_map HubWire (hub_wrong nodes wires))

-- the fault of the rules on types, where one is broken
abbrev pub types_fault : HeadLists → List ChainDecl → List Node → List Edge → Option CheckFault
types_fault heads chains nodes ws =
    option_or (option_map clash_fault (type_clash heads chains nodes ws)) (option_map (λ i. TooDeep (name_at nodes i)) (too_deep heads chains nodes ws))

-- the first rule that is broken, of all but that on closed walks
abbrev pub early_of : List (List ℕ) → List ChainDecl → List Node → List WireDecl → HeadLists → List (List ℕ) → Option CheckFault
early_of switches chains nodes wires heads taken =
    option_or (names_fault switches chains nodes wires taken)
    (option_or (ports_fault heads nodes (wires_of nodes wires))
    (option_or (guests_fault heads chains nodes)
    (option_or (sizes_fault heads chains nodes wires)
    (types_fault heads chains nodes (wires_of nodes wires)))))

-- the fault of the first rule that is broken, of all but that on closed walks
abbrev pub early_fault : Blueprint → HeadLists → List (List ℕ) → Option CheckFault
early_fault b heads taken = early_of b.switches.items b.chains.items b.nodes.items b.wires.items heads taken

-- the fault is that the first wire on a closed walk lies on one
abbrev pub IsClosedFault : List Edge → CheckFault → Type 0
IsClosedFault ws (ClosedWalk i) = IsFirstClosed ws i
IsClosedFault ws _ = ⊥

-- the fault is that of the first rule that is broken, at its least place: closed walks come last
abbrev pub IsFirstFault : Blueprint → HeadLists → List (List ℕ) → CheckFault → Type 0
IsFirstFault b heads taken f = (early_fault b heads taken ≡ Some f) ⊎ ((early_fault b heads taken ≡ None) × IsClosedFault (blueprint_wires b) f)

-- no rule is broken
pub record IsFit (b : Blueprint) (heads : HeadLists) (taken : List (List ℕ)) : Type 0 where
  pub early : early_fault b heads taken ≡ None
  pub open_walks : HasNoClosedWalk (blueprint_wires b)
