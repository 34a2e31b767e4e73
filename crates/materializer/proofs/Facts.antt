-- What a blueprint that breaks no rule tells, rule by rule.
use Rattle.std.proofs.Common.{◌≡◌, ℕ, List, Option, Some, None, refl}
use Rattle.std.specs.Option.{option_or, option_map}
use Rattle.stream_model.specs.Graph.{Edge}
use Rattle.stream_model.specs.Known.{HeadLists}
use Rattle.stream_model.specs.declared.blueprint.Blueprint.{Blueprint}
use Rattle.stream_model.specs.declared.blueprint.ChainDecl.{ChainDecl}
use Rattle.stream_model.specs.declared.blueprint.Node.{Node}
use Rattle.stream_model.specs.declared.blueprint.WireDecl.{WireDecl}
use Rattle.blue_names.specs.Names.{taken_twice, unknown_name, unknown_guest, guest_twice}
use Rattle.blue_names.specs.Ports.{port_missing, port_twice, port_open}
use Rattle.blue_names.specs.RuleLinks.{hub_wrong}
use Rattle.blue_names.specs.Sizes.{chain_wrong, node_wrong, wire_wrong, size_wrong}
use Rattle.blue_names.specs.declared.spot.Spot.TheVariants as at
use Rattle.blue_check.specs.Fitness.{open_fault, names_fault, ports_fault, guests_fault, sizes_fault, types_fault, IsFit}
use Rattle.blue_check.specs.declared.fault.CheckFault.TheVariants as fault
use Rattle.blue_check.specs.Wires.{blueprint_wires}
use Rattle.materializer.proofs.Joining.{both_none}

map_none : {X Y : Type 0} (f : X → Y) (o : Option X) → option_map f o ≡ None → o ≡ None
map_none f None h = refl
map_none f (Some x) h = absurd cc

-- no name is taken twice or unknown, no port is missing, used twice or open, each plug and each custom stage is handed in and used once,
-- and each size of a node is within its limits
pub record Facts (b : Blueprint) (heads : HeadLists) (taken : List (List ℕ)) : Type 0 where
  pub named : taken_twice b.switches.items b.chains.items b.nodes.items taken ≡ None
  pub known : unknown_name b.switches.items b.chains.items b.nodes.items b.wires.items ≡ None
  pub missing : port_missing heads b.nodes.items (blueprint_wires b) ≡ None
  pub twice : port_twice heads b.nodes.items (blueprint_wires b) ≡ None
  pub open_ : port_open heads b.nodes.items (blueprint_wires b) ≡ None
  pub guests : unknown_guest heads b.chains.items b.nodes.items ≡ None
  pub once : guest_twice heads b.nodes.items ≡ None
  pub sizes : node_wrong heads b.nodes.items ≡ None

-- where the first of several says nothing, none of them does
all_none : {X : Type 0} (o p q : Option X) → option_or o (option_or p q) ≡ None → (o ≡ None) × ((p ≡ None) × (q ≡ None))
all_none o p q h = let two = both_none o (option_or p q) h in (two.0, both_none p q two.1)

pub facts : (b : Blueprint) (heads : HeadLists) (taken : List (List ℕ)) → IsFit b heads taken → Facts b heads taken
facts b heads taken fit =
    let chains = b.chains.items in
    let nodes = b.nodes.items in
    let wires = b.wires.items in
    let ws = blueprint_wires b in
    let sizes = sizes_fault heads chains nodes wires in
    let types = types_fault heads chains nodes ws in
    let rest = option_or sizes types in
    let first = all_none (names_fault b.switches.items chains nodes wires taken) (ports_fault heads nodes ws) (option_or (guests_fault heads chains nodes) rest) fit.early in
    let later = all_none (guests_fault heads chains nodes) sizes types first.1.1 in
    let names = both_none (option_map fault.TwoNames (taken_twice b.switches.items chains nodes taken)) (option_map fault.NoSuchName (unknown_name b.switches.items chains nodes wires)) first.0 in
    let ports = all_none (option_map fault.NoSuchPort (port_missing heads nodes ws)) (option_map fault.PortTwice (port_twice heads nodes ws)) (option_map (open_fault nodes) (port_open heads nodes ws)) first.1.0 in
    let guests = both_none (option_map fault.NoSuchPlug (unknown_guest heads chains nodes)) (option_map fault.PlugTwice (guest_twice heads nodes)) later.0 in
    let size = map_none fault.BadSize (size_wrong heads chains nodes wires) (both_none (option_map fault.BadSize (size_wrong heads chains nodes wires)) (option_map fault.HubWire (hub_wrong nodes wires)) later.1.0).0 in
    let places = all_none (option_map at.Chain (chain_wrong chains)) (option_map at.Node (node_wrong heads nodes)) (option_map at.Wire (wire_wrong wires)) size in record {
      named = map_none fault.TwoNames _ names.0;
      known = map_none fault.NoSuchName _ names.1;
      missing = map_none fault.NoSuchPort _ ports.0;
      twice = map_none fault.PortTwice _ ports.1.0;
      open_ = map_none (open_fault nodes) _ ports.1.1;
      guests = map_none fault.NoSuchPlug _ guests.0;
      once = map_none fault.PlugTwice _ guests.1;
      sizes = map_none at.Node _ places.1.0;
    }
