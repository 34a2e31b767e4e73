-- A blueprint that breaks no rule, as the laws of types want it.
use Rattle.std.proofs.Common.{◌≡◌, ℕ, List, map, Option, Some, None, refl, sym, subst}
use Rattle.std.specs.Option.{option_map, option_or}
use Rattle.stream_model.specs.Graph.{Graph}
use Rattle.stream_model.specs.declared.blueprint.Blueprint.{Blueprint}
use Rattle.stream_model.specs.Known.{HeadLists}
use Rattle.blue_names.specs.Names.{unknown_guest, guest_twice}
use Rattle.blue_names.specs.Ports.{port_missing, port_twice, port_open}
use Rattle.blue_names.specs.Rounds.{type_clash, too_deep}
use Rattle.blue_names.specs.RuleLinks.{hub_wrong}
use Rattle.blue_names.specs.Sizes.{chain_wrong, node_wrong, wire_wrong, size_wrong}
use Rattle.blue_names.specs.declared.spot.Spot.TheVariants as at
use Rattle.blue_check.specs.declared.fault.CheckFault.TheVariants.{NoSuchPort, PortTwice, NoSuchPlug, PlugTwice, BadSize, HubWire, TooDeep}
use Rattle.blue_check.specs.Fitness.{IsFit, name_at, open_fault, clash_fault, names_fault, ports_fault, guests_fault, sizes_fault, types_fault}
use Rattle.blue_check.specs.Wires.{blueprint_wires}
use Rattle.materializer.specs.Graphs.{graph_node, graph_chain}
use Rattle.materializer.proofs.Used.{has_guests}
use Rattle.run_blueprint.specs.Checked.{PassesRules}
use Rattle.run_blueprint.proofs.Rules.{none_parts}

none_mapped : {X F : Type 0} (f : X → F) (o : Option X) → option_map f o ≡ None → o ≡ None
none_mapped f None h = refl
none_mapped f (Some x) h = cc

-- each group of rules
record Groups (b : Blueprint) (heads : HeadLists) : Type 0 where
  ports : ports_fault heads b.nodes.items (blueprint_wires b) ≡ None
  handed : guests_fault heads b.chains.items b.nodes.items ≡ None
  sizes : sizes_fault heads b.chains.items b.nodes.items b.wires.items ≡ None
  types : types_fault heads b.chains.items b.nodes.items (blueprint_wires b) ≡ None

groups : (b : Blueprint) (heads : HeadLists) (taken : List (List ℕ)) → IsFit b heads taken → Groups b heads
groups b heads taken fit =
    let nodes = b.nodes.items in
    let chains = b.chains.items in
    let ws = blueprint_wires b in
    let types = types_fault heads chains nodes ws in
    let sizes = option_or (sizes_fault heads chains nodes b.wires.items) types in
    let handed = option_or (guests_fault heads chains nodes) sizes in
    let one = none_parts (names_fault b.switches.items chains nodes b.wires.items taken) (option_or (ports_fault heads nodes ws) handed) fit.early in
    let two = none_parts (ports_fault heads nodes ws) handed one.1 in
    let three = none_parts (guests_fault heads chains nodes) sizes two.1 in
    let four = none_parts (sizes_fault heads chains nodes b.wires.items) types three.1 in
    record { ports = two.0; handed = three.0; sizes = four.0; types = four.1 }

pub fit_passes : (b : Blueprint) (heads : HeadLists) (taken : List (List ℕ)) (g : Graph) → IsFit b heads taken → g.nodes ≡ map (graph_node b.wires.items) b.nodes.items → g.wires ≡ blueprint_wires b → g.chains ≡ map graph_chain b.chains.items
    → PassesRules heads b.chains.items b.nodes.items g
fit_passes b heads taken g fit nodes_are wires_are chains_are =
    let nodes = b.nodes.items in
    let chains = b.chains.items in
    let ws = blueprint_wires b in
    let back = sym wires_are in
    let of = groups b heads taken fit in
    let ports = none_parts (option_map NoSuchPort (port_missing heads nodes ws)) (option_or (option_map PortTwice (port_twice heads nodes ws)) (option_map (open_fault nodes) (port_open heads nodes ws))) of.ports in
    let more = none_parts (option_map PortTwice (port_twice heads nodes ws)) (option_map (open_fault nodes) (port_open heads nodes ws)) ports.1 in
    let handed = none_parts (option_map NoSuchPlug (unknown_guest heads chains nodes)) (option_map PlugTwice (guest_twice heads nodes)) of.handed in
    let size = none_mapped BadSize (size_wrong heads chains nodes b.wires.items) (none_parts (option_map BadSize (size_wrong heads chains nodes b.wires.items)) (option_map HubWire (hub_wrong nodes b.wires.items)) of.sizes).0 in
    let behind = none_parts (option_map at.Chain (chain_wrong chains)) (option_or (option_map at.Node (node_wrong heads nodes)) (option_map at.Wire (wire_wrong b.wires.items))) size in
    let size_of_node = none_parts (option_map at.Node (node_wrong heads nodes)) (option_map at.Wire (wire_wrong b.wires.items)) behind.1 in
    let types = none_parts (option_map clash_fault (type_clash heads chains nodes ws)) (option_map (λ i. TooDeep (name_at nodes i)) (too_deep heads chains nodes ws)) of.types in
    record {
      decls = b.wires.items;
      nodes_are = nodes_are;
      ports_are = (has_guests b heads taken fit).ports;
      chains_are = chains_are;
      no_unknown = none_mapped NoSuchPlug (unknown_guest heads chains nodes) handed.0;
      no_missing = subst (λ vs. port_missing heads nodes vs ≡ None) back (none_mapped NoSuchPort (port_missing heads nodes ws) ports.0);
      no_twice = subst (λ vs. port_twice heads nodes vs ≡ None) back (none_mapped PortTwice (port_twice heads nodes ws) more.0);
      no_open = subst (λ vs. port_open heads nodes vs ≡ None) back (none_mapped (open_fault nodes) (port_open heads nodes ws) more.1);
      no_wrong = none_mapped at.Node (node_wrong heads nodes) size_of_node.0;
      no_clash = subst (λ vs. type_clash heads chains nodes vs ≡ None) back (none_mapped clash_fault (type_clash heads chains nodes ws) types.0);
      no_deep = subst (λ vs. too_deep heads chains nodes vs ≡ None) back (none_mapped (λ i. TooDeep (name_at nodes i)) (too_deep heads chains nodes ws) types.1);
    }
