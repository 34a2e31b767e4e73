-- A graph whose nodes and wires passed the rules of the check, and what its wires carry.
use Rattle.std.specs.Prelude.{◌≡◌, ℕ, List, length, map, slice_get, Option, Some, None, true}
use Rattle.std.specs.List.{list_all}
use Rattle.elem_core.specs.Sort.{Sort}
use Rattle.stream_model.specs.Composed.{composed}
use Rattle.stream_model.specs.Graph.{Graph, Edge}
use Rattle.stream_model.specs.Node.{World}
use Rattle.stream_model.specs.declared.blueprint.ChainDecl.{ChainDecl}
use Rattle.stream_model.specs.declared.blueprint.Node.{Node}
use Rattle.stream_model.specs.declared.blueprint.Step.{Step}
use Rattle.stream_model.specs.declared.blueprint.WireDecl.{WireDecl}
use Rattle.stream_model.specs.Known.{CustomShape, HeadLists}
use Rattle.blue_names.specs.CustomPorts.{custom_head}
use Rattle.blue_names.specs.Names.{unknown_guest}
use Rattle.blue_names.specs.Ports.{port_missing, port_twice, port_open}
use Rattle.blue_names.specs.Rounds.{settled, type_on, type_clash, too_deep}
use Rattle.blue_names.specs.Sizes.{node_wrong}
use Rattle.run_blueprint.specs.Kinds.{is_known, port_want, chain_in, StepsTake}
use Rattle.run_blueprint.specs.Types.{AllTyped, TakesSort}
use Rattle.materializer.specs.Graphs.{graph_node, graph_chain}
use Rattle.materializer.specs.Ports.{used_ports}

-- a plug that a step of a chain names is handed in: so it is where the rule on heads is not broken
pub record HasKnownSteps (heads : HeadLists) (chains : List ChainDecl) : Type 0 where
  pub all : list_all (λ (c : ChainDecl). list_all (λ (s : Step). is_known heads s.kind) c.steps.items) chains ≡ true

module _ (heads : HeadLists) (chains : List ChainDecl) (nodes : List Node) (g : Graph) where
  -- the graph has these nodes and chains, the wires by names use the ports of each head that is named, and no rule on heads, ports, sizes
  -- of nodes or types is broken
  pub record PassesRules : Type 0 where
    pub decls : List WireDecl
    pub nodes_are : g.nodes ≡ map (graph_node decls) nodes
    pub chains_are : g.chains ≡ map graph_chain chains
    pub ports_are : (k : ℕ) (n : Node) (h : CustomShape) → slice_get nodes k ≡ Some n → custom_head heads n.kind ≡ Some h
        → used_ports decls n.name ≡ (length h.inputs, length h.outputs)
    pub no_unknown : unknown_guest heads chains nodes ≡ None
    pub no_missing : port_missing heads nodes g.wires ≡ None
    pub no_twice : port_twice heads nodes g.wires ≡ None
    pub no_open : port_open heads nodes g.wires ≡ None
    pub no_wrong : node_wrong heads nodes ≡ None
    pub no_clash : type_clash heads chains nodes g.wires ≡ None
    pub no_deep : too_deep heads chains nodes g.wires ≡ None

  -- the type that the check settles for a wire
  abbrev pub wire_type : Edge → Option Sort
  wire_type v = type_on heads nodes g.wires (settled heads chains nodes g.wires) (Some v)

  -- the type that is settled for a wire: only elements of it may pass the wire, and the functions of the node to which it leads take it
  pub record CarriesType (w : World) (i : ℕ) (v : Edge) : Type 0 where
    pub type : Sort
    pub settles : wire_type v ≡ Some type
    pub typed : AllTyped type (composed g w i).list
    pub target : Node
    pub at : slice_get nodes v.to ≡ Some target
    pub takes : TakesSort (port_want heads target.kind v.input) type
    pub steps : StepsTake heads (chain_in chains target.kind) type
