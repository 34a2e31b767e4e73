-- A blueprint as a graph by numbers.
use Rattle.std.specs.Prelude.{List, map}
use Rattle.stream_model.specs.Graph.{Graph}
use Rattle.stream_model.specs.Graph as graph
use Rattle.stream_model.specs.declared.blueprint.Blueprint.{Blueprint}
use Rattle.stream_model.specs.declared.blueprint.ChainDecl.{ChainDecl}
use Rattle.stream_model.specs.declared.blueprint.Node.{Node}
use Rattle.stream_model.specs.declared.blueprint.WireDecl.{WireDecl}
use Rattle.materializer.specs.Ports.{used_ports}
use Rattle.blue_check.specs.Wires.{blueprint_wires}
use Rattle.line_chain.specs.Line.{model_step}

-- a node without its name; the head of a custom stage has the ports that its wires use
abbrev pub graph_node : List WireDecl → Node → graph.Node
graph_node ws n = record { kind = n.kind; decider = n.decider; head = used_ports ws n.name }

-- a chain by its name and its steps
abbrev pub graph_chain : ChainDecl → graph.Chain
graph_chain c = record { name = c.name; steps = map model_step c.steps.items }

-- all chains
abbrev pub chains_of : Blueprint → List graph.Chain
chains_of b = map graph_chain b.chains.items

-- what of a blueprint says what a node does beside the node itself: its chains, and its wires, by which the ports of custom stages are known
pub record Around : Type 0 where
  pub chains : List graph.Chain
  pub wires : List WireDecl

-- those of a blueprint
abbrev pub around_of : Blueprint → Around
around_of b = record { chains = chains_of b; wires = b.wires.items }

-- its nodes by kind and decider, its wires by the numbers of their nodes, and its chains by their steps
abbrev pub graph_of : Blueprint → Graph
graph_of b = record { nodes = map (graph_node b.wires.items) b.nodes.items; wires = blueprint_wires b; chains = chains_of b }
