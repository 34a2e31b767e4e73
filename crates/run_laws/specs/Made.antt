-- Of which blueprint a net of nodes was made: a node for each of its nodes, as it is handed in, and a wire for each of its wires.
use Rattle.std.specs.Prelude.{◌≡◌, ◌≢◌, ℕ, List, [], length, slice_get, Some, None}
use Rattle.stream_model.specs.declared.kind.Kind.{Kind}
use Rattle.stream_model.specs.declared.kind.Kind.TheVariants as kind
use Rattle.stream_model.specs.declared.kind.Policy.TheVariants.{Backpressure}
use Rattle.elem_core.specs.declared.why.Decider.{Decider}
use Rattle.elem_core.specs.Tree.{num, text}
use Rattle.stream_model.specs.declared.outcome.EndState.TheVariants.{Unended}
use Rattle.stream_model.specs.Graph.{Graph, Edge, steps_of}
use Rattle.stream_model.specs.Graph as graph
use Rattle.stream_model.specs.Linear.{Mention, no_name, a_file, a_switch, a_trip, a_plug, a_custom, a_chain, mention_of}
use Rattle.port_core.specs.View.{unpulled_ports}
use Rattle.stream_io.specs.State.{SourceState}
use Rattle.stage_linear.specs.States.{Logic, IsLinear, Begins}
use Rattle.stage_state.specs.declared.logic.StateLogic.{StateLogic}
use Rattle.stage_state.specs.declared.logic.StateLogic.TheVariants as logic
use Rattle.stage_state.specs.Logics.{IsStateful, BeginsAs}
use Rattle.stage_switch.specs.States.{IsUnused, new_valve_of}
use Rattle.stage_dropping.specs.Droppings as dropping
use Rattle.stage_dropping.specs.Recoverings as recover
use Rattle.stage_state.specs.Handling as state
use Rattle.stage_sub.specs.Leds as subs
use Rattle.stage_sub.specs.LedLaws as led_sub
use Rattle.stage_sub.specs.Handling as sub
use Rattle.line_chain.specs.Line.{Line, line_rest, line_is_open, IsLine}
use Rattle.stage_in.specs.declared.logic.InLogic.{InLogic}
use Rattle.stage_in.specs.Logics as fan_in
use Rattle.stage_out.specs.declared.logic.OutLogic.{OutLogic}
use Rattle.stage_out.specs.OutLogics as fan_out
use Rattle.graph_stage.specs.Laws.{CustomFresh}
use Rattle.graph_stage.specs.Making.{unpulled_view}
use Rattle.graph_stage.specs.State.{CustomState}
use Rattle.fused_net.specs.declared.net.WireEnds.{WireEnds}
use Rattle.fused_net.specs.Net.{end_at}
use Rattle.nodes.specs.declared.node.IslandNode.{IslandNode}
use Rattle.nodes.specs.declared.node.IslandNode.TheVariants.{Reading, Making, Linear, State, Sub, FanIn, FanOut, Custom, Writing, Ignoring, Entering, Leaving}
use Rattle.nodes.specs.Source.{Lines}
use Rattle.nodes.specs.Maker.{Made}
use Rattle.nodes.specs.Sink.{Sink}
use Rattle.nodes.specs.Ignoring.{Ignorer}
use Rattle.nodes.specs.Kinds.{IsMaker, maker_of, IsFileSink, writes_of}

-- a source of the lines of a file, of which nothing was handed out
pub record FirstReading {S : Type 0} (sources : S → SourceState) (k : ℕ) (shape : Kind) (x : Lines S) : Type 0 where
  pub name : List ℕ
  pub kind_is : shape ≡ kind.Lines name
  pub node : x.node ≡ k
  pub kept : x.reader.kept ≡ []
  pub given : (sources x.reader.source).given ≡ 0

-- a linear stage at its start
pub record FirstLinear (k : ℕ) (n : graph.Node) (x : Logic) : Type 0 where
  pub is_linear : IsLinear n.kind
  pub begins : Begins k n.kind n.decider x

-- a new stage of this kind, as one that makes its own choices, but that it may follow moves
abbrev pub LedAs : Kind → ℕ → Decider → StateLogic → Type 0
LedAs (kind.Buffer n p) node d (logic.Dropping l) = (p ≢ Backpressure) × dropping.Begins node n p l
LedAs (kind.RecoverNum k) node d (logic.Recovering l) = l ≡ record (recover.begun (num k)) { left = l.left }
LedAs (kind.RecoverText t) node d (logic.Recovering l) = l ≡ record (recover.begun (text t)) { left = l.left }
LedAs (kind.Valve name) node d (logic.Obeying l) = IsUnused l.switch l.seat × (l ≡ record (new_valve_of node l.switch l.seat) { left = l.left })
LedAs shape node d l = BeginsAs shape node d l

-- a new stage of node `node` is so, and may be started
pub record BeginsLed (node : ℕ) (kind : Kind) (d : Decider) (x : StateLogic) : Type 0 where
  pub as_kind : LedAs kind node d x
  pub fresh : state.StateFresh x unpulled_ports

-- a stage with state at its start, or one that follows moves
pub record FirstState (k : ℕ) (n : graph.Node) (x : StateLogic) : Type 0 where
  pub is_state : IsStateful n.kind
  pub begins : BeginsLed k n.kind n.decider x

-- the chain that a mention names
abbrev mentioned_chain : Mention → List ℕ
mentioned_chain no_name = []
mentioned_chain (a_file file) = []
mentioned_chain (a_switch switch) = []
mentioned_chain (a_trip order switch n) = []
mentioned_chain (a_plug plug) = []
mentioned_chain (a_custom custom) = []
mentioned_chain (a_chain name) = name

-- the name of the chain through which each substream of a stage goes
abbrev pub chain_name : Kind → List ℕ
chain_name k = mentioned_chain (mention_of k)

-- a stage with substreams at its start, each of which goes through the chain that its kind names; or one that follows moves
pub record FirstSub (chains : List graph.Chain) (k : ℕ) (n : graph.Node) (x : subs.Led Line) : Type 0 where
  pub is_sub : sub.IsSub n.kind
  pub begins : led_sub.LedBegins line_rest line_is_open k n.kind x.logic.chain x
  pub line : IsLine k (steps_of (chain_name n.kind) chains) x.logic.chain

-- a stage with several inputs at its start, or one that follows moves
pub record FirstFanIn (k : ℕ) (n : graph.Node) (x : InLogic) : Type 0 where
  pub is_in : fan_in.IsFanIn n.kind
  pub begins : fan_in.Begins k n.kind n.decider x

-- a stage with several outputs at its start
pub record FirstFanOut (k : ℕ) (n : graph.Node) (x : OutLogic) : Type 0 where
  pub is_out : fan_out.IsOut n.kind
  pub begins : fan_out.Begins k n.kind x

-- a custom stage of the name that its node has, which was not started, with the ports of that node
pub record FirstCustom (k : ℕ) (n : graph.Node) (x : CustomState) : Type 0 where
  pub name : List ℕ
  pub kind_is : n.kind ≡ kind.Custom name
  pub named : x.name ≡ name
  pub node : x.node ≡ k
  pub fresh : CustomFresh x (unpulled_view n.head.0 n.head.1)

-- a source without a file at its start
pub record FirstMaking (k : ℕ) (shape : Kind) (x : Made) : Type 0 where
  pub is_maker : IsMaker shape
  pub is : x ≡ maker_of k shape

-- a sink with a file that wrote nothing
pub record FirstWriting {D : Type 0} (k : ℕ) (shape : Kind) (x : Sink D) : Type 0 where
  pub is_sink : IsFileSink shape
  pub node : x.node ≡ k
  pub writes : x.writes ≡ writes_of shape
  pub count : x.count ≡ 0
  pub end : x.end ≡ Unended

-- a sink that keeps nothing, at its start
pub record FirstIgnoring (k : ℕ) (shape : Kind) (x : Ignorer) : Type 0 where
  pub kind_is : shape ≡ kind.Ignore
  pub node : x.node ≡ k
  pub end : x.end ≡ Unended

-- node k of a blueprint with these chains, as it is handed in; the ends of a lane are no nodes of it
abbrev pub FirstOf : {S D L H B : Type 0} → (S → SourceState) → List graph.Chain → ℕ → graph.Node → IslandNode S D L H B → Type 0
FirstOf sources chains k n (Reading x) = FirstReading sources k n.kind x
FirstOf sources chains k n (Making x) = FirstMaking k n.kind x
FirstOf sources chains k n (Linear x) = FirstLinear k n x
FirstOf sources chains k n (State x) = FirstState k n x
FirstOf sources chains k n (Sub x) = FirstSub chains k n x
FirstOf sources chains k n (FanIn x) = FirstFanIn k n x
FirstOf sources chains k n (FanOut x) = FirstFanOut k n x
FirstOf sources chains k n (Custom x) = FirstCustom k n x
FirstOf sources chains k n (Writing x) = FirstWriting k n.kind x
FirstOf sources chains k n (Ignoring x) = FirstIgnoring k n.kind x
FirstOf sources chains k n (Entering x) = ⊥
FirstOf sources chains k n (Leaving x) = ⊥

-- a wire between the same ports, which is no lane
pub record IsFused (v : Edge) (e : WireEnds) : Type 0 where
  pub from : e.from ≡ v.from
  pub output : e.output ≡ v.output
  pub to : e.to ≡ v.to
  pub input : e.input ≡ v.input
  pub no_lane : v.lane ≡ None

-- the nodes, as they are handed in, and the wires' ends are those of the blueprint, each at its place
pub record Materializes {S D L H B : Type 0} (sources : S → SourceState) (g : Graph) (firsts : List (IslandNode S D L H B)) (ends : List WireEnds) : Type 0 where
  pub nodes : length firsts ≡ length g.nodes
  pub wires : length ends ≡ length g.wires
  pub each_node : (k : ℕ) (n : graph.Node) (x : IslandNode S D L H B) → slice_get g.nodes k ≡ Some n → slice_get firsts k ≡ Some x
      → FirstOf sources g.chains k n x
  pub each_wire : (i : ℕ) (v : Edge) → slice_get g.wires i ≡ Some v → IsFused v (end_at ends i)
