-- What stands at the place of each node of a blueprint, in whichever island it is.
use Rattle.std.specs.Prelude.{◌≡◌, ℕ, ◌+◌, List, [], ◌∷◌, slice_get, Option, Some, None, ⊤}
use Rattle.elem_core.specs.Sort.{Sort}
use Rattle.elem_core.specs.declared.why.Decider.{Decider}
use Rattle.stream_model.specs.declared.kind.Kind.{Kind}
use Rattle.stream_model.specs.declared.kind.Kind.TheVariants.{Ignore, Custom}
use Rattle.stream_model.specs.Graph as graph
use Rattle.stream_model.specs.Graph.{steps_of}
use Rattle.stream_model.specs.Composed.{inputs_by}
use Rattle.stream_model.specs.View.{outputs_by}
use Rattle.stream_io.specs.Reading.{ReaderState}
use Rattle.stage_switch.specs.Public.{SeatState}
use Rattle.stage_linear.specs.States.{Logic, IsLinear, Begins}
use Rattle.stage_state.specs.declared.logic.StateLogic.{StateLogic}
use Rattle.stage_state.specs.Logics.{IsStateful, StateMayFollow, StateFollows}
use Rattle.stage_state.specs.Moves.{state_seat, state_plan}
use Rattle.stage_state.specs.Handling as state
use Rattle.stage_sub.specs.Leds as subs
use Rattle.stage_sub.specs.LedLaws as led_sub
use Rattle.stage_sub.specs.Handling as sub
use Rattle.line_chain.specs.Line.{Line, line_rest, line_is_open, IsLine}
use Rattle.stage_in.specs.declared.logic.InLogic.{InLogic}
use Rattle.stage_in.specs.Logics.{IsFanIn}
use Rattle.stage_in.specs.Logics as fan_in
use Rattle.stage_in.specs.Moves.{in_plan}
use Rattle.stage_out.specs.declared.logic.OutLogic.{OutLogic}
use Rattle.stage_out.specs.OutLogics.{IsOut}
use Rattle.stage_out.specs.OutLogics as fan_out
use Rattle.stage_out.specs.Moves.{out_plan}
use Rattle.graph_stage.specs.Laws.{CustomFresh}
use Rattle.graph_stage.specs.Making.{unpulled_view}
use Rattle.graph_stage.specs.State.{CustomState}
use Rattle.nodes.specs.Kinds.{IsMaker, IsFileSink}
use Rattle.port_core.specs.View.{unpulled_ports}
use Rattle.run_laws.specs.Made.{chain_name, BeginsLed}
use Rattle.run_laws.specs.Ends.{half_of}
use Rattle.interpreter.specs.declared.parts.Seated.{Seated}
use Rattle.interpreter.specs.declared.parts.Work.{Work}
use Rattle.interpreter.specs.declared.parts.Work.TheVariants as work
use Rattle.stream_model.specs.declared.blueprint.Node.{Node}
use Rattle.stream_model.specs.declared.blueprint.WireDecl.{WireDecl}
use Rattle.materializer.specs.Graphs.{Around}
use Rattle.materializer.specs.Ports.{used_ports}
use Rattle.materializer.specs.Files.{source_file, output_of}

-- the handle that a node takes where it has a file: the next one
abbrev pub handle_of : {X : Type 0} → Option (List ℕ) → List X → Option X
handle_of None xs = None
handle_of (Some file) xs = slice_get xs 0

-- the handles that it leaves
abbrev pub handles_left : {X : Type 0} → Option (List ℕ) → List X → List X
handles_left None xs = xs
handles_left (Some file) [] = []
handles_left (Some file) (x ∷ xs) = xs

-- a source of lines reads the next of the sources, and has read nothing
pub record ReadsNext {S : Type 0} (n : Node) (sources : List S) (r : ReaderState S) : Type 0 where
  pub source : handle_of (source_file n.kind) sources ≡ Some r.source
  pub kept : r.kept ≡ []

-- a linear stage is at its start
pub record Stages (k : ℕ) (kind : Kind) (d : Decider) (l : Logic) : Type 0 where
  pub is_linear : IsLinear kind
  pub begins : Begins k kind d l

-- a stage with state is at its start
pub record StagesState (k : ℕ) (kind : Kind) (d : Decider) (l : StateLogic) : Type 0 where
  pub is_state : IsStateful kind
  pub begins : state.Begins k kind d l

-- a stage with substreams is at its start, follows no moves, and each of them goes through the chain that its kind names
pub record StagesSub (chains : List graph.Chain) (k : ℕ) (kind : Kind) (l : subs.Led Line) : Type 0 where
  pub is_sub : sub.IsSub kind
  pub begins : led_sub.LedBegins line_rest line_is_open k kind l.logic.chain l
  pub free : l.left ≡ None
  pub line : IsLine k (steps_of (chain_name kind) chains) l.logic.chain

-- a stage with several inputs is at its start, follows no moves, and has so many
pub record StagesIn (k : ℕ) (kind : Kind) (d : Decider) (l : InLogic) (inputs : ℕ) : Type 0 where
  pub is_in : IsFanIn kind
  pub begins : fan_in.Begins k kind d l
  pub free : in_plan l ≡ None
  pub inputs_are : inputs ≡ inputs_by (0, 0) kind

-- a stage with several outputs is at its start, follows no moves, and has so many
pub record StagesOut (k : ℕ) (kind : Kind) (l : OutLogic) (outputs : ℕ) : Type 0 where
  pub is_out : IsOut kind
  pub begins : fan_out.Begins k kind l
  pub free : out_plan l ≡ None
  pub outputs_are : outputs ≡ outputs_by (0, 0) kind

-- a stage with state is at its start, or follows moves
pub record LeadsState (k : ℕ) (kind : Kind) (d : Decider) (l : StateLogic) : Type 0 where
  pub is_state : IsStateful kind
  pub begins : BeginsLed k kind d l

-- a stage with substreams is at its start, or follows moves, and each of them goes through the chain that its kind names
pub record LeadsSub (chains : List graph.Chain) (k : ℕ) (kind : Kind) (l : subs.Led Line) : Type 0 where
  pub is_sub : sub.IsSub kind
  pub begins : led_sub.LedBegins line_rest line_is_open k kind l.logic.chain l
  pub line : IsLine k (steps_of (chain_name kind) chains) l.logic.chain

-- a stage with several inputs is at its start, or follows moves, and has so many
pub record LeadsIn (k : ℕ) (kind : Kind) (d : Decider) (l : InLogic) (inputs : ℕ) : Type 0 where
  pub is_in : IsFanIn kind
  pub begins : fan_in.Begins k kind d l
  pub inputs_are : inputs ≡ inputs_by (0, 0) kind

-- a stage with several outputs is at its start, or follows moves, and has so many
pub record LeadsOut (k : ℕ) (kind : Kind) (l : OutLogic) (outputs : ℕ) : Type 0 where
  pub is_out : IsOut kind
  pub begins : fan_out.Begins k kind l
  pub outputs_are : outputs ≡ outputs_by (0, 0) kind

-- a custom stage was not started, is that of node k and of the name that the node has, and has so many ports
pub record StagesCustom (k : ℕ) (kind : Kind) (x : CustomState) (inputs outputs : ℕ) : Type 0 where
  pub is_custom : (name : List ℕ) × (kind ≡ Custom name)
  pub named : x.name ≡ is_custom.0
  pub node_is : x.node ≡ k
  pub fresh : CustomFresh x (unpulled_view inputs outputs)

-- a source without a file is of its kind
pub record MakesAs (kind shape : Kind) : Type 0 where
  pub shape_is : shape ≡ kind
  pub is_maker : IsMaker kind

-- a sink with a file writes the next of the drains
pub record WritesNext {D : Type 0} (n : Node) (drains : List D) (shape : Kind) (drain : D) : Type 0 where
  pub shape_is : shape ≡ n.kind
  pub is_sink : IsFileSink n.kind
  pub next : handle_of (output_of n.kind) drains ≡ Some drain

-- a sink that keeps nothing has no drain
pub record WritesNone (kind shape : Kind) : Type 0 where
  pub shape_is : shape ≡ kind
  pub is_ignore : kind ≡ Ignore

-- the work of node k of this kind, which has no file, in a blueprint with these chains
abbrev pub IsFreeWork : {S D L H B : Type 0} → List graph.Chain → ℕ → Kind → Decider → Work S D L H B → Type 0
IsFreeWork chains k kind d (work.Making shape) = MakesAs kind shape
IsFreeWork chains k kind d (work.Linear l) = Stages k kind d l
IsFreeWork chains k kind d (work.State l) = StagesState k kind d l
IsFreeWork chains k kind d (work.Sub l) = StagesSub chains k kind l
IsFreeWork chains k kind d (work.FanIn l inputs) = StagesIn k kind d l inputs
IsFreeWork chains k kind d (work.FanOut l outputs) = StagesOut k kind l outputs
IsFreeWork chains k kind d (work.Custom x inputs outputs) = StagesCustom k kind x inputs outputs
IsFreeWork chains k kind d (work.Writing shape None) = WritesNone kind shape
IsFreeWork chains k kind d _ = ⊥

-- a custom stage has the ports that the wires use at its node
abbrev pub HasUsedPorts : {S D L H B : Type 0} → List WireDecl → Node → Work S D L H B → Type 0
HasUsedPorts wires n (work.Custom x inputs outputs) = used_ports wires n.name ≡ (inputs, outputs)
HasUsedPorts wires n _ = ⊤

-- the same, or one that follows moves
abbrev pub IsLedWork : {S D L H B : Type 0} → List graph.Chain → ℕ → Kind → Decider → Work S D L H B → Type 0
IsLedWork chains k kind d (work.State l) = LeadsState k kind d l
IsLedWork chains k kind d (work.Sub l) = LeadsSub chains k kind l
IsLedWork chains k kind d (work.FanIn l inputs) = LeadsIn k kind d l inputs
IsLedWork chains k kind d (work.FanOut l outputs) = LeadsOut k kind l outputs
IsLedWork chains k kind d w = IsFreeWork chains k kind d w

-- the moves that a work follows, where it follows some
abbrev pub work_plan : {S D L H B : Type 0} → Work S D L H B → Option (List ℕ)
work_plan (work.State l) = state_plan l
work_plan (work.Sub l) = subs.sub_plan l
work_plan (work.FanIn l inputs) = in_plan l
work_plan (work.FanOut l outputs) = out_plan l
work_plan w = None

-- the types of the outputs of a work, where it is a custom stage
abbrev pub work_types : {S D L H B : Type 0} → Work S D L H B → Option (List Sort)
work_types (work.Custom x inputs outputs) = Some x.types
work_types w = None

-- Choice: docs/DECISIONS.md#types-go-along
-- the types of the outputs of what stands at a place, where it is a custom stage
abbrev pub place_types : {S D L H B : Type 0} → Seated S D L H B → Option (List Sort)
place_types p = work_types p.work

-- the moves that what stands at a place follows
abbrev pub place_plan : {S D L H B : Type 0} → Seated S D L H B → Option (List ℕ)
place_plan p = work_plan p.work

-- a new work may follow these moves
abbrev pub WorkMayFollow : {S D L H B : Type 0} → List ℕ → Work S D L H B → Type 0
WorkMayFollow moves (work.State l) = StateMayFollow moves l
WorkMayFollow moves (work.Sub l) = l.logic.moves ≡ Some []
WorkMayFollow moves (work.FanIn l inputs) = fan_in.MayFollow moves l
WorkMayFollow moves (work.FanOut l outputs) = fan_out.OutMayFollow moves l
WorkMayFollow moves w = ⊥

-- it is the same, but follows these moves
abbrev pub WorkFollows : {S D L H B : Type 0} → List ℕ → Work S D L H B → Work S D L H B → Type 0
WorkFollows moves (work.State old) (work.State new) = StateFollows moves old new × state.StateFresh new unpulled_ports
WorkFollows moves (work.Sub old) (work.Sub new) =
    ((node : ℕ) (kind : Kind) (chain : Line) → led_sub.LedBegins line_rest line_is_open node kind chain old
    → led_sub.LedBegins line_rest line_is_open node kind chain new)
    × (subs.sub_plan new ≡ Some moves)
WorkFollows moves (work.FanIn old inputs) (work.FanIn new same) =
    (same ≡ inputs) × (((node : ℕ) (kind : Kind) (d : Decider) → fan_in.Begins node kind d old → fan_in.Begins node kind d new) × (in_plan new ≡ Some moves))
WorkFollows moves (work.FanOut old outputs) (work.FanOut new same) =
    (same ≡ outputs) × (((node : ℕ) (kind : Kind) → fan_out.Begins node kind old → fan_out.Begins node kind new) × (out_plan new ≡ Some moves))
WorkFollows moves old new = ⊥

-- the work of node k, where these sources and drains are left, in a blueprint with these chains and wires
abbrev pub IsWork : {S D L H B : Type 0} → Around → ℕ → Node → List S → List D → Work S D L H B → Type 0
IsWork around k n sources drains (work.Reading r) = ReadsNext n sources r
IsWork around k n sources drains (work.Writing shape (Some d)) = WritesNext n drains shape d
IsWork around k n sources drains (work.Custom x inputs outputs) = StagesCustom k n.kind x inputs outputs × (used_ports around.wires n.name ≡ (inputs, outputs))
IsWork around k n sources drains w = IsLedWork around.chains k n.kind n.decider w

-- these nodes of a blueprint with these chains and wires, of which the first is node k, each at its place; in their order they take the sources and the drains
abbrev pub AreSeats : {S D L H B : Type 0} → Around → ℕ → List Node → List S → List D → List (Seated S D L H B) → Type 0
AreSeats around k [] sources drains [] = ⊤
AreSeats around k (n ∷ ns) sources drains (p ∷ ps) =
    (p.node ≡ k) × (IsWork around k n sources drains p.work × AreSeats around (k + 1) ns (handles_left (source_file n.kind) sources)
    (handles_left (output_of n.kind) drains) ps)
AreSeats around k _ sources drains _ = ⊥

-- the seat at its switch that a work has, where it is that of a valve or a trip
abbrev pub work_seat : {S D L H B : Type 0} → Work S D L H B → Option SeatState
work_seat (work.State l) = state_seat l
work_seat _ = None

-- the seat at its switch that stands at a place, where it is that of a valve or a trip
abbrev pub place_seat : {S D L H B : Type 0} → Seated S D L H B → Option SeatState
place_seat p = work_seat p.work

-- how many lines what stands at a place may put together
abbrev pub place_room : {S D L H B : Type 0} → Seated S D L H B → ℕ
place_room p = p.room

-- how many lines a sink may put together: behind a lane half as many as it has places, but at least one; and one where there is no lane
abbrev pub gather_of : Option ℕ → ℕ
gather_of None = 1
gather_of (Some size) = half_of size
