-- The nodes of a blueprint at their places, before its files are opened.
use Rattle.std.specs.Prelude.{◌≡◌, ℕ, ◌+◌, List, [], ◌∷◌, Option, None, Some, ⊤}
use Rattle.elem_core.specs.Sort.{Sort}
use Rattle.stage_switch.specs.Public.{SeatState}
use Rattle.stream_model.specs.declared.kind.Kind.{Kind}
use Rattle.stream_model.specs.declared.kind.Kind.TheVariants.{Lines}
use Rattle.stream_model.specs.Graph as graph
use Rattle.stream_model.specs.Composed.{inputs_by}
use Rattle.stream_model.specs.View.{outputs_by}
use Rattle.nodes.specs.Kinds.{IsFileSink}
use Rattle.interpreter.specs.declared.parts.Place.{Place}
use Rattle.interpreter.specs.declared.parts.Seated.{Seated}
use Rattle.interpreter.specs.declared.parts.Work.{Work}
use Rattle.stream_model.specs.declared.blueprint.Node.{Node}
use Rattle.stream_model.specs.declared.blueprint.WireDecl.{WireDecl}
use Rattle.materializer.specs.Ports.{used_ports}
use Rattle.materializer.specs.Files.{source_file, output_of}
use Rattle.materializer.specs.Graphs.{Around}
use Rattle.materializer.specs.Seats.{handles_left, IsFreeWork, IsLedWork, HasUsedPorts, IsWork, work_seat, work_plan, work_types, WorkMayFollow, WorkFollows}
use Rattle.materializer.specs.declared.seats.Planned.{Planned}
use Rattle.materializer.specs.declared.seats.Planned.TheVariants.{Reads, Writes, Works}
use Rattle.materializer.specs.declared.seats.Seat.{Seat}

-- the places of these nodes, of which the first is node k, between which these wires lead
abbrev pub places_from : List WireDecl → ℕ → List Node → List Place
places_from ws k [] = []
places_from ws k (n ∷ ns) = record { node = k; inputs = inputs_by (used_ports ws n.name) n.kind; outputs = outputs_by (used_ports ws n.name) n.kind }
    ∷ places_from ws (k + 1) ns

-- a source of lines
pub record PlansReader (n : Node) : Type 0 where
  pub file : List ℕ
  pub kind_is : n.kind ≡ Lines file

-- a sink with a file
pub record PlansWriter (n : Node) (shape : Kind) : Type 0 where
  pub shape_is : shape ≡ n.kind
  pub is_sink : IsFileSink n.kind

-- a node without a file
pub record PlansWork {S D L H B : Type 0} (around : Around) (k : ℕ) (n : Node) (w : Work S D L H B) : Type 0 where
  pub work : IsFreeWork around.chains k n.kind n.decider w
  pub ports : HasUsedPorts around.wires n w
  pub no_input : source_file n.kind ≡ None
  pub no_output : output_of n.kind ≡ None

-- what is to stand at the place of node k, in a blueprint with these chains and wires
abbrev pub IsPlanned : {S D L H B : Type 0} → Around → ℕ → Node → Planned S D L H B → Type 0
IsPlanned around k n Reads = PlansReader n
IsPlanned around k n (Writes shape) = PlansWriter n shape
IsPlanned around k n (Works w) = PlansWork around k n w

-- the same of a blueprint with these chains, whatever wires lead to the node and from it
abbrev pub IsFreePlan : {S D L H B : Type 0} → List graph.Chain → ℕ → Node → Planned S D L H B → Type 0
IsFreePlan chains k n Reads = PlansReader n
IsFreePlan chains k n (Writes shape) = PlansWriter n shape
IsFreePlan chains k n (Works w) = IsFreeWork chains k n.kind n.decider w

-- a node without a file, which follows moves or not
pub record LeadsWork {S D L H B : Type 0} (around : Around) (k : ℕ) (n : Node) (w : Work S D L H B) : Type 0 where
  pub work : IsLedWork around.chains k n.kind n.decider w
  pub ports : HasUsedPorts around.wires n w
  pub no_input : source_file n.kind ≡ None
  pub no_output : output_of n.kind ≡ None

-- what is to stand at the place of node k, which follows moves or not, in a blueprint with these chains and wires
abbrev pub IsLedPlan : {S D L H B : Type 0} → Around → ℕ → Node → Planned S D L H B → Type 0
IsLedPlan around k n Reads = PlansReader n
IsLedPlan around k n (Writes shape) = PlansWriter n shape
IsLedPlan around k n (Works w) = LeadsWork around k n w

-- the moves that what is to stand at a place follows
abbrev pub plan_of_planned : {S D L H B : Type 0} → Planned S D L H B → Option (List ℕ)
plan_of_planned Reads = None
plan_of_planned (Writes shape) = None
plan_of_planned (Works w) = work_plan w

-- the types of the outputs of what is to stand at a place, where it is a custom stage
abbrev pub types_of_planned : {S D L H B : Type 0} → Planned S D L H B → Option (List Sort)
types_of_planned Reads = None
types_of_planned (Writes shape) = None
types_of_planned (Works w) = work_types w

-- what is to stand at a place may follow these moves
abbrev pub PlannedMayFollow : {S D L H B : Type 0} → List ℕ → Planned S D L H B → Type 0
PlannedMayFollow moves (Works w) = WorkMayFollow moves w
PlannedMayFollow moves p = ⊥

-- it is the same, but follows these moves, where there are some
abbrev pub PlannedFollows : {S D L H B : Type 0} → Option (List ℕ) → Planned S D L H B → Planned S D L H B → Type 0
PlannedFollows None old new = new ≡ old
PlannedFollows (Some moves) (Works old) (Works new) = WorkFollows moves old new
PlannedFollows (Some moves) old new = ⊥

-- the moves that what is to stand at a place follows
abbrev pub planned_plan : {S D L H B : Type 0} → Seat S D L H B → Option (List ℕ)
planned_plan s = plan_of_planned s.planned

-- the types of the outputs of what is to stand at a place, where it is a custom stage
abbrev pub planned_types : {S D L H B : Type 0} → Seat S D L H B → Option (List Sort)
planned_types s = types_of_planned s.planned

-- this is to stand at the place of node k, in a blueprint with these chains and wires
pub record IsSeat {S D L H B : Type 0} (around : Around) (k : ℕ) (n : Node) (s : Seat S D L H B) : Type 0 where
  pub node : s.node ≡ k
  pub planned : IsLedPlan around k n s.planned

-- these nodes, of which the first is node k, each at its place
abbrev pub ArePlanned : {S D L H B : Type 0} → Around → ℕ → List Node → List (Seat S D L H B) → Type 0
ArePlanned around k [] [] = ⊤
ArePlanned around k (n ∷ ns) (s ∷ ss) = IsSeat around k n s × ArePlanned around (k + 1) ns ss
ArePlanned around k _ _ = ⊥

-- how many sources a seat takes
abbrev pub reads : {S D L H B : Type 0} → Planned S D L H B → ℕ
reads Reads = 1
reads (Writes shape) = 0
reads (Works w) = 0

-- how many drains a seat takes
abbrev pub writes : {S D L H B : Type 0} → Planned S D L H B → ℕ
writes Reads = 0
writes (Writes shape) = 1
writes (Works w) = 0

-- how many sources these seats take
abbrev pub reads_in : {S D L H B : Type 0} → List (Seat S D L H B) → ℕ
reads_in [] = 0
reads_in (s ∷ ss) = reads s.planned + reads_in ss

-- how many drains these seats take
abbrev pub writes_in : {S D L H B : Type 0} → List (Seat S D L H B) → ℕ
writes_in [] = 0
writes_in (s ∷ ss) = writes s.planned + writes_in ss

-- whichever node the seat is for, it stands there with its handle, if it has a file, and leaves the other handles
pub record FillsAs {S D L H B : Type 0} (around : Around) (k : ℕ) (n : Node) (sources : List S) (drains : List D) (p : Seated S D L H B)
    (later_sources : List S) (later_drains : List D) : Type 0 where
  pub node : p.node ≡ k
  pub work : IsWork around k n sources drains p.work
  pub sources_left : later_sources ≡ handles_left (source_file n.kind) sources
  pub drains_left : later_drains ≡ handles_left (output_of n.kind) drains

-- whichever node the seat is for, it stands there with its handle, if it has a file, and leaves the other handles
abbrev pub Fills : {S D L H B : Type 0} → Around → Seat S D L H B → List S → List D → Seated S D L H B → List S → List D → Type 0
Fills around s sources drains p later_sources later_drains = (k : ℕ) (n : Node) → IsSeat around k n s
    → FillsAs around k n sources drains p later_sources later_drains

-- the seat at its switch that stands at a place, where it is that of a valve or a trip
abbrev pub seat_of_plan : {S D L H B : Type 0} → Planned S D L H B → Option SeatState
seat_of_plan Reads = None
seat_of_plan (Writes shape) = None
seat_of_plan (Works w) = work_seat w

-- the seat at its switch that is to stand at a place, where it is that of a valve or a trip
abbrev pub planned_seat : {S D L H B : Type 0} → Seat S D L H B → Option SeatState
planned_seat s = seat_of_plan s.planned

-- how many lines what is to stand at a place may put together
abbrev pub planned_room : {S D L H B : Type 0} → Seat S D L H B → ℕ
planned_room s = s.room
