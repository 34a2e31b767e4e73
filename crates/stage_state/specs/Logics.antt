-- The stages with one input and one output that keep a state, whatever their kind: machines, which choose nothing, buffers that
-- drop, recovers, valves and trips. Each predicate cites that of the kind.
use Rattle.std.specs.Prelude.{◌≡◌, ◌≢◌, ◌<◌, ◌≤◌, true, ℕ, List, [], ◌∷◌, length, Option, Some, None, ⊤}
use Rattle.std.specs.Arc.{arc_value}
use Rattle.elem_core.specs.Tree.{Tree, num, text}
use Rattle.elem_core.specs.declared.why.Decider.{Decider}
use Rattle.port_core.specs.declared.act.Act.{Act}
use Rattle.port_core.specs.View.{View}
use Rattle.port_core.specs.Call.{Call}
use Rattle.stream_model.specs.declared.kind.Kind.{Kind}
use Rattle.stream_model.specs.declared.kind.Kind.TheVariants.{Buffer, RecoverNum, RecoverText, Valve, TripShutdown, TripAbort}
use Rattle.stream_model.specs.declared.kind.Policy.{Policy}
use Rattle.stream_model.specs.declared.kind.Policy.TheVariants.{Backpressure}
use Rattle.stream_model.specs.Outlook.{Outlook}
use Rattle.stream_model.specs.Picks.{acted}
use Rattle.port_core.specs.Picks.{next_move}
use Rattle.stage_dropping.specs.Drops.{DropMisfits}
use Rattle.stage_dropping.specs.Recovers.{RecoverCause}
use Rattle.stage_switch.specs.Valves.{ValveCause}
use Rattle.stage_core.specs.declared.phase.Phase.{Phase}
use Rattle.stage_dropping.specs.Droppings as dropping
use Rattle.stage_dropping.specs.Recoverings as recover
use Rattle.stage_switch.specs.declared.end.SwitchEnd.{SwitchEnd}
use Rattle.stage_switch.specs.declared.order.Order.TheVariants.{Shutdown, Abort}
use Rattle.stage_switch.specs.States.{IsUnused, new_valve_of, follows_order, moves_by, counted_next, new_trip_of}
use Rattle.stage_switch.specs.States as switch
use Rattle.stage_state.specs.declared.logic.StateLogic.{StateLogic}
use Rattle.stage_state.specs.declared.logic.StateLogic.TheVariants.{Machine, Dropping, Recovering, Obeying, Tripping}
use Rattle.stage_state.specs.States as machine

-- where it stands
abbrev pub phase_of : StateLogic → Phase
phase_of (Machine l) = l.phase
phase_of (Dropping l) = l.phase
phase_of (Recovering l) = l.phase
phase_of (Obeying l) = l.phase
phase_of (Tripping l) = l.phase

-- what it knows of its ports
abbrev pub port_state : StateLogic → View → Type 0
port_state (Machine l) v = machine.port_state l v
port_state (Dropping l) v = dropping.port_state l v
port_state (Recovering l) v = recover.port_state l v
port_state (Obeying l) v = switch.valve_port_state l v
port_state (Tripping l) v = switch.trip_port_state l v

-- what a handler owes to the law; the stage stays of its kind
abbrev pub Turned : Call → StateLogic → List Act → StateLogic → Type 0
Turned call (Machine l) acts (Machine m) = machine.Turned call l acts m
Turned call (Dropping l) acts (Dropping m) = dropping.Turned call l acts m
Turned call (Recovering l) acts (Recovering m) = recover.Turned call l acts m
Turned call (Obeying l) acts (Obeying m) = switch.ValveTurned call l acts m
Turned call (Tripping l) acts (Tripping m) = switch.TripTurned call l acts m
Turned _ _ _ _ = ⊥

-- where a handler takes no memory: a valve takes some at each call, for the moves that it may have to note; a buffer that drops
-- at an ask, a recover at a failure, and a machine may where its input ends
abbrev pub TakesNone : StateLogic → Type 0
TakesNone (Obeying l) = ⊥
TakesNone _ = ⊤

-- an ask takes no memory
abbrev pub TakesNoneAsked : StateLogic → Type 0
TakesNoneAsked (Dropping l) = ⊥
TakesNoneAsked (Obeying l) = ⊥
TakesNoneAsked _ = ⊤

-- an end of the input takes no memory
abbrev pub TakesNoneEnded : StateLogic → Type 0
TakesNoneEnded (Machine l) = ⊥
TakesNoneEnded (Obeying l) = ⊥
TakesNoneEnded _ = ⊤

-- a failure of the input takes no memory
abbrev pub TakesNoneFailed : StateLogic → Type 0
TakesNoneFailed (Recovering l) = ⊥
TakesNoneFailed (Obeying l) = ⊥
TakesNoneFailed _ = ⊤

-- it chooses, and so it keeps a log of its moves
abbrev pub Chooses : StateLogic → Type 0
Chooses (Machine l) = ⊥
Chooses (Tripping l) = ⊥
Chooses _ = ⊤

-- ---- a new stage

-- the kinds that these stages are; a buffer has room for something, and a trip counts from 1
abbrev pub IsStateful : Kind → Type 0
IsStateful (Buffer n p) = 0 < n
IsStateful (RecoverNum k) = ⊤
IsStateful (RecoverText l) = ⊤
IsStateful (Valve name) = ⊤
IsStateful (TripShutdown name n) = 1 ≤ n
IsStateful (TripAbort name n) = 1 ≤ n
IsStateful kind = machine.IsMachine kind

-- this seat is of its switch, gave nothing and knows nothing
abbrev pub IsUnusedEnd : SwitchEnd → Type 0
IsUnusedEnd e = IsUnused (arc_value e.switch) e.seat

-- a seat at a switch is handed in exactly to a valve and to a trip, and it gave nothing and knows nothing
abbrev pub IsHandedEnd : Kind → Option SwitchEnd → Type 0
IsHandedEnd (Valve name) None = ⊥
IsHandedEnd (Valve name) (Some e) = IsUnusedEnd e
IsHandedEnd (TripShutdown name n) None = ⊥
IsHandedEnd (TripShutdown name n) (Some e) = IsUnusedEnd e
IsHandedEnd (TripAbort name n) None = ⊥
IsHandedEnd (TripAbort name n) (Some e) = IsUnusedEnd e
IsHandedEnd kind None = ⊤
IsHandedEnd kind (Some e) = ⊥

-- a new stage of this kind: what a machine owes at its start; a buffer or a recover to which nothing came, which follows no moves; a valve
-- or a trip to which nothing came, whose seat is of its switch, gave nothing and knows nothing
abbrev pub BeginsAs : Kind → ℕ → Decider → StateLogic → Type 0
BeginsAs kind node d (Machine l) = machine.IsMachine kind × machine.Begins node kind d l
BeginsAs (Buffer n p) node d (Dropping l) = (p ≢ Backpressure) × (dropping.Begins node n p l × (l.log.left ≡ None))
BeginsAs (RecoverNum k) node d (Recovering l) = l ≡ recover.begun (num k)
BeginsAs (RecoverText w) node d (Recovering l) = l ≡ recover.begun (text w)
BeginsAs (Valve name) node d (Obeying l) = IsUnused l.switch l.seat × (l ≡ new_valve_of node l.switch l.seat)
BeginsAs (TripShutdown name n) node d (Tripping l) = (1 ≤ n) × (IsUnused l.switch l.seat × (l ≡ new_trip_of node Shutdown n l.switch l.seat))
BeginsAs (TripAbort name n) node d (Tripping l) = (1 ≤ n) × (IsUnused l.switch l.seat × (l ≡ new_trip_of node Abort n l.switch l.seat))
BeginsAs _ node d _ = ⊥

-- ---- one that follows moves

-- a new one may follow these moves: of a buffer that drops each is 0 or 1; a recover has at most one; a valve has none, or an order and a
-- count
abbrev pub StateMayFollow : List ℕ → StateLogic → Type 0
StateMayFollow moves (Dropping l) = (node : ℕ) × (n : ℕ) × (p : Policy) × (p ≢ Backpressure) × (0 < n) × dropping.Begins node n p l
    × dropping.NamesMoves (Some moves)
StateMayFollow moves (Recovering l) = ((own : Tree) × (l ≡ recover.begun own)) × (length moves ≤ 1)
StateMayFollow moves (Obeying l) = (l ≡ new_valve_of l.node l.switch l.seat) × IsUnused l.switch l.seat × (length moves ≤ 2) × (moves ≡ moves_by (acted moves))
StateMayFollow moves l = ⊥

-- it is the same, but follows these moves
abbrev pub StateFollows : List ℕ → StateLogic → StateLogic → Type 0
StateFollows moves (Dropping l) (Dropping m) = ((node : ℕ) → (n : ℕ) → (p : Policy) → dropping.Begins node n p l → dropping.Begins node n p m)
    × (m.log.left ≡ Some moves)
StateFollows moves (Recovering l) (Recovering m) = m ≡ recover.follows moves l
StateFollows moves (Obeying l) (Obeying m) = m ≡ follows_order moves l
StateFollows moves old new = ⊥

-- one that stopped has the cause of a misfit, over the outlooks of its inputs
abbrev pub StateStopsRightly : List Outlook → StateLogic → Type 0
StateStopsRightly is (Dropping l) = l.log.stuck ≡ true → (o : Outlook) × ((is ≡ o ∷ []) × DropMisfits l.policy l.size (next_move l.log.left) l.log.moves o)
StateStopsRightly is (Recovering l) = l.stuck ≡ true → RecoverCause (next_move l.left) is
StateStopsRightly is (Obeying l) = l.stuck ≡ true → ValveCause (counted_next l.left) is
StateStopsRightly is l = ⊤
