-- The states of a valve and of a trip, what they know of their ports, and what each of their calls owes.
use Rattle.std.specs.Prelude.{◌≡◌, ◌≢◌, ◌+◌, ◌≤◌, ◌==◌, if◌then◌else◌, Bool, true, false, ℕ, List, [], ◌∷◌, Option, Some, None, IfSome, ⊤}
use Rattle.elem_core.specs.Items.{elements}
use Rattle.elem_core.specs.declared.item.Item.{Item}
use Rattle.elem_core.specs.declared.item.Item.TheVariants as item
use Rattle.elem_core.specs.declared.why.Decider.{Decider}
use Rattle.stage_switch.specs.declared.order.Order.{Order}
use Rattle.stage_switch.specs.declared.order.Order.TheVariants.{Shutdown, Abort}
use Rattle.stage_switch.specs.Public.{SwitchState, SeatState, IsSeatOf, AnswersOrder}
use Rattle.port_core.specs.declared.act.Act.{Act}
use Rattle.port_core.specs.declared.act.Act.TheVariants.{Complete, FailOut, Cancel}
use Rattle.port_core.specs.declared.view.InView.{InView}
use Rattle.port_core.specs.declared.view.InView.TheVariants.{Idle, Pulled, Finished}
use Rattle.port_core.specs.declared.view.OutView.{OutView}
use Rattle.port_core.specs.declared.view.OutView.TheVariants.{Unpulled, Available}
use Rattle.port_core.specs.View.{View, OneOne}
use Rattle.port_core.specs.Asking.{PullsStand}
use Rattle.port_core.specs.Picks.{IsMove, next_move, plan_of}
use Rattle.port_core.specs.Call.{Call, starts, pulls, arrives, cancels, given_on}
use Rattle.stream_model.specs.Machine.{going}
use Rattle.stream_model.specs.Linear.{Book, Stage, passing, linear}
use Rattle.stream_model.specs.Picks.{Acted, untouched, completed, aborted, acted}
use Rattle.stage_core.specs.Held.{Held, owing, shut}
use Rattle.stage_core.specs.Row.{BothClosed}
use Rattle.stage_core.specs.Turn.{TurnAt}
use Rattle.stage_core.specs.declared.phase.Phase.{Phase}
use Rattle.stage_core.specs.declared.phase.Phase.TheVariants.{New, Open, Closed}
use Rattle.stage_switch.specs.Valves as valve
use Rattle.stage_switch.specs.Valves.{ValveHeld, ValveTurnAt, abort_of}

-- ---- both

-- a seat of this switch that gave nothing and knows nothing
abbrev pub IsUnused : SwitchState → SeatState → Type 0
IsUnused switch seat = IsSeatOf switch seat × ((seat.gave ≡ None) × (seat.knows ≡ None))

-- what it knows of its ports: while it is open it waits exactly where its output is asked
abbrev pub passing_port_state : Phase → InView → OutView → Type 0
passing_port_state New Idle Unpulled = ⊤
passing_port_state Open Pulled Available = ⊤
passing_port_state Open Idle Unpulled = ⊤
passing_port_state Closed i o = BothClosed i o
passing_port_state _ _ _ = ⊥

-- ---- a valve

-- where it stands, its node, how many elements passed, its moves, those that it still follows, whether it cannot make them, its switch and
-- what its seat has
pub record Valve : Type 0 where
  pub phase : Phase
  pub node : ℕ
  pub passed : ℕ
  pub moves : List ℕ
  pub left : Option (List ℕ)
  pub stuck : Bool
  pub switch : SwitchState
  pub seat : SeatState

-- a new valve
abbrev pub new_valve_of : ℕ → SwitchState → SeatState → Valve
new_valve_of node switch seat = record { phase = New; node = node; passed = 0; moves = []; left = None; stuck = false; switch = switch; seat = seat }

-- the same where it follows moves
abbrev pub follows_order : List ℕ → Valve → Valve
follows_order moves l = record l { left = Some moves }

-- one that has not closed made no move
abbrev pub Unmoved : Phase → List ℕ → Type 0
Unmoved New moves = moves ≡ []
Unmoved Open moves = moves ≡ []
Unmoved Closed moves = ⊤

-- no more passed than its next moves count
abbrev pub MayCount : Option (List ℕ) → ℕ → Type 0
MayCount None n = ⊤
MayCount (Some []) n = ⊤
MayCount (Some (m ∷ [])) n = ⊤
MayCount (Some (m ∷ k ∷ l)) n = n ≤ k

-- how many its next moves count
abbrev pub counted_next : Option (List ℕ) → ℕ
counted_next None = 0
counted_next (Some []) = 0
counted_next (Some (m ∷ [])) = 0
counted_next (Some (m ∷ k ∷ l)) = k

-- what it knows of a port of each side, by whether it does nothing more: else it can make its moves still; one that does nothing more has
-- moves to make, and its input is over
abbrev pub valve_in : Bool → Valve → InView → OutView → Type 0
valve_in false l x y = passing_port_state l.phase x y × MayCount l.left l.passed
valve_in true l x y = (l.phase ≡ Open) × ((x ≡ Finished) × (IsMove (next_move l.left) × MayCount l.left l.passed))

-- one that does nothing more has not closed, and has moves to make
abbrev pub StopsWell : Valve → Type 0
StopsWell l = l.stuck ≡ true → (l.phase ≡ Open) × IsMove (next_move l.left)

-- what it knows of its ports
abbrev pub valve_port_state : Valve → View → Type 0
valve_port_state l v = OneOne (valve_in l.stuck l) v × Unmoved l.phase l.moves

-- the number of an order among the moves
abbrev pub order_number : Order → ℕ
order_number Shutdown = 1
order_number Abort = 2

-- the moves of a valve that did this
abbrev pub moves_by : Acted → List ℕ
moves_by untouched = []
moves_by (completed k) = 1 ∷ k ∷ []
moves_by (aborted k) = 2 ∷ k ∷ []

-- the order by which it did this
abbrev pub order_by : Acted → Option Order
order_by untouched = None
order_by (completed k) = Some Shutdown
order_by (aborted k) = Some Abort

-- its seat is of its switch and gave nothing; it knows an order exactly where the moves say that the valve acted, and that one
pub record IsValve (switch : SwitchState) (seat : SeatState) (moves : List ℕ) : Type 0 where
  pub one : IsSeatOf switch seat
  pub gave : seat.gave ≡ None
  pub knows : seat.knows ≡ order_by (acted moves)
  pub formed : moves ≡ moves_by (acted moves)

-- the moves that it made, and those that it still follows, are each none, or an order and a count
pub record FollowsOrder (moves left : List ℕ) : Type 0 where
  pub formed : moves ≡ moves_by (acted moves)
  pub ahead : left ≡ moves_by (acted left)

-- what its seat tells of its moves, where it makes its own choices; where it follows moves, its seat is as it was handed in
abbrev pub SeatBy : Option (List ℕ) → SwitchState → SeatState → List ℕ → Type 0
SeatBy None switch seat moves = IsValve switch seat moves
SeatBy (Some left) switch seat moves = IsValve switch seat [] × FollowsOrder moves left

-- the order of a number among the moves
abbrev pub numbered_order : ℕ → Order
numbered_order m = if m == 1 then Shutdown else Abort

-- the order of the moves that are left, where as many elements passed as they count
abbrev pub due_order : List ℕ → ℕ → Option Order
due_order [] n = None
due_order (m ∷ []) n = None
due_order (m ∷ k ∷ l) n = if k == n then Some (numbered_order m) else None

-- one that follows moves acts by them alone
abbrev pub IsDue : Option (List ℕ) → ℕ → Option Order → Type 0
IsDue None n o = ⊤
IsDue (Some left) n o = o ≡ due_order left n

-- what a valve owes, and what it did, by where it stands
abbrev pub valve_held_in : Phase → ℕ → List ℕ → ValveHeld
valve_held_in New n moves = valve.passes n
valve_held_in Open n moves = valve.passes n
valve_held_in Closed n moves = valve.shut (acted moves)

-- the same, by whether it does nothing more
abbrev pub valve_held_by : Bool → Valve → ValveHeld
valve_held_by false l = valve_held_in l.phase l.passed l.moves
valve_held_by true l = valve.stopped (counted_next l.left)

-- what a valve owes, and what it did
abbrev pub valve_held : Valve → ValveHeld
valve_held l = valve_held_by l.stuck l

-- it looked, and found this: an order is noted with the number of elements that passed
abbrev pub looked_and : Valve → Option Order → Valve
looked_and l None = record l { seat = record l.seat { knows = None; looks = l.seat.looks + 1 } }
looked_and l (Some o) = record l { moves = order_number o ∷ l.passed ∷ []; seat = record l.seat { knows = Some o; looks = l.seat.looks + 1 } }

-- its moves gave this: an order, with the number of elements that passed, and then none is left
abbrev pub moved_and : Valve → Option Order → Valve
moved_and l None = l
moved_and l (Some o) = record l { moves = order_number o ∷ l.passed ∷ []; left = Some [] }

-- it found this order, or none: at its switch, or by the moves that it follows
abbrev pub watched_by : Option (List ℕ) → Valve → Option Order → Valve
watched_by None l o = looked_and l o
watched_by (Some left) l o = moved_and l o

-- the same, by what it follows
abbrev pub watched : Valve → Option Order → Valve
watched l o = watched_by l.left l o

-- how it acts by an order at its output: it completes, or fails
abbrev pub stop_act : ℕ → Order → Act
stop_act node Shutdown = Complete 0
stop_act node Abort = FailOut 0 (abort_of node)

-- its actions at an order: at its output, and at its input where that is open
abbrev pub stop_acts : ℕ → Order → Bool → List Act
stop_acts node o true = stop_act node o ∷ Cancel 0 ∷ []
stop_acts node o false = stop_act node o ∷ []

-- these are elements alone
abbrev pub OnlyElements : List Item → Type 0
OnlyElements [] = ⊤
OnlyElements (item.Elem e ∷ is) = OnlyElements is
OnlyElements (item.Ended ∷ is) = ⊥
OnlyElements (item.Failed c ∷ is) = ⊥

-- a call that leaves moves to be made found some, gave elements alone, and counted them; and no more passed than the moves count
pub record GivesFew (old new : Valve) (given : List Item) : Type 0 where
  pub moves : IsMove (next_move old.left)
  pub only : OnlyElements given
  pub count : new.passed ≡ old.passed + elements given
  pub upto : MayCount new.left new.passed

-- What a call owes: a step of the valve, by whatever it found; where it makes its own choices one look, and after it its seat knows an
-- order exactly where it has acted by it. What passed is counted where it goes on, and stays as it was where it closes. What it follows
-- stays.
pub record ValveTurned (call : Call) (old : Valve) (acts : List Act) (new : Valve) : Type 0 where
  pub turn : ValveTurnAt old.node call (valve_held old) (given_on 0 acts) (valve_held new)
  pub node : new.node ≡ old.node
  pub switch : new.switch ≡ old.switch
  pub looks : old.left ≡ None → new.seat.looks ≡ old.seat.looks + 1
  pub valve : SeatBy new.left new.switch new.seat new.moves
  pub passed : new.phase ≡ Closed → new.passed ≡ old.passed
  pub plan : plan_of new.moves new.left ≡ plan_of old.moves old.left
  pub stops : StopsWell new
  pub few : IsMove (next_move new.left) → GivesFew old new (given_on 0 acts)
  pub stands : PullsStand acts
  pub started : new.phase ≢ New

-- ---- a trip

-- where it stands, its node, how many elements it took, the order that it gives and at which element, its switch and what its
-- seat has
pub record Trip : Type 0 where
  pub phase : Phase
  pub node : ℕ
  pub taken : ℕ
  pub order : Order
  pub count : ℕ
  pub switch : SwitchState
  pub seat : SeatState

-- a new trip
abbrev pub new_trip_of : ℕ → Order → ℕ → SwitchState → SeatState → Trip
new_trip_of node order count switch seat = record { phase = New; node = node; taken = 0; order = order; count = count; switch = switch; seat = seat }

-- what a trip knows of its ports
abbrev pub trip_port_state : Trip → View → Type 0
trip_port_state l v = OneOne (passing_port_state l.phase) v

-- what a trip owes, by where it stands: nothing, and what its machine gives from here on; or it is closed
abbrev pub trip_held_in : Phase → Stage → Held Stage
trip_held_in New s = owing (record { gave = []; state = going s })
trip_held_in Open s = owing (record { gave = []; state = going s })
trip_held_in Closed s = shut

-- its stage in the model, by any decider, since it never fails
abbrev pub trip_stage : Decider → Trip → Stage
trip_stage d l = record { node = l.node; decider = d; taken = l.taken; work = passing }

-- what it owes
abbrev pub trip_held : Decider → Trip → Held Stage
trip_held d l = trip_held_in l.phase (trip_stage d l)

-- its seat is of its switch; it gave an order only where the element came at which it gives it, and only that one; from then
-- on it knows an order
pub record IsTrip (order : Order) (count taken : ℕ) (switch : SwitchState) (seat : SeatState) : Type 0 where
  pub one : IsSeatOf switch seat
  pub gave : IfSome seat.gave (λ o. (o ≡ order) × (count ≤ taken))
  pub knows : count ≤ taken → seat.knows ≢ None

-- how many elements a call brings
abbrev pub brought : Call → ℕ
brought starts = 0
brought (pulls j) = 0
brought (arrives i (item.Elem e)) = 1
brought (arrives i item.Ended) = 0
brought (arrives i (item.Failed c)) = 0
brought (cancels j) = 0

-- one more element came: where it is the one at which it gives its order, that order is given, and else its seat does nothing
pub record SeatStepped (old new : Trip) : Type 0 where
  pub gives : old.taken + 1 ≡ old.count → (answer : Order) × AnswersOrder old.order answer old.seat new.seat
  pub waits : old.taken + 1 ≢ old.count → new.seat ≡ old.seat

-- what a call does at its seat
abbrev pub SeatTurned : Call → Trip → Trip → Type 0
SeatTurned (arrives i (item.Elem e)) old new = SeatStepped old new
SeatTurned call old new = new.seat ≡ old.seat

-- What a call owes: one step of the machine that passes all on, by any book of plugs and any decider; its seat gave an order only where the element came, and knows
-- one from then on.
pub record TripTurned (call : Call) (old : Trip) (acts : List Act) (new : Trip) : Type 0 where
  pub turn : (book : Book) (d : Decider) → TurnAt (linear book passing) 0 call (trip_held d old) (given_on 0 acts) (trip_held d new)
  pub node : new.node ≡ old.node
  pub order : new.order ≡ old.order
  pub count : new.count ≡ old.count
  pub taken : new.taken ≡ old.taken + brought call
  pub at_seat : SeatTurned call old new
  pub trip : IsTrip new.order new.count new.taken new.switch new.seat
  pub switch : new.switch ≡ old.switch
  pub stands : PullsStand acts
  pub started : new.phase ≢ New
