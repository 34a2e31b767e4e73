-- The seats of a switch after a run, over the nodes of a blueprint, and what they tell of the valves' moves.
use Rattle.std.specs.Prelude.{◌≡◌, ◌≤◌, ℕ, List, Option, Some, None, IfSome, map, slice_get, true, ⊤}
use Rattle.std.specs.List.{All, Contains}
use Rattle.elem_core.specs.Values.{same_text}
use Rattle.stage_switch.specs.declared.order.Order.{Order}
use Rattle.stage_switch.specs.declared.order.Order.TheVariants.{Shutdown, Abort}
use Rattle.stage_switch.specs.Public.{SeatState, GaveIt}
use Rattle.stream_model.specs.declared.kind.Kind.{Kind}
use Rattle.stream_model.specs.declared.kind.Kind.TheVariants.{Valve, TripShutdown, TripAbort}
use Rattle.stream_model.specs.Graph.{Graph, Node}
use Rattle.stream_model.specs.Node.{World}
use Rattle.stream_model.specs.Picks.{acted}
use Rattle.stream_model.specs.Fits.{CanTrip, valve_order}
use Rattle.stage_switch.specs.States.{moves_by, order_by}

-- a node of this kind is at the switch of that name
abbrev pub IsAt : List ℕ → Kind → Type 0
IsAt name (Valve s) = same_text s name ≡ true
IsAt name (TripShutdown s n) = same_text s name ≡ true
IsAt name (TripAbort s n) = same_text s name ≡ true
IsAt name k = ⊥

-- a valve with these moves: its seat gave nothing, and knows the order by which it acted
pub record ValveTold (moves : List ℕ) (seat : SeatState) : Type 0 where
  pub gave : seat.gave ≡ None
  pub knows : seat.knows ≡ order_by (acted moves)
  pub formed : moves ≡ moves_by (acted moves)

-- a trip that took so many elements: its seat gave an order only where the element came at which it gives it, and that one
abbrev pub TripTold : Order → ℕ → ℕ → SeatState → Type 0
TripTold order count took seat = IfSome seat.gave (λ o. (o ≡ order) × (count ≤ took))

-- what the law of a node tells of its seat, by its kind, its moves and how many elements it took
abbrev pub SeatTold : Kind → List ℕ → ℕ → SeatState → Type 0
SeatTold (Valve s) moves took seat = ValveTold moves seat
SeatTold (TripShutdown s n) moves took seat = TripTold Shutdown n took seat
SeatTold (TripAbort s n) moves took seat = TripTold Abort n took seat
SeatTold k moves took seat = ⊤

-- the kinds of the nodes of a blueprint
abbrev pub kinds_of : Graph → List Kind
kinds_of g = map (λ (n : Node). n.kind) g.nodes

-- among nodes of these kinds and with these seats, these are the seats of all that are at the switch of that name
pub record SeatsAre (kinds : List Kind) (name : List ℕ) (seat : ℕ → Option SeatState) (seats : List SeatState) : Type 0 where
  pub all : (k : ℕ) (kind : Kind) → slice_get kinds k ≡ Some kind → IsAt name kind → (s : SeatState) × ((seat k ≡ Some s) × Contains seats s)
  pub only : (s : SeatState) → Contains seats s → (k : ℕ) × ((kind : Kind) × ((slice_get kinds k ≡ Some kind) × (IsAt name kind × (seat k ≡ Some s))))

-- what `settle` tells of the seats that it was handed
pub record IsSettled (seats : List SeatState) (stands : Option Order) : Type 0 where
  pub known : All (λ s. IfSome s.knows (λ o. stands ≡ Some o)) seats
  pub given : IfSome stands (λ o. GaveIt o seats)

-- the seats of each switch at which there is a node of these kinds were settled
abbrev pub AllSettled : List Kind → (ℕ → Option SeatState) → Type 0
AllSettled kinds seat = (node : ℕ) (kind : Kind) (name : List ℕ) → slice_get kinds node ≡ Some kind → IsAt name kind
    → (seats : List SeatState) × ((stands : Option Order) × (SeatsAre kinds name seat seats × IsSettled seats stands))

-- All valves of a switch with moves show one order, that of a trip of the switch which took its element.
pub record OneOrderShown (g : Graph) (w : World) (took : ℕ → ℕ) : Type 0 where
  pub given : (node : ℕ) (n : Node) (v : List ℕ × ℕ) → slice_get g.nodes node ≡ Some n → valve_order n.kind (w.moves node) ≡ Some v
      → (trip : ℕ) × ((t : Node) × ((slice_get g.nodes trip ≡ Some t) × CanTrip v.0 v.1 t.kind (took trip)))
  pub one : (node other : ℕ) (n m : Node) (v u : List ℕ × ℕ) → slice_get g.nodes node ≡ Some n → slice_get g.nodes other ≡ Some m
      → valve_order n.kind (w.moves node) ≡ Some v → valve_order m.kind (w.moves other) ≡ Some u → same_text v.0 u.0 ≡ true → v.1 ≡ u.1
