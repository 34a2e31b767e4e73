-- What the law of a valve and of a trip tells of its seat.
use Rattle.std.proofs.Common.{◌≡◌, ◌∙◌, ℕ, ◌≤◌, List, Option, None, Some, IfSome}
use Rattle.elem_core.specs.Items.{elements}
use Rattle.elem_core.specs.declared.item.Item.{Item}
use Rattle.stage_switch.specs.declared.order.Order.{Order}
use Rattle.stage_switch.specs.declared.order.Order.TheVariants.{Shutdown, Abort}
use Rattle.stage_switch.specs.Public.{SwitchState, SeatState, IsSeatOf}
use Rattle.port_core.specs.View.{View}
use Rattle.stream_model.specs.declared.kind.Kind.TheVariants as kind
use Rattle.stage_switch.specs.States.{Valve, SeatBy, Trip}
use Rattle.stage_switch.specs.Handling.{ValveAs, TripAs, trip_kind}
use Rattle.stage_switch.proofs.Outlooks.{valve_seat, trip_seat}
use Rattle.stage_switch.specs.Settling.{SeatTold}

pub valve_tells : (name : List ℕ) (first now : Valve) (v : View) (took gave : List (List Item)) → (law : ValveAs first now v took gave)
    → IsSeatOf first.switch now.seat × (first.left ≡ None → (count : ℕ) → SeatTold (kind.Valve name) now.moves count now.seat)
valve_tells name first now v took gave law = (one_by now.left now.switch now.seat now.moves law.valve ∙ law.switch, λ free count. let seat = valve_seat first now v took gave law free in record { gave = seat.gave; knows = seat.knows; formed = seat.formed })
  where
    one_by : (left : Option (List ℕ)) (switch : SwitchState) (seat : SeatState) (moves : List ℕ) → SeatBy left switch seat moves → IsSeatOf switch seat
    one_by None switch seat moves h = h.one
    one_by (Some left) switch seat moves h = h.0.one

by_order : (order : Order) (name moves : List ℕ) (count took : ℕ) (seat : SeatState) → IfSome seat.gave (λ o. (o ≡ order) × (count ≤ took)) → SeatTold (trip_kind order name count) moves took seat
by_order Shutdown name moves count took seat h = h
by_order Abort name moves count took seat h = h

pub trip_tells : (name moves : List ℕ) (first now : Trip) (v : View) (took gave : List (List Item)) → (law : TripAs first now v took gave)
    → IsSeatOf first.switch now.seat × SeatTold (trip_kind first.order name first.count) moves (elements law.took_list) now.seat
trip_tells name moves first now v took gave law = let seat = trip_seat first now v took gave law in (seat.0, by_order first.order name moves first.count (elements law.took_list) now.seat seat.1)
