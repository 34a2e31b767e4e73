-- What a clause says of a switch and its seats.
use Rattle.std.specs.Prelude.{◌≡◌, ◌⊎◌, ℕ, List, [], ◌∷◌, Option, Some, None, IfSome}
use Rattle.std.specs.List.{All}
use Rattle.atomic_table.specs.Seated.{TableId}
use Rattle.stage_switch.specs.declared.order.Order.{Order}
use Rattle.stage_switch.specs.declared.known.Known.{Known}

-- which switch it is, and how many seats were made
pub record SwitchState : Type 0 where
  pub id : TableId
  pub seats : ℕ

-- of which switch a seat is, the order that it gave, the order that it knows, and how often it looked
pub record SeatState : Type 0 where
  pub switch : SwitchState
  pub gave : Option Order
  pub knows : Option Order
  pub looks : ℕ

-- a seat is of this switch
abbrev pub IsSeatOf : SwitchState → SeatState → Type 0
IsSeatOf s t = t.switch ≡ s

-- a seat of this switch that gave nothing, knows nothing and never looked
abbrev pub IsNewSeat : SwitchState → SeatState → Type 0
IsNewSeat s t = t ≡ record { switch = s; gave = None; knows = None; looks = 0 }

-- An order was given by this seat, or another one stood: the seat knows the answer, which is the order that it knew before,
-- if it knew one; and it gave its own order exactly where it found none.
pub data AnswersOrder (o answer : Order) (old new : SeatState) : Type 0 where
  gives : answer ≡ o → old.gave ≡ None → old.knows ≡ None → new ≡ record old { gave = Some o; knows = Some o } → AnswersOrder o answer old new
  finds : IfSome old.knows (λ p. answer ≡ p) → new ≡ record old { knows = Some answer } → AnswersOrder o answer old new

-- one of these orders
abbrev pub HasOrder : Order → List Order → Type 0
HasOrder o [] = ⊥
HasOrder o (p ∷ ps) = (p ≡ o) ⊎ HasOrder o ps

-- some seat of the list gave this order
abbrev pub GaveIt : Order → List SeatState → Type 0
GaveIt o [] = ⊥
GaveIt o (s ∷ ss) = (s.gave ≡ Some o) ⊎ GaveIt o ss

-- what was gathered of these seats: each order that one of them knew, and, where an order is gathered as given, one that one of them gave
pub record Gathers (k : Known) (ss : List SeatState) : Type 0 where
  pub known : All (λ s. IfSome s.knows (λ o. HasOrder o k.knows)) ss
  pub given : (k.gave ≡ []) ⊎ ((o : Order) × (HasOrder o k.gave × GaveIt o ss))
