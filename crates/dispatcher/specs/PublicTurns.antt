-- What a clause says of a turn table and of its seats.
use Rattle.std.specs.Prelude.{◌≡◌, ℕ, List, [], ◌∷◌}
use Rattle.dispatcher.specs.Table.{hold}
use Rattle.dispatcher.specs.declared.hold.Hold.{Hold}
use Rattle.dispatcher.specs.declared.turns.Turns.{Turns}
use Rattle.dispatcher.specs.declared.turns.TurnSeat.{TurnSeat}

-- the places whose turn the first of these views holds
abbrev pub first_held : List Hold → List ℕ
first_held [] = []
first_held (v ∷ vs) = v.held

-- the places whose turn the seat holds
abbrev pub held_turns : TurnSeat → List ℕ
held_turns seat = first_held seat.badge.views

-- the steps that the first of these views made
abbrev pub first_found : List Hold → List (ℕ × ℕ)
first_found [] = []
first_found (v ∷ vs) = v.found

-- each step that the seat made for a wake, a begin or an end: the place, and the word that was found there; the latest first
abbrev pub found_by : TurnSeat → List (ℕ × ℕ)
found_by seat = first_found seat.badge.views

-- the turns that began on the first of these views
abbrev pub first_began : List Hold → List ℕ
first_began [] = []
first_began (v ∷ vs) = v.began

-- the place of each turn that ever began on the seat; the latest first
abbrev pub began_by : TurnSeat → List ℕ
began_by seat = first_began seat.badge.views

-- the wakes that the first of these views made
abbrev pub first_woke : List Hold → List (ℕ × ℕ)
first_woke [] = []
first_woke (v ∷ vs) = v.woke

-- each wake that the seat made: the place, and how many turns of it had begun by then; the latest first
abbrev pub woke_by : TurnSeat → List (ℕ × ℕ)
woke_by seat = first_woke seat.badge.views

-- a call began no turn and made no wake
abbrev pub NoneBegan : TurnSeat → TurnSeat → Type 0
NoneBegan old new = (began_by new ≡ began_by old) × (woke_by new ≡ woke_by old)

-- a call woke the place, once so many turns of it had begun
abbrev pub Woke : ℕ → TurnSeat → TurnSeat → Type 0
Woke place old new = (turns : ℕ) × ((woke_by new ≡ (place, turns) ∷ woke_by old) × (began_by new ≡ began_by old))

-- a call made one step at the place, and P holds of the word that it found
abbrev pub FindsWord : ℕ → (ℕ → Type 0) → TurnSeat → TurnSeat → Type 0
FindsWord place P old new = (w : ℕ) × (found_by new ≡ (place, w) ∷ found_by old) × P w

module _ {T O : Type 0} where
  -- the values as they were handed in
  abbrev pub handed_in : Turns T O → List T
  handed_in turns = turns.table.shared.key.values.value.items

  -- the number of seats that were made
  abbrev pub seat_count : Turns T O → ℕ
  seat_count turns = turns.table.shared.key.seats

  -- a seat of the table; between calls no slot is with it
  abbrev pub IsSeatOf : Turns T O → TurnSeat → Type 0
  IsSeatOf turns seat = (seat.badge.table_id ≡ turns.table.shared.table_id) × (seat.badge.views ≡ hold 1 (held_turns seat) 0 (found_by seat) (began_by seat)
      (woke_by seat) ∷ [])

  -- a seat of the table that holds no turn
  abbrev pub IsFree : Turns T O → TurnSeat → Type 0
  IsFree turns seat = IsSeatOf turns seat × (held_turns seat ≡ [])
