-- The kill switches of a blueprint, each of which its valves and trips name, and the seats that these have there.
use Rattle.std.specs.Prelude.{◌≡◌, ℕ, ◌+◌, ◌<◌, ◌≤◌, Bool, false, ◌==◌, if◌then◌else◌, List, [], ◌∷◌, length, map, filter, slice_get, Option, Some, None, vec_capacity, ⊤}
use Rattle.std.specs.Option.{option_map}
use Rattle.std.specs.Arc.{arc_value}
use Rattle.std.specs.declared.alloc.Global.{Global}
use Rattle.std.specs.declared.sync.Arc.{Arc}
use Rattle.std.specs.declared.vec.Vec.{Vec}
use Rattle.elem_core.specs.Values.{same_text}
use Rattle.stage_switch.specs.declared.end.SwitchEnd.{SwitchEnd}
use Rattle.stage_switch.specs.Public.{SwitchState, SeatState}
use Rattle.stream_model.specs.declared.kind.Kind.{Kind}
use Rattle.stream_model.specs.declared.kind.Kind.TheVariants.{Valve, TripShutdown, TripAbort}
use Rattle.stage_switch.specs.States.{IsUnused}
use Rattle.materializer.specs.declared.switch_board.Board.{Board}

-- the switch that a valve or a trip names
abbrev pub switch_of : Kind → Option (List ℕ)
switch_of (Valve name) = Some name
switch_of (TripShutdown name n) = Some name
switch_of (TripAbort name n) = Some name
switch_of kind = None

-- ---- places

-- whether a node of this kind is at the switch of that name
abbrev pub is_at_switch : List ℕ → Option (List ℕ) → Bool
is_at_switch name None = false
is_at_switch name (Some s) = same_text s name

-- the least node at the switch of that name, where the first of these is node k
abbrev pub least_at_switch : ℕ → List ℕ → List Kind → Option ℕ
least_at_switch k name [] = None
least_at_switch k name (kind ∷ kinds) = if is_at_switch name (switch_of kind) then Some k else least_at_switch (k + 1) name kinds

-- the place of a valve or a trip: the least node at its switch
abbrev pub place_by : List Kind → Option (List ℕ) → Option ℕ
place_by kinds None = None
place_by kinds (Some name) = least_at_switch 0 name kinds

-- the place of a valve or a trip: the least node at its switch; none of any other kind
abbrev pub switch_place : List Kind → Kind → Option ℕ
switch_place kinds kind = place_by kinds (switch_of kind)

-- the places of all nodes
abbrev pub places_in : List Kind → List (Option ℕ)
places_in kinds = map (switch_place kinds) kinds

-- a node sits at place j
abbrev pub sits : ℕ → Option ℕ → Bool
sits j None = false
sits j (Some i) = i == j

-- how many nodes sit at place j
abbrev pub count_at : ℕ → List (Option ℕ) → ℕ
count_at j places = length (filter (sits j) places)

-- ---- the board

-- The board of nodes of these kinds: of each node its place; at each place where nodes sit a switch with as many seats as they are,
-- and an empty list with room for them.
pub record IsBoard (kinds : List Kind) (board : Board) : Type 0 where
  pub places_are : board.places.items ≡ places_in kinds
  pub switches_many : length board.switches.items ≡ length kinds
  pub seats_many : length board.seats.items ≡ length kinds
  pub switches : (j : ℕ) (s : Arc SwitchState Global) → slice_get board.switches.items j ≡ Some (Some s)
      → ((arc_value s).seats ≡ count_at j board.places.items) × (0 < count_at j board.places.items)
  pub some : (k j : ℕ) → slice_get board.places.items k ≡ Some (Some j) → (s : Arc SwitchState Global) × (slice_get board.switches.items j ≡ Some (Some s))
  pub empty : (j : ℕ) (list : Vec SeatState Global) → slice_get board.seats.items j ≡ Some list → list.items ≡ []
  pub room : (j : ℕ) (list : Vec SeatState Global) → slice_get board.seats.items j ≡ Some list → count_at j board.places.items ≤ vec_capacity list

-- ---- the seats of nodes at a board

-- the switch that stands at a place of the board, if one does
abbrev pub switch_held : Option (Option (Arc SwitchState Global)) → Option SwitchState
switch_held None = None
switch_held (Some None) = None
switch_held (Some (Some s)) = Some (arc_value s)

-- the switch of a place of the board, where it is that of a valve or a trip
abbrev pub switch_behind : Board → Option (Option ℕ) → Option SwitchState
switch_behind board None = None
switch_behind board (Some None) = None
switch_behind board (Some (Some j)) = switch_held (slice_get board.switches.items j)

-- the switch of node k
abbrev pub switch_at : Board → ℕ → Option SwitchState
switch_at board k = switch_behind board (slice_get board.places.items k)

-- a node that names this switch, if it names one, has a seat at the one at which it is, and else it has none
abbrev pub IsSeatAt : Option (List ℕ) → Option SwitchState → Option SeatState → Type 0
IsSeatAt None at s = s ≡ None
IsSeatAt (Some name) at s = (t : SeatState) × ((s ≡ Some t) × (at ≡ Some t.switch))

-- the seats of nodes of these kinds, each at its switch
pub record AreAtSwitches (kinds : List Kind) (board : Board) (seats : List (Option SeatState)) : Type 0 where
  pub many : length seats ≡ length kinds
  pub each : (k : ℕ) (kind : Kind) (s : Option SeatState) → slice_get kinds k ≡ Some kind → slice_get seats k ≡ Some s
      → IsSeatAt (switch_of kind) (switch_at board k) s

-- a node that names this switch, if it names one, is handed a seat that gave nothing and knows nothing, and else it is handed none
abbrev pub IsHandedAt : Option (List ℕ) → Option SwitchEnd → Type 0
IsHandedAt None e = e ≡ None
IsHandedAt (Some name) e = (t : SwitchEnd) × ((e ≡ Some t) × IsUnused (arc_value t.switch) t.seat)

-- nodes of these kinds are handed these, each its own
abbrev pub AreHanded : List Kind → List (Option SwitchEnd) → Type 0
AreHanded [] [] = ⊤
AreHanded (kind ∷ kinds) (e ∷ ends) = IsHandedAt (switch_of kind) e × AreHanded kinds ends
AreHanded _ _ = ⊥

-- the seat that was handed out
abbrev pub seat_of_end : Option SwitchEnd → Option SeatState
seat_of_end e = option_map (λ (t : SwitchEnd). t.seat) e

-- ---- the seats of nodes after a run

-- the seats of nodes, each with the number of its node, where the first is node k
abbrev pub numbered_from : ℕ → List (Option SeatState) → List (ℕ × SeatState)
numbered_from k [] = []
numbered_from k (None ∷ seats) = numbered_from (k + 1) seats
numbered_from k (Some s ∷ seats) = (k, s) ∷ numbered_from (k + 1) seats

-- the seat that stands at a place, if one does
abbrev pub seat_there : Option (Option SeatState) → Option SeatState
seat_there None = None
seat_there (Some s) = s

-- the seat of node k
abbrev pub seat_in : List (Option SeatState) → ℕ → Option SeatState
seat_in seats k = seat_there (slice_get seats k)
