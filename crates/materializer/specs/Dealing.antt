-- How the seats of a switch are handed out, and put together again.
use Rattle.std.specs.Prelude.{◌≡◌, ℕ, ◌<◌, ◌≤◌, Bool, true, false, if◌then◌else◌, List, [], ◌∷◌, ◌++◌, length, set, slice_get, Option, Some, None, vec_len, vec_capacity}
use Rattle.std.specs.List.{All}
use Rattle.std.specs.Arc.{arc_value}
use Rattle.std.specs.declared.alloc.Global.{Global}
use Rattle.std.specs.declared.sync.Arc.{Arc}
use Rattle.std.specs.declared.vec.Vec.{Vec}
use Rattle.stage_switch.specs.declared.end.SwitchEnd.{SwitchEnd}
use Rattle.stage_switch.specs.declared.order.Order.{Order}
use Rattle.stage_switch.specs.Public.{SwitchState, SeatState, IsSeatOf, IsNewSeat}
use Rattle.stage_switch.specs.Settling.{IsSettled}
use Rattle.materializer.specs.Board.{sits, count_at}

-- ---- handing out

-- where nodes sit at a place, the node of that number does
abbrev pub AreRooted : List (Option ℕ) → Type 0
AreRooted places = (k j : ℕ) → slice_get places k ≡ Some (Some j) → slice_get places j ≡ Some (Some j)

-- an end of this switch, with a new seat
pub record IsEndOfSwitch (s : SwitchState) (x : Option (Option SwitchEnd)) : Type 0 where
  pub end : SwitchEnd
  pub is : x ≡ Some (Some end)
  pub switch : arc_value end.switch ≡ s
  pub seat : IsNewSeat s end.seat

-- node k is handed an end of this switch, with the last of these seats
pub record IsHandedSeat (s : SwitchState) (k : ℕ) (seats left : List SeatState) (old new : List (Option SwitchEnd)) : Type 0 where
  pub end : SwitchEnd
  pub is : new ≡ set old k (Some end)
  pub switch : arc_value end.switch ≡ s
  pub seat : seats ≡ left ++ end.seat ∷ []

-- the nodes of these places that sit at place j are each handed an end of this switch, and the others keep what they have
pub record IsDealt (j : ℕ) (s : SwitchState) (places : List (Option ℕ)) (old new : List (Option SwitchEnd)) : Type 0 where
  pub many : length new ≡ length old
  pub dealt : (k : ℕ) (p : Option ℕ) → slice_get places k ≡ Some p → sits j p ≡ true → IsEndOfSwitch s (slice_get new k)
  pub kept : (k : ℕ) (p : Option ℕ) → slice_get places k ≡ Some p → sits j p ≡ false → slice_get new k ≡ slice_get old k

-- Where nodes sit at place j, its switch, and an empty list with room for its seats, which were handed out; else nothing.
pub data IsSwitchMade (j : ℕ) (places : List (Option ℕ)) (old new : List (Option SwitchEnd)) (switch : Option (Arc SwitchState Global))
    (list : Vec SeatState Global) : Type 0 where
  owns : (s : Arc SwitchState Global) → 0 < count_at j places → switch ≡ Some s → (arc_value s).seats ≡ count_at j places → list.items ≡ []
      → count_at j places ≤ vec_capacity list
      → IsDealt j (arc_value s) places old new → IsSwitchMade j places old new switch list
  nothing : count_at j places ≡ 0 → switch ≡ None → list.items ≡ [] → new ≡ old → IsSwitchMade j places old new switch list

-- ---- putting together

-- a seat, where its node sits at the place
abbrev pub own_seat : Bool → SeatState → List SeatState
own_seat b s = if b then s ∷ [] else []

-- a node that is there sits at place j
abbrev pub sits_in : ℕ → Option (Option ℕ) → Bool
sits_in j None = false
sits_in j (Some p) = sits j p

-- the seats of the nodes that sit at place j, the last node first
abbrev pub seats_at : ℕ → List (Option ℕ) → List (ℕ × SeatState) → List SeatState
seats_at j places [] = []
seats_at j places (x ∷ xs) = seats_at j places xs ++ own_seat (sits_in j (slice_get places x.0)) x.1

-- the list of a node with this place is there, and has room for one seat more
abbrev pub HasRoom : Option (Option ℕ) → List (Vec SeatState Global) → Type 0
HasRoom p lists = (j : ℕ) → p ≡ Some (Some j) → (list : Vec SeatState Global) × ((slice_get lists j ≡ Some list) × (vec_len list < vec_capacity list))

-- the seat of a node with this place is put into the list of its place
pub record IsSeatPut (p : Option (Option ℕ)) (s : SeatState) (old new : List (Vec SeatState Global)) : Type 0 where
  pub many : length new ≡ length old
  pub each : (j : ℕ) (was now : Vec SeatState Global) → slice_get old j ≡ Some was → slice_get new j ≡ Some now
      → (vec_capacity now ≡ vec_capacity was) × (now.items ≡ was.items ++ own_seat (sits_in j p) s)

-- the places of nodes have lists
abbrev pub HaveLists : List (Option ℕ) → List (Vec SeatState Global) → Type 0
HaveLists places lists = (k j : ℕ) → slice_get places k ≡ Some (Some j) → j < length lists

-- each of these lists is empty
abbrev pub AreEmpty : List (Vec SeatState Global) → Type 0
AreEmpty lists = (j : ℕ) (list : Vec SeatState Global) → slice_get lists j ≡ Some list → list.items ≡ []

-- each of these lists has room for the seats of the nodes that sit at its place
abbrev pub HaveRoom : List (Option ℕ) → List (ℕ × SeatState) → List (Vec SeatState Global) → Type 0
HaveRoom places entries lists = (j : ℕ) (list : Vec SeatState Global) → slice_get lists j ≡ Some list → length (seats_at j places entries) ≤ vec_capacity list

-- each of these lists has the seats of the nodes that sit at its place
abbrev pub HaveSeats : List (Option ℕ) → List (ℕ × SeatState) → List (Vec SeatState Global) → Type 0
HaveSeats places entries lists = (j : ℕ) (list : Vec SeatState Global) → slice_get lists j ≡ Some list → list.items ≡ seats_at j places entries

-- all seats of a switch are in this list
pub record HasAllSeats (s : SwitchState) (list : Vec SeatState Global) : Type 0 where
  pub all : vec_len list ≡ s.seats
  pub some : 0 < s.seats
  pub seats : All (IsSeatOf s) list.items

-- all seats of each switch are in the list of its place
abbrev pub AllWhole : List (Option (Arc SwitchState Global)) → List (Vec SeatState Global) → Type 0
AllWhole switches lists = (j : ℕ) (s : Arc SwitchState Global) (list : Vec SeatState Global) → slice_get switches j ≡ Some (Some s)
    → slice_get lists j ≡ Some list → HasAllSeats (arc_value s) list

-- these seats of a switch were settled together
abbrev pub IsSettledAt : Vec SeatState Global → Type 0
IsSettledAt list = (stands : Option Order) × IsSettled list.items stands

-- the seats of each switch were settled, those in the list of its place
abbrev pub ListsSettled : List (Option (Arc SwitchState Global)) → List (Vec SeatState Global) → Type 0
ListsSettled switches lists = (j : ℕ) (s : Arc SwitchState Global) (list : Vec SeatState Global) → slice_get switches j ≡ Some (Some s)
    → slice_get lists j ≡ Some list → IsSettledAt list
