-- A log as it is kept: one list; where the log follows moves, the list has all of them, and a number says how many were noted.
use Rattle.std.specs.Prelude.{◌≡◌, ℕ, ◌+◌, ◌-◌, ◌≤◌, ◌<◌, ◌^◌, Bool, false, List, take, drop, Option, None, Some}

-- the moves that were noted
abbrev pub made_of : Option ℕ → List ℕ → List ℕ
made_of None moves = moves
made_of (Some made) moves = take made moves

-- the moves that are left, where it follows any
abbrev pub left_of : Option ℕ → List ℕ → Option (List ℕ)
left_of None moves = None
left_of (Some made) moves = Some (drop made moves)

-- for how many more moves there is room: what is free in the list, or without end where the list has all moves already
abbrev pub room_of : Option ℕ → ℕ → ℕ → ℕ
room_of None len free = free
room_of (Some made) len free = (len - made) + 2

-- one that follows noted no more than its moves, whose places fit 32 bits; and only such a one is stuck
abbrev pub IsKeptLog : Option ℕ → ℕ → Bool → Type 0
IsKeptLog None len stuck = stuck ≡ false
IsKeptLog (Some made) len stuck = (made ≤ len) × (len < 2 ^ 32)
