-- A log of picks: free, or one that follows moves.
use Rattle.std.specs.Prelude.{◌≡◌, ℕ, ◌+◌, ◌-◌, Bool, true, false, List, [], ◌∷◌, ◌++◌, length, if◌then◌else◌, Option, None, Some, ⊤}
use Rattle.std.specs.Option.{option_map}
use Rattle.port_core.specs.declared.pick_log.Next.{Next}
use Rattle.port_core.specs.declared.pick_log.Next.TheVariants.{Free, Move, UsedUp}

-- The moves that were noted, oldest first, and for how many more there is room. Where the log follows moves, those that are not noted
-- yet; and whether the stage found that it cannot make the next of them.
pub record Picks : Type 0 where
  pub moves : List ℕ
  pub room : ℕ
  pub left : Option (List ℕ)
  pub stuck : Bool

-- all the moves that are followed, where any are: those that were made, and then those that are left
abbrev pub plan_of : List ℕ → Option (List ℕ) → Option (List ℕ)
plan_of moves left = option_map (λ l. moves ++ l) left

-- all the moves that a log follows, where it follows any
abbrev pub planned : Picks → Option (List ℕ)
planned p = plan_of p.moves p.left

-- what the next move is to be, by the moves that are left
abbrev pub next_move : Option (List ℕ) → Next
next_move None = Free
next_move (Some []) = UsedUp
next_move (Some (m ∷ l)) = Move m

-- the move behind the next one, by the moves that are left
abbrev pub second_move : Option (List ℕ) → Option ℕ
second_move None = None
second_move (Some []) = None
second_move (Some (m ∷ [])) = None
second_move (Some (m ∷ k ∷ l)) = Some k

-- the moves that are left behind the next one
abbrev pub behind_next : Option (List ℕ) → Option (List ℕ)
behind_next None = None
behind_next (Some []) = Some []
behind_next (Some (m ∷ l)) = Some l

-- the move may be noted next: any where the log is free, and else the next one alone
abbrev pub MayNote : ℕ → Option (List ℕ) → Type 0
MayNote m None = ⊤
MayNote m (Some []) = ⊥
MayNote m (Some (k ∷ l)) = k ≡ m

-- a move is to be made next
abbrev pub IsMove : Next → Type 0
IsMove Free = ⊥
IsMove UsedUp = ⊥
IsMove (Move m) = ⊤

-- no move is to be made next, so that a stage may end
abbrev pub may_end : Next → Bool
may_end Free = true
may_end (Move m) = false
may_end UsedUp = true

-- the log once the move was noted
abbrev pub logged : ℕ → Picks → Picks
logged m p = record { moves = p.moves ++ m ∷ []; room = p.room - 1; left = behind_next p.left; stuck = p.stuck }

-- the place of the move that cannot be made, where it was marked so
abbrev pub misfit_by : Bool → List ℕ → Option ℕ
misfit_by stuck moves = if stuck then Some (length moves) else None

-- the same of a log, where there is one
abbrev pub misfit_in : Option Picks → Option ℕ
misfit_in None = None
misfit_in (Some p) = misfit_by p.stuck p.moves

-- a log that makes its own choices: it follows nothing, and is not stuck
pub record IsFreeLog (p : Picks) : Type 0 where
  pub none : p.left ≡ None
  pub calm : p.stuck ≡ false
