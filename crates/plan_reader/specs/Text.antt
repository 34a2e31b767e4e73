-- The lines of a trace, and what of a text they are.
use Rattle.std.specs.Prelude.{◌≡◌, ℕ, ◌+◌, ◌<◌, ◌^◌, ◌==◌, ◌||◌, Bool, true, if◌then◌else◌, List, [], ◌∷◌, ◌++◌, codes, Option, None, Some, ⊤}
use Rattle.std.specs.List.{flat_map}
use Rattle.std.specs.Option.{option_map}
use Rattle.std.specs.Fmt.{decimal}

-- a move, with the space before it
abbrev pub move_text : ℕ → List ℕ
move_text m = codes " " ++ decimal m

-- the line of a stage of that name that made these moves, with its LF, also where it made none
abbrev pub pick_line : List ℕ → List ℕ → List ℕ
pick_line name moves = (codes "pick " ++ name) ++ (flat_map move_text moves ++ codes "\n")

-- the lines of stages of these names that made these moves
abbrev pub trace_text : List (List ℕ) → List (List ℕ) → List ℕ
trace_text (n ∷ ns) (ms ∷ mss) = pick_line n ms ++ trace_text ns mss
trace_text _ _ = []

-- each fits 32 bits
abbrev pub AllSmall : List ℕ → Type 0
AllSmall [] = ⊤
AllSmall (m ∷ ms) = (m < 2 ^ 32) × AllSmall ms

-- a number ends behind its digits: a space or LF stands there
abbrev pub is_stop : ℕ → Bool
is_stop b = (b == 32) || (b == 10)

-- where the first such byte stands
abbrev pub stop_at : List ℕ → Option ℕ
stop_at [] = None
stop_at (b ∷ bs) = if is_stop b then Some 0 else option_map (λ n. n + 1) (stop_at bs)

-- such a byte stands first
abbrev pub EndsNumber : List ℕ → Type 0
EndsNumber [] = ⊥
EndsNumber (b ∷ bs) = is_stop b ≡ true

-- the text is these moves and LF, and then this
pub record IsRest (text ms behind : List ℕ) : Type 0 where
  pub is : text ≡ flat_map move_text ms ++ 10 ∷ behind
  pub small : AllSmall ms

-- one move, and then this; or the end of a line
pub record IsMoveText (text : List ℕ) (m : ℕ) (behind : List ℕ) : Type 0 where
  pub is : text ≡ move_text m ++ behind
  pub small : m < 2 ^ 32
  pub stops : EndsNumber behind

-- neither a move nor LF stands first
pub record IsNeither (text : List ℕ) : Type 0 where
  pub no_end : (behind : List ℕ) → text ≡ 10 ∷ behind → ⊥
  pub no_move : (m : ℕ) (behind : List ℕ) → IsMoveText text m behind → ⊥
