-- The moves of all stages that choose, as a text says them, or the first line of the text that is at fault.
use Rattle.std.specs.Prelude.{◌≡◌, ℕ, ◌+◌, ◌==◌, ◌≤◌, ◌||◌, ◌&&◌, not, nat_le, Bool, true, false, List, [], ◌∷◌, ◌++◌, length, map, take, slice_get, Some}
use Rattle.std.specs.Str.{bytes_eq}
use Rattle.stream_model.specs.Picks.{all_below}
use Rattle.plan_reader.specs.Text.{pick_line, trace_text, AllSmall}
use Rattle.plan_reader.specs.declared.plans.Shape.{Shape}
use Rattle.plan_reader.specs.declared.plans.Shape.TheVariants.{Below, Any, AtMostOne, OrderOf}
use Rattle.plan_reader.specs.declared.plans.Chooser.{Chooser}

-- one that is a valve of that switch shows no other order
abbrev pub shows_no_other : List ℕ → ℕ → Shape → List ℕ → Bool
shows_no_other switch order (OrderOf s) (o ∷ k ∷ []) = not (bytes_eq s switch) || (o == order)
shows_no_other switch order _ _ = true

-- nor do those before it
abbrev pub shown_before : List ℕ → ℕ → List Chooser → List (List ℕ) → Bool
shown_before switch order (c ∷ cs) (ms ∷ mss) = shows_no_other switch order c.shape ms && shown_before switch order cs mss
shown_before switch order _ _ = true

-- an order and a count, of a switch of which those before show no other order
abbrev pub order_fits : List ℕ → List Chooser → List (List ℕ) → List ℕ → Bool
order_fits switch cs mss [] = true
order_fits switch cs mss (o ∷ k ∷ []) = ((o == 1) || (o == 2)) && shown_before switch o cs mss
order_fits switch cs mss _ = false

-- moves of this shape, behind those
abbrev pub fits_shape : Shape → List Chooser → List (List ℕ) → List ℕ → Bool
fits_shape (Below n) cs mss ms = all_below n ms
fits_shape Any cs mss ms = true
fits_shape AtMostOne cs mss ms = nat_le (length ms) 1
fits_shape (OrderOf s) cs mss ms = order_fits s cs mss ms

-- a line of this stage stands first, and behind it this; the stages before it have those moves
pub record LineOf (c : Chooser) (cs : List Chooser) (mss : List (List ℕ)) (text ms behind : List ℕ) : Type 0 where
  pub is : text ≡ pick_line c.name ms ++ behind
  pub small : AllSmall ms
  pub fits : fits_shape c.shape cs mss ms ≡ true

-- the first lines of the text are those of the first stages
pub record Begins (choosers : List Chooser) (text : List ℕ) (plans : List (List ℕ)) (behind : List ℕ) : Type 0 where
  pub few : length plans ≤ length choosers
  pub is : text ≡ trace_text (map (λ c. c.name) (take (length plans) choosers)) plans ++ behind
  pub good : (i : ℕ) (c : Chooser) (ms : List ℕ) → slice_get choosers i ≡ Some c → slice_get plans i ≡ Some ms
      → AllSmall ms × (fits_shape c.shape (take i choosers) (take i plans) ms ≡ true)

-- the text says these moves: a line for each stage, and no more
pub record SaysPlans (choosers : List Chooser) (text : List ℕ) (plans : List (List ℕ)) : Type 0 where
  pub all : length plans ≡ length choosers
  pub begins : Begins choosers text plans []

-- The first line at fault, by its number: the lines before it are those of the first stages; and no line of the next stage stands there,
-- or there is no next stage and something stands there.
pub record IsFault (choosers : List Chooser) (text : List ℕ) (line : ℕ) : Type 0 where
  pub plans : List (List ℕ)
  pub behind : List ℕ
  pub before : line ≡ length plans + 1
  pub begins : Begins choosers text plans behind
  pub none : (c : Chooser) → slice_get choosers (length plans) ≡ Some c → (ms rest : List ℕ) → LineOf c (take (length plans) choosers) plans behind ms rest → ⊥
  pub extra : length plans ≡ length choosers → behind ≡ [] → ⊥
