-- What the outputs of a balance got by its moves, and what waits. Of one that follows moves an element whose move names an output that is
-- gone is dropped, so that such an output may lack some of its elements.
use Rattle.std.specs.Prelude.{◌≡◌, ◌≢◌, ℕ, ◌≤◌, ◌+◌, ◌==◌, if◌then◌else◌, Bool, false, List, [], ◌∷◌, length, drop}
use Rattle.elem_core.specs.Prefix.{IsPrefix}
use Rattle.elem_core.specs.Tree.{Tree}
use Rattle.elem_core.specs.declared.why.Cause.{Cause}
use Rattle.stream_model.specs.Outlook.{End, unended, ended, failed}
use Rattle.stream_model.specs.FanIn.{Inflow}
use Rattle.stream_model.specs.Picks.{sent_to}

-- By these moves each output got its elements of l, and where it may lack some a first part of them; and w waits.
pub record Dealt (lacks : ℕ → Bool) (moves : List ℕ) (l : List Tree) (g : ℕ → List Tree) (w : List Tree) : Type 0 where
  pub within : length moves ≤ length l
  pub left : drop (length moves) l ≡ w
  pub gave : (j : ℕ) → lacks j ≡ false → g j ≡ sent_to j moves l
  pub part : (j : ℕ) → IsPrefix (g j) (sent_to j moves l)

-- what output k gets where t goes to output j
abbrev pub goes_to : ℕ → Tree → ℕ → List Tree
goes_to j t k = if j == k then t ∷ [] else []

-- An output of a balance that took f, by its moves: it got a first part of its elements, and all of them where it may lack none, as where
-- it was given an end.
pub record DealStands (lacks : Bool) (moves : List ℕ) (i : ℕ) (f : Inflow) (g : List Tree) (e : End) : Type 0 where
  pub taken : length moves ≤ length f.list
  pub part : IsPrefix g (sent_to i moves f.list)
  pub whole : lacks ≡ false → g ≡ sent_to i moves f.list
  pub closed : e ≢ unended → lacks ≡ false
  pub ends : e ≡ ended → (f.end ≡ ended) × (length moves ≡ length f.list)
  pub fails : (c : Cause) → e ≡ failed c → (f.end ≡ failed c) × (length f.list ≤ length moves + 1)
