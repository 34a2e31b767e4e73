-- The law of a zip: it pairs the elements of two inputs in their order, and at most one of each waits.
use Rattle.std.specs.Prelude.{◌≡◌, ℕ, ◌≤◌, ◌⊎◌, List, [], ◌∷◌, ◌++◌, length}
use Rattle.elem_core.specs.Tree.{Tree}
use Rattle.elem_core.specs.declared.item.Item.{Item}
use Rattle.elem_core.specs.declared.item.Item.TheVariants as item
use Rattle.elem_core.specs.declared.why.Cause.{Cause}
use Rattle.stream_model.specs.Outlook.{End, unended, ended, failed}
use Rattle.stream_model.specs.FanIn.{Inflow, pairs, ZipStands}
use Rattle.port_core.specs.View.{View}
use Rattle.port_core.specs.Call.{Call, cancels}
use Rattle.stage_core.specs.Held.{told}
use Rattle.stage_core.specs.Inflows.{joined, coming, PortsLaw}

-- between two calls: what came to each input and has no partner yet, with how that input stands; or its output is closed
pub data ZipHeld : Type 0 where
  waits : Inflow → Inflow → ZipHeld
  shut : ZipHeld

-- of what came to two inputs the first elements are these pairs, and the others wait
pub record Paired (a b : Inflow) (g : List Tree) (w u : Inflow) : Type 0 where
  pub lefts : List Tree
  pub rights : List Tree
  pub left_is : a.list ≡ lefts ++ w.list
  pub right_is : b.list ≡ rights ++ u.list
  pub even : length lefts ≡ length rights
  pub gave_is : g ≡ pairs lefts rights
  pub left_end : w.end ≡ a.end
  pub right_end : u.end ≡ b.end

-- at most one element of each input waits
abbrev pub OneEach : Inflow → Inflow → Type 0
OneEach w u = (length w.list ≤ 1) × (length u.list ≤ 1)

-- an input has ended, and none of its elements waits
abbrev pub IsUsedUp : Inflow → Type 0
IsUsedUp w = (w.end ≡ ended) × (w.list ≡ [])

-- an input failed, with at most one element that waits
abbrev pub FailedWith : Cause → Inflow → Type 0
FailedWith c w = (w.end ≡ failed c) × (length w.list ≤ 1)

-- what was pushed are the pairs of what waited and came, and the others wait then
pub record ZipTurn (a b : Inflow) (out : List Item) (w u : Inflow) : Type 0 where
  pub given : List Tree
  pub out_is : out ≡ told given unended
  pub paired : Paired a b given w u
  pub few : OneEach w u

-- how it closes its output: it gives the last pairs, and an input has ended with none that waits; or an input failed, and what waits is dropped
pub data ZipClose (a b : Inflow) (out : List Item) : Type 0 where
  completes : (given : List Tree) (w u : Inflow) → Paired a b given w u → IsUsedUp w ⊎ IsUsedUp u → out ≡ told given ended → ZipClose a b out
  fails : (c : Cause) → FailedWith c a ⊎ FailedWith c b → out ≡ item.Failed c ∷ [] → ZipClose a b out

-- what a handler owes by its call; one that has closed its output is not called
abbrev pub ZipTurnAt : Call → ZipHeld → List Item → ZipHeld → Type 0
ZipTurnAt call shut out new = ⊥
ZipTurnAt (cancels j) (waits w u) out new = (out ≡ []) × (new ≡ shut)
ZipTurnAt call (waits w u) out (waits x y) = ZipTurn (joined w (coming call 0)) (joined u (coming call 1)) out x y
ZipTurnAt call (waits w u) out shut = ZipClose (joined w (coming call 0)) (joined u (coming call 1)) out

-- one that waits gave the pairs of all that came but what waits; one that is closed may have given what it gave
abbrev pub ZipKeeps : ZipHeld → List Inflow → List Tree → End → Type 0
ZipKeeps (waits w u) (a ∷ b ∷ []) g f = (f ≡ unended) × (Paired a b g w u × OneEach w u)
ZipKeeps shut (a ∷ b ∷ []) g f = ZipStands a b g f
ZipKeeps _ _ _ _ = ⊥

-- the law of a zip over its whole history
abbrev pub ZipLaw : ZipHeld → View → (ℕ → List Item) → List Item → Type 0
ZipLaw x v took gave = PortsLaw (ZipKeeps x) v took gave

-- what it may have given, of two inputs
abbrev pub ZipStandsOf : List Inflow → List Tree → End → Type 0
ZipStandsOf (a ∷ b ∷ []) g f = ZipStands a b g f
ZipStandsOf _ g f = ⊥
