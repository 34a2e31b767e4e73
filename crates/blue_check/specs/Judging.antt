-- What is found of a blueprint.
use Rattle.std.specs.Prelude.{◌≡◌, Bool, true, false, List, Option, Some, None, ◌⊎◌}
use Rattle.stream_model.specs.Graph.{Edge}
use Rattle.stream_model.specs.Shape.{IsPolytree}
use Rattle.blue_names.specs.Paths.{HasNoClosedWalk}
use Rattle.blue_check.specs.Forest.{wiring}
use Rattle.blue_check.specs.declared.fault.CheckFault.{CheckFault}
use Rattle.blue_check.specs.declared.judge.Judged.{Judged}
use Rattle.blue_check.specs.declared.judge.Judged.TheVariants.{Unfit, Fit}
use Rattle.blue_check.specs.Fitness.{IsClosedFault}

-- the test whether no walk is closed when directions are ignored
pub record TellsTree (ws : List Edge) (tree : Bool) : Type 0 where
  pub yes : tree ≡ true → IsPolytree (wiring ws)
  pub no : tree ≡ false → IsPolytree (wiring ws) → ⊥

-- no walk is closed, and the test is right
pub record IsAcyclic (ws : List Edge) (tree : Bool) : Type 0 where
  pub none : HasNoClosedWalk ws
  pub tells : TellsTree ws tree

-- the fault of the rules that come before that on closed walks, or else a closed walk, or else none
abbrev pub IsJudged : Option CheckFault → List Edge → Judged → Type 0
IsJudged early ws (Unfit f) = (early ≡ Some f) ⊎ ((early ≡ None) × IsClosedFault ws f)
IsJudged early ws (Fit tree) = (early ≡ None) × IsAcyclic ws tree
