-- What is told of the units that suffice.
use Rattle.std.specs.Prelude.{◌≡◌, ℕ, List, ◌++◌, codes}
use Rattle.std.specs.Fmt.{decimal}
use Rattle.stream_model.specs.Shape.{need_from}
use Rattle.stream_model.specs.declared.blueprint.Blueprint.{Blueprint}
use Rattle.blue_check.specs.Wires.{blueprint_wires}
use Rattle.workbench_draw.specs.Carried.{number_at, own_elements, passed_all}

-- the last line tells this number of all wires
pub record TellsAll (text : List ℕ) (n : ℕ) : Type 0 where
  pub parts : List ℕ
  pub is : text ≡ parts ++ (codes "all " ++ (decimal n ++ codes "\n"))

-- Each wire carries what its node has of its own and what comes to that node, where the sources have these counts. The text ends with
-- the units for all wires, by the formula that bounds the units of a run.
pub record Suffices (b : Blueprint) (counts text : List ℕ) : Type 0 where
  pub carried : List ℕ
  pub passes : carried ≡ passed_all (own_elements b.nodes.items counts) (blueprint_wires b) (number_at carried)
  pub all : TellsAll text (need_from 0 (blueprint_wires b) (number_at carried))
