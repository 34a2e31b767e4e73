-- How a check ends where a blueprint is not fit.
use Rattle.std.specs.Prelude.{List, ℕ}
use Rattle.stream_model.specs.declared.blueprint.Blueprint.{Blueprint}
use Rattle.stream_model.specs.Known.{HeadLists}
use Rattle.blue_check.specs.declared.check.CheckEnd.{CheckEnd}
use Rattle.blue_check.specs.declared.check.CheckEnd.TheVariants.{Fault, NoMemory}
use Rattle.blue_check.specs.Fitness.{IsFirstFault}

-- by the fault of the first rule that is broken; memory may be wanting at any time
abbrev pub IsCheckEnd : Blueprint → HeadLists → List (List ℕ) → CheckEnd → Type 0
IsCheckEnd b heads taken (Fault f) = IsFirstFault b heads taken f
IsCheckEnd b heads taken NoMemory = Unit {0}
