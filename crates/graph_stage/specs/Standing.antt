-- A pull whose input the same call closes again is taken back, so that the actions of a call pull no input that they cancel.
-- Choice: docs/DECISIONS.md#pull-taken-back
use Rattle.std.specs.Prelude.{Bool, false, if◌then◌else◌, List, [], ◌∷◌, ◌++◌}
use Rattle.port_core.specs.declared.act.Act.{Act}
use Rattle.port_core.specs.declared.act.Act.TheVariants as act
use Rattle.graph_stage.specs.OwnView.{Seen, is_closed_in}

-- a pull of an input that is closed once all is done
abbrev pub is_taken_back : Seen → Act → Bool
is_taken_back s (act.Pull i) = is_closed_in s i
is_taken_back s (act.Push j e) = false
is_taken_back s (act.Complete j) = false
is_taken_back s (act.FailOut j c) = false
is_taken_back s (act.Cancel i) = false

-- these actions without such pulls
abbrev pub without_taken_back : Seen → List Act → List Act
without_taken_back s [] = []
without_taken_back s (a ∷ acts) = if is_taken_back s a then without_taken_back s acts else a ∷ without_taken_back s acts

-- the first action behind the others, or without it where it is taken back: a step of a walk over all
abbrev pub first_turned : Seen → List Act → List Act
first_turned s [] = []
first_turned s (a ∷ acts) = if is_taken_back s a then acts else acts ++ a ∷ []
