-- The moves that stages follow, by the file of moves: why there are none, and what the file is no other of.
use Rattle.std.specs.Prelude.{◌≡◌, ◌<◌, ℕ, List, length, map, replicate, Option, None, Some, Result, Ok, Err}
use Rattle.std.specs.declared.vec.Vec.{Vec}
use Rattle.std.specs.declared.alloc.Global.{Global}
use Rattle.std.specs.List.{Contains}
use Rattle.stream_model.specs.declared.blueprint.Blueprint.{Blueprint}
use Rattle.stream_model.specs.declared.blueprint.Node.{Node}
use Rattle.stream_io.specs.State.{FolderState}
use Rattle.stream_io.specs.Text.{ReadsUpTo, FailsToRead, StaysMissing, StaysQuiet}
use Rattle.plan_reader.specs.Plans.{SaysPlans}
use Rattle.materializer.specs.Choosers.{choosers_in, plans_in, moves_of}
use Rattle.materializer.specs.Files.{inputs_of_nodes}
use Rattle.stream_command.specs.Outcome.{plan_limit, IsBadTrace}
use Rattle.run_report.specs.declared.outcome.Status.{Status}
use Rattle.run_report.specs.declared.outcome.Status.TheVariants as status
use Rattle.stream_command.specs.declared.replays.PlansEnd.{PlansEnd}
use Rattle.stream_command.specs.declared.replays.PlansEnd.TheVariants.{Missing, ReadFault, BadTrace, NoMemory}

-- the status where there are no moves to follow
abbrev pub plans_status : Option (List ℕ) → PlansEnd → Status
plans_status (Some name) Missing = status.Missing name
plans_status None Missing = status.NoMemory
plans_status replay ReadFault = status.ReadFault
plans_status replay (BadTrace line) = status.BadTrace line
plans_status replay NoMemory = status.NoMemory

-- the file of moves, where one is named, is none of those that a blueprint's sources read
abbrev pub IsReadApart : Blueprint → Option (List ℕ) → Type 0
IsReadApart b replay = (t : List ℕ) → replay ≡ Some t → ¬ (Contains (inputs_of_nodes b.nodes.items) t)

-- The moves of these nodes, by the text of a file of moves, or why there are none.
abbrev pub SaysOf : List ℕ → List Node → Result (Vec (Option (Vec ℕ Global)) Global) PlansEnd → Type 0
SaysOf text nodes (Ok plans) = (length text < plan_limit) × ((lists : List (List ℕ))
    × (SaysPlans (choosers_in nodes) text lists × (map moves_of plans.items ≡ plans_in nodes lists)))
SaysOf text nodes (Err (BadTrace line)) = IsBadTrace text nodes line
SaysOf text nodes (Err NoMemory) = Unit {0}
SaysOf text nodes (Err _) = ⊥

-- what came of reading the file of moves of that name
abbrev pub ReadsMoves : FolderState → FolderState → List ℕ → List Node → Result (Vec (Option (Vec ℕ Global)) Global) PlansEnd → Type 0
ReadsMoves old new name nodes (Err Missing) = StaysMissing old new name
ReadsMoves old new name nodes (Err ReadFault) = FailsToRead old new name
ReadsMoves old new name nodes (Err NoMemory) = StaysQuiet old new name
ReadsMoves old new name nodes r = (text : List ℕ) × (ReadsUpTo plan_limit old new name text × SaysOf text nodes r)

-- the same where no file may be named: nothing is touched then, and no node follows moves
abbrev pub ReadsPlans : FolderState → FolderState → Option (List ℕ) → List Node → Result (Vec (Option (Vec ℕ Global)) Global) PlansEnd → Type 0
ReadsPlans old new None nodes (Ok plans) = (new ≡ old) × (map moves_of plans.items ≡ replicate (length nodes) None)
ReadsPlans old new None nodes (Err end) = (new ≡ old) × (end ≡ NoMemory)
ReadsPlans old new (Some name) nodes r = ReadsMoves old new name nodes r
