-- Outputs that each get a part of every element.
use Rattle.std.specs.Prelude.{ℕ, zero, suc, ◌+◌, Bool, true, false, List, [], ◌∷◌, map, Option, Some, None}
use Rattle.elem_core.specs.Tree.{Tree}
use Rattle.port_core.specs.declared.act.Act.{Act}
use Rattle.port_core.specs.declared.act.Act.TheVariants.{Push}
use Rattle.port_core.specs.declared.view.InView.{InView}
use Rattle.port_core.specs.declared.view.InView.TheVariants.{Idle, Pulled}
use Rattle.stream_model.specs.Machine.{going, adds, Run, Machine}
use Rattle.stream_model.specs.Linear.{Stage}
use Rattle.stage_core.specs.Held.{Held, owing, shut}
use Rattle.stage_core.specs.Outs.{Outlet}
use Rattle.stage_core.specs.declared.outs.OutputState.{OutputState}
use Rattle.stage_core.specs.declared.outs.OutputState.TheVariants.{Quiet, Asks, Gone}

-- a part of each element, as a machine
abbrev pub copying : (Tree → Tree) → Machine Stage Tree
copying f = record { step = λ s t. record { gave = f t ∷ []; state = going s }; finish = λ s. adds []; hold = 0; early = 0 }

-- it owes nothing
abbrev pub nothing_owed : Stage → Run Stage Tree
nothing_owed s = record { gave = []; state = going s }

-- what an output owes: nothing, and what its machine gives from here on; or it is closed
abbrev pub owed_by : Stage → OutputState → Held Stage
owed_by s Quiet = owing (nothing_owed s)
owed_by s Asks = owing (nothing_owed s)
owed_by s Gone = shut

-- what each output owes, while the stage lasts and once it has closed all
abbrev pub owed : Bool → Stage → List OutputState → List (Held Stage)
owed live s [] = []
owed true s (w ∷ ws) = owed_by s w ∷ owed true s ws
owed false s (w ∷ ws) = shut ∷ owed false s ws

-- the outputs from number n on, with the part that each gets
abbrev pub outlets : (ℕ → Tree → Tree) → ℕ → Stage → List OutputState → List (Outlet Stage)
outlets part n s [] = []
outlets part n s (w ∷ ws) = record { machine = copying (part n); start = nothing_owed s; held = owed_by s w } ∷ outlets part (n + 1) s ws

-- the input is asked where no open output is unasked
abbrev pub input_by : ℕ → InView
input_by zero = Pulled
input_by (suc n) = Idle

-- how many outputs are open and unasked
abbrev pub quiet_count : List OutputState → ℕ
quiet_count [] = 0
quiet_count (Quiet ∷ ws) = suc (quiet_count ws)
quiet_count (Asks ∷ ws) = quiet_count ws
quiet_count (Gone ∷ ws) = quiet_count ws

-- once each open output got its part
abbrev pub served_one : OutputState → OutputState
served_one Quiet = Quiet
served_one Asks = Quiet
served_one Gone = Gone

-- the outputs once each that is open got its part
abbrev pub served : List OutputState → List OutputState
served ws = map served_one ws

-- a push of an element, at the output if there is one
abbrev pub push_to : Option ℕ → Tree → List Act
push_to None t = []
push_to (Some j) t = Push j t ∷ []

-- the same at output j, where it is open
abbrev pub push_where : OutputState → ℕ → Tree → List Act
push_where Quiet j t = Push j t ∷ []
push_where Asks j t = Push j t ∷ []
push_where Gone j t = []
