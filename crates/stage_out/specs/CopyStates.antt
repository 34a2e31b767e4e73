-- The state of a broadcast, a broadcast hub or an unzip, its port state, and what its handlers owe.
use Rattle.std.specs.Prelude.{◌≡◌, ◌≢◌, ℕ, zero, suc, ◌≤◌, ◌-◌, ◌==◌, if◌then◌else◌, Bool, true, false, List, [], ◌∷◌, length, map, slice_get, slice_set, Some, replicate}
use Rattle.elem_core.specs.Tree.{Tree}
use Rattle.elem_core.specs.Values.{left_half, right_half}
use Rattle.port_core.specs.declared.act.Act.{Act}
use Rattle.port_core.specs.declared.act.Act.TheVariants.{Pull, Cancel}
use Rattle.port_core.specs.View.{View}
use Rattle.port_core.specs.Asking.{PullsStand}
use Rattle.port_core.specs.Call.{Call}
use Rattle.stream_model.specs.Linear.{Stage}
use Rattle.stream_model.specs.declared.kind.TheConstants.{MAX_FAN}
use Rattle.stage_core.specs.Outs.{TurnsAt}
use Rattle.stage_core.specs.declared.outs.OutputState.{OutputState}
use Rattle.stage_core.specs.declared.outs.OutputState.TheVariants.{Quiet, Gone}
use Rattle.stage_core.specs.OpenOuts.{want_view, open_count, AllClosed}
use Rattle.stage_out.specs.Copies.{owed, outlets, input_by, quiet_count}

-- whether its ports are open; whether it takes pairs apart; its outputs; how many of them are open and unasked, and how many are open
pub record CopyLogic : Type 0 where
  pub live : Bool
  pub halves : Bool
  pub outs : List OutputState
  pub quiet : ℕ
  pub open_outs : ℕ

-- the part that output j gets
abbrev pub part_by : Bool → ℕ → Tree → Tree
part_by false j t = t
part_by true zero t = left_half t
part_by true (suc j) t = right_half t

-- what it knows of its ports: its input is asked where no open output is unasked
abbrev pub view_of : CopyLogic → View
view_of l = record { ins = input_by l.quiet ∷ []; outs = map want_view l.outs }

-- the counts are those of its outputs, of which one is open, and one that takes pairs apart has two
pub record Sound (l : CopyLogic) : Type 0 where
  pub quiet_is : l.quiet ≡ quiet_count l.outs
  pub open_is : l.open_outs ≡ open_count l.outs
  pub some : 1 ≤ l.open_outs
  pub few : length l.outs ≤ MAX_FAN
  pub pair : l.halves ≡ true → length l.outs ≡ 2

-- its port state, by whether its ports are open
abbrev pub port_state_by : Bool → CopyLogic → View → Type 0
port_state_by true l v = (v ≡ view_of l) × Sound l
port_state_by false l v = AllClosed v

-- its port state
abbrev pub port_state : CopyLogic → View → Type 0
port_state l v = port_state_by l.live l v

-- what a handler owes to the law, at each output
pub record Turned (call : Call) (old : CopyLogic) (acts : List Act) (new : CopyLogic) : Type 0 where
  pub turns : (s : Stage) → TurnsAt 0 call (outlets (part_by old.halves) 0 s old.outs) acts (owed new.live s new.outs)
  pub halves : new.halves ≡ old.halves
  pub outputs : length new.outs ≡ length old.outs
  pub stands : PullsStand acts

-- what a handler makes of the stage, and its actions
pub record Does (new : CopyLogic) (acts : List Act) (to : CopyLogic) (list : List Act) : Type 0 where
  pub to_is : new ≡ to
  pub acts_are : acts ≡ list

-- without output j
abbrev pub without : ℕ → CopyLogic → CopyLogic
without j l = record l { outs = slice_set l.outs j Gone; open_outs = l.open_outs - 1 }

-- output j was cancelled: it was the last; or it was unasked; or it was asked
pub data Lost (j : ℕ) (old new : CopyLogic) (acts : List Act) : Type 0 where
  last : old.open_outs ≡ 1 → new ≡ record (without j old) { live = false } → acts ≡ Cancel 0 ∷ [] → Lost j old new acts
  unasked : old.open_outs ≢ 1 → slice_get old.outs j ≡ Some Quiet → new ≡ record (without j old) { quiet = old.quiet - 1 }
      → acts ≡ (if old.quiet - 1 == 0 then Pull 0 ∷ [] else []) → Lost j old new acts
  wanted : old.open_outs ≢ 1 → slice_get old.outs j ≢ Some Quiet → new ≡ without j old → acts ≡ [] → Lost j old new acts

-- how it begins
abbrev pub begun : ℕ → Bool → CopyLogic
begun n halves = record { live = true; halves = halves; outs = replicate n Quiet; quiet = n; open_outs = n }
