-- The state of a stage with two inputs that asks both, as a zip and a merge_sorted do.
use Rattle.std.specs.Prelude.{◌≡◌, ℕ, zero, suc, Bool, true, false, List, [], ◌∷◌, Option, Some, None}
use Rattle.std.specs.Option.{option_to_list}
use Rattle.elem_core.specs.Tree.{Tree}
use Rattle.port_core.specs.declared.act.Act.{Act}
use Rattle.port_core.specs.declared.view.InView.{InView}
use Rattle.port_core.specs.declared.view.InView.TheVariants.{Idle, Pulled, Finished}
use Rattle.port_core.specs.declared.view.OutView.TheVariants.{Unpulled}
use Rattle.port_core.specs.View.{View}
use Rattle.stream_model.specs.FanIn.{Inflow}
use Rattle.stage_core.specs.declared.phase.Phase.{Phase}
use Rattle.stage_core.specs.declared.phase.Phase.TheVariants.{New, Open, Closed}
use Rattle.stage_in.specs.declared.inlet.Inlet.{Inlet}
use Rattle.stage_core.specs.Seats.{wish, FanClosed, end_by, open_cancels}

-- where it stands, its inputs, and whether its output is asked
pub record Pairing : Type 0 where
  pub phase : Phase
  pub left : Inlet
  pub right : Inlet
  pub asked : Bool

-- what is known of an input, by whether it has ended and by what waits: it is asked where nothing waits
abbrev inlet_view_by : Bool → Option Tree → InView
inlet_view_by true held = Finished
inlet_view_by false None = Pulled
inlet_view_by false (Some t) = Idle

-- what is known of an input
abbrev pub inlet_view : Inlet → InView
inlet_view i = inlet_view_by i.over i.held

-- what waits of an input, and how it stands, in the words of the model
abbrev pub inlet_flow : Inlet → Inflow
inlet_flow i = record { list = option_to_list i.held; end = end_by i.over }

-- what is known of its ports
abbrev pub pair_view : Pairing → View
pair_view l = record { ins = inlet_view l.left ∷ inlet_view l.right ∷ []; outs = wish l.asked ∷ [] }

-- no element waits, and it has not ended
abbrev pub IsVacant : Inlet → Type 0
IsVacant i = (i.held ≡ None) × (i.over ≡ false)

-- before its start
abbrev pub new_view : View
new_view = record { ins = Idle ∷ Idle ∷ []; outs = Unpulled ∷ [] }

-- one to which nothing came
abbrev pub new_pair : Pairing
new_pair = record { phase = New; left = record { held = None; over = false }; right = record { held = None; over = false }; asked = false }

-- its port state, by what an open one keeps
abbrev pub port_state_by : (Pairing → Type 0) → Phase → Pairing → View → Type 0
port_state_by Sound New l v = (v ≡ new_view) × (IsVacant l.left × (IsVacant l.right × (l.asked ≡ false)))
port_state_by Sound Open l v = (v ≡ pair_view l) × Sound l
port_state_by Sound Closed l v = FanClosed v

-- a cancel of each input that has not ended
abbrev pub closing : Pairing → List Act
closing l = open_cancels 0 (l.left.over ∷ l.right.over ∷ [])

-- with this element of input n
abbrev pub placed : ℕ → Tree → Pairing → Pairing
placed zero t l = record l { left = record l.left { held = Some t } }
placed (suc n) t l = record l { right = record l.right { held = Some t } }

-- without input n
abbrev pub without : ℕ → Pairing → Pairing
without zero l = record l { left = record l.left { over = true } }
without (suc n) l = record l { right = record l.right { over = true } }

-- what a handler makes of the stage, and its actions
pub record Does (new : Pairing) (acts : List Act) (to : Pairing) (list : List Act) : Type 0 where
  pub to_is : new ≡ to
  pub acts_are : acts ≡ list
