-- A stage that tells a list, as the stage of a plug that gives it.
use Rattle.std.specs.Prelude.{Bool, true, false, ◌&&◌, List, [], ◌∷◌, Option, None, Some}
use Rattle.elem_core.specs.declared.why.Decider.{Decider}
use Rattle.stream_model.specs.Linear.{plugged}
use Rattle.stage_core.specs.declared.phase.Phase.{Phase}
use Rattle.stage_core.specs.declared.phase.Phase.TheVariants.{New, Open, Closed}
use Rattle.stage_linear.specs.States.{Logic}
use Rattle.graph_stage.specs.declared.ask.Ask.{Ask}
use Rattle.graph_stage.specs.OwnView.{Seen, is_closed_in, is_closed_out}
use Rattle.graph_stage.specs.Lifted.{Telling, not_begun, may_reply}
use Rattle.graph_stage.specs.State.{CustomState}

-- its two ports are closed, or they are not
abbrev pub phase_by : Bool → Phase
phase_by true = Closed
phase_by false = Open

-- by its ports as it sees them; before its first call it was not started
abbrev pub phase_in : List (List Ask) → Seen → Phase
phase_in [] s = New
phase_in (a ∷ asked) s = phase_by (is_closed_in s 0 && is_closed_out s 0)

-- how far it is in its list
abbrev pub telling_or : Option Telling → Telling
telling_or None = not_begun
telling_or (Some t) = t

-- the state of the stage of that plug, by the decider of its node
abbrev pub as_plug : Decider → CustomState → Logic
as_plug d x = record {
  phase = phase_in x.asked x.sight;
  stage = record { node = x.node; decider = d; taken = x.taken; work = plugged x.name x.took };
  pending = (telling_or x.telling).pending;
  course = (telling_or x.telling).course;
  ready = may_reply (telling_or x.telling).course;
}
