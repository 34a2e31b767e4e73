-- The one port of a boundary stage, and what a stage may do by itself, between two calls of its handlers.
use Rattle.std.specs.Prelude.{List, [], ◌∷◌}
use Rattle.elem_core.specs.declared.item.Item.{Item}
use Rattle.port_core.specs.declared.act.Act.{Act}
use Rattle.port_core.specs.declared.view.InView.{InView}
use Rattle.port_core.specs.declared.view.OutView.{OutView}
use Rattle.port_core.specs.View.{View, ActAllowed, acted}
use Rattle.stage_core.specs.Histories.{given_by}

-- what is known of the ports of a stage that has this input alone
abbrev pub input_only : InView → View
input_only x = record { ins = x ∷ []; outs = [] }

-- what is known of the ports of a stage that has this output alone
abbrev pub output_only : OutView → View
output_only y = record { ins = []; outs = y ∷ [] }

-- Where its port state and its law hold, the stage may do this by itself: the port rules allow it, and port state and law hold once it is done.
pub record MayDo {N : Type 0} (port_state : N → View → Type 0) (law : N → N → View → List (List Item) → List (List Item) → Type 0) (now first : N) (v : View)
    (took gave : List (List Item)) (a : Act) : Type 0 where
  pub allowed : ActAllowed v a
  pub port_state_holds : port_state now (acted v a)
  pub law_holds : law first now (acted v a) took (given_by a gave)
