-- The law of a stage with several inputs and one output, over the histories of its ports.
use Rattle.std.specs.Prelude.{◌≡◌, List, [], ◌∷◌, length, slice_index_or}
use Rattle.elem_core.specs.Tree.{Tree}
use Rattle.elem_core.specs.declared.item.Item.{Item}
use Rattle.port_core.specs.View as port
use Rattle.stream_model.specs.Outlook.{End}
use Rattle.stream_model.specs.FanIn.{Inflow}
use Rattle.stage_core.specs.Inflows.{PortsLaw}

-- the law by ports, over a history of each port in order
pub record InPortsLaw (K : List Inflow → List Tree → End → Type 0) (v : port.View) (took gave : List (List Item)) : Type 0 where
  pub given : List Item
  pub gave_is : gave ≡ given ∷ []
  pub ports : length took ≡ length v.ins
  pub law : PortsLaw K v (λ i. slice_index_or took i []) given
