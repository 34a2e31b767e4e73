-- The rows of a picture that rests, over the own ports of a stage with several inputs.
use Rattle.std.specs.Prelude.{◌⊎◌, List, [], ◌∷◌}
use Rattle.elem_core.specs.Tree.{Tree}
use Rattle.port_core.specs.declared.view.InView.{InView}
use Rattle.port_core.specs.declared.view.OutView.{OutView}
use Rattle.port_core.specs.View as port
use Rattle.stream_model.specs.FanIn.{Inflow}
use Rattle.stream_model.specs.View.{SeenWire, EachWire}
use Rattle.stream_model.specs.Rests.{IsShut, ManyToOne}
use Rattle.stage_core.specs.OwnPorts.{own_input, own_output}

-- the inputs, each with what was taken of it
abbrev pub own_inputs : List InView → List Inflow → List SeenWire
own_inputs (x ∷ xs) (f ∷ fs) = own_input x f.list ∷ own_inputs xs fs
own_inputs _ _ = []

-- the one output, with what was given
abbrev pub own_outputs : List OutView → List Tree → List SeenWire
own_outputs [] g = []
own_outputs (y ∷ ys) g = own_output y g ∷ own_outputs ys g

-- such a stage has closed its ports, or has nothing to do
abbrev pub FanRests : (List SeenWire → SeenWire → Type 0) → port.View → List Inflow → List Tree → Type 0
FanRests P v ins g = (EachWire IsShut (own_inputs v.ins ins) × EachWire IsShut (own_outputs v.outs g))
    ⊎ ManyToOne P (own_inputs v.ins ins) (own_outputs v.outs g)
