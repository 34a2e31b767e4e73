-- A stage's own ports as wires of a picture, each read as no lane, with what passed there: so the rows of a picture that
-- rests are rows of the stage.
use Rattle.port_core.specs.View.{input_closed, output_closed}
use Rattle.std.specs.Prelude.{◌⊎◌, Bool, true, false, List, length, None}
use Rattle.elem_core.specs.Tree.{Tree}
use Rattle.port_core.specs.declared.view.InView.{InView}
use Rattle.port_core.specs.declared.view.InView.TheVariants.{Idle, Pulled, Finished, Cancelled}
use Rattle.port_core.specs.declared.view.OutView.{OutView}
use Rattle.port_core.specs.declared.view.OutView.TheVariants as outlet
use Rattle.stream_model.specs.Machine.{Run, Machine}
use Rattle.stream_model.specs.View.{SeenWire}
use Rattle.stream_model.specs.OneWay.{of_machine}
use Rattle.stream_model.specs.Rests.{IsShut, StageRests}

-- the stage has asked, and no element came since
abbrev pub is_waiting : InView → Bool
is_waiting Idle = false
is_waiting Pulled = true
is_waiting Finished = false
is_waiting Cancelled = false

-- the output was asked, and no element was pushed since
abbrev pub is_asked : OutView → Bool
is_asked outlet.Unpulled = false
is_asked outlet.Available = true
is_asked outlet.Closed = false
is_asked outlet.Cancelled = false

-- the wire of an input, of which this list was taken
abbrev pub own_input : InView → List Tree → SeenWire
own_input x l = record { wire = 0; sent = length l; asked = is_waiting x; shut = input_closed x; lane = None; list = l }

-- the wire of an output, on which this list was given
abbrev pub own_output : OutView → List Tree → SeenWire
own_output y g = record { wire = 0; sent = length g; asked = is_asked y; shut = output_closed y; lane = None; list = g }

-- A stage with one input and one output, which took l and gave g, has closed its ports or has nothing to do: it waits for
-- its input and has given all that it may, or nobody asks it.
abbrev pub OwnRests : {S : Type 0} → Machine S Tree → Run S Tree → Bool → InView → OutView → List Tree → List Tree → Type 0
OwnRests m start holds x y l g = (IsShut (own_input x l) × IsShut (own_output y g)) ⊎ StageRests (of_machine m start holds) (own_input x l) (own_output y g)
