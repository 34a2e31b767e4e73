-- Where a buffer has nothing to do over its own ports.
use Rattle.std.specs.Prelude.{◌⊎◌, ℕ, List, []}
use Rattle.elem_core.specs.Tree.{Tree}
use Rattle.port_core.specs.declared.view.InView.{InView}
use Rattle.port_core.specs.declared.view.OutView.{OutView}
use Rattle.stream_model.specs.Machine.{going, Run}
use Rattle.stream_model.specs.Linear.{Stage}
use Rattle.stream_model.specs.Rests.{IsShut, BufferRests}
use Rattle.stage_core.specs.OwnPorts.{own_input, own_output}

-- how a buffer begins: it owes nothing
abbrev pub begin_buffer : Stage → Run Stage Tree
begin_buffer s = record { gave = []; state = going s }

-- A buffer of n, which took l and gave g, has closed its ports or meets its row of a picture that rests.
abbrev pub BufferOwnRests : ℕ → InView → OutView → List Tree → List Tree → Type 0
BufferOwnRests n x y l g = (IsShut (own_input x l) × IsShut (own_output y g)) ⊎ BufferRests n (own_input x l) (own_output y g)
