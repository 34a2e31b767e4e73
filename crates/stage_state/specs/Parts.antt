-- The parts of which a stage with state is one.
use Rattle.stage_state.specs.declared.machine.Part.{Part}
use Rattle.stage_state.specs.declared.machine.Part.TheVariants.{Keep, Buffer}
use Rattle.stage_state.specs.States.{Logic}

-- the state of a part
abbrev pub logic_of : Part → Logic
logic_of (Keep l) = l
logic_of (Buffer l) = l
