-- How the input of a stage stands, in the words of the model.
use Rattle.stream_model.specs.Machine.{State, going, done, broken}
use Rattle.stream_model.specs.Linear.{Stage}
use Rattle.step_work.specs.declared.ending.StateEnd.{StateEnd}
use Rattle.step_work.specs.declared.ending.StateEnd.TheVariants.{Lasting, Ended, Failed}

-- the state of its machine once its input stands so
abbrev pub state_by : StateEnd → Stage → State Stage
state_by Lasting s = going s
state_by Ended s = done
state_by (Failed c) s = broken c
