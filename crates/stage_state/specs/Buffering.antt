-- A buffer that holds its input back, as a machine: each element brings itself, and a failure may rob the last n.
use Rattle.std.specs.Prelude.{ℕ, Bool, true, false, [], ◌∷◌}
use Rattle.elem_core.specs.Tree.{Tree}
use Rattle.stream_model.specs.Machine.{going, adds, Machine}
use Rattle.stream_model.specs.Linear.{Stage}
use Rattle.step_work.specs.declared.ending.StateEnd.{StateEnd}
use Rattle.step_work.specs.declared.ending.StateEnd.TheVariants.{Lasting, Ended}

-- a buffer of n
abbrev pub buffer : ℕ → Machine Stage Tree
buffer n = record { step = λ s t. record { gave = t ∷ []; state = going s }; finish = λ s. adds []; hold = n; early = 0 }

-- how its input stands, by whether it has ended
abbrev pub ending_of : Bool → StateEnd
ending_of true = Ended
ending_of false = Lasting
