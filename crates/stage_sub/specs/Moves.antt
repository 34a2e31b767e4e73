-- The moves of a stage whose substreams are joined by `merge`: the number of the substream of each output that it gave, in order.
use Rattle.std.specs.Prelude.{ℕ, List, [], ◌∷◌, ◌++◌, Option, Some, None}
use Rattle.std.specs.Option.{option_map}
use Rattle.elem_core.specs.declared.item.Item.TheVariants as item
use Rattle.port_core.specs.Call.{Call, arrives}
use Rattle.stream_model.specs.FanIn.{Tagged}
use Rattle.stream_model.specs.Machine.{State, going, Finish, adds, refuses, Machine}
use Rattle.stream_model.specs.Substreams.{Subs}

-- the number of the substream of an output, where there is one
abbrev pub port_in : Option Tagged → Option ℕ
port_in o = option_map (λ x. x.port) o

-- the moves, where there are any, once an output of this substream was given, where one was
abbrev pub noted : Option (List ℕ) → Option ℕ → Option (List ℕ)
noted None port = None
noted (Some ms) None = Some ms
noted (Some ms) (Some port) = Some (ms ++ port ∷ [])

-- the first of these outputs
abbrev pub first_output : List Tagged → Option Tagged
first_output [] = None
first_output (o ∷ os) = Some o

-- what an end of the input adds
abbrev pub added : Finish Tagged → List Tagged
added (adds l) = l
added (refuses c) = []

-- the outputs that arise by a call, by the state of the machine
abbrev pub arising : Machine Subs Tagged → Call → State Subs → List Tagged
arising m (arrives i (item.Elem t)) (going s) = (m.step s t).gave
arising m (arrives i item.Ended) (going s) = added (m.finish s)
arising m _ _ = []
