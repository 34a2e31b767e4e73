-- The machine of substreams as one over elements: the numbers of its outputs' substreams left out.
use Rattle.std.specs.Prelude.{List, map}
use Rattle.stage_core.specs.Fans.{untagged}
use Rattle.elem_core.specs.Tree.{Tree}
use Rattle.stream_model.specs.Outlook.{End}
use Rattle.stream_model.specs.Machine.{Run, Finish, adds, refuses, Machine, Given}
use Rattle.stream_model.specs.FanIn.{Tagged}
use Rattle.stream_model.specs.Substreams.{Opening, Subs, substreams}

-- what a run gave without the numbers of substreams, and its state
abbrev pub untag : Run Subs Tagged → Run Subs Tree
untag x = record { gave = untagged x.gave; state = x.state }

-- what an end adds without the numbers of substreams, or why it fails
abbrev pub untag_finish : Finish Tagged → Finish Tree
untag_finish (adds l) = adds (untagged l)
untag_finish (refuses c) = refuses c

-- what substreams give, in the order in which it arises
abbrev pub joined_machine : (List Tree → End → Given Tree) → Opening → Machine Subs Tree
joined_machine yields o =
    let m = substreams yields o in record { step = λ s t. untag (m.step s t); finish = λ s. untag_finish (m.finish s); hold = m.hold; early = m.early }
