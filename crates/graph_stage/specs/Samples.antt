-- What the worked values of custom stages are told with.
use Rattle.std.specs.Prelude.{ℕ, Bool, Option, None, [], ◌∷◌}
use Rattle.elem_core.specs.declared.why.Cause.{Cause}
use Rattle.elem_core.specs.declared.why.Why.{Why}
use Rattle.graph_stage.specs.declared.occasion.Occasion.{Occasion}
use Rattle.graph_stage.specs.declared.sight.InSight.{InSight}
use Rattle.graph_stage.specs.declared.sight.OutSight.{OutSight}
use Rattle.graph_stage.specs.OwnView.{Seen}

-- an input that is asked or not, and closed or not
abbrev pub in_seen : Bool → Bool → InSight
in_seen asked closed = record { asked = asked; closed = closed }

-- an output that is
abbrev pub out_seen : Bool → Bool → OutSight
out_seen asked closed = record { asked = asked; closed = closed }

-- a stage that sees one input and one output so
abbrev pub one_by_one : InSight → OutSight → Seen
one_by_one x y = record { ins = x ∷ []; outs = y ∷ [] }

-- a call of the stage at node 1 with its third element
abbrev pub at_third : Occasion
at_third = record { node = 1; taken = 3; nth = 3; failure = None }

-- a call with something else, behind three elements
abbrev pub behind_three : Option Cause → Occasion
behind_three failure = record { node = 1; taken = 3; nth = 0; failure = failure }

-- a failure of the stage at node 1 itself
abbrev pub own_failure : ℕ → Why → Cause
own_failure nth reason = record { stage = 1; nth = nth; why = reason }
