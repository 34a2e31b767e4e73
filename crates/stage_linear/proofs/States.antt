-- The states of a linear stage that is open, by their parts.
use Rattle.std.proofs.Common.{◌≡◌, Bool, List, ap, ◌∙◌}
use Rattle.elem_core.specs.Tree.{Tree}
use Rattle.stream_model.specs.Linear.{Stage}
use Rattle.stage_core.specs.declared.phase.Phase.{Phase}
use Rattle.stage_core.specs.declared.phase.Phase.TheVariants.{Open}
use Rattle.stage_linear.specs.declared.course.Course.{Course}
use Rattle.stage_linear.specs.States.{Logic}

abbrev pub of_parts : Stage → Course → Bool → List Tree → Logic
of_parts s c b p = record { phase = Open; stage = s; pending = p; course = c; ready = b }

-- the same, but for whether its plug may be called
abbrev pub readied : Logic → Bool → Logic
readied l b = record l { ready = b }

pub of_logic : (l : Logic) (r : Course) (p : List Tree) → l.phase ≡ Open → l.course ≡ r → l.pending ≡ p → l ≡ of_parts l.stage r l.ready p
of_logic l r p h i j =
    ap (λ (k : Phase). record l { phase = k }) h ∙ ap (λ k. of_parts l.stage k l.ready l.pending) i ∙ ap (λ k. of_parts l.stage r l.ready k) j
