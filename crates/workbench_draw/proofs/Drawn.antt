-- Drawings of a blueprint.
use Rattle.std.proofs.Common.{◌≡◌, ℕ, vec_len, length, Result, Ok, Err, IfOk}
use Rattle.std.specs.declared.alloc.AllocError.{AllocError}
use Rattle.std.specs.declared.alloc.Global.{Global}
use Rattle.std.specs.declared.vec.Vec.{Vec}
use Rattle.stream_model.specs.declared.blueprint.Blueprint.{Blueprint}
use Rattle.workbench_draw.specs.Drawing.{IsDrawingOf, drawing_text}
use Rattle.workbench_draw.specs.declared.draw.Drawing.{Drawing}

-- the text of a drawing with a line for each node and each wire is one of the blueprint
pub draws : (b : Blueprint) (d : Drawing) (r : Result (Vec ℕ Global) AllocError) → vec_len d.nodes ≡ length b.nodes.items → vec_len d.wires ≡ length b.wires.items
    → IfOk r (λ text. text.items ≡ drawing_text d) → IfOk r (λ text. IsDrawingOf b text.items)
draws b d (Ok text) nodes wires is = record { drawing = d; nodes = nodes; wires = wires; is = is }
draws b d (Err e) nodes wires is = is
