-- Drawings in the DOT language.
use Rattle.std.specs.Prelude.{◌≡◌, ℕ, List, ◌++◌, length, vec_len, codes}
use Rattle.std.specs.List.{flat_map}
use Rattle.std.specs.declared.alloc.Global.{Global}
use Rattle.std.specs.declared.vec.Vec.{Vec}
use Rattle.stream_model.specs.declared.blueprint.Blueprint.{Blueprint}
use Rattle.workbench_draw.specs.declared.draw.Drawing.{Drawing}

-- lines, one behind another
abbrev pub lines_text : List (Vec ℕ Global) → List ℕ
lines_text lines = flat_map (λ line. line.items) lines

-- the first lines: from left to right, outputs in their order, and how nodes and wires look
abbrev pub drawing_head : List ℕ
drawing_head =
    codes "digraph blueprint {\n  rankdir=LR; ordering=out; nodesep=0.3; ranksep=0.6;\n  graph [fontname=Helvetica, fontsize=10, fontcolor=\"#5b6675\"];\n  node [shape=box, style=\"rounded,filled\", fillcolor=\"#eaf1fb\", color=\"#33639c\", fontname=Helvetica, fontsize=12, fontcolor=\"#1d2430\", margin=\"0.12,0.06\"];\n  edge [fontname=Helvetica, fontsize=9, fontcolor=\"#5b6675\", color=\"#5b6675\", arrowsize=0.7];\n"

-- the lines of a drawing in its braces
abbrev pub drawing_text : Drawing → List ℕ
drawing_text d =
    drawing_head ++ lines_text d.areas.items ++ lines_text d.nodes.items ++ lines_text d.wires.items ++ lines_text d.others.items
    ++ codes "}\n"

-- the text is a drawing with a line for each node and a line for each wire
pub record IsDrawingOf (b : Blueprint) (text : List ℕ) : Type 0 where
  pub drawing : Drawing
  pub nodes : vec_len drawing.nodes ≡ length b.nodes.items
  pub wires : vec_len drawing.wires ≡ length b.wires.items
  pub is : text ≡ drawing_text drawing
