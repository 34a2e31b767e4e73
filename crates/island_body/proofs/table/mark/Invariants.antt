-- The loops of `table::mark`.
use Rattle.std.proofs.Common.{length}
use Rattle.island_body.specs.Ends.{in_wires, out_wires}
use Rattle.island_body.proofs.Marking.{IsTableTo}
use Rattle.island_body.proofs.table.mark.Given as goal

abbrev pub invariant-loop-k : goal.invariant-loop-k
invariant-loop-k g l = IsTableTo l.k 0 l.island (in_wires l.ins) (out_wires l.outs) l.ways.items

abbrev pub invariant-loop-j : goal.invariant-loop-j
invariant-loop-j g l = IsTableTo (length l.ins) l.j l.island (in_wires l.ins) (out_wires l.outs) l.ways.items
