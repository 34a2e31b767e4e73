use Rattle.std.proofs.Common.{◌≡◌, take}
use Rattle.blue_modules.specs.Counts.{capped, body_weight, counted_modules}
use Rattle.blue_modules.proofs.counts.body_size.Given as goal

abbrev pub invariant-loop-entry : goal.invariant-loop-entry
invariant-loop-entry l =
    record {
      nodes : l.size.nodes ≡ capped (body_weight 1 0 (counted_modules l.book) (take l.entry-index l.body));
      wires : l.size.wires ≡ capped (body_weight 0 1 (counted_modules l.book) (take l.entry-index l.body));
    }
