use Rattle.std.proofs.Common.{drop}
use Rattle.std.specs.List.{flat_map}
use Rattle.run_report.specs.Writing.{LeavesRest}
use Rattle.run_report.proofs.put.put_parts.Given as goal

abbrev pub invariant-loop-part : goal.invariant-loop-part
invariant-loop-part g l =
    let state = g.D.Drain.state in
    LeavesRest (state l.initial.drain) (state l.drain) (flat_map (λ part. part.now) l.parts) (flat_map (λ part. part.now) (drop l.part-index l.parts))
