use Rattle.blue_names.specs.Links.{wires_of_links}
use Rattle.blue_check.proofs.ClosedWalks.{NoneBelow}
use Rattle.blue_check.proofs.closed.first_closed.Given as goal

abbrev pub invariant-loop-i : goal.invariant-loop-i
invariant-loop-i l = NoneBelow (wires_of_links l.links) l.i
