use Rattle.std.proofs.Common.{◌≡◌, drop}
use Rattle.blue_names.specs.First.{first_from, when}
use Rattle.blue_names.specs.RuleLinks.{is_faulty_wire}
use Rattle.blue_names.proofs.hubs.hub_wrong.Given as goal

abbrev pub invariant-loop-i : goal.invariant-loop-i
invariant-loop-i l = first_from (λ i w. when (is_faulty_wire l.nodes w) i) 0 l.wires ≡ first_from (λ i w. when (is_faulty_wire l.nodes w) i) l.i (drop l.i l.wires)
