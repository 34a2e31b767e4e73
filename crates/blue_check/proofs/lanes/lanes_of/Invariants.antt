use Rattle.std.proofs.Common.{◌≡◌, take}
use Rattle.blue_names.specs.Links.{wires_of_links}
use Rattle.blue_check.specs.Plan.{lanes_from}
use Rattle.blue_check.proofs.lanes.lanes_of.Given as goal

abbrev pub invariant-loop-wire : goal.invariant-loop-wire
invariant-loop-wire l = l.lanes.items ≡ lanes_from l.homes 0 (wires_of_links (take l.wire l.links))
