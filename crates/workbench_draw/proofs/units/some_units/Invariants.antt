use Rattle.std.proofs.Common.{◌≡◌, take}
use Rattle.blue_names.specs.Links.{wires_of_links}
use Rattle.workbench_draw.specs.Carried.{number_at}
use Rattle.workbench_draw.specs.Units.{some_units}
use Rattle.workbench_draw.proofs.units.some_units.Given as goal

abbrev pub invariant-loop-wire : goal.invariant-loop-wire
invariant-loop-wire l = l.total ≡ some_units (wires_of_links l.links) (number_at l.carried) (take l.wire-index l.wires)
