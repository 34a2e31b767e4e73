use Rattle.std.proofs.Common.{◌≡◌, ◌+◌, drop}
use Rattle.stream_model.specs.Shape.{need_from}
use Rattle.blue_names.specs.Links.{wires_of_links}
use Rattle.workbench_draw.specs.Carried.{number_at}
use Rattle.workbench_draw.proofs.units.all_units.Given as goal

abbrev pub invariant-loop-i : goal.invariant-loop-i
invariant-loop-i l = l.total + need_from l.i (wires_of_links (drop l.i l.links)) (number_at l.carried) ≡ need_from 0 (wires_of_links l.links) (number_at l.carried)
