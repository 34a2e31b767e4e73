use Rattle.std.proofs.Common.{take}
use Rattle.blue_names.specs.Links.{wires_of_links}
use Rattle.blue_names.specs.Wiring.{FindsSources}
use Rattle.blue_names.proofs.ports.sources_of.Given as goal

abbrev pub invariant-loop-i : goal.invariant-loop-i
invariant-loop-i l = FindsSources l.table (wires_of_links (take l.i l.links))
