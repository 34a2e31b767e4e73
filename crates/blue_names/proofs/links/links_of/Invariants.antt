use Rattle.std.proofs.Common.{◌≡◌, map, take}
use Rattle.blue_names.specs.RuleLinks.{wires_of}
use Rattle.blue_names.specs.Links.{wires_of_links}
use Rattle.blue_names.proofs.links.links_of.Given as goal

abbrev pub invariant-loop-wire : goal.invariant-loop-wire
invariant-loop-wire l = wires_of_links l.links.items ≡ wires_of l.nodes (take l.wire-index l.wires)
