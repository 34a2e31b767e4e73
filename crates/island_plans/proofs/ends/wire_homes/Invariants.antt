use Rattle.std.proofs.Common.{◌≡◌, map, take}
use Rattle.blue_names.specs.Links.{wires_of_links}
use Rattle.island_plans.specs.Ends.{wire_home}
use Rattle.island_plans.proofs.ends.wire_homes.Given as goal

-- those of the wires so far
abbrev pub invariant-loop-link : goal.invariant-loop-link
invariant-loop-link l = l.all.items ≡ map (wire_home l.homes) (wires_of_links (take l.link-index l.links))
