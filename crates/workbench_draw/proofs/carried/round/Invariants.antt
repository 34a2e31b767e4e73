use Rattle.std.proofs.Common.{◌≡◌, map, take}
use Rattle.blue_names.specs.Links.{wires_of_links}
use Rattle.workbench_draw.specs.Carried.{number_at, passed_on}
use Rattle.workbench_draw.proofs.carried.round.Given as goal

abbrev pub invariant-loop-link : goal.invariant-loop-link
invariant-loop-link l = l.next.items ≡ map (λ w. passed_on l.own (wires_of_links l.links) (number_at l.carried) w.from) (wires_of_links (take l.link-index l.links))
