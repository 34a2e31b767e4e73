use Rattle.std.proofs.Common.{◌≡◌, map, take}
use Rattle.island_parts.specs.Whole.{link_home}
use Rattle.island_parts.proofs.links.link_homes.Given as goal

-- those of the links so far
abbrev pub invariant-loop-link : goal.invariant-loop-link
invariant-loop-link l = l.all.items ≡ map (link_home l.homes) (take l.link-index l.links)
