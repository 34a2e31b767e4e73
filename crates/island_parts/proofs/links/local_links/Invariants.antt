use Rattle.std.proofs.Common.{◌≡◌, map, take}
use Rattle.island_parts.specs.Whole.{at_ranks}
use Rattle.island_parts.proofs.links.local_links.Given as goal

-- those of the links so far
abbrev pub invariant-loop-link : goal.invariant-loop-link
invariant-loop-link l = l.all.items ≡ map (at_ranks l.ranks) (take l.link-index l.links)
