use Rattle.std.proofs.Common.{◌≡◌, ◌++◌, drop}
use Rattle.blue_names.specs.Links.{wires_of_links}
use Rattle.island_parts.specs.Whole.{nears_from}
use Rattle.island_parts.proofs.links.near_links.Given as goal

-- with those of the wires that are left they are all
abbrev pub invariant-loop-u : goal.invariant-loop-u
invariant-loop-u l = l.links.items ++ nears_from l.out l.u (wires_of_links (drop l.u l.wires)) ≡ nears_from l.fn.outs 0 (wires_of_links l.wires)
