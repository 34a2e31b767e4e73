use Rattle.std.proofs.Common.{◌≡◌, ◌++◌, drop}
use Rattle.blue_names.specs.Links.{wires_of_links}
use Rattle.island_parts.specs.Whole.{fars_from}
use Rattle.island_parts.proofs.links.put_fars.Given as goal

-- with those of the wires that are left they are all
abbrev pub invariant-loop-u : goal.invariant-loop-u
invariant-loop-u l = l.links.items ++ fars_from l.place l.u (wires_of_links (drop l.u l.wires)) ≡ l.initial.links.items ++ fars_from l.fn.first 0 (wires_of_links l.wires)
