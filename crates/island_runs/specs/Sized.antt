-- A blueprint of which the links of all islands have numbers.
use Rattle.std.specs.Prelude.{◌<◌, ◌^◌, length}
use Rattle.stream_model.specs.declared.blueprint.Blueprint.{Blueprint}
use Rattle.blue_check.specs.Wires.{blueprint_wires}
use Rattle.island_parts.specs.Whole.{whole_links}

-- the links of its wires, where each lane is cut, are fewer than 32 bits count
abbrev pub HasFewLinks : Blueprint → Type 0
HasFewLinks b = length (whole_links (length b.nodes.items) (blueprint_wires b)) < 2 ^ 32
