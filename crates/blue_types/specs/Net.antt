-- The tables of a net, and the types of its nodes.
use Rattle.std.specs.Prelude.{ℕ, List, Option, slice_get}
use Rattle.std.specs.Option.{option_flatten}
use Rattle.elem_core.specs.Sort.{Sort}
use Rattle.blue_names.specs.Links.{wires_of_links}
use Rattle.blue_names.specs.Wiring.{FindsWires}
use Rattle.blue_types.specs.declared.net.Net.{Net}

-- the table has the first wire into each input
pub record HasFirstWires (n : Net) : Type 0 where
  pub targets : FindsWires n.targets.now (wires_of_links n.links.now)

-- the type of a node, where it is fixed
abbrev pub type_at : List (Option Sort) → ℕ → Option Sort
type_at types i = option_flatten (slice_get types i)
