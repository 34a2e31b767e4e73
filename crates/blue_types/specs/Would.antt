-- What a node of a net would fix.
use Rattle.std.specs.Prelude.{ℕ, Option, slice_get}
use Rattle.elem_core.specs.Sort.{Sort}
use Rattle.blue_names.specs.Rounds.{attempt_at, fixes}
use Rattle.blue_names.specs.Links.{wires_of_links}
use Rattle.blue_types.specs.declared.library.Library.{Library}
use Rattle.blue_types.specs.declared.net.Net.{Net}

-- the type that a node would fix, where these types are fixed
abbrev pub would : Library → Net → (ℕ → Option Sort) → ℕ → Option Sort
would l n types i = fixes (attempt_at l.heads.now l.chains.now n.nodes.now (wires_of_links n.links.now) types i (slice_get n.nodes.now i))
