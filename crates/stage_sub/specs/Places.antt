-- The places of the substreams of a group_by, by their keys.
use Rattle.std.specs.Prelude.{ℕ, List, Option}
use Rattle.std.specs.BTreeMap.{BTreeMap, get, is_at}
use Rattle.std.specs.Map.{lookup}
use Rattle.elem_core.specs.Tree.{Tree}
use Rattle.elem_core.specs.Order.{tree_cmp}

-- the place at a key
abbrev pub place_at : BTreeMap Tree ℕ → Tree → Option ℕ
place_at m k = get tree_cmp m k

-- the place at a key among entries
abbrev pub place_in : List (Tree × ℕ) → Tree → Option ℕ
place_in es k = lookup (is_at (tree_cmp k)) es
