-- The receipt of a run, as island_runs says it, for those above, who then name this crate alone.
use Rattle.std.specs.Prelude.{ℕ, Bool}
use Rattle.stream_model.specs.declared.blueprint.Blueprint.{Blueprint}
pub use Rattle.island_runs.specs.declared.ran.Ran.{Ran}
use Rattle.island_runs.specs.Receipt as islands

-- the blueprint has so many islands
abbrev pub HasIslands : Blueprint → ℕ → Type 0
HasIslands b count = islands.HasIslands b count

-- so many workers took turns at the islands of the blueprint, and so many units were used; an event was left or not
abbrev pub IsReceipt : Blueprint → ℕ → ℕ → Bool → Ran → Type 0
IsReceipt b workers used at_rest r = islands.IsReceipt b workers used at_rest r
