-- The nodes of a blueprint as they are handed in, whatever joins them.
use Rattle.std.specs.Prelude.{◌≡◌, ℕ, List, length, slice_get, Some}
use Rattle.stream_model.specs.Graph as graph
use Rattle.stream_io.specs.State.{SourceState}
use Rattle.nodes.specs.declared.node.IslandNode.{IslandNode}
use Rattle.run_laws.specs.Made.{FirstOf}

-- each of these nodes of a blueprint's graph, which has these chains, stands at its place, as it is handed in
pub record AreFirsts {S D L H B : Type 0} (sources : S → SourceState) (chains : List graph.Chain) (nodes : List graph.Node) (firsts : List (IslandNode S D L H B))
    : Type 0 where
  pub many : length firsts ≡ length nodes
  pub each : (k : ℕ) (n : graph.Node) (x : IslandNode S D L H B) → slice_get nodes k ≡ Some n → slice_get firsts k ≡ Some x → FirstOf sources chains k n x
