-- What the run of a blueprint leaves, at any moment from its start to its end.
use Rattle.stream_model.specs.Graph.{Graph}
use Rattle.stream_model.specs.Joined.{IsJoined}
use Rattle.stream_io.specs.State.{SourceState, DrainState}
use Rattle.nodes.specs.declared.node.IslandNode.{IslandNode}
use Rattle.nodes.specs.Nodes.{node_port_state, node_law, node_asking, node_moves}
use Rattle.run_laws.specs.Account.{Account, KeepsLaws, AllMade}
use Rattle.run_laws.specs.Made.{FirstOf}
use Rattle.stream_model.specs.Linear.{Book}

-- The ports of the blueprint are joined; its nodes and wires keep their laws, by this book of plugs; and its nodes were handed in
-- as it names them.
pub record IsRun {S D L H B : Type 0} (sources : S → SourceState) (drains : D → DrainState) (book : Book) (g : Graph) (a : Account (IslandNode S D L H B))
    : Type 0 where
  pub joined : IsJoined g
  pub keeps : KeepsLaws node_port_state (node_law sources drains book) node_asking node_moves g a
  pub made : AllMade (FirstOf sources g.chains) g a
