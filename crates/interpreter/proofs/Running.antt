-- What stands at the ends of lanes while an island runs, said of the island.
use Rattle.std.proofs.Common.{◌≡◌, ℕ, subst}
use Rattle.std.specs.Prelude.{List, Option}
use Rattle.stream_io.specs.State.{SourceState, DrainState}
use Rattle.fused_net.specs.Net.{Net}
use Rattle.fused_net.specs.Outside.{BreaksAside, StandsStill, Untouched}
use Rattle.nodes.specs.declared.node.IslandNode.{IslandNode}
use Rattle.nodes.specs.Nodes.{node_port_state, node_law, node_asking, node_moves, node_gone, node_passive, KeepsNode}
use Rattle.interpreter.specs.Island.{Kept}
use Rattle.stream_model.specs.Linear.{Book}

pub still_in : {S D L H B : Type 0} (i k : Kept S D L H B) (new : Net (IslandNode S D L H B)) → i ≡ k → StandsStill node_passive i.net new → StandsStill node_passive k.net new
still_in {S = S} {D = D} {L = L} {H = H} {B = B} i k new e s = subst (λ (z : Kept S D L H B). StandsStill node_passive z.net new) e s

pub untouched_in : {S D L H B : Type 0} (at : Option ℕ) (i k : Kept S D L H B) (new : Net (IslandNode S D L H B)) → i ≡ k → Untouched node_passive at i.net new → Untouched node_passive at k.net new
untouched_in {S = S} {D = D} {L = L} {H = H} {B = B} at i k new e s = subst (λ (z : Kept S D L H B). Untouched node_passive at z.net new) e s

pub breaks_in : {S D L H B : Type 0} (sources : S → SourceState) (drains : D → DrainState) (book : Book) (i k : Kept S D L H B) (nodes : List (IslandNode S D L H B)) → i ≡ k → BreaksAside node_port_state (node_law sources drains book) node_asking node_moves node_gone node_passive (KeepsNode sources drains) i.net nodes
    → BreaksAside node_port_state (node_law sources drains book) node_asking node_moves node_gone node_passive (KeepsNode sources drains) k.net nodes
breaks_in {S = S} {D = D} {L = L} {H = H} {B = B} sources drains book i k nodes e b = subst (λ (z : Kept S D L H B). BreaksAside node_port_state (node_law sources drains book) node_asking node_moves node_gone node_passive (KeepsNode sources drains) z.net nodes) e b
