-- A run whose account says nothing beyond the nodes of its blueprint.
use Rattle.std.specs.Prelude.{slice_get}
use Rattle.std.proofs.Common.{◌≡◌, ℕ, ◌+◌, ◌<◌, List, [], ◌∷◌, length, Some, refl, sym, ap, ◌∙◌, subst}
use Rattle.stream_io.specs.State.{SourceState, DrainState}
use Rattle.stream_model.specs.Graph.{Graph, Edge}
use Rattle.stream_model.specs.Graph as graph
use Rattle.stream_model.proofs.Compositions.{slice_get-below}
use Rattle.stream_model.specs.declared.outcome.WireCount.{WireCount}
use Rattle.nodes.specs.Nodes.{node_port_state, node_law, node_asking, node_moves}
use Rattle.nodes.specs.declared.node.IslandNode.{IslandNode}
use Rattle.interpreter.specs.declared.parts.Seated.{Seated}
use Rattle.run_laws.specs.Account.{Account, NodeKeeps, IsStill}
use Rattle.run_laws.specs.Pictures.{counts_from}
use Rattle.run_laws.specs.Ports.{wire_count}
use Rattle.run_laws.specs.Runs.{IsRun}
use Rattle.bodies_run.specs.Leaving.{AreLeft, of_lists}
use Rattle.bodies_run.proofs.Leaving.{become_many}
use Rattle.stream_model.specs.Linear.{Book}

module _ {S D L H B : Type 0} (sources : S → SourceState) (drains : D → DrainState) (book : Book) (g : Graph) (a : Account (IslandNode S D L H B)) (places : List (Seated S D L H B)) (nodes : List (IslandNode S D L H B)) (left : AreLeft places a nodes) where
  pub run_alone : length places ≡ length g.nodes → IsRun sources drains book g a → IsRun sources drains book g (of_lists a left.firsts nodes)
  run_alone many run = record {
    joined = run.joined;
    keeps = record {
      each_node = each;
      near_sound = run.keeps.near_sound;
      far_sound = run.keeps.far_sound;
      near_marked = run.keeps.near_marked;
      far_marked = run.keeps.far_marked;
      wires = run.keeps.wires;
    };
    made = λ k n first at is. run.made k n first at (left.first_at k (slice_get-below left.firsts k first is) ∙ is);
  }
    where
      within : (k : ℕ) (n : graph.Node) → slice_get g.nodes k ≡ Some n → k < length left.firsts
      within k n at = subst (λ (j : ℕ). k < j) (sym many ∙ become_many places left.firsts left.become) (slice_get-below g.nodes k n at)

      each : (k : ℕ) (n : graph.Node) → slice_get g.nodes k ≡ Some n → NodeKeeps node_port_state (node_law sources drains book) node_asking node_moves g (of_lists a left.firsts nodes) k n
      each k n at =
          let h = run.keeps.each_node k n at in
          record {
            first = h.first;
            now = h.now;
            first_at = sym (left.first_at k (within k n at)) ∙ h.first_at;
            now_at = sym (left.node_at k (subst (λ (j : ℕ). k < j) (sym left.as_many) (within k n at))) ∙ h.now_at;
            port_state_holds = h.port_state_holds;
            law_holds = h.law_holds;
            asks = h.asks;
            last = h.last;
          }

-- no event is left on its wires, where none was
pub still_alone : {N : Type 0} (g : Graph) (a : Account N) (firsts nodes : List N) → IsStill g a → IsStill g (of_lists a firsts nodes)
still_alone g a firsts nodes s = record { near = s.near; far = s.far; quiet = s.quiet }

-- its picture is the same
pub counts_alone : {N : Type 0} (a : Account N) (firsts nodes : List N) (i : ℕ) (ws : List Edge) → counts_from (of_lists a firsts nodes) i ws ≡ counts_from a i ws
counts_alone a firsts nodes i [] = refl
counts_alone a firsts nodes i (v ∷ ws) = ap (λ (cs : List WireCount). wire_count v.lane (a.near i) (a.asked i) ∷ cs) (counts_alone a firsts nodes (i + 1) ws)
