-- What was sent on every wire agrees with the composed outlook by a world of which each node serves the moves.
use Rattle.std.specs.Prelude.{slice_get, ⊤}
use Rattle.std.proofs.Common.{◌≡◌, ℕ, ◌+◌, ◌<◌, length, Some, subst, arith}
use Rattle.port_core.specs.Reading.{got_of, sent_of}
use Rattle.stream_model.specs.Composed.{inputs_of, count_from, ports_of, next, composed, IsRanked}
use Rattle.stream_model.specs.Fits.{inputs}
use Rattle.stream_model.specs.Graph.{Graph, Edge}
use Rattle.stream_model.specs.Graph as graph
use Rattle.stream_model.specs.Node.{World}
use Rattle.stream_model.specs.Outlook.{Outlook, Agrees}
use Rattle.stream_model.specs.View.{outputs_of}
use Rattle.stream_model.proofs.AllWires.{all_agree}
use Rattle.stream_model.proofs.Compositions.{slice_get-below, composed_composes}
use Rattle.stream_io.specs.State.{SourceState, DrainState}
use Rattle.fused_net.proofs.Reading.{get_there}
use Rattle.nodes.specs.Nodes.{node_port_state, node_law, node_asking, node_moves}
use Rattle.nodes.specs.declared.node.IslandNode.{IslandNode}
use Rattle.run_laws.specs.Account.{Account, knows, took, gave}
use Rattle.run_laws.specs.Items.{list_of, end_of_items, AllMayPass, AgreesWith}
use Rattle.run_laws.specs.Runs.{IsRun}
use Rattle.run_laws.specs.Telling.{TellsFiles, ServesPlans}
use Rattle.run_laws.proofs.Agreeing.{inputs_pass, read_there, list_agrees}
use Rattle.run_laws.proofs.Reading.{length_ins}
use Rattle.run_laws.proofs.ServingNodes.{node_serves}

module _ {S D L H B : Type 0} (sources : S → SourceState) (drains : D → DrainState) (g : Graph) (w : World) (a : Account (IslandNode S D L H B)) (run : IsRun sources drains w.book g a) (files : TellsFiles sources g w a) (serves : ServesPlans g w a) (rank : ℕ → ℕ) (ranked : IsRanked g rank) where
  -- what was sent on a wire, as a list and its end
  abbrev SentSo : ℕ → Type 0
  SentSo u = Agrees (composed g w u) (list_of (a.near u).wire.sent) (end_of_items (a.near u).wire.sent)

  came_in : (k : ℕ) (n : graph.Node) → ((u : ℕ) (v : Edge) → slice_get g.wires u ≡ Some v → v.to ≡ k → SentSo u) → AllMayPass (inputs g w k n) (took g a k n)
  came_in k n b =
      inputs_pass node_port_state (node_law sources drains w.book) node_asking node_moves (λ i m x. ⊤) (λ v i m first now. ⊥) g w (λ i m first now v t o made tells many law. absurd tells) a run.joined run.keeps (λ i m first at there. tt) (composed g w) k (count_from 0 (inputs_of n)) b

  wire_agrees : (j : ℕ) → j < length g.wires → ((i : ℕ) → i < length g.wires → rank i < rank j → SentSo i) → AgreesWith (next g w (composed g w) j) (a.near j).wire.sent
  wire_agrees j hj below =
      let v = get_there g.wires j hj in
      let source = run.joined.source j v.0 v.1 in
      let n = source.0 in
      let k = v.0.from in
      let m = run.keeps.each_node k n source.1 in
      let within = source.2 in
      let none : 0 + v.0.output ≡ v.0.output = omega arith in
      let at : slice_get (gave g a k n) v.0.output ≡ Some (a.near j).wire.sent = read_there g sent_of a.near k 0 (outputs_of n) v.0.output j within (rw none source.3) in
      let some : 0 < outputs_of n = omega (arith, within) in
      let comes = came_in k n (λ u x ux to. below u (slice_get-below g.wires u x ux) (ranked.rises u j x v.0 ux v.1 to)) in
      let gives = node_serves sources drains g w k n m.first m.now (knows g a k n) (took g a k n) (gave g a k n) (run.made k n m.first source.1 m.first_at) (files k n m.first m.now source.1 m.first_at m.now_at, serves k n m.first m.now source.1 m.first_at m.now_at)
      (length_ins g got_of a.far k 0 (inputs_of n)) m.law_holds some comes in
      rw (v.1, source.1) (gives v.0.output (a.near j).wire.sent at)

  sent_agrees : (i : ℕ) → i < length g.wires → SentSo i
  sent_agrees = all_agree g w rank ranked (λ u. list_of (a.near u).wire.sent) (λ u. end_of_items (a.near u).wire.sent)
      (λ j hj below. list_agrees (next g w (composed g w) j) (a.near j).wire.sent (wire_agrees j hj below))

  -- every wire, at its output
  pub every_wire_serves : (i : ℕ) → i < length g.wires → AgreesWith (composed g w i) (a.near i).wire.sent
  every_wire_serves i hi = subst (λ (o : Outlook). AgreesWith o (a.near i).wire.sent) (composed_composes g w rank ranked i hi) (wire_agrees i hi (λ u hu r. sent_agrees u hu))

  -- and what every node took
  pub every_input_serves : (k : ℕ) (n : graph.Node) → slice_get g.nodes k ≡ Some n → AllMayPass (ports_of g w (composed g w) k (count_from 0 (inputs_of n))) (took g a k n)
  every_input_serves k n e = came_in k n (λ u v ui to. sent_agrees u (slice_get-below g.wires u v ui))
