-- What was sent on the wires of a run is of their types; an island that was made of a graph that passes the rules leaves a run of it.
use Rattle.std.proofs.Common.{◌≡◌, ℕ, true, false, not, List, Some, sym, subst}
use Rattle.std.specs.Prelude.{slice_get}
use Rattle.stream_model.specs.Composed.{IsRanked}
use Rattle.stream_model.specs.Graph.{Graph, Edge}
use Rattle.stream_model.specs.Graph as graph
use Rattle.stream_model.specs.Node.{World}
use Rattle.stream_model.specs.Joined.{IsJoined}
use Rattle.stream_io.specs.State.{SourceState, DrainState}
use Rattle.fused_net.specs.Laws.{Settled}
use Rattle.fused_net.specs.Net.{Net, wire_at}
use Rattle.nodes.specs.Nodes.{node_port_state, node_law, node_asking, node_moves}
use Rattle.nodes.specs.declared.node.IslandNode as stage
use Rattle.run_laws.specs.Account.{Account}
use Rattle.run_laws.specs.Seats.{account_of}
use Rattle.run_laws.specs.Made.{Materializes}
use Rattle.run_laws.specs.Runs.{IsRun}
use Rattle.run_laws.specs.Telling.{TellsPicks, TellsCustoms}
use Rattle.run_laws.proofs.OutlookAgreeing.{given_told}
use Rattle.run_laws.proofs.AgreeingSources.{source_texts}
use Rattle.run_laws.proofs.Islands.{island_run}
use Rattle.stream_model.specs.declared.blueprint.ChainDecl.{ChainDecl}
use Rattle.stream_model.specs.declared.blueprint.Node.{Node}
use Rattle.stream_model.specs.Known.{HeadLists}
use Rattle.blue_names.specs.CustomPorts.{custom_head, head_fits, is_headless}
use Rattle.blue_names.specs.First.{when}
use Rattle.blue_names.specs.Sizes.{sizes_fit, node_fits}
use Rattle.std.proofs.lemmas.Bool.{and_parts}
use Rattle.materializer.proofs.Joining.{joined, none_here, not_when, not_false}
use Rattle.materializer.proofs.Used.{known_by, inputs_in_graph, outputs_in_graph}
use Rattle.run_blueprint.specs.Checked.{PassesRules}
use Rattle.run_blueprint.specs.Plugs.{KeepsPlugTypes, GivenTyped}
use Rattle.run_blueprint.specs.Sent.{SendsItsType}
use Rattle.run_blueprint.proofs.TypeSending.{every_wire_sends}

-- the ports of a graph that passes the rules are joined
rules_join : (heads : HeadLists) (chains : List ChainDecl) (nodes : List Node) (g : Graph) → PassesRules heads chains nodes g → IsJoined g
rules_join heads chains nodes g passes =
    subst (λ (ns : List graph.Node). IsJoined (record { nodes = ns; wires = g.wires; chains = g.chains })) (sym passes.nodes_are)
    (joined heads nodes g.wires known passes.no_missing passes.no_open passes.decls g.chains passes.no_twice
    (λ k n at. inputs_in_graph heads passes.decls n (known k n at) (fits k n at) (λ h e. passes.ports_are k n h at e))
    (λ k n at. outputs_in_graph heads passes.decls n (known k n at) (fits k n at) (λ h e. passes.ports_are k n h at e)))
  where
    known : (k : ℕ) (n : Node) → slice_get nodes k ≡ Some n → is_headless heads n.kind ≡ false
    known k n at = known_by heads chains nodes passes.no_unknown k n at

    fits : (k : ℕ) (n : Node) → slice_get nodes k ≡ Some n → head_fits (custom_head heads n.kind) ≡ true
    fits k n at = (and_parts (sizes_fit n.kind) (head_fits (custom_head heads n.kind)) (not_false (node_fits heads n.kind) (not_when _ k (none_here (λ i (m : Node). when (not (node_fits heads m.kind)) i) nodes k n passes.no_wrong at)))).1

module _ {S D L H B : Type 0} (sources : S → SourceState) (drains : D → DrainState) (heads : HeadLists) (chains : List ChainDecl) (nodes : List Node) (g : Graph) (w : World) (rank : ℕ → ℕ) where
  pub run_sends : (a : Account (stage.IslandNode S D L H B)) → IsRun sources drains w.book g a → TellsPicks w a → TellsCustoms g w a → PassesRules heads chains nodes g → KeepsPlugTypes heads w.book → GivenTyped heads nodes g.wires w → IsRanked g rank
      → (i : ℕ) (v : Edge) → slice_get g.wires i ≡ Some v → SendsItsType heads chains nodes g w i v (a.near i).wire.sent
  run_sends a run chose told passes keeps gave ranked =
      every_wire_sends heads chains nodes g w rank ranked passes keeps gave (λ u. (a.near u).wire.sent) (source_texts sources drains w.book g a run) (given_told sources drains g w a run chose told)

  pub island_sends : (net : Net (stage.IslandNode S D L H B)) → Settled node_port_state (node_law sources drains w.book) node_asking node_moves net → Materializes sources g net.firsts net.ends → TellsPicks w (account_of net) → TellsCustoms g w (account_of net)
      → PassesRules heads chains nodes g → KeepsPlugTypes heads w.book → GivenTyped heads nodes g.wires w → IsRanked g rank
      → (i : ℕ) (v : Edge) → slice_get g.wires i ≡ Some v → SendsItsType heads chains nodes g w i v (wire_at net i).wire.sent
  island_sends net settled made chose told passes keeps gave ranked =
      run_sends (account_of net) (island_run sources drains w.book g net settled made (rules_join heads chains nodes g passes)) chose told passes keeps gave ranked
