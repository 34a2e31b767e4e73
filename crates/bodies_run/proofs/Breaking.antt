-- Bodies of which some broke off leave a run, with their islands as they were at their last moments.
use Rattle.std.specs.List.{All}
use Rattle.std.proofs.Common.{◌≡◌, ℕ, List}
use Rattle.blue_check.specs.Fitness.{IsFit}
use Rattle.blue_check.specs.Wires.{blueprint_wires}
use Rattle.stream_model.specs.declared.blueprint.Blueprint.{Blueprint}
use Rattle.stream_model.specs.Known.{HeadLists}
use Rattle.stream_io.specs.State.{SourceState, DrainState}
use Rattle.fused_net.specs.Laws.{AllKept}
use Rattle.nodes.specs.Nodes.{KeepsNode}
use Rattle.nodes.specs.declared.node.IslandNode.{IslandNode}
use Rattle.interpreter.specs.declared.parts.Seated.{Seated}
use Rattle.run_laws.specs.Runs.{IsRun}
use Rattle.run_laws.proofs.Islands.{all_run}
use Rattle.materializer.specs.Graphs.{graph_of, around_of}
use Rattle.materializer.specs.Seats.{AreSeats}
use Rattle.materializer.proofs.Fitting.{fit_joined}
use Rattle.bodies_run.specs.Islands.{seats_by_islands, AreBroughtBack}
use Rattle.lane_core.specs.Crossings.{AllJoined}
use Rattle.lane_core.specs.declared.crossing.Crossing.{Crossing}
use Rattle.dispatcher.specs.Broken.{WholeOrBroken}
use Rattle.island_body.specs.Keeping.{BodyKeeps, BodyGoes, BodyBreaks}
use Rattle.island_body.specs.Meeting.{BodiesJoined}
use Rattle.island_body.specs.declared.body.Body.{Body}
use Rattle.bodies_run.specs.Bodies.{net_of, AskedAre, AreBodiesOf, AreLastOf}
use Rattle.bodies_run.proofs.Broken.{last_settled, last_kept, last_cover, last_nets, last_began, last_lanes}
use Rattle.bodies_run.specs.Leaving.{account_in, AreLeft}
use Rattle.bodies_run.proofs.Leaving.{are_made, nodes_back, others_back, are_left, kept_many, kept_back}
use Rattle.stream_model.specs.Linear.{Book}

module _ {S D L H B : Type 0} (sources : S → SourceState) (drains : D → DrainState) (book : Book) (begun now : List (Body S D L H B)) (broke : WholeOrBroken (BodyKeeps sources drains book) BodyGoes (BodyBreaks sources drains book) begun now) (then : List (Body S D L H B))
    (l : AreLastOf sources drains book begun now then) where
  pub broken_kept : (homes : List ℕ) (count : ℕ) (b : Blueprint) (last ends broken later : List (IslandNode S D L H B)) → AreBroughtBack homes count (blueprint_wires b) (λ k. (net_of then k).nodes) last ends
      → AreBroughtBack homes count (blueprint_wires b) (λ k. (net_of now k).nodes) broken later → AllKept (KeepsNode sources drains) last broken
  broken_kept homes count b last ends broken later r s =
      kept_back (KeepsNode sources drains) homes count (blueprint_wires b) (λ (k : ℕ). (net_of then k).nodes) (λ (k : ℕ). (net_of now k).nodes) last ends broken later (last_kept sources drains book begun now broke then l) r s

  module _ (b : Blueprint) (homes : List ℕ) (count : ℕ) (nodes : List (Seated S D L H B)) (crossings : List Crossing) (m : AreBodiesOf sources drains book (graph_of b) homes count (blueprint_wires b) nodes crossings begun) where
    pub broken_back : ((last : List (IslandNode S D L H B)) × ((ends : List (IslandNode S D L H B)) × AreBroughtBack homes count (blueprint_wires b) (λ k. (net_of then k).nodes) last ends))
        × ((broken : List (IslandNode S D L H B)) × ((ends : List (IslandNode S D L H B)) × AreBroughtBack homes count (blueprint_wires b) (λ k. (net_of now k).nodes) broken ends))
    broken_back =
        let nets = last_nets sources drains book begun now broke then l (graph_of b) homes count (blueprint_wires b) nodes crossings m in (
          nodes_back homes count (blueprint_wires b) nodes m.seated (net_of then) nets,
          others_back homes count (blueprint_wires b) nodes m.seated (net_of then) nets (λ (k : ℕ). (net_of now k).nodes)
              (λ k. kept_many (KeepsNode sources drains) (net_of then k).nodes (net_of now k).nodes (last_kept sources drains book begun now broke then l k)),
        )

    module _ (all : ℕ → ℕ) where
      pub broken_left : (last ends : List (IslandNode S D L H B)) → AreBroughtBack homes count (blueprint_wires b) (λ k. (net_of then k).nodes) last ends
          → AreLeft nodes (account_in homes (blueprint_wires b) then all) last
      broken_left last ends r =
          let w = last_began sources drains book begun now broke then l (graph_of b) homes count (blueprint_wires b) nodes crossings m all in
          are_left homes count (blueprint_wires b) nodes m.seated (net_of then) (last_nets sources drains book begun now broke then l (graph_of b) homes count (blueprint_wires b) nodes crossings m) all _ m.graph.each_node w.0 w.1.0 w.1.1 last ends r

      pub broken_run : AskedAre now crossings all → AllJoined BodiesJoined now crossings → (heads : HeadLists) (taken : List (List ℕ)) (ss : List S) (ds : List D) → IsFit b heads taken → AreSeats (around_of b) 0 b.nodes.items ss ds nodes → All (λ s. (sources s).given ≡ 0) ss
          → IsRun sources drains book (graph_of b) (account_in homes (blueprint_wires b) then all)
      broken_run asked joined heads taken ss ds fit seats given =
          let w = last_began sources drains book begun now broke then l (graph_of b) homes count (blueprint_wires b) nodes crossings m all in
          all_run sources drains book (graph_of b) (net_of then) (seats_by_islands homes (blueprint_wires b)) all (last_cover sources drains book begun now broke then l (graph_of b) homes count (blueprint_wires b) nodes crossings m)
          (last_settled sources drains book begun now broke then l) (fit_joined b heads taken fit) (last_lanes sources drains book begun now broke then l (graph_of b) homes count (blueprint_wires b) nodes crossings m all asked joined)
          (are_made sources b ss ds nodes w.0 (account_in homes (blueprint_wires b) then all) seats w.1.0 given w.1.1)
