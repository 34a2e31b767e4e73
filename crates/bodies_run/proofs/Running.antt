-- The bodies of a blueprint's islands, between turns, leave a run of it.
use Rattle.std.specs.Prelude.{slice_get}
use Rattle.std.specs.List.{All}
use Rattle.std.proofs.Common.{◌≡◌, ℕ, List, Some}
use Rattle.blue_check.specs.Fitness.{IsFit}
use Rattle.blue_check.specs.Wires.{blueprint_wires}
use Rattle.stream_model.specs.declared.blueprint.Blueprint.{Blueprint}
use Rattle.stream_model.specs.Known.{HeadLists}
use Rattle.stream_io.specs.State.{SourceState, DrainState}
use Rattle.nodes.specs.declared.node.IslandNode.{IslandNode}
use Rattle.interpreter.specs.declared.parts.Seated.{Seated}
use Rattle.run_laws.specs.Account.{IsStill}
use Rattle.run_laws.specs.Runs.{IsRun}
use Rattle.run_laws.proofs.Islands.{all_run, all_rest}
use Rattle.materializer.specs.Graphs.{graph_of, around_of}
use Rattle.materializer.specs.Seats.{AreSeats}
use Rattle.materializer.proofs.Fitting.{fit_joined}
use Rattle.bodies_run.specs.Islands.{seats_by_islands, AreBroughtBack}
use Rattle.lane_core.specs.Bodies.{AllOf, EachOf}
use Rattle.lane_core.specs.Crossings.{AllJoined, AtRest}
use Rattle.lane_core.specs.declared.crossing.Crossing.{Crossing}
use Rattle.island_body.specs.Keeping.{is_pending, BodyKeeps, BodyGoes}
use Rattle.island_body.specs.Meeting.{BodiesJoined}
use Rattle.island_body.specs.declared.body.Body.{Body}
use Rattle.bodies_run.specs.Bodies.{net_of, AreLanes, AllSettled, AskedAre, AreBodiesOf}
use Rattle.bodies_run.proofs.Lanes.{lanes_on, lanes_keep, lanes_rest, no_queues}
use Rattle.bodies_run.proofs.Nets.{Went, Stood, went, stood, all_settled, now_nets, nets_began, nets_cover}
use Rattle.bodies_run.specs.Leaving.{account_in, AreLeft}
use Rattle.bodies_run.proofs.Leaving.{are_made, nodes_back, are_left}
use Rattle.stream_model.specs.Linear.{Book}

module _ {S D L H B : Type 0} (sources : S → SourceState) (drains : D → DrainState) (book : Book) (b : Blueprint) (homes : List ℕ) (count : ℕ) (nodes : List (Seated S D L H B)) (crossings : List Crossing) (begun now : List (Body S D L H B))
    (m : AreBodiesOf sources drains book (graph_of b) homes count (blueprint_wires b) nodes crossings begun) (goes : EachOf BodyGoes begun now) (keep : AllOf (BodyKeeps sources drains book) now) where
  goes_on : (k : ℕ) (x y : Body S D L H B) → slice_get begun k ≡ Some x → slice_get now k ≡ Some y → Went x y
  goes_on k x y ex ey = went x y (goes.each k x y ex ey)

  stands : (k : ℕ) (x : Body S D L H B) → slice_get now k ≡ Some x → Stood sources drains book x
  stands k x at = stood sources drains book x (keep k x at)

  settled : AllSettled sources drains book now
  settled = all_settled sources drains book now stands

  lanes : AreLanes homes (blueprint_wires b) now crossings
  lanes = lanes_on homes (blueprint_wires b) begun now goes.count goes_on crossings m.lanes_are

  pub bodies_back : (last : List (IslandNode S D L H B)) × ((ends : List (IslandNode S D L H B)) × AreBroughtBack homes count (blueprint_wires b) (λ k. (net_of now k).nodes) last ends)
  bodies_back = nodes_back homes count (blueprint_wires b) nodes m.seated (net_of now) (now_nets sources drains book (graph_of b) homes count (blueprint_wires b) nodes crossings begun m now goes.count goes_on)

  module _ (all : ℕ → ℕ) where
    pub bodies_left : (last ends : List (IslandNode S D L H B)) → AreBroughtBack homes count (blueprint_wires b) (λ k. (net_of now k).nodes) last ends → AreLeft nodes (account_in homes (blueprint_wires b) now all) last
    bodies_left last ends r =
        let w = nets_began sources drains book (graph_of b) homes count (blueprint_wires b) nodes crossings begun m now goes.count goes_on all in
        are_left homes count (blueprint_wires b) nodes m.seated (net_of now) (now_nets sources drains book (graph_of b) homes count (blueprint_wires b) nodes crossings begun m now goes.count goes_on) all _ m.graph.each_node w.0 w.1.0 w.1.1 last ends r

    pub bodies_still : AskedAre now crossings all → AtRest is_pending BodiesJoined now crossings → IsStill (graph_of b) (account_in homes (blueprint_wires b) now all)
    bodies_still asked rest =
        all_rest sources drains book (graph_of b) (net_of now) (seats_by_islands homes (blueprint_wires b)) all (nets_cover sources drains book (graph_of b) homes count (blueprint_wires b) nodes crossings begun m now goes.count goes_on) settled (no_queues now rest.rings)
        (lanes_rest sources drains book (graph_of b) homes count (blueprint_wires b) nodes m.seated m.graph.wires_are now stands crossings lanes all asked keep rest)

    pub bodies_run : AskedAre now crossings all → AllJoined BodiesJoined now crossings → (heads : HeadLists) (taken : List (List ℕ)) (ss : List S) (ds : List D) → IsFit b heads taken → AreSeats (around_of b) 0 b.nodes.items ss ds nodes → All (λ s. (sources s).given ≡ 0) ss
        → IsRun sources drains book (graph_of b) (account_in homes (blueprint_wires b) now all)
    bodies_run asked joined heads taken ss ds fit seats given =
        let w = nets_began sources drains book (graph_of b) homes count (blueprint_wires b) nodes crossings begun m now goes.count goes_on all in
        all_run sources drains book (graph_of b) (net_of now) (seats_by_islands homes (blueprint_wires b)) all (nets_cover sources drains book (graph_of b) homes count (blueprint_wires b) nodes crossings begun m now goes.count goes_on) settled (fit_joined b heads taken fit)
        (lanes_keep sources drains book (graph_of b) homes count (blueprint_wires b) nodes m.seated m.graph.wires_are now stands crossings lanes all asked joined)
        (are_made sources b ss ds nodes w.0 (account_in homes (blueprint_wires b) now all) seats w.1.0 given w.1.1)
