-- What bodies that went on have spent is paid by the wires of their blueprint.
use Rattle.std.specs.Prelude.{slice_get}
use Rattle.std.specs.List.{sum_by}
use Rattle.std.proofs.Common.{◌≡◌, ℕ, ◌+◌, ◌≤◌, List, length, Some, ◌∙◌, subst, arith}
use Rattle.stream_io.specs.State.{SourceState, DrainState}
use Rattle.stream_model.specs.Graph.{Graph, Edge}
use Rattle.stream_model.specs.Shape.{count_needed}
use Rattle.fused_net.specs.Costs.{sum_below, total_cost, all_asks}
use Rattle.nodes.specs.Nodes.{node_port_state, node_law, node_asking, node_moves}
use Rattle.interpreter.specs.declared.parts.Seated.{Seated}
use Rattle.run_laws.specs.Pictures.{picture_counts}
use Rattle.run_laws.specs.Seats.{joined_account}
use Rattle.run_laws.specs.Units.{LanesCost, over_lanes}
use Rattle.run_laws.proofs.Units.{all_paid}
use Rattle.bodies_run.specs.Islands.{seats_by_islands}
use Rattle.lane_core.specs.Bodies.{AllOf, EachOf}
use Rattle.lane_core.specs.Crossings.{AllJoined}
use Rattle.lane_core.specs.declared.crossing.Crossing.{Crossing}
use Rattle.island_body.specs.Keeping.{BodyKeeps, BodyGoes}
use Rattle.island_body.specs.Meeting.{BodiesJoined}
use Rattle.island_body.specs.declared.body.Body.{Body}
use Rattle.bodies_run.specs.Bodies.{net_of, AreLanes, AskedAre, AreBodiesOf}
use Rattle.bodies_run.proofs.Costs.{cost_at, spent_over, spent_under, lanes_cost}
use Rattle.bodies_run.proofs.Lanes.{lanes_on}
use Rattle.bodies_run.proofs.Nets.{Went, went, stood, all_settled, nets_cover, nets_owned}
use Rattle.stream_model.specs.Linear.{Book}

module _ {S D L H B : Type 0} (sources : S → SourceState) (drains : D → DrainState) (book : Book) (g : Graph) (homes : List ℕ) (count : ℕ) (ws : List Edge) (nodes : List (Seated S D L H B)) (crossings : List Crossing) (begun now : List (Body S D L H B))
    (m : AreBodiesOf sources drains book g homes count ws nodes crossings begun) (goes : EachOf BodyGoes begun now) (keep : AllOf (BodyKeeps sources drains book) now) (all : ℕ → ℕ) (asked_are : AskedAre now crossings all) (all_joined : AllJoined BodiesJoined now crossings) where
  goes_on : (k : ℕ) (a b : Body S D L H B) → slice_get begun k ≡ Some a → slice_get now k ≡ Some b → Went a b
  goes_on k a b x y = went a b (goes.each k a b x y)

  lanes : AreLanes homes ws now crossings
  lanes = lanes_on homes ws begun now goes.count goes_on crossings m.lanes_are

  cost_there : LanesCost g (net_of now) (seats_by_islands homes ws) all (cost_at now)
  cost_there = lanes_cost sources drains book g homes count ws nodes m.seated m.graph.wires_are now keep crossings lanes all asked_are all_joined

  most : sum_by (λ (b : Body S D L H B). b.spent) now ≤ sum_below (λ b. total_cost (net_of now b)) count + over_lanes g (cost_at now)
  most = subst (λ (n : ℕ). sum_by (λ (b : Body S D L H B). b.spent) now ≤ sum_below (λ b. total_cost (net_of now b)) n + over_lanes g (cost_at now)) (goes.count ∙ m.begun_are.many) (spent_over sources drains book g homes count ws nodes m.seated m.graph.wires_are now keep crossings lanes)

  least : sum_below (λ b. all_asks (net_of now b)) count + over_lanes g (cost_at now) ≤ sum_by (λ (b : Body S D L H B). b.spent) now
  least = subst (λ (n : ℕ). sum_below (λ b. all_asks (net_of now b)) n + over_lanes g (cost_at now) ≤ sum_by (λ (b : Body S D L H B). b.spent) now) (goes.count ∙ m.begun_are.many) (spent_under sources drains book g homes count ws nodes m.seated m.graph.wires_are now keep crossings lanes)

  pub costs : (cost : ℕ → ℕ)
      × (LanesCost g (net_of now) (seats_by_islands homes ws) all cost × ((sum_by (λ (b : Body S D L H B). b.spent) now ≤ sum_below (λ b. total_cost (net_of now b)) count + over_lanes g cost) × (sum_below (λ b. all_asks (net_of now b)) count + over_lanes g cost ≤ sum_by (λ (b : Body S D L H B). b.spent) now)))
  costs = (cost_at now, (cost_there, (most, least)))

  pub paid : sum_by (λ (b : Body S D L H B). b.spent) now + length g.wires ≤ count_needed g (picture_counts (joined_account (net_of now) (seats_by_islands homes ws) all) g)
  paid =
      let nets = all_paid node_port_state (node_law sources drains book) node_asking node_moves g (net_of now) (seats_by_islands homes ws) all (cost_at now) count (nets_cover sources drains book g homes count ws nodes crossings begun m now goes.count goes_on)
      (all_settled sources drains book now (λ k b at. stood sources drains book b (keep k b at))) (nets_owned sources drains book g homes count ws nodes crossings begun m now goes.count goes_on) cost_there in
      let a = most in
      omega (arith, nets, a)
