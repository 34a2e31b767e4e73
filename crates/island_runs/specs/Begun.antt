-- The bodies of a blueprint's islands as they began, as they stand when they are taken apart, and what they go back into.
use Rattle.std.specs.Prelude.{◌≡◌, ℕ, ◌≤◌, Bool, true, false, List, [], length, map, vec_capacity}
use Rattle.std.specs.List.{All, sum_by}
use Rattle.stream_io.specs.State.{SourceState, DrainState}
use Rattle.stream_model.specs.declared.blueprint.Blueprint.{Blueprint}
use Rattle.stream_model.specs.declared.blueprint.Node.{Node}
use Rattle.blue_check.specs.Fitness.{IsFit}
use Rattle.blue_check.specs.Wires.{blueprint_wires}
use Rattle.stream_model.specs.Known.{HeadLists}
use Rattle.interpreter.specs.declared.parts.Seated.{Seated}
use Rattle.blue_check.specs.Plan.{lanes_from}
use Rattle.dispatcher.specs.Broken.{WholeOrBroken}
use Rattle.lane_core.specs.Bodies.{AllOf, EachOf}
use Rattle.lane_core.specs.Crossings.{AreCrossings, AllJoined, AtRest}
use Rattle.lane_core.specs.declared.crossing.Crossing.{Crossing}
use Rattle.island_plans.specs.Rooms.{rooms_by}
use Rattle.island_plans.specs.LaneEnds.{AreRising}
use Rattle.island_parts.specs.Room.{IsRoomForEnds}
use Rattle.island_plans.specs.Ends.{AreEndHomes}
use Rattle.island_plans.specs.Homes.{AreNumberedHomes}
use Rattle.island_body.specs.Keeping.{is_pending, BodyKeeps, BodyGoes, BodyBreaks}
use Rattle.island_body.specs.Meeting.{BodiesMayMeet, BodiesJoined}
use Rattle.island_body.specs.declared.body.Body.{Body}
use Rattle.bodies_run.specs.Bodies.{AreBodiesOf}
use Rattle.bodies_run.specs.Begun.{AreNumberedBodies, AreAligned}
use Rattle.materializer.specs.Graphs.{graph_of, around_of}
use Rattle.materializer.specs.Seats.{AreSeats, place_seat, place_room}
use Rattle.materializer.specs.Board.{IsBoard, AreAtSwitches}
use Rattle.island_runs.specs.declared.run.Remains.{Remains}
use Rattle.stream_model.specs.Linear.{Book}

module _ {S D L H B : Type 0} (sources : S → SourceState) (drains : D → DrainState) (book : Book) (b : Blueprint) (ss : List S) (ds : List D) where
  -- These bodies are those of the islands of a blueprint that breaks no rule, over these sources, of which none has handed out a byte,
  -- and these drains: they were made, and used no unit. These are the crossings of its lanes, and `r` has room for all that they leave,
  -- and the switches at which their seats are.
  pub record HaveBegun (bodies : List (Body S D L H B)) (crossings : List Crossing) (r : Remains S D) : Type 0 where
    pub heads : HeadLists
    pub taken : List (List ℕ)
    pub fit : IsFit b heads taken
    pub unread : All (λ s. (sources s).given ≡ 0) ss
    pub homes : List ℕ
    pub count : ℕ
    pub islands : AreNumberedHomes (length b.nodes.items) count (blueprint_wires b) homes
    pub nodes : List (Seated S D L H B)
    pub seats : AreSeats (around_of b) 0 b.nodes.items ss ds nodes
    pub bodies_are : AreBodiesOf sources drains book (graph_of b) homes count (blueprint_wires b) nodes crossings bodies
    pub numbered : AreNumberedBodies homes (blueprint_wires b) nodes bodies
    pub unspent : AllOf (λ (x : Body S D L H B). x.spent ≡ 0) bodies
    pub meet : AreCrossings BodiesMayMeet bodies crossings
    pub lanes_are : r.lanes.items ≡ lanes_from homes 0 (blueprint_wires b)
    pub rise : AreRising r.lanes.items
    pub many : length crossings ≡ length r.lanes.items
    pub aligned : AreAligned r.lanes.items crossings bodies
    pub homes_are : AreEndHomes homes b.nodes.items (blueprint_wires b) r.homes
    pub room : IsRoomForEnds r.homes count r.room
    pub none_ended : r.ends.items ≡ []
    pub room_to_end : count ≤ vec_capacity r.ends
    pub none_asked : r.asked.items ≡ []
    pub room_to_ask : length r.lanes.items ≤ vec_capacity r.asked
    pub none_counted : r.counts.items ≡ []
    pub room_to_count : length (blueprint_wires b) ≤ vec_capacity r.counts
    pub board_is : IsBoard (map (λ (n : Node). n.kind) b.nodes.items) r.board
    pub at_switches : AreAtSwitches (map (λ (n : Node). n.kind) b.nodes.items) r.board (map place_seat nodes)
    pub rooms : map place_room nodes ≡ rooms_by (length b.nodes.items) (blueprint_wires b)

  -- They ran, and these are they now: so many units of a budget were used, and no body has an event where it says so; else all
  -- units were used.
  pub record HaveRun (begun now : List (Body S D L H B)) (crossings : List Crossing) (r : Remains S D) (budget used : ℕ) (at_rest : Bool) : Type 0 where
    pub began : HaveBegun begun crossings r
    pub keep : AllOf (BodyKeeps sources drains book) now
    pub went : EachOf BodyGoes begun now
    pub joined : AllJoined BodiesJoined now crossings
    pub used_is : used ≡ sum_by (λ (x : Body S D L H B). x.spent) now
    pub within : used ≤ budget
    pub rest : at_rest ≡ true → AtRest is_pending BodiesJoined now crossings
    pub more : at_rest ≡ false → used ≡ budget

  -- they ran, and memory was wanting
  pub record HaveBroken (begun now : List (Body S D L H B)) (crossings : List Crossing) (r : Remains S D) : Type 0 where
    pub began : HaveBegun begun crossings r
    pub joined : AllJoined BodiesJoined now crossings
    pub broke : WholeOrBroken (BodyKeeps sources drains book) BodyGoes (BodyBreaks sources drains book) begun now
