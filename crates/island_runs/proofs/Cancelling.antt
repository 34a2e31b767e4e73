-- A cancel that came out of a lane had gone into it.
use Rattle.std.specs.Prelude.{slice_get, Option}
use Rattle.std.proofs.Common.{◌≡◌, ◌≤◌, ℕ, List, Some, refl, sym, ap, ◌∙◌, subst, arith}
use Rattle.stream_io.specs.State.{SourceState, DrainState}
use Rattle.stream_model.specs.Graph.{Edge}
use Rattle.stream_model.specs.Linear.{Book}
use Rattle.stream_model.specs.declared.blueprint.Blueprint.{Blueprint}
use Rattle.blue_check.specs.Wires.{blueprint_wires}
use Rattle.port_core.specs.Cell.{WireState}
use Rattle.port_core.specs.declared.view.InView.TheVariants as inlet
use Rattle.port_core.specs.declared.view.OutView.TheVariants as outlet
use Rattle.fused_net.specs.Net.{wire_at}
use Rattle.interpreter.specs.Boundary.{cell_in, cell_out}
use Rattle.interpreter.specs.declared.parts.Seated.{Seated}
use Rattle.lane_core.specs.Bodies.{AllOf, EachOf}
use Rattle.lane_core.specs.Boundary.{state}
use Rattle.lane_core.specs.Crossings.{AllJoined}
use Rattle.lane_core.specs.Ends.{saw_cancel, has_cancelled}
use Rattle.lane_core.specs.Flow.{cancelled_by}
use Rattle.lane_core.specs.declared.crossing.Crossing.{Crossing}
use Rattle.lane_core.specs.declared.state.State.{State}
use Rattle.lane_core.specs.declared.state.State.TheVariants.{Flowing, Closed, Cancelled}
use Rattle.island_body.specs.Ends.{InputEndStands, OutputEndStands}
use Rattle.island_body.specs.Keeping.{BodyKeeps, BodyGoes}
use Rattle.island_body.specs.Meeting.{BodiesJoined}
use Rattle.island_body.specs.declared.body.Body.{Body}
use Rattle.materializer.specs.Graphs.{graph_of}
use Rattle.bodies_run.specs.Bodies.{net_in, net_of, AreLanes, AreBodiesOf, IsCrossingOf}
use Rattle.bodies_run.specs.Islands.{seats_by_islands, HasWays}
use Rattle.bodies_run.specs.Leaving.{account_in}
use Rattle.bodies_run.proofs.Boundaries.{boundary_keeps}
use Rattle.bodies_run.proofs.Lanes.{lanes_on}
use Rattle.bodies_run.proofs.Leading.{has_ways}
use Rattle.bodies_run.proofs.Nets.{went}
use Rattle.island_runs.specs.Leaving.{CancelsCross}

-- an input boundary is cancelled where its lane was
cancelled_state : (s : State) → 1 ≤ cancelled_by s → s ≡ Cancelled
cancelled_state Flowing h = absurd (omega (arith, h))
cancelled_state Closed h = absurd (omega (arith, h))
cancelled_state Cancelled h = refl

module _ {S D L H B : Type 0} (sources : S → SourceState) (drains : D → DrainState) (book : Book) (b : Blueprint) (homes : List ℕ) (count : ℕ) (nodes : List (Seated S D L H B)) (crossings : List Crossing) (begun now : List (Body S D L H B))
    (m : AreBodiesOf sources drains book (graph_of b) homes count (blueprint_wires b) nodes crossings begun) (goes : EachOf BodyGoes begun now) (keep : AllOf (BodyKeeps sources drains book) now) (joined : AllJoined BodiesJoined now crossings) (all : ℕ → ℕ) where
  abbrev ws : List Edge
  ws = blueprint_wires b

  lanes : AreLanes homes ws now crossings
  lanes = lanes_on homes ws begun now goes.count (λ k x y ex ey. went x y (goes.each k x y ex ey)) crossings m.lanes_are

  -- ---- one lane, and where its ends lie

  module _ (u : ℕ) (v : Edge) (size : ℕ) (e : slice_get ws u ≡ Some v) (s : v.lane ≡ Some size) (at : ℕ) (c : Crossing) (there : slice_get crossings at ≡ Some c) (x : IsCrossingOf homes ws now u v size c) where
    abbrev near_at : ℕ
    near_at = ((seats_by_islands homes ws).near u).at

    abbrev far_at : ℕ
    far_at = ((seats_by_islands homes ws).far u).at

    ways : HasWays homes ws nodes u v
    ways = has_ways homes count ws nodes m.seated u v size e s

    near_cell : (account_in homes ws now all).near u ≡ cell_out x.from.island u
    near_cell =
        let island : ((seats_by_islands homes ws).near u).island ≡ c.from = ways.out_island ∙ sym x.from_is in
        ap (λ (k : ℕ). wire_at (net_of now k) near_at) island ∙ (ap (λ (o : Option (Body S D L H B)). wire_at (net_in o) near_at) x.from_at ∙ ap (λ (q : ℕ). wire_at x.from.island.net q) x.near_is)

    far_cell : (account_in homes ws now all).far u ≡ cell_in x.to.island u
    far_cell =
        let island : ((seats_by_islands homes ws).far u).island ≡ c.to = ways.in_island ∙ sym x.to_is in
        ap (λ (k : ℕ). wire_at (net_of now k) far_at) island ∙ (ap (λ (o : Option (Body S D L H B)). wire_at (net_in o) far_at) x.to_at ∙ ap (λ (q : ℕ). wire_at x.to.island.net q) x.far_is)

    out_stands : OutputEndStands x.from.island x.out
    out_stands = (keep c.from x.from x.from_at).stands.stand.outs_stand c.out x.out x.out_at

    in_stands : InputEndStands x.to.island x.inp
    in_stands = (keep c.to x.to x.to_at).stands.stand.ins_stand c.inp x.inp x.inp_at

    -- the output end saw the cancel
    saw : (cell_out x.from.island u).wire.inp ≡ inlet.Cancelled → saw_cancel x.out.lane ≡ 1
    saw left = out_stands.serves.left (subst (λ (q : ℕ). (cell_out x.from.island q).wire.inp ≡ inlet.Cancelled) (sym x.out_wire) left)

    -- so the input end had cancelled
    had : saw_cancel x.out.lane ≡ 1 → state x.inp.boundary ≡ Cancelled
    had one =
        let w = joined at c there in
        let history = (w.1 x.from x.to x.from_at x.to_at).history x.out x.inp x.out_at x.inp_at in
        let few : saw_cancel x.out.lane ≤ has_cancelled x.inp.boundary.lane = history.cancel in
        let is : has_cancelled x.inp.boundary.lane ≡ cancelled_by (state x.inp.boundary) = (boundary_keeps x.inp.boundary).cancelled in
        cancelled_state (state x.inp.boundary) (omega (arith, one, few, is))

    -- as the stage behind it was
    crossed : (cell_out x.from.island u).wire.inp ≡ inlet.Cancelled → (cell_in x.to.island u).wire.out ≡ outlet.Cancelled
    crossed left = subst (λ (q : ℕ). (cell_in x.to.island q).wire.out ≡ outlet.Cancelled) x.inp_wire (in_stands.feeds.cancelled (had (saw left)))

    cancels_here : ((account_in homes ws now all).near u).wire.inp ≡ inlet.Cancelled → ((account_in homes ws now all).far u).wire.out ≡ outlet.Cancelled
    cancels_here left =
        subst (λ (y : WireState). y.wire.out ≡ outlet.Cancelled) (sym far_cell) (crossed (subst (λ (y : WireState). y.wire.inp ≡ inlet.Cancelled) near_cell left))

  pub cancels_cross : CancelsCross (graph_of b) (account_in homes (blueprint_wires b) now all)
  cancels_cross = λ u v size e s left. let x = lanes.each u v size e s in cancels_here u v size e s x.0 x.1.0 x.1.1.0 x.1.1.1 left
