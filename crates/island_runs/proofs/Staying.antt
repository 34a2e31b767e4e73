-- Bodies that go on keep the lanes of their ends, where they lie.
use Rattle.std.proofs.Common.{◌≡◌, ◌⊎◌, inl, inr, ◌<◌, List, length, ◌∙◌, arith}
use Rattle.std.proofs.lemmas.Option.{slice_get_within}
use Rattle.stream_io.specs.State.{SourceState, DrainState}
use Rattle.blue_check.specs.declared.plan.LanePlan.{LanePlan}
use Rattle.island_parts.proofs.Wiring.{there}
use Rattle.island_body.specs.declared.input.IslandInput.{IslandInput}
use Rattle.lane_core.specs.Bodies.{EachOf}
use Rattle.lane_core.specs.Crossings.{AreCrossings}
use Rattle.lane_core.specs.declared.crossing.Crossing.{Crossing}
use Rattle.dispatcher.specs.Broken.{WholeOrBroken}
use Rattle.island_body.specs.Keeping.{BodyKeeps, BodyGoes, BodyBreaks}
use Rattle.island_body.specs.Meeting.{BodiesMayMeet}
use Rattle.island_body.specs.declared.body.Body.{Body}
use Rattle.island_plans.specs.Asked.{LieThere}
use Rattle.bodies_run.specs.Begun.{HaveSameLanes, AreAligned}
use Rattle.island_runs.proofs.Lists.{same_at, same_many}
use Rattle.stream_model.specs.Linear.{Book}

-- an end of the same wire as another is that of the same lane
same_wire : (x y : IslandInput) (l : LanePlan) → x.wire ≡ y.wire → y.wire ≡ l.wire → x.wire ≡ l.wire
same_wire x y l same old = same ∙ old

module _ {S D L H B : Type 0} where
  pub went : (begun now : List (Body S D L H B)) → EachOf BodyGoes begun now → EachOf HaveSameLanes begun now
  went begun now e = record { count = e.count; each = λ k a b old new. (e.each k a b old new).lanes }

  same_lanes : (sources : S → SourceState) (drains : D → DrainState) (book : Book) (a b : Body S D L H B) → ((BodyGoes a b) × (BodyKeeps sources drains book b)) ⊎ (BodyBreaks sources drains book a b) → HaveSameLanes a b
  same_lanes sources drains book a b (inl whole) = whole.0.lanes
  same_lanes sources drains book a b (inr broken) = broken.lanes

  pub broke : (sources : S → SourceState) (drains : D → DrainState) (book : Book) (begun now : List (Body S D L H B)) → WholeOrBroken (BodyKeeps sources drains book) BodyGoes (BodyBreaks sources drains book) begun now → EachOf HaveSameLanes begun now
  broke sources drains book begun now e = record { count = e.count; each = λ k a b old new. same_lanes sources drains book a b (e.each k a b old new) }

  module _ (begun now : List (Body S D L H B)) (e : EachOf HaveSameLanes begun now) where
    pub still_aligned : (lanes : List LanePlan) (crossings : List Crossing) → AreAligned lanes crossings begun → AreAligned lanes crossings now
    still_aligned lanes crossings old n l c b x lane crossing body inp =
        let lt : c.to < length now = slice_get_within now c.to b body in
        let a = there begun c.to (omega (arith, lt, e.count)) in
        let same = e.each c.to a.0 b a.1 body in
        let many : length b.ins.items ≡ length (a.0).ins.items = same_many (λ (y : IslandInput). y.wire) (a.0).ins.items b.ins.items same.ins_wires in
        let within : c.inp < length b.ins.items = slice_get_within b.ins.items c.inp x inp in
        let y = there (a.0).ins.items c.inp (omega (arith, within, many)) in
        same_wire x y.0 l (same_at (λ (z : IslandInput). z.wire) (a.0).ins.items b.ins.items c.inp y.0 x same.ins_wires y.1 inp) (old n l c a.0 y.0 lane crossing a.1 y.1)

    pub still_there : (crossings : List Crossing) → AreCrossings BodiesMayMeet begun crossings → LieThere now crossings
    still_there crossings meet n c at =
        let w = meet n c at in
        let from = there begun c.from w.from_there in
        let to = there begun c.to w.to_there in
        let b = there now c.to (omega (arith, w.to_there, e.count)) in
        let same = e.each c.to to.0 b.0 to.1 b.1 in
        let many : length (b.0).ins.items ≡ length (to.0).ins.items = same_many (λ (y : IslandInput). y.wire) (to.0).ins.items (b.0).ins.items same.ins_wires in
        let may = w.may from.0 to.0 from.1 to.1 in
        record { body = b.0; body_at = b.1; inp_there = omega (arith, may.inp_there, many) }
