-- The bodies that were made of islands and of the ends of all lanes.
use Rattle.std.specs.Prelude.{slice_get}
use Rattle.std.proofs.Common.{◌≡◌, ℕ, ◌<◌, List, length, map, Some, sym, ap, ◌∙◌, subst, arith}
use Rattle.std.proofs.lemmas.Option.{slice_get_within}
use Rattle.stream_io.specs.State.{SourceState, DrainState}
use Rattle.stream_model.specs.declared.blueprint.Blueprint.{Blueprint}
use Rattle.blue_check.specs.Wires.{blueprint_wires}
use Rattle.interpreter.specs.Island.{Kept}
use Rattle.interpreter.specs.Parts.{wire_number}
use Rattle.interpreter.specs.Picks.{place_number}
use Rattle.blue_check.specs.declared.plan.LanePlan.{LanePlan}
use Rattle.scatter.specs.Shares.{items_in, items_at}
use Rattle.island_parts.proofs.Wiring.{there}
use Rattle.island_body.specs.declared.input.IslandInput.{IslandInput}
use Rattle.island_body.specs.declared.output.OutputBoundary.{OutputBoundary}
use Rattle.lane_core.specs.Bodies.{AllOf}
use Rattle.lane_core.specs.Crossings.{AreCrossings}
use Rattle.lane_core.specs.declared.crossing.Crossing.{Crossing}
use Rattle.island_plans.specs.LaneEnds.{AreAllEnds, LaneJoins}
use Rattle.island_plans.specs.declared.lane_ends.AllEnds.{AllEnds}
use Rattle.island_parts.specs.Starts.{AllStarted}
use Rattle.island_body.specs.Meeting.{BodiesMayMeet}
use Rattle.island_body.specs.declared.body.Body.{Body}
use Rattle.bodies_run.specs.Bodies.{AreBodiesOf}
use Rattle.materializer.specs.Graphs.{graph_of}
use Rattle.island_plans.specs.Plans.{IsFilled}
use Rattle.island_plans.specs.declared.plans.Filled.{Filled}
use Rattle.island_runs.specs.Made.{AreMadeOf}
use Rattle.island_runs.specs.Sized.{HasFewLinks}
use Rattle.island_runs.proofs.Filling.{seated, graph_is}
use Rattle.island_runs.proofs.Making.{begun, lanes}
use Rattle.island_plans.specs.Making.{IsBodyOf, AreAllBodies}
use Rattle.bodies_run.specs.Begun.{AreNumberedBodies, AreAligned}
use Rattle.island_runs.proofs.Lists.{same_at, same_many, list_there}
use Rattle.island_runs.proofs.Starting.{is_started, its_ends, started_many}
use Rattle.stream_model.specs.Linear.{Book}

module _ {S D L H B : Type 0} (sources : S → SourceState) (drains : D → DrainState) (book : Book) (plans : List LanePlan) (count : ℕ) (started : List (Kept S D L H B)) (many : length started ≡ count) (e : AllEnds) (ends : AreAllEnds plans count e)
    (bodies : List (Body S D L H B)) (made : AreAllBodies sources drains book started e.ins.items e.outs.items bodies) where
  -- what the body at a place was made of
  pub record IsMade (k : ℕ) (b : Body S D L H B) : Type 0 where
    pub island : Kept S D L H B
    pub at : slice_get started k ≡ Some island
    pub is : IsBodyOf sources drains book island (items_at e.ins.items k) (items_at e.outs.items k) b

  pub is_made : (k : ℕ) (b : Body S D L H B) → slice_get bodies k ≡ Some b → IsMade k b
  is_made k b at =
      let lt : k < length bodies = slice_get_within bodies k b at in
      let i = there started k (omega (arith, lt, made.many)) in
      let x = there e.ins.items k (omega (arith, lt, made.many, many, ends.ins_many)) in
      let o = there e.outs.items k (omega (arith, lt, made.many, many, ends.outs_many)) in
      let own = made.each k i.0 x.0 o.0 b i.1 x.1 o.1 at in
      let taking = subst (λ (l : List IslandInput). IsBodyOf sources drains book i.0 l (o.0).items b) (sym (ap items_in x.1)) own in
      record { island = i.0; at = i.1; is = subst (λ (l : List OutputBoundary). IsBodyOf sources drains book i.0 (items_at e.ins.items k) l b) (sym (ap items_in o.1)) taking }

  pub unspent : AllOf (λ (b : Body S D L H B). b.spent ≡ 0) bodies
  unspent k b at = (is_made k b at).is.unspent

  pub aligned : AreAligned plans e.crossings.items bodies
  aligned n l c b x lane crossing body inp =
      let j : LaneJoins e l c = ends.each n l c lane crossing in
      let m = is_made c.to b body in
      same_at (λ (y : IslandInput). y.wire) (items_at e.ins.items c.to) b.ins.items c.inp j.inp x m.is.lanes.ins_wires j.inp_at inp ∙ j.ends.in_wire

  -- the two ends at a crossing are of one lane
  may_meet : (c : Crossing) (l : LanePlan) → LaneJoins e l c → (a b : Body S D L H B) → slice_get bodies c.from ≡ Some a → slice_get bodies c.to ≡ Some b → BodiesMayMeet a c.out b c.inp
  may_meet c l j a b from to =
      let m = is_made c.from a from in
      let n = is_made c.to b to in
      let out : c.out < length (items_at e.outs.items c.from) = slice_get_within (items_at e.outs.items c.from) c.out j.out j.out_at in
      let inp : c.inp < length (items_at e.ins.items c.to) = slice_get_within (items_at e.ins.items c.to) c.inp j.inp j.inp_at in
      let outs : length a.outs.items ≡ length (items_at e.outs.items c.from) = same_many (λ (y : OutputBoundary). y.wire) (items_at e.outs.items c.from) a.outs.items m.is.lanes.outs_wires in
      let ins : length b.ins.items ≡ length (items_at e.ins.items c.to) = same_many (λ (y : IslandInput). y.wire) (items_at e.ins.items c.to) b.ins.items n.is.lanes.ins_wires in
      record {
        out_there = omega (arith, out, outs);
        inp_there = omega (arith, inp, ins);
        one = λ o x at here. (m.is.lanes.outs_same c.out j.out o j.out_at at).0 ∙ (j.ends.one ∙ sym (n.is.lanes.ins_same c.inp j.inp x j.inp_at here).0);
      }

  pub meet : AreCrossings BodiesMayMeet bodies e.crossings.items
  meet n c at =
      let lt : n < length e.crossings.items = slice_get_within e.crossings.items n c at in
      let l = there plans n (omega (arith, lt, ends.many)) in
      let j : LaneJoins e l.0 c = ends.each n l.0 c l.1 at in
      let from = list_there e.outs.items c.from c.out j.out j.out_at in
      let to = list_there e.ins.items c.to c.inp j.inp j.inp_at in
      record { from_there = omega (arith, from, ends.outs_many, many, made.many); to_there = omega (arith, to, ends.ins_many, many, made.many); may = may_meet c l.0 j }

module _ {S D L H B : Type 0} (sources : S → SourceState) (drains : D → DrainState) (book : Book) (b : Blueprint) (ss : List S) (ds : List D) (f : Filled S D L H B) (filled : IsFilled b ss ds f) (started : List (Kept S D L H B)) (all : AllStarted sources drains book f.islands.items started)
    (e : AllEnds) (ends : AreAllEnds f.lanes.items f.count e) (bodies : List (Body S D L H B)) (made : AreAllBodies sources drains book started e.ins.items e.outs.items bodies) where
  abbrev many : length started ≡ f.count
  many = started_many sources drains book b ss ds f filled started all

  are_made : AreMadeOf sources drains book f.homes.items (blueprint_wires b) filled.nodes f.count e bodies
  are_made = record {
    many = made.many ∙ many;
    each = λ k x at.
        let m = is_made sources drains book f.lanes.items f.count started many e ends bodies made k x at in
        let s = is_started sources drains book b ss ds f filled started all k m.island m.at in
        record { parts = s.parts; island = m.island; parts_are = s.parts_are; started = s.started_is; keeps = m.is.keeps; goes = m.is.goes; lanes = m.is.lanes };
  }

  pub bodies_are : HasFewLinks b → AreBodiesOf sources drains book (graph_of b) f.homes.items f.count (blueprint_wires b) filled.nodes e.crossings.items bodies
  bodies_are few =
      let own = its_ends sources drains book b ss ds f filled started all e ends in
      let seats = seated b ss ds f filled few in
      record {
        seated = seats;
        graph = graph_is b ss ds f filled;
        begun_are = begun sources drains book f.homes.items f.count (blueprint_wires b) filled.nodes e bodies seats own are_made;
        lanes_are = lanes sources drains book f.homes.items f.count (blueprint_wires b) filled.nodes e bodies seats own are_made;
      }

  pub numbered : AreNumberedBodies f.homes.items (blueprint_wires b) filled.nodes bodies
  numbered k x at =
      let m = are_made.each k x at in
      record {
        wires = m.goes.numbers ∙ (m.started.numbers ∙ ap (map wire_number) m.parts_are.links_are);
        places = m.goes.places ∙ (m.started.places ∙ ap (map place_number) m.parts_are.nodes_are);
      }
