-- The ends of lanes by the wires that the lanes are, and the links of their islands at which they come in and go out.
use Rattle.std.specs.Prelude.{slice_get, slice_index}
use Rattle.std.proofs.Common.{◌≡◌, ℕ, ◌+◌, ◌<◌, true, false, List, length, Some, sym, ap, ◌∙◌, subst, arith}
use Rattle.std.proofs.lemmas.Option.{slice_get_within}
use Rattle.stream_io.specs.State.{SourceState, DrainState}
use Rattle.stream_model.specs.Linear.{Book}
use Rattle.stream_model.specs.Graph.{Edge}
use Rattle.fused_net.specs.Net.{wire_at}
use Rattle.interpreter.specs.Boundary.{Enters, Leaves, BeginsOut, way_in, way_out}
use Rattle.interpreter.specs.Island.{Kept}
use Rattle.interpreter.specs.Parts.{AreParts}
use Rattle.interpreter.specs.Ways.{comes_in, goes_out}
use Rattle.interpreter.specs.declared.parts.Link.{Link}
use Rattle.interpreter.specs.declared.parts.Parts.{Parts}
use Rattle.interpreter.specs.declared.parts.Seated.{Seated}
use Rattle.blue_check.specs.Plan.{lanes_from}
use Rattle.blue_check.specs.declared.plan.LanePlan.{LanePlan}
use Rattle.scatter.specs.Shares.{items_at}
use Rattle.island_parts.specs.Whole.{lanes_in, whole_links, own_links}
use Rattle.island_parts.proofs.Cutting.{lane_there, lanes_count, lane_plan, lane_get}
use Rattle.island_parts.proofs.Wiring.{there}
use Rattle.bodies_run.specs.Islands.{place_homes, seats_by_islands, seats_in, links_in, AreSeated, HasWays}
use Rattle.bodies_run.proofs.Leading.{has_ways, apart}
use Rattle.bodies_run.proofs.Standing.{size, parts}
use Rattle.island_body.specs.declared.input.IslandInput.{IslandInput}
use Rattle.island_body.specs.declared.output.OutputBoundary.{OutputBoundary}
use Rattle.lane_core.specs.declared.crossing.Crossing.{Crossing}
use Rattle.island_plans.specs.LaneEnds.{AreEnds, AreAllEnds}
use Rattle.island_plans.specs.declared.lane_ends.AllEnds.{AllEnds}
use Rattle.island_parts.specs.Starts.{HasStarted}
use Rattle.bodies_run.specs.Bodies.{ComesInto, GoesOutOf}
use Rattle.island_runs.proofs.Stages.{some_same, ComesAt, GoesAt}

-- ---- lanes by their wires

-- this is the lane of its wire
pub record IsPlanOf (homes : List ℕ) (ws : List Edge) (l : LanePlan) : Type 0 where
  pub wire : Edge
  pub is : slice_get ws l.wire ≡ Some wire
  pub lane : wire.lane ≡ Some l.size
  pub from : l.from ≡ slice_index homes wire.from
  pub to : l.to ≡ slice_index homes wire.to

pub plan_of : (homes : List ℕ) (ws : List Edge) (j : ℕ) (l : LanePlan) → slice_get (lanes_from homes 0 ws) j ≡ Some l → IsPlanOf homes ws l
plan_of homes ws j l at =
    let lt : j < length (lanes_from homes 0 ws) = slice_get_within (lanes_from homes 0 ws) j l at in
    let many : length (lanes_from homes 0 ws) ≡ lanes_in ws = lanes_count homes 0 ws in
    let x = lane_there ws j (omega (arith, lt, many)) in
    let same : lane_plan homes (0 + x.at) x.wire x.size ≡ l = some_same (lane_plan homes (0 + x.at) x.wire x.size) l (sym (lane_get homes 0 ws x.at x.wire x.size x.is x.lane) ∙ (ap (slice_get (lanes_from homes 0 ws)) x.number ∙ at)) in
    let number : l.wire ≡ 0 + x.at = ap (λ (p : LanePlan). p.wire) (sym same) in
    let here : l.wire ≡ x.at = omega (arith, number) in
    record {
      wire = x.wire;
      is = ap (slice_get ws) here ∙ x.is;
      lane = x.lane ∙ ap (λ (p : LanePlan). Some p.size) same;
      from = ap (λ (p : LanePlan). p.from) (sym same);
      to = ap (λ (p : LanePlan). p.to) (sym same);
    }

-- an end in the list of an island is one of a lane that comes into it, or goes out of it, and was made for that lane
pub record IsInEnd (homes : List ℕ) (ws : List Edge) (k : ℕ) (x : IslandInput) : Type 0 where
  pub comes : ComesInto homes ws k x.wire
  pub plan : LanePlan
  pub out : OutputBoundary
  pub ends : AreEnds plan out x

pub record IsOutEnd (homes : List ℕ) (ws : List Edge) (k : ℕ) (o : OutputBoundary) : Type 0 where
  pub goes : GoesOutOf homes ws k o.wire
  pub plan : LanePlan
  pub inp : IslandInput
  pub ends : AreEnds plan o inp

module _ (homes : List ℕ) (ws : List Edge) (count : ℕ) (e : AllEnds) (a : AreAllEnds (lanes_from homes 0 ws) count e) where
  pub in_end : (k p : ℕ) (x : IslandInput) → slice_get (items_at e.ins.items k) p ≡ Some x → IsInEnd homes ws k x
  in_end k p x at =
      let w = a.ins_lie.each k p x at in
      let c : Crossing = w.crossing in
      let lt : w.lane < length e.crossings.items = slice_get_within e.crossings.items w.lane w.crossing w.there in
      let l = there (lanes_from homes 0 ws) w.lane (omega (arith, lt, a.many)) in
      let j = a.each w.lane l.0 w.crossing l.1 w.there in
      let island : c.to ≡ k = w.island_is in
      let place : c.inp ≡ p = w.place_is in
      let same : j.inp ≡ x = some_same j.inp x (sym j.inp_at ∙ (ap (λ (z : ℕ). slice_get (items_at e.ins.items z) c.inp) island ∙ (ap (slice_get (items_at e.ins.items k)) place ∙ at))) in
      let ends : AreEnds l.0 j.out x = subst (AreEnds l.0 j.out) same j.ends in
      let plan = plan_of homes ws w.lane l.0 l.1 in
      record {
        comes = record { wire = plan.wire; size = (l.0).size; is = ap (slice_get ws) ends.in_wire ∙ plan.is; lane = plan.lane; home = sym plan.to ∙ (sym j.to_is ∙ island) };
        plan = l.0;
        out = j.out;
        ends = ends;
      }

  pub out_end : (k p : ℕ) (o : OutputBoundary) → slice_get (items_at e.outs.items k) p ≡ Some o → IsOutEnd homes ws k o
  out_end k p o at =
      let w = a.outs_lie.each k p o at in
      let c : Crossing = w.crossing in
      let lt : w.lane < length e.crossings.items = slice_get_within e.crossings.items w.lane w.crossing w.there in
      let l = there (lanes_from homes 0 ws) w.lane (omega (arith, lt, a.many)) in
      let j = a.each w.lane l.0 w.crossing l.1 w.there in
      let island : c.from ≡ k = w.island_is in
      let place : c.out ≡ p = w.place_is in
      let same : j.out ≡ o = some_same j.out o (sym j.out_at ∙ (ap (λ (z : ℕ). slice_get (items_at e.outs.items z) c.out) island ∙ (ap (slice_get (items_at e.outs.items k)) place ∙ at))) in
      let ends : AreEnds l.0 o j.inp = subst (λ (z : OutputBoundary). AreEnds l.0 z j.inp) same j.ends in
      let plan = plan_of homes ws w.lane l.0 l.1 in
      record {
        goes = record { wire = plan.wire; size = (l.0).size; is = ap (slice_get ws) ends.out_wire ∙ plan.is; lane = plan.lane; home = sym plan.from ∙ (sym j.from_is ∙ island) };
        plan = l.0;
        inp = j.inp;
        ends = ends;
      }

-- ---- where they come in and go out

module _ {S D L H B : Type 0} (sources : S → SourceState) (drains : D → DrainState) (book : Book) (homes : List ℕ) (count : ℕ) (ws : List Edge) (nodes : List (Seated S D L H B)) (k : ℕ) (x : Parts S D L H B) (i : Kept S D L H B) (a : AreSeated homes count ws nodes)
    (nodes_are : x.nodes.items ≡ seats_in homes ws nodes k) (links_are : x.links.items ≡ links_in homes ws nodes k) (h : HasStarted sources drains book x i) where
  pub its_parts : AreParts x.nodes.items x.links.items
  its_parts =
      let here : AreParts (seats_in homes ws nodes k) (links_in homes ws nodes k) = subst (λ (n : ℕ). AreParts (seats_in homes ws nodes k) (own_links (place_homes homes ws) (whole_links n ws) k)) (sym (size homes count ws nodes a)) (parts homes count ws nodes a k) in
      let links : AreParts (seats_in homes ws nodes k) x.links.items = subst (AreParts (seats_in homes ws nodes k)) (sym links_are) here in
      subst (λ (ps : List (Seated S D L H B)). AreParts ps x.links.items) (sym nodes_are) links

  pub comes_at : (u : ℕ) → ComesInto homes ws k u → ComesAt x.nodes.items x.links.items i u ((seats_by_islands homes ws).far u).at
  comes_at u c =
      let w : HasWays homes ws nodes u c.wire = has_ways homes count ws nodes a u c.wire c.size c.is c.lane in
      let o = w.inp in
      let q : ℕ = ((seats_by_islands homes ws).far u).at in
      let island : ((seats_by_islands homes ws).far u).island ≡ k = w.in_island ∙ c.home in
      let at : slice_get x.links.items q ≡ Some o.link = ap (λ (z : List Link). slice_get z q) links_are ∙ (ap (λ (z : ℕ). slice_get (links_in homes ws nodes z) q) (sym island) ∙ o.at) in
      let comes : comes_in x.nodes.items o.link.from ≡ true = ap (λ (z : List (Seated S D L H B)). comes_in z o.link.from) nodes_are ∙ (ap (λ (z : ℕ). comes_in (seats_in homes ws nodes z) o.link.from) (sym island) ∙ o.comes) in
      let by = h.enters q o.link at comes in
      let way : way_in i u ≡ q = ap (way_in i) (sym o.wire) ∙ by.1 in
      record {
        link = o.link;
        at = at;
        number = o.wire;
        comes = comes;
        enters = subst (Enters i) o.wire by.0;
        way = way;
        begins = ap (λ (z : ℕ). (wire_at i.net z).wire.sent) way ∙ h.begins_in q o.link at comes;
      }

  pub goes_at : (u : ℕ) → GoesOutOf homes ws k u → GoesAt x.nodes.items x.links.items i u ((seats_by_islands homes ws).near u).at
  goes_at u c =
      let w : HasWays homes ws nodes u c.wire = has_ways homes count ws nodes a u c.wire c.size c.is c.lane in
      let o = w.out in
      let q : ℕ = ((seats_by_islands homes ws).near u).at in
      let island : ((seats_by_islands homes ws).near u).island ≡ k = w.out_island ∙ c.home in
      let at : slice_get x.links.items q ≡ Some o.link = ap (λ (z : List Link). slice_get z q) links_are ∙ (ap (λ (z : ℕ). slice_get (links_in homes ws nodes z) q) (sym island) ∙ o.at) in
      let goes : goes_out x.nodes.items o.link.to ≡ true = ap (λ (z : List (Seated S D L H B)). goes_out z o.link.to) nodes_are ∙ (ap (λ (z : ℕ). goes_out (seats_in homes ws nodes z) o.link.to) (sym island) ∙ o.goes) in
      let by = h.leaves q o.link at goes in
      let way : way_out i u ≡ q = ap (way_out i) (sym o.wire) ∙ by.1 in
      record {
        link = o.link;
        at = at;
        number = o.wire;
        goes = goes;
        leaves = subst (Leaves i) o.wire by.0;
        way = way;
        begins = subst (BeginsOut i.net) (sym way) (h.begins_out q o.link at goes);
      }

  -- a lane that comes in does not go out at the same link
  pub not_out : (q : ℕ) (l : Link) → slice_get x.links.items q ≡ Some l → comes_in x.nodes.items l.from ≡ true → goes_out x.nodes.items l.to ≡ false
  not_out q l at comes =
      let there_at : slice_get (links_in homes ws nodes k) q ≡ Some l = ap (λ (z : List Link). slice_get z q) (sym links_are) ∙ at in
      let there_comes : comes_in (seats_in homes ws nodes k) l.from ≡ true = ap (λ (z : List (Seated S D L H B)). comes_in z l.from) (sym nodes_are) ∙ comes in
      ap (λ (z : List (Seated S D L H B)). goes_out z l.to) nodes_are ∙ apart homes count ws nodes a k q l there_at there_comes
