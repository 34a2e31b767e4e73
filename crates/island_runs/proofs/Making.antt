-- The bodies that were made of a blueprint's islands are its bodies, and the crossings of the ends are its lanes.
use Rattle.std.specs.Prelude.{slice_get, slice_index}
use Rattle.std.proofs.Common.{◌≡◌, ℕ, zero, suc, ◌+◌, ◌<◌, List, [], ◌∷◌, length, map, take, Some, refl, sym, ap, ◌∙◌, subst, arith}
use Rattle.stream_io.specs.State.{SourceState, DrainState}
use Rattle.stream_model.specs.Graph.{Edge}
use Rattle.interpreter.specs.Boundary.{way_in, way_out}
use Rattle.interpreter.specs.Island.{Kept}
use Rattle.interpreter.specs.Parts.{ends_of, AllBecome}
use Rattle.interpreter.specs.declared.parts.Seated.{Seated}
use Rattle.blue_check.specs.Plan.{lanes_from}
use Rattle.blue_check.specs.declared.plan.LanePlan.{LanePlan}
use Rattle.scatter.specs.Shares.{items_at}
use Rattle.island_parts.specs.Whole.{lanes_in}
use Rattle.island_parts.proofs.Cutting.{lane_below, lanes_count, lane_plan, lane_get}
use Rattle.island_parts.proofs.Wiring.{there}
use Rattle.bodies_run.specs.Islands.{seats_in, AreSeated}
use Rattle.bodies_run.proofs.Standing.{from_node, to_node, home_below}
use Rattle.island_body.specs.declared.input.IslandInput.{IslandInput}
use Rattle.island_body.specs.declared.output.OutputBoundary.{OutputBoundary}
use Rattle.lane_core.specs.declared.crossing.Crossing.{Crossing}
use Rattle.island_plans.specs.LaneEnds.{AreAllEnds, LaneJoins}
use Rattle.island_plans.specs.declared.lane_ends.AllEnds.{AllEnds}
use Rattle.island_body.specs.Ends.{IslandGoes}
use Rattle.island_body.specs.declared.body.Body.{Body}
use Rattle.bodies_run.specs.Bodies.{ComesInto, GoesOutOf, IsCrossingOf, AreLanes, AreBegun}
use Rattle.island_runs.specs.Made.{AreMadeOf}
use Rattle.island_runs.proofs.Lanes.{in_end, out_end, comes_at, goes_at}
use Rattle.stream_model.specs.Linear.{Book}

-- the one that stands at the place of another, of which f says the same
map_there : {A B : Type 0} (f : A → B) (xs ys : List A) (k : ℕ) (x : A) → map f ys ≡ map f xs → slice_get xs k ≡ Some x → (y : A) × ((slice_get ys k ≡ Some y) × (f y ≡ f x))
map_there f [] ys k x e at = absurd cc
map_there f (z ∷ xs) [] k x e at = absurd cc
map_there f (z ∷ xs) (y ∷ ys) zero x e at = let here : f y ≡ f z = cc in let same : z ≡ x = cc in (y, (refl, here ∙ ap f same))
map_there f (z ∷ xs) (y ∷ ys) (suc k) x e at = let t : map f ys ≡ map f xs = cc in map_there f xs ys k x t at

module _ {S D L H B : Type 0} where
  in_goes : (old new : Kept S D L H B) (g : IslandGoes old new) (u : ℕ) → way_in new u ≡ way_in old u
  in_goes old new g u = rw g.ins refl

  out_goes : (old new : Kept S D L H B) (g : IslandGoes old new) (u : ℕ) → way_out new u ≡ way_out old u
  out_goes old new g u = rw g.outs refl

  module _ (sources : S → SourceState) (drains : D → DrainState) (book : Book) (homes : List ℕ) (count : ℕ) (ws : List Edge) (nodes : List (Seated S D L H B)) (e : AllEnds) (bodies : List (Body S D L H B)) (a : AreSeated homes count ws nodes)
      (all : AreAllEnds (lanes_from homes 0 ws) count e) (made : AreMadeOf sources drains book homes ws nodes count e bodies) where
    pub begun : AreBegun sources drains book homes count ws nodes bodies
    begun = record {
      many = made.many;
      keep = λ k b at. (made.each k b at).keeps;
      become = λ k b at.
          let m = made.each k b at in
          subst (AllBecome (seats_in homes ws nodes k)) (sym m.goes.on.firsts) (subst (λ (ps : List (Seated S D L H B)). AllBecome ps m.island.net.firsts) m.parts_are.nodes_are m.started.firsts);
      ends_are = λ k b at.
          let m = made.each k b at in
          m.goes.on.ends ∙ (m.started.ends ∙ ap (map ends_of) m.parts_are.links_are);
    }

    -- ---- the crossing of a lane

    module _ (u : ℕ) (v : Edge) (size : ℕ) (at : slice_get ws u ≡ Some v) (lane : v.lane ≡ Some size) where
      abbrev j : ℕ
      j = lanes_in (take u ws)

      abbrev plan : LanePlan
      plan = lane_plan homes (0 + u) v size

      plan_at : slice_get (lanes_from homes 0 ws) j ≡ Some plan
      plan_at = lane_get homes 0 ws u v size at lane

      body_at : (k : ℕ) → k < count → (b : Body S D L H B) × (slice_get bodies k ≡ Some b)
      body_at k lt = there bodies k (omega (arith, lt, made.many))

      crossing : (c : Crossing) → LaneJoins e plan c → IsCrossingOf homes ws bodies u v size c
      crossing c x =
          let from_is : c.from ≡ slice_index homes v.from = x.from_is in
          let to_is : c.to ≡ slice_index homes v.to = x.to_is in
          let from_below : slice_index homes v.from < count = home_below homes count ws nodes a v.from (from_node homes count ws nodes a u v at) in
          let to_below : slice_index homes v.to < count = home_below homes count ws nodes a v.to (to_node homes count ws nodes a u v at) in
          let f = body_at c.from (omega (arith, from_is, from_below)) in
          let t = body_at c.to (omega (arith, to_is, to_below)) in
          let m = made.each c.from f.0 f.1 in
          let n = made.each c.to t.0 t.1 in
          let o = map_there (λ (y : OutputBoundary). y.wire) (items_at e.outs.items c.from) f.0.outs.items c.out x.out m.lanes.outs_wires x.out_at in
          let i = map_there (λ (y : IslandInput). y.wire) (items_at e.ins.items c.to) t.0.ins.items c.inp x.inp n.lanes.ins_wires x.inp_at in
          let zero_plus : 0 + u ≡ u = omega arith in
          let g = goes_at sources drains book homes count ws nodes c.from m.parts m.island a m.parts_are.nodes_are m.parts_are.links_are m.started u (record { wire = v; size = size; is = at; lane = lane; home = sym from_is }) in
          let h = comes_at sources drains book homes count ws nodes c.to n.parts n.island a n.parts_are.nodes_are n.parts_are.links_are n.started u (record { wire = v; size = size; is = at; lane = lane; home = sym to_is }) in
          record {
            from_is = from_is;
            to_is = to_is;
            from = f.0;
            to = t.0;
            from_at = f.1;
            to_at = t.1;
            out = o.0;
            inp = i.0;
            out_at = o.1.0;
            inp_at = i.1.0;
            out_wire = o.1.1 ∙ (x.ends.out_wire ∙ zero_plus);
            inp_wire = i.1.1 ∙ (x.ends.in_wire ∙ zero_plus);
            size_is = (n.lanes.ins_same c.inp x.inp i.0 x.inp_at i.1.0).1 ∙ x.ends.in_size_is;
            keep_is = (n.lanes.ins_same c.inp x.inp i.0 x.inp_at i.1.0).2 ∙ x.ends.keep_is;
            near_is = sym g.way ∙ sym (out_goes m.island f.0.island m.goes u);
            far_is = sym h.way ∙ sym (in_goes n.island t.0.island n.goes u);
          }

      here : (n : ℕ) × ((c : Crossing) × ((slice_get e.crossings.items n ≡ Some c) × IsCrossingOf homes ws bodies u v size c))
      here =
          let lt : j < lanes_in ws = lane_below ws u v size at lane in
          let many : length (lanes_from homes 0 ws) ≡ lanes_in ws = lanes_count homes 0 ws in
          let c = there e.crossings.items j (omega (arith, lt, many, all.many)) in
          (j, (c.0, (c.1, crossing c.0 (all.each j plan c.0 plan_at c.1))))

    pub lanes : AreLanes homes ws bodies e.crossings.items
    lanes = record {
      each = λ u v size at lane. here u v size at lane;
      ins_are = λ k j b x at here_at.
          let m = made.each k b at in
          let y = map_there (λ (z : IslandInput). z.wire) b.ins.items (items_at e.ins.items k) j x (sym m.lanes.ins_wires) here_at in
          subst (ComesInto homes ws k) y.1.1 (in_end homes ws count e all k j y.0 y.1.0).comes;
      outs_are = λ k j b o at here_at.
          let m = made.each k b at in
          let y = map_there (λ (z : OutputBoundary). z.wire) b.outs.items (items_at e.outs.items k) j o (sym m.lanes.outs_wires) here_at in
          subst (GoesOutOf homes ws k) y.1.1 (out_end homes ws count e all k j y.0 y.1.0).goes;
    }
