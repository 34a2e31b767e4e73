-- What a blueprint that can be run tells of the places of its nodes.
use Rattle.std.proofs.Common.{◌≡◌, ℕ, zero, suc, ◌+◌, ◌<◌, false, List, [], ◌∷◌, length, map, Some, None, refl, ap, sym, ◌∙◌, subst, arith}
use Rattle.std.specs.Prelude.{slice_get, is_none}
use Rattle.std.proofs.lemmas.List.{length-map}
use Rattle.std.proofs.lemmas.Option.{slice_get_within}
use Rattle.stream_model.specs.Graph.{Edge}
use Rattle.stream_model.specs.declared.blueprint.Blueprint.{Blueprint}
use Rattle.stream_model.specs.declared.blueprint.Node.{Node}
use Rattle.stream_model.specs.declared.blueprint.WireDecl.{WireDecl}
use Rattle.blue_check.specs.Fitness.{IsFit}
use Rattle.blue_check.specs.Wires.{blueprint_wires}
use Rattle.blue_names.specs.declared.links.NumberedWire.{NumberedWire}
use Rattle.blue_names.specs.Links.{AreInRange, wires_of_links}
use Rattle.blue_check.proofs.ClosedWalks.{link_at_place}
use Rattle.stream_model.specs.Known.{HeadLists}
use Rattle.interpreter.specs.Ways.{is_lane_in, is_lane_out}
use Rattle.interpreter.specs.declared.parts.Seated.{Seated}
use Rattle.interpreter.specs.declared.parts.Work.{Work}
use Rattle.interpreter.specs.declared.parts.Work.TheVariants as work
use Rattle.blue_check.specs.Plan.{AreHomes}
use Rattle.island_parts.specs.Whole.{AreNodes, KeepsInside}
use Rattle.materializer.specs.Fit.{CanRun}
use Rattle.materializer.specs.Graphs.{Around, graph_of, graph_node, around_of}
use Rattle.materializer.specs.Planned.{places_from}
use Rattle.materializer.specs.Seats.{IsWork, AreSeats}
use Rattle.materializer.proofs.Fitting.{fit_joined}
use Rattle.materializer.proofs.Linking.{wire_ends, ends_at, wiring}
use Rattle.materializer.proofs.Placing.{seats_unused}
use Rattle.stream_model.specs.Joined.{IsJoined}

-- ---- wires

module _ (b : Blueprint) (heads : HeadLists) (taken : List (List ℕ)) (fit : IsFit b heads taken) where
  -- a wire joins nodes that are there
  ends_within : (i : ℕ) (v : Edge) → slice_get (blueprint_wires b) i ≡ Some v → (v.from < length b.nodes.items) × (v.to < length b.nodes.items)
  ends_within i v at =
      let j : IsJoined (graph_of b) = fit_joined b heads taken fit in
      let s = j.source i v at in
      let t = j.target i v at in
      let size : length (map (graph_node b.wires.items) b.nodes.items) ≡ length b.nodes.items = length-map b.nodes.items (graph_node b.wires.items) in
      let from : v.from < length (map (graph_node b.wires.items) b.nodes.items) = slice_get_within (map (graph_node b.wires.items) b.nodes.items) v.from s.0 s.1 in
      let to : v.to < length (map (graph_node b.wires.items) b.nodes.items) = slice_get_within (map (graph_node b.wires.items) b.nodes.items) v.to t.0 t.1 in
      (omega (arith, from, size), omega (arith, to, size))

  pub in_range : (ls : List NumberedWire) → wires_of_links ls ≡ blueprint_wires b → AreInRange (length b.nodes.items) ls
  in_range ls e = λ k d lt. ends_within k _ (ap (λ x. slice_get x k) (sym e) ∙ link_at_place ls k d lt)

-- a wire without a lane is inside one island
pub keeps_inside : (count : ℕ) (ws : List Edge) (homes : List ℕ) → AreHomes count ws homes → KeepsInside homes ws
keeps_inside count ws homes h = record { inside = λ i w at none. h.inside i w at (ap is_none none) }

-- ---- places

pub places_count : (ws : List WireDecl) (k : ℕ) (ns : List Node) → length (places_from ws k ns) ≡ length ns
places_count ws k [] = refl
places_count ws k (n ∷ ns) = ap suc (places_count ws (k + 1) ns)

module _ {S D L H B : Type 0} where
  -- a node of a blueprint is no end of a lane
  no_end : (around : Around) (k : ℕ) (n : Node) (ss : List S) (ds : List D) (w : Work S D L H B) → IsWork around k n ss ds w → (is_lane_in w ≡ false) × (is_lane_out w ≡ false)
  no_end around k n ss ds (work.Reading r) is = (refl, refl)
  no_end around k n ss ds (work.Making shape) is = (refl, refl)
  no_end around k n ss ds (work.Linear l) is = (refl, refl)
  no_end around k n ss ds (work.State l) is = (refl, refl)
  no_end around k n ss ds (work.Sub l) is = (refl, refl)
  no_end around k n ss ds (work.FanIn l inputs) is = (refl, refl)
  no_end around k n ss ds (work.FanOut l outputs) is = (refl, refl)
  no_end around k n ss ds (work.Custom l inputs outputs) is = (refl, refl)
  no_end around k n ss ds (work.LaneIn u) is = absurd is
  no_end around k n ss ds (work.LaneOut u) is = absurd is
  no_end around k n ss ds (work.Writing shape (Some d)) is = (refl, refl)
  no_end around k n ss ds (work.Writing shape None) is = (refl, refl)

  no_ends : (around : Around) (k : ℕ) (ns : List Node) (ss : List S) (ds : List D) (ps : List (Seated S D L H B)) (j : ℕ) (p : Seated S D L H B) → AreSeats around k ns ss ds ps → slice_get ps j ≡ Some p → (is_lane_in p.work ≡ false) × (is_lane_out p.work ≡ false)
  no_ends around k [] ss ds [] j p a at = absurd cc
  no_ends around k [] ss ds (q ∷ ps) j p a at = absurd a
  no_ends around k (n ∷ ns) ss ds [] j p a at = absurd a
  no_ends around k (n ∷ ns) ss ds (q ∷ ps) zero p a at =
      let e : q ≡ p = cc in
      subst (λ (x : Seated S D L H B). (is_lane_in x.work ≡ false) × (is_lane_out x.work ≡ false)) e (no_end around k n ss ds q.work a.1.0)
  no_ends around k (n ∷ ns) ss ds (q ∷ ps) (suc j) p a at = no_ends around (k + 1) ns _ _ ps j p a.1.1 at

  -- the wires of a blueprint join every port of its nodes
  pub are_nodes : (b : Blueprint) (ss : List S) (ds : List D) (nodes : List (Seated S D L H B)) → CanRun b → AreSeats (around_of b) 0 b.nodes.items ss ds nodes → AreNodes (blueprint_wires b) nodes
  are_nodes b ss ds nodes r a =
      let ws = blueprint_wires b in
      record {
        no_ends = λ k p at. no_ends (around_of b) 0 b.nodes.items ss ds nodes k p a at;
        unused = seats_unused (around_of b) 0 b.nodes.items ss ds nodes a;
        ends = map wire_ends ws;
        wiring = wiring b.nodes.items ws (around_of b) ss ds nodes (fit_joined b r.heads r.taken r.fit) a;
        each_wire = length-map ws wire_ends;
        ends_are = λ i v at. ends_at ws i v at;
      }
