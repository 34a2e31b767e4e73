-- What an end of a lane that acts leaves as it is.
use Rattle.std.specs.Prelude.{slice_get}
use Rattle.std.proofs.Common.{◌≡◌, ◌≢◌, ℕ, ◌<◌, Bool, true, false, List, [], ◌∷◌, ◌++◌, Some, length, set, refl, sym, ap, ◌∙◌, subst, arith, get_or-set_other}
use Rattle.std.proofs.lemmas.List.{length-set}
use Rattle.std.proofs.lemmas.Option.{slice_get_within}
use Rattle.elem_core.specs.declared.item.Item.{Item}
use Rattle.port_core.specs.declared.act.Act.{Act}
use Rattle.port_core.specs.declared.act.Act.TheVariants as act
use Rattle.port_core.specs.Cell.{WireState, moved_by}
use Rattle.port_core.specs.Reading.{no_wire}
use Rattle.nodes.specs.declared.node.IslandNode.{IslandNode}
use Rattle.nodes.specs.Nodes.{node_gone, node_waits}
use Rattle.fused_net.specs.declared.net.WireEnds.{WireEnds}
use Rattle.fused_net.specs.Net.{Net, end_at, wire_at, with_node}
use Rattle.fused_net.specs.Laws.{NetGoesOn}
use Rattle.fused_net.specs.Poking.{HandsAt}
use Rattle.fused_net.proofs.Reading.{get_set_other}
use Rattle.fused_net.proofs.Ongoing.{goes_same, goes_trans, goes_put, goes_node}
use Rattle.port_core.specs.View.{input_closed}
use Rattle.interpreter.specs.declared.ways.LanePlace.{LanePlace}
use Rattle.interpreter.specs.LanePlaces.{lane_place_of}
use Rattle.interpreter.specs.BoundaryPlaces.{moved_at, cancelled_at, LeavesAt, EntersAt}
use Rattle.interpreter.specs.Island.{Kept}
use Rattle.interpreter.specs.Boundary.{way_in, way_out, Enters, Leaves, HandsOut, Drops, with_net}
use Rattle.island_body.specs.Beside.{Beside, out_node, in_node}

module _ {S D L H B : Type 0} where
  pub beside_same : (q n : ℕ) (i : Kept S D L H B) → Beside q n i i
  beside_same q n i = record { cells = λ p ne. refl; nodes = λ k ne. refl; on = goes_same i.net; ins = refl; outs = refl; numbers = refl; places = refl; used = refl; broken = refl }

  pub beside_trans : (q n : ℕ) (a b c : Kept S D L H B) → Beside q n a b → Beside q n b c → Beside q n a c
  beside_trans q n a b c f g = record {
    cells = λ p ne. g.cells p ne ∙ f.cells p ne;
    nodes = λ k ne. g.nodes k ne ∙ f.nodes k ne;
    on = goes_trans a.net b.net c.net f.on g.on;
    ins = g.ins ∙ f.ins;
    outs = g.outs ∙ f.outs;
    numbers = g.numbers ∙ f.numbers;
    places = g.places ∙ f.places;
    used = g.used ∙ f.used;
    broken = g.broken ∙ f.broken;
  }

  -- one connection has changed
  pub beside_moved : (n : ℕ) (i : Kept S D L H B) (q : ℕ) (a : Act) (new : Kept S D L H B) → new ≡ with_net i (moved_at i.net q a) → Beside q n i new
  beside_moved n i q a new is = rw is (record {
    cells = λ p ne. get_or-set_other i.net.wires q p (moved_by a (wire_at i.net q)) no_wire ne;
    nodes = λ k ne. refl;
    on = goes_put i.net q _ _;
    ins = refl;
    outs = refl;
    numbers = refl;
    places = refl;
    used = refl;
    broken = refl;
  })

  -- one node has changed
  pub beside_node : (q : ℕ) (i : Kept S D L H B) (n : ℕ) (y : IslandNode S D L H B) (new : Kept S D L H B) → new ≡ with_net i (with_node i.net n y) → Beside q n i new
  beside_node q i n y new is = rw is (record {
    cells = λ p ne. refl;
    nodes = λ k ne. get_set_other i.net.nodes n k y ne;
    on = goes_node i.net n y;
    ins = refl;
    outs = refl;
    numbers = refl;
    places = refl;
    used = refl;
    broken = refl;
  })

  pub beside_hands : (q : ℕ) (i new : Kept S D L H B) (u : ℕ) (items : List Item) → HandsOut i u items new → Beside q (out_node i u) i new
  beside_hands q i new u items h = beside_node q i (out_node i u) h.hands.next new (h.rest ∙ ap (λ (n : Net _). with_net i n) h.hands.is)

  -- the ends stand where they stood
  pub leaves_beside : (q n : ℕ) (old new : Kept S D L H B) (u : ℕ) → Beside q n old new → Leaves old u → Leaves new u
  leaves_beside q n old new u b l =
      let way : way_out new u ≡ way_out old u = ap (λ (l : List LanePlace). lane_place_of l u) b.outs in
      record {
        listed = rw b.outs l.listed;
        place = rw (way, b.on.wires) l.place;
        stage = rw way (λ x at. l.stage x (rw (b.on.firsts, b.on.ends) at at));
      }

  pub enters_beside : (q n : ℕ) (old new : Kept S D L H B) (u : ℕ) → Beside q n old new → Enters old u → Enters new u
  enters_beside q n old new u b l =
      let way : way_in new u ≡ way_in old u = ap (λ (l : List LanePlace). lane_place_of l u) b.ins in
      record {
        listed = rw b.ins l.listed;
        place = rw (way, b.on.wires) l.place;
        stage = rw way (λ x at. l.stage x (rw (b.on.firsts, b.on.ends) at at));
      }

  pub way_out_beside : (q n : ℕ) (old new : Kept S D L H B) (u : ℕ) → Beside q n old new → way_out new u ≡ way_out old u
  way_out_beside q n old new u b = rw b.outs refl

  pub out_node_beside : (q n : ℕ) (old new : Kept S D L H B) (u : ℕ) → Beside q n old new → out_node new u ≡ out_node old u
  out_node_beside q n old new u b = rw (b.outs, b.on.ends) refl

  pub way_in_beside : (q n : ℕ) (old new : Kept S D L H B) (u : ℕ) → Beside q n old new → way_in new u ≡ way_in old u
  way_in_beside q n old new u b = rw b.ins refl

  pub in_node_beside : (q n : ℕ) (old new : Kept S D L H B) (u : ℕ) → Beside q n old new → in_node new u ≡ in_node old u
  in_node_beside q n old new u b = rw (b.ins, b.on.ends) refl

  -- a place that was that of a lane's connection still is
  pub place_out_beside : (q n p : ℕ) (old new : Kept S D L H B) (u v : ℕ) → Beside q n old new → v ≡ u → p ≡ way_out old u → p ≡ way_out new v
  place_out_beside q n p old new u v b same e = e ∙ (sym (way_out_beside q n old new u b) ∙ ap (λ (w : ℕ). way_out new w) (sym same))

  pub place_in_beside : (q n p : ℕ) (old new : Kept S D L H B) (u v : ℕ) → Beside q n old new → v ≡ u → p ≡ way_in old u → p ≡ way_in new v
  place_in_beside q n p old new u v b same e = e ∙ (sym (way_in_beside q n old new u b) ∙ ap (λ (w : ℕ). way_in new w) (sym same))

  -- one call behind another
  pub beside_next : (u : ℕ) (a b c : Kept S D L H B) → Beside (way_out a u) (out_node a u) a b → Beside (way_out b u) (out_node b u) b c → Beside (way_out a u) (out_node a u) a c
  beside_next u a b c f g =
      beside_trans (way_out a u) (out_node a u) a b c f (subst (λ (z : ℕ × ℕ). Beside z.0 z.1 b c) (λ i. (way_out_beside (way_out a u) (out_node a u) a b u f i, out_node_beside (way_out a u) (out_node a u) a b u f i)) g)

  -- a cancel was handed on
  pub beside_drops : (i new : Kept S D L H B) (u : ℕ) (x : IslandNode S D L H B) → slice_get i.net.nodes (out_node i u) ≡ Some x → Drops i u new → Beside (way_out i u) (out_node i u) i new
  beside_drops i new u x at d = by_over (input_closed (wire_at i.net (way_out i u)).wire.inp) refl
    where
      after : (mid : Net (IslandNode S D L H B)) → cancelled_at i.net (way_out i u) ≡ mid → Beside (way_out i u) (out_node i u) i (with_net i mid) → slice_get mid.nodes (out_node i u) ≡ Some x → Beside (way_out i u) (out_node i u) i new
      after mid e b there =
          let h = d.drops x (rw e there) in
          let is : new ≡ with_net i (with_node mid (out_node i u) h.next) = d.rest ∙ ap (λ (n : Net _). with_net i n) h.is ∙ ap (λ (n : Net _). with_net i (with_node n (out_node i u) h.next)) e in
          beside_trans (way_out i u) (out_node i u) i (with_net i mid) new b (beside_node (way_out i u) (with_net i mid) (out_node i u) h.next new is)

      by_over : (b : Bool) → input_closed (wire_at i.net (way_out i u)).wire.inp ≡ b → Beside (way_out i u) (out_node i u) i new
      by_over true e = after i.net (rw e refl) (beside_same (way_out i u) (out_node i u) i) at
      by_over false e = after (moved_at i.net (way_out i u) (act.Cancel 0)) (rw e refl) (beside_moved (out_node i u) i (way_out i u) (act.Cancel 0) _ refl) at
