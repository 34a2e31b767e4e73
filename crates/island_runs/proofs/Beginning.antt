-- The ends of lanes at an island that has started: nothing has passed at either, and each stands at its stage.
use Rattle.std.specs.Prelude.{slice_get}
use Rattle.std.proofs.Common.{◌≡◌, ◌≢◌, ℕ, zero, suc, ◌<◌, ◌⊎◌, inl, inr, List, [], ◌∷◌, ◌++◌, length, map, Some, refl, sym, ap, ◌∙◌, ⊎_elim, arith}
use Rattle.stream_io.specs.State.{SourceState, DrainState}
use Rattle.stream_model.specs.Graph.{Edge}
use Rattle.port_core.specs.Marks.{wanted}
use Rattle.interpreter.specs.Boundary.{BeginsOut, way_in, way_out, cell_out}
use Rattle.interpreter.specs.Island.{Kept}
use Rattle.interpreter.specs.declared.parts.Parts.{Parts}
use Rattle.interpreter.specs.declared.parts.Seated.{Seated}
use Rattle.blue_check.specs.Plan.{lanes_from}
use Rattle.scatter.specs.Shares.{items_at}
use Rattle.lane_core.specs.Ends.{taken_items, finds}
use Rattle.island_body.specs.Beside.{in_node, out_node}
use Rattle.island_body.specs.Sending.{has_end}
use Rattle.island_body.specs.Serving.{Serves}
use Rattle.island_body.specs.declared.output.OutputBoundary.{OutputBoundary}
use Rattle.island_body.proofs.Feeding.{feeds_begun}
use Rattle.island_body.specs.declared.input.IslandInput.{IslandInput}
use Rattle.bodies_run.specs.Islands.{seats_in, links_in, AreSeated}
use Rattle.island_parts.specs.Starts.{HasStarted}
use Rattle.island_plans.specs.LaneEnds.{AreEnds, AreAllEnds}
use Rattle.island_plans.specs.declared.lane_ends.AllEnds.{AllEnds}
use Rattle.blue_check.specs.declared.plan.LanePlan.{LanePlan}
use Rattle.island_body.specs.Ends.{in_wires, out_wires, all_taken, all_finds, InputEndStands, OutputEndStands, AllStand, AreApart}
use Rattle.island_body.specs.Keeping.{BodyBegins}
use Rattle.island_runs.proofs.Lanes.{in_end, out_end, its_parts, comes_at, goes_at, not_out}
use Rattle.island_runs.proofs.Stages.{some_same, only, ins_one, outs_one, none_both, ways_differ}
use Rattle.stream_model.specs.Linear.{Book}

-- the item whose wire stands at a place of the wires
wire_there : {X : Type 0} (f : X → ℕ) (xs : List X) (j u : ℕ) → slice_get (map f xs) j ≡ Some u → (x : X) × ((slice_get xs j ≡ Some x) × (f x ≡ u))
wire_there f [] j u e = absurd cc
wire_there f (x ∷ xs) zero u e = (x, (refl, some_same (f x) u e))
wire_there f (x ∷ xs) (suc j) u e = wire_there f xs j u e

order : (j k : ℕ) → j ≢ k → (j < k) ⊎ (k < j)
order zero zero ne = absurd (ne refl)
order zero (suc k) ne = inl (omega arith)
order (suc j) zero ne = inr (omega arith)
order (suc j) (suc k) ne = ⊎_elim (λ (l : j < k). inl (omega (arith, l))) (λ (l : k < j). inr (omega (arith, l))) (order j k (λ e. ne (ap suc e)))

-- nothing was taken by input ends none of which took anything, and nothing found by output ends
none_taken : (xs : List IslandInput) → ((p : ℕ) (y : IslandInput) → slice_get xs p ≡ Some y → length (taken_items y.boundary.lane) ≡ 0) → all_taken xs ≡ 0
none_taken [] h = refl
none_taken (x ∷ xs) h = let here : length (taken_items x.boundary.lane) ≡ 0 = h 0 x refl in let rest : all_taken xs ≡ 0 = none_taken xs (λ p y at. h (suc p) y at) in omega (arith, here, rest)

none_found : (xs : List OutputBoundary) → ((p : ℕ) (o : OutputBoundary) → slice_get xs p ≡ Some o → finds o.lane ≡ 0) → all_finds xs ≡ 0
none_found [] h = refl
none_found (x ∷ xs) h = let here : finds x.lane ≡ 0 = h 0 x refl in let rest : all_finds xs ≡ 0 = none_found xs (λ p y at. h (suc p) y at) in omega (arith, here, rest)

module _ {S D L H B : Type 0} where
  -- an output end at which nothing has passed, where nothing has passed at its stage
  serves_begun : (l : LanePlan) (o : OutputBoundary) (x : IslandInput) (i : Kept S D L H B) → AreEnds l o x → BeginsOut i.net (way_out i o.wire) → Serves o.lane i o.wire
  serves_begun l o x i e b = record {
    part = record { rest = (cell_out i o.wire).wire.got; is = ap (λ (z : List _). z ++ (cell_out i o.wire).wire.got) (sym e.none_sent) };
    wants = let none : wanted (cell_out i o.wire) ≡ 0 = b.unasked in omega (arith, none);
    live = λ z. record {
      gone = λ y at. b.none_gone y at ∙ sym e.none_sent;
      wants = let none : wanted (cell_out i o.wire) ≡ 0 = b.unasked in omega (arith, none);
      live = z;
      ended = e.not_ended ∙ ap has_end (sym e.none_sent);
    };
    closed = λ z. absurd (let none = e.no_cancel_seen in omega (arith, z, none));
    left = λ z. absurd (b.stays z);
  }

  module _ (sources : S → SourceState) (drains : D → DrainState) (book : Book) (homes : List ℕ) (count : ℕ) (ws : List Edge) (nodes : List (Seated S D L H B)) (k : ℕ) (x : Parts S D L H B) (i : Kept S D L H B) (e : AllEnds) (a : AreSeated homes count ws nodes)
      (nodes_are : x.nodes.items ≡ seats_in homes ws nodes k) (links_are : x.links.items ≡ links_in homes ws nodes k) (h : HasStarted sources drains book x i) (all : AreAllEnds (lanes_from homes 0 ws) count e) where
    abbrev ins : List IslandInput
    ins = items_at e.ins.items k

    abbrev outs : List OutputBoundary
    outs = items_at e.outs.items k

    in_stands : (p : ℕ) (y : IslandInput) → slice_get ins p ≡ Some y → InputEndStands i y
    in_stands p y at =
        let z = in_end homes ws count e all k p y at in
        let c = comes_at sources drains book homes count ws nodes k x i a nodes_are links_are h y.wire z.comes in
        record { enters = c.enters; feeds = feeds_begun sources drains book y.boundary i y.wire h.laws.laws c.enters c.begins z.ends.none_given z.ends.flows }

    out_stands : (p : ℕ) (o : OutputBoundary) → slice_get outs p ≡ Some o → OutputEndStands i o
    out_stands p o at =
        let z = out_end homes ws count e all k p o at in
        let c = goes_at sources drains book homes count ws nodes k x i a nodes_are links_are h o.wire z.goes in
        record {
          leaves = c.leaves;
          serves = serves_begun z.plan o z.inp i z.ends c.begins;
          only = only sources drains book x.nodes.items x.links.items i (its_parts sources drains book homes count ws nodes k x i a nodes_are links_are h) h.laws.laws h.firsts h.ends o.wire _ c;
        }

    pub stand : AllStand i ins outs
    stand = record { ins_stand = in_stands; outs_stand = out_stands }

    -- two ends of one list have two wires
    ins_rise : (j n : ℕ) (y z : IslandInput) → slice_get ins j ≡ Some y → slice_get ins n ≡ Some z → j ≢ n → y.wire ≢ z.wire
    ins_rise j n y z ey ez ne same = ⊎_elim
        (λ (l : j < n). let r : y.wire < z.wire = all.ins_lie.rise k j n y z l ey ez in absurd (omega (arith, r, same)))
        (λ (l : n < j). let r : z.wire < y.wire = all.ins_lie.rise k n j z y l ez ey in absurd (omega (arith, r, same)))
        (order j n ne)

    outs_rise : (j n : ℕ) (y z : OutputBoundary) → slice_get outs j ≡ Some y → slice_get outs n ≡ Some z → j ≢ n → y.wire ≢ z.wire
    outs_rise j n y z ey ez ne same = ⊎_elim
        (λ (l : j < n). let r : y.wire < z.wire = all.outs_lie.rise k j n y z l ey ez in absurd (omega (arith, r, same)))
        (λ (l : n < j). let r : z.wire < y.wire = all.outs_lie.rise k n j z y l ez ey in absurd (omega (arith, r, same)))
        (order j n ne)

    pub apart : AreApart i (in_wires ins) (out_wires outs)
    apart = record {
      ins_apart = λ j n u v eu ev ne same.
          let y = wire_there (λ (z : IslandInput). z.wire) ins j u eu in
          let z = wire_there (λ (z : IslandInput). z.wire) ins n v ev in
          let s = ins_one sources drains book x.nodes.items x.links.items i (its_parts sources drains book homes count ws nodes k x i a nodes_are links_are h) h.laws.laws h.firsts h.ends (y.0).wire (z.0).wire _ _
          (comes_at sources drains book homes count ws nodes k x i a nodes_are links_are h (y.0).wire (in_end homes ws count e all k j y.0 y.1.0).comes)
          (comes_at sources drains book homes count ws nodes k x i a nodes_are links_are h (z.0).wire (in_end homes ws count e all k n z.0 z.1.0).comes)
          (ap (in_node i) y.1.1 ∙ (same ∙ ap (in_node i) (sym z.1.1))) in
          ins_rise j n y.0 z.0 y.1.0 z.1.0 ne s;
      outs_apart = λ j n u v eu ev ne same.
          let y = wire_there (λ (z : OutputBoundary). z.wire) outs j u eu in
          let z = wire_there (λ (z : OutputBoundary). z.wire) outs n v ev in
          let s = outs_one sources drains book x.nodes.items x.links.items i (its_parts sources drains book homes count ws nodes k x i a nodes_are links_are h) h.laws.laws h.firsts h.ends (y.0).wire (z.0).wire _ _
          (goes_at sources drains book homes count ws nodes k x i a nodes_are links_are h (y.0).wire (out_end homes ws count e all k j y.0 y.1.0).goes)
          (goes_at sources drains book homes count ws nodes k x i a nodes_are links_are h (z.0).wire (out_end homes ws count e all k n z.0 z.1.0).goes)
          (ap (out_node i) y.1.1 ∙ (same ∙ ap (out_node i) (sym z.1.1))) in
          outs_rise j n y.0 z.0 y.1.0 z.1.0 ne s;
      both_apart = λ j n u v eu ev same.
          let y = wire_there (λ (z : IslandInput). z.wire) ins j u eu in
          let z = wire_there (λ (z : OutputBoundary). z.wire) outs n v ev in
          none_both sources drains book x.nodes.items x.links.items i (its_parts sources drains book homes count ws nodes k x i a nodes_are links_are h) h.laws.laws h.firsts h.ends (y.0).wire (z.0).wire _ _
          (comes_at sources drains book homes count ws nodes k x i a nodes_are links_are h (y.0).wire (in_end homes ws count e all k j y.0 y.1.0).comes)
          (goes_at sources drains book homes count ws nodes k x i a nodes_are links_are h (z.0).wire (out_end homes ws count e all k n z.0 z.1.0).goes)
          (ap (in_node i) y.1.1 ∙ (same ∙ ap (out_node i) (sym z.1.1)));
    }

    pub differ : (j n u v : ℕ) → slice_get (in_wires ins) j ≡ Some u → slice_get (out_wires outs) n ≡ Some v → way_in i u ≢ way_out i v
    differ j n u v eu ev same =
        let y = wire_there (λ (z : IslandInput). z.wire) ins j u eu in
        let z = wire_there (λ (z : OutputBoundary). z.wire) outs n v ev in
        let c = comes_at sources drains book homes count ws nodes k x i a nodes_are links_are h (y.0).wire (in_end homes ws count e all k j y.0 y.1.0).comes in
        let g = goes_at sources drains book homes count ws nodes k x i a nodes_are links_are h (z.0).wire (out_end homes ws count e all k n z.0 z.1.0).goes in
        ways_differ sources drains book x.nodes.items x.links.items i (its_parts sources drains book homes count ws nodes k x i a nodes_are links_are h) h.laws.laws h.firsts h.ends (y.0).wire (z.0).wire _ _ c g
        (not_out sources drains book homes count ws nodes k x i a nodes_are links_are h _ c.link c.at c.comes) (ap (way_in i) y.1.1 ∙ (same ∙ ap (way_out i) (sym z.1.1)))

    pub begins : BodyBegins i ins outs
    begins = record { whole = h.whole; unused = h.unused; untaken = none_taken ins (λ p y at. ap length (in_end homes ws count e all k p y at).ends.none_taken); unfound = none_found outs (λ p o at. (out_end homes ws count e all k p o at).ends.none_found); stand = stand; apart = apart; differ = differ }
