-- Two ends of lanes, each of a body, were brought together.
use Rattle.std.proofs.Common.{◌≡◌, inl, inr, ℕ, List, Some, length, set, slice_get, refl, sym, ap, ◌∙◌, subst}
use Rattle.std.specs.declared.vec.Vec.{Vec}
use Rattle.std.proofs.lemmas.List.{length-set}
use Rattle.lane_core.specs.declared.room.Waits.{Waits}
use Rattle.lane_core.specs.Ends.{IsLaneHistory, WaitsAre}
use Rattle.lane_core.specs.Meeting.{AreTold}
use Rattle.island_body.specs.declared.output.OutputBoundary.{OutputBoundary}
use Rattle.island_body.specs.declared.input.IslandInput.{IslandInput}
use Rattle.island_body.specs.Meeting.{OutMet, InMet, OnlyMet, BodiesMeet}
use Rattle.island_body.specs.Lasting.{out_met_still, in_met_still, only_on}
use Rattle.island_body.specs.declared.body.Body.{Body}
use Rattle.island_body.proofs.Lists.{some_same, at_set}

-- what stands at the place that was set
set_here : {A : Type 0} (xs : List A) (k : ℕ) (x y z : A) → slice_get xs k ≡ Some x → slice_get (set xs k y) k ≡ Some z → z ≡ y
set_here xs k x y z at e = elim (at_set xs k k x y z at e) [
  | inl here ↦ here.1
  | inr there ↦ absurd (there.0 refl)
]

module _ {S D L H B : Type 0} where
  -- the output end at place k met, and no other end of the body
  pub out_only : (b nb : Body S D L H B) (k : ℕ) (o p : OutputBoundary) → slice_get b.outs.items k ≡ Some o → OutMet o p → nb.island ≡ b.island → nb.ways ≡ b.ways → nb.spent ≡ b.spent → nb.peers ≡ b.peers
      → nb.ins ≡ b.ins → nb.outs.items ≡ set b.outs.items k p → OnlyMet b nb
  out_only b nb k o p at m island_is ways_is spent_is peers_is ins_is outs_is = record {
    island = island_is;
    ways = ways_is;
    spent = spent_is;
    peers = peers_is;
    outs_count = ap length outs_is ∙ length-set b.outs.items k p;
    ins_count = ap (λ (v : Vec IslandInput _). length v.items) ins_is;
    outs_met = λ j u v eu ev. elim (at_set b.outs.items k j o p v at (ap (λ (l : List OutputBoundary). slice_get l j) (sym outs_is) ∙ ev)) [
      | inl here ↦ (let was : o ≡ u = some_same o u (sym at ∙ (ap (λ (n : ℕ). slice_get b.outs.items n) (sym here.0) ∙ eu)) in subst (λ (z : OutputBoundary). OutMet z v) was (subst (λ (z : OutputBoundary). OutMet o z) (sym here.1) m))
      | inr there ↦ (let is : u ≡ v = some_same u v (sym eu ∙ there.1) in subst (λ (z : OutputBoundary). OutMet u z) is (out_met_still u))
    ];
    ins_met = λ j u v eu ev. let is : u ≡ v = some_same u v (sym eu ∙ (ap (λ (w : Vec IslandInput _). slice_get w.items j) (sym ins_is) ∙ ev)) in subst (λ (z : IslandInput). InMet u z) is (in_met_still u);
  }

  -- the input end at place k
  pub in_only : (b nb : Body S D L H B) (k : ℕ) (x y : IslandInput) → slice_get b.ins.items k ≡ Some x → InMet x y → nb.island ≡ b.island → nb.ways ≡ b.ways → nb.spent ≡ b.spent → nb.peers ≡ b.peers
      → nb.outs ≡ b.outs → nb.ins.items ≡ set b.ins.items k y → OnlyMet b nb
  in_only b nb k x y at m island_is ways_is spent_is peers_is outs_is ins_is = record {
    island = island_is;
    ways = ways_is;
    spent = spent_is;
    peers = peers_is;
    outs_count = ap (λ (v : Vec OutputBoundary _). length v.items) outs_is;
    ins_count = ap length ins_is ∙ length-set b.ins.items k y;
    outs_met = λ j u v eu ev. let is : u ≡ v = some_same u v (sym eu ∙ (ap (λ (w : Vec OutputBoundary _). slice_get w.items j) (sym outs_is) ∙ ev)) in subst (λ (z : OutputBoundary). OutMet u z) is (out_met_still u);
    ins_met = λ j u v eu ev. elim (at_set b.ins.items k j x y v at (ap (λ (l : List IslandInput). slice_get l j) (sym ins_is) ∙ ev)) [
      | inl here ↦ (let was : x ≡ u = some_same x u (sym at ∙ (ap (λ (n : ℕ). slice_get b.ins.items n) (sym here.0) ∙ eu)) in subst (λ (z : IslandInput). InMet z v) was (subst (λ (z : IslandInput). InMet x z) (sym here.1) m))
      | inr there ↦ (let is : u ≡ v = some_same u v (sym eu ∙ there.1) in subst (λ (z : IslandInput). InMet u z) is (in_met_still u))
    ];
  }

  -- one of each of one body
  pub both_only : (b nb : Body S D L H B) (k j : ℕ) (o p : OutputBoundary) (x y : IslandInput) → slice_get b.outs.items k ≡ Some o → slice_get b.ins.items j ≡ Some x → OutMet o p → InMet x y → nb.island ≡ b.island → nb.ways ≡ b.ways → nb.spent ≡ b.spent → nb.peers ≡ b.peers
      → nb.outs.items ≡ set b.outs.items k p → nb.ins.items ≡ set b.ins.items j y → OnlyMet b nb
  both_only b nb k j o p x y at_out at_in m n island_is ways_is spent_is peers_is outs_is ins_is =
      let mid : Body S D L H B = record b { outs = nb.outs } in
      only_on b mid nb (out_only b mid k o p at_out m refl refl refl refl refl outs_is) (in_only mid nb j x y at_in n island_is ways_is spent_is peers_is refl ins_is)

  -- the meeting, from what the ends say of it
  pub they_meet : (a b na nb : Body S D L H B) (k j : ℕ) (o p : OutputBoundary) (x y : IslandInput) (w : Waits) → slice_get a.outs.items k ≡ Some o → slice_get b.ins.items j ≡ Some x
      → na.outs.items ≡ set a.outs.items k p → nb.ins.items ≡ set b.ins.items j y → OnlyMet a na → OnlyMet b nb
      → IsLaneHistory p.lane y.boundary.lane → WaitsAre p.lane y.boundary.lane w → AreTold p.lane y.boundary.lane → BodiesMeet a k b j na nb w
  they_meet a b na nb k j o p x y w at_out at_in outs_is ins_is m n history waits told =
      let out_is : (u : OutputBoundary) → slice_get na.outs.items k ≡ Some u → p ≡ u = λ u e. sym (set_here a.outs.items k o p u at_out (ap (λ (l : List OutputBoundary). slice_get l k) (sym outs_is) ∙ e)) in
      let in_is : (u : IslandInput) → slice_get nb.ins.items j ≡ Some u → y ≡ u = λ u e. sym (set_here b.ins.items j x y u at_in (ap (λ (l : List IslandInput). slice_get l j) (sym ins_is) ∙ e)) in
      record {
        from_met = m;
        to_met = n;
        joined = record {
          history = λ u v eu ev. subst (λ (z : IslandInput). IsLaneHistory u.lane z.boundary.lane) (in_is v ev) (subst (λ (z : OutputBoundary). IsLaneHistory z.lane y.boundary.lane) (out_is u eu) history);
          waits_are = λ u v eu ev. subst (λ (z : IslandInput). WaitsAre u.lane z.boundary.lane w) (in_is v ev) (subst (λ (z : OutputBoundary). WaitsAre z.lane y.boundary.lane w) (out_is u eu) waits);
        };
        told = λ u v eu ev. subst (λ (z : IslandInput). AreTold u.lane z.boundary.lane) (in_is v ev) (subst (λ (z : OutputBoundary). AreTold z.lane y.boundary.lane) (out_is u eu) told);
      }
