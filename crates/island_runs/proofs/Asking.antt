-- What was asked of lanes, by the numbers of their wires.
use Rattle.std.proofs.Common.{◌≡◌, ℕ, zero, suc, ◌<◌, List, [], ◌∷◌, length, Some, refl, ap, sym, ◌∙◌, arith}
use Rattle.std.specs.Prelude.{◌==◌, slice_get}
use Rattle.std.proofs.lemmas.Bool.{eq-eqb, ne_eqb, cond-true, cond-false}
use Rattle.std.proofs.lemmas.Option.{slice_get_within}
use Rattle.stream_model.specs.Graph.{Edge}
use Rattle.fused_net.proofs.Reading.{some_same}
use Rattle.lane_core.specs.Ends.{asked_in_all}
use Rattle.island_body.specs.declared.input.IslandInput.{IslandInput}
use Rattle.lane_core.specs.declared.crossing.Crossing.{Crossing}
use Rattle.blue_check.specs.Plan.{lanes_from}
use Rattle.blue_check.specs.declared.plan.LanePlan.{LanePlan}
use Rattle.island_plans.specs.LaneEnds.{AreRising}
use Rattle.island_parts.proofs.Wiring.{there}
use Rattle.island_body.specs.declared.body.Body.{Body}
use Rattle.island_runs.proofs.Lanes.{plan_of}
use Rattle.island_plans.specs.Asked.{LiesThere, LieThere, AreAsked, AreWithin}
use Rattle.bodies_run.specs.Bodies.{AskedAre}
use Rattle.bodies_run.specs.Begun.{AreAligned}
use Rattle.bodies_run.specs.Counts.{lane_demand}

-- ---- lanes

rest_rises : (l : LanePlan) (ls : List LanePlan) → AreRising (l ∷ ls) → AreRising ls
rest_rises l ls rise m n a b lt at bt = rise (suc m) (suc n) a b (omega (arith, lt)) at bt

-- the ask of a lane is found by its wire, since the wires of lanes differ
pub found_ask : (lanes : List LanePlan) (all : List ℕ) (n : ℕ) (l : LanePlan) (a : ℕ) → AreRising lanes → slice_get lanes n ≡ Some l → slice_get all n ≡ Some a → lane_demand lanes all l.wire ≡ a
found_ask [] all n l a rise al aa = absurd cc
found_ask (k ∷ ks) [] n l a rise al aa = absurd cc
found_ask (k ∷ ks) (b ∷ bs) zero l a rise al aa =
    let same : k ≡ l = some_same k l al in
    let is : b ≡ a = some_same b a aa in
    cond-true (k.wire == l.wire) b (lane_demand ks bs l.wire) (eq-eqb k.wire l.wire (ap (λ (p : LanePlan). p.wire) same)) ∙ is
found_ask (k ∷ ks) (b ∷ bs) (suc n) l a rise al aa =
    let less : k.wire < l.wire = rise 0 (suc n) k l (omega arith) refl al in
    cond-false (k.wire == l.wire) b (lane_demand ks bs l.wire) (ne_eqb k.wire l.wire (λ e. omega (arith, less, e))) ∙ found_ask ks bs n l a (rest_rises k ks rise) al aa

-- the wires of lanes are some of all wires
pub wires_within : (homes : List ℕ) (ws : List Edge) → AreWithin (length ws) (lanes_from homes 0 ws)
wires_within homes ws n l at = let p = plan_of homes ws n l at in slice_get_within ws l.wire p.wire p.is

-- ---- crossings

module _ {S D L H B : Type 0} (bodies : List (Body S D L H B)) where
  pub told : (lanes : List LanePlan) (crossings : List Crossing) (all : List ℕ) → length crossings ≡ length lanes → AreRising lanes → AreAligned lanes crossings bodies → AreAsked bodies crossings all → AskedAre bodies crossings (lane_demand lanes all)
  told lanes crossings all many rise aligned asks n c b x ac ab ax =
      let lt : n < length crossings = slice_get_within crossings n c ac in
      let l = there lanes n (omega (arith, lt, many)) in
      ap (lane_demand lanes all) (aligned n l.0 c b x l.1 ac ab ax) ∙ found_ask lanes all n l.0 (asked_in_all x.boundary.lane) rise l.1 (asks.each n c b x ac ab ax)

  -- at a crossing that is there lies one input end
  one_there : (c : Crossing) (y : LiesThere bodies c) (x : IslandInput) → slice_get y.body.ins.items c.inp ≡ Some x → (d : Crossing) (b : Body S D L H B) (z : IslandInput) → c ≡ d → slice_get bodies d.to ≡ Some b → slice_get b.ins.items d.inp ≡ Some z → x ≡ z
  one_there c y x ax d b z same ab az =
      let body : y.body ≡ b = some_same y.body b (sym y.body_at ∙ (ap (λ (e : Crossing). slice_get bodies e.to) same ∙ ab)) in
      some_same x z (sym ax ∙ (ap (λ (v : Body S D L H B). slice_get v.ins.items c.inp) body ∙ (ap (λ (e : Crossing). slice_get b.ins.items e.inp) same ∙ az)))

  -- ends that are there have asks
  pub some_asks : (crossings : List Crossing) → LieThere bodies crossings → (all : List ℕ) × AreAsked bodies crossings all
  some_asks [] lie = ([], record { many = refl; each = λ n c b x ac ab ax. absurd (none n c ac) })
    where
      none : (n : ℕ) (c : Crossing) → slice_get {X = Crossing} [] n ≡ Some c → ⊥
      none n c at = cc
  some_asks (c ∷ cs) lie =
      let rest = some_asks cs (λ n d at. lie (suc n) d at) in
      let y : LiesThere bodies c = lie 0 c refl in
      let x = there y.body.ins.items c.inp y.inp_there in
      (asked_in_all (x.0).boundary.lane ∷ rest.0, record { many = ap suc rest.1.many; each = each_on y x.0 x.1 rest.0 rest.1 })
    where
      each_on : (y : LiesThere bodies c) (x : IslandInput) → slice_get y.body.ins.items c.inp ≡ Some x → (all : List ℕ) → AreAsked bodies cs all
          → (n : ℕ) (d : Crossing) (b : Body S D L H B) (z : IslandInput) → slice_get (c ∷ cs) n ≡ Some d → slice_get bodies d.to ≡ Some b → slice_get b.ins.items d.inp ≡ Some z → slice_get (asked_in_all x.boundary.lane ∷ all) n ≡ Some (asked_in_all z.boundary.lane)
      each_on y x ax all r zero d b z ad ab az = ap (λ (v : IslandInput). Some (asked_in_all v.boundary.lane)) (one_there c y x ax d b z (some_same c d ad) ab az)
      each_on y x ax all r (suc n) d b z ad ab az = r.each n d b z ad ab az
