-- The counts that the wires are told to have, with the asks of lanes noted, are those of the picture.
use Rattle.std.proofs.Common.{◌≡◌, ℕ, zero, suc, ◌+◌, ◌<◌, List, [], ◌∷◌, length, map, take, Option, Some, None, refl, ap, sym, ◌∙◌, arith}
use Rattle.std.specs.Prelude.{slice_get}
use Rattle.std.proofs.lemmas.Option.{slice_get_within}
use Rattle.stream_model.specs.Graph.{Edge}
use Rattle.stream_model.specs.declared.outcome.WireCount.{WireCount}
use Rattle.port_core.specs.Cell.{WireState}
use Rattle.fused_net.proofs.Reading.{some_same}
use Rattle.interpreter.specs.Island.{state_count}
use Rattle.run_laws.specs.Account.{Account}
use Rattle.run_laws.specs.Pictures.{counts_from}
use Rattle.run_laws.specs.Ports.{wire_count}
use Rattle.blue_check.specs.Plan.{lanes_from}
use Rattle.blue_check.specs.declared.plan.LanePlan.{LanePlan}
use Rattle.island_plans.specs.LaneEnds.{AreRising}
use Rattle.island_parts.specs.Whole.{lanes_in}
use Rattle.island_parts.proofs.Cutting.{lane_plan, lane_get}
use Rattle.island_parts.proofs.Wiring.{there}
use Rattle.island_runs.proofs.Filling.{rising}
use Rattle.island_runs.proofs.Lanes.{plan_of}
use Rattle.island_plans.specs.Asked.{AreNoted}
use Rattle.bodies_run.specs.Counts.{told_from, lane_demand}
use Rattle.island_runs.proofs.Asking.{found_ask}

-- what the wires are told to have carried, without their numbers
abbrev pub told_counts : (ℕ → WireState) → ℕ → List Edge → List WireCount
told_counts near u ws = map (λ (w : ℕ × WireCount). w.1) (told_from near u ws)

told_many : (near : ℕ → WireState) (u : ℕ) (ws : List Edge) → length (told_counts near u ws) ≡ length ws
told_many near u [] = refl
told_many near u (v ∷ vs) = ap suc (told_many near (u + 1) vs)

told_at : (near : ℕ → WireState) (u : ℕ) (ws : List Edge) (n : ℕ) (v : Edge) → slice_get ws n ≡ Some v → slice_get (told_counts near u ws) n ≡ Some (state_count (near (u + n)))
told_at near u [] n v at = absurd cc
told_at near u (w ∷ ws) zero v at = let here : u ≡ u + 0 = omega arith in ap (λ k. Some (state_count (near k))) here
told_at near u (w ∷ ws) (suc n) v at = let later : (u + 1) + n ≡ u + suc n = omega arith in told_at near (u + 1) ws n v at ∙ ap (λ k. Some (state_count (near k))) later

-- counts are those of a picture where each is
counts_are : {N : Type 0} (a : Account N) (u : ℕ) (ws : List Edge) (counts : List WireCount) → length counts ≡ length ws → ((n : ℕ) (v : Edge) → slice_get ws n ≡ Some v → slice_get counts n ≡ Some (wire_count v.lane (a.near (u + n)) (a.asked (u + n)))) → counts ≡ counts_from a u ws
counts_are a u [] [] many each = refl
counts_are a u [] (c ∷ cs) many each = absurd (omega (arith, many))
counts_are a u (v ∷ vs) [] many each = absurd (omega (arith, many))
counts_are a u (v ∷ vs) (c ∷ cs) many each =
    let none : u + 0 ≡ u = omega arith in
    let first : c ≡ wire_count v.lane (a.near u) (a.asked u) = some_same c (wire_count v.lane (a.near u) (a.asked u)) (each 0 v refl ∙ ap (λ k. Some (wire_count v.lane (a.near k) (a.asked k))) none) in
    let rest : cs ≡ counts_from a (u + 1) vs = counts_are a (u + 1) vs cs (omega (arith, many)) (λ n w at. let later : u + suc n ≡ (u + 1) + n = omega arith in each (suc n) w at ∙ ap (λ k. Some (wire_count w.lane (a.near k) (a.asked k))) later) in
    ap (λ x. x ∷ cs) first ∙ ap (λ l. wire_count v.lane (a.near u) (a.asked u) ∷ l) rest

some_none : (n : ℕ) → None ≡ Some n → ⊥
some_none n e = cc

module _ (homes : List ℕ) (ws : List Edge) (all : List ℕ) (near : ℕ → WireState) (counts : List WireCount) (many : length all ≡ length (lanes_from homes 0 ws)) (note : AreNoted all (lanes_from homes 0 ws) (told_counts near 0 ws) counts) where
  abbrev lanes : List LanePlan
  lanes = lanes_from homes 0 ws

  lanes_rise : AreRising lanes
  lanes_rise = λ m n l k lt at bt. rising homes 0 ws m n l k lt at bt

  was : (n : ℕ) (v : Edge) → slice_get ws n ≡ Some v → slice_get (told_counts near 0 ws) n ≡ Some (state_count (near n))
  was n v at = let none : 0 + n ≡ n = omega arith in told_at near 0 ws n v at ∙ ap (λ k. Some (state_count (near k))) none

  -- a wire without a lane is none of the lanes
  no_lane : (n : ℕ) (v : Edge) → slice_get ws n ≡ Some v → v.lane ≡ None → (m : ℕ) (l : LanePlan) → slice_get lanes m ≡ Some l → l.wire ≡ n → ⊥
  no_lane n v at lane m l al e =
      let p = plan_of homes ws m l al in
      let same : v ≡ p.wire = some_same v p.wire (sym at ∙ (ap (slice_get ws) (sym e) ∙ p.is)) in
      some_none l.size (sym lane ∙ (ap (λ (w : Edge). w.lane) same ∙ p.lane))

  -- and one with a lane is one of them
  lane_there : (n : ℕ) (v : Edge) (size : ℕ) → slice_get ws n ≡ Some v → v.lane ≡ Some size → slice_get lanes (lanes_in (take n ws)) ≡ Some (lane_plan homes n v size)
  lane_there n v size at lane = let none : 0 + n ≡ n = omega arith in lane_get homes 0 ws n v size at lane ∙ ap (λ k. Some (lane_plan homes k v size)) none

  at_lane : (n : ℕ) (v : Edge) (size : ℕ) → slice_get ws n ≡ Some v → v.lane ≡ Some size → slice_get counts n ≡ Some (wire_count (Some size) (near n) (lane_demand lanes all n))
  at_lane n v size at lane =
      let j : ℕ = lanes_in (take n ws) in
      let l = lane_there n v size at lane in
      let lt : j < length lanes = slice_get_within lanes j (lane_plan homes n v size) l in
      let a = there all j (omega (arith, lt, many)) in
      note.each j a.0 (lane_plan homes n v size) (state_count (near n)) l a.1 (was n v at) ∙ ap (λ k. Some (wire_count (Some size) (near n) k)) (sym (found_ask lanes all j (lane_plan homes n v size) a.0 lanes_rise l a.1))

  at_wire : (o : Option ℕ) (n : ℕ) (v : Edge) → slice_get ws n ≡ Some v → v.lane ≡ o → slice_get counts n ≡ Some (wire_count o (near n) (lane_demand lanes all n))
  at_wire None n v at lane = note.others n (λ m l al e. no_lane n v at lane m l al e) ∙ was n v at
  at_wire (Some size) n v at lane = at_lane n v size at lane

  pub drawn : {N : Type 0} (a : Account N) → a.near ≡ near → a.asked ≡ lane_demand lanes all → counts ≡ counts_from a 0 ws
  drawn a near_is asked_is = counts_are a 0 ws counts (note.many ∙ told_many near 0 ws) (λ n v at.
      let none : n ≡ 0 + n = omega arith in
      at_wire v.lane n v at refl ∙ (ap (λ k. Some (wire_count v.lane (near k) (lane_demand lanes all k))) none ∙ (ap (λ (f : ℕ → WireState). Some (wire_count v.lane (f (0 + n)) (lane_demand lanes all (0 + n)))) (sym near_is) ∙ ap (λ (f : ℕ → ℕ). Some (wire_count v.lane (a.near (0 + n)) (f (0 + n)))) (sym asked_is))))
