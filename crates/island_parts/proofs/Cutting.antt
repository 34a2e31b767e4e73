-- Where the links of cut wires stand.
use Rattle.std.proofs.Common.{◌≡◌, ℕ, zero, suc, ◌+◌, ◌<◌, List, [], ◌∷◌, ◌++◌, length, take, Option, Some, None, refl, ap, sym, ◌∙◌, ⊎_elim, ◌⊎◌, inl, inr, arith}
use Rattle.std.specs.Prelude.{slice_get, slice_index}
use Rattle.stream_model.specs.Graph.{Edge}
use Rattle.interpreter.specs.declared.parts.Link.{Link}
use Rattle.blue_check.specs.declared.plan.LanePlan.{LanePlan}
use Rattle.blue_check.specs.Plan.{lane_sized, lanes_from}
use Rattle.island_parts.specs.Whole.{one_lane, lanes_in, near_at, nears_from, far_at, fars_from}

-- a wire that is a lane, and which of the lanes it is
pub record IsLane (ws : List Edge) (j : ℕ) : Type 0 where
  pub at : ℕ
  pub wire : Edge
  pub size : ℕ
  pub is : slice_get ws at ≡ Some wire
  pub lane : wire.lane ≡ Some size
  pub number : lanes_in (take at ws) ≡ j

lane_adds : (o : Option ℕ) (n : ℕ) → ((o ≡ None) × (one_lane o n ≡ n)) ⊎ ((s : ℕ) × ((o ≡ Some s) × (one_lane o n ≡ suc n)))
lane_adds None n = inl (refl, refl)
lane_adds (Some s) n = inr (s, (refl, refl))

pub lane_below : (ws : List Edge) (i : ℕ) (w : Edge) (s : ℕ) → slice_get ws i ≡ Some w → w.lane ≡ Some s → lanes_in (take i ws) < lanes_in ws
lane_below [] i w s at lane = absurd cc
lane_below (v ∷ ws) zero w s at lane =
    let same : v ≡ w = cc in
    let one : one_lane v.lane (lanes_in ws) ≡ suc (lanes_in ws) = ap (λ o. one_lane o (lanes_in ws)) (ap (λ (x : Edge). x.lane) same ∙ lane) in
    omega (arith, one)
lane_below (v ∷ ws) (suc i) w s at lane =
    let rest = lane_below ws i w s at lane in
    ⊎_elim
    (λ (h : (v.lane ≡ None) × (one_lane v.lane (lanes_in ws) ≡ lanes_in ws)). let b : one_lane v.lane (lanes_in (take i ws)) ≡ lanes_in (take i ws) = ap (λ o. one_lane o (lanes_in (take i ws))) h.0 in omega (arith, rest, h.1, b))
    (λ (h : (t : ℕ) × ((v.lane ≡ Some t) × (one_lane v.lane (lanes_in ws) ≡ suc (lanes_in ws)))). let b : one_lane v.lane (lanes_in (take i ws)) ≡ suc (lanes_in (take i ws)) = ap (λ o. one_lane o (lanes_in (take i ws))) h.1.0 in omega (arith, rest, h.1.1, b))
    (lane_adds v.lane (lanes_in ws))

-- two lanes of one number are one
one_zero : (o : Option ℕ) (s n : ℕ) → o ≡ Some s → one_lane o n ≡ 0 → ⊥
one_zero None s n h e = cc
one_zero (Some t) s n h e = absurd (omega (arith, e))

one_same : (o : Option ℕ) (n m : ℕ) → one_lane o n ≡ one_lane o m → n ≡ m
one_same None n m e = e
one_same (Some s) n m e = omega (arith, e)

pub lane_one : (ws : List Edge) (i k : ℕ) (w v : Edge) (s t : ℕ) → slice_get ws i ≡ Some w → w.lane ≡ Some s → slice_get ws k ≡ Some v → v.lane ≡ Some t → lanes_in (take i ws) ≡ lanes_in (take k ws) → i ≡ k
lane_one [] i k w v s t a b c d e = absurd cc
lane_one (x ∷ ws) zero zero w v s t a b c d e = refl
lane_one (x ∷ ws) zero (suc k) w v s t a b c d e = let same : x ≡ w = cc in absurd (one_zero x.lane s (lanes_in (take k ws)) (ap (λ (y : Edge). y.lane) same ∙ b) (sym e))
lane_one (x ∷ ws) (suc i) zero w v s t a b c d e = let same : x ≡ v = cc in absurd (one_zero x.lane t (lanes_in (take i ws)) (ap (λ (y : Edge). y.lane) same ∙ d) e)
lane_one (x ∷ ws) (suc i) (suc k) w v s t a b c d e = ap suc (lane_one ws i k w v s t a b c d (one_same x.lane _ _ e))

-- ---- the links at outputs

pub nears_count : (out u : ℕ) (ws : List Edge) → length (nears_from out u ws) ≡ length ws
nears_count out u [] = refl
nears_count out u (w ∷ ws) = ap suc (nears_count (one_lane w.lane out) (u + 1) ws)

one_plus : (o : Option ℕ) (a b : ℕ) → one_lane o a + b ≡ a + one_lane o b
one_plus None a b = refl
one_plus (Some s) a b = omega arith

pub near_get : (out u : ℕ) (ws : List Edge) (i : ℕ) (w : Edge) → slice_get ws i ≡ Some w → slice_get (nears_from out u ws) i ≡ Some (near_at (out + lanes_in (take i ws)) (u + i) w w.lane)
near_get out u [] i w at = absurd cc
near_get out u (v ∷ ws) zero w at =
    let same : v ≡ w = cc in
    let a : out ≡ out + 0 = omega arith in
    let b : u ≡ u + 0 = omega arith in
    ap (λ (x : Edge). Some (near_at out u x x.lane)) same ∙ ap (λ o. Some (near_at o u w w.lane)) a ∙ ap (λ k. Some (near_at (out + 0) k w w.lane)) b
near_get out u (v ∷ ws) (suc i) w at =
    let rest = near_get (one_lane v.lane out) (u + 1) ws i w at in
    let b : u + 1 + i ≡ u + suc i = omega arith in
    rest ∙ ap (λ o. Some (near_at o (u + 1 + i) w w.lane)) (one_plus v.lane out (lanes_in (take i ws))) ∙ ap (λ k. Some (near_at (out + lanes_in (take (suc i) (v ∷ ws))) k w w.lane)) b

-- ---- the links at inputs

-- the link at the input of a lane
abbrev pub far_link : ℕ → ℕ → Edge → Link
far_link place u w = record { wire = u; from = place; output = 0; to = w.to; input = w.input }

pub fars_count : (place u : ℕ) (ws : List Edge) → length (fars_from place u ws) ≡ lanes_in ws
fars_count place u [] = refl
fars_count place u (w ∷ ws) = by w.lane (fars_from (one_lane w.lane place) (u + 1) ws) (fars_count (one_lane w.lane place) (u + 1) ws)
  where
    by : (o : Option ℕ) (ls : List Link) → length ls ≡ lanes_in ws → length (far_at place u w o ++ ls) ≡ one_lane o (lanes_in ws)
    by None ls e = e
    by (Some s) ls e = ap suc e

pub far_get : (place u : ℕ) (ws : List Edge) (i : ℕ) (w : Edge) (s : ℕ) → slice_get ws i ≡ Some w → w.lane ≡ Some s → slice_get (fars_from place u ws) (lanes_in (take i ws)) ≡ Some (far_link (place + lanes_in (take i ws)) (u + i) w)
far_get place u [] i w s at lane = absurd cc
far_get place u (v ∷ ws) zero w s at lane =
    let same : v ≡ w = cc in
    let a : place ≡ place + 0 = omega arith in
    let b : u ≡ u + 0 = omega arith in
    first v.lane (ap (λ (x : Edge). x.lane) same ∙ lane) ∙ ap (λ (x : Edge). Some (far_link place u x)) same ∙ ap (λ p. Some (far_link p u w)) a ∙ ap (λ k. Some (far_link (place + 0) k w)) b
  where
    first : (o : Option ℕ) → o ≡ Some s → slice_get (far_at place u v o ++ fars_from (one_lane v.lane place) (u + 1) ws) 0 ≡ Some (far_link place u v)
    first None e = cc
    first (Some t) e = refl
far_get place u (v ∷ ws) (suc i) w s at lane =
    let rest = far_get (one_lane v.lane place) (u + 1) ws i w s at lane in
    let b : u + 1 + i ≡ u + suc i = omega arith in
    later v.lane (fars_from (one_lane v.lane place) (u + 1) ws) (lanes_in (take i ws)) ∙ rest ∙ ap (λ p. Some (far_link p (u + 1 + i) w)) (one_plus v.lane place (lanes_in (take i ws)))
    ∙ ap (λ k. Some (far_link (place + lanes_in (take (suc i) (v ∷ ws))) k w)) b
  where
    later : (o : Option ℕ) (ls : List Link) (n : ℕ) → slice_get (far_at place u v o ++ ls) (one_lane o n) ≡ slice_get ls n
    later None ls n = refl
    later (Some t) ls n = refl

-- each number of a lane is that of one
pub lane_there : (ws : List Edge) (j : ℕ) → j < lanes_in ws → IsLane ws j
lane_there [] j lt = absurd (omega (arith, lt))
lane_there (w ∷ ws) j lt = by w.lane j refl lt (λ k below. lane_there ws k below)
  where
    by : (o : Option ℕ) (j : ℕ) → w.lane ≡ o → j < one_lane o (lanes_in ws) → ((k : ℕ) → k < lanes_in ws → IsLane ws k) → IsLane (w ∷ ws) j
    by None j e lt rest =
        let r = rest j lt in
        record { at = suc r.at; wire = r.wire; size = r.size; is = r.is; lane = r.lane; number = ap (λ o. one_lane o (lanes_in (take r.at ws))) e ∙ r.number }
    by (Some s) zero e lt rest = record { at = 0; wire = w; size = s; is = refl; lane = e; number = refl }
    by (Some s) (suc j) e lt rest =
        let r = rest j (omega (arith, lt)) in
        record { at = suc r.at; wire = r.wire; size = r.size; is = r.is; lane = r.lane; number = ap (λ o. one_lane o (lanes_in (take r.at ws))) e ∙ ap suc r.number }

-- ---- lanes of a plan

pub lanes_count : (homes : List ℕ) (u : ℕ) (ws : List Edge) → length (lanes_from homes u ws) ≡ lanes_in ws
lanes_count homes u [] = refl
lanes_count homes u (w ∷ ws) = by w.lane (lanes_from homes (u + 1) ws) (lanes_count homes (u + 1) ws)
  where
    by : (o : Option ℕ) (ls : List LanePlan) → length ls ≡ lanes_in ws → length (lane_sized homes u w o ++ ls) ≡ one_lane o (lanes_in ws)
    by None ls e = e
    by (Some s) ls e = ap suc e

abbrev pub lane_plan : List ℕ → ℕ → Edge → ℕ → LanePlan
lane_plan homes u w s = record { wire = u; size = s; keep = w.keep; from = slice_index homes w.from; to = slice_index homes w.to; hub = w.hub }

pub lane_get : (homes : List ℕ) (u : ℕ) (ws : List Edge) (i : ℕ) (w : Edge) (s : ℕ) → slice_get ws i ≡ Some w → w.lane ≡ Some s → slice_get (lanes_from homes u ws) (lanes_in (take i ws)) ≡ Some (lane_plan homes (u + i) w s)
lane_get homes u [] i w s at lane = absurd cc
lane_get homes u (v ∷ ws) zero w s at lane =
    let same : v ≡ w = cc in
    let b : u ≡ u + 0 = omega arith in
    first v.lane (ap (λ (x : Edge). x.lane) same ∙ lane) ∙ ap (λ (x : Edge). Some (lane_plan homes u x s)) same ∙ ap (λ k. Some (lane_plan homes k w s)) b
  where
    first : (o : Option ℕ) → o ≡ Some s → slice_get (lane_sized homes u v o ++ lanes_from homes (u + 1) ws) 0 ≡ Some (lane_plan homes u v s)
    first None e = cc
    first (Some t) e = let same : t ≡ s = cc in ap (λ n. Some (lane_plan homes u v n)) same
lane_get homes u (v ∷ ws) (suc i) w s at lane =
    let rest = lane_get homes (u + 1) ws i w s at lane in
    let b : u + 1 + i ≡ u + suc i = omega arith in
    later v.lane (lanes_from homes (u + 1) ws) (lanes_in (take i ws)) ∙ rest ∙ ap (λ k. Some (lane_plan homes k w s)) b
  where
    later : (o : Option ℕ) (ls : List LanePlan) (n : ℕ) → slice_get (lane_sized homes u v o ++ ls) (one_lane o n) ≡ slice_get ls n
    later None ls n = refl
    later (Some t) ls n = refl
