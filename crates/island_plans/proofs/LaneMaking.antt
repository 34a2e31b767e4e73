-- The loops over lanes.
use Rattle.std.proofs.Common.{◌≡◌, ℕ, zero, suc, ◌+◌, ◌<◌, List, [], ◌∷◌, ◌++◌, length, get_or, Some, None, refl, ap, sym, ◌∙◌, subst, ⊎_elim, ◌⊎◌, inl, inr, length-append, arith, false}
use Rattle.std.specs.Prelude.{slice_get, slice_index}
use Rattle.std.proofs.lemmas.Option.{slice_get_within, slice_get-get_or}
use Rattle.island_body.specs.declared.input.IslandInput.{IslandInput}
use Rattle.island_body.specs.declared.output.OutputBoundary.{OutputBoundary}
use Rattle.lane_core.specs.declared.crossing.Crossing.{Crossing}
use Rattle.blue_check.specs.declared.plan.LanePlan.{LanePlan}
use Rattle.island_plans.specs.LaneEnds.{AreEnds, AreMade, AreCrossingsOf}

-- what stands at a place of a list to which one was put
record IsLast {X : Type 0} (xs : List X) (x : X) (k : ℕ) (y : X) : Type 0 where
  pub place : k ≡ length xs
  pub is : y ≡ x

pushed : {X : Type 0} (xs : List X) (x : X) (k : ℕ) (y : X) → slice_get (xs ++ x ∷ []) k ≡ Some y → (slice_get xs k ≡ Some y) ⊎ IsLast xs x k y
pushed [] x zero y at = let e : x ≡ y = cc in inr (record { place = refl; is = sym e })
pushed [] x (suc k) y at = absurd cc
pushed (z ∷ xs) x zero y at = inl at
pushed (z ∷ xs) x (suc k) y at = ⊎_elim (λ (a : slice_get xs k ≡ Some y). inl a) (λ (l : IsLast xs x k y). inr (record { place = ap suc l.place; is = l.is })) (pushed xs x k y at)

one_more : {X : Type 0} (xs new : List X) (x : X) → new ≡ xs ++ x ∷ [] → length new ≡ length xs + 1
one_more xs new x e = ap length e ∙ length-append xs (x ∷ [])

-- a lane that was read is the one that stands there
abbrev pub no_lane : LanePlan
no_lane = record { wire = 0; size = 0; keep = false; from = 0; to = 0; hub = None }

pub lane_at : (lanes : List LanePlan) (n : ℕ) → n < length lanes → slice_get lanes n ≡ Some (get_or lanes n no_lane)
lane_at lanes n lt = slice_get-get_or lanes n no_lane lt

same_lane : (l m : LanePlan) → Some l ≡ Some m → l ≡ m
same_lane l m e = cc

module _ (lanes : List LanePlan) where
  -- the ends of the first n lanes
  pub record Making (n : ℕ) (outs : List OutputBoundary) (ins : List IslandInput) : Type 0 where
    pub outs_many : length outs ≡ n
    pub ins_many : length ins ≡ n
    pub each : (k : ℕ) (l : LanePlan) (o : OutputBoundary) (i : IslandInput) → slice_get lanes k ≡ Some l → slice_get outs k ≡ Some o → slice_get ins k ≡ Some i → AreEnds l o i

  pub making_first : (outs : List OutputBoundary) (ins : List IslandInput) → outs ≡ [] → ins ≡ [] → Making 0 outs ins
  making_first outs ins a b = record { outs_many = ap length a; ins_many = ap length b; each = λ k l o i at ao ai. nothing k l o i (sym (ap (λ xs. slice_get xs k) a) ∙ ao) }
    where
      nothing : (k : ℕ) (l : LanePlan) (o : OutputBoundary) (i : IslandInput) → slice_get {X = OutputBoundary} [] k ≡ Some o → AreEnds l o i
      nothing k l o i at = cc

  pub making_next : (n : ℕ) (l : LanePlan) (outs outs' : List OutputBoundary) (ins ins' : List IslandInput) (o : OutputBoundary) (i : IslandInput) → Making n outs ins → slice_get lanes n ≡ Some l → outs' ≡ outs ++ o ∷ [] → ins' ≡ ins ++ i ∷ [] → AreEnds l o i → Making (n + 1) outs' ins'
  making_next n l outs outs' ins ins' o i m at mo mi e = record {
    outs_many = one_more outs outs' o mo ∙ ap (λ k. k + 1) m.outs_many;
    ins_many = one_more ins ins' i mi ∙ ap (λ k. k + 1) m.ins_many;
    each = λ k l' o' i' al ao ai.
        ⊎_elim
        (λ (a : slice_get outs k ≡ Some o').
        let w = slice_get_within outs k o' a in
        ⊎_elim
        (λ (b : slice_get ins k ≡ Some i'). m.each k l' o' i' al a b)
        (λ (b : IsLast ins i k i'). absurd (omega (arith, w, b.place, m.outs_many, m.ins_many)))
        (pushed ins i k i' (sym (ap (λ xs. slice_get xs k) mi) ∙ ai)))
        (λ (a : IsLast outs o k o').
        ⊎_elim
        (λ (b : slice_get ins k ≡ Some i'). let w = slice_get_within ins k i' b in absurd (omega (arith, w, a.place, m.outs_many, m.ins_many)))
        (λ (b : IsLast ins i k i').
        let here : slice_get lanes n ≡ Some l' = ap (slice_get lanes) (sym (a.place ∙ m.outs_many)) ∙ al in
        let same : l ≡ l' = same_lane l l' (sym at ∙ here) in
        subst (λ x. AreEnds x o' i') same (subst (λ x. AreEnds l x i') (sym a.is) (subst (λ x. AreEnds l o x) (sym b.is) e)))
        (pushed ins i k i' (sym (ap (λ xs. slice_get xs k) mi) ∙ ai)))
        (pushed outs o k o' (sym (ap (λ xs. slice_get xs k) mo) ∙ ao));
  }

  pub making_last : (n : ℕ) (outs : List OutputBoundary) (ins : List IslandInput) → n ≡ length lanes → Making n outs ins → AreMade lanes outs ins
  making_last n outs ins e m = record { outs_many = m.outs_many ∙ e; ins_many = m.ins_many ∙ e; each = m.each }

  module _ (outs ins : List ℕ) where
    -- where the ends of the first n lanes lie
    pub record Crosses (n : ℕ) (crossings : List Crossing) : Type 0 where
      pub many : length crossings ≡ n
      pub each : (k : ℕ) (l : LanePlan) (c : Crossing) → slice_get lanes k ≡ Some l → slice_get crossings k ≡ Some c → c ≡ record { from = l.from; out = slice_index outs k; to = l.to; inp = slice_index ins k }

    pub crosses_first : (crossings : List Crossing) → crossings ≡ [] → Crosses 0 crossings
    crosses_first crossings e = record { many = ap length e; each = λ k l c at ac. nothing k l c (sym (ap (λ xs. slice_get xs k) e) ∙ ac) }
      where
        nothing : (k : ℕ) (l : LanePlan) (c : Crossing) → slice_get {X = Crossing} [] k ≡ Some c → c ≡ record { from = l.from; out = slice_index outs k; to = l.to; inp = slice_index ins k }
        nothing k l c at = cc

    pub crosses_next : (n : ℕ) (l : LanePlan) (crossings new : List Crossing) (x : Crossing) → Crosses n crossings → slice_get lanes n ≡ Some l → new ≡ crossings ++ x ∷ [] → x.from ≡ l.from → x.out ≡ slice_index outs n → x.to ≡ l.to → x.inp ≡ slice_index ins n → Crosses (n + 1) new
    crosses_next n l crossings new x m at more from out to inp = record {
      many = one_more crossings new x more ∙ ap (λ k. k + 1) m.many;
      each = λ k l' c al ac.
          ⊎_elim
          (λ (a : slice_get crossings k ≡ Some c). m.each k l' c al a)
          (λ (a : IsLast crossings x k c).
          let place : k ≡ n = a.place ∙ m.many in
          let here : slice_get lanes n ≡ Some l' = ap (slice_get lanes) (sym place) ∙ al in
          let same : l ≡ l' = same_lane l l' (sym at ∙ here) in
          let o : x.out ≡ slice_index outs k = out ∙ ap (slice_index outs) (sym place) in
          let i : x.inp ≡ slice_index ins k = inp ∙ ap (slice_index ins) (sym place) in
          a.is ∙ by x l'.from (slice_index outs k) l'.to (slice_index ins k) (from ∙ ap (λ (y : LanePlan). y.from) same) o (to ∙ ap (λ (y : LanePlan). y.to) same) i)
          (pushed crossings x k c (sym (ap (λ xs. slice_get xs k) more) ∙ ac));
    }
      where
        by : (y : Crossing) (f o t i : ℕ) → y.from ≡ f → y.out ≡ o → y.to ≡ t → y.inp ≡ i → y ≡ record { from = f; out = o; to = t; inp = i }
        by y f o t i a b c d =
            let made : ℕ → ℕ → ℕ → ℕ → Crossing = λ p q u v. record { from = p; out = q; to = u; inp = v } in
            ap (λ n. made n y.out y.to y.inp) a ∙ ap (λ n. made f n y.to y.inp) b ∙ ap (λ n. made f o n y.inp) c ∙ ap (λ n. made f o t n) d

    pub crosses_last : (n : ℕ) (crossings : List Crossing) → n ≡ length lanes → Crosses n crossings → AreCrossingsOf lanes outs ins crossings
    crosses_last n crossings e m = record { many = m.many ∙ e; each = m.each }
