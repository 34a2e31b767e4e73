-- The islands of lanes, by their numbers.
use Rattle.std.specs.Prelude.{slice_get}
use Rattle.std.specs.Option.{option_map}
use Rattle.std.specs.List.{All}
use Rattle.std.proofs.Common.{◌≡◌, ℕ, zero, suc, ◌<◌, List, [], ◌∷◌, length, map, Some, refl, ap, sym, ◌∙◌, subst, arith}
use Rattle.std.proofs.lemmas.List.{length-map}
use Rattle.std.proofs.lemmas.List.Elements.{All-from_get_or}
use Rattle.std.proofs.lemmas.Option.{slice_get-map, get_or_from_slice_get}
use Rattle.blue_check.specs.declared.plan.LanePlan.{LanePlan}

-- what stands at a place of a list
there : {X : Type 0} (xs : List X) (n : ℕ) → n < length xs → (x : X) × (slice_get xs n ≡ Some x)
there [] n lt = absurd (omega (arith, lt))
there (x ∷ xs) zero lt = (x, refl)
there (x ∷ xs) (suc n) lt = there xs n (omega (arith, lt))

-- the islands of lanes are below their number
pub homes_below : (lanes : List LanePlan) (home : LanePlan → ℕ) (count : ℕ) (homes : List ℕ) → homes ≡ map home lanes → ((n : ℕ) (l : LanePlan) → slice_get lanes n ≡ Some l → home l < count) → All (λ h. h < count) homes
homes_below lanes home count homes is below = All-from_get_or (λ h. h < count) homes 0 (λ i lt.
    let size : length homes ≡ length lanes = ap length is ∙ length-map lanes home in
    let l = there lanes i (omega (arith, size, lt)) in
    let here : slice_get homes i ≡ Some (home l.0) = ap (λ hs. slice_get hs i) is ∙ slice_get-map home lanes i ∙ ap (option_map home) l.1 in
    subst (λ h. h < count) (sym (get_or_from_slice_get homes i (home l.0) 0 here)) (below i l.0 l.1))
