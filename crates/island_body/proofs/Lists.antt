-- One of a list was put in place of another.
use Rattle.std.proofs.Common.{◌≡◌, ◌≢◌, ◌⊎◌, inl, inr, ℕ, zero, suc, ◌+◌, ◌<◌, Some, List, [], ◌∷◌, length, map, set, slice_get, refl, sym, ap, ◌∙◌, subst, arith}
use Rattle.std.specs.Prelude.{get_or}
use Rattle.std.proofs.lemmas.Option.{slice_get_within}
use Rattle.fused_net.proofs.Reading.{same_or_not, get_set_same, get_set_other}
use Rattle.lane_core.specs.Ends.{taken_items, finds}
use Rattle.island_body.specs.declared.output.OutputBoundary.{OutputBoundary}
use Rattle.island_body.specs.declared.input.IslandInput.{IslandInput}
use Rattle.island_body.specs.Ends.{all_taken, all_finds}

pub some_same : {A : Type 0} (x y : A) → Some x ≡ Some y → x ≡ y
some_same x y e = cc

-- the one that was borrowed
pub get_here : {A : Type 0} (xs : List A) (n : ℕ) (d : A) → n < length xs → slice_get xs n ≡ Some (get_or xs n d)
get_here [] n d h = absurd (omega arith)
get_here (x ∷ xs) zero d h = refl
get_here (x ∷ xs) (suc n) d h = get_here xs n d (omega arith)

-- what stands at a place then
pub at_set : {A : Type 0} (xs : List A) (k j : ℕ) (x y z : A) → slice_get xs k ≡ Some x → slice_get (set xs k y) j ≡ Some z → ((j ≡ k) × (z ≡ y)) ⊎ ((j ≢ k) × (slice_get xs j ≡ Some z))
at_set xs k j x y z at e = elim (same_or_not j k) [
  | inl same ↦ (let here : slice_get (set xs k y) k ≡ Some z = rw same at e in inl (same, some_same z y (sym here ∙ get_set_same xs k y (slice_get_within xs k x at))))
  | inr other ↦ inr (other, sym (get_set_other xs k j y other) ∙ e)
]

-- what holds of each and of the one that was put holds at each place
pub at_one : {A : Type 0} (R : A → A → Type 0) (xs : List A) (k : ℕ) (x y : A) → slice_get xs k ≡ Some x → ((z : A) → R z z) → R x y → (j : ℕ) (u v : A) → slice_get xs j ≡ Some u → slice_get (set xs k y) j ≡ Some v → R u v
at_one R xs k x y at still r j u v eu ev = elim (at_set xs k j x y v at ev) [
  | inl here ↦ (let was : x ≡ u = some_same x u (sym at ∙ (ap (λ (n : ℕ). slice_get xs n) (sym here.0) ∙ eu)) in subst (λ z. R z v) was (subst (λ z. R x z) (sym here.1) r))
  | inr there ↦ (let is : u ≡ v = some_same u v (sym eu ∙ there.1) in subst (λ z. R u z) is (still u))
]

pub map_set : {A B : Type 0} (f : A → B) (xs : List A) (k : ℕ) (x y : A) → slice_get xs k ≡ Some x → f y ≡ f x → map f (set xs k y) ≡ map f xs
map_set f [] k x y at e = refl
map_set f (z ∷ xs) zero x y at e = ap (λ (w : _). w ∷ map f xs) (e ∙ ap f (sym (some_same z x at)))
map_set f (z ∷ xs) (suc k) x y at e = ap (λ (l : List _). f z ∷ l) (map_set f xs k x y at e)

pub map_at : {A B : Type 0} (f : A → B) (xs : List A) (k : ℕ) (x : A) → slice_get xs k ≡ Some x → slice_get (map f xs) k ≡ Some (f x)
map_at f [] k x at = absurd cc
map_at f (z ∷ xs) zero x at = ap (λ (w : _). Some (f w)) (some_same z x at)
map_at f (z ∷ xs) (suc k) x at = map_at f xs k x at

pub taken_set : (xs : List IslandInput) (k : ℕ) (x y : IslandInput) (n : ℕ) → slice_get xs k ≡ Some x → length (taken_items y.boundary.lane) ≡ length (taken_items x.boundary.lane) + n → all_taken (set xs k y) ≡ all_taken xs + n
taken_set [] k x y n at e = absurd cc
taken_set (z ∷ xs) zero x y n at e = let same = ap (λ (w : IslandInput). length (taken_items w.boundary.lane)) (some_same z x at) in omega (arith, same, e)
taken_set (z ∷ xs) (suc k) x y n at e = let rest = taken_set xs k x y n at e in omega (arith, rest)

pub finds_set : (os : List OutputBoundary) (k : ℕ) (o p : OutputBoundary) (n : ℕ) → slice_get os k ≡ Some o → finds p.lane ≡ finds o.lane + n → all_finds (set os k p) ≡ all_finds os + n
finds_set [] k o p n at e = absurd cc
finds_set (z ∷ os) zero o p n at e = let same = ap (λ (w : OutputBoundary). finds w.lane) (some_same z o at) in omega (arith, same, e)
finds_set (z ∷ os) (suc k) o p n at e = let rest = finds_set os k o p n at e in omega (arith, rest)
