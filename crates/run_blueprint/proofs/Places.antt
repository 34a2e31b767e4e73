-- Elements of lists by their places.
use Rattle.std.proofs.Common.{◌≡◌, ℕ, zero, suc, ◌<◌, List, [], ◌∷◌, length, map, slice_get, refl, sym, ap, ◌∙◌, subst, arith}
use Rattle.std.specs.Prelude.{Option, Some, None, slice_index_or}
use Rattle.std.specs.Option.{option_map}
use Rattle.std.specs.List.{All, Contains, filter_map, cons_option}

-- a place that has an element is within the list, and reads it
pub place_within : {A : Type 0} (xs : List A) (i : ℕ) (x : A) → slice_get xs i ≡ Some x → i < length xs
place_within [] i x e = absurd cc
place_within (y ∷ ys) zero x e = omega arith
place_within (y ∷ ys) (suc i) x e = let h : i < length ys = place_within ys i x e in omega (arith, h)

pub place_reads : {A : Type 0} (xs : List A) (i : ℕ) (x d : A) → slice_get xs i ≡ Some x → slice_index_or xs i d ≡ x
place_reads [] i x d e = absurd cc
place_reads (y ∷ ys) zero x d e = cc
place_reads (y ∷ ys) (suc i) x d e = place_reads ys i x d e

pub all_at : {A : Type 0} (P : A → Type 0) (xs : List A) (i : ℕ) (x : A) → All P xs → slice_get xs i ≡ Some x → P x
all_at P xs i x all e = subst P (place_reads xs i x x e) (all i x (place_within xs i x e))

pub contains_at : {A : Type 0} (xs : List A) (i : ℕ) (x : A) → slice_get xs i ≡ Some x → Contains xs x
contains_at xs i x e = (i, place_within xs i x e, place_reads xs i x x e)

pub place_of : {A : Type 0} (xs : List A) (i : ℕ) → i < length xs → (x : A) × (slice_get xs i ≡ Some x)
place_of [] i h = absurd (omega arith)
place_of (y ∷ ys) zero h = (y, refl)
place_of (y ∷ ys) (suc i) h = place_of ys i (omega (arith, h))

-- and back
pub contained_at : {A : Type 0} (xs : List A) (x : A) → Contains xs x → (i : ℕ) × (slice_get xs i ≡ Some x)
contained_at xs x c =
    let found = place_of xs c.0 c.1 in
    let same : found.0 ≡ x = sym (place_reads xs c.0 found.0 x found.1) ∙ c.2 in
    (c.0, found.1 ∙ ap Some same)

-- the element of a mapped list
pub mapped_at : {A B : Type 0} (f : A → B) (xs : List A) (i : ℕ) (x : A) → slice_get xs i ≡ Some x → slice_get (map f xs) i ≡ Some (f x)
mapped_at f [] i x e = absurd cc
mapped_at f (y ∷ ys) zero x e = let same : y ≡ x = cc in ap (λ z. Some (f z)) same
mapped_at f (y ∷ ys) (suc i) x e = mapped_at f ys i x e

pub unmapped_at : {A B : Type 0} (f : A → B) (xs : List A) (i : ℕ) (y : B) → slice_get (map f xs) i ≡ Some y → (x : A) × ((slice_get xs i ≡ Some x) × (y ≡ f x))
unmapped_at f [] i y e = absurd cc
unmapped_at f (x ∷ xs) zero y e = (x, (refl, cc))
unmapped_at f (x ∷ xs) (suc i) y e = unmapped_at f xs i y e

-- an element that a filter keeps has a place among those that it keeps
kept_there : {B : Type 0} (o : Option B) (ys : List B) (y : B) → o ≡ Some y → slice_get (cons_option o ys) 0 ≡ Some y
kept_there None ys y e = absurd cc
kept_there (Some x) ys y e = cc

kept_later : {B : Type 0} (o : Option B) (ys : List B) (i : ℕ) (y : B) → slice_get ys i ≡ Some y → (j : ℕ) × (slice_get (cons_option o ys) j ≡ Some y)
kept_later None ys i y e = (i, e)
kept_later (Some x) ys i y e = (suc i, e)

pub filtered_at : {A B : Type 0} (h : A → Option B) (xs : List A) (k : ℕ) (x : A) (y : B) → slice_get xs k ≡ Some x → h x ≡ Some y → (i : ℕ) × (slice_get (filter_map h xs) i ≡ Some y)
filtered_at h [] k x y e is = absurd cc
filtered_at h (z ∷ zs) zero x y e is = let same : z ≡ x = cc in (0, kept_there (h z) (filter_map h zs) y (ap h same ∙ is))
filtered_at h (z ∷ zs) (suc k) x y e is = let later = filtered_at h zs k x y e is in kept_later (h z) (filter_map h zs) later.0 y later.1

-- and an element among those comes from one that it keeps
unfiltered_by : {A B : Type 0} (h : A → Option B) (x : A) (xs : List A) (o : Option B) (i : ℕ) (y : B) → h x ≡ o → slice_get (cons_option o (filter_map h xs)) i ≡ Some y → ((i : ℕ) (y : B) → slice_get (filter_map h xs) i ≡ Some y → (k : ℕ) × ((z : A) × ((slice_get xs k ≡ Some z) × (h z ≡ Some y)))) → (k : ℕ) × ((z : A) × ((slice_get (x ∷ xs) k ≡ Some z) × (h z ≡ Some y)))
unfiltered_by h x xs None i y is e later = let there = later i y e in (suc there.0, (there.1.0, there.1.1))
unfiltered_by h x xs (Some z) zero y is e later = let same : z ≡ y = cc in (0, (x, (refl, is ∙ ap Some same)))
unfiltered_by h x xs (Some z) (suc i) y is e later = let there = later i y e in (suc there.0, (there.1.0, there.1.1))

pub unfiltered_at : {A B : Type 0} (h : A → Option B) (xs : List A) (i : ℕ) (y : B) → slice_get (filter_map h xs) i ≡ Some y → (k : ℕ) × ((x : A) × ((slice_get xs k ≡ Some x) × (h x ≡ Some y)))
unfiltered_at h [] i y e = absurd cc
unfiltered_at h (x ∷ xs) i y e = unfiltered_by h x xs (h x) i y refl e (unfiltered_at h xs)

-- two filters of lists that go along keep what goes along
consed_along : {Y Z : Type 0} (g : Y → Z) (o : Option Y) (p : Option Z) (zs : List Z) (ys : List Y) → p ≡ option_map g o → zs ≡ map g ys → cons_option p zs ≡ map g (cons_option o ys)
consed_along g None p zs ys e h = rw e h
consed_along g (Some y) p zs ys e h = rw e (ap (λ l. g y ∷ l) h)

pub filtered_along : {N X Y Z : Type 0} (f : N → Option Z) (h : X → Option Y) (g : Y → Z) (ns : List N) (xs : List X) → length ns ≡ length xs → ((k : ℕ) (n : N) (x : X) → slice_get ns k ≡ Some n → slice_get xs k ≡ Some x → f n ≡ option_map g (h x)) → filter_map f ns ≡ map g (filter_map h xs)
filtered_along f h g [] [] e p = refl
filtered_along f h g [] (x ∷ xs) e p = absurd (omega (arith, e))
filtered_along f h g (n ∷ ns) [] e p = absurd (omega (arith, e))
filtered_along f h g (n ∷ ns) (x ∷ xs) e p = consed_along g (h x) (f n) (filter_map f ns) (filter_map h xs) (p 0 n x refl refl) (filtered_along f h g ns xs (omega (arith, e)) (λ k m y a b. p (suc k) m y a b))

-- what holds of each mapped element
pub all_unmapped : {A B : Type 0} (P : B → Type 0) (f : A → B) (xs : List A) → All P (map f xs) → All (λ x. P (f x)) xs
all_unmapped P f xs all = λ k d h.
    let found = place_of xs k h in
    subst (λ y. P (f y)) (sym (place_reads xs k found.0 d found.1)) (all_at P (map f xs) k (f found.0) all (mapped_at f xs k found.0 found.1))

pub map_two : {A B C : Type 0} (g : B → C) (f : A → B) (xs : List A) → map g (map f xs) ≡ map (λ x. g (f x)) xs
map_two g f [] = refl
map_two g f (x ∷ xs) = ap (λ l. g (f x) ∷ l) (map_two g f xs)

-- two elements at one place are one
pub place_one : {A : Type 0} (xs : List A) (i : ℕ) (x y : A) → slice_get xs i ≡ Some x → slice_get xs i ≡ Some y → x ≡ y
place_one xs i x y a b = cc
