-- The numbers of a blueprint's nodes, and lists read off others.
use Rattle.std.specs.Prelude.{slice_get, All}
use Rattle.std.proofs.Common.{◌≡◌, ℕ, zero, suc, ◌+◌, List, [], ◌∷◌, ◌++◌, length, map, Some, refl, ap, ◌∙◌, subst, arith}
use Rattle.stream_model.specs.Composed.{count_from}
use Rattle.interpreter.specs.Picks.{place_number}
use Rattle.interpreter.specs.declared.parts.Seated.{Seated}
use Rattle.stream_model.specs.declared.blueprint.Node as blue
use Rattle.materializer.specs.Graphs.{Around}
use Rattle.materializer.specs.Seats.{AreSeats}

pub map_both : {X Y : Type 0} (f : X → Y) (xs ys : List X) → map f (xs ++ ys) ≡ map f xs ++ map f ys
map_both f [] ys = refl
map_both f (x ∷ xs) ys = ap (λ l. f x ∷ l) (map_both f xs ys)

-- what holds of each that is read off
all_first : (P : ℕ → Type 0) (h : ℕ) (hs : List ℕ) → P h → All P hs → All P (h ∷ hs)
all_first P h hs p q zero d l = p
all_first P h hs p q (suc k) d l = q k d (omega (arith, l))

pub all_read : {X : Type 0} (P : ℕ → Type 0) (f : X → ℕ) (xs : List X) → ((k : ℕ) (x : X) → slice_get xs k ≡ Some x → P (f x)) → All P (map f xs)
all_read P f [] h = λ k d l. absurd (omega (arith, l))
all_read P f (x ∷ xs) h = all_first P (f x) (map f xs) (h 0 x refl) (all_read P f xs (λ k y e. h (suc k) y e))

-- each of some items is read off another
pub each_read : {X Y : Type 0} (P : Y → Type 0) (f : X → Y) → ((x : X) → P (f x)) → (xs : List X) (k : ℕ) (y : Y) → slice_get (map f xs) k ≡ Some y → P y
each_read P f h [] k y e = absurd cc
each_read {X = X} {Y = Y} P f h (x ∷ xs) zero y e = carry (f x) y e (h x)
  where
    carry : (u v : Y) → Some u ≡ Some v → P u → P v
    carry u v s p = let same : u ≡ v = cc in subst (λ (z : Y). P z) same p
each_read P f h (x ∷ xs) (suc k) y e = each_read P f h xs k y e

-- or stands in one of two lists
pub each_both : {Y : Type 0} (P : Y → Type 0) (xs ys : List Y) → ((k : ℕ) (y : Y) → slice_get xs k ≡ Some y → P y) → ((k : ℕ) (y : Y) → slice_get ys k ≡ Some y → P y) → (k : ℕ) (y : Y) → slice_get (xs ++ ys) k ≡ Some y → P y
each_both P [] ys a b k y e = b k y e
each_both P (x ∷ xs) ys a b zero y e = a 0 y e
each_both P (x ∷ xs) ys a b (suc k) y e = each_both P xs ys (λ j z f. a (suc j) z f) b k y e

-- the nodes of a blueprint have their own numbers
pub seat_numbers : {S D L H B : Type 0} (around : Around) (k : ℕ) (ns : List blue.Node) (ss : List S) (ds : List D) (ps : List (Seated S D L H B)) → AreSeats around k ns ss ds ps → map place_number ps ≡ count_from k (length ps)
seat_numbers around k [] ss ds [] a = refl
seat_numbers around k [] ss ds (p ∷ ps) a = absurd a
seat_numbers around k (n ∷ ns) ss ds [] a = absurd a
seat_numbers around k (n ∷ ns) ss ds (p ∷ ps) a = ap (λ (j : ℕ). j ∷ map place_number ps) a.0 ∙ ap (λ l. k ∷ l) (seat_numbers around (k + 1) ns _ _ ps a.1.1)
