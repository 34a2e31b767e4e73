-- Counts of the folder that follow one another.
use Rattle.std.proofs.Common.{◌≡◌, ◌≢◌, ◌⊎◌, inl, inr, ℕ, zero, suc, ◌+◌, ◌<◌, Bool, true, false, List, [], ◌∷◌, length, refl, subst, arith, lit<}
use Rattle.std.specs.Prelude.{IsTrue, Option, Some, None, IsSome, slice_index_or}
use Rattle.std.specs.List.{Contains}
use Rattle.stream_io.specs.Counts.{Rose, Grew, last_count}
use Rattle.stream_io.proofs.Counts.{grew_two, same_name}

-- it did not rise, and then it grew
pub grew_behind : (a b c n : ℕ) → Grew a 0 b → Grew b n c → Grew a n c
grew_behind a b c n p q = let same : 0 + n ≡ n = omega arith in subst (λ k. Grew a k c) same (grew_two a b c 0 n p q)

-- a count that grew by more than nothing rose
pub rose_by : (a n b : ℕ) → Grew a n b → 0 < n → Rose a b
rose_by a n b p h = λ k. let e : b ≡ a + n = p.grew k in omega (arith, e, h)

rose_above : (a b m : ℕ) → a ≡ 0 → (b < m → a < b) → 0 < m → 0 < b
rose_above a b m e r h = grind arith

-- what rose from nothing is more than nothing
pub rose_from_none : (a b : ℕ) → a ≡ 0 → Rose a b → 0 < b
rose_from_none a b e r = rose_above a b last_count e r (lit< tt)

-- a count that is not 0
abbrev pub is_positive : ℕ → Bool
is_positive zero = false
is_positive (suc n) = true

pub positive : (n : ℕ) → 0 < n → IsTrue (is_positive n)
positive zero h = absurd (omega arith)
positive (suc n) h = refl

pub above_none : (n : ℕ) → IsTrue (is_positive n) → 0 < n
above_none zero h = cc
above_none (suc n) h = omega arith

pub not_positive : (n : ℕ) → is_positive n ≡ false → n ≡ 0
not_positive zero h = refl
not_positive (suc n) h = absurd cc

-- a name is among these, or it is not
contains_more : (x : List ℕ) (xs : List (List ℕ)) (n : List ℕ) → Contains xs n → Contains (x ∷ xs) n
contains_more x xs n c = (suc c.0, omega (arith, c.1), c.2)

contains_head : (x : List ℕ) (xs : List (List ℕ)) (n : List ℕ) → x ≡ n → Contains (x ∷ xs) n
contains_head x xs n e = (0, omega arith, e)

not_there : (x : List ℕ) (xs : List (List ℕ)) (n : List ℕ) → x ≢ n → (Contains xs n → ⊥) → (k : ℕ) → k < length (x ∷ xs) → slice_index_or (x ∷ xs) k n ≡ n → ⊥
not_there x xs n differs never zero h e = differs e
not_there x xs n differs never (suc k) h e = never (k, omega (arith, h), e)

pub contains_or_not : (xs : List (List ℕ)) (n : List ℕ) → Contains xs n ⊎ (Contains xs n → ⊥)
contains_or_not [] n = inr (λ c. omega (arith, c.1))
contains_or_not (x ∷ xs) n = elim (same_name x n) [
  | inl e ↦ inl (contains_head x xs n e)
  | inr differs ↦ (elim (contains_or_not xs n) as (λ _. Contains (x ∷ xs) n ⊎ (Contains (x ∷ xs) n → ⊥)) [ inl c ↦ inl (contains_more x xs n c) | inr never ↦ inr (λ c. not_there x xs n differs never c.0 c.1 c.2) ])
]

pub some_of : (o : Option (List ℕ)) → IsSome o → (b : List ℕ) × (o ≡ Some b)
some_of None h = cc
some_of (Some b) h = (b, refl)
