-- Nodes that stand at places, one by one.
use Rattle.std.proofs.Common.{◌≡◌, ℕ, zero, suc, List, [], ◌∷◌, ◌++◌, length, Some, refl, ap, subst, arith}
use Rattle.std.specs.Prelude.{slice_get}
use Rattle.nodes.specs.declared.node.IslandNode.{IslandNode}
use Rattle.interpreter.specs.declared.parts.Seated.{Seated}
use Rattle.interpreter.specs.Parts.{Becomes, AllBecome}

module _ {S D L H B : Type 0} where
  pub become_count : (ss : List (Seated S D L H B)) (xs : List (IslandNode S D L H B)) → AllBecome ss xs → length xs ≡ length ss
  become_count [] [] h = refl
  become_count [] (x ∷ xs) h = absurd h
  become_count (s ∷ ss) [] h = absurd h
  become_count (s ∷ ss) (x ∷ xs) h = ap suc (become_count ss xs h.1)

  pub become_at : (ss : List (Seated S D L H B)) (xs : List (IslandNode S D L H B)) (i : ℕ) (s : Seated S D L H B) → AllBecome ss xs → slice_get ss i ≡ Some s → (x : IslandNode S D L H B) × ((slice_get xs i ≡ Some x) × Becomes s x)
  become_at [] xs i s h at = absurd cc
  become_at (t ∷ ss) [] i s h at = absurd h
  become_at (t ∷ ss) (x ∷ xs) zero s h at = let same : t ≡ s = cc in (x, (refl, subst (λ (z : Seated S D L H B). Becomes z x) same h.0))
  become_at (t ∷ ss) (x ∷ xs) (suc i) s h at = become_at ss xs i s h.1 at

  pub all_become : (ss : List (Seated S D L H B)) (xs : List (IslandNode S D L H B)) → length xs ≡ length ss → ((i : ℕ) (s : Seated S D L H B) (x : IslandNode S D L H B) → slice_get ss i ≡ Some s → slice_get xs i ≡ Some x → Becomes s x) → AllBecome ss xs
  all_become [] [] e h = tt
  all_become [] (x ∷ xs) e h = absurd (omega (arith, e))
  all_become (s ∷ ss) [] e h = absurd (omega (arith, e))
  all_become (s ∷ ss) (x ∷ xs) e h = (h 0 s x refl refl, all_become ss xs (omega (arith, e)) (λ i t y a b. h (suc i) t y a b))

  -- of two lists one behind the other, the first, and the other
  pub become_first : (ss ts : List (Seated S D L H B)) (xs ys : List (IslandNode S D L H B)) → length xs ≡ length ss → AllBecome (ss ++ ts) (xs ++ ys) → AllBecome ss xs
  become_first [] ts [] ys e h = tt
  become_first [] ts (x ∷ xs) ys e h = absurd (omega (arith, e))
  become_first (s ∷ ss) ts [] ys e h = absurd (omega (arith, e))
  become_first (s ∷ ss) ts (x ∷ xs) ys e h = (h.0, become_first ss ts xs ys (omega (arith, e)) h.1)

  pub become_later : (ss ts : List (Seated S D L H B)) (xs ys : List (IslandNode S D L H B)) → length xs ≡ length ss → AllBecome (ss ++ ts) (xs ++ ys) → AllBecome ts ys
  become_later [] ts [] ys e h = h
  become_later [] ts (x ∷ xs) ys e h = absurd (omega (arith, e))
  become_later (s ∷ ss) ts [] ys e h = absurd (omega (arith, e))
  become_later (s ∷ ss) ts (x ∷ xs) ys e h = become_later ss ts xs ys (omega (arith, e)) h.1
