-- The first place at which something holds, in a loop over a list.
use Rattle.std.proofs.Common.{◌≡◌, ℕ, ◌+◌, ◌<◌, ◌≤◌, List, [], ◌∷◌, length, drop, get_or, Option, Some, None, refl, ap, sym, ◌∙◌, subst}
use Rattle.std.specs.Option.{option_or}
use Rattle.std.proofs.lemmas.List.{at_drop_more, at_drop_all}
use Rattle.std.proofs.lemmas.Grind.{common_steps}
use Rattle.blue_names.specs.First.{first_from}

-- one place on
pub first_from_here : {X F : Type 0} (f : ℕ → X → Option F) (xs : List X) (i : ℕ) (x : X) → i < length xs → x ≡ get_or xs i x
    → first_from f i (drop i xs) ≡ option_or (f i x) (first_from f (i + 1) (drop (i + 1) xs))
first_from_here f xs i x lt is =
    at_drop_more (first_from f i) xs i x lt ∙ ap (λ y. option_or (f i y) (first_from f (i + 1) (drop (i + 1) xs))) (sym is)

-- behind the last place
pub first_from_end : {X F : Type 0} (f : ℕ → X → Option F) (xs : List X) (i : ℕ) → length xs ≤ i → first_from f i (drop i xs) ≡ None
first_from_end f xs i le = at_drop_all (first_from f i) xs i le

-- where f says nothing of a place, the first is behind it
pub first_from_next : {X F : Type 0} (f : ℕ → X → Option F) (xs : List X) (i : ℕ) (x : X) (w : Option F) → i < length xs → x ≡ get_or xs i x
    → w ≡ first_from f i (drop i xs) → f i x ≡ None → w ≡ first_from f (i + 1) (drop (i + 1) xs)
first_from_next f xs i x w lt is inv none =
    inv ∙ first_from_here f xs i x lt is ∙ ap (λ o. option_or o (first_from f (i + 1) (drop (i + 1) xs))) none

-- where it says something, that is the first
pub first_from_found : {X F : Type 0} (f : ℕ → X → Option F) (xs : List X) (i : ℕ) (x : X) (v : F) (w : Option F) → i < length xs → x ≡ get_or xs i x
    → w ≡ first_from f i (drop i xs) → f i x ≡ Some v → Some v ≡ w
first_from_found f xs i x v w lt is inv some =
    sym (inv ∙ first_from_here f xs i x lt is ∙ ap (λ o. option_or o (first_from f (i + 1) (drop (i + 1) xs))) some)

-- and where no place is left there is none
pub first_from_over : {X F : Type 0} (f : ℕ → X → Option F) (xs : List X) (i : ℕ) (w : Option F) → length xs ≤ i → w ≡ first_from f i (drop i xs) → None ≡ w
first_from_over f xs i w le inv = sym (inv ∙ first_from_end f xs i le)
