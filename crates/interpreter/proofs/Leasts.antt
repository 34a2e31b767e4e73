-- The least of nodes that could not make their next move, one after another.
use Rattle.std.specs.Prelude.{◌≡◌, ◌⊎◌, ℕ, ◌+◌, ◌<◌, List, [], ◌∷◌, length, drop, slice_get, Option, None, Some}
use Rattle.std.proofs.Common.{inl, inr, get_or, zero, suc, refl, sym, ap, ◌∙◌, arith}
use Rattle.nodes.specs.Nodes.{node_misfit}
use Rattle.nodes.specs.declared.node.IslandNode.{IslandNode}
use Rattle.interpreter.specs.Misfits.{Found, least, found_at, least_of, FindsMisfit, IsLeast}
use Rattle.interpreter.proofs.Least.{least_none, least_three, least_same, least_both, One, one_least}

least_cut : {S D L H B : Type 0} (places : List ℕ) (i d : ℕ) (x : IslandNode S D L H B) (xs : List (IslandNode S D L H B)) → i < length places → least_of (drop i places) (x ∷ xs) ≡ least (found_at (get_or places i d) (node_misfit x)) (least_of (drop (i + 1) places) xs)
least_cut [] i d x xs h = absurd (omega arith)
least_cut (p ∷ ps) zero d x xs h = refl
least_cut (p ∷ ps) (suc i) d x xs h =
    let later : suc i + 1 ≡ suc (i + 1) = omega arith in
    rw later (least_cut ps i d x xs (omega arith))

-- one node more
pub least_next : {S D L H B : Type 0} (places : List ℕ) (i k : ℕ) (old new : List (IslandNode S D L H B)) (x : IslandNode S D L H B) (was now all : Option Found) → i < length places → k ≡ get_or places i k → old ≡ x ∷ new → now ≡ least was (found_at k (node_misfit x)) → least was (least_of (drop i places) old) ≡ all
    → least now (least_of (drop (i + 1) places) new) ≡ all
least_next places i k old new x was now all h at e is all_is =
    ap (λ (p : Option Found). least p (least_of (drop (i + 1) places) new)) is ∙ least_three was (found_at k (node_misfit x)) (least_of (drop (i + 1) places) new)
    ∙ ap (λ (n : ℕ). least was (least (found_at n (node_misfit x)) (least_of (drop (i + 1) places) new))) at
    ∙ ap (least was) (sym (least_cut places i k x new h)) ∙ ap (λ (xs : List _). least was (least_of (drop i places) xs)) (sym e) ∙ all_is

none_left : (S D L H B : Type 0) (places : List ℕ) → least_of {S = S} {D = D} {L = L} {H = H} {B = B} places [] ≡ None
none_left S D L H B [] = refl
none_left S D L H B (p ∷ ps) = refl

-- all of them
pub least_last : {S D L H B : Type 0} (end : Option Found) (places : List ℕ) (rest : List (IslandNode S D L H B)) (all : Option Found) → rest ≡ [] → least end (least_of places rest) ≡ all → end ≡ all
least_last end places rest all e is = sym (least_none end) ∙ ap (least end) (sym (none_left _ _ _ _ _ places) ∙ ap (least_of places) (sym e)) ∙ is

-- the least of nodes is the least that is found among them
module _ {S D L H B : Type 0} where
  none_there : (ks : List ℕ) (xs : List (IslandNode S D L H B)) → ks ≡ [] → IsLeast (FindsMisfit ks xs) None
  none_there ks xs e = λ k i f. let at = f.number in cc

  none_here : (ks : List ℕ) → IsLeast (FindsMisfit {S = S} {D = D} {L = L} {H = H} {B = B} ks []) None
  none_here ks = λ k i f. let at = f.there in cc

  module _ (k : ℕ) (ks : List ℕ) (x : IslandNode S D L H B) (xs : List (IslandNode S D L H B)) where
    to : (j i : ℕ) → One k (node_misfit x) j i ⊎ FindsMisfit ks xs j i → FindsMisfit (k ∷ ks) (x ∷ xs) j i
    to j i (inl f) = record { at = zero; node = x; number = ap (λ (n : ℕ). Some n) (sym f.0); there = refl; found = f.1 }
    to j i (inr f) = record { at = suc f.at; node = f.node; number = f.number; there = f.there; found = f.found }

    back_at : (j i n : ℕ) (y : IslandNode S D L H B) → slice_get (k ∷ ks) n ≡ Some j → slice_get (x ∷ xs) n ≡ Some y → node_misfit y ≡ Some i → One k (node_misfit x) j i ⊎ FindsMisfit ks xs j i
    back_at j i zero y number there found =
        let same : x ≡ y = cc in
        let is : j ≡ k = cc in
        inl (is, ap (λ (z : IslandNode S D L H B). node_misfit z) same ∙ found)
    back_at j i (suc n) y number there found = inr (record { at = n; node = y; number = number; there = there; found = found })

    back : (j i : ℕ) → FindsMisfit (k ∷ ks) (x ∷ xs) j i → One k (node_misfit x) j i ⊎ FindsMisfit ks xs j i
    back j i f = back_at j i f.at f.node f.number f.there f.found

  pub nodes_least : (ks : List ℕ) (xs : List (IslandNode S D L H B)) → IsLeast (FindsMisfit ks xs) (least_of ks xs)
  nodes_least [] xs = none_there [] xs refl
  nodes_least (k ∷ ks) [] = none_here (k ∷ ks)
  nodes_least (k ∷ ks) (x ∷ xs) =
      least_same (λ j i. One k (node_misfit x) j i ⊎ FindsMisfit ks xs j i) (FindsMisfit (k ∷ ks) (x ∷ xs)) (least (found_at k (node_misfit x)) (least_of ks xs)) (to k ks x xs) (back k ks x xs)
      (least_both (One k (node_misfit x)) (FindsMisfit ks xs) (found_at k (node_misfit x)) (least_of ks xs) (one_least k (node_misfit x)) (nodes_least ks xs))
