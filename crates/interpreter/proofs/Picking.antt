-- What the nodes of an island chose, gathered one after another.
use Rattle.std.proofs.Common.{◌≡◌, ℕ, zero, suc, ◌+◌, ◌<◌, Some, None, List, [], ◌∷◌, ◌++◌, length, drop, get_or, refl, sym, ap, ◌∙◌, arith, append_assoc}
use Rattle.std.specs.Prelude.{Option}
use Rattle.nodes.specs.Nodes.{node_picks}
use Rattle.nodes.specs.declared.node.IslandNode.{IslandNode}
use Rattle.interpreter.specs.Picks.{Pick, with_picks, picks_of}

with_cut : (k : ℕ) (o : Option (List ℕ)) (rest : List Pick) → with_picks k o rest ≡ with_picks k o [] ++ rest
with_cut k None rest = refl
with_cut k (Some moves) rest = refl

picks_cut : {S D L H B : Type 0} (places : List ℕ) (i d : ℕ) (x : IslandNode S D L H B) (xs : List (IslandNode S D L H B)) → i < length places → picks_of (drop i places) (x ∷ xs) ≡ picks_of (get_or places i d ∷ []) (x ∷ []) ++ picks_of (drop (i + 1) places) xs
picks_cut [] i d x xs h = absurd (omega arith)
picks_cut (p ∷ ps) zero d x xs h = with_cut p (node_picks x) (picks_of ps xs)
picks_cut (p ∷ ps) (suc i) d x xs h =
    let later : suc i + 1 ≡ suc (i + 1) = omega arith in
    rw later (picks_cut ps i d x xs (omega arith))

picks_step : {S D L H B : Type 0} (places : List ℕ) (i d : ℕ) (old new : List (IslandNode S D L H B)) (x : IslandNode S D L H B) (was now all : List Pick) → i < length places → old ≡ x ∷ new → now ≡ was ++ picks_of (get_or places i d ∷ []) (x ∷ []) → was ++ picks_of (drop i places) old ≡ all
    → now ++ picks_of (drop (i + 1) places) new ≡ all
picks_step places i d old new x was now all h e is all_is =
    rw is (append_assoc was (picks_of (get_or places i d ∷ []) (x ∷ [])) (picks_of (drop (i + 1) places) new) ∙ ap (λ (l : List Pick). was ++ l) (sym (picks_cut places i d x new h)) ∙ (rw e at all_is))

-- what the nodes that are left will add
pub picks_next : {S D L H B : Type 0} (places : List ℕ) (i k : ℕ) (old new : List (IslandNode S D L H B)) (x : IslandNode S D L H B) (was now all : List Pick) → i < length places → k ≡ get_or places i k → old ≡ x ∷ new → now ≡ was ++ picks_of (k ∷ []) (x ∷ []) → was ++ picks_of (drop i places) old ≡ all
    → now ++ picks_of (drop (i + 1) places) new ≡ all
picks_next places i k old new x was now all h at e is all_is =
    picks_step places i k old new x was now all h e (is ∙ ap (λ (m : ℕ). was ++ picks_of (m ∷ []) (x ∷ [])) at) all_is
