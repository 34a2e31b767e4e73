-- The seats of the nodes of an island, gathered one after another.
use Rattle.std.proofs.Common.{◌≡◌, ℕ, zero, suc, ◌+◌, ◌<◌, Some, None, List, [], ◌∷◌, ◌++◌, length, drop, get_or, refl, sym, ap, ◌∙◌, arith, append_assoc}
use Rattle.std.specs.Prelude.{Option}
use Rattle.stage_switch.specs.Public.{SeatState}
use Rattle.nodes.specs.Nodes.{node_seat}
use Rattle.nodes.specs.declared.node.IslandNode.{IslandNode}
use Rattle.interpreter.specs.Seats.{with_seat, seats_of}

with_cut : (k : ℕ) (o : Option SeatState) (rest : List (ℕ × SeatState)) → with_seat k o rest ≡ with_seat k o [] ++ rest
with_cut k None rest = refl
with_cut k (Some seat) rest = refl

seats_cut : {S D L H B : Type 0} (places : List ℕ) (i d : ℕ) (x : IslandNode S D L H B) (xs : List (IslandNode S D L H B)) → i < length places → seats_of (drop i places) (x ∷ xs) ≡ seats_of (get_or places i d ∷ []) (x ∷ []) ++ seats_of (drop (i + 1) places) xs
seats_cut [] i d x xs h = absurd (omega arith)
seats_cut (p ∷ ps) zero d x xs h = with_cut p (node_seat x) (seats_of ps xs)
seats_cut (p ∷ ps) (suc i) d x xs h =
    let later : suc i + 1 ≡ suc (i + 1) = omega arith in
    rw later (seats_cut ps i d x xs (omega arith))

seats_step : {S D L H B : Type 0} (places : List ℕ) (i d : ℕ) (old new : List (IslandNode S D L H B)) (x : IslandNode S D L H B) (was now all : List (ℕ × SeatState)) → i < length places → old ≡ x ∷ new → now ≡ was ++ seats_of (get_or places i d ∷ []) (x ∷ []) → was ++ seats_of (drop i places) old ≡ all
    → now ++ seats_of (drop (i + 1) places) new ≡ all
seats_step places i d old new x was now all h e is all_is =
    rw is (append_assoc was (seats_of (get_or places i d ∷ []) (x ∷ [])) (seats_of (drop (i + 1) places) new) ∙ ap (λ (l : List (ℕ × SeatState)). was ++ l) (sym (seats_cut places i d x new h)) ∙ (rw e at all_is))

-- the seats of the nodes that are left
pub seats_next : {S D L H B : Type 0} (places : List ℕ) (i k : ℕ) (old new : List (IslandNode S D L H B)) (x : IslandNode S D L H B) (was now all : List (ℕ × SeatState)) → i < length places → k ≡ get_or places i k → old ≡ x ∷ new → now ≡ was ++ seats_of (k ∷ []) (x ∷ []) → was ++ seats_of (drop i places) old ≡ all
    → now ++ seats_of (drop (i + 1) places) new ≡ all
seats_next places i k old new x was now all h at e is all_is =
    seats_step places i k old new x was now all h e (is ∙ ap (λ (m : ℕ). was ++ seats_of (m ∷ []) (x ∷ [])) at) all_is

-- no nodes have no seats
pub seats_none : (S D L H B : Type 0) (places : List ℕ) → seats_of {S = S} {D = D} {L = L} {H = H} {B = B} places [] ≡ []
seats_none S D L H B [] = refl
seats_none S D L H B (k ∷ ks) = refl
