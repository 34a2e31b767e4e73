-- Readers leave no more words than they were given.
use Rattle.std.proofs.Common.{◌≡◌, ℕ, ◌≤◌, Bool, true, false, cond, List, [], ◌∷◌, length, Option, Some, None, Ok, unwrap_or, refl, ap, arith}
use Rattle.std.specs.Prelude.{codes, ◌&&◌}
use Rattle.std.specs.Str.{bytes_eq}
use Rattle.blue_words.specs.declared.fault.Version.{Version}
use Rattle.blue_words.specs.Reading.{At, Reading, at_map, both, made, with_second, then_read, read_place, word, count, behind_word, begins_with}
use Rattle.blue_kinds.specs.Functions.{said_if, one_of, map_of, number_map, quotient_map, text_map, pred_of, number_pred, greater_pred, exact_pred, text_pred, whole_pred}
use Rattle.blue_kinds.specs.Kinds.{linear_kind, bounded_kind, making_kind, folding_kind, testing_kind, while_kind, may_decide, kept_decider, named_decider, decider_of, decider_word}
use Rattle.blue_kinds.specs.Steps.{read_step}

-- what is read leaves at most n words
pub record Shrinks {A : Type 0} (n : ℕ) (r : Reading A) : Type 0 where
  pub kept : (p : At A) (vs : List (List ℕ)) → r ≡ Some (p, vs) → length vs ≤ n

same_words : {A : Type 0} (p q : At A) (us vs : List (List ℕ)) → ◌≡◌ {A = Reading A} (Some (p, us)) (Some (q, vs)) → us ≡ vs
same_words {A} p q us vs h = ap (λ o. (unwrap_or {T = At A × List (List ℕ)} o (p, us)).1) h

pub shrinks-none : {A : Type 0} (n : ℕ) → Shrinks {A = A} n None
shrinks-none n = record { kept = λ p vs h. absurd (let k : ⊥ = cc in k) }

pub shrinks-some : {A : Type 0} (n : ℕ) (p : At A) (us : List (List ℕ)) → length us ≤ n → Shrinks n (Some (p, us))
shrinks-some n p us l = record { kept = λ q vs h. let e = same_words p q us vs h in let k : length us ≡ length vs = ap length e in omega arith }

pub shrinks-made : {A B : Type 0} (n : ℕ) (f : A → B) (r : Reading A) → Shrinks n r → Shrinks n (made f r)
shrinks-made n f None s = shrinks-none n
shrinks-made n f (Some r) s = shrinks-some n (at_map f r.0) r.1 (s.kept r.0 r.1 refl)

pub shrinks-read_place : {A : Type 0} (f : List ℕ → At A) (ws : List (List ℕ)) → Shrinks (length ws) (read_place f ws)
shrinks-read_place f [] = shrinks-none 0
shrinks-read_place f (w ∷ ws) = shrinks-some (length (w ∷ ws)) (f w) ws (omega arith)

with_second-shrinks : {A B : Type 0} (n : ℕ) (p : At A) (r : Reading B) → Shrinks n r → Shrinks n (with_second p r)
with_second-shrinks n p None s = shrinks-none n
with_second-shrinks n p (Some r) s = shrinks-some n (both p r.0) r.1 (s.kept r.0 r.1 refl)

shrinks-le : {A : Type 0} (m n : ℕ) (r : Reading A) → m ≤ n → Shrinks m r → Shrinks n r
shrinks-le m n r l s = record { kept = λ p vs h. let k = s.kept p vs h in omega arith }

pub shrinks-then : {A B : Type 0} (n : ℕ) (r : Reading A) (next : List (List ℕ) → Reading B) → Shrinks n r → ((vs : List (List ℕ)) → Shrinks (length vs) (next vs)) → Shrinks n (then_read r next)
shrinks-then n None next s t = shrinks-none n
shrinks-then n (Some r) next s t = with_second-shrinks n r.0 (next r.1) (shrinks-le (length r.1) n (next r.1) (s.kept r.0 r.1 refl) (t r.1))

pub shrinks-if : {A : Type 0} (n : ℕ) (t : Bool) (a b : Reading A) → Shrinks n a → Shrinks n b → Shrinks n (cond t a b)
shrinks-if n true a b s t = s
shrinks-if n false a b s t = t

pub shrinks-said_if : {A : Type 0} (o : Option A) (ws : List (List ℕ)) → Shrinks (length ws) (said_if o ws)
shrinks-said_if None ws = shrinks-none (length ws)
shrinks-said_if (Some a) ws = shrinks-some (length ws) (Ok a) ws (omega arith)

pub shrinks-one_of : {A : Type 0} (table : List ℕ → Option A) (ws : List (List ℕ)) → Shrinks (length ws) (one_of table ws)
shrinks-one_of table [] = shrinks-none 0
shrinks-one_of table (w ∷ ws) = shrinks-le (length ws) (length (w ∷ ws)) (one_of table (w ∷ ws)) (omega arith) (shrinks-said_if (table w) ws)

-- what is read behind one word more
pub shrinks-cons : {A : Type 0} (w : List ℕ) (ws : List (List ℕ)) (r : Reading A) → Shrinks (length ws) r → Shrinks (length (w ∷ ws)) r
shrinks-cons w ws r s = shrinks-le (length ws) (length (w ∷ ws)) r (omega arith) s

text_map-shrinks : (w : List ℕ) (ws : List (List ℕ)) → Shrinks (length ws) (text_map w ws)
text_map-shrinks w ws = search (shrinks-if, shrinks-made, shrinks-read_place, shrinks-said_if) depth 20

quotient_map-shrinks : (w : List ℕ) (ws : List (List ℕ)) → Shrinks (length ws) (quotient_map w ws)
quotient_map-shrinks w ws = search (shrinks-if, shrinks-made, shrinks-read_place, text_map-shrinks) depth 20

number_map-shrinks : (w : List ℕ) (ws : List (List ℕ)) → Shrinks (length ws) (number_map w ws)
number_map-shrinks w ws = search (shrinks-if, shrinks-made, shrinks-read_place, quotient_map-shrinks) depth 20

map_of-shrinks : (ws : List (List ℕ)) → Shrinks (length ws) (map_of ws)
map_of-shrinks [] = shrinks-none 0
map_of-shrinks (w ∷ ws) = shrinks-cons w ws (map_of (w ∷ ws)) (number_map-shrinks w ws)

field_is-shrinks : (ws : List (List ℕ)) → Shrinks (length ws) (then_read (count ws) word)
field_is-shrinks ws = shrinks-then (length ws) (count ws) word (shrinks-read_place _ ws) (λ vs. shrinks-read_place _ vs)

whole_pred-shrinks : (w : List ℕ) (ws : List (List ℕ)) → Shrinks (length ws) (whole_pred w ws)
whole_pred-shrinks w ws = search (shrinks-if, shrinks-made, shrinks-read_place, field_is-shrinks, shrinks-said_if) depth 20

text_pred-shrinks : (w : List ℕ) (ws : List (List ℕ)) → Shrinks (length ws) (text_pred w ws)
text_pred-shrinks w ws = search (shrinks-if, shrinks-made, shrinks-read_place, whole_pred-shrinks) depth 20

exact_pred-shrinks : (w : List ℕ) (ws : List (List ℕ)) → Shrinks (length ws) (exact_pred w ws)
exact_pred-shrinks w ws = search (shrinks-if, shrinks-made, shrinks-read_place, text_pred-shrinks) depth 20

greater_pred-shrinks : (w : List ℕ) (ws : List (List ℕ)) → Shrinks (length ws) (greater_pred w ws)
greater_pred-shrinks w ws = search (shrinks-if, shrinks-made, shrinks-read_place, exact_pred-shrinks) depth 20

number_pred-shrinks : (w : List ℕ) (ws : List (List ℕ)) → Shrinks (length ws) (number_pred w ws)
number_pred-shrinks w ws = search (shrinks-if, shrinks-made, shrinks-read_place, greater_pred-shrinks) depth 20

pred_of-shrinks : (ws : List (List ℕ)) → Shrinks (length ws) (pred_of ws)
pred_of-shrinks [] = shrinks-none 0
pred_of-shrinks (w ∷ ws) = shrinks-cons w ws (pred_of (w ∷ ws)) (number_pred-shrinks w ws)

while_kind-shrinks : (w : List ℕ) (ws : List (List ℕ)) → Shrinks (length ws) (while_kind w ws)
while_kind-shrinks w ws = search (shrinks-if, shrinks-made, pred_of-shrinks, shrinks-none) depth 20

testing_kind-shrinks : (w : List ℕ) (ws : List (List ℕ)) → Shrinks (length ws) (testing_kind w ws)
testing_kind-shrinks w ws = search (shrinks-if, shrinks-made, pred_of-shrinks, while_kind-shrinks) depth 20

folding_kind-shrinks : (w : List ℕ) (ws : List (List ℕ)) → Shrinks (length ws) (folding_kind w ws)
folding_kind-shrinks w ws = search (shrinks-if, shrinks-made, shrinks-one_of, testing_kind-shrinks) depth 20

making_kind-shrinks : (w : List ℕ) (ws : List (List ℕ)) → Shrinks (length ws) (making_kind w ws)
making_kind-shrinks w ws =
    search (shrinks-if, shrinks-made, map_of-shrinks, shrinks-one_of, folding_kind-shrinks) depth 20

bounded_kind-shrinks : (w : List ℕ) (ws : List (List ℕ)) → Shrinks (length ws) (bounded_kind w ws)
bounded_kind-shrinks w ws = search (shrinks-if, shrinks-made, shrinks-read_place, making_kind-shrinks) depth 20

linear_kind-shrinks : (w : List ℕ) (ws : List (List ℕ)) → Shrinks (length ws) (linear_kind w ws)
linear_kind-shrinks w ws = search (shrinks-if, shrinks-made, shrinks-read_place, bounded_kind-shrinks) depth 20

behind_word-shrinks : {A : Type 0} (fixed : List ℕ) (next : List (List ℕ) → Reading A) → ((vs : List (List ℕ)) → Shrinks (length vs) (next vs)) → (ws : List (List ℕ)) → Shrinks (length ws) (behind_word fixed next ws)
behind_word-shrinks fixed next s [] = shrinks-none 0
behind_word-shrinks fixed next s (w ∷ ws) =
    shrinks-if (length (w ∷ ws)) (bytes_eq w fixed) (next ws) None (shrinks-cons w ws (next ws) (s ws)) (shrinks-none (length (w ∷ ws)))

decider-shrinks : (ws : List (List ℕ)) → Shrinks (length ws) (named_decider ws)
decider-shrinks ws = behind_word-shrinks (codes "decider") (one_of decider_word) (shrinks-one_of decider_word) ws

decider_of-shrinks : (v : Version) (may : Bool) (ws : List (List ℕ)) → Shrinks (length ws) (decider_of v may ws)
decider_of-shrinks v may ws =
    shrinks-if (length ws) (may && begins_with (codes "decider") ws) _ _ (shrinks-made (length ws) (kept_decider v) (named_decider ws) (decider-shrinks ws)) (shrinks-some (length ws) (Ok None) ws (omega arith))

kind_with_decider-shrinks : (v : Version) (w : List ℕ) (ws : List (List ℕ)) → Shrinks (length ws) (then_read (linear_kind w ws) (decider_of v (may_decide w)))
kind_with_decider-shrinks v w ws =
    shrinks-then (length ws) (linear_kind w ws) (decider_of v (may_decide w)) (linear_kind-shrinks w ws) (decider_of-shrinks v (may_decide w))

pub read_step-shrinks : (v : Version) (ws : List (List ℕ)) → Shrinks (length ws) (read_step v ws)
read_step-shrinks v [] = shrinks-none 0
read_step-shrinks v (w ∷ ws) =
    shrinks-cons w ws (read_step v (w ∷ ws)) (shrinks-made (length ws) _ _ (kind_with_decider-shrinks v w ws))
