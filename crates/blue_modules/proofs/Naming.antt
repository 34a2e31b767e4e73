-- What a table of a body's names knows.
use Rattle.std.proofs.Common.{◌≡◌, ℕ, zero, suc, ◌+◌, ◌-◌, ◌<◌, ◌≤◌, Bool, true, false, cond, List, [], ◌∷◌, ◌++◌, length, take, get_or, Option, Some, None, is_some, refl, ap, sym, ◌∙◌, arith}
use Rattle.std.specs.Prelude.{nat_lt, slice_get}
use Rattle.std.specs.Option.{option_or}
use Rattle.std.specs.HashMap.{HashMap}
use Rattle.std.proofs.lemmas.Bool.{lt-ltb, le-ltb}
use Rattle.std.proofs.lemmas.Grind.{common_steps}
use Rattle.std.proofs.lemmas.List.{take_more}
use denote.Ref.{Bor}
use Rattle.blue_modules.specs.declared.text.Entry.{Entry}
use Rattle.blue_names.specs.First.{when}
use Rattle.blue_names.specs.Table.{number_in}
use Rattle.blue_modules.specs.Names.{is_called, entry_named, place_from, ArePlaces}

-- places are numbered from n on
place_least : (q : List ℕ) (n : ℕ) (es : List Entry) (i : ℕ) → place_from q n es ≡ Some i → n ≤ i
place_least q n [] i h = cc
place_least q n (e ∷ es) i h = at (is_called q e) h (place_least q (n + 1) es i)
  where
    at : (t : Bool) → cond t (Some n) (place_from q (n + 1) es) ≡ Some i → (place_from q (n + 1) es ≡ Some i → n + 1 ≤ i) → n ≤ i
    at true h later = grind (arith, h)
    at false h later = let l = later h in omega (arith, l)

-- the entry at the place of a name is the one of that name
named_from : (q : List ℕ) (n : ℕ) (es : List Entry) (i j : ℕ) → place_from q n es ≡ Some i → i ≡ n + j → slice_get es j ≡ entry_named q es
named_from q n [] i j h s = cc
named_from q n (e ∷ es) i j h s = at (is_called q e) h (named_from q (n + 1) es i (j - 1))
  where
    at : (t : Bool) → cond t (Some n) (place_from q (n + 1) es) ≡ Some i → (place_from q (n + 1) es ≡ Some i → i ≡ (n + 1) + (j - 1) → slice_get es (j - 1) ≡ entry_named q es)
        → slice_get (e ∷ es) j ≡ cond t (Some e) (entry_named q es)
    at true h later = let z : j ≡ 0 = grind (arith, h, s) in ap (slice_get (e ∷ es)) z
    at false h later =
        let l = place_least q (n + 1) es i h in
        let z : j ≡ suc (j - 1) = omega (arith, l, s) in
        ap (slice_get (e ∷ es)) z ∙ later h (omega (arith, l, s))

unnamed : (q : List ℕ) (n : ℕ) (es : List Entry) → place_from q n es ≡ None → entry_named q es ≡ None
unnamed q n [] h = refl
unnamed q n (e ∷ es) h = at (is_called q e) h (unnamed q (n + 1) es)
  where
    at : (t : Bool) → cond t (Some n) (place_from q (n + 1) es) ≡ None → (place_from q (n + 1) es ≡ None → entry_named q es ≡ None) → cond t (Some e) (entry_named q es) ≡ None
    at true h later = cc
    at false h later = later h

-- an entry has a name before a number where the place of that name is before it
before_from : (q : List ℕ) (n : ℕ) (es : List Entry) (i k : ℕ) → place_from q n es ≡ Some i → nat_lt i (n + k) ≡ is_some (entry_named q (take k es))
before_from q n [] i k h = cc
before_from q n (e ∷ es) i zero h = let l = place_least q n (e ∷ es) i h in le-ltb i (n + zero) (omega (arith, l))
before_from q n (e ∷ es) i (suc k) h = at (is_called q e) h (before_from q (n + 1) es i k)
  where
    at : (t : Bool) → cond t (Some n) (place_from q (n + 1) es) ≡ Some i → (place_from q (n + 1) es ≡ Some i → nat_lt i ((n + 1) + k) ≡ is_some (entry_named q (take k es)))
        → nat_lt i (n + suc k) ≡ is_some (cond t (Some e) (entry_named q (take k es)))
    at true h later = let z : n ≡ i = grind (arith, h) in lt-ltb i (n + suc k) (omega (arith, z))
    at false h later = let z : n + suc k ≡ (n + 1) + k = omega arith in ap (nat_lt i) z ∙ later h

unnamed_before : (q : List ℕ) (n : ℕ) (es : List Entry) (k : ℕ) → place_from q n es ≡ None → false ≡ is_some (entry_named q (take k es))
unnamed_before q n [] k h = nowhere k
  where
    nowhere : (k : ℕ) → false ≡ is_some (entry_named q (take k []))
    nowhere zero = refl
    nowhere (suc k) = refl
unnamed_before q n (e ∷ es) zero h = refl
unnamed_before q n (e ∷ es) (suc k) h = at (is_called q e) h (unnamed_before q (n + 1) es k)
  where
    at : (t : Bool) → cond t (Some n) (place_from q (n + 1) es) ≡ None → (place_from q (n + 1) es ≡ None → false ≡ is_some (entry_named q (take k es)))
        → false ≡ is_some (cond t (Some e) (entry_named q (take k es)))
    at true h later = cc
    at false h later = later h

-- ---- by the table of a body
module _ {S : Type 0} (m : HashMap (Bor (List ℕ)) ℕ S) (es : List Entry) (places : ArePlaces m es) (q : List ℕ) where
  pub named_there : (i : ℕ) → Some i ≡ number_in m q → slice_get es i ≡ entry_named q es
  named_there i h = named_from q 0 es i i (sym (h ∙ places.at q)) (omega arith)

  pub named_nowhere : None ≡ number_in m q → None ≡ entry_named q es
  named_nowhere h = sym (unnamed q 0 es (sym (h ∙ places.at q)))

  pub before_there : (i k : ℕ) → Some i ≡ number_in m q → nat_lt i k ≡ is_some (entry_named q (take k es))
  before_there i k h = let z : k ≡ 0 + k = omega arith in ap (nat_lt i) z ∙ before_from q 0 es i k (sym (h ∙ places.at q))

  pub before_nowhere : (k : ℕ) → None ≡ number_in m q → false ≡ is_some (entry_named q (take k es))
  before_nowhere k h = unnamed_before q 0 es k (sym (h ∙ places.at q))

-- ---- one entry more in a table
pub option_or-none : {X : Type 0} (o : Option X) → option_or o None ≡ o
option_or-none None = refl
option_or-none (Some x) = refl

place_from-push : (q : List ℕ) (n : ℕ) (es : List Entry) (e : Entry) → place_from q n (es ++ e ∷ []) ≡ option_or (place_from q n es) (when (is_called q e) (n + length es))
place_from-push q n [] e = let z : n + 0 ≡ n = omega arith in ap (when (is_called q e)) (sym z)
place_from-push q n (x ∷ es) e = at (is_called q x) (place_from-push q (n + 1) es e)
  where
    at : (t : Bool) → place_from q (n + 1) (es ++ e ∷ []) ≡ option_or (place_from q (n + 1) es) (when (is_called q e) ((n + 1) + length es))
        → cond t (Some n) (place_from q (n + 1) (es ++ e ∷ [])) ≡ option_or (cond t (Some n) (place_from q (n + 1) es)) (when (is_called q e) (n + length (x ∷ es)))
    at true h = refl
    at false h = let z : (n + 1) + length es ≡ n + length (x ∷ es) = omega arith in h ∙ ap (λ k. option_or (place_from q (n + 1) es) (when (is_called q e) k)) z

pub ArePlaces-more : {S : Type 0} (m n : HashMap (Bor (List ℕ)) ℕ S) (es : List Entry) (i : ℕ) (e : Entry) → i < length es → e ≡ get_or es i e
    → ArePlaces m (take i es) → ((q : List ℕ) → number_in n q ≡ option_or (number_in m q) (when (is_called q e) i)) → ArePlaces n (take (i + 1) es)
ArePlaces-more m n es i e lt is old new =
    let l : length (take i es) ≡ i = grind (arith, common_steps, lt) in
    let z : 0 + length (take i es) ≡ i = omega (arith, l) in
    let t : take (i + 1) es ≡ take i es ++ e ∷ [] = take_more es i e lt ∙ ap (λ y. take i es ++ y ∷ []) (sym is) in
    record {
      at = λ q.
          new q
          ∙ (ap (λ o. option_or o (when (is_called q e) i)) (old.at q)
          ∙ (ap (λ k. option_or (place_from q 0 (take i es)) (when (is_called q e) k)) (sym z)
          ∙ (sym (place_from-push q 0 (take i es) e) ∙ ap (place_from q 0) (sym t))));
    }
