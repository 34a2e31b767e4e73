-- Rows of the wires out of each node.
use Rattle.std.proofs.Common.{◌≡◌, ℕ, zero, suc, ◌+◌, ◌<◌, Bool, true, false, ◌==◌, ◌||◌, List, [], ◌∷◌, ◌++◌, length, map, take, get_or, Option, Some, None, refl, ap, sym, ◌∙◌, subst, ⊎_elim, inl, inr, arith}
use Rattle.std.specs.Prelude.{slice_get, ◌⊎◌}
use Rattle.std.specs.List.{list_any}
use Rattle.std.specs.declared.vec.Vec.{Vec}
use Rattle.std.specs.declared.alloc.Global.{Global}
use Rattle.std.proofs.lemmas.Bool.{cases_eq, or_cases, eqb-true, eq-eqb, or_left, or_right}
use Rattle.std.proofs.lemmas.Grind.{common_steps}
use Rattle.std.proofs.lemmas.List.{map_more, get_or_default}
use Rattle.std.proofs.lemmas.List.Folds.{list_any-append}
use Rattle.stream_model.specs.Graph.{Edge}
use Rattle.blue_names.specs.Outs.{IsOuts, row_at, numbers_in}

-- so many rows without a number
pub record AreEmpty (rows : List (Vec ℕ Global)) (n : ℕ) : Type 0 where
  pub count : length rows ≡ n
  pub none : (k : ℕ) → row_at rows k ≡ []

pub AreEmpty-none : AreEmpty [] 0
AreEmpty-none = record { count = refl; none = λ k. refl }

row_at-push : (rows : List (Vec ℕ Global)) (v : Vec ℕ Global) (k : ℕ) → v.items ≡ [] → ((j : ℕ) → row_at rows j ≡ []) → row_at (rows ++ v ∷ []) k ≡ []
row_at-push [] v zero e h = e
row_at-push [] v (suc k) e h = refl
row_at-push (r ∷ rows) v zero e h = h zero
row_at-push (r ∷ rows) v (suc k) e h = row_at-push rows v k e (λ j. h (suc j))

pub AreEmpty-more : (rows : List (Vec ℕ Global)) (v : Vec ℕ Global) (n : ℕ) → v.items ≡ [] → AreEmpty rows n → AreEmpty (rows ++ v ∷ []) (n + 1)
AreEmpty-more rows v n e h = record { count = grind (arith, common_steps, h.count); none = λ k. row_at-push rows v k e h.none }

-- a wire in a list with one more at its end
pub slice_get-push_old : {X : Type 0} (xs : List X) (y x : X) (i : ℕ) → slice_get xs i ≡ Some x → slice_get (xs ++ y ∷ []) i ≡ Some x
slice_get-push_old [] y x i h = cc
slice_get-push_old (z ∷ xs) y x zero h = h
slice_get-push_old (z ∷ xs) y x (suc i) h = slice_get-push_old xs y x i h

pub slice_get-push_new : {X : Type 0} (xs : List X) (y : X) → slice_get (xs ++ y ∷ []) (length xs) ≡ Some y
slice_get-push_new [] y = refl
slice_get-push_new (z ∷ xs) y = slice_get-push_new xs y

pub slice_get-push_cases : {X : Type 0} (xs : List X) (y x : X) (i : ℕ) → slice_get (xs ++ y ∷ []) i ≡ Some x → (slice_get xs i ≡ Some x) ⊎ ((i ≡ length xs) × (x ≡ y))
slice_get-push_cases [] y x zero h = inr (refl, cc)
slice_get-push_cases [] y x (suc i) h = cc
slice_get-push_cases (z ∷ xs) y x zero h = inl h
slice_get-push_cases (z ∷ xs) y x (suc i) h = ⊎_elim (λ e. inl e) (λ e. inr (ap suc e.0, e.1)) (slice_get-push_cases xs y x i h)

any_push : (i n : ℕ) (row : List ℕ) → list_any (λ j. j == i) (row ++ n ∷ []) ≡ (list_any (λ j. j == i) row || (n == i))
any_push i n [] = grind arith
any_push i n (k ∷ row) = grind (arith, any_push i n row)

module _ (old new : List (Vec ℕ Global)) (ws : List Edge) (w : Edge) (is : IsOuts old ws) (here : row_at new w.from ≡ row_at old w.from ++ length ws ∷ [])
    (others : (n : ℕ) → (n ≡ w.from → ⊥) → row_at new n ≡ row_at old n) where
  Found : ℕ → ℕ → Type 0
  Found n i = (v : Edge) × (slice_get (ws ++ w ∷ []) i ≡ Some v) × (v.from ≡ n)

  from_old : (n i : ℕ) → list_any (λ j. j == i) (row_at old n) ≡ true → Found n i
  unfolding Found
  from_old n i h = let f = is.sound n i h in (f.0, slice_get-push_old ws w f.0 i f.1, f.2)

  from_new : (n i : ℕ) → n ≡ w.from → (length ws == i) ≡ true → Found n i
  unfolding Found
  from_new n i e h =
      let l : length ws ≡ i = eqb-true (length ws) i h in
      (w, subst (λ k. slice_get (ws ++ w ∷ []) k ≡ Some w) l (slice_get-push_new ws w), sym e)

  at_here : (n i : ℕ) → n ≡ w.from → list_any (λ j. j == i) (row_at new n) ≡ true → Found n i
  at_here n i e h =
      let row : row_at new n ≡ row_at old n ++ length ws ∷ [] = subst (λ k. row_at new k ≡ row_at old k ++ length ws ∷ []) (sym e) here in
      let split : (list_any (λ j. j == i) (row_at old n) || (length ws == i)) ≡ true = sym (any_push i (length ws) (row_at old n)) ∙ ap (list_any (λ j. j == i)) (sym row) ∙ h in
      ⊎_elim (from_old n i) (from_new n i e) (or_cases (list_any (λ j. j == i) (row_at old n)) (length ws == i) split)

  at_other : (n i : ℕ) → (n ≡ w.from → ⊥) → list_any (λ j. j == i) (row_at new n) ≡ true → Found n i
  at_other n i ne h = from_old n i (ap (list_any (λ j. j == i)) (sym (others n ne)) ∙ h)

  sound_more : (n i : ℕ) → list_any (λ j. j == i) (row_at new n) ≡ true → Found n i
  sound_more n i h = ⊎_elim (λ e. at_here n i e h) (λ ne. at_other n i ne h) (cases_eq n w.from)

  in_row : (n i : ℕ) → n ≡ w.from → list_any (λ j. j == i) (row_at old n) ≡ true → list_any (λ j. j == i) (row_at new n) ≡ true
  in_row n i e h =
      let row : row_at new n ≡ row_at old n ++ length ws ∷ [] = subst (λ k. row_at new k ≡ row_at old k ++ length ws ∷ []) (sym e) here in
      ap (list_any (λ j. j == i)) row ∙ any_push i (length ws) (row_at old n) ∙ or_left (list_any (λ j. j == i) (row_at old n)) (length ws == i) h

  kept : (i : ℕ) (v : Edge) → slice_get ws i ≡ Some v → list_any (λ j. j == i) (row_at new v.from) ≡ true
  kept i v h =
      let o = is.complete i v h in
      ⊎_elim (λ e. in_row v.from i e o) (λ ne. ap (list_any (λ j. j == i)) (others v.from ne) ∙ o) (cases_eq v.from w.from)

  added : (i : ℕ) (v : Edge) → i ≡ length ws → v ≡ w → list_any (λ j. j == i) (row_at new v.from) ≡ true
  added i v l e =
      let row : row_at new v.from ≡ row_at old v.from ++ length ws ∷ [] = subst (λ u. row_at new u.from ≡ row_at old u.from ++ length ws ∷ []) (sym e) here in
      ap (list_any (λ j. j == i)) row ∙ any_push i (length ws) (row_at old v.from) ∙ or_right (list_any (λ j. j == i) (row_at old v.from)) (length ws == i) (eq-eqb (length ws) i (sym l))

  -- one more wire
  pub IsOuts-push : IsOuts new (ws ++ w ∷ [])
  unfolding Found
  IsOuts-push = record {
    sound = sound_more;
    complete = λ i v h. ⊎_elim (kept i v) (λ e. added i v e.0 e.1) (slice_get-push_cases ws w v i h);
  }

-- the same for the wires so far of a list
pub IsOuts-more : {L : Type 0} (g : L → Edge) (old new : List (Vec ℕ Global)) (ls : List L) (i : ℕ) (l : L) → i < length ls → l ≡ get_or ls i l → IsOuts old (map g (take i ls))
    → row_at new (g l).from ≡ row_at old (g l).from ++ i ∷ [] → ((n : ℕ) → (n ≡ (g l).from → ⊥) → row_at new n ≡ row_at old n) → IsOuts new (map g (take (i + 1) ls))
IsOuts-more g old new ls i l lt is outs here others =
    let len : i ≡ length (map g (take i ls)) = grind (arith, common_steps) in
    let s : map g (take i ls) ++ g l ∷ [] ≡ map g (take (i + 1) ls) = ap (λ y. map g (take i ls) ++ g y ∷ []) is ∙ sym (map_more g ls i l lt) in
    let h : row_at new (g l).from ≡ row_at old (g l).from ++ length (map g (take i ls)) ∷ [] = here ∙ ap (λ k. row_at old (g l).from ++ k ∷ []) len in
    subst (IsOuts new) s (IsOuts-push old new (map g (take i ls)) (g l) outs h others)

pub IsOuts-none : (rows : List (Vec ℕ Global)) → ((n : ℕ) → row_at rows n ≡ []) → IsOuts rows []
IsOuts-none rows none = record {
  sound = λ n i h. let e : false ≡ true = ap (list_any (λ j. j == i)) (sym (none n)) ∙ h in cc;
  complete = λ i w h. cc;
}

-- the same for the element as code reads it
pub IsOuts-at : {L : Type 0} (g : L → Edge) (old new : List (Vec ℕ Global)) (ls : List L) (i : ℕ) (d : L) → i < length ls → IsOuts old (map g (take i ls))
    → row_at new (g (get_or ls i d)).from ≡ row_at old (g (get_or ls i d)).from ++ i ∷ [] → ((n : ℕ) → (n ≡ (g (get_or ls i d)).from → ⊥) → row_at new n ≡ row_at old n) → IsOuts new (map g (take (i + 1) ls))
IsOuts-at g old new ls i d lt outs here others = IsOuts-more g old new ls i (get_or ls i d) lt (get_or_default ls i d (get_or ls i d) lt) outs here others
