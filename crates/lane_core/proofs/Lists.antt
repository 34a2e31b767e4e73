-- Lists of items, and places in a ring.
use Rattle.std.proofs.Common.{◌≡◌, ◌≢◌, ◌⊎◌, inl, inr, ⊎_elim, ℕ, zero, suc, ◌+◌, ◌%◌, ◌<◌, ◌≤◌, List, [], ◌∷◌, ◌++◌, length, set, take, replicate, map, Option, Some, None, slice_get, refl, sym, ap, ◌∙◌, subst, arith, append_assoc, lt_of_not-le}
use mathlib.Core.Option.{some, some-ne-none, some-injective}
use native.Mathlib.Decide.{dec_le}
use lib.ListN.{get_elem?}
use Rattle.atomic_table.proofs.Lists.{at_set, set_else, one_turn}
use Rattle.elem_core.specs.Prefix.{IsPrefix}
use Rattle.elem_core.specs.Items.{elements}
use Rattle.elem_core.specs.declared.item.Item.{Item}
use Rattle.elem_core.specs.declared.item.Item.TheVariants.{Elem, Ended, Failed}
use Rattle.lane_core.specs.Lane.{weight}

module _ {A : Type 0} where
  -- what follows a beginning makes it longer by one
  pub prefix_more : (l m : List A) (x : A) → IsPrefix l m → slice_get m (length l) ≡ Some x → IsPrefix (l ++ x ∷ []) m
  prefix_more l m x p e = next p.rest (subst (λ (ys : List A). slice_get ys (length l) ≡ Some x) p.is e) p.is
    where
      first : (l r : List A) → slice_get (l ++ r) (length l) ≡ slice_get r 0
      first [] r = refl
      first (y ∷ l) r = first l r

      next : (r : List A) → slice_get (l ++ r) (length l) ≡ Some x → m ≡ l ++ r → IsPrefix (l ++ x ∷ []) m
      next [] e is = let none_is : None ≡ Some x = sym (first l []) ∙ e in absurd (cc)
      next (y ∷ r) e is =
          let same : Some y ≡ Some x = sym (first l (y ∷ r)) ∙ e in
          record { rest = r; is = is ∙ ap (λ (o : Option A). l ++ got y o ∷ r) same ∙ sym (append_assoc l (x ∷ []) r) }
        where
          got : A → Option A → A
          got d None = d
          got d (Some z) = z

  pub some_at : (l : List A) (k : ℕ) → k < length l → (x : A) × (slice_get l k ≡ Some x)
  some_at [] k h = absurd (omega arith)
  some_at (y ∷ l) zero h = (y, refl)
  some_at (y ∷ l) (suc k) h = some_at l k (omega arith)

  pub get_front : (l m : List A) (k : ℕ) → k < length l → slice_get (l ++ m) k ≡ slice_get l k
  get_front [] m k h = absurd (omega arith)
  get_front (y ∷ l) m zero h = refl
  get_front (y ∷ l) m (suc k) h = get_front l m k (omega arith)

  pub get_last : (l : List A) (x : A) → slice_get (l ++ x ∷ []) (length l) ≡ Some x
  get_last [] x = refl
  get_last (y ∷ l) x = get_last l x

  -- the last of a list that is one longer
  pub at_end : (l : List A) (a b : A) (j : ℕ) → get_elem? (l ++ a ∷ []) j ≡ some b → ((j < length l) × (get_elem? l j ≡ some b)) ⊎ ((j ≡ length l) × (a ≡ b))
  at_end [] a b zero e = inr (refl, some-injective a b e)
  at_end [] a b (suc j) e = absurd (some-ne-none b (sym e))
  at_end (x ∷ l) a b zero e = inl (omega arith, e)
  at_end (x ∷ l) a b (suc j) e = ⊎_elim (λ t. inl (omega (arith, t.0), t.1)) (λ t. inr (ap suc t.0, t.1)) (at_end l a b j e)

  pub inside : (l : List A) (j : ℕ) (b : A) → get_elem? l j ≡ some b → j < length l
  inside [] j b e = absurd (some-ne-none b (sym e))
  inside (x ∷ l) zero b e = omega arith
  inside (x ∷ l) (suc j) b e = let i = inside l j b e in omega (arith, i)

  pub all_vacant : (n i : ℕ) (a : A) → i < n → get_elem? (map some (replicate n a)) i ≡ some (some a)
  all_vacant zero i a h = absurd (omega arith)
  all_vacant (suc n) zero a h = refl
  all_vacant (suc n) (suc i) a h = all_vacant n i a (omega arith)

  pub views_after : (P : ℕ → A → Type 0) (vs : List A) (me : ℕ) (w : A) → P me w → ((j : ℕ) (d : A) → j ≢ me → get_elem? vs j ≡ some d → P j d)
      → (j : ℕ) (d : A) → get_elem? (set vs me w) j ≡ some d → P j d
  views_after P vs me w mine others j d e = ⊎_elim (λ (t : (j ≡ me) × (w ≡ d)). subst (λ (x : ℕ × A). P x.0 x.1) (λ i. (sym t.0 i, t.1 i)) mine)
      (λ (t : (j ≢ me) × (get_elem? vs j ≡ some d)). others j d t.0 t.1) (at_set vs me j w d e)

-- two places within one turn of the ring are apart
pub apart : (p q n : ℕ) → p < q + n → q < p + n → p ≢ q → p % n ≢ q % n
apart p q n a b ne e = by_order (dec_le p q)
  where
    by_order : Dec (p ≤ q) → ⊥
    by_order (yes le) = ne (one_turn p q n le b e)
    by_order (no gt) = ne (sym (one_turn q p n (omega (arith, lt_of_not-le gt)) a (sym e)))

-- a place keeps what it has where another is set
pub set_apart : {A : Type 0} (l : List A) (p q n : ℕ) (y : A) → p < q + n → q < p + n → p ≢ q → get_elem? (set l (q % n) y) (p % n) ≡ get_elem? l (p % n)
set_apart l p q n y a b ne = set_else l (q % n) (p % n) y (apart p q n a b ne)

-- the first item by its weight
pub elements_first : (x : Item) (xs : List Item) → elements (x ∷ xs) ≡ weight x + elements xs
elements_first (Elem e) xs = omega arith
elements_first Ended xs = omega arith
elements_first (Failed c) xs = omega arith

pub elements-append : (xs ys : List Item) → elements (xs ++ ys) ≡ elements xs + elements ys
elements-append [] ys = omega arith
elements-append (x ∷ xs) ys = let e = elements-append xs ys in let a = elements_first x xs in let b = elements_first x (xs ++ ys) in omega (arith, e, a, b)

pub weight_le : (x : Item) → weight x ≤ 1
weight_le (Elem e) = omega arith
weight_le Ended = omega arith
weight_le (Failed c) = omega arith

pub elements_le : (xs : List Item) → elements xs ≤ length xs
elements_le [] = omega arith
elements_le (x ∷ xs) = let e = elements_le xs in let w = weight_le x in let f = elements_first x xs in omega (arith, e, w, f)

-- behind elements alone, an item that is put last leaves the elements in front
pub put_last : (l : List Item) (x : Item) (n : ℕ) → length l ≤ elements l → n ≡ length l + weight x → elements (take n (l ++ x ∷ [])) ≡ n
put_last [] (Elem e) n full is = ap (λ (k : ℕ). elements (take k (Elem e ∷ []))) is ∙ sym is
put_last [] Ended n full is = ap (λ (k : ℕ). elements (take k (Ended ∷ []))) is ∙ sym is
put_last [] (Failed c) n full is = ap (λ (k : ℕ). elements (take k (Failed c ∷ []))) is ∙ sym is
put_last (Elem e ∷ l) x zero full is = absurd (omega (arith, is))
put_last (Elem e ∷ l) x (suc n) full is = let r = put_last l x n (omega (arith, full)) (omega (arith, is)) in omega (arith, r)
put_last (Ended ∷ l) x n full is = let less = elements_le l in absurd (omega (arith, full, less))
put_last (Failed c ∷ l) x n full is = let less = elements_le l in absurd (omega (arith, full, less))
