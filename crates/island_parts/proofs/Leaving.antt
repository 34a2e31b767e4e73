-- What is left in each share is the share of what is left, and all of it is gathered from the shares.
use Rattle.std.specs.Prelude.{All, slice_get, if◌then◌else◌}
use Rattle.std.proofs.Common.{◌≡◌, ℕ, zero, suc, ◌<◌, ◌≤◌, Bool, true, false, ◌==◌, List, [], ◌∷◌, length, map, Option, Some, None, refl, ap, sym, ◌∙◌, arith}
use Rattle.std.specs.declared.vec.Vec.{Vec}
use Rattle.std.specs.declared.alloc.Global.{Global}
use Rattle.std.proofs.lemmas.Bool.{ne_eqb}
use Rattle.std.proofs.lemmas.List.{length-map}
use Rattle.scatter.specs.Shares.{of_home, items_at, AreShares, AreWhole}
use Rattle.scatter.proofs.Sharing.{here, elsewhere, share_count, share_map, share_one}
use Rattle.island_parts.specs.Ends.{with_home, homes_left}

-- what some items leave, each one thing or none
abbrev pub with_one : {Y : Type 0} → Option Y → List Y → List Y
with_one None ys = ys
with_one (Some y) ys = y ∷ ys

abbrev pub those : {X Y : Type 0} → (X → Option Y) → List X → List Y
those f [] = []
those f (x ∷ xs) = with_one (f x) (those f xs)

module _ {X Y : Type 0} (f : X → Option Y) where
  left_if : (b : Bool) (x : X) (r : List X) → those f (if b then x ∷ r else r) ≡ (if b then with_one (f x) (those f r) else those f r)
  left_if true x r = refl
  left_if false x r = refl

  step : (b : Bool) (o : Option Y) (h k : ℕ) (hs : List ℕ) (ys r : List Y) → (h == k) ≡ b → r ≡ of_home hs k ys → (if b then with_one o r else r) ≡ of_home (with_home o h hs) k (with_one o ys)
  step true None h k hs ys r e q = q
  step false None h k hs ys r e q = q
  step true (Some y) h k hs ys r e q = ap (λ t. y ∷ t) q ∙ sym (here h k hs y ys e)
  step false (Some y) h k hs ys r e q = q ∙ sym (elsewhere h k hs y ys e)

  pub share_those : (hs : List ℕ) (k : ℕ) (xs : List X) → those f (of_home hs k xs) ≡ of_home (homes_left f hs xs) k (those f xs)
  share_those [] k xs = refl
  share_those (h ∷ hs) k [] = refl
  share_those (h ∷ hs) k (x ∷ xs) = left_if (h == k) x (of_home hs k xs) ∙ step (h == k) (f x) h k (homes_left f hs xs) (those f xs) (those f (of_home hs k xs)) refl (share_those hs k xs)

  count_step : (o : Option Y) (h : ℕ) (hs : List ℕ) (ys : List Y) → length ys ≡ length hs → length (with_one o ys) ≡ length (with_home o h hs)
  count_step None h hs ys e = e
  count_step (Some y) h hs ys e = ap suc e

  pub those_count : (hs : List ℕ) (xs : List X) → length xs ≡ length hs → length (those f xs) ≡ length (homes_left f hs xs)
  those_count [] [] e = refl
  those_count [] (x ∷ xs) e = absurd (omega (arith, e))
  those_count (h ∷ hs) [] e = refl
  those_count (h ∷ hs) (x ∷ xs) e = count_step (f x) h (homes_left f hs xs) (those f xs) (those_count hs xs (omega (arith, e)))

  all_cons : (P : ℕ → Type 0) (h : ℕ) (hs : List ℕ) → P h → All P hs → All P (h ∷ hs)
  all_cons P h hs p q zero d l = p
  all_cons P h hs p q (suc k) d l = q k d (omega (arith, l))

  all_step : (P : ℕ → Type 0) (o : Option Y) (h : ℕ) (hs : List ℕ) → P h → All P hs → All P (with_home o h hs)
  all_step P None h hs p q = q
  all_step P (Some y) h hs p q = all_cons P h hs p q

  pub all_left : (P : ℕ → Type 0) (hs : List ℕ) (xs : List X) → All P hs → All P (homes_left f hs xs)
  all_left P [] xs a = λ k d l. absurd (omega (arith, l))
  all_left P (h ∷ hs) [] a = λ k d l. absurd (omega (arith, l))
  all_left P (h ∷ hs) (x ∷ xs) a = all_step P (f x) h (homes_left f hs xs) (a 0 h (omega arith)) (all_left P hs xs (λ k d l. a (suc k) d (omega (arith, l))))

-- no item has a home that no list is for
pub none_beyond : {X : Type 0} (hs : List ℕ) (n k : ℕ) → All (λ h. h < n) hs → n ≤ k → (xs : List X) → of_home hs k xs ≡ []
none_beyond [] n k b l xs = refl
none_beyond (h ∷ hs) n k b l [] = refl
none_beyond (h ∷ hs) n k b l (x ∷ xs) =
    let c = b 0 h (omega arith) in
    elsewhere h k hs x xs (ne_eqb h k (λ e. omega (arith, c, l, e))) ∙ none_beyond hs n k (λ j d m. b (suc j) d (omega (arith, m))) l xs

pub items_beyond : {Z : Type 0} (lists : List (Vec Z Global)) (k : ℕ) → length lists ≤ k → items_at lists k ≡ []
items_beyond [] k l = refl
items_beyond (x ∷ lists) zero l = absurd (omega (arith, l))
items_beyond (x ∷ lists) (suc k) l = items_beyond lists k (omega (arith, l))

-- the items of the list of an end
pub items_of : {E Z Y : Type 0} (v : Z → Y) (g : E → Vec Z Global) (ends : List E) (k : ℕ) (ys : List Y) → k < length ends → ((e : E) → slice_get ends k ≡ Some e → map v (g e).items ≡ ys) → map v (items_at (map g ends) k) ≡ ys
items_of v g [] k ys l h = absurd (omega (arith, l))
items_of v g (e ∷ ends) zero ys l h = h e refl
items_of v g (e ∷ ends) (suc k) ys l h = items_of v g ends k ys (omega (arith, l)) h

-- a number is below another or not
pub less_or : (j w : ℕ) → (P : Type 0) → (j < w → P) → (w ≤ j → P) → P
less_or zero zero P f g = g (omega arith)
less_or zero (suc w) P f g = f (omega arith)
less_or (suc j) zero P f g = g (omega arith)
less_or (suc j) (suc w) P f g = less_or j w P (λ l. f (omega (arith, l))) (λ l. g (omega (arith, l)))

module _ {Y Z : Type 0} (v : Z → Y) (hs : List ℕ) (ys : List Y) (lists : List (Vec Z Global)) (below : All (λ h. h < length lists) hs) (each : length ys ≡ length hs) (is : (k : ℕ) → k < length lists → map v (items_at lists k) ≡ of_home hs k ys) where
  -- each list has as many items as there are of its home
  pub whole : AreWhole hs lists
  whole = record {
    below = λ i l. below i 0 l;
    counts = λ k l. sym (length-map (items_at lists k) v) ∙ (ap length (is k l) ∙ share_count hs ys k each);
  }

  -- and what is gathered from them is all of it
  pub gathered : (r : List Z) → AreShares hs r lists → map v r ≡ ys
  gathered r s = share_one hs (map v r) ys (length-map r v ∙ s.each) each (λ k.
      share_map v hs r k ∙ (ap (map v) (sym (s.shares k)) ∙ less_or k (length lists) (map v (items_at lists k) ≡ of_home hs k ys) (is k)
      (λ l. ap (map v) (items_beyond lists k l) ∙ sym (none_beyond hs (length lists) k below l ys))))
