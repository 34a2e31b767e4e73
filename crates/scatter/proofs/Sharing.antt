-- Shares of lists.
use Rattle.std.proofs.Common.{◌≡◌, ℕ, zero, suc, ◌≤◌, Bool, true, false, cond, ◌==◌, List, [], ◌∷◌, ◌++◌, length, map, take, Some, refl, ap, sym, ◌∙◌, ⊎_elim, arith}
use Rattle.std.specs.Prelude.{slice_get}
use Rattle.std.proofs.lemmas.Bool.{cases_Bool, eqb-true, eq-eqb, cond-true, cond-false}
use Rattle.scatter.specs.Shares.{of_home, share_of}

-- one item more, by whether its home is k
pub here : {X : Type 0} (h k : ℕ) (hs : List ℕ) (x : X) (xs : List X) → (h == k) ≡ true → of_home (h ∷ hs) k (x ∷ xs) ≡ x ∷ of_home hs k xs
here h k hs x xs t = cond-true (h == k) (x ∷ of_home hs k xs) (of_home hs k xs) t

pub elsewhere : {X : Type 0} (h k : ℕ) (hs : List ℕ) (x : X) (xs : List X) → (h == k) ≡ false → of_home (h ∷ hs) k (x ∷ xs) ≡ of_home hs k xs
elsewhere h k hs x xs f = cond-false (h == k) (x ∷ of_home hs k xs) (of_home hs k xs) f

pub count_here : (h k : ℕ) (hs : List ℕ) → (h == k) ≡ true → share_of k (h ∷ hs) ≡ suc (share_of k hs)
count_here h k hs t = cond-true (h == k) (suc (share_of k hs)) (share_of k hs) t

pub count_elsewhere : (h k : ℕ) (hs : List ℕ) → (h == k) ≡ false → share_of k (h ∷ hs) ≡ share_of k hs
count_elsewhere h k hs f = cond-false (h == k) (suc (share_of k hs)) (share_of k hs) f

-- a home has no more items than there are
pub count_within : (k : ℕ) (hs : List ℕ) → share_of k hs ≤ length hs
count_within k [] = omega arith
count_within k (h ∷ hs) =
    let rest = count_within k hs in
    ⊎_elim
    (λ (t : (h == k) ≡ true). omega (arith, count_here h k hs t, rest))
    (λ (f : (h == k) ≡ false). omega (arith, count_elsewhere h k hs f, rest))
    (cases_Bool (h == k))

pub share_count : {X : Type 0} (hs : List ℕ) (xs : List X) (k : ℕ) → length xs ≡ length hs → length (of_home hs k xs) ≡ share_of k hs
share_count [] xs k e = refl
share_count (h ∷ hs) [] k e = absurd (omega (arith, e))
share_count (h ∷ hs) (x ∷ xs) k e =
    let rest = share_count hs xs k (omega (arith, e)) in
    ⊎_elim
    (λ (t : (h == k) ≡ true). ap length (here h k hs x xs t) ∙ ap suc rest ∙ sym (count_here h k hs t))
    (λ (f : (h == k) ≡ false). ap length (elsewhere h k hs x xs f) ∙ rest ∙ sym (count_elsewhere h k hs f))
    (cases_Bool (h == k))

-- an item stands in the share of its home, at its rank
pub share_at : {X : Type 0} (hs : List ℕ) (xs : List X) (i k : ℕ) (x : X) → slice_get xs i ≡ Some x → slice_get hs i ≡ Some k → slice_get (of_home hs k xs) (share_of k (take i hs)) ≡ Some x
share_at [] xs i k x at home = absurd cc
share_at (h ∷ hs) [] i k x at home = absurd cc
share_at (h ∷ hs) (y ∷ xs) zero k x at home =
    let same : h ≡ k = cc in
    ap (λ l. slice_get l 0) (here h k hs y xs (eq-eqb h k same)) ∙ at
share_at (h ∷ hs) (y ∷ xs) (suc i) k x at home =
    let rest = share_at hs xs i k x at home in
    ⊎_elim
    (λ (t : (h == k) ≡ true). ap (λ n. slice_get (of_home (h ∷ hs) k (y ∷ xs)) n) (count_here h k (take i hs) t) ∙ ap (λ l. slice_get l (suc (share_of k (take i hs)))) (here h k hs y xs t) ∙ rest)
    (λ (f : (h == k) ≡ false). ap (λ n. slice_get (of_home (h ∷ hs) k (y ∷ xs)) n) (count_elsewhere h k (take i hs) f) ∙ ap (λ l. slice_get l (share_of k (take i hs))) (elsewhere h k hs y xs f) ∙ rest)
    (cases_Bool (h == k))

-- where an item of a share comes from
pub record IsFrom {X : Type 0} (hs : List ℕ) (xs : List X) (k p : ℕ) (x : X) : Type 0 where
  pub from : ℕ
  pub at : slice_get xs from ≡ Some x
  pub home : slice_get hs from ≡ Some k
  pub rank : share_of k (take from hs) ≡ p

pub share_from : {X : Type 0} (hs : List ℕ) (xs : List X) (k p : ℕ) (x : X) → slice_get (of_home hs k xs) p ≡ Some x → IsFrom hs xs k p x
share_from [] xs k p x at = absurd cc
share_from (h ∷ hs) [] k p x at = absurd cc
share_from (h ∷ hs) (y ∷ xs) k zero x at =
    ⊎_elim
    (λ (t : (h == k) ≡ true).
    let is : slice_get (y ∷ of_home hs k xs) 0 ≡ Some x = sym (ap (λ l. slice_get l 0) (here h k hs y xs t)) ∙ at in
    record { from = 0; at = is; home = ap Some (eqb-true h k t); rank = refl })
    (λ (f : (h == k) ≡ false).
    let r = share_from hs xs k 0 x (sym (ap (λ l. slice_get l 0) (elsewhere h k hs y xs f)) ∙ at) in
    record { from = suc r.from; at = r.at; home = r.home; rank = count_elsewhere h k (take r.from hs) f ∙ r.rank })
    (cases_Bool (h == k))
share_from (h ∷ hs) (y ∷ xs) k (suc p) x at =
    ⊎_elim
    (λ (t : (h == k) ≡ true).
    let is : slice_get (of_home hs k xs) p ≡ Some x = sym (ap (λ l. slice_get l (suc p)) (here h k hs y xs t)) ∙ at in
    let r = share_from hs xs k p x is in
    record { from = suc r.from; at = r.at; home = r.home; rank = count_here h k (take r.from hs) t ∙ ap suc r.rank })
    (λ (f : (h == k) ≡ false).
    let r = share_from hs xs k (suc p) x (sym (ap (λ l. slice_get l (suc p)) (elsewhere h k hs y xs f)) ∙ at) in
    record { from = suc r.from; at = r.at; home = r.home; rank = count_elsewhere h k (take r.from hs) f ∙ r.rank })
    (cases_Bool (h == k))

-- what is read off each item goes with it
cond_map : {X Y : Type 0} (f : X → Y) (b : Bool) (x : X) (xs : List X) (ys : List Y) → ys ≡ map f xs → cond b (f x ∷ ys) ys ≡ map f (cond b (x ∷ xs) xs)
cond_map f true x xs ys e = ap (λ l. f x ∷ l) e
cond_map f false x xs ys e = e

pub share_map : {X Y : Type 0} (f : X → Y) (hs : List ℕ) (xs : List X) (k : ℕ) → of_home hs k (map f xs) ≡ map f (of_home hs k xs)
share_map f [] xs k = refl
share_map f (h ∷ hs) [] k = refl
share_map f (h ∷ hs) (x ∷ xs) k = cond_map f (h == k) x (of_home hs k xs) (of_home hs k (map f xs)) (share_map f hs xs k)

-- shares of two lists one behind the other
cond_both : {X : Type 0} (b : Bool) (x : X) (xs ys zs : List X) → zs ≡ xs ++ ys → cond b (x ∷ zs) zs ≡ cond b (x ∷ xs) xs ++ ys
cond_both true x xs ys zs e = ap (λ l. x ∷ l) e
cond_both false x xs ys zs e = e

pub share_both : {X : Type 0} (hs gs : List ℕ) (xs ys : List X) (k : ℕ) → length xs ≡ length hs → of_home (hs ++ gs) k (xs ++ ys) ≡ of_home hs k xs ++ of_home gs k ys
share_both [] gs [] ys k e = refl
share_both [] gs (x ∷ xs) ys k e = absurd (omega (arith, e))
share_both (h ∷ hs) gs [] ys k e = absurd (omega (arith, e))
share_both (h ∷ hs) gs (x ∷ xs) ys k e = cond_both (h == k) x (of_home hs k xs) (of_home gs k ys) (of_home (hs ++ gs) k (xs ++ ys)) (share_both hs gs xs ys k (omega (arith, e)))

-- two lists with the same shares are one
pub share_one : {X : Type 0} (hs : List ℕ) (xs ys : List X) → length xs ≡ length hs → length ys ≡ length hs → ((k : ℕ) → of_home hs k xs ≡ of_home hs k ys) → xs ≡ ys
share_one [] [] [] a b same = refl
share_one [] (x ∷ xs) ys a b same = absurd (omega (arith, a))
share_one [] [] (y ∷ ys) a b same = absurd (omega (arith, b))
share_one (h ∷ hs) [] ys a b same = absurd (omega (arith, a))
share_one (h ∷ hs) (x ∷ xs) [] a b same = absurd (omega (arith, b))
share_one {X = X} (h ∷ hs) (x ∷ xs) (y ∷ ys) a b same =
    let t : (h == h) ≡ true = eq-eqb h h refl in
    let both : x ∷ of_home hs h xs ≡ y ∷ of_home hs h ys = sym (here h h hs x xs t) ∙ same h ∙ here h h hs y ys t in
    let first : x ≡ y = cc in
    let rest = share_one hs xs ys (omega (arith, a)) (omega (arith, b)) (λ k.
    ⊎_elim
    (λ (u : (h == k) ≡ true). let e : x ∷ of_home hs k xs ≡ y ∷ of_home hs k ys = sym (here h k hs x xs u) ∙ same k ∙ here h k hs y ys u in tails e)
    (λ (f : (h == k) ≡ false). sym (elsewhere h k hs x xs f) ∙ same k ∙ elsewhere h k hs y ys f)
    (cases_Bool (h == k))) in
    ap (λ z. z ∷ xs) first ∙ ap (λ l. y ∷ l) rest
  where
    tails : {us vs : List X} → x ∷ us ≡ y ∷ vs → us ≡ vs
    tails e = cc
