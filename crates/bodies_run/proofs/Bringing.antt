-- Lists that hold as many items as there are of each home are the shares of one list.
use Rattle.std.proofs.Common.{◌≡◌, ℕ, zero, suc, ◌+◌, ◌<◌, ◌≤◌, Bool, true, false, cond, ◌==◌, List, [], ◌∷◌, ◌++◌, length, take, Some, refl, ap, sym, ◌∙◌, subst, ⊎_elim, ◌⊎◌, inl, inr, arith}
use Rattle.std.specs.Prelude.{slice_get, slice_index}
use Rattle.std.proofs.lemmas.Bool.{cases_Bool, eq-eqb, eqb-true}
use Rattle.scatter.specs.Shares.{of_home, share_of}
use Rattle.scatter.proofs.Sharing.{count_here, elsewhere, share_at, share_one}
use Rattle.island_parts.proofs.Wiring.{there}

-- each of these homes is one of so many
abbrev pub AreBelow : ℕ → List ℕ → Type 0
AreBelow count hs = (i : ℕ) → i < length hs → slice_index hs i < count

first_below : (count h : ℕ) (hs : List ℕ) → AreBelow count (h ∷ hs) → h < count
first_below count h hs below = below 0 (omega arith)

rest_below : (count h : ℕ) (hs : List ℕ) → AreBelow count (h ∷ hs) → AreBelow count hs
rest_below count h hs below i lt = below (suc i) (omega (arith, lt))

-- ---- one item fewer

abbrev tail_of : {X : Type 0} → List X → List X
tail_of [] = []
tail_of (x ∷ xs) = xs

begins : {X : Type 0} (xs : List X) (n : ℕ) → length xs ≡ suc n → (x : X) × (xs ≡ x ∷ tail_of xs)
begins [] n e = absurd (omega (arith, e))
begins (x ∷ xs) n e = (x, refl)

fewer : {X : Type 0} (b : Bool) (xs : List X) (n : ℕ) → length xs ≡ cond b (suc n) n → length (cond b (tail_of xs) xs) ≡ n
fewer true [] n e = absurd (omega (arith, e))
fewer true (x ∷ xs) n e = omega (arith, e)
fewer false xs n e = e

put_back : {X : Type 0} (b : Bool) (x : X) (xs zs : List X) → (b ≡ true → xs ≡ x ∷ tail_of xs) → zs ≡ cond b (tail_of xs) xs → cond b (x ∷ zs) zs ≡ xs
put_back true x xs zs h e = ap (λ l. x ∷ l) e ∙ sym (h refl)
put_back false x xs zs h e = e

none : {X : Type 0} (xs : List X) → length xs ≡ 0 → xs ≡ []
none [] e = refl
none (x ∷ xs) e = absurd (omega (arith, e))

-- ---- all of them

pub record IsWhole {X : Type 0} (hs : List ℕ) (count : ℕ) (lists : ℕ → List X) (all : List X) : Type 0 where
  pub each : length all ≡ length hs
  pub shares : (k : ℕ) → k < count → of_home hs k all ≡ lists k

pub bring : {X : Type 0} (hs : List ℕ) (count : ℕ) (lists : ℕ → List X) → AreBelow count hs → ((k : ℕ) → k < count → length (lists k) ≡ share_of k hs) → (all : List X) × IsWhole hs count lists all
bring [] count lists below counts = ([], record { each = refl; shares = λ k lt. sym (none (lists k) (counts k lt)) })
bring {X = X} (h ∷ hs) count lists below counts =
    let first = begins (lists h) (share_of h hs) (counts h (first_below count h hs below) ∙ count_here h h hs (eq-eqb h h refl)) in
    let rest = bring hs count (λ k. cond (h == k) (tail_of (lists k)) (lists k)) (rest_below count h hs below) (λ k lt. fewer (h == k) (lists k) (share_of k hs) (counts k lt)) in (
      first.0 ∷ rest.0,
      record {
        each = ap suc rest.1.each;
        shares = λ k lt. put_back (h == k) first.0 (lists k) (of_home hs k rest.0) (λ t. subst (λ j. lists j ≡ first.0 ∷ tail_of (lists j)) (eqb-true h k t) first.1) (rest.1.shares k lt);
      },
    )

-- each item stands in the list of its home, at its rank
pub whole_at : {X : Type 0} (hs : List ℕ) (count : ℕ) (lists : ℕ → List X) (all : List X) (i h : ℕ) → IsWhole hs count lists all → slice_get hs i ≡ Some h → i < length hs → h < count → slice_get all i ≡ slice_get (lists h) (share_of h (take i hs))
whole_at hs count lists all i h w home lt below =
    let x = there all i (omega (arith, lt, w.each)) in
    x.1 ∙ sym (share_at hs all i h x.0 x.1 home) ∙ ap (λ l. slice_get l (share_of h (take i hs))) (w.shares h below)

-- ---- and no other

other_home : (h k : ℕ) → h < k → (h == k) ≡ false
other_home h k lt = ⊎_elim (λ (t : (h == k) ≡ true). let e : h ≡ k = eqb-true h k t in absurd (omega (arith, e, lt))) (λ (f : (h == k) ≡ false). f) (cases_Bool (h == k))

-- no item has a home that is none of so many
none_beyond : {X : Type 0} (hs : List ℕ) (count k : ℕ) (xs : List X) → AreBelow count hs → count ≤ k → of_home hs k xs ≡ []
none_beyond [] count k xs below le = refl
none_beyond (h ∷ hs) count k [] below le = refl
none_beyond (h ∷ hs) count k (x ∷ xs) below le = let b = first_below count h hs below in elsewhere h k hs x xs (other_home h k (omega (arith, b, le))) ∙ none_beyond hs count k xs (rest_below count h hs below) le

less_or_not : (a b : ℕ) → (a < b) ⊎ (b ≤ a)
less_or_not a zero = inr (omega arith)
less_or_not zero (suc b) = inl (omega arith)
less_or_not (suc a) (suc b) = ⊎_elim (λ (h : a < b). inl (omega (arith, h))) (λ (h : b ≤ a). inr (omega (arith, h))) (less_or_not a b)

pub whole_one : {X : Type 0} (hs : List ℕ) (count : ℕ) (lists : ℕ → List X) (xs ys : List X) → AreBelow count hs → IsWhole hs count lists xs → IsWhole hs count lists ys → xs ≡ ys
whole_one hs count lists xs ys below a b =
    share_one hs xs ys a.each b.each (λ k.
    ⊎_elim
    (λ (lt : k < count). a.shares k lt ∙ sym (b.shares k lt))
    (λ (le : count ≤ k). none_beyond hs count k xs below le ∙ sym (none_beyond hs count k ys below le))
    (less_or_not k count))

-- ---- two parts of a list

pub record IsParted {X : Type 0} (n : ℕ) (xs ys zs : List X) : Type 0 where
  pub is : xs ≡ ys ++ zs
  pub first : length ys ≡ n
  pub later : length xs ≡ n + length zs

pub part : {X : Type 0} (n : ℕ) (xs : List X) → n ≤ length xs → (ys : List X) × ((zs : List X) × IsParted n xs ys zs)
part zero xs le = ([], (xs, record { is = refl; first = refl; later = omega arith }))
part (suc n) [] le = absurd (omega (arith, le))
part (suc n) (x ∷ xs) le =
    let r = part n xs (omega (arith, le)) in
    (x ∷ r.0, (r.1.0, record { is = ap (λ l. x ∷ l) r.1.1.is; first = ap suc r.1.1.first; later = let e = r.1.1.later in omega (arith, e) }))

pub get_first : {X : Type 0} (xs ys : List X) (i : ℕ) → i < length xs → slice_get xs i ≡ slice_get (xs ++ ys) i
get_first [] ys i lt = absurd (omega (arith, lt))
get_first (x ∷ xs) ys zero lt = refl
get_first (x ∷ xs) ys (suc i) lt = get_first xs ys i (omega (arith, lt))
