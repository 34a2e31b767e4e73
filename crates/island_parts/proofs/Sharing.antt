-- Lists of the right lengths are the shares of one list.
use Rattle.std.specs.Prelude.{if◌then◌else◌}
use Rattle.std.proofs.Common.{◌≡◌, ℕ, suc, ◌==◌, Bool, true, false, List, [], ◌∷◌, length, refl, ap, sym, ◌∙◌, arith}
use Rattle.std.proofs.lemmas.Bool.{eq-eqb, eqb-true}
use Rattle.scatter.specs.Shares.{of_home, share_of}
use Rattle.scatter.proofs.Sharing.{here, elsewhere, count_here, count_elsewhere}

none_of : {X : Type 0} (xs : List X) → length xs ≡ 0 → xs ≡ []
none_of [] e = refl
none_of (x ∷ xs) e = absurd (omega (arith, e))

-- a list that is not empty
record Begins {X : Type 0} (xs : List X) (n : ℕ) : Type 0 where
  first : X
  rest : List X
  is : xs ≡ first ∷ rest
  count : length rest ≡ n

begins : {X : Type 0} (xs : List X) (n : ℕ) → length xs ≡ suc n → Begins xs n
begins [] n e = absurd (omega (arith, e))
begins (x ∷ xs) n e = record { first = x; rest = xs; is = refl; count = omega (arith, e) }

module _ {X : Type 0} where
  rest_count : (b : Bool) (h k : ℕ) (hs : List ℕ) (rest ys : List X) → (h == k) ≡ b → length rest ≡ share_of h hs → length ys ≡ share_of k (h ∷ hs) → length (if b then rest else ys) ≡ share_of k hs
  rest_count true h k hs rest ys e r y = r ∙ ap (λ n. share_of n hs) (eqb-true h k e)
  rest_count false h k hs rest ys e r y = y ∙ count_elsewhere h k hs e

  share_is : (b : Bool) (h k : ℕ) (hs : List ℕ) (x : X) (all rest : List X) (share : ℕ → List X) → (h == k) ≡ b → share h ≡ x ∷ rest → of_home hs k all ≡ (if b then rest else share k) → of_home (h ∷ hs) k (x ∷ all) ≡ share k
  share_is true h k hs x all rest share e s o = here h k hs x all e ∙ (ap (λ t. x ∷ t) o ∙ (sym s ∙ ap share (eqb-true h k e)))
  share_is false h k hs x all rest share e s o = elsewhere h k hs x all e ∙ o

  pub make_one : (homes : List ℕ) (share : ℕ → List X) → ((k : ℕ) → length (share k) ≡ share_of k homes) → (all : List X) × (length all ≡ length homes) × ((k : ℕ) → of_home homes k all ≡ share k)
  make_one [] share c = ([], refl, λ k. sym (none_of (share k) (c k)))
  make_one (h ∷ hs) share c =
      let b = begins (share h) (share_of h hs) (c h ∙ count_here h h hs (eq-eqb h h refl)) in
      let r = make_one hs (λ k. if (h == k) then b.rest else share k) (λ k. rest_count (h == k) h k hs b.rest (share k) refl b.count (c k)) in
      (b.first ∷ r.0, ap suc r.1, λ k. share_is (h == k) h k hs b.first r.0 b.rest share refl b.is (r.2 k))
