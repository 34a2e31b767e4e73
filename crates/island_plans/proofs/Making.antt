-- The loops over islands and over bodies.
use Rattle.std.proofs.Common.{◌≡◌, ℕ, zero, suc, ◌+◌, ◌<◌, List, [], ◌∷◌, ◌++◌, length, Some, refl, ap, sym, ◌∙◌, subst, ⊎_elim, ◌⊎◌, inl, inr, append_assoc, length-append, arith}
use Rattle.std.specs.Prelude.{slice_get}

-- what stands at a place of a list to which one was put
record IsLast {X : Type 0} (xs : List X) (x : X) (k : ℕ) (y : X) : Type 0 where
  pub place : k ≡ length xs
  pub is : y ≡ x

pushed : {X : Type 0} (xs : List X) (x : X) (k : ℕ) (y : X) → slice_get (xs ++ x ∷ []) k ≡ Some y → (slice_get xs k ≡ Some y) ⊎ IsLast xs x k y
pushed [] x zero y at = let e : x ≡ y = cc in inr (record { place = refl; is = sym e })
pushed [] x (suc k) y at = absurd cc
pushed (z ∷ xs) x zero y at = inl at
pushed (z ∷ xs) x (suc k) y at = ⊎_elim (λ (a : slice_get xs k ≡ Some y). inl a) (λ (l : IsLast xs x k y). inr (record { place = ap suc l.place; is = l.is })) (pushed xs x k y at)

pub one_more : {X : Type 0} (xs new : List X) (x : X) → new ≡ xs ++ x ∷ [] → length new ≡ suc (length xs)
one_more xs new x e = let l = ap length e ∙ length-append xs (x ∷ []) in omega (arith, l)

get_behind : {X : Type 0} (xs : List X) (x : X) (ys : List X) → slice_get (xs ++ x ∷ ys) (length xs) ≡ Some x
get_behind [] x ys = refl
get_behind (z ∷ xs) x ys = get_behind xs x ys

pub same_item : {X : Type 0} (x y : X) → Some x ≡ Some y → x ≡ y
same_item x y e = cc

-- an iterator that gave one item has one less, and one that gives none is empty
pub fewer : {X : Type 0} (old later : List X) (x : X) (a b : ℕ) → old ≡ x ∷ later → a ≡ b + 1 → a ≡ length old → b ≡ length later
fewer old later x a b e less was = let size : length old ≡ suc (length later) = ap length e in omega (arith, size, less, was)

pub none_left : {X : Type 0} (xs : List X) (n : ℕ) → n ≡ 0 → n ≡ length xs → xs ≡ []
none_left [] n a b = refl
none_left (x ∷ xs) n a b = absurd (omega (arith, a, b))

module _ {X : Type 0} where
  -- the rest of a list, behind so many
  pub record Behind (all : List X) (n : ℕ) (rest : List X) : Type 0 where
    pub front : List X
    pub count : length front ≡ n
    pub all_are : all ≡ front ++ rest

  pub behind_first : (all rest : List X) → rest ≡ all → Behind all 0 rest
  behind_first all rest e = record { front = []; count = refl; all_are = sym e }

  pub behind_next : (all rest later : List X) (n : ℕ) (x : X) → Behind all n rest → rest ≡ x ∷ later → Behind all (suc n) later
  behind_next all rest later n x b e = record {
    front = b.front ++ x ∷ [];
    count = one_more b.front (b.front ++ x ∷ []) x refl ∙ ap suc b.count;
    all_are = b.all_are ∙ ap (λ l. b.front ++ l) e ∙ sym (append_assoc b.front (x ∷ []) later);
  }

  pub behind_at : (all rest later : List X) (n : ℕ) (x : X) → Behind all n rest → rest ≡ x ∷ later → slice_get all n ≡ Some x
  behind_at all rest later n x b e = ap (slice_get all) (sym b.count) ∙ (ap (λ l. slice_get l (length b.front)) (b.all_are ∙ ap (λ l. b.front ++ l) e) ∙ get_behind b.front x later)

  pub behind_size : (all rest : List X) (n : ℕ) → Behind all n rest → length all ≡ n + length rest
  behind_size all rest n b = let s = ap length b.all_are ∙ length-append b.front rest in omega (arith, s, b.count)

-- each of a list is so, by its place
abbrev pub EachIs : {Y : Type 0} → (ℕ → Y → Type 0) → List Y → Type 0
EachIs P ys = (k : ℕ) (y : _) → slice_get ys k ≡ Some y → P k y

pub each_first : {Y : Type 0} (P : ℕ → Y → Type 0) (ys : List Y) → ys ≡ [] → EachIs P ys
each_first P ys e k y at = none P k y (sym (ap (λ l. slice_get l k) e) ∙ at)
  where
    none : {Z : Type 0} (Q : ℕ → Z → Type 0) (j : ℕ) (z : Z) → slice_get {X = Z} [] j ≡ Some z → Q j z
    none Q j z at = cc

pub each_next : {Y : Type 0} (P : ℕ → Y → Type 0) (ys new : List Y) (y : Y) → EachIs P ys → new ≡ ys ++ y ∷ [] → P (length ys) y → EachIs P new
each_next P ys new y all e p k z at =
    ⊎_elim
    (λ (a : slice_get ys k ≡ Some z). all k z a)
    (λ (l : IsLast ys y k z). subst (λ x. P k x) (sym l.is) (subst (λ n. P n y) (sym l.place) p))
    (pushed ys y k z (sym (ap (λ l. slice_get l k) e) ∙ at))

-- Of the first of some things others were made, each of the one at its place.
module _ {X Y : Type 0} (P : ℕ → Y → Type 0) (all : List X) where
  pub record Going (rest : List X) (new : List Y) : Type 0 where
    pub behind : Behind all (length new) rest
    pub each : EachIs P new

  pub going_first : (rest : List X) (new : List Y) → rest ≡ all → new ≡ [] → Going rest new
  going_first rest new a b = record { behind = subst (λ n. Behind all n rest) (sym (ap length b)) (behind_first all rest a); each = each_first P new b }

  pub going_next : (rest later : List X) (x : X) (new newer : List Y) (y : Y) → Going rest new → rest ≡ x ∷ later → newer ≡ new ++ y ∷ [] → P (length new) y → Going later newer
  going_next rest later x new newer y g e f h = record {
    behind = subst (λ n. Behind all n later) (sym (one_more new newer y f)) (behind_next all rest later (length new) x g.behind e);
    each = each_next P new newer y g.each f h;
  }

  pub going_size : (rest : List X) (new : List Y) → Going rest new → rest ≡ [] → length new ≡ length all
  going_size rest new g e = let s = behind_size all rest (length new) g.behind in let z : length rest ≡ 0 = ap length e in omega (arith, s, z)

-- the rest of another list, behind as many
pub beside_first : {X Y : Type 0} (all rest : List X) (new : List Y) → rest ≡ all → new ≡ [] → Behind all (length new) rest
beside_first all rest new a b = subst (λ n. Behind all n rest) (sym (ap length b)) (behind_first all rest a)

pub beside_next : {X Y : Type 0} (all rest later : List X) (x : X) (new newer : List Y) (y : Y) → Behind all (length new) rest → rest ≡ x ∷ later → newer ≡ new ++ y ∷ [] → Behind all (length newer) later
beside_next all rest later x new newer y b e f = subst (λ n. Behind all n later) (sym (one_more new newer y f)) (behind_next all rest later (length new) x b e)

-- where one list has one more, another of the same length has
pub one_there : {X Y : Type 0} (all rest later : List X) (x : X) (others left : List Y) (n m : ℕ) → Behind all n rest → rest ≡ x ∷ later → Behind others n left → length others ≡ length all → m ≡ length left → 0 < m
one_there all rest later x others left n m b e c same is =
    let s = behind_size all rest n b in
    let t = behind_size others left n c in
    let z : length rest ≡ suc (length later) = ap length e in
    omega (arith, s, t, z, same, is)
