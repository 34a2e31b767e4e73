-- Lists that grow at their end, and lists with the same origins.
use Rattle.std.proofs.Common.{rules, ◌≡◌, ℕ, zero, suc, ◌+◌, ◌⊎◌, inl, inr, List, [], ◌∷◌, ◌++◌, map, length, take, sym, refl, ap, ◌∙◌, subst, arith, Some, slice_get}
use Rattle.std.specs.List.{All}
use Rattle.std.proofs.lemmas.List.Elements.{All-head, All-tail}
use Rattle.std.proofs.lemmas.Option.{slice_get_within}
use Rattle.dispatcher.specs.Table.{OriginFits}
use Rattle.dispatcher.proofs.Closing.{some_same}
use Rattle.lane_core.specs.Bodies.{AllOf, EachOf}

-- the value that follows what was passed is one of the list
pub all_next : {A : Type 0} (P : A → Type 0) (done : List A) (x : A) (left : List A) (xs : List A) → xs ≡ done ++ x ∷ left → All P xs → P x
all_next P [] x left xs e all = All-head P x left (subst (All P) e all)
all_next P (y ∷ ys) x left xs e all = all_next P ys x left (ys ++ x ∷ left) refl (All-tail P y (ys ++ x ∷ left) (subst (All P) e all))

here_is : {A : Type 0} (done : List A) (x : A) (left : List A) → slice_get (done ++ x ∷ left) (length done) ≡ Some x
here_is [] x left = refl
here_is (y ∷ ys) x left = here_is ys x left

pub next_of : {A : Type 0} (P : A → Type 0) (done : List A) (x : A) (left : List A) (xs : List A) → xs ≡ done ++ x ∷ left → AllOf P xs → P x
next_of P done x left xs e all = all (length done) x (ap (λ l. slice_get l (length done)) e ∙ here_is done x left)

pub app_next : {A : Type 0} (xs : List A) (x : A) (ys : List A) → (xs ++ x ∷ []) ++ ys ≡ xs ++ x ∷ ys
app_next [] x ys = refl
app_next (y ∷ zs) x ys = ap (λ l. y ∷ l) (app_next zs x ys)

pub map_snoc : {A B : Type 0} (f : A → B) (xs : List A) (x : A) → map f (xs ++ x ∷ []) ≡ map f xs ++ f x ∷ []
map_snoc f [] x = refl
map_snoc f (y ∷ ys) x = ap (λ l. f y ∷ l) (map_snoc f ys x)

pub long_map : {A B : Type 0} (f : A → B) (xs : List A) → length (map f xs) ≡ length xs
long_map f [] = refl
long_map f (x ∷ xs) = ap suc (long_map f xs)

nothing_behind : {A : Type 0} (xs : List A) → xs ++ [] ≡ xs
nothing_behind [] = refl
nothing_behind (y ∷ ys) = ap (λ l. y ∷ l) (nothing_behind ys)

-- once none is left, what was passed is the list
pub passed_all : {A : Type 0} (xs done left : List A) → xs ≡ done ++ left → length left ≡ 0 → xs ≡ done
passed_all xs done [] e h = e ∙ nothing_behind done
passed_all xs done (y ∷ ys) e h = absurd (omega arith)

pub none_in : {A : Type 0} (xs : List A) → length xs ≡ 0 → xs ≡ []
none_in [] h = refl
none_in (x ∷ xs) h = absurd (omega arith)

-- one of a list that grew by one is one of those before, or that one
snoc_at : {A : Type 0} (xs : List A) (x : A) (k : ℕ) (a : A) → slice_get (xs ++ x ∷ []) k ≡ Some a → (slice_get xs k ≡ Some a) ⊎ ((k ≡ length xs) × (x ≡ a))
snoc_at [] x zero a e = inr (refl, some_same x a e)
snoc_at [] x (suc k) a e = inl e
snoc_at (y ∷ ys) x zero a e = inl e
snoc_at (y ∷ ys) x (suc k) a e = elim (snoc_at ys x k a e) [ inl h ↦ inl h | inr t ↦ inr (ap suc t.0, t.1) ]

long_snoc : {A : Type 0} (xs : List A) (x : A) → length (xs ++ x ∷ []) ≡ length xs + 1
long_snoc [] x = refl
long_snoc (y ∷ ys) x = let a = long_snoc ys x in omega arith

pub each_none : {B : Type 0} (R : B → B → Type 0) → EachOf R [] []
each_none R = record { count = refl; each = λ k a b ea eb. absurd (let h = slice_get_within [] k a ea in omega (arith, h)) }

-- two lists grew by one each
pub each_snoc : {B : Type 0} (R : B → B → Type 0) (xs ys : List B) (x y : B) → EachOf R xs ys → R x y → EachOf R (xs ++ x ∷ []) (ys ++ y ∷ [])
each_snoc R xs ys x y e r = record {
  count = let a = long_snoc xs x in let b = long_snoc ys y in let c = e.count in omega (arith, a, b, c);
  each = λ k a b ea eb. elim (snoc_at xs x k a ea) [
    | inl h ↦ elim (snoc_at ys y k b eb) [ inl i ↦ e.each k a b h i | inr t ↦ absurd (let l = slice_get_within xs k a h in let c = e.count in let s = t.0 in omega (arith, l, c, s)) ]
    | inr t ↦ elim (snoc_at ys y k b eb) [
      | inl i ↦ absurd (let l = slice_get_within ys k b i in let c = e.count in let s = t.0 in omega (arith, l, c, s))
      | inr u ↦ subst (λ v. R v b) t.1 (subst (λ v. R x v) u.1 r)
    ]
  ];
}

-- what a value with the origin of its place keeps
pub fits_keep : {T : Type 0} (B : T → Type 0) (vs : List T) (k : ℕ) (x : T) → OriginFits (λ y. y) vs k x → All B vs → B x
fits_keep B [] k x fits all = absurd (search rules)
fits_keep B (v ∷ vs) zero x fits all = subst B (some_same v x fits) (All-head B v vs all)
fits_keep B (v ∷ vs) (suc k) x fits all = fits_keep B vs k x fits (All-tail B v vs all)

pub map_same : {A : Type 0} (xs : List A) → map (λ x. x) xs ≡ xs
map_same [] = refl
map_same (x ∷ xs) = ap (λ l. x ∷ l) (map_same xs)

pub each_grown : {B : Type 0} (R : B → B → Type 0) (xs ys zs ws : List B) (x y : B) → zs ≡ xs ++ x ∷ [] → ws ≡ ys ++ y ∷ [] → EachOf R xs ys → R x y → EachOf R zs ws
each_grown R xs ys zs ws x y ez ew e r = subst (λ l. EachOf R zs l) (sym ew) (subst (λ l. EachOf R l (ys ++ y ∷ [])) (sym ez) (each_snoc R xs ys x y e r))

take_none : {A : Type 0} (ys : List A) → take 0 ys ≡ []
take_none [] = refl
take_none (y ∷ ys) = refl

taken : {A : Type 0} (xs ys : List A) → take (length xs) (xs ++ ys) ≡ xs
taken [] ys = take_none ys
taken (x ∷ xs) ys = ap (λ l. x ∷ l) (taken xs ys)

pub taken_whole : {A : Type 0} (n : ℕ) (new more : List A) → n ≡ length new → take n (new ++ more) ≡ new
taken_whole n new more e = subst (λ (k : ℕ). take k (new ++ more) ≡ new) (sym e) (taken new more)
