-- Several bodies, each as it was and as it is.
use Rattle.std.specs.Prelude.{Result, Ok, Err, IfOk, OnOk, OnErr}
use Rattle.std.proofs.Common.{◌≡◌, ◌≢◌, ◌≤◌, ◌<◌, ◌+◌, ◌⊎◌, inl, inr, ℕ, zero, suc, Some, List, [], ◌∷◌, length, get_or, set, slice_get, refl, sym, ap, subst, ◌∙◌, arith}
use Rattle.std.specs.List.{sum_by}
use Rattle.std.proofs.lemmas.List.{length-set}
use Rattle.std.proofs.lemmas.List.Sums.{sum_by-set, sum_by-cons}
use Rattle.std.proofs.lemmas.Option.{slice_get_within, slice_get-get_or, get_or_from_slice_get, slice_get_read}
use Rattle.lane_core.specs.Bodies.{AllOf, EachOf, BrokeOff}

pub same_or : (m n : ℕ) → (m ≡ n) ⊎ (m ≢ n)
same_or zero zero = inl refl
same_or zero (suc n) = inr (λ e. omega (arith, e))
same_or (suc m) zero = inr (λ e. omega (arith, e))
same_or (suc m) (suc n) = elim (same_or m n) [ inl e ↦ inl (ap suc e) | inr ne ↦ inr (λ e. ne (omega (arith, e))) ]

module _ {B : Type 0} where
  pub some_is : (x y : B) → Some x ≡ Some y → x ≡ y
  some_is x y e = cc

  pub one_there : (xs : List B) (k : ℕ) (a b : B) → slice_get xs k ≡ Some a → slice_get xs k ≡ Some b → a ≡ b
  one_there xs k a b ea eb = some_is a b (sym ea ∙ eb)

  -- there is one at each place below the count
  pub at_place : (xs : List B) (k : ℕ) → k < length xs → (x : B) × (slice_get xs k ≡ Some x)
  at_place [] k l = absurd (omega (arith, l))
  at_place (x ∷ xs) zero l = (x, refl)
  at_place (x ∷ xs) (suc k) l = at_place xs k (omega (arith, l))

  -- and at the same place of a list of the same length
  pub at_count : (xs ys : List B) (k : ℕ) (x : B) → length ys ≡ length xs → slice_get xs k ≡ Some x → (y : B) × (slice_get ys k ≡ Some y)
  at_count xs ys k x e h = let l = slice_get_within xs k x h in at_place ys k (omega (arith, e, l))

  pub get_set_same : (xs : List B) (n : ℕ) (y p : B) → slice_get (set xs n y) n ≡ Some p → y ≡ p
  get_set_same [] n y p e = cc
  get_set_same (x ∷ xs) zero y p e = some_is y p e
  get_set_same (x ∷ xs) (suc n) y p e = get_set_same xs n y p e

  pub get_set_other : (xs : List B) (n k : ℕ) (y : B) → k ≢ n → slice_get (set xs n y) k ≡ slice_get xs k
  get_set_other [] n k y ne = refl
  get_set_other (x ∷ xs) zero zero y ne = absurd (ne refl)
  get_set_other (x ∷ xs) zero (suc k) y ne = refl
  get_set_other (x ∷ xs) (suc n) zero y ne = refl
  get_set_other (x ∷ xs) (suc n) (suc k) y ne = get_set_other xs n k y (λ e. ne (ap suc e))

  pub each_still : (R : B → B → Type 0) → ((a : B) → R a a) → (xs : List B) → EachOf R xs xs
  each_still R r xs = record { count = refl; each = λ k a b ea eb. subst (λ x. R a x) (one_there xs k a b ea eb) (r a) }

  pub each_on : (R S T : B → B → Type 0) → ((a b c : B) → R a b → S b c → T a c) → (xs ys zs : List B) → EachOf R xs ys → EachOf S ys zs → EachOf T xs zs
  each_on R S T t xs ys zs p q = record {
    count = q.count ∙ p.count;
    each = λ k a c ea ec. let m = at_count xs ys k a p.count ea in t a m.0 c (p.each k a m.0 ea m.1) (q.each k m.0 c m.1 ec);
  }

  -- one that was there is replaced
  pub each_set : (R : B → B → Type 0) → ((a : B) → R a a) → (xs ys : List B) (k : ℕ) (x y : B) → k < length xs → x ≡ get_or xs k x → ys ≡ set xs k y → R x y → EachOf R xs ys
  each_set R r xs ys k x y l e s q = record {
    count = ap length s ∙ length-set _ _ _;
    each = λ j a b ea eb. elim (same_or j k) [
      | inl h ↦ subst (λ v. R v b) (one_there xs j x a (ap (λ n. slice_get xs n) h ∙ slice_get_read xs (length xs) k x refl l e) ea) (subst (λ v. R x v) (get_set_same xs k y b (ap (λ n. slice_get (set xs k y) n) (sym h) ∙ (ap (λ zs. slice_get zs j) (sym s) ∙ eb))) q)
      | inr ne ↦ subst (λ v. R a v) (one_there xs j a b ea (sym (get_set_other xs k j y ne) ∙ (ap (λ zs. slice_get zs j) (sym s) ∙ eb))) (r a)
    ];
  }

  pub all_set : (P : B → Type 0) (xs ys : List B) (k : ℕ) (y : B) → ys ≡ set xs k y → AllOf P xs → P y → AllOf P ys
  all_set P xs ys k y s h p = λ j b eb. elim (same_or j k) [
    | inl e ↦ subst P (get_set_same xs k y b (ap (λ n. slice_get (set xs k y) n) (sym e) ∙ (ap (λ zs. slice_get zs j) (sym s) ∙ eb))) p
    | inr ne ↦ h j b (sym (get_set_other xs k j y ne) ∙ (ap (λ zs. slice_get zs j) (sym s) ∙ eb))
  ]

  -- what stands in a relation keeps a property
  pub all_along : (S : B → B → Type 0) (P : B → Type 0) → ((a b : B) → S a b → P a → P b) → (xs ys : List B) → EachOf S xs ys → AllOf P xs → AllOf P ys
  all_along S P f xs ys s h = λ k b eb. let a = at_count ys xs k b (sym s.count) eb in f a.0 b (s.each k a.0 b a.1 eb) (h k a.0 a.1)

  -- sums
  pub part_of : (f : B → ℕ) (xs : List B) (k : ℕ) (x : B) → slice_get xs k ≡ Some x → f x ≤ sum_by f xs
  part_of f [] k x e = cc
  part_of f (z ∷ xs) zero x e = let h = ap f (some_is z x e) in let s = sum_by-cons f z xs in omega (arith, h, s)
  part_of f (z ∷ xs) (suc k) x e = let h = part_of f xs k x e in let s = sum_by-cons f z xs in omega (arith, h, s)

  pub sum_set : (f : B → ℕ) (xs ys : List B) (k n : ℕ) (x y : B) → k < length xs → x ≡ get_or xs k x → ys ≡ set xs k y → f y ≡ f x + n → sum_by f ys ≡ sum_by f xs + n
  sum_set f xs ys k n x y l e s g = let t = sum_by-set f xs k y x l in let u = ap f e in let v = ap (λ zs. sum_by f zs) s in omega (arith, t, u, v, g)

  pub sum_same : (f : B → ℕ) (xs ys : List B) → length ys ≡ length xs → ((k : ℕ) (a b : B) → slice_get xs k ≡ Some a → slice_get ys k ≡ Some b → f b ≡ f a) → sum_by f ys ≡ sum_by f xs
  sum_same f [] [] e h = refl
  sum_same f [] (y ∷ ys) e h = absurd (omega (arith, e))
  sum_same f (x ∷ xs) [] e h = absurd (omega (arith, e))
  sum_same f (x ∷ xs) (y ∷ ys) e h =
      let t = sum_same f xs ys (omega (arith, e)) (λ k a b ea eb. h (suc k) a b ea eb) in
      let u = h 0 x y refl refl in
      let p = sum_by-cons f x xs in
      let q = sum_by-cons f y ys in
      omega (arith, t, u, p, q)

  pub sum_none : (f : B → ℕ) (xs : List B) → AllOf (λ b. f b ≡ 0) xs → sum_by f xs ≡ 0
  sum_none f [] h = refl
  sum_none f (x ∷ xs) h =
      let t = sum_none f xs (λ k b e. h (suc k) b e) in
      let u = h 0 x refl in
      let p = sum_by-cons f x xs in
      omega (arith, t, u, p)

  pub broke_set : (keeps : B → Type 0) (goes breaks : B → B → Type 0) → ((a : B) → goes a a) → (xs ys : List B) (k : ℕ) (x y : B) → k < length xs → x ≡ get_or xs k x → ys ≡ set xs k y → breaks x y → AllOf keeps xs → BrokeOff keeps goes breaks xs ys
  broke_set keeps goes breaks r xs ys k x y l e s q h = record {
    count = ap length s ∙ length-set _ _ _;
    at = k;
    there = l;
    broke = λ a b ea eb. subst (λ v. breaks v b) (one_there xs k x a (slice_get_read xs (length xs) k x refl l e) ea) (subst (λ v. breaks x v) (get_set_same xs k y b (ap (λ zs. slice_get zs k) (sym s) ∙ eb)) q);
    others_go = λ j a b ne ea eb. subst (λ v. goes a v) (one_there xs j a b ea (sym (get_set_other xs k j y ne) ∙ (ap (λ zs. slice_get zs j) (sym s) ∙ eb))) (r a);
    others_keep = λ j b ne eb. h j b (sym (get_set_other xs k j y ne) ∙ (ap (λ zs. slice_get zs j) (sym s) ∙ eb));
  }

  -- all went on before one broke off
  pub broke_after : (keeps : B → Type 0) (goes breaks : B → B → Type 0) → ((a b c : B) → goes a b → goes b c → goes a c) → ((a b c : B) → goes a b → breaks b c → breaks a c) → (xs ys zs : List B) → EachOf goes xs ys → BrokeOff keeps goes breaks ys zs → BrokeOff keeps goes breaks xs zs
  broke_after keeps goes breaks t u xs ys zs p q = record {
    count = q.count ∙ p.count;
    at = q.at;
    there = let l = q.there in let e = p.count in omega (arith, l, e);
    broke = λ a c ea ec. let m = at_count xs ys q.at a p.count ea in u a m.0 c (p.each q.at a m.0 ea m.1) (q.broke m.0 c m.1 ec);
    others_go = λ k a c ne ea ec. let m = at_count xs ys k a p.count ea in t a m.0 c (p.each k a m.0 ea m.1) (q.others_go k m.0 c ne m.1 ec);
    others_keep = q.others_keep;
  }

  -- all met after one broke off
  pub broke_met : (keeps : B → Type 0) (goes stands breaks : B → B → Type 0) → ((a b c : B) → goes a b → goes b c → goes a c) → ((a b c : B) → breaks a b → stands b c → breaks a c) → ((a b : B) → stands a b → keeps a → keeps b) → (xs ys zs : List B) → BrokeOff keeps goes breaks xs ys → EachOf stands ys zs → EachOf goes ys zs → BrokeOff keeps goes breaks xs zs
  broke_met keeps goes stands breaks t u v xs ys zs q s p = record {
    count = s.count ∙ q.count;
    at = q.at;
    there = q.there;
    broke = λ a c ea ec. let m = at_count xs ys q.at a q.count ea in u a m.0 c (q.broke a m.0 ea m.1) (s.each q.at m.0 c m.1 ec);
    others_go = λ k a c ne ea ec. let m = at_count xs ys k a q.count ea in t a m.0 c (q.others_go k a m.0 ne ea m.1) (p.each k m.0 c m.1 ec);
    others_keep = λ k c ne ec. let m = at_count zs ys k c (sym s.count) ec in v m.0 c (s.each k m.0 c m.1 ec) (q.others_keep k m.0 ne m.1);
  }

  get_set_here : (xs : List B) (k : ℕ) (y : B) → k < length xs → slice_get (set xs k y) k ≡ Some y
  get_set_here [] k y l = absurd (omega (arith, l))
  get_set_here (x ∷ xs) zero y l = refl
  get_set_here (x ∷ xs) (suc k) y l = get_set_here xs k y (omega (arith, l))

  -- what a turn of the body at k tells that used nothing
  abbrev pub IdleAt : {E : Type 0} → (B → B → Type 0) → (B → B → Type 0) → Result ℕ E → ℕ → List B → List B → ℕ → Type 0
  IdleAt goes idle r limit xs ys k = IfOk r (λ used. used ≡ 0 → 1 ≤ limit → (a : B) → slice_get xs k ≡ Some a → (b : B) × ((slice_get ys k ≡ Some b) × (goes a b × idle a b)))

  -- of the answer of a turn of the body at k
  pub idle_at : {E : Type 0} (goes idle : B → B → Type 0) (r : Result ℕ E) (limit : ℕ) (xs ys : List B) (k : ℕ) (d y : B) → k < length xs → ys ≡ set xs k y → OnOk r (goes (get_or xs k d) y) → IfOk r (λ used. used ≡ 0 → 1 ≤ limit → idle (get_or xs k d) y) → IdleAt goes idle r limit xs ys k
  idle_at goes idle (Ok used) limit xs ys k d y l s g h = λ z m a ea. let e = one_there xs k (get_or xs k d) a (slice_get-get_or xs k d l) ea in (y, (ap (λ (zs : List B). slice_get zs k) s ∙ get_set_here xs k y l, (subst (λ v. goes v y) e g, subst (λ v. idle v y) e (h z m))))
  idle_at goes idle (Err lack) limit xs ys k d y l s g h = tt

  -- a turn that had something to do used a unit
  pub never : {E : Type 0} (goes idle : B → B → Type 0) (r : Result ℕ E) (limit : ℕ) (xs ys : List B) (k : ℕ) (x : B) (X : Type 0) → 0 < limit → slice_get xs k ≡ Some x → ((b : B) → slice_get ys k ≡ Some b → goes x b → idle x b → ⊥) → IdleAt goes idle r limit xs ys k → IfOk r (λ used. used ≡ 0 → X)
  never goes idle (Ok used) limit xs ys k x X some at stirs h = λ z. let b = h z (omega (arith, some)) x at in absurd (stirs b.0 b.1.0 b.1.1.0 b.1.1.1)
  never goes idle (Err lack) limit xs ys k x X some at stirs h = tt

  pub broke_at : {E : Type 0} (keeps : B → Type 0) (goes breaks : B → B → Type 0) (r : Result ℕ E) → ((a : B) → goes a a) → (xs ys : List B) (k : ℕ) (d y : B) → k < length xs → ys ≡ set xs k y → AllOf keeps xs → OnErr r (breaks (get_or xs k d) y) → OnErr r (BrokeOff keeps goes breaks xs ys)
  broke_at keeps goes breaks (Ok used) g xs ys k d y l s h q = tt
  broke_at keeps goes breaks (Err lack) g xs ys k d y l s h q = broke_set keeps goes breaks g xs ys k (get_or xs k d) y l (sym (get_or_from_slice_get xs k (get_or xs k d) (get_or xs k d) (slice_get-get_or xs k d l))) s q h

pub on_err : {A E : Type 0} (r : Result A E) {X : Type 0} → X → OnErr r X
on_err (Ok a) x = tt
on_err (Err e) x = x

pub some_used : (n : ℕ) → (n ≡ 0 → ⊥) → 1 ≤ n
some_used zero h = absurd (h refl)
some_used (suc n) h = omega arith

-- more of an answer
pub ok_then : {A E : Type 0} (r : Result A E) {P Q : Type 0} → (P → Q) → OnOk r P → OnOk r Q
ok_then (Ok a) f p = f p
ok_then (Err e) f p = tt

pub if_then : {E : Type 0} (r : Result ℕ E) (P Q : ℕ → Type 0) → ((n : ℕ) → P n → Q n) → IfOk r (λ n. P n) → IfOk r (λ n. Q n)
if_then (Ok n) P Q f p = f n p
if_then (Err e) P Q f p = tt

pub err_then : {A E : Type 0} (r : Result A E) {P Q : Type 0} → (P → Q) → OnErr r P → OnErr r Q
err_then (Ok a) f p = tt
err_then (Err e) f p = f p
