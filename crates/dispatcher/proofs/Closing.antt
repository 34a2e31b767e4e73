-- How a table begins and how it ends.
use Rattle.std.proofs.Common.{◌≡◌, ℕ, zero, suc, ◌+◌, ◌/◌, ◌<◌, ◌≤◌, List, [], ◌∷◌, ◌++◌, map, length, get_or, take, drop, replicate, sym, refl, ap, ◌∙◌, subst, arith, Option, Some, slice_get, IfSome, IsSome}
use Rattle.std.proofs.lemmas.List.{length-replicate, get_or-replicate}
use Rattle.std.specs.Option.{unwrap_or}
use mathlib.Core.Logic.{dite}
use mathlib.Core.Option.{some, some-injective, some-ne-none}
use native.Mathlib.Decide.{ℕ_discrete}
use lib.ListN.{get_elem?}
use Rattle.atomic_table.specs.Table.{opening, Final, Seen}
use Rattle.dispatcher.specs.Sums.{total, times, latest}
use Rattle.dispatcher.specs.Table.{hold, OriginFits, Orderly}
use Rattle.dispatcher.specs.PublicTurns.{first_held, first_found, first_began, first_woke}
use Rattle.dispatcher.specs.declared.hold.Hold.{Hold}
use Rattle.dispatcher.proofs.Totals.{terms_le, total-zero}

take_whole : {A : Type 0} (l : List A) (n : ℕ) → length l ≤ n → take n l ≡ l
take_whole [] zero h = refl
take_whole [] (suc n) h = refl
take_whole (x ∷ xs) zero h = absurd (omega arith)
take_whole (x ∷ xs) (suc n) h = ap (λ l. x ∷ l) (take_whole xs n (omega arith))

pub some_same : {A : Type 0} (x y : A) → Some x ≡ Some y → x ≡ y
some_same x y e = ap (λ o. unwrap_or o x) e

take_suc : {A : Type 0} (l : List A) (i : ℕ) (x : A) → get_elem? l i ≡ some x → take (suc i) l ≡ take i l ++ x ∷ []
take_suc [] i x e = absurd (some-ne-none x (sym e))
take_suc (y ∷ ys) zero x e = ap (λ z. z ∷ []) (some-injective y x e)
take_suc (y ∷ ys) (suc i) x e = ap (λ l. y ∷ l) (take_suc ys i x e)

pub take_next : {A : Type 0} (l : List A) (i : ℕ) (x : A) → get_elem? l i ≡ some x → take (i + 1) l ≡ take i l ++ x ∷ []
take_next l i x e = let one : i + 1 ≡ suc i = omega arith in ap (λ (j : ℕ). take j l) one ∙ take_suc l i x e

-- a list of slots that were all taken
pub taken_all : {T : Type 0} (vs : List T) (l : List (Option T)) (n : ℕ) → map Some vs ≡ take n l → length l ≤ n → map Some vs ≡ l
taken_all vs l n e h = e ∙ take_whole l n h

pub popped : {A : Type 0} (P : A → Type 0) (r : Option A) (x : A) → IfSome r P → r ≡ Some x → P x
popped {A} P r x p e = subst (λ (o : Option A). IfSome o P) e p

-- lists are the same where their values in slots are
pub same_wrapped : {T : Type 0} (xs ys : List T) → map Some xs ≡ map Some ys → xs ≡ ys
same_wrapped [] [] e = refl
same_wrapped [] (y ∷ ys) e = let h = ap length e in absurd (omega arith)
same_wrapped (x ∷ xs) [] e = let h = ap length e in absurd (omega arith)
same_wrapped (x ∷ xs) (y ∷ ys) e =
    let first : x ≡ y = some_same x y (ap (λ l. get_or l 0 (Some x)) e) in let later = same_wrapped xs ys (ap (drop 1) e) in λ i. first i ∷ later i

wrapped_each : {T : Type 0} (vs : List T) (k : ℕ) (d : Option T) → k < length (map Some vs) → IsSome (get_or (map Some vs) k d)
wrapped_each [] k d h = absurd (omega arith)
wrapped_each (v ∷ vs) zero d h = refl
wrapped_each (v ∷ vs) (suc k) d h = wrapped_each vs k d (omega arith)

-- each slot has a value
pub some_each : {T : Type 0} (vs : List T) (slots : List (Option T)) → slots ≡ map Some vs → (k : ℕ) (d : Option T) → k < length slots → IsSome (get_or slots k d)
some_each {T} vs slots e = subst (λ (l : List (Option T)). (k : ℕ) (d : Option T) → k < length l → IsSome (get_or l k d)) (sym e) (wrapped_each vs)

pub app_next : {A : Type 0} (xs : List A) (x : A) (ys : List A) → (xs ++ x ∷ []) ++ ys ≡ xs ++ x ∷ ys
app_next [] x ys = refl
app_next (y ∷ zs) x ys = ap (λ l. y ∷ l) (app_next zs x ys)

pub seat_is : {C : Type 0} (m : Hold × List C) → m.0.held ≡ [] → m.0.out ≡ 0 → m.1 ≡ [] → m ≡ (hold m.0.parts [] 0 m.0.found m.0.began m.0.woke, [])
seat_is m h o e = λ i. (record { parts = m.0.parts; held = h i; out = o i; found = m.0.found; began = m.0.began; woke = m.0.woke }, e i)

-- a seat with one view is told by what that view holds, found, began and woke
pub own_views : (l : List Hold) (p : ℕ) (h : List ℕ) (f : List (ℕ × ℕ)) (b : List ℕ) (w : List (ℕ × ℕ)) → l ≡ hold p h 0 f b w ∷ [] → l ≡ hold p (first_held l) 0 (first_found l) (first_began l) (first_woke l) ∷ []
own_views l p h f b w e = e ∙ (λ i. hold p (first_held (sym e i)) 0 (first_found (sym e i)) (first_began (sym e i)) (first_woke (sym e i)) ∷ [])

pub map_snoc : {A B : Type 0} (f : A → B) (l : List A) (x : A) → map f (l ++ x ∷ []) ≡ map f l ++ f x ∷ []
map_snoc f [] x = refl
map_snoc f (y ∷ ys) x = ap (λ l. f y ∷ l) (map_snoc f ys x)

-- lists whose values have the same origins
pub same_origins : {T O : Type 0} (o : T → O) (rs vs : List T) → length rs ≡ length vs
    → ((k : ℕ) → k < length vs → (x : T) × (get_elem? (map Some rs) k ≡ some (Some x)) × (slice_get (map o vs) k ≡ Some (o x)))
    → map o rs ≡ map o vs
same_origins o [] [] e h = refl
same_origins o [] (v ∷ vs) e h = absurd (omega arith)
same_origins o (r ∷ rs) [] e h = absurd (omega arith)
same_origins o (r ∷ rs) (v ∷ vs) e h =
    let t = h 0 (omega arith) in
    let is : r ≡ t.0 = some_same r t.0 (some-injective (Some r) (Some t.0) t.1) in
    let at : o v ≡ o t.0 = some_same (o v) (o t.0) t.2 in
    let first : o r ≡ o v = ap o is ∙ sym at in
    let later = same_origins o rs vs (omega arith) (λ k less. h (suc k) (omega arith)) in
    λ i. first i ∷ later i

pub long_map : {A B : Type 0} (f : A → B) (l : List A) → length (map f l) ≡ length l
long_map f [] = refl
long_map f (x ∷ xs) = ap suc (long_map f xs)

-- each value is in its slot
there : {T O : Type 0} (o : T → O) (vs : List T) (k : ℕ) → k < length vs → (x : T) × (get_elem? (map some (map Some vs)) k ≡ some (some (Some x))) × (slice_get (map o vs) k ≡ Some (o x))
there o [] k h = absurd (omega arith)
there o (v ∷ vs) zero h = (v, refl, refl)
there o (v ∷ vs) (suc k) h = there o vs k (omega arith)

held_none : (seats id : ℕ) (v : Hold) → get_elem? (hold seats [] 0 [] [] [] ∷ []) id ≡ some v → v.held ≡ []
held_none seats zero v e = ap (λ (z : Hold). z.held) (sym (some-injective (hold seats [] 0 [] [] []) v e))
held_none seats (suc id) v e = absurd (some-ne-none v (sym e))

none_woke : (seats id : ℕ) (v : Hold) (k : ℕ) → get_elem? (hold seats [] 0 [] [] [] ∷ []) id ≡ some v → latest k v.woke ≡ 0
none_woke seats zero v k e = ap (λ (z : Hold). latest k z.woke) (sym (some-injective (hold seats [] 0 [] [] []) v e))
none_woke seats (suc id) v k e = absurd (some-ne-none v (sym e))

none_held : (seats id : ℕ) (v : Hold) (k : ℕ) → get_elem? (hold seats [] 0 [] [] [] ∷ []) id ≡ some v → ¬ (0 < times k v.held)
none_held seats id v k e h = let gone = ap (times k) (held_none seats id v e) in omega arith

pub opens : {T O : Type 0} (o : T → O) (vs : List T) (seats : ℕ) (words : List ℕ) (slots : List (Option T)) → words ≡ replicate (length vs) 0 → slots ≡ map Some vs
    → Orderly (OriginFits o vs) (length vs) seats (opening words slots (hold seats [] 0 [] [] []))
opens {T} o vs seats words slots we se = subst (λ (ws : List ℕ). Orderly (OriginFits o vs) (length vs) seats (opening ws slots (hold seats [] 0 [] [] []))) (sym we)
    (subst (λ (xs : List (Option T)). Orderly (OriginFits o vs) (length vs) seats (opening (replicate (length vs) 0) xs (hold seats [] 0 [] [] []))) (sym se)
    (let n = length vs in let zero_at : (k : ℕ) → k < n → get_or (replicate n 0) k 0 ≡ 0 = λ k h. get_or-replicate n k 0 0 h in
    record {
      wide = length-replicate n 0;
      slots = long_map some (map Some vs) ∙ long_map Some vs;
      low = λ k h. omega (arith, zero_at k h);
      once = λ k h. sym (ap (λ (y : ℕ). y / 2) (zero_at k h));
      home = λ k h e. there o vs k h;
      lent = λ id v k e h some_turn far. absurd (none_held seats id v k e some_turn);
      past = λ id v k e h. let none = none_woke seats id v k e in omega arith;
      ready = λ id v k e h is. absurd (let none = none_woke seats id v k e in omega arith);
      parts = omega arith;
      idle = λ id v e none_left. held_none seats id v e;
    }))

-- with every seat's parts and no turn, each value is back
pub closes : {T : Type 0} (fits : ℕ → T → Type 0) (n seats id : ℕ) (v : Hold) (words : List ℕ) (slots : List (Option T))
    → Final (Seen (Orderly fits n seats) id v) words slots → v.parts ≡ seats → v.held ≡ []
    → (length slots ≡ n) × ((k : ℕ) → k < n → (x : T) × (get_elem? slots k ≡ some (Some x)) × fits k x)
closes fits n seats id v words slots f all none_held =
    let s = f.0 in let o = f.1.0 in let me = f.1.1 in let long : length slots ≡ n = sym f.3 ∙ o.slots in
    let free : (j : ℕ) (u : Hold) → get_elem? s.views j ≡ some u → u.held ≡ [] = λ j u e. dite (ℕ_discrete j id)
    (λ is. ap (λ (z : Hold). z.held) (some-injective u v (sym e ∙ subst (λ (i : ℕ). get_elem? s.views i ≡ some v) (sym is) me)) ∙ none_held)
    (λ ne. o.idle j u e (let both = terms_le (λ (z : Hold). z.parts) s.views id j v u ne me e in let sum = o.parts in omega arith)) in
    let clear : (k : ℕ) → total (λ (z : Hold). times k z.held) s.views ≡ 0 = λ k. total-zero (λ (z : Hold). times k z.held) s.views (λ j u e. ap (times k) (free j u e)) in
    (long, λ k h. let t = o.home k h (sym (o.once k h) ∙ clear k) in (t.0, f.4 k (Some t.0) t.1, t.2))
