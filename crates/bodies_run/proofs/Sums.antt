-- Sums over lists, and how they are spread over the lanes.
use Rattle.std.specs.Prelude.{slice_get, Option}
use Rattle.std.specs.List.{sum_by}
use Rattle.std.proofs.Common.{◌≡◌, ◌≢◌, inl, inr, ℕ, zero, suc, ◌+◌, ◌<◌, ◌≤◌, List, [], ◌∷◌, None, Some, map, refl, sym, ap, ◌∙◌, arith}
use Rattle.std.proofs.lemmas.List.Sums.{sum_by-cons}
use Rattle.stream_model.specs.Graph.{Edge}
use Rattle.fused_net.specs.Costs.{sum_below}
use Rattle.fused_net.proofs.Reading.{same_or_not}
use Rattle.fused_net.proofs.Sums.{sum_has}
use Rattle.run_laws.specs.Units.{lane_at, if_lane}

-- f of each, together
abbrev pub add_up : {X : Type 0} → (X → ℕ) → List X → ℕ
add_up f [] = 0
add_up f (x ∷ xs) = f x + add_up f xs

-- a number where these two are the same
abbrev pub when_same : ℕ → ℕ → ℕ → ℕ
when_same zero zero n = n
when_same zero (suc b) n = 0
when_same (suc a) zero n = 0
when_same (suc a) (suc b) n = when_same a b n

pub same_hit : (a n : ℕ) → when_same a a n ≡ n
same_hit zero n = refl
same_hit (suc a) n = same_hit a n

pub other_hit : (a b n : ℕ) → a ≢ b → when_same a b n ≡ 0
other_hit zero zero n ne = absurd (ne refl)
other_hit zero (suc b) n ne = refl
other_hit (suc a) zero n ne = refl
other_hit (suc a) (suc b) n ne = other_hit a b n (λ e. ne (ap suc e))

pub map_get : {A B : Type 0} (f : A → B) (xs : List A) (k : ℕ) (x : A) → slice_get xs k ≡ Some x → slice_get (map f xs) k ≡ Some (f x)
map_get f [] k x e = absurd cc
map_get f (y ∷ xs) zero x e = let same : y ≡ x = cc in ap (λ (z : _). Some (f z)) same
map_get f (y ∷ xs) (suc k) x e = map_get f xs k x e

pub by_sum : {X : Type 0} (f : X → ℕ) (xs : List X) → sum_by f xs ≡ add_up f xs
by_sum f [] = refl
by_sum f (x ∷ xs) = sum_by-cons f x xs ∙ ap (λ (n : ℕ). f x + n) (by_sum f xs)

pub add_le : {X : Type 0} (f h : X → ℕ) (xs : List X) → ((k : ℕ) (x : X) → slice_get xs k ≡ Some x → f x ≤ h x) → add_up f xs ≤ add_up h xs
add_le f h [] le = omega arith
add_le f h (x ∷ xs) le = let here : f x ≤ h x = le 0 x refl in let rest : add_up f xs ≤ add_up h xs = add_le f h xs (λ k y e. le (suc k) y e) in omega (arith, here, rest)

pub add_same : {X : Type 0} (f h : X → ℕ) (xs : List X) → ((x : X) → f x ≡ h x) → add_up f xs ≡ add_up h xs
add_same f h [] e = refl
add_same f h (x ∷ xs) e = let here : f x ≡ h x = e x in let rest : add_up f xs ≡ add_up h xs = add_same f h xs e in omega (arith, here, rest)

pub add_both : {X : Type 0} (f h : X → ℕ) (xs : List X) → add_up (λ x. f x + h x) xs ≡ add_up f xs + add_up h xs
add_both f h [] = refl
add_both f h (x ∷ xs) = let rest : add_up (λ x. f x + h x) xs ≡ add_up f xs + add_up h xs = add_both f h xs in omega (arith, rest)

all_zero : {X : Type 0} (f : X → ℕ) (xs : List X) → ((k : ℕ) (x : X) → slice_get xs k ≡ Some x → f x ≡ 0) → add_up f xs ≡ 0
all_zero f [] e = refl
all_zero f (x ∷ xs) e = let here : f x ≡ 0 = e 0 x refl in let rest : add_up f xs ≡ 0 = all_zero f xs (λ k y at. e (suc k) y at) in omega (arith, here, rest)

pub none_up : {X : Type 0} (f : X → ℕ) (xs : List X) → ((k : ℕ) (x : X) → slice_get xs k ≡ Some x → f x ≡ 0) → add_up f xs ≡ 0
none_up f xs e = all_zero f xs e

-- all but that at one place are nothing
pub only_one : {X : Type 0} (f : X → ℕ) (xs : List X) (p : ℕ) (y : X) → slice_get xs p ≡ Some y → ((k : ℕ) (x : X) → slice_get xs k ≡ Some x → k ≢ p → f x ≡ 0) → add_up f xs ≡ f y
only_one f [] p y at others = absurd cc
only_one f (x ∷ xs) zero y at others =
    let same : x ≡ y = cc in
    let here : f x ≡ f y = ap f same in
    let rest : add_up f xs ≡ 0 = all_zero f xs (λ k z e. others (suc k) z e (λ t. absurd (omega (arith, t)))) in
    omega (arith, here, rest)
only_one f (x ∷ xs) (suc p) y at others =
    let here : f x ≡ 0 = others 0 x refl (λ t. absurd (omega (arith, t))) in
    let rest : add_up f xs ≡ f y = only_one f xs p y at (λ k z e ne. others (suc k) z e (λ t. ne (omega (arith, t)))) in
    omega (arith, here, rest)

-- ---- over the lanes

sum_add : (f g : ℕ → ℕ) (n : ℕ) → sum_below (λ k. f k + g k) n ≡ sum_below f n + sum_below g n
sum_add f g zero = refl
sum_add f g (suc n) = omega (arith, sum_add f g n)

sum_same : (f g : ℕ → ℕ) (n : ℕ) → ((k : ℕ) → f k ≡ g k) → sum_below f n ≡ sum_below g n
sum_same f g zero h = refl
sum_same f g (suc n) h = omega (arith, sum_same f g n h, h n)

pub sum_first : (f : ℕ → ℕ) (n : ℕ) → sum_below f (suc n) ≡ f 0 + sum_below (λ k. f (suc k)) n
sum_first f zero = omega arith
sum_first f (suc n) = omega (arith, sum_first f n)

lane_add : (o : Option ℕ) (a b : ℕ) → if_lane o (a + b) ≡ if_lane o a + if_lane o b
lane_add None a b = refl
lane_add (Some z) a b = refl

-- the sum over all lanes of the first so many wires
abbrev pub over : List Edge → (ℕ → ℕ) → ℕ → ℕ
over ws f n = sum_below (λ u. if_lane (lane_at ws u) (f u)) n

pub over_add : (ws : List Edge) (f g : ℕ → ℕ) (n : ℕ) → over ws (λ u. f u + g u) n ≡ over ws f n + over ws g n
over_add ws f g n = sum_same (λ u. if_lane (lane_at ws u) (f u + g u)) (λ u. if_lane (lane_at ws u) (f u) + if_lane (lane_at ws u) (g u)) n (λ u. lane_add (lane_at ws u) (f u) (g u)) ∙ sum_add (λ u. if_lane (lane_at ws u) (f u)) (λ u. if_lane (lane_at ws u) (g u)) n

pub lane_there : (ws : List Edge) (u : ℕ) (v : Edge) → slice_get ws u ≡ Some v → lane_at ws u ≡ v.lane
lane_there [] u v e = cc
lane_there (w ∷ ws) zero v e = cc
lane_there (w ∷ ws) (suc u) v e = lane_there ws u v e

-- one that is spread over the lanes
pub over_one : (ws : List Edge) (u size c n : ℕ) → u < n → lane_at ws u ≡ Some size → c ≤ over ws (λ w. when_same u w c) n
over_one ws u size c n lt lane =
    let has : if_lane (lane_at ws u) (when_same u u c) ≤ over ws (λ w. when_same u w c) n = sum_has (λ w. if_lane (lane_at ws w) (when_same u w c)) n u lt in
    let is : if_lane (lane_at ws u) (when_same u u c) ≡ c = ap (λ (o : Option ℕ). if_lane o (when_same u u c)) lane ∙ same_hit u c in
    omega (arith, has, is)

-- and all of a list, of which each is
pub over_all : {X : Type 0} (ws : List Edge) (f : X → ℕ) (h : ℕ → X → ℕ) (n : ℕ) (xs : List X) → ((k : ℕ) (x : X) → slice_get xs k ≡ Some x → f x ≤ over ws (λ u. h u x) n) → add_up f xs ≤ over ws (λ u. add_up (h u) xs) n
over_all ws f h n [] le = omega arith
over_all ws f h n (x ∷ xs) le =
    let here : f x ≤ over ws (λ u. h u x) n = le 0 x refl in
    let rest : add_up f xs ≤ over ws (λ u. add_up (h u) xs) n = over_all ws f h n xs (λ k y e. le (suc k) y e) in
    let both : over ws (λ u. h u x + add_up (h u) xs) n ≡ over ws (λ u. h u x) n + over ws (λ u. add_up (h u) xs) n = over_add ws (λ u. h u x) (λ u. add_up (h u) xs) n in
    omega (arith, here, rest, both)

-- ---- and the sum over all lanes is no more than what is spread over them

lane_le : (o : Option ℕ) (m c : ℕ) → m ≤ c → if_lane o m ≤ c
lane_le None m c le = omega arith
lane_le (Some z) m c le = le

lane_none : (o : Option ℕ) (m : ℕ) → m ≡ 0 → if_lane o m ≡ 0
lane_none None m e = refl
lane_none (Some z) m e = e

-- one that is spread over the lanes is nothing before its own
over_before : (ws : List Edge) (w c n : ℕ) → n ≤ w → over ws (λ u. when_same w u c) n ≡ 0
over_before ws w c zero le = refl
over_before ws w c (suc n) le =
    let rest : over ws (λ u. when_same w u c) n ≡ 0 = over_before ws w c n (omega (arith, le)) in
    let here : if_lane (lane_at ws n) (when_same w n c) ≡ 0 = lane_none (lane_at ws n) (when_same w n c) (other_hit w n c (λ e. absurd (omega (arith, le, e)))) in
    omega (arith, rest, here)

pub over_once : (ws : List Edge) (w c n : ℕ) → over ws (λ u. when_same w u c) n ≤ c
over_once ws w c zero = omega arith
over_once ws w c (suc n) = elim (same_or_not w n) [
  | inl e ↦
      let rest : over ws (λ u. when_same w u c) n ≡ 0 = over_before ws w c n (omega (arith, e)) in
      let same : when_same w n c ≡ c = ap (λ (k : ℕ). when_same w k c) (sym e) ∙ same_hit w c in
      let here : if_lane (lane_at ws n) (when_same w n c) ≤ c = lane_le (lane_at ws n) (when_same w n c) c (omega (arith, same)) in
      omega (arith, rest, here)
  | inr ne ↦
      let rest : over ws (λ u. when_same w u c) n ≤ c = over_once ws w c n in
      let here : if_lane (lane_at ws n) (when_same w n c) ≡ 0 = lane_none (lane_at ws n) (when_same w n c) (other_hit w n c ne) in
      omega (arith, rest, here)
]

over_nothing : (ws : List Edge) (n : ℕ) → over ws (λ u. 0) n ≡ 0
over_nothing ws zero = refl
over_nothing ws (suc n) = let rest : over ws (λ u. 0) n ≡ 0 = over_nothing ws n in let here : if_lane (lane_at ws n) 0 ≡ 0 = lane_none (lane_at ws n) 0 refl in omega (arith, rest, here)

-- and so are all of a list, of which each is
pub over_each : {X : Type 0} (ws : List Edge) (f : X → ℕ) (h : ℕ → X → ℕ) (n : ℕ) (xs : List X) → ((x : X) → over ws (λ u. h u x) n ≤ f x) → over ws (λ u. add_up (h u) xs) n ≤ add_up f xs
over_each ws f h n [] le = let none : over ws (λ u. 0) n ≡ 0 = over_nothing ws n in omega (arith, none)
over_each ws f h n (x ∷ xs) le =
    let here : over ws (λ u. h u x) n ≤ f x = le x in
    let rest : over ws (λ u. add_up (h u) xs) n ≤ add_up f xs = over_each ws f h n xs le in
    let both : over ws (λ u. h u x + add_up (h u) xs) n ≡ over ws (λ u. h u x) n + over ws (λ u. add_up (h u) xs) n = over_add ws (λ u. h u x) (λ u. add_up (h u) xs) n in
    omega (arith, here, rest, both)
