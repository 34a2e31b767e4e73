-- How many elements a stage with several inputs gives, and how many of each input it uses.
use Rattle.std.specs.Prelude.{◌-◌, nat_le, if◌then◌else◌}
use Rattle.std.proofs.Common.{◌≡◌, ◌≢◌, ℕ, zero, suc, ◌+◌, ◌<◌, ◌≤◌, inl, inr, Bool, true, false, List, [], ◌∷◌, ◌++◌, map, length, refl, ap, arith, length-append}
use Rattle.std.proofs.lemmas.List.{length-map}
use Rattle.std.specs.Ordering.{is_lt}
use Rattle.elem_core.specs.Prefix.{IsPrefix}
use Rattle.elem_core.specs.Order.{tree_cmp}
use Rattle.elem_core.specs.Tree.{Tree}
use Rattle.elem_core.proofs.Prefixes.{prefix_length}
use Rattle.stream_model.specs.Outlook.{Outlook, End, unended, ended, failed}
use Rattle.stream_model.specs.FanIn.{Tagged, tag, Inlet, inlets, Inflow, flow, concat_of, interleave_of, against, sorted_of, pairs, FanStands}
use Rattle.fused_net.proofs.Reading.{same_or_not}
use Rattle.stage_core.specs.Fans.{used}
use Rattle.stage_core.proofs.FanTurns.{used-append}
use Rattle.stage_core.proofs.Flags.{same, other}
use Rattle.run_laws.proofs.Flows.{total_length}

-- what it gave is no more than what it gives of all that it took
pub stands_few : (h : ℕ) (taken : List Outlook → List Tagged) (ins : List Inflow) (g : List Tree) (f : End) → FanStands h taken ins g f → length g ≤ length (taken (map flow ins))
stands_few h taken ins g unended s = let m = length-map (taken (map flow ins)) (λ (x : Tagged). x.item) in let p = prefix_length s in omega (arith, m, p)
stands_few h taken ins g ended s = let m = length-map (taken (map flow ins)) (λ (x : Tagged). x.item) in let p = ap length s.1 in omega (arith, m, p)
stands_few h taken ins g (failed c) s = let m = length-map (taken (map flow ins)) (λ (x : Tagged). x.item) in let p = prefix_length s.0 in omega (arith, m, p)

-- one input after another
pub concat_few : (n : ℕ) (os : List Outlook) → length (concat_of n os) ≤ total_length os
concat_few n [] = omega arith
concat_few n (o ∷ os) = by o.ends (concat_few (n + 1) os)
  where
    by : (b : Bool) → length (concat_of (n + 1) os) ≤ total_length os → length (map (tag n) o.list ++ (if b then concat_of (n + 1) os else [])) ≤ length o.list + total_length os
    by true h = let l = length-append (map (tag n) o.list) (concat_of (n + 1) os) in let m = length-map o.list (tag n) in omega (arith, l, m, h)
    by false h = let l = length-append (map (tag n) o.list) (◌++◌ {A = Tagged} [] []) in let m = length-map o.list (tag n) in omega (arith, l, m)

-- in turn
abbrev queue_length : List Inlet → ℕ
queue_length [] = 0
queue_length (i ∷ q) = length i.list + queue_length q

queue-append : (q r : List Inlet) → queue_length (q ++ r) ≡ queue_length q + queue_length r
queue-append [] r = omega arith
queue-append (i ∷ q) r = omega (arith, queue-append q r)

interleave_few : (segment fuel left : ℕ) (q : List Inlet) → length (interleave_of segment fuel left q) ≤ queue_length q
interleave_few segment zero left q = omega arith
interleave_few segment (suc fuel) left [] = omega arith
interleave_few segment (suc fuel) left (i ∷ q) = by i.list refl (λ l r. interleave_few segment fuel l r)
  where
    end_by : (b : Bool) → ((l : ℕ) (r : List Inlet) → length (interleave_of segment fuel l r) ≤ queue_length r) → length (if b then interleave_of segment fuel segment q else []) ≤ queue_length q
    end_by true ih = ih segment q
    end_by false ih = omega arith

    turn_by : (b : Bool) (t : Tree) (ts : List Tree) → ((l : ℕ) (r : List Inlet) → length (interleave_of segment fuel l r) ≤ queue_length r)
        → length (tag i.port t ∷ (if b then interleave_of segment fuel segment (q ++ record i { list = ts } ∷ []) else interleave_of segment fuel (left - 1) (record i { list = ts } ∷ q))) ≤ suc (length ts) + queue_length q
    turn_by true t ts ih = let r = ih segment (q ++ record i { list = ts } ∷ []) in let a = queue-append q (record i { list = ts } ∷ []) in omega (arith, r, a)
    turn_by false t ts ih = let r = ih (left - 1) (record i { list = ts } ∷ q) in omega (arith, r)

    by : (l : List Tree) → i.list ≡ l → ((l : ℕ) (r : List Inlet) → length (interleave_of segment fuel l r) ≤ queue_length r) → length (interleave_of segment (suc fuel) left (i ∷ q)) ≤ length i.list + queue_length q
    by [] e ih = let r = end_by i.ends ih in rw e (omega (arith, r))
    by (t ∷ ts) e ih = rw e (turn_by (nat_le left 1) t ts ih)

queue_inlets : (n : ℕ) (os : List Outlook) → queue_length (inlets n os) ≡ total_length os
queue_inlets n [] = refl
queue_inlets n (o ∷ os) = omega (arith, queue_inlets (n + 1) os)

pub turns_few : (segment fuel left : ℕ) (os : List Outlook) → length (interleave_of segment fuel left (inlets 0 os)) ≤ total_length os
turns_few segment fuel left os = let q = queue_inlets 0 os in let r = interleave_few segment fuel left (inlets 0 os) in omega (arith, q, r)

-- by the order of the elements
against_few : (x : Tree) (r : List Tagged) (k : List Tree → List Tagged) (m : ℕ) → length r ≤ m + 1 → ((ys : List Tree) → length (k ys) ≤ m + length ys) → (ys : List Tree) → length (against x r k ys) ≤ m + 1 + length ys
against_few x r k m a b [] = omega (arith, a)
against_few x r k m a b (y ∷ ys) = by (is_lt (tree_cmp y x)) (against_few x r k m a b ys)
  where
    by : (t : Bool) → length (against x r k ys) ≤ m + 1 + length ys → length (if t then tag 1 y ∷ against x r k ys else tag 0 x ∷ k (y ∷ ys)) ≤ m + 1 + suc (length ys)
    by true h = omega (arith, h)
    by false h = let l = b (y ∷ ys) in omega (arith, l)

pub sorted_few : (a b : Bool) (xs ys : List Tree) → length (sorted_of a b xs ys) ≤ length xs + length ys
sorted_few true b [] ys = let m = length-map ys (tag 1) in omega (arith, m)
sorted_few false b [] ys = omega arith
sorted_few a true (x ∷ xs) ys =
    let m = length-map (x ∷ xs) (tag 0) in
    let r = against_few x (map (tag 0) (x ∷ xs)) (sorted_of a true xs) (length xs) (omega (arith, m)) (sorted_few a true xs) ys in
    omega (arith, r)
sorted_few a false (x ∷ xs) ys = let r = against_few x [] (sorted_of a false xs) (length xs) (omega arith) (sorted_few a false xs) ys in omega (arith, r)

-- the pairs
pub pairs_few : (xs ys : List Tree) → (length (pairs xs ys) ≤ length xs) × (length (pairs xs ys) ≤ length ys)
pairs_few [] ys = (omega arith, omega arith)
pairs_few (x ∷ xs) [] = (omega arith, omega arith)
pairs_few (x ∷ xs) (y ∷ ys) = let r = pairs_few xs ys in let a = r.0 in let b = r.1 in (omega (arith, a), omega (arith, b))

-- ---- how many are used of each input

-- of the m inputs from number n on
abbrev pub used_all : ℕ → ℕ → List Tagged → ℕ
used_all n zero l = 0
used_all n (suc m) l = used n l + used_all (n + 1) m l

used_none : (n m : ℕ) → used_all n m [] ≡ 0
used_none n zero = refl
used_none n (suc m) = let r = used_none (n + 1) m in omega (arith, r)

used_here : (n : ℕ) (x : Tagged) (l : List Tagged) → x.port ≡ n → used n (x ∷ l) ≡ suc (used n l)
used_here n x l e = rw (same x.port n e) refl

used_other : (n : ℕ) (x : Tagged) (l : List Tagged) → x.port ≢ n → used n (x ∷ l) ≡ used n l
used_other n x l e = rw (other x.port n e) refl

used_below : (n m : ℕ) (x : Tagged) (l : List Tagged) → x.port < n → used_all n m (x ∷ l) ≡ used_all n m l
used_below n zero x l h = refl
used_below n (suc m) x l h =
    let here = used_other n x l (λ e. absurd (omega (arith, e, h))) in
    let rest = used_below (n + 1) m x l (omega (arith, h)) in
    omega (arith, here, rest)

used_one : (n m : ℕ) (x : Tagged) (l : List Tagged) → used_all n m (x ∷ l) ≤ suc (used_all n m l)
used_one n zero x l = omega arith
used_one n (suc m) x l = elim (same_or_not x.port n) [
  | inl e ↦
      let here = used_here n x l e in
      let rest = used_below (n + 1) m x l (omega (arith, e)) in
      omega (arith, here, rest)
  | inr e ↦
      let here = used_other n x l e in
      let rest = used_one (n + 1) m x l in
      omega (arith, here, rest)
]

-- no more in all than were given
pub used_few : (n m : ℕ) (l : List Tagged) → used_all n m l ≤ length l
used_few n m [] = let z = used_none n m in omega (arith, z)
used_few n m (x ∷ l) = let a = used_one n m x l in let b = used_few n m l in omega (arith, a, b)

pub used_prefix : (n : ℕ) (a b : List Tagged) → IsPrefix a b → used n a ≤ used n b
used_prefix n a b p = let e = ap (used n) p.is in let u = used-append n a p.rest in omega (arith, e, u)
