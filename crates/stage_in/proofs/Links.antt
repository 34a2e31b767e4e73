-- For each input the next open one: in a new stage, and where an input has ended.
use Rattle.std.specs.Prelude.{◌==◌, if◌then◌else◌, slice_get, slice_set, slice_index_or, replicate}
use Rattle.std.proofs.Common.{◌≡◌, ℕ, zero, suc, ◌+◌, ◌≤◌, ◌<◌, ◌⊎◌, inl, inr, Bool, true, false, List, [], ◌∷◌, ◌++◌, length, refl, sym, ap, ◌∙◌, subst, arith, Some}
use Rattle.std.proofs.lemmas.Bool.{cases_order}
use Rattle.std.proofs.lemmas.Bool.Decides.{nat_tests}
use Rattle.std.proofs.lemmas.List.{length-replicate, length-set, length-map, length-append, get_or-map, get_or_append_left, get_or_at}
use Rattle.stage_in.specs.Kinds.{behind_input}
use Rattle.stage_core.specs.Seats.{AllOver}
use Rattle.stage_in.specs.Takings.{OverBetween, IsNext, Follows, HasFollowers, InputRing, followed_by, relinked}
use Rattle.stage_core.proofs.Flags.{same, set_here, set_other, set_keeps}

-- ---- a new stage

-- the first k of n inputs are followed by the one behind them
pub record Begun (n : ℕ) (next : List ℕ) (k : ℕ) : Type 0 where
  pub long : length next ≡ k
  pub at : (c : ℕ) → c < k → slice_index_or next c 0 ≡ behind_input n c

pub one_more : (n : ℕ) (next : List ℕ) (k d : ℕ) → Begun n next k → d ≡ behind_input n k → Begun n (next ++ d ∷ []) (k + 1)
one_more n next k d b is = record {
  long = let l = length-append next (d ∷ []) in let h = b.long in omega (arith, l, h);
  at = λ c h. by_place c h (cases_order c k);
}
  where
    by_place : (c : ℕ) → c < k + 1 → (c ≡ k) ⊎ ((c < k) ⊎ (k < c)) → slice_index_or (next ++ d ∷ []) c 0 ≡ behind_input n c
    by_place c h (inl e) = get_or_at next d [] 0 c (b.long ∙ sym e) ∙ is ∙ ap (behind_input n) (sym e)
    by_place c h (inr (inl l)) = get_or_append_left next (d ∷ []) 0 c (let w = b.long in omega (arith, w, l)) ∙ b.at c l
    by_place c h (inr (inr l)) = absurd (omega (arith, h, l))

open_flag : (n d : ℕ) → d < n → slice_get (replicate n false) d ≡ Some false
open_flag zero d h = absurd (omega (arith, h))
open_flag (suc n) zero h = refl
open_flag (suc n) (suc d) h = open_flag n d (omega (arith, h))

-- where every input is open, that behind an input is the next open one
behind_next : (n c : ℕ) → c < n → Follows (replicate n false) c (behind_input n c)
behind_next n c h = by_test (c + 1 == n) refl
  where
    by_test : (b : Bool) → (c + 1 == n) ≡ b → Follows (replicate n false) c (if b then 0 else c + 1)
    by_test true e =
        let z : c + 1 ≡ n = grind (arith, nat_tests, e) in
        let l = length-replicate n false in
        record {
          there = omega (arith, h, l);
          next = inl (record { here = open_flag n 0 (omega (arith, h)); between = inr (omega arith, (λ i a b. absurd (omega (arith, a, b, l, z)), λ i a b. absurd (omega (arith, b)))) });
        }
    by_test false e =
        let z : (c + 1 ≡ n) → ⊥ = λ y. let q = same (c + 1) n y in cc in
        let w : c + 1 < n = grind (arith, z, h) in
        let l = length-replicate n false in
        record {
          there = omega (arith, w, l);
          next = inl (record { here = open_flag n (c + 1) w; between = inl (omega arith, λ i a b. absurd (omega (arith, a, b))) });
        }

pub ring_linked : (n : ℕ) (next : List ℕ) → InputRing n next → HasFollowers (replicate n false) next
ring_linked n next r = let l = length-replicate n false in record {
  long = r.long ∙ sym l;
  at = λ c h. let w : c < n = omega (arith, h, l) in subst (λ d. Follows (replicate n false) c d) (sym (r.at c w)) (behind_next n c w);
}

-- ---- an input has ended

-- which default stands behind a list does not matter to an element in it
pub at_within : (l : List ℕ) (i d e : ℕ) → i < length l → slice_index_or l i d ≡ slice_index_or l i e
at_within [] i d e h = absurd (omega (arith, h))
at_within (x ∷ l) zero d e h = refl
at_within (x ∷ l) (suc i) d e h = at_within l i d e (omega (arith, h))

module _ (over : List Bool) (i : ℕ) (there : i < length over) where
  abbrev left : List Bool
  left = slice_set over i true

  all_left : AllOver over → AllOver left
  all_left all k h = set_keeps over i k (all k (let l = length-set over i true in omega (arith, h, l)))

  kept : (m n : ℕ) → OverBetween over m n → OverBetween left m n
  kept m n h k a b = set_keeps over i k (h k a b)

  -- it has ended, and all between it and two others had
  joined : slice_get over i ≡ Some false → (m n : ℕ) → OverBetween over m i → OverBetween over (i + 1) n → OverBetween left m n
  joined o m n h r k a b = by_place (cases_order k i)
    where
      by_place : (k ≡ i) ⊎ ((k < i) ⊎ (i < k)) → slice_get left k ≡ Some true
      by_place (inl e) = rw e (set_here over i false o)
      by_place (inr (inl l)) = set_keeps over i k (h k a l)
      by_place (inr (inr l)) = set_keeps over i k (r k (omega (arith, l)) b)

  -- an input that another one follows
  still : (c d : ℕ) → (d ≡ i → ⊥) → Follows over c d → Follows left c d
  still c d n f = record { there = let l = length-set over i true in let t = f.there in omega (arith, l, t); next = by_next f.next }
    where
      by_next : IsNext over c d ⊎ AllOver over → IsNext left c d ⊎ AllOver left
      by_next (inr all) = inr (all_left all)
      by_next (inl x) = inl (record { here = set_other over i d (λ e. n (sym e)) ∙ x.here; between = by_place x.between })
        where
          by_place : ((c < d) × OverBetween over (c + 1) d) ⊎ ((d ≤ c) × (OverBetween over (c + 1) (length over) × OverBetween over 0 d))
              → ((c < d) × OverBetween left (c + 1) d) ⊎ ((d ≤ c) × (OverBetween left (c + 1) (length left) × OverBetween left 0 d))
          by_place (inl p) = inl (p.0, kept (c + 1) d p.1)
          by_place (inr p) = inr (p.0, (λ k a b. kept (c + 1) (length over) p.1.0 k a (let l = length-set over i true in omega (arith, b, l)), kept 0 d p.1.1))

  clash : (e : ℕ) → slice_get over e ≡ Some true → slice_get over e ≡ Some false → ⊥
  clash e h o = let x : Some true ≡ Some false = sym h ∙ o in cc

  up_to_end : (m : ℕ) → OverBetween left m (length over) → OverBetween left m (length left)
  up_to_end m h k a b = h k a (let l = length-set over i true in omega (arith, b, l))

  -- that which follows it follows those that it followed
  module _ (c e : ℕ) (x : IsNext over c i) (y : IsNext over i e) (within : e < length over) where
    -- it was the last one
    none_left : e ≡ i → AllOver left
    none_left is k h = by_place (cases_order k i)
      where
        by_place : (k ≡ i) ⊎ ((k < i) ⊎ (i < k)) → slice_get left k ≡ Some true
        by_place (inl z) = rw z (set_here over i false x.here)
        by_place (inr (inl l)) = before y.between
          where
            before : ((i < e) × OverBetween over (i + 1) e) ⊎ ((e ≤ i) × (OverBetween over (i + 1) (length over) × OverBetween over 0 e)) → slice_get left k ≡ Some true
            before (inl p) = absurd (let q = p.0 in omega (arith, q, is))
            before (inr p) = set_keeps over i k (p.1.1 k (omega arith) (omega (arith, l, is)))
        by_place (inr (inr l)) = behind y.between
          where
            behind : ((i < e) × OverBetween over (i + 1) e) ⊎ ((e ≤ i) × (OverBetween over (i + 1) (length over) × OverBetween over 0 e)) → slice_get left k ≡ Some true
            behind (inl p) = absurd (let q = p.0 in omega (arith, q, is))
            behind (inr p) = set_keeps over i k (p.1.0 k (omega (arith, l)) (let z = length-set over i true in omega (arith, h, z)))

    abbrev Place : Type 0
    Place = ((c < e) × OverBetween left (c + 1) e) ⊎ ((e ≤ c) × (OverBetween left (c + 1) (length left) × OverBetween left 0 e))

    lower : e < i → Place
    lower l = by_next y.between
      where
        by_first : OverBetween over (i + 1) (length over) → OverBetween over 0 e → ((c < i) × OverBetween over (c + 1) i) ⊎ ((i ≤ c) × (OverBetween over (c + 1) (length over) × OverBetween over 0 i)) → Place
        by_first p r (inl q) = by_order (cases_order e c)
          where
            round : e ≤ c → Place
            round z = inr (z, (up_to_end (c + 1) (joined x.here (c + 1) (length over) q.1 p), kept 0 e r))

            by_order : (e ≡ c) ⊎ ((e < c) ⊎ (c < e)) → Place
            by_order (inl z) = round (omega (arith, z))
            by_order (inr (inl z)) = round (omega (arith, z))
            by_order (inr (inr z)) = absurd (clash e (q.1 e (omega (arith, z)) l) y.here)
        by_first p r (inr q) = absurd (clash e (q.1.1 e (omega arith) l) y.here)

        by_next : ((i < e) × OverBetween over (i + 1) e) ⊎ ((e ≤ i) × (OverBetween over (i + 1) (length over) × OverBetween over 0 e)) → Place
        by_next (inl p) = absurd (let q = p.0 in omega (arith, q, l))
        by_next (inr p) = by_first p.1.0 p.1.1 x.between

    higher : i < e → Place
    higher l = by_next y.between
      where
        by_first : OverBetween over (i + 1) e → ((c < i) × OverBetween over (c + 1) i) ⊎ ((i ≤ c) × (OverBetween over (c + 1) (length over) × OverBetween over 0 i)) → Place
        by_first p (inl q) = inl (let z = q.0 in omega (arith, z, l), joined x.here (c + 1) e q.1 p)
        by_first p (inr q) = by_order (cases_order e c)
          where
            round : e ≤ c → Place
            round z = inr (z, (up_to_end (c + 1) (kept (c + 1) (length over) q.1.0), joined x.here 0 e q.1.1 p))

            by_order : (e ≡ c) ⊎ ((e < c) ⊎ (c < e)) → Place
            by_order (inl z) = round (omega (arith, z))
            by_order (inr (inl z)) = round (omega (arith, z))
            by_order (inr (inr z)) = absurd (clash e (q.1.0 e (omega (arith, z)) within) y.here)

        by_next : ((i < e) × OverBetween over (i + 1) e) ⊎ ((e ≤ i) × (OverBetween over (i + 1) (length over) × OverBetween over 0 e)) → Place
        by_next (inl p) = by_first p.1 x.between
        by_next (inr p) = absurd (let q = p.0 in omega (arith, q, l))

    next_then : IsNext left c e ⊎ AllOver left
    next_then = by_order (cases_order e i)
      where
        by_order : (e ≡ i) ⊎ ((e < i) ⊎ (i < e)) → IsNext left c e ⊎ AllOver left
        by_order (inl z) = inr (none_left z)
        by_order (inr (inl z)) = inl (record { here = set_other over i e (λ q. absurd (omega (arith, q, z))) ∙ y.here; between = lower z })
        by_order (inr (inr z)) = inl (record { here = set_other over i e (λ q. absurd (omega (arith, q, z))) ∙ y.here; between = higher z })

  passed : (c d e : ℕ) → d ≡ i → Follows over c d → Follows over i e → Follows left c e
  passed c d e is f g = record { there = let l = length-set over i true in let t = g.there in omega (arith, l, t); next = by_next f.next g.next }
    where
      by_next : IsNext over c d ⊎ AllOver over → IsNext over i e ⊎ AllOver over → IsNext left c e ⊎ AllOver left
      by_next (inr all) y = inr (all_left all)
      by_next (inl x) (inr all) = inr (all_left all)
      by_next (inl x) (inl y) = next_then c e (subst (λ k. IsNext over c k) is x) y g.there

  pub relinks : (next : List ℕ) → HasFollowers over next → HasFollowers left (relinked i next)
  relinks next w = record {
    long = length-map next (followed_by i (slice_index_or next i 0)) ∙ w.long ∙ sym (length-set over i true);
    at = λ c h. at_input c (let l = length-set over i true in omega (arith, h, l));
  }
    where
      by_test : (c : ℕ) → c < length over → (b : Bool) → (slice_index_or next c 0 == i) ≡ b → Follows left c (if b then slice_index_or next i 0 else slice_index_or next c 0)
      by_test c h true e = passed c (slice_index_or next c 0) (slice_index_or next i 0) (grind (arith, nat_tests, e)) (w.at c h) (w.at i there)
      by_test c h false e = still c (slice_index_or next c 0) (λ y. let q = same (slice_index_or next c 0) i y in cc) (w.at c h)

      at_input : (c : ℕ) → c < length over → Follows left c (slice_index_or (relinked i next) c 0)
      at_input c h = subst (λ d. Follows left c d) (sym (get_or-map (followed_by i (slice_index_or next i 0)) next c 0 0 (let l = w.long in omega (arith, h, l)))) (by_test c h (slice_index_or next c 0 == i) refl)
