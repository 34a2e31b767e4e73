-- The queue of a balance holds each output that asks once: as outputs ask, are served and are cancelled.
use Rattle.std.specs.Prelude.{◌==◌, not, if◌then◌else◌, slice_get, slice_set}
use Rattle.std.proofs.Common.{◌≡◌, ℕ, zero, suc, ◌≤◌, ◌<◌, ◌⊎◌, inl, inr, Bool, true, false, List, [], ◌∷◌, ◌++◌, length, refl, sym, ap, ◌∙◌, subst, arith, Some}
use Rattle.std.proofs.lemmas.Bool.{cases_eq}
use Rattle.stage_core.specs.declared.outs.OutputState.{OutputState}
use Rattle.stage_core.specs.declared.outs.OutputState.TheVariants.{Quiet, Asks, Gone}
use Rattle.stage_core.specs.OpenOuts.{open_count, asks_count}
use Rattle.stage_out.specs.Balancings.{Queued, others}
use Rattle.stage_core.proofs.Flags.{same, other}

-- ---- places

set_twice : (ws : List OutputState) (j : ℕ) (a b : OutputState) → slice_set (slice_set ws j a) j b ≡ slice_set ws j b
set_twice [] j a b = refl
set_twice (w ∷ ws) zero a b = refl
set_twice (w ∷ ws) (suc j) a b = ap (λ (l : List OutputState). w ∷ l) (set_twice ws j a b)

set_swap : (ws : List OutputState) (j k : ℕ) (a b : OutputState) → (k ≡ j → ⊥) → slice_set (slice_set ws j a) k b ≡ slice_set (slice_set ws k b) j a
set_swap [] j k a b n = refl
set_swap (w ∷ ws) zero zero a b n = absurd (n refl)
set_swap (w ∷ ws) zero (suc k) a b n = refl
set_swap (w ∷ ws) (suc j) zero a b n = refl
set_swap (w ∷ ws) (suc j) (suc k) a b n = ap (λ (l : List OutputState). w ∷ l) (set_swap ws j k a b (λ e. n (ap suc e)))

get_same : (ws : List OutputState) (j : ℕ) (a w : OutputState) → slice_get ws j ≡ Some w → slice_get (slice_set ws j a) j ≡ Some a
get_same [] j a w h = cc
get_same (x ∷ ws) zero a w h = refl
get_same (x ∷ ws) (suc j) a w h = get_same ws j a w h

get_other : (ws : List OutputState) (j k : ℕ) (a : OutputState) → (k ≡ j → ⊥) → slice_get (slice_set ws j a) k ≡ slice_get ws k
get_other [] j k a n = refl
get_other (x ∷ ws) zero zero a n = absurd (n refl)
get_other (x ∷ ws) zero (suc k) a n = refl
get_other (x ∷ ws) (suc j) zero a n = refl
get_other (x ∷ ws) (suc j) (suc k) a n = get_other ws j k a (λ e. n (ap suc e))

pub set_self : (ws : List OutputState) (j : ℕ) (w : OutputState) → slice_get ws j ≡ Some w → slice_set ws j w ≡ ws
set_self [] j w h = cc
set_self (x ∷ ws) zero w h = let e : x ≡ w = cc in ap (λ (y : OutputState). y ∷ ws) (sym e)
set_self (x ∷ ws) (suc j) w h = ap (λ (l : List OutputState). x ∷ l) (set_self ws j w h)

-- ---- counts

asks_less : (ws : List OutputState) (j : ℕ) → slice_get ws j ≡ Some Asks → asks_count ws ≡ suc (asks_count (slice_set ws j Quiet))
asks_less [] j h = cc
asks_less (Quiet ∷ ws) zero h = cc
asks_less (Asks ∷ ws) zero h = refl
asks_less (Gone ∷ ws) zero h = cc
asks_less (Quiet ∷ ws) (suc j) h = asks_less ws j h
asks_less (Asks ∷ ws) (suc j) h = ap suc (asks_less ws j h)
asks_less (Gone ∷ ws) (suc j) h = asks_less ws j h

gone_none : (ws : List OutputState) (j : ℕ) → asks_count ws ≡ 0 → asks_count (slice_set ws j Gone) ≡ 0
gone_none [] j h = refl
gone_none (Quiet ∷ ws) zero h = h
gone_none (Asks ∷ ws) zero h = absurd (omega (arith, h))
gone_none (Gone ∷ ws) zero h = h
gone_none (Quiet ∷ ws) (suc j) h = gone_none ws j h
gone_none (Asks ∷ ws) (suc j) h = absurd (omega (arith, h))
gone_none (Gone ∷ ws) (suc j) h = gone_none ws j h

quiet_none : (ws : List OutputState) (j : ℕ) → asks_count ws ≡ 0 → asks_count (slice_set ws j Quiet) ≡ 0
quiet_none [] j h = refl
quiet_none (Quiet ∷ ws) zero h = h
quiet_none (Asks ∷ ws) zero h = absurd (omega (arith, h))
quiet_none (Gone ∷ ws) zero h = h
quiet_none (Quiet ∷ ws) (suc j) h = quiet_none ws j h
quiet_none (Asks ∷ ws) (suc j) h = absurd (omega (arith, h))
quiet_none (Gone ∷ ws) (suc j) h = quiet_none ws j h

asks_few : (ws : List OutputState) → asks_count ws ≤ length ws
asks_few [] = omega arith
asks_few (Quiet ∷ ws) = let r = asks_few ws in omega (arith, r)
asks_few (Asks ∷ ws) = let r = asks_few ws in omega (arith, r)
asks_few (Gone ∷ ws) = let r = asks_few ws in omega (arith, r)

asks_fewer : (ws : List OutputState) (j : ℕ) → slice_get ws j ≡ Some Quiet → asks_count ws < length ws
asks_fewer [] j h = cc
asks_fewer (Quiet ∷ ws) zero h = let r = asks_few ws in omega (arith, r)
asks_fewer (Asks ∷ ws) zero h = cc
asks_fewer (Gone ∷ ws) zero h = cc
asks_fewer (Quiet ∷ ws) (suc j) h = let r = asks_fewer ws j h in omega (arith, r)
asks_fewer (Asks ∷ ws) (suc j) h = let r = asks_fewer ws j h in omega (arith, r)
asks_fewer (Gone ∷ ws) (suc j) h = let r = asks_fewer ws j h in omega (arith, r)

pub open_asked : (ws : List OutputState) (j : ℕ) → slice_get ws j ≡ Some Quiet → open_count (slice_set ws j Asks) ≡ open_count ws
open_asked [] j h = refl
open_asked (Quiet ∷ ws) zero h = refl
open_asked (Asks ∷ ws) zero h = refl
open_asked (Gone ∷ ws) zero h = cc
open_asked (Quiet ∷ ws) (suc j) h = ap suc (open_asked ws j h)
open_asked (Asks ∷ ws) (suc j) h = ap suc (open_asked ws j h)
open_asked (Gone ∷ ws) (suc j) h = open_asked ws j h

pub open_served : (ws : List OutputState) (j : ℕ) → slice_get ws j ≡ Some Asks → open_count (slice_set ws j Quiet) ≡ open_count ws
open_served [] j h = refl
open_served (Quiet ∷ ws) zero h = refl
open_served (Asks ∷ ws) zero h = refl
open_served (Gone ∷ ws) zero h = cc
open_served (Quiet ∷ ws) (suc j) h = ap suc (open_served ws j h)
open_served (Asks ∷ ws) (suc j) h = ap suc (open_served ws j h)
open_served (Gone ∷ ws) (suc j) h = open_served ws j h

pub open_lost : (ws : List OutputState) (j : ℕ) → (slice_get ws j ≡ Some Quiet) ⊎ (slice_get ws j ≡ Some Asks) → open_count ws ≡ suc (open_count (slice_set ws j Gone))
open_lost [] j (inl h) = cc
open_lost [] j (inr h) = cc
open_lost (Quiet ∷ ws) zero h = refl
open_lost (Asks ∷ ws) zero h = refl
open_lost (Gone ∷ ws) zero (inl h) = cc
open_lost (Gone ∷ ws) zero (inr h) = cc
open_lost (Quiet ∷ ws) (suc j) h = ap suc (open_lost ws j h)
open_lost (Asks ∷ ws) (suc j) h = ap suc (open_lost ws j h)
open_lost (Gone ∷ ws) (suc j) h = open_lost ws j h

-- ---- the queue

differ : (ws : List OutputState) (j k : ℕ) → slice_get ws j ≡ Some Quiet → slice_get ws k ≡ Some Asks → k ≡ j → ⊥
differ ws j k h r e = let x : Some Asks ≡ Some Quiet = sym r ∙ ap (λ n. slice_get ws n) e ∙ h in cc

pub queue_more : (ws : List OutputState) (q : List ℕ) (j : ℕ) → slice_get ws j ≡ Some Quiet → Queued ws q → Queued (slice_set ws j Asks) (q ++ j ∷ [])
queue_more ws [] j h r = (get_same ws j Asks Quiet h, ap asks_count (set_twice ws j Asks Quiet ∙ set_self ws j Quiet h) ∙ r)
queue_more ws (k ∷ q) j h r =
    let n : k ≡ j → ⊥ = differ ws j k h r.0 in
    let m : j ≡ k → ⊥ = λ e. n (sym e) in
    (get_other ws j k Asks n ∙ r.0, subst (λ (l : List OutputState). Queued l (q ++ j ∷ [])) (sym (set_swap ws j k Asks Quiet n)) (queue_more (slice_set ws k Quiet) q j (get_other ws k j Quiet m ∙ h) r.1))

pub queue_without : (ws : List OutputState) (q : List ℕ) (j : ℕ) → Queued ws q → Queued (slice_set ws j Gone) (others j q)
queue_without ws [] j r = gone_none ws j r
queue_without ws (k ∷ q) j r = by_place (cases_eq k j) (queue_without (slice_set ws k Quiet) q j r.1)
  where
    by_place : (k ≡ j) ⊎ (k ≡ j → ⊥) → Queued (slice_set (slice_set ws k Quiet) j Gone) (others j q) → Queued (slice_set ws j Gone) (others j (k ∷ q))
    by_place (inl e) s =
        let x : (k == j) ≡ true = same k j e in
        rw x (subst (λ (l : List OutputState). Queued l (others j q)) (ap (λ n. slice_set (slice_set ws n Quiet) j Gone) e ∙ set_twice ws j Quiet Gone) s)
    by_place (inr n) s =
        let x : (k == j) ≡ false = other k j n in
        rw x (get_other ws j k Gone n ∙ r.0, subst (λ (l : List OutputState). Queued l (others j q)) (sym (set_swap ws j k Gone Quiet n)) s)

-- an output that was served leaves the queue, wherever it stood
pub queue_served : (ws : List OutputState) (q : List ℕ) (j : ℕ) → Queued ws q → Queued (slice_set ws j Quiet) (others j q)
queue_served ws [] j r = quiet_none ws j r
queue_served ws (k ∷ q) j r = by_place (cases_eq k j) (queue_served (slice_set ws k Quiet) q j r.1)
  where
    by_place : (k ≡ j) ⊎ (k ≡ j → ⊥) → Queued (slice_set (slice_set ws k Quiet) j Quiet) (others j q) → Queued (slice_set ws j Quiet) (others j (k ∷ q))
    by_place (inl e) s =
        let x : (k == j) ≡ true = same k j e in
        rw x (subst (λ (l : List OutputState). Queued l (others j q)) (ap (λ n. slice_set (slice_set ws n Quiet) j Quiet) e ∙ set_twice ws j Quiet Quiet) s)
    by_place (inr n) s =
        let x : (k == j) ≡ false = other k j n in
        rw x (get_other ws j k Quiet n ∙ r.0, subst (λ (l : List OutputState). Queued l (others j q)) (sym (set_swap ws j k Quiet Quiet n)) s)

-- where an output asks, the queue has one
pub queue_some : (ws : List OutputState) (j : ℕ) → Queued ws [] → slice_get ws j ≡ Some Asks → ⊥
queue_some [] j r h = cc
queue_some (Quiet ∷ ws) zero r h = cc
queue_some (Asks ∷ ws) zero r h = absurd (omega (arith, r))
queue_some (Gone ∷ ws) zero r h = cc
queue_some (Quiet ∷ ws) (suc j) r h = queue_some ws j r h
queue_some (Asks ∷ ws) (suc j) r h = absurd (omega (arith, r))
queue_some (Gone ∷ ws) (suc j) r h = queue_some ws j r h

pub queue_length : (ws : List OutputState) (q : List ℕ) → Queued ws q → length q ≡ asks_count ws
queue_length ws [] r = sym r
queue_length ws (k ∷ q) r = ap suc (queue_length (slice_set ws k Quiet) q r.1) ∙ sym (asks_less ws k r.0)

pub queue_fits : (ws : List OutputState) (q : List ℕ) (j : ℕ) → slice_get ws j ≡ Some Quiet → Queued ws q → length q < length ws
queue_fits ws q j h r = let a = queue_length ws q r in let b = asks_fewer ws j h in omega (arith, a, b)

pub never_longer : (q : List ℕ) (j : ℕ) → length (others j q) ≤ length q
never_longer [] j = omega arith
never_longer (k ∷ q) j = by_test (k == j) (never_longer q j)
  where
    by_test : (b : Bool) → length (others j q) ≤ length q → length (if not b then k ∷ others j q else others j q) ≤ suc (length q)
    by_test true h = omega (arith, h)
    by_test false h = omega (arith, h)
