-- What is known of the outputs of a stage, and how they stand once an action was done at each that is open.
use Rattle.std.specs.Prelude.{slice_get, slice_set, slice_index_or}
use Rattle.std.proofs.Common.{◌≡◌, ℕ, zero, suc, ◌⊎◌, inl, inr, List, [], ◌∷◌, ◌++◌, length, map, refl, ap, arith, Some}
use Rattle.port_core.specs.declared.view.OutView.{OutView}
use Rattle.port_core.specs.declared.view.OutView.TheVariants.{Unpulled, Closed, Cancelled}
use Rattle.port_core.specs.View.{IsOutOpen}
use Rattle.stage_core.specs.declared.outs.OutputState.{OutputState}
use Rattle.stage_core.specs.declared.outs.OutputState.TheVariants.{Quiet, Asks, Gone}
use Rattle.stage_core.specs.OpenOuts.{want_view, open_count, OutsClosed}

pub want_set : (ws : List OutputState) (j : ℕ) (w : OutputState) → slice_set (map want_view ws) j (want_view w) ≡ map want_view (slice_set ws j w)
want_set [] j w = refl
want_set (x ∷ ws) zero w = refl
want_set (x ∷ ws) (suc j) w = ap (λ (ys : List OutView). want_view x ∷ ys) (want_set ws j w)

pub is_quiet : (ws : List OutputState) (j : ℕ) → slice_index_or (map want_view ws) j Closed ≡ Unpulled → slice_get ws j ≡ Some Quiet
is_quiet [] j h = cc
is_quiet (Quiet ∷ ws) zero h = refl
is_quiet (Asks ∷ ws) zero h = cc
is_quiet (Gone ∷ ws) zero h = cc
is_quiet (x ∷ ws) (suc j) h = is_quiet ws j h

pub is_open : (ws : List OutputState) (j : ℕ) → IsOutOpen (slice_index_or (map want_view ws) j Closed) → (slice_get ws j ≡ Some Quiet) ⊎ (slice_get ws j ≡ Some Asks)
is_open [] j h = absurd h
is_open (Quiet ∷ ws) zero h = inl refl
is_open (Asks ∷ ws) zero h = inr refl
is_open (Gone ∷ ws) zero h = absurd h
is_open (x ∷ ws) (suc j) h = is_open ws j h

-- how an output stands then
abbrev pub after_one : OutView → OutputState → OutView
after_one y Quiet = y
after_one y Asks = y
after_one y Gone = Cancelled

pub set_behind : (a b : List OutView) (x y : OutView) (n : ℕ) → length a ≡ n → slice_set (a ++ x ∷ b) n y ≡ a ++ y ∷ b
set_behind [] b x y n h = rw (← h) refl
set_behind (z ∷ a) b x y zero h = absurd (omega (arith, h))
set_behind (z ∷ a) b x y (suc n) h = ap (λ (xs : List OutView). z ∷ xs) (set_behind a b x y n (omega (arith, h)))

pub at_behind : (a b : List OutView) (x : OutView) (n : ℕ) → length a ≡ n → slice_index_or (a ++ x ∷ b) n Closed ≡ x
at_behind [] b x n h = rw (← h) refl
at_behind (z ∷ a) b x zero h = absurd (omega (arith, h))
at_behind (z ∷ a) b x (suc n) h = at_behind a b x n (omega (arith, h))

pub shut_views : (ws : List OutputState) → OutsClosed (map (after_one Closed) ws)
shut_views [] = tt
shut_views (Quiet ∷ ws) = (tt, shut_views ws)
shut_views (Asks ∷ ws) = (tt, shut_views ws)
shut_views (Gone ∷ ws) = (tt, shut_views ws)

-- where none is open, all are closed
pub gone_views : (ws : List OutputState) → open_count ws ≡ 0 → OutsClosed (map want_view ws)
gone_views [] h = tt
gone_views (Quiet ∷ ws) h = absurd (omega (arith, h))
gone_views (Asks ∷ ws) h = absurd (omega (arith, h))
gone_views (Gone ∷ ws) h = (tt, gone_views ws h)
