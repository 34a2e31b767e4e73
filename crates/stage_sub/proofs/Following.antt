-- A log of a stage with substreams: it follows moves, or it is free.
use Rattle.std.specs.Prelude.{Option, None, Some}
use Rattle.std.proofs.Common.{◌≡◌, ℕ, ◌∷◌, [], List, refl, sym, ◌∙◌}
use Rattle.port_core.specs.Picks.{Picks, MayNote, IsMove, next_move, behind_next, misfit_in, may_end}
use Rattle.port_core.specs.declared.pick_log.Next.{Next}
use Rattle.port_core.specs.declared.pick_log.Next.TheVariants.{Free, Move, UsedUp}
use Rattle.std.proofs.Common.{true, false}
use Rattle.stage_sub.specs.Logs.{moves_in}
use Rattle.stage_sub.specs.Leds.{IsNextMove, misfit_at, stuck_in}

-- one that is free may note any move, and is free behind it
pub free_may : (left : Option (List ℕ)) (n : ℕ) → left ≡ None → MayNote n left
free_may None n e = tt
free_may (Some l) n e = cc

pub free_behind : (left : Option (List ℕ)) → left ≡ None → behind_next left ≡ None
free_behind None e = refl
free_behind (Some l) e = cc

-- the next of the moves may be noted, and such a log follows moves
pub next_may : (left : Option (List ℕ)) (n : ℕ) → IsNextMove n left → MayNote n left
next_may None n h = absurd h
next_may (Some []) n h = absurd h
next_may (Some (k ∷ l)) n h = h

pub next_led : (left : Option (List ℕ)) (n : ℕ) → IsNextMove n left → left ≡ None → ⊥
next_led None n h e = h
next_led (Some l) n h e = cc

-- a log whose next move is free follows nothing
pub free_left : (left : Option (List ℕ)) → next_move left ≡ Free → left ≡ None
free_left None h = refl
free_left (Some []) h = cc
free_left (Some (m ∷ l)) h = cc

-- and the other way round
pub led_next : (left : Option (List ℕ)) → (next_move left ≡ Free → ⊥) → left ≡ None → ⊥
led_next None h e = h refl
led_next (Some l) h e = cc

-- the move that the next is to be is the next
pub move_next : (left : Option (List ℕ)) (n : ℕ) → next_move left ≡ Move n → IsNextMove n left
move_next None n h = cc
move_next (Some []) n h = cc
move_next (Some (m ∷ l)) n h = cc

-- where a move is to be made none may end
pub moves_on : (next : Next) → may_end next ≡ false → IsMove next
moves_on Free h = cc
moves_on (Move n) h = tt
moves_on UsedUp h = cc

-- the place of a misfit is that of its log
pub misfit_same : (log : Option Picks) → misfit_in log ≡ misfit_at (stuck_in log) (moves_in log)
misfit_same None = refl
misfit_same (Some p) = refl
