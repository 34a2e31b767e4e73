-- A valve that follows moves: what it notes, and when it acts.
use Rattle.std.specs.Prelude.{◌==◌, Option, None, Some}
use Rattle.std.proofs.Common.{◌≡◌, ℕ, zero, suc, ◌≤◌, ◌<◌, Bool, cond, true, false, List, [], ◌∷◌, refl, sym, ◌∙◌, subst, arith}
use Rattle.std.proofs.lemmas.Bool.Decides.{nat_tests}
use Rattle.port_core.specs.Picks.{next_move, second_move, behind_next, may_end, IsMove, MayNote}
use Rattle.port_core.specs.declared.pick_log.Next.TheVariants.{Free, Move}
use Rattle.stream_model.specs.Picks.{acted}
use Rattle.stage_switch.specs.declared.order.Order.{Order}
use Rattle.stage_switch.specs.Public.{SwitchState, SeatState}
use Rattle.stage_switch.specs.States.{Valve, SeatBy, IsValve, MayCount, IsDue, numbered_order, order_number, moves_by, counted_next, looked_and, watched}

pub equal_of : (k n : ℕ) → (k == n) ≡ true → k ≡ n
equal_of k n e = grind (arith, nat_tests)

same_of : (n : ℕ) → (n == n) ≡ true
same_of n = grind (arith, nat_tests)

pub less_of : (k n : ℕ) → n ≤ k → (k == n) ≡ false → n < k
less_of k n h e = grind (arith, nat_tests)

-- ---- the moves of a valve

-- moves that are not none are an order and a count
pub record Two (j : ℕ) (l : List ℕ) : Type 0 where
  pub count : ℕ
  pub is : l ≡ count ∷ []
  pub order : order_number (numbered_order j) ≡ j

pub two_ahead : (j : ℕ) (l : List ℕ) → j ∷ l ≡ moves_by (acted (j ∷ l)) → Two j l
two_ahead zero [] e = cc
two_ahead zero (k ∷ []) e = cc
two_ahead zero (k ∷ x ∷ l) e = cc
two_ahead (suc zero) [] e = cc
two_ahead (suc zero) (k ∷ []) e = record { count = k; is = refl; order = refl }
two_ahead (suc zero) (k ∷ x ∷ l) e = cc
two_ahead (suc (suc zero)) [] e = cc
two_ahead (suc (suc zero)) (k ∷ []) e = record { count = k; is = refl; order = refl }
two_ahead (suc (suc zero)) (k ∷ x ∷ l) e = cc
two_ahead (suc (suc (suc i))) [] e = cc
two_ahead (suc (suc (suc i))) (k ∷ []) e = cc
two_ahead (suc (suc (suc i))) (k ∷ x ∷ l) e = cc

-- what is left where there is a next move, and one behind it
record NextTwo (left : Option (List ℕ)) (m k : ℕ) : Type 0 where
  is : left ≡ Some (m ∷ k ∷ [])
  order : order_number (numbered_order m) ≡ m

next_two : (left : Option (List ℕ)) (switch : SwitchState) (seat : SeatState) (moves : List ℕ) (m k : ℕ) → SeatBy left switch seat moves → next_move left ≡ Move m → second_move left ≡ Some k → NextTwo left m k
next_two None switch seat moves m k h e s = cc
next_two (Some []) switch seat moves m k h e s = cc
next_two (Some (j ∷ [])) switch seat moves m k h e s = cc
next_two (Some (j ∷ i ∷ l)) switch seat moves m k h e s =
    let two = two_ahead j (i ∷ l) h.1.ahead in
    let a : j ≡ m = cc in
    let b : i ≡ k = cc in
    let c : i ∷ l ≡ two.count ∷ [] = two.is in
    let d : l ≡ [] = cc in
    record { is = rw (a, b, d) refl; order = subst (λ (n : ℕ). order_number (numbered_order n) ≡ n) a two.order }

-- ---- what is noted

pub notes_next : (left : Option (List ℕ)) (m : ℕ) → next_move left ≡ Move m → MayNote m left
notes_next None m e = cc
notes_next (Some []) m e = cc
notes_next (Some (j ∷ l)) m e = let a : j ≡ m = cc in a

pub notes_second : (left : Option (List ℕ)) (k : ℕ) → second_move left ≡ Some k → MayNote k (behind_next left)
notes_second None k e = cc
notes_second (Some []) k e = cc
notes_second (Some (j ∷ [])) k e = cc
notes_second (Some (j ∷ i ∷ l)) k e = let a : i ≡ k = cc in a

-- ---- what it found

-- it makes its own choices
pub watched_free : (l : Valve) (o : Option Order) → next_move l.left ≡ Free → looked_and l o ≡ watched l o
watched_free l o e = by_left l.left refl e
  where
    by_left : (left : Option (List ℕ)) → l.left ≡ left → next_move left ≡ Free → looked_and l o ≡ watched l o
    by_left None is e = rw is refl
    by_left (Some []) is e = cc
    by_left (Some (j ∷ rest)) is e = cc

-- as many passed as its moves say
pub watched_due : (l : Valve) (m k : ℕ) → SeatBy l.left l.switch l.seat l.moves → next_move l.left ≡ Move m → second_move l.left ≡ Some k → k ≡ l.passed
    → ◌≡◌ {A = Valve} (record l { moves = m ∷ k ∷ []; left = behind_next (behind_next l.left) }) (watched l (Some (numbered_order m)))
watched_due l m k h e s c = let two = next_two l.left l.switch l.seat l.moves m k h e s in rw (two.is, two.order, c) refl

-- it found none by its moves
pub watched_none : (l : Valve) → (next_move l.left ≡ Free → ⊥) → l ≡ watched l None
watched_none l n = by_left l.left refl n
  where
    by_left : (left : Option (List ℕ)) → l.left ≡ left → (next_move left ≡ Free → ⊥) → l ≡ watched l None
    by_left None is n = absurd (n refl)
    by_left (Some left) is n = rw is refl

pub due_now : (left : Option (List ℕ)) (m k n : ℕ) → next_move left ≡ Move m → second_move left ≡ Some k → k ≡ n → IsDue left n (Some (numbered_order m))
due_now None m k n e s c = tt
due_now (Some []) m k n e s c = cc
due_now (Some (j ∷ [])) m k n e s c = cc
due_now (Some (j ∷ i ∷ l)) m k n e s c =
    let a : j ≡ m = cc in
    let b : i ≡ n = (let z : i ≡ k = cc in z ∙ c) in
    rw (a, b, same_of n) refl

pub due_later : (left : Option (List ℕ)) (k n : ℕ) → second_move left ≡ Some k → (k == n) ≡ false → IsDue left n None
due_later None k n s c = tt
due_later (Some []) k n s c = cc
due_later (Some (j ∷ [])) k n s c = cc
due_later (Some (j ∷ i ∷ l)) k n s c = let b : i ≡ k = cc in rw (b, c) refl

pub due_never : (left : Option (List ℕ)) (n : ℕ) → second_move left ≡ None → IsDue left n None
due_never None n s = tt
due_never (Some []) n s = refl
due_never (Some (j ∷ [])) n s = refl
due_never (Some (j ∷ i ∷ l)) n s = cc

-- ---- its seat

pub seat_free : (left : Option (List ℕ)) (switch : SwitchState) (seat : SeatState) (moves : List ℕ) → next_move left ≡ Free → IsValve switch seat moves → SeatBy left switch seat moves
seat_free None switch seat moves e h = h
seat_free (Some []) switch seat moves e h = cc
seat_free (Some (j ∷ l)) switch seat moves e h = cc

pub seat_moved : (left : Option (List ℕ)) (switch : SwitchState) (seat : SeatState) (moves : List ℕ) (m k : ℕ) → SeatBy left switch seat moves → next_move left ≡ Move m → second_move left ≡ Some k
    → SeatBy (behind_next (behind_next left)) switch seat (m ∷ k ∷ [])
seat_moved left switch seat moves m k h e s =
    let two = next_two left switch seat moves m k h e s in
    let was : SeatBy (Some (m ∷ k ∷ [])) switch seat moves = subst (λ (o : Option (List ℕ)). SeatBy o switch seat moves) two.is h in
    subst (λ (o : Option (List ℕ)). SeatBy (behind_next (behind_next o)) switch seat (m ∷ k ∷ [])) (sym two.is) (was.0, record { formed = was.1.ahead; ahead = refl })

-- ---- where it cannot make its moves

pub is_move : (left : Option (List ℕ)) → may_end (next_move left) ≡ false → IsMove (next_move left)
is_move None e = cc
is_move (Some []) e = cc
is_move (Some (j ∷ l)) e = tt

pub no_move : (left : Option (List ℕ)) → may_end (next_move left) ≡ true → IsMove (next_move left) → ⊥
no_move None e m = m
no_move (Some []) e m = m
no_move (Some (j ∷ l)) e m = cc

-- fewer passed than its moves say
pub too_few : (left : Option (List ℕ)) (switch : SwitchState) (seat : SeatState) (moves : List ℕ) (n : ℕ) → SeatBy left switch seat moves → MayCount left n → IsDue left n None → IsMove (next_move left) → n < counted_next left
too_few None switch seat moves n h at d m = absurd m
too_few (Some []) switch seat moves n h at d m = absurd m
too_few (Some (j ∷ [])) switch seat moves n h at d m = let two = two_ahead j [] h.1.ahead in let z = two.is in cc
too_few (Some (j ∷ k ∷ l)) switch seat moves n h at d m = by_test (k == n) refl
  where
    by_test : (b : Bool) → (k == n) ≡ b → n < k
    by_test true e = absurd (let z : None ≡ Some (numbered_order j) = subst (λ (b : Bool). None ≡ cond b (Some (numbered_order j)) None) e d in cc)
    by_test false e = less_of k n at e

-- what passed is no more than the count of moves that are to be made
pub few_counted : (left : Option (List ℕ)) (switch : SwitchState) (seat : SeatState) (moves : List ℕ) (n : ℕ) → SeatBy left switch seat moves → MayCount left n → IsMove (next_move left) → n ≤ counted_next left
few_counted None switch seat moves n h at m = absurd m
few_counted (Some []) switch seat moves n h at m = absurd m
few_counted (Some (j ∷ [])) switch seat moves n h at m = let two = two_ahead j [] h.1.ahead in let z = two.is in cc
few_counted (Some (j ∷ k ∷ l)) switch seat moves n h at m = at

-- nothing is counted less where none passed
pub counts_from_none : (moves : List ℕ) → MayCount (Some moves) 0
counts_from_none [] = tt
counts_from_none (m ∷ []) = tt
counts_from_none (m ∷ k ∷ l) = omega arith
