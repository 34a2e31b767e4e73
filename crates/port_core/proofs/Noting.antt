-- One more move of those that are followed was noted.
use Rattle.std.specs.Prelude.{◌-◌, take, drop, slice_index, Option, None, Some}
use Rattle.std.proofs.Common.{◌≡◌, ℕ, zero, suc, ◌+◌, ◌<◌, ◌≤◌, Bool, List, [], ◌∷◌, ◌++◌, length, refl, sym, ap, ◌∙◌, arith, append_assoc}
use Rattle.port_core.specs.Picks.{Picks, MayNote, planned, logged, behind_next, second_move}

record Split (items : List ℕ) (made m : ℕ) (rest : List ℕ) : Type 0 where
  front : take (suc made) items ≡ take made items ++ m ∷ []
  back : drop (suc made) items ≡ rest
  below : made < length items

split : (items : List ℕ) (made m : ℕ) (rest : List ℕ) → drop made items ≡ m ∷ rest → Split items made m rest
split [] zero m rest h = cc
split [] (suc made) m rest h = cc
split (x ∷ items) zero m rest h = let a : x ≡ m = cc in let b : items ≡ rest = cc in record { front = ap (λ y. y ∷ []) a; back = b; below = omega arith }
split (x ∷ items) (suc made) m rest h =
    let r = split items made m rest h in
    let b = r.below in
    record { front = ap (λ (l : List ℕ). x ∷ l) r.front; back = r.back; below = omega (arith, b) }

room_less : (len made : ℕ) → made < len → (len - suc made) + 2 ≡ ((len - made) + 2) - 1
room_less len made h = omega (arith, h)

pub noted_is : (items : List ℕ) (made m len : ℕ) (stuck : Bool) → length items ≡ len → MayNote m (Some (drop made items))
    → ◌≡◌ {A = Picks} (record { moves = take (made + 1) items; room = (len - (made + 1)) + 2; left = Some (drop (made + 1) items); stuck = stuck }) (logged m (record { moves = take made items; room = (len - made) + 2; left = Some (drop made items); stuck = stuck }))
noted_is items made m len stuck long may = by_left (drop made items) refl may
  where
    by_left : (l : List ℕ) → drop made items ≡ l → MayNote m (Some l)
        → ◌≡◌ {A = Picks} (record { moves = take (made + 1) items; room = (len - (made + 1)) + 2; left = Some (drop (made + 1) items); stuck = stuck }) (logged m (record { moves = take made items; room = (len - made) + 2; left = Some (drop made items); stuck = stuck }))
    by_left [] e may = absurd may
    by_left (k ∷ rest) e may =
        let s = split items made m rest (e ∙ ap (λ j. j ∷ rest) may) in
        let b = s.below in
        let r : (len - suc made) + 2 ≡ ((len - made) + 2) - 1 = room_less len made (omega (arith, b, long)) in
        let z : made + 1 ≡ suc made = omega arith in
        rw (z, s.front, s.back, e, r) refl

-- the move behind the next one stands at its place among all
pub second_is : (items : List ℕ) (made : ℕ) → 1 < length items - made → Some (slice_index items (made + 1)) ≡ second_move (Some (drop made items))
second_is [] zero h = absurd (omega (arith, h))
second_is [] (suc made) h = absurd (omega (arith, h))
second_is (x ∷ []) zero h = absurd (omega (arith, h))
second_is (x ∷ y ∷ items) zero h = refl
second_is (x ∷ items) (suc made) h = let z : suc made + 1 ≡ suc (made + 1) = omega arith in rw z (second_is items made (omega (arith, h)))

-- and where there is none, none is left behind the next
pub second_lacks : (items : List ℕ) (made : ℕ) → length items - made ≤ 1 → second_move (Some (drop made items)) ≡ None
second_lacks [] zero h = refl
second_lacks [] (suc made) h = refl
second_lacks (x ∷ []) zero h = refl
second_lacks (x ∷ y ∷ items) zero h = absurd (omega (arith, h))
second_lacks (x ∷ items) (suc made) h = second_lacks items made (omega (arith, h))

-- a move that may be noted keeps the plan
pub noted_plan : (i : ℕ) (log : Picks) → MayNote i log.left → planned (logged i log) ≡ planned log
noted_plan i log may = by_left log.left refl may
  where
    by_left : (l : Option (List ℕ)) → log.left ≡ l → MayNote i l → planned (logged i log) ≡ planned log
    by_left None e m = rw e refl
    by_left (Some []) e m = absurd m
    by_left (Some (k ∷ l)) e m = rw e (ap (λ (ms : List ℕ). Some ms) (append_assoc log.moves (i ∷ []) l ∙ ap (λ j. log.moves ++ j ∷ l) (sym m)))
