-- What is held back stays within what the last elements brought.
use Rattle.std.proofs.Common.{◌≡◌, ℕ, zero, suc, ◌+◌, ◌-◌, ◌≤◌, false, IsTrue, List, [], ◌∷◌, ◌++◌, length, take, refl, ap, ◌∙◌, arith, length-append}
use Rattle.std.proofs.lemmas.List.{take-append-le, length-take-le}
use Rattle.elem_core.specs.Tree.{Tree}
use Rattle.elem_core.proofs.Prefixes.{prefix_length, prefix_take}
use Rattle.stream_model.specs.Machine.{State, going, done, broken, Run, Machine, is_going, feed, run}
use Rattle.stream_model.proofs.MachineLaws.{gave_prefix, stays, run_grows, going_before}
use Rattle.stage_core.specs.Turn.{Few, none_lost, last_held, each_held}
use Rattle.stage_core.specs.Law.{Lags}

module _ {S : Type 0} (m : Machine S Tree) where
  -- where each element brings one output, a machine that goes on has given as many as it took
  counts_at : ((s : S) (u : Tree) → length (m.step s u).gave ≡ 1) → (g : List Tree) (st : State S) (l : List Tree) → IsTrue (is_going (run m (record { gave = g; state = st }) l).state)
      → length (run m (record { gave = g; state = st }) l).gave ≡ length g + length l
  counts_at each g st [] h = omega arith
  counts_at each g (going s) (t ∷ l) h =
      let ih = counts_at each (g ++ (m.step s t).gave) (m.step s t).state l h in
      omega (arith, ih, length-append g (m.step s t).gave, each s t)
  counts_at each g done (t ∷ l) h = let e : is_going (run m (record { gave = g; state = done }) (t ∷ l)).state ≡ false = ap (λ (y : Run S Tree). is_going y.state) (stays m (record { gave = g; state = done }) (t ∷ l) refl) in cc
  counts_at each g (broken c) (t ∷ l) h = let e : is_going (run m (record { gave = g; state = broken c }) (t ∷ l)).state ≡ false = ap (λ (y : Run S Tree). is_going y.state) (stays m (record { gave = g; state = broken c }) (t ∷ l) refl) in cc

  module _ (start : Run S Tree) where
    pub lags_grow : (l g o : List Tree) → Lags m start l g → Lags m start l (g ++ o)
    lags_grow l g o h = omega (arith, h, length-append g o)

    -- after one more element
    pub few_lags : (x z : Run S Tree) (t : Tree) (l g o : List Tree) → run m start l ≡ record { gave = g ++ x.gave; state = x.state } → run m start (l ++ t ∷ []) ≡ record { gave = g ++ (feed m x t).gave; state = (feed m x t).state }
        → (feed m x t).gave ≡ o ++ z.gave → IsTrue (is_going (feed m x t).state) → 1 ≤ m.hold → Lags m start l g → Few m x t z → Lags m start (l ++ t ∷ []) (g ++ o)
    few_lags x z t l g o was now out on may lag (none_lost none) = absurd (omega (arith, may, none))
    few_lags x z t l g o was now out on may lag (last_held one few) =
        let k : ℕ = length (l ++ t ∷ []) - m.hold in
        let same : take k (l ++ t ∷ []) ≡ take k l = take-append-le k l (t ∷ []) (omega (arith, one, length-append l (t ∷ []))) in
        let all : length (run m start (take k l)).gave ≤ length (run m start l).gave = prefix_length (gave_prefix m start (prefix_take k l)) in
        let a = ap (λ (y : List Tree). length (run m start y).gave) same in
        let e = ap (λ (y : Run S Tree). length y.gave) was in
        let f = ap length out in
        omega (arith, all, a, e, f, few, length-append g x.gave, length-append o z.gave, length-append g o)
    few_lags x z t l g o was now out on may lag (each_held each few) =
        let k : ℕ = length (l ++ t ∷ []) - m.hold in
        let at : IsTrue (is_going (run m start (l ++ t ∷ [])).state) = ap (λ (y : Run S Tree). is_going y.state) now ∙ on in
        let first : IsTrue (is_going (run m start (take k (l ++ t ∷ []))).state) = going_before m start (prefix_take k (l ++ t ∷ [])) at in
        let all = counts_at each start.gave start.state (l ++ t ∷ []) at in
        let part = counts_at each start.gave start.state (take k (l ++ t ∷ [])) first in
        let long : length (take k (l ++ t ∷ [])) ≡ k = length-take-le k (l ++ t ∷ []) (omega arith) in
        let begun = prefix_length (run_grows m start (take (length l - m.hold) l)) in
        let e = ap (λ (y : Run S Tree). length y.gave) now in
        let f = ap length out in
        omega (arith, all, part, long, lag, begun, e, f, few, length-append g (feed m x t).gave, length-append o z.gave, length-append g o)

-- where nothing was held, and nothing is, none is lost
pub few_nothing : {S : Type 0} (m : Machine S Tree) (x : Run S Tree) (t : Tree) (z : Run S Tree) → x.gave ≡ [] → z.gave ≡ [] → Few m x t z
few_nothing m x t z h k = by_hold m.hold refl
  where
    by_hold : (n : ℕ) → m.hold ≡ n → Few m x t z
    by_hold zero e = none_lost e
    by_hold (suc n) e =
        let a : length x.gave ≡ 0 = ap length h in
        let b : length z.gave ≡ 0 = ap length k in
        last_held (omega (arith, e)) (omega (arith, a, b))
