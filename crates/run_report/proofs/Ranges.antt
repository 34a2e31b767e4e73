-- Texts of numbered lines.
use Rattle.std.proofs.Common.{◌≡◌, ◌∙◌, ◌+◌, ◌-◌, ◌≤◌, ℕ, zero, suc, refl, sym, ap, subst, arith, List, ◌++◌, append_assoc, append-nil, zero-add, add-zero}
use Rattle.std.specs.List.{flat_map, range_with_len}
use Rattle.stream_io.specs.State.{DrainState}
use Rattle.stream_io.specs.Putting.{Puts, PutsPart}
use Rattle.run_report.specs.Writing.{LeavesRest}
use Rattle.run_report.proofs.Puttings.{leaves_all, leaves_less, leaves_none, leaves_stop}

-- so many lines, and then so many more
lines_split : (f : ℕ → List ℕ) (a k m : ℕ) → flat_map f (range_with_len a (k + m)) ≡ flat_map f (range_with_len a k) ++ flat_map f (range_with_len (a + k) m)
lines_split f a zero m = rw (zero-add, add-zero) refl
lines_split f a (suc k) m =
    let first : suc k + m ≡ suc (k + m) = omega arith in
    let second : a + suc k ≡ (a + 1) + k = omega arith in
    rw (first, second) (ap (λ r. f a ++ r) (lines_split f (a + 1) k m) ∙ sym (append_assoc (f a) (flat_map f (range_with_len (a + 1) k)) (flat_map f (range_with_len ((a + 1) + k) m))))

-- one line more
pub lines_more : (f : ℕ → List ℕ) (a k : ℕ) → flat_map f (range_with_len a (k + 1)) ≡ flat_map f (range_with_len a k) ++ f (a + k)
lines_more f a k = lines_split f a k 1 ∙ ap (λ r. flat_map f (range_with_len a k) ++ r) (append-nil (f (a + k)))

-- the lines behind the first ones are a piece of them and the others
pub lines_cut : (f : ℕ → List ℕ) (n done count : ℕ) → done + count ≤ n
    → flat_map f (range_with_len (done + 1) (n - done)) ≡ flat_map f (range_with_len (done + 1) count) ++ flat_map f (range_with_len ((done + count) + 1) (n - (done + count)))
lines_cut f n done count within =
    let rest : n - done ≡ count + (n - (done + count)) = omega (arith, within) in
    let from : (done + count) + 1 ≡ (done + 1) + count = omega arith in
    rw (rest, from) (lines_split f (done + 1) count (n - (done + count)))

-- one piece more was put
pub leaves_lines : (f : ℕ → List ℕ) (n done count : ℕ) (s t u : DrainState) (whole : List ℕ) → done + count ≤ n
    → LeavesRest s t whole (flat_map f (range_with_len (done + 1) (n - done))) → Puts t u (flat_map f (range_with_len (done + 1) count))
    → LeavesRest s u whole (flat_map f (range_with_len ((done + count) + 1) (n - (done + count))))
leaves_lines f n done count s t u whole within l p =
    leaves_less s t u whole (flat_map f (range_with_len (done + 1) count)) (flat_map f (range_with_len ((done + count) + 1) (n - (done + count)))) (subst (LeavesRest s t whole) (lines_cut f n done count within) l) p

-- a write failed in one piece
pub stops_lines : (f : ℕ → List ℕ) (n done count : ℕ) (s t u : DrainState) (whole : List ℕ) → done + count ≤ n
    → LeavesRest s t whole (flat_map f (range_with_len (done + 1) (n - done))) → PutsPart t u (flat_map f (range_with_len (done + 1) count))
    → PutsPart s u whole
stops_lines f n done count s t u whole within l p =
    leaves_stop s t u whole (flat_map f (range_with_len (done + 1) count)) (flat_map f (range_with_len ((done + count) + 1) (n - (done + count)))) (subst (LeavesRest s t whole) (lines_cut f n done count within) l) p

-- no line is left
pub ends_lines : (f : ℕ → List ℕ) (n done : ℕ) (s t : DrainState) (whole : List ℕ) → n ≤ done
    → LeavesRest s t whole (flat_map f (range_with_len (done + 1) (n - done))) → Puts s t whole
ends_lines f n done s t whole past l =
    let none : n - done ≡ 0 = omega (arith, past) in
    leaves_none s t whole (subst (λ k. LeavesRest s t whole (flat_map f (range_with_len (done + 1) k))) none l)

-- at the start all lines are to come
pub starts_lines : (f : ℕ → List ℕ) (n : ℕ) (s : DrainState) → LeavesRest s s (flat_map f (range_with_len 1 n)) (flat_map f (range_with_len (0 + 1) (n - 0)))
starts_lines f n s =
    let all : n - 0 ≡ n = omega arith in
    rw all (leaves_all s (flat_map f (range_with_len 1 n)))
