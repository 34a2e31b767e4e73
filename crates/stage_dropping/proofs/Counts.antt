-- Moves that find their elements: each one gave an element, and each zero took one.
use Rattle.std.specs.Prelude.{Option, ◌||◌, not, ◌==◌, if◌then◌else◌}
use Rattle.std.proofs.Common.{◌≡◌, ℕ, zero, suc, ◌+◌, ◌≤◌, Bool, true, false, List, [], ◌∷◌, length, refl, ap, arith, Some, None, cond}
use Rattle.std.proofs.lemmas.Bool.Decides.{nat_tests}
use Rattle.std.proofs.lemmas.List.{length-append}
use Rattle.std.proofs.lemmas.List.Recursion.{is_count_by}
use Rattle.elem_core.specs.Tree.{Tree}
use Rattle.stream_model.specs.Outlook.{End}
use Rattle.stream_model.specs.FanIn.{Inflow}
use Rattle.stream_model.specs.declared.kind.Policy.{Policy}
use Rattle.stream_model.specs.Picks.{Buffered, buffered, after_coming, leaves, comes, empty_buffer, count_of}
use Rattle.stage_dropping.specs.Drops.{DropCounts, DropStandsOf}
use Rattle.stage_dropping.proofs.DropSplits.{differ, stuck}

-- ---- how often a number stands in a list, from its head on

abbrev counted : ℕ → List ℕ → ℕ
counted i [] = 0
counted i (j ∷ js) = cond (j == i) (1 + counted i js) (counted i js)

counted_is : (i : ℕ) (js : List ℕ) → counted i js ≡ count_of i js
counted_is i js = is_count_by (counted i) (λ j. j == i) refl (λ j js. refl) js

here : (i j : ℕ) (js : List ℕ) → j ≡ i → counted i (j ∷ js) ≡ 1 + counted i js
here i j js e = let t : (j == i) ≡ true = grind (arith, nat_tests) in ap (λ b. cond b (1 + counted i js) (counted i js)) t

away : (i j : ℕ) (js : List ℕ) → (j ≡ i → ⊥) → counted i (j ∷ js) ≡ counted i js
away i j js n = by_test (j == i) refl
  where
    by_test : (b : Bool) → (j == i) ≡ b → counted i (j ∷ js) ≡ counted i js
    by_test false e = ap (λ b. cond b (1 + counted i js) (counted i js)) e
    by_test true e = let same : j ≡ i = grind (arith, nat_tests) in absurd (n same)

is_zero : (k : ℕ) (o : Bool) → (o || not (k == 0)) ≡ false → k ≡ 0
is_zero k true h = cc
is_zero k false h = by_test (k == 0) refl
  where
    by_test : (b : Bool) → (k == 0) ≡ b → k ≡ 0
    by_test true e = grind (arith, nat_tests)
    by_test false e = let t : not (k == 0) ≡ true = ap not e in absurd (differ h t)

module _ (p : Policy) (n : ℕ) where
  -- what moves that find their elements give, and take
  abbrev Counted : List ℕ → List Tree → Buffered → Type 0
  Counted ms l b = (buffered p n ms l b).ok ≡ true → (length (buffered p n ms l b).gave ≡ length b.gave + counted 1 ms) × (counted 0 ms ≤ length l)

  spoilt : (ms : List ℕ) (l : List Tree) (b : Buffered) → b.ok ≡ false → (buffered p n ms l b).ok ≡ true → ⊥
  spoilt ms l b e ok = differ (stuck p n ms l b e) ok

  took : (ms : List ℕ) (l : List Tree) (b : Buffered) → ((c : Buffered) → Counted ms l c) → (o : Bool) (x : Option (List Tree)) → (buffered p n ms l (if o then record b { ok = false } else after_coming b x)).ok ≡ true
      → (length (buffered p n ms l (if o then record b { ok = false } else after_coming b x)).gave ≡ length b.gave + counted 1 ms) × (counted 0 ms ≤ length l)
  took ms l b so true x ok = absurd (spoilt ms l (record b { ok = false }) refl ok)
  took ms l b so false (Some h) ok = so (after_coming b (Some h)) ok
  took ms l b so false None ok = so (after_coming b None) ok

  gave : (ms : List ℕ) (l : List Tree) (b : Buffered) → ((c : Buffered) → Counted ms l c) → (h : List Tree) → (buffered p n ms l (leaves b h)).ok ≡ true
      → (length (buffered p n ms l (leaves b h)).gave ≡ suc (length b.gave + counted 1 ms)) × (counted 0 ms ≤ length l)
  gave ms l b so [] ok = absurd (spoilt ms l (leaves b []) refl ok)
  gave ms l b so (t ∷ h) ok =
      let r = so (leaves b (t ∷ h)) ok in
      let more = length-append b.gave (t ∷ []) in
      let count = r.0 in
      (omega (arith, count, more), r.1)

  counts : (ms : List ℕ) (l : List Tree) (b : Buffered) → Counted ms l b
  counts [] l b ok = (omega arith, omega arith)
  counts (zero ∷ ms) [] b ok = absurd (spoilt ms [] (record b { ok = false }) refl ok)
  counts (zero ∷ ms) (t ∷ l) b ok =
      let r = took ms l b (λ c. counts ms l c) b.overflowed (comes p n b.held t) ok in
      let one = away 1 0 ms (λ e. absurd (omega (arith, e))) in
      let none = here 0 0 ms refl in
      let count = r.0 in
      let few = r.1 in
      (omega (arith, count, one), omega (arith, few, none))
  counts (suc k ∷ ms) l b ok = by_test (b.overflowed || not (k == 0)) refl ok (λ c. counts ms l c)
    where
      by_test : (o : Bool) → (b.overflowed || not (k == 0)) ≡ o → (buffered p n ms l (if o then record b { ok = false } else leaves b b.held)).ok ≡ true → ((c : Buffered) → Counted ms l c)
          → (length (buffered p n ms l (if o then record b { ok = false } else leaves b b.held)).gave ≡ length b.gave + counted 1 (suc k ∷ ms)) × (counted 0 (suc k ∷ ms) ≤ length l)
      by_test true e ok so = absurd (spoilt ms l (record b { ok = false }) refl ok)
      by_test false e ok so =
          let r = gave ms l b so b.held ok in
          let z = is_zero k b.overflowed e in
          let one = here 1 (suc k) ms (omega (arith, z)) in
          let none = away 0 (suc k) ms (λ x. absurd (omega (arith, x))) in
          let count = r.0 in
          let few = r.1 in
          (omega (arith, count, one), omega (arith, few, none))

pub moves_counted : (node : ℕ) (p : Policy) (n : ℕ) (ms : List ℕ) (ins : List Inflow) (g : List Tree) (e : End) → DropStandsOf node p n ms ins g e → DropCounts ms ins g
moves_counted node p n ms [] g e s = absurd s
moves_counted node p n ms (f ∷ h ∷ fs) g e s = absurd s
moves_counted node p n ms (f ∷ []) g e s =
    let r = counts p n ms f.list empty_buffer s.fits in
    let given = ap length s.gave in
    let ones = counted_is 1 ms in
    let zeros = counted_is 0 ms in
    let count = r.0 in
    let few = r.1 in
    (omega (arith, given, count, ones), omega (arith, few, zeros))
