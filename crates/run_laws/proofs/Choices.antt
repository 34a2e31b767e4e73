-- How often each output stands in the moves of a balance, and how much that is of what its outputs were given.
use Rattle.std.specs.Prelude.{cond, nat_lt, slice_index_or, ◌==◌, if◌then◌else◌}
use Rattle.std.proofs.Common.{◌≡◌, ℕ, zero, suc, ◌+◌, ◌<◌, ◌≤◌, ◌⊎◌, inl, inr, Bool, true, false, List, [], ◌∷◌, length, refl, sym, ap, ◌∙◌, arith}
use Rattle.std.proofs.lemmas.Bool.{cases_eq, and_parts}
use Rattle.std.proofs.lemmas.Bool.Decides.{nat_tests}
use Rattle.std.proofs.lemmas.List.Sums.{sum_by-cons}
use Rattle.elem_core.specs.Tree.{Tree}
use Rattle.elem_core.specs.Items.{elements}
use Rattle.elem_core.specs.declared.item.Item.{Item}
use Rattle.stream_model.specs.Outlook.{End}
use Rattle.stream_model.specs.Picks.{count_of, all_below, sent_to}
use Rattle.stream_model.proofs.Fitting.{yes_one, no_one}
use Rattle.stream_model.specs.View.{wanted, total}
use Rattle.stream_model.specs.Lawful.{BalanceOutputs}
use Rattle.stage_core.specs.Held.{told}
use Rattle.run_laws.specs.Account.{AllBegin}
use Rattle.run_laws.specs.Ports.{OutPort, EachPort, OutStands, sents_of}
use Rattle.run_laws.proofs.Coming.{elements_told, elements_prefix}
use Rattle.run_laws.proofs.OutRows.{OutWires, OutWants}

-- ---- moves

-- how many moves name one of m outputs from number q on
abbrev pub counts : List ℕ → ℕ → ℕ → ℕ
counts moves q zero = 0
counts moves q (suc m) = count_of q moves + counts moves (q + 1) m

counts_none : (q m : ℕ) → counts [] q m ≡ 0
counts_none q zero = refl
counts_none q (suc m) = let none : count_of q [] ≡ 0 = refl in let rest = counts_none (q + 1) m in omega (arith, none, rest)

count_step : (n i : ℕ) (is : List ℕ) → count_of n (i ∷ is) ≡ cond (i == n) 1 0 + count_of n is
count_step n i is = sum_by-cons (λ j. cond (j == n) 1 0) i is

counts_other : (q m i : ℕ) (is : List ℕ) → i < q → counts (i ∷ is) q m ≡ counts is q m
counts_other q zero i is h = refl
counts_other q (suc m) i is h =
    let step = count_step q i is in
    let none = no_one i q (λ e. absurd (omega (arith, e, h))) in
    let rest = counts_other (q + 1) m i is (omega (arith, h)) in
    omega (arith, step, none, rest)

counts_here : (q m i : ℕ) (is : List ℕ) → q ≤ i → i < q + m → counts (i ∷ is) q m ≡ suc (counts is q m)
counts_here q zero i is a b = absurd (omega (arith, a, b))
counts_here q (suc m) i is a b = by_place (cases_eq i q) (λ l. counts_here (q + 1) m i is l (omega (arith, b)))
  where
    by_place : (i ≡ q) ⊎ (i ≡ q → ⊥) → (q + 1 ≤ i → counts (i ∷ is) (q + 1) m ≡ suc (counts is (q + 1) m)) → counts (i ∷ is) q (suc m) ≡ suc (counts is q (suc m))
    by_place (inl e) later =
        let step = count_step q i is in
        let one = yes_one i q e in
        let rest = counts_other (q + 1) m i is (omega (arith, e)) in
        omega (arith, step, one, rest)
    by_place (inr n) later =
        let step = count_step q i is in
        let none = no_one i q n in
        let rest = later (omega (arith, a, n)) in
        omega (arith, step, none, rest)

below : (i n : ℕ) → nat_lt i n ≡ true → i < n
below i n h = grind (arith, nat_tests)

-- where each move names one of n outputs, it is counted once
pub all_counted : (n : ℕ) (moves : List ℕ) → all_below n moves ≡ true → counts moves 0 n ≡ length moves
all_counted n [] h = counts_none 0 n
all_counted n (i ∷ is) h =
    let p = and_parts (nat_lt i n) (all_below n is) h in
    let less = below i n p.0 in
    let here = counts_here 0 n i is (omega arith) (omega (arith, less)) in
    let rest = all_counted n is p.1 in
    omega (arith, here, rest)

-- each output was sent as many elements as moves name it
pub sent_count : (j : ℕ) (moves : List ℕ) (l : List Tree) → length moves ≤ length l → length (sent_to j moves l) ≡ count_of j moves
sent_count j [] l h = refl
sent_count j (m ∷ moves) [] h = absurd (omega (arith, h))
sent_count j (m ∷ moves) (t ∷ l) h = by_test (m == j) (sent_to j moves l) (sym (count_step j m moves)) (sent_count j moves l (omega (arith, h)))
  where
    by_test : {c : ℕ} (b : Bool) (rest : List Tree) → cond b 1 0 + count_of j moves ≡ c → length rest ≡ count_of j moves → length (if b then t ∷ rest else rest) ≡ c
    by_test true rest s r = omega (arith, s, r)
    by_test false rest s r = omega (arith, s, r)

-- ---- what was given

-- the elements of all these histories
abbrev pub elements_all : List (List Item) → ℕ
elements_all [] = 0
elements_all (h ∷ hs) = elements h + elements_all hs

module _ (moves : List ℕ) (lists : ℕ → List Tree) (ends : ℕ → End) (each : (j : ℕ) → length (lists j) ≡ count_of j moves) where
  count_at : (q : ℕ) (h : List Item) → h ≡ told (lists (q + 0)) (ends (q + 0)) → elements h ≡ count_of q moves
  count_at q h e = let z : q + 0 ≡ q = omega arith in ap elements e ∙ elements_told (lists (q + 0)) (ends (q + 0)) ∙ each (q + 0) ∙ ap (λ k. count_of k moves) z

  behind : (q : ℕ) (hs : List (List Item)) (h : List Item) → ((j : ℕ) → j < suc (length hs) → slice_index_or (h ∷ hs) j [] ≡ told (lists (q + j)) (ends (q + j))) → (j : ℕ) → j < length hs → slice_index_or hs j [] ≡ told (lists (q + 1 + j)) (ends (q + 1 + j))
  behind q hs h t j l = let z : q + suc j ≡ q + 1 + j = omega arith in t (suc j) (omega (arith, l)) ∙ ap (λ k. told (lists k) (ends k)) z

  pub given_counts : (q : ℕ) (hs : List (List Item)) → ((j : ℕ) → j < length hs → slice_index_or hs j [] ≡ told (lists (q + j)) (ends (q + j))) → elements_all hs ≡ counts moves q (length hs)
  given_counts q [] t = refl
  given_counts q (h ∷ hs) t =
      let here = count_at q h (t 0 (omega arith)) in
      let rest = given_counts (q + 1) hs (behind q hs h t) in
      omega (arith, here, rest)

  -- the wires were sent what the moves say
  pub outputs_sent : (q : ℕ) (os : List OutPort) → ((j : ℕ) → j < length (sents_of os) → slice_index_or (sents_of os) j [] ≡ told (lists (q + j)) (ends (q + j))) → EachPort OutStands os → BalanceOutputs moves q (OutWires os)
  outputs_sent q [] t s = tt
  outputs_sent q (o ∷ os) t s = (s.0.count ∙ count_at q o.sent (t 0 (omega arith)), outputs_sent (q + 1) os (behind q (sents_of os) o.sent t) s.1)

-- what was given has only grown
pub grown : (hs xs : List (List Item)) → AllBegin hs xs → elements_all hs ≤ elements_all xs
grown [] [] b = omega arith
grown [] (x ∷ xs) b = absurd b
grown (h ∷ hs) [] b = absurd b
grown (h ∷ hs) (x ∷ xs) b = let here = elements_prefix h x b.0 in let rest = grown hs xs b.1 in omega (arith, here, rest)

-- what is wanted of an output is no less than what it was sent
least_wanted : (o : OutPort) (h : List Item) (b : Bool) → b ≡ o.wire.asked → OutStands o → elements h ≤ elements o.sent → elements h ≤ (if b then o.wire.sent + 1 else o.wire.sent)
least_wanted o h true e s l = let count = s.count in omega (arith, count, l)
least_wanted o h false e s l = let count = s.count in omega (arith, count, l)

-- all that was given is wanted
all_wanted : (hs : List (List Item)) (os : List OutPort) → AllBegin hs (sents_of os) → EachPort OutStands os → elements_all hs ≤ total wanted (OutWires os)
all_wanted [] [] b s = omega arith
all_wanted [] (o ∷ os) b s = absurd b
all_wanted (h ∷ hs) [] b s = absurd b
all_wanted (h ∷ hs) (o ∷ os) b s =
    let here = least_wanted o h o.wire.asked refl s.0 (elements_prefix h o.sent b.0) in
    let rest = all_wanted hs os b.1 s.1 in
    omega (arith, here, rest)

-- and one element more, where one more is wanted of some output
pub more_wanted : (j : ℕ) (hs : List (List Item)) (os : List OutPort) → AllBegin hs (sents_of os) → EachPort OutStands os → elements (slice_index_or hs j []) + 1 ≤ slice_index_or (OutWants os) j 0 → elements_all hs + 1 ≤ total wanted (OutWires os)
more_wanted j hs [] b s w = absurd (omega (arith, w))
more_wanted j [] (o ∷ os) b s w = absurd b
more_wanted zero (h ∷ hs) (o ∷ os) b s w =
    let on = s.0.wants in
    let rest = all_wanted hs os b.1 s.1 in
    omega (arith, w, on, rest)
more_wanted (suc j) (h ∷ hs) (o ∷ os) b s w =
    let here = least_wanted o h o.wire.asked refl s.0 (elements_prefix h o.sent b.0) in
    let rest = more_wanted j hs os b.1 s.1 w in
    omega (arith, here, rest)
