-- The outputs of a partition as machines: each element goes to one of them.
use Rattle.std.specs.Prelude.{pos, negsuc, ◌%◌, ◌==◌, if◌then◌else◌, Ok, Err}
use Rattle.std.specs.declared.result.Result.{Result}
use Rattle.std.proofs.Math.Nat.{mod-lt}
use Rattle.std.proofs.Common.{◌≡◌, ◌≢◌, ℕ, zero, suc, ◌+◌, ◌-◌, ◌<◌, ◌≤◌, inl, inr, true, false, List, [], ◌∷◌, ◌++◌, length, refl, sym, ap, subst, ◌∙◌, arith, length-append, append-nil}
use Rattle.elem_core.specs.Tree.{Tree, num, text, seq, both}
use Rattle.elem_core.specs.Values.{map_value, part_of}
use Rattle.elem_core.specs.declared.function.MapFn.{MapFn}
use Rattle.elem_core.specs.declared.why.Why.{Why}
use Rattle.elem_core.specs.declared.why.Cause.{Cause}
use Rattle.elem_core.specs.declared.why.Decider.TheVariants.{Stop}
use Rattle.stream_model.specs.Outlook.{End, unended, ended, failed}
use Rattle.stream_model.specs.Machine.{going, broken, is_going, Run, Machine, feed, run, close}
use Rattle.stream_model.specs.Linear.{Book, Stage, numbering, linear, begin_work}
use Rattle.stream_model.proofs.MachineLaws.{stays, run_behind}
use Rattle.fused_net.proofs.Reading.{same_or_not}
use Rattle.stage_core.specs.Law.{ends_by}
use Rattle.stage_core.proofs.Flags.{same}

-- a number modulo n is below n
below : (n : ℕ) → 1 ≤ n → (r : Result Tree Why) (p : ℕ) → part_of n r ≡ Ok p → p < n
below n h (Ok (num (pos a))) p e = let same : a % n ≡ p = cc in let less = mod-lt a {m = n} (omega (arith, h)) in omega (arith, same, less)
below n h (Ok (num (negsuc a))) p e = let same : n - 1 - a % n ≡ p = cc in omega (arith, same, h)
below n h (Err w) p e = cc
below n h (Ok (text x)) p e = cc
below n h (Ok (seq x)) p e = cc
below n h (Ok (both x y)) p e = cc

module _ (book : Book) (node n : ℕ) (f : MapFn) where
  abbrev pub machine : ℕ → Machine Stage Tree
  machine j = linear book (numbering n f j)

  abbrev pub start : ℕ → Run Stage Tree
  start j = begin_work node Stop (numbering n f j)

  -- it took k elements
  abbrev stage : ℕ → ℕ → Stage
  stage k j = record { node = node; decider = Stop; taken = k; work = numbering n f j }

  abbrev from : ℕ → ℕ → List Tree → Run Stage Tree
  from k j g = record { gave = g; state = going (stage k j) }

  -- one more element, by its number
  fed : (k j : ℕ) (g : List Tree) (t : Tree) (p : ℕ) → part_of n (map_value f t) ≡ Ok p → feed (machine j) (from k j g) t ≡ from (k + 1) j (g ++ (if p == j then t ∷ [] else []))
  fed k j g t p e = rw e refl

  -- or it has none, and each output has failed
  failed_at : (k j : ℕ) (g : List Tree) (t : Tree) (why : Why) → part_of n (map_value f t) ≡ Err why → feed (machine j) (from k j g) t ≡ record { gave = g ++ []; state = broken (record { stage = node; nth = k + 1; why = why }) }
  failed_at k j g t why e = rw e refl

  -- it goes on as such a machine, or has failed
  data Numbered (j : ℕ) (x : Run Stage Tree) : Type 0 where
    goes : (k : ℕ) → x.state ≡ going (stage k j) → Numbered j x
    fails : (c : Cause) → x.state ≡ broken c → Numbered j x

  numbered : (k j : ℕ) (g l : List Tree) → Numbered j (run (machine j) (from k j g) l)
  numbered k j g [] = goes k refl
  numbered k j g (t ∷ l) = by (part_of n (map_value f t)) refl (λ p. numbered (k + 1) j (g ++ (if p == j then t ∷ [] else [])) l)
    where
      by : (r : Result ℕ Why) → part_of n (map_value f t) ≡ r → ((p : ℕ) → Numbered j (run (machine j) (from (k + 1) j (g ++ (if p == j then t ∷ [] else []))) l)) → Numbered j (run (machine j) (from k j g) (t ∷ l))
      by (Ok p) e ih = subst (λ (x : Run Stage Tree). Numbered j (run (machine j) x l)) (sym (fed k j g t p e)) (ih p)
      by (Err why) e ih =
          let c : Cause = record { stage = node; nth = k + 1; why = why } in
          let x : Run Stage Tree = record { gave = g ++ []; state = broken c } in
          subst (λ (y : Run Stage Tree). Numbered j (run (machine j) y l)) (sym (failed_at k j g t why e)) (fails c (ap (λ (y : Run Stage Tree). y.state) (stays (machine j) x l refl)))

  -- a normal end adds nothing
  pub no_more : (j : ℕ) (l : List Tree) → length (close (machine j) (run (machine j) (start j) l) ended).list ≡ length (run (machine j) (start j) l).gave
  no_more j l = by (run (machine j) (start j) l) (numbered 0 j [] l)
    where
      by : (x : Run Stage Tree) → Numbered j x → length (close (machine j) x ended).list ≡ length x.gave
      by x (goes k e) = rw e (ap length (append-nil x.gave))
      by x (fails c e) = rw e refl

  -- and so does no end of its input
  pub ends_same : (j : ℕ) (l : List Tree) (e : End) → length (ends_by (machine j) (run (machine j) (start j) l) e).gave ≡ length (run (machine j) (start j) l).gave
  ends_same j l unended = refl
  ends_same j l ended = by (run (machine j) (start j) l) (numbered 0 j [] l)
    where
      by : (x : Run Stage Tree) → Numbered j x → length (ends_by (machine j) x ended).gave ≡ length x.gave
      by x (goes k e) = rw e (ap length (append-nil x.gave))
      by x (fails c e) = rw e refl
  ends_same j l (failed d) = by (run (machine j) (start j) l) (numbered 0 j [] l)
    where
      by : (x : Run Stage Tree) → Numbered j x → length (ends_by (machine j) x (failed d)).gave ≡ length x.gave
      by x (goes k e) = rw e refl
      by x (fails c e) = rw e refl

  -- how many elements output j gives of a list
  abbrev count : ℕ → ℕ → List Tree → ℕ
  count k j l = length (run (machine j) (from k j []) l).gave

  counted : (k j : ℕ) (t : Tree) (l : List Tree) (p : ℕ) → part_of n (map_value f t) ≡ Ok p → count k j (t ∷ l) ≡ length (if p == j then t ∷ [] else []) + count (k + 1) j l
  counted k j t l p e =
      let first : List Tree = if p == j then t ∷ [] else [] in
      ap (λ (x : Run Stage Tree). length (run (machine j) x l).gave) (fed k j [] t p e ∙ ap (λ (g : List Tree). from (k + 1) j g) (sym (append-nil first)))
      ∙ (ap (λ (x : Run Stage Tree). length x.gave) (run_behind (machine j) first (from (k + 1) j []) l) ∙ length-append first (run (machine j) (from (k + 1) j []) l).gave)

  -- of the m outputs from number q on
  abbrev pub count_all : ℕ → ℕ → ℕ → List Tree → ℕ
  count_all k q zero l = 0
  count_all k q (suc m) l = count k q l + count_all k (q + 1) m l

  mine : (p q : ℕ) (t : Tree) → p ≡ q → length (if p == q then t ∷ [] else []) ≡ 1
  mine p q t e = rw (same p q e) refl

  -- an element of these outputs goes to one of them
  counts_one : (k q m : ℕ) (t : Tree) (l : List Tree) (p : ℕ) → part_of n (map_value f t) ≡ Ok p → q ≤ p → p < q + m → count_all (k + 1) q m l + 1 ≤ count_all k q m (t ∷ l)
  counts_one k q zero t l p e low high = absurd (omega (arith, low, high))
  counts_one k q (suc m) t l p e low high = elim (same_or_not p q) [
    | inl is ↦
        let here = counted k q t l p e in
        let one = mine p q t is in
        let rest = counts_more k (q + 1) m t l p e in
        omega (arith, here, one, rest)
    | inr not ↦
        let here = counted k q t l p e in
        let rest = counts_one k (q + 1) m t l p e (above p q low not) (omega (arith, high)) in
        omega (arith, here, rest)
  ]
    where
      above : (p q : ℕ) → q ≤ p → p ≢ q → q + 1 ≤ p
      above zero zero l n = absurd (n refl)
      above zero (suc q) l n = absurd (omega (arith, l))
      above (suc p) zero l n = omega arith
      above (suc p) (suc q) l n = let r = above p q (omega (arith, l)) (λ e. n (ap suc e)) in omega (arith, r)

      counts_more : (k q m : ℕ) (t : Tree) (l : List Tree) (p : ℕ) → part_of n (map_value f t) ≡ Ok p → count_all (k + 1) q m l ≤ count_all k q m (t ∷ l)
      counts_more k q zero t l p e = omega arith
      counts_more k q (suc m) t l p e = let here = counted k q t l p e in let rest = counts_more k (q + 1) m t l p e in omega (arith, here, rest)

  -- while one of them has not failed, all elements went to some output
  module _ (some : 1 ≤ n) where
    part_below : (r : Result Tree Why) (p : ℕ) → part_of n r ≡ Ok p → p < n
    part_below r p e = below n some r p e

    pub all_counted : (k j : ℕ) (g l : List Tree) → is_going (run (machine j) (from k j g) l).state ≡ true → length l ≤ count_all k 0 n l
    all_counted k j g [] h = omega arith
    all_counted k j g (t ∷ l) h = by (part_of n (map_value f t)) refl (λ p. all_counted (k + 1) j (g ++ (if p == j then t ∷ [] else [])) l)
      where
        by : (r : Result ℕ Why) → part_of n (map_value f t) ≡ r → ((p : ℕ) → is_going (run (machine j) (from (k + 1) j (g ++ (if p == j then t ∷ [] else []))) l).state ≡ true → length l ≤ count_all (k + 1) 0 n l) → suc (length l) ≤ count_all k 0 n (t ∷ l)
        by (Ok p) e ih =
            let rest = ih p (subst (λ (x : Run Stage Tree). is_going (run (machine j) x l).state ≡ true) (fed k j g t p e) h) in
            let less = part_below (map_value f t) p e in
            let one = counts_one k 0 n t l p e (omega arith) (omega (arith, less)) in
            omega (arith, rest, one)
        by (Err why) e ih =
            let c : Cause = record { stage = node; nth = k + 1; why = why } in
            let x : Run Stage Tree = record { gave = g ++ []; state = broken c } in
            let stopped : is_going (run (machine j) x l).state ≡ true = subst (λ (y : Run Stage Tree). is_going (run (machine j) y l).state ≡ true) (failed_at k j g t why e) h in
            let is : is_going (run (machine j) x l).state ≡ false = ap (λ (y : Run Stage Tree). is_going y.state) (stays (machine j) x l refl) in
            let no : true ≡ false = sym stopped ∙ is in
            cc
