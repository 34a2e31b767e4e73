-- What merged substreams gave by the first moves of a plan agrees with their outlook by the whole plan, where nothing fails.
use Rattle.std.proofs.Common.{◌≡◌, ◌⊎◌, inl, inr, ℕ, zero, suc, ◌+◌, ◌≤◌, ◌<◌, Bool, true, false, List, [], ◌∷◌, ◌++◌, length, map, refl, sym, ap, ◌∙◌, subst, arith, append-nil, length-append, Option, Some, None}
use Rattle.std.specs.Prelude.{slice_get, slice_set, cond, ◌==◌, nat_le, if◌then◌else◌}
use Rattle.std.specs.List.{filter, filter_map}
use Rattle.std.proofs.lemmas.Bool.Decides.{nat_tests}
use Rattle.elem_core.specs.Tree.{Tree}
use Rattle.elem_core.specs.declared.why.Cause.{Cause}
use Rattle.elem_core.proofs.Prefixes.{prefix_trans}
use Rattle.stream_model.specs.Outlook.{Outlook, Entry, End, unended, ended, failed, Agrees, Allows}
use Rattle.stream_model.specs.FanIn.{Tagged, Finds, merge_of, finds_all, found_next}
use Rattle.stream_model.specs.Machine.{Given, whole, fails_of, is_ended}
use Rattle.stream_model.specs.Substreams.{Opening, substreams, begin_subs, of_sub, by_sub, sub_count, once_given, merge_subs, subs_fit, MergedStands}
use Rattle.stream_model.proofs.Entries.{Allows-later}
use Rattle.stream_model.proofs.SubTraces.{merged_trace}
use Rattle.stream_model.proofs.Traces.{trace}
use Rattle.plan_laws.proofs.Serving.{merge_grows}

-- ---- no more moves find an element than there are elements

abbrev total : List (List Tree) → ℕ
total [] = 0
total (l ∷ ls) = length l + total ls

taken_one : (ls : List (List Tree)) (i : ℕ) (t : Tree) (ts : List Tree) → slice_get ls i ≡ Some (t ∷ ts) → total ls ≡ suc (total (slice_set ls i ts))
taken_one [] i t ts e = cc
taken_one (l ∷ ls) zero t ts e = let is : l ≡ t ∷ ts = cc in let n : length l ≡ suc (length ts) = ap length is in omega (arith, n)
taken_one (l ∷ ls) (suc i) t ts e = let r = taken_one ls i t ts e in omega (arith, r)

few_found : (moves : List ℕ) (ls : List (List Tree)) → finds_all moves ls ≡ true → length moves ≤ total ls
few_found [] ls h = omega arith
few_found (i ∷ is) ls h = by_slot (slice_get ls i) refl h (λ ks k. few_found is ks k)
  where
    by_slot : (o : Option (List Tree)) → slice_get ls i ≡ o → found_next i ls o (finds_all is) ≡ true → ((ks : List (List Tree)) → finds_all is ks ≡ true → length is ≤ total ks) → suc (length is) ≤ total ls
    by_slot None e h later = cc
    by_slot (Some []) e h later = cc
    by_slot (Some (t ∷ ts)) e h later = let one = taken_one ls i t ts e in let r = later (slice_set ls i ts) h in omega (arith, one, r)

module _ (yields : List Tree → End → Given Tree) where
  other_number : (a b : ℕ) → a < b → (a == b) ≡ false
  other_number a b h = grind (arith, nat_tests)

  apart : (a b : ℕ) → (a == b) ≡ false → a ≡ b → ⊥
  apart a b e s = grind (arith, nat_tests)

  number_is : (a b : ℕ) → (a == b) ≡ true → a ≡ b
  number_is a b e = grind (arith, nat_tests)

  passed : (n : ℕ) (x : Tagged) (l : List Tagged) → (x.port == n) ≡ false → of_sub yields n (x ∷ l) ≡ of_sub yields n l
  passed n x l e = ap (λ (b : Bool). map (λ (y : Tagged). y.item) (cond b (x ∷ filter (λ y. y.port == n) l) (filter (λ y. y.port == n) l))) e

  counted : (n : ℕ) (x : Tagged) (l : List Tagged) → (x.port == n) ≡ true → length (of_sub yields n (x ∷ l)) ≡ suc (length (of_sub yields n l))
  counted n x l e = ap (λ (b : Bool). length (map (λ (y : Tagged). y.item) (cond b (x ∷ filter (λ y. y.port == n) l) (filter (λ y. y.port == n) l)))) e

  -- one output more counts in its substream alone
  behind_it : (k n : ℕ) (x : Tagged) (l : List Tagged) → x.port < n → total (by_sub yields k n (x ∷ l)) ≡ total (by_sub yields k n l)
  behind_it zero n x l h = refl
  behind_it (suc k) n x l h =
      let here : length (of_sub yields n (x ∷ l)) ≡ length (of_sub yields n l) = ap length (passed n x l (other_number x.port n h)) in
      let later = behind_it k (n + 1) x l (omega (arith, h)) in
      omega (arith, here, later)

  one_output : (k n : ℕ) (x : Tagged) (l : List Tagged) → total (by_sub yields k n (x ∷ l)) ≤ suc (total (by_sub yields k n l))
  one_output zero n x l = omega arith
  one_output (suc k) n x l = by_flag (x.port == n) refl (one_output k (n + 1) x l)
    where
      by_flag : (b : Bool) → (x.port == n) ≡ b → total (by_sub yields k (n + 1) (x ∷ l)) ≤ suc (total (by_sub yields k (n + 1) l)) → total (by_sub yields (suc k) n (x ∷ l)) ≤ suc (total (by_sub yields (suc k) n l))
      by_flag true e later =
          let is = number_is x.port n e in
          let here = counted n x l e in
          let behind = behind_it k (n + 1) x l (omega (arith, is)) in
          omega (arith, here, behind)
      by_flag false e later = let here : length (of_sub yields n (x ∷ l)) ≡ length (of_sub yields n l) = ap length (passed n x l e) in omega (arith, here, later)

  none_there : (k n : ℕ) → total (by_sub yields k n []) ≡ 0
  none_there zero n = refl
  none_there (suc k) n = let r = none_there k (n + 1) in omega (arith, r)

  all_outputs : (k n : ℕ) (l : List Tagged) → total (by_sub yields k n l) ≤ length l
  all_outputs k n [] = let z = none_there k n in omega (arith, z)
  all_outputs k n (x ∷ l) = let one = one_output k n x l in let r = all_outputs k n l in omega (arith, one, r)

  -- ---- a failure that may come has an entry

  within : (m n : ℕ) → m ≤ n → nat_le m n ≡ true
  within m n h = grind (arith, nat_tests)

  still_allowed : (n : ℕ) (es : List Entry) (c : Cause) (k : ℕ) → k ≤ n → Allows es c k → Allows (filter_map (once_given yields n) es) c n
  still_allowed n [] c k few a = a
  still_allowed n (e ∷ es) c k few (inl a) = let enough : nat_le e.low n ≡ true = within e.low n (omega (arith, few, a.1)) in rw enough (inl (a.0, omega arith))
  still_allowed n (e ∷ es) c k few (inr a) = Allows-later (once_given yields n e) (filter_map (once_given yields n) es) c n (still_allowed n es c k few a)

  -- ---- the law

  nothing_more : (rest : List ℕ) → length rest ≡ 0 → rest ≡ []
  nothing_more [] e = refl
  nothing_more (j ∷ rest) e = absurd (omega (arith, e))

  same_count : (a b : ℕ) → (a == b) ≡ true → a ≡ b
  same_count a b h = grind (arith, nat_tests)

  -- where the moves tell that all was given, there are as many of them
  all_told : (b : Bool) (m n : ℕ) → (if b then m == n else false) ≡ true → m ≡ n
  all_told true m n h = same_count m n h
  all_told false m n h = cc

  module _ (node : ℕ) (o : Opening) (made rest : List ℕ) (i : Outlook) (l : List Tree) (e : End) (g : List Tree) (fits : subs_fit yields node o (made ++ rest) i ≡ true) (calm : (merge_subs yields node o (made ++ rest) i).fails ≡ []) (a : Agrees i l e) where
    abbrev all : List Tagged
    all = (whole (substreams yields o) (begin_subs yields node) i).list

    part : MergedStands yields node o made l e g unended → Agrees (merge_subs yields node o (made ++ rest) i) g unended
    part s = prefix_trans (merged_trace yields node o made i l e g unended a s) (merge_grows made rest (by_sub yields (sub_count yields all) 0 all))

    whole_plan : MergedStands yields node o made l e g ended → Agrees (merge_subs yields node o (made ++ rest) i) g ended
    whole_plan s =
        let t : Agrees (merge_subs yields node o made i) g ended = merged_trace yields node o made i l e g ended a s in
        let count : length made ≡ length all = all_told (is_ended (whole (substreams yields o) (begin_subs yields node) i).end) (length made) (length all) t.0 in
        let few : length (made ++ rest) ≤ total (by_sub yields (sub_count yields all) 0 all) = few_found (made ++ rest) (by_sub yields (sub_count yields all) 0 all) fits in
        let most = all_outputs (sub_count yields all) 0 all in
        let size = length-append made rest in
        let none : rest ≡ [] = nothing_more rest (omega (arith, count, few, most, size)) in
        subst (λ (ms : List ℕ). Agrees (merge_subs yields node o ms i) g ended) (sym (ap (λ (r : List ℕ). made ++ r) none ∙ append-nil made)) t

    none_fails : (c : Cause) → MergedStands yields node o made l e g (failed c) → ⊥
    none_fails c s =
        let q = s.fails c refl in
        let t = trace (substreams yields o) (begin_subs yields node) i l e q.0 (failed c) a q.1 in
        let size = length-append made rest in
        let few = q.2 in
        let allowed = still_allowed (length (made ++ rest)) (fails_of (substreams yields o) (begin_subs yields node) i) c (length q.0) (omega (arith, size, few)) t.1 in
        subst (λ (es : List Entry). Allows es c (length (made ++ rest))) calm allowed

  pub subs_serve : (node : ℕ) (o : Opening) (made rest : List ℕ) (i : Outlook) (l : List Tree) (e : End) (g : List Tree) (f : End) → subs_fit yields node o (made ++ rest) i ≡ true → (merge_subs yields node o (made ++ rest) i).fails ≡ [] → Agrees i l e
      → MergedStands yields node o made l e g f → Agrees (merge_subs yields node o (made ++ rest) i) g f
  subs_serve node o made rest i l e g unended fits calm a s = part node o made rest i l e g fits calm a s
  subs_serve node o made rest i l e g ended fits calm a s = whole_plan node o made rest i l e g fits calm a s
  subs_serve node o made rest i l e g (failed c) fits calm a s = absurd (none_fails node o made rest i l e g fits calm a c s)
