-- Outputs that are given in the order in which they arose: their moves are the numbers of their substreams.
use Rattle.std.specs.Prelude.{⊤, slice_get, slice_set, cond, ◌==◌}
use Rattle.std.specs.List.{filter, fold}
use Rattle.std.proofs.Common.{◌≡◌, ℕ, zero, suc, ◌+◌, ◌<◌, ◌≤◌, Bool, true, false, List, [], ◌∷◌, map, Some, refl, sym, ap, ◌∙◌, subst, arith, max}
use Rattle.std.proofs.lemmas.Bool.Decides.{nat_tests}
use Rattle.elem_core.specs.Prefix.{IsPrefix}
use Rattle.elem_core.specs.Tree.{Tree}
use Rattle.stream_model.specs.Outlook.{End}
use Rattle.stream_model.specs.Machine.{Given}
use Rattle.stream_model.specs.FanIn.{Tagged, tag, merge_of, next_of, Finds}
use Rattle.stream_model.specs.Substreams.{of_sub, by_sub, sub_count}
use Rattle.stream_model.proofs.SubTraces.{by_sub-prefix, sub_count-prefix}
use Rattle.stream_model.proofs.MergeTraces.{PrefixAll, at_place, merge_same}

same_number : (n : ℕ) → (n == n) ≡ true
same_number n = grind (arith, nat_tests)

other_number : (m n : ℕ) → m < n → (n == m) ≡ false
other_number m n h = grind (arith, nat_tests)

less_number : (m n : ℕ) → m < n → (m == n) ≡ false
less_number m n h = grind (arith, nat_tests)

-- moves that find their elements find them in longer lists
pub finds_more : (moves : List ℕ) (ls ks : List (List Tree)) → PrefixAll ls ks → Finds moves ls → Finds moves ks
finds_more [] ls ks p f = tt
finds_more (i ∷ is) ls ks p f =
    let r = at_place ls ks i f.0 f.1 p f.2 in
    (f.0, r.0, r.1, finds_more is (slice_set ls i f.1) (slice_set ks i r.0) r.2 f.3)

module _ (yields : List Tree → End → Given Tree) where
  mine : (n : ℕ) (x : Tree) (l : List Tagged) → of_sub yields n (tag n x ∷ l) ≡ x ∷ of_sub yields n l
  mine n x l = ap (λ (b : Bool). map (λ (y : Tagged). y.item) (cond b (tag n x ∷ filter (λ y. y.port == n) l) (filter (λ y. y.port == n) l))) (same_number n)

  others : (m n : ℕ) (x : Tree) (l : List Tagged) → (n == m) ≡ false → of_sub yields m (tag n x ∷ l) ≡ of_sub yields m l
  others m n x l e = ap (λ (b : Bool). map (λ (y : Tagged). y.item) (cond b (tag n x ∷ filter (λ y. y.port == m) l) (filter (λ y. y.port == m) l))) e

  -- the outputs of the substreams behind number p
  skip : (k n p : ℕ) (x : Tree) (l : List Tagged) → p < n → by_sub yields k n (tag p x ∷ l) ≡ by_sub yields k n l
  skip zero n p x l h = refl
  skip (suc k) n p x l h = cc (others n p x l (less_number p n h), skip k (n + 1) p x l (omega (arith, h)))

  at_sub : (k n p : ℕ) (l : List Tagged) → p < k → slice_get (by_sub yields k n l) p ≡ Some (of_sub yields (n + p) l)
  at_sub zero n p l h = absurd (omega (arith, h))
  at_sub (suc k) n zero l h = ap (λ j. Some (of_sub yields j l)) (omega arith)
  at_sub (suc k) n (suc p) l h = at_sub k (n + 1) p l (omega (arith, h)) ∙ ap (λ j. Some (of_sub yields j l)) (omega arith)

  without : (k n p : ℕ) (x : Tree) (l : List Tagged) → p < k → slice_set (by_sub yields k n (tag (n + p) x ∷ l)) p (of_sub yields (n + p) l) ≡ by_sub yields k n l
  without zero n p x l h = absurd (omega (arith, h))
  without (suc k) n zero x l h =
      let z : n + 0 ≡ n = omega arith in
      cc (ap (λ j. of_sub yields j l) z, skip k (n + 1) (n + 0) x l (omega arith))
  without (suc k) n (suc p) x l h =
      let m : n + suc p ≡ (n + 1) + p = omega arith in
      let first : of_sub yields n (tag (n + suc p) x ∷ l) ≡ of_sub yields n l = others n (n + suc p) x l (other_number n (n + suc p) (omega arith)) in
      let rest : slice_set (by_sub yields k (n + 1) (tag (n + suc p) x ∷ l)) p (of_sub yields (n + suc p) l) ≡ by_sub yields k (n + 1) l =
      ap (λ j. slice_set (by_sub yields k (n + 1) (tag j x ∷ l)) p (of_sub yields j l)) m ∙ without k (n + 1) p x l (omega (arith, h)) in
      cc (first, rest)

  -- each number is below k
  abbrev pub Below : ℕ → List Tagged → Type 0
  Below k [] = ⊤
  Below k (x ∷ l) = (x.port < k) × Below k l

  next : (k : ℕ) (x : Tagged) (l : List Tagged) → x.port < k → slice_get (by_sub yields k 0 (x ∷ l)) x.port ≡ Some (x.item ∷ of_sub yields x.port l)
  next k x l h = at_sub k 0 x.port (x ∷ l) h ∙ ap Some (ap (λ j. of_sub yields j (x ∷ l)) (omega arith) ∙ mine x.port x.item l)

  left : (k : ℕ) (x : Tagged) (l : List Tagged) → x.port < k → slice_set (by_sub yields k 0 (x ∷ l)) x.port (of_sub yields x.port l) ≡ by_sub yields k 0 l
  left k x l h =
      let z : 0 + x.port ≡ x.port = omega arith in
      subst (λ j. slice_set (by_sub yields k 0 (tag j x.item ∷ l)) x.port (of_sub yields j l) ≡ by_sub yields k 0 l) z (without k 0 x.port x.item l h)

  -- what is given in order is what the moves give
  pub fifo_gives : (k : ℕ) (l : List Tagged) → Below k l → merge_of (map (λ x. x.port) l) (by_sub yields k 0 l) ≡ l
  fifo_gives k [] b = refl
  fifo_gives k (x ∷ l) b =
      ap (λ o. next_of x.port (by_sub yields k 0 (x ∷ l)) o (merge_of (map (λ y. y.port) l))) (next k x l b.0)
      ∙ ap (λ (ls : List (List Tree)). x ∷ merge_of (map (λ y. y.port) l) ls) (left k x l b.0) ∙ ap (λ (m : List Tagged). x ∷ m) (fifo_gives k l b.1)

  pub fifo_finds : (k : ℕ) (l : List Tagged) → Below k l → Finds (map (λ x. x.port) l) (by_sub yields k 0 l)
  fifo_finds k [] b = tt
  fifo_finds k (x ∷ l) b = (x.item, of_sub yields x.port l, next k x l b.0, subst (Finds (map (λ y. y.port) l)) (sym (left k x l b.0)) (fifo_finds k l b.1))

  grows : (n : ℕ) (l : List Tagged) → n ≤ fold (λ n (x : Tagged). max n (x.port + 1)) n l
  grows n [] = omega arith
  grows n (x ∷ l) = let r = grows (max n (x.port + 1)) l in omega (arith, r)

  below_count : (n k : ℕ) (l : List Tagged) → fold (λ n (x : Tagged). max n (x.port + 1)) n l ≤ k → Below k l
  below_count n k [] h = tt
  below_count n k (x ∷ l) h = let r = grows (max n (x.port + 1)) l in (omega (arith, r, h), below_count (max n (x.port + 1)) k l h)

  pub count_bounds : (l : List Tagged) → Below (sub_count yields l) l
  count_bounds l = below_count 0 (sub_count yields l) l (omega arith)

  -- the same of the first of all outputs that are ready
  pub given_by_moves : (g ready : List Tagged) → IsPrefix g ready → merge_of (map (λ x. x.port) g) (by_sub yields (sub_count yields ready) 0 ready) ≡ g
  given_by_moves g ready p =
      sym (merge_same (map (λ x. x.port) g) (by_sub yields (sub_count yields g) 0 g) (by_sub yields (sub_count yields ready) 0 ready) (by_sub-prefix yields (sub_count yields g) (sub_count yields ready) 0 (sub_count-prefix yields p) p) (fifo_finds (sub_count yields g) g (count_bounds g)))
      ∙ fifo_gives (sub_count yields g) g (count_bounds g)

  -- and those moves find their elements
  pub found_by_moves : (g ready : List Tagged) → IsPrefix g ready → Finds (map (λ x. x.port) g) (by_sub yields (sub_count yields ready) 0 ready)
  found_by_moves g ready p =
      finds_more (map (λ x. x.port) g) (by_sub yields (sub_count yields g) 0 g) (by_sub yields (sub_count yields ready) 0 ready) (by_sub-prefix yields (sub_count yields g) (sub_count yields ready) 0 (sub_count-prefix yields p) p)
      (fifo_finds (sub_count yields g) g (count_bounds g))
