-- What is chosen of a queue: an element that waits, and the others as they were.
use Rattle.std.specs.Prelude.{◌==◌, if◌then◌else◌, slice_index_or, take, drop, Option, None, Some}
use Rattle.std.specs.List.{remove}
use Rattle.std.specs.Option.{option_map}
use Rattle.std.proofs.Common.{◌≡◌, ℕ, zero, suc, ◌+◌, ◌<◌, Bool, true, false, List, [], ◌∷◌, ◌++◌, length, refl, sym, ap, ◌∙◌, subst, arith}
use Rattle.std.proofs.lemmas.Bool.Decides.{nat_tests}
use Rattle.elem_core.specs.Tree.{Tree}
use Rattle.port_core.specs.Picks.{next_move, MayNote}
use Rattle.port_core.specs.declared.pick_log.Next.TheVariants.{Free, Move, UsedUp}
use Rattle.stage_core.proofs.Flags.{same, other}
use Rattle.stage_merge.specs.declared.merging.Queued.{Queued}
use Rattle.stage_merge.specs.Mergings.{of_port, first_queued, front, goes_next, passes_at_once, kept_before, PortsThere}

-- x was taken out of q, and r is left
pub record TakenOut (q : List Queued) (x : Queued) (r : List Queued) : Type 0 where
  pub same : (n : ℕ) → of_port n q ≡ of_port n (x ∷ r)
  pub there : (over : List Bool) → PortsThere over q → PortsThere over (x ∷ r)

-- what is inside is the same
pub inside : {X : Type 0} (a b : X) → Some a ≡ Some b → a ≡ b
inside a b h = cc

record Found (m : ℕ) (q : List Queued) (x : Queued) (r : List Queued) : Type 0 where
  port : x.port ≡ m
  out : TakenOut q x r

here_found : (m : ℕ) (y x : Queued) (q r : List Queued) → (y.port == m) ≡ true → y ≡ x → q ≡ r → Found m (y ∷ q) x r
here_found m y x q r e a b =
    let k : y.port ≡ m = grind (arith, nat_tests) in
    rw (sym a, sym b) (record { port = k; out = record { same = λ n. refl; there = λ over p. p } })

-- one more in front, of another input
swapped : (n m : ℕ) (y x : Queued) (q r : List Queued) → (y.port == m) ≡ false → x.port ≡ m → of_port n q ≡ of_port n (x ∷ r) → of_port n (y ∷ q) ≡ of_port n (x ∷ y ∷ r)
swapped n m y x q r e p h = by_flags (y.port == n) (x.port == n) refl refl
  where
    by_flags : (a b : Bool) → (y.port == n) ≡ a → (x.port == n) ≡ b → of_port n (y ∷ q) ≡ of_port n (x ∷ y ∷ r)
    by_flags true true a b = absurd (let k : y.port ≡ m = grind (arith, nat_tests) in let z : (y.port == m) ≡ true = same y.port m k in let w : true ≡ false = sym z ∙ e in cc)
    by_flags true false a b = let k : of_port n q ≡ of_port n r = (let j = h in rw b at j) in rw (a, b) (ap (λ (l : List Tree). y.item ∷ l) k)
    by_flags false true a b = let k : of_port n q ≡ x.item ∷ of_port n r = (let j = h in rw b at j) in rw (a, b) k
    by_flags false false a b = let k : of_port n q ≡ of_port n r = (let j = h in rw b at j) in rw (a, b) k

away_found : (m : ℕ) (y x : Queued) (q r : List Queued) → (y.port == m) ≡ false → Found m q x r → Found m (y ∷ q) x (y ∷ r)
away_found m y x q r e f = record {
  port = f.port;
  out = record {
    same = λ n. swapped n m y x q r e f.port (f.out.same n);
    there = λ over p. let s = f.out.there over p.1 in (s.0, (p.0, s.1));
  };
}

found : (m : ℕ) (q : List Queued) (x : Queued) (r : List Queued) → first_queued m q ≡ Some (x, r) → Found m q x r
found m [] x r h = cc
found m (y ∷ q) x r h = by_flag (y.port == m) refl h (λ u s g. found m q u s g)
  where
    by_rest : (o : Option (Queued × List Queued)) → first_queued m q ≡ o → (y.port == m) ≡ false → ((u : Queued) (s : List Queued) → first_queued m q ≡ Some (u, s) → Found m q u s) → option_map (kept_before y) o ≡ Some (x, r) → Found m (y ∷ q) x r
    by_rest None e k later h = cc
    by_rest (Some z) e k later h =
        let p : kept_before y z ≡ (x, r) = inside (kept_before y z) (x, r) h in
        let a : z.0 ≡ x = ap (λ (u : Queued × List Queued). u.0) p in
        let b : y ∷ z.1 ≡ r = ap (λ (u : Queued × List Queued). u.1) p in
        let f : Found m (y ∷ q) z.0 (y ∷ z.1) = away_found m y z.0 q z.1 k (later z.0 z.1 e) in
        subst (λ (l : List Queued). Found m (y ∷ q) x l) b (subst (λ (u : Queued). Found m (y ∷ q) u (y ∷ z.1)) a f)

    by_flag : (b : Bool) → (y.port == m) ≡ b → (if b then Some (y, q) else option_map (kept_before y) (first_queued m q)) ≡ Some (x, r) → ((u : Queued) (s : List Queued) → first_queued m q ≡ Some (u, s) → Found m q u s) → Found m (y ∷ q) x r
    by_flag true e h later = let p : (y, q) ≡ (x, r) = inside (y, q) (x, r) h in here_found m y x q r e (ap (λ (u : Queued × List Queued). u.0) p) (ap (λ (u : Queued × List Queued). u.1) p)
    by_flag false e h later = by_rest (first_queued m q) refl e later h

pub record Choice (plan : Option (List ℕ)) (q : List Queued) (x : Queued) (r : List Queued) : Type 0 where
  pub out : TakenOut q x r
  pub may : MayNote x.port plan

-- what is chosen is one that waits, and may be noted next
pub choice : (plan : Option (List ℕ)) (q : List Queued) (x : Queued) (r : List Queued) → goes_next (next_move plan) q ≡ Some (x, r) → Choice plan q x r
choice None [] x r h = cc
choice None (y ∷ q) x r h =
    let p : (y, q) ≡ (x, r) = inside (y, q) (x, r) h in
    let a : y ≡ x = ap (λ (u : Queued × List Queued). u.0) p in
    let b : q ≡ r = ap (λ (u : Queued × List Queued). u.1) p in
    rw (sym a, sym b) (record { out = record { same = λ n. refl; there = λ over p. p }; may = tt })
choice (Some []) q x r h = cc
choice (Some (m ∷ l)) q x r h = let f = found m q x r h in record { out = f.out; may = sym f.port }

-- where none is found, none waits
pub none_of : (m : ℕ) (q : List Queued) → first_queued m q ≡ None → of_port m q ≡ []
none_of m [] h = refl
none_of m (y ∷ q) h = by_flag (y.port == m) h (λ e. none_of m q e)
  where
    by_rest : (o : Option (Queued × List Queued)) → first_queued m q ≡ o → (first_queued m q ≡ None → of_port m q ≡ []) → option_map (kept_before y) o ≡ None → of_port m q ≡ []
    by_rest None e later k = later e
    by_rest (Some z) e later k = cc

    by_flag : (b : Bool) → (if b then Some (y, q) else option_map (kept_before y) (first_queued m q)) ≡ None → (first_queued m q ≡ None → of_port m q ≡ []) → (if b then y.item ∷ of_port m q else of_port m q) ≡ []
    by_flag true h later = cc
    by_flag false h later = by_rest (first_queued m q) refl later h

-- ---- where it stands

passed : (m : ℕ) (y : Queued) (q : List Queued) → first_queued m (y ∷ q) ≡ None → ((y.port == m) ≡ false) × (first_queued m q ≡ None)
passed m y q h = by_flag (y.port == m) refl h
  where
    by_rest : (o : Option (Queued × List Queued)) → first_queued m q ≡ o → option_map (kept_before y) o ≡ None → first_queued m q ≡ None
    by_rest None e k = e
    by_rest (Some z) e k = cc

    by_flag : (b : Bool) → (y.port == m) ≡ b → (if b then Some (y, q) else option_map (kept_before y) (first_queued m q)) ≡ None → ((y.port == m) ≡ false) × (first_queued m q ≡ None)
    by_flag true e h = cc
    by_flag false e h = (e, by_rest (first_queued m q) refl h)

pub at_place : (m p : ℕ) (q : List Queued) (x : Queued) → first_queued m (take p q) ≡ None → p < length q → slice_index_or q p x ≡ x → x.port ≡ m → first_queued m q ≡ Some (x, remove q p)
at_place m p [] x h l i e = absurd (omega (arith, l))
at_place m zero (y ∷ q) x h l i e = let b : (y.port == m) ≡ true = same y.port m (ap (λ (z : Queued). z.port) i ∙ e) in rw b (ap (λ (z : Queued). Some (z, q)) i)
at_place m (suc p) (y ∷ q) x h l i e =
    let b = passed m y (take p q) h in
    let r = at_place m p q x b.1 (omega (arith, l)) i e in
    rw (b.0, r) refl

one_more : (m p : ℕ) (q : List Queued) (x : Queued) → first_queued m (take p q) ≡ None → p < length q → slice_index_or q p x ≡ x → (x.port ≡ m → ⊥) → first_queued m (take (suc p) q) ≡ None
one_more m p [] x h l i e = absurd (omega (arith, l))
one_more m zero (y ∷ q) x h l i e = let b : (y.port == m) ≡ false = other y.port m (λ k. e (sym (ap (λ (z : Queued). z.port) i) ∙ k)) in rw b refl
one_more m (suc p) (y ∷ q) x h l i e =
    let b = passed m y (take p q) h in
    let r = one_more m p q x b.1 (omega (arith, l)) i e in
    rw (b.0, r) refl

pub one_further : (m p : ℕ) (q : List Queued) (x : Queued) → first_queued m (take p q) ≡ None → p < length q → slice_index_or q p x ≡ x → (x.port ≡ m → ⊥) → first_queued m (take (p + 1) q) ≡ None
one_further m p q x h l i e = let z : p + 1 ≡ suc p = omega arith in rw z (one_more m p q x h l i e)

-- what stands at a place stands there whatever else might
pub same_at : (p : ℕ) (q : List Queued) (x d : Queued) → p < length q → slice_index_or q p x ≡ x → slice_index_or q p d ≡ x
same_at p [] x d l e = absurd (omega (arith, l))
same_at zero (y ∷ q) x d l e = e
same_at (suc p) (y ∷ q) x d l e = same_at p q x d (omega (arith, l)) e

-- ---- what comes where the output is asked

abbrev queued : ℕ → Tree → Queued
queued i t = record { port = i; item = t }

first_behind : (m : ℕ) (q : List Queued) (x : Queued) → first_queued m q ≡ None → (x.port == m) ≡ true → first_queued m (q ++ x ∷ []) ≡ Some (x, q)
first_behind m [] x h e = rw e refl
first_behind m (y ∷ q) x h e =
    let b = passed m y q h in
    let r = first_behind m q x b.1 e in
    rw (b.0, r) refl

none_behind : (m : ℕ) (q : List Queued) (x : Queued) → first_queued m q ≡ None → (x.port == m) ≡ false → first_queued m (q ++ x ∷ []) ≡ None
none_behind m [] x h e = rw e refl
none_behind m (y ∷ q) x h e =
    let b = passed m y q h in
    let r = none_behind m q x b.1 e in
    rw (b.0, r) refl

-- where nothing is chosen and one comes that passes, it is chosen
pub passing_chosen : (plan : Option (List ℕ)) (q : List Queued) (i : ℕ) (t : Tree) → goes_next (next_move plan) q ≡ None → passes_at_once (next_move plan) i ≡ true → goes_next (next_move plan) (q ++ queued i t ∷ []) ≡ Some (queued i t, q)
passing_chosen None [] i t h e = refl
passing_chosen None (y ∷ q) i t h e = cc
passing_chosen (Some []) q i t h e = cc
passing_chosen (Some (m ∷ l)) q i t h e = first_behind m q (queued i t) h e

-- and where it does not pass, none is
pub staying_none : (plan : Option (List ℕ)) (q : List Queued) (i : ℕ) (t : Tree) → goes_next (next_move plan) q ≡ None → passes_at_once (next_move plan) i ≡ false → goes_next (next_move plan) (q ++ queued i t ∷ []) ≡ None
staying_none None q i t h e = cc
staying_none (Some []) q i t h e = refl
staying_none (Some (m ∷ l)) q i t h e = none_behind m q (queued i t) h e

equal_of : (i m : ℕ) → (i == m) ≡ true → i ≡ m
equal_of i m e = grind (arith, nat_tests)

-- one that passes may be noted next
pub passing_may : (plan : Option (List ℕ)) (i : ℕ) → passes_at_once (next_move plan) i ≡ true → MayNote i plan
passing_may None i e = tt
passing_may (Some []) i e = cc
passing_may (Some (m ∷ l)) i e = sym (equal_of i m e)
