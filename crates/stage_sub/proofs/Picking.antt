-- What is taken of outputs by the number of a substream: of each substream, what was given and what is held.
use Rattle.std.specs.Prelude.{◌==◌, if◌then◌else◌, cond, slice_index_or, take, Option, None, Some}
use Rattle.std.specs.List.{remove, filter}
use Rattle.std.specs.Option.{option_map}
use Rattle.std.proofs.Common.{◌≡◌, ℕ, zero, suc, ◌+◌, ◌<◌, Bool, true, false, List, [], ◌∷◌, ◌++◌, map, length, refl, sym, ap, ◌∙◌, subst, arith, append_assoc, append-nil}
use Rattle.std.proofs.lemmas.Bool.Decides.{nat_tests}
use Rattle.std.proofs.lemmas.List.{length-append}
use Rattle.std.proofs.lemmas.List.Sums.{sum_by-cons}
use Rattle.elem_core.specs.Tree.{Tree}
use Rattle.elem_core.specs.Prefix.{IsPrefix}
use Rattle.stream_model.specs.FanIn.{Tagged}
use Rattle.stream_model.specs.Outlook.{End}
use Rattle.stream_model.specs.Machine.{Given}
use Rattle.stream_model.specs.Substreams.{of_sub}
use Rattle.stream_model.specs.Picks.{count_of}
use Rattle.stage_core.proofs.Flags.{same, other}
use Rattle.stage_sub.specs.declared.outputs.Output.{Output}
use Rattle.stage_sub.specs.Outputs.{tagged, all_tagged}
use Rattle.stage_sub.specs.Picking.{kept_ahead, first_by, first_of_sub, first_kept, of_number}
use Rattle.stage_sub.specs.Handling.{ports_given}
use Rattle.stage_sub.specs.LedLaws.{Shares, BeginsEach}

inside : {X : Type 0} (a b : X) → Some a ≡ Some b → a ≡ b
inside a b h = cc

equal_of : (a b : ℕ) → (a == b) ≡ true → a ≡ b
equal_of a b e = grind (arith, nat_tests)

-- ---- of each substream

pub of_append : (n : ℕ) (a b : List Tagged) → of_number n (a ++ b) ≡ of_number n a ++ of_number n b
of_append n [] b = refl
of_append n (x ∷ a) b = by_flag (x.port == n) (of_append n a b)
  where
    by_flag : (k : Bool) → of_number n (a ++ b) ≡ of_number n a ++ of_number n b → (if k then x ∷ of_number n (a ++ b) else of_number n (a ++ b)) ≡ (if k then x ∷ of_number n a else of_number n a) ++ of_number n b
    by_flag true h = ap (λ (l : List Tagged). x ∷ l) h
    by_flag false h = h

-- x was taken out of l, the first of its substream, and r is left
pub record TakenOut (l : List Tagged) (x : Tagged) (r : List Tagged) : Type 0 where
  pub same : (n : ℕ) → of_number n l ≡ of_number n (x ∷ []) ++ of_number n r
  pub long : length l ≡ suc (length r)

record Found (m : ℕ) (l : List Tagged) (x : Tagged) (r : List Tagged) : Type 0 where
  port : x.port ≡ m
  out : TakenOut l x r

one_first : (n : ℕ) (x : Tagged) (r : List Tagged) → of_number n (x ∷ r) ≡ of_number n (x ∷ []) ++ of_number n r
one_first n x r = of_append n (x ∷ []) r

here_found : (m : ℕ) (y x : Tagged) (q r : List Tagged) → (y.port == m) ≡ true → y ≡ x → q ≡ r → Found m (y ∷ q) x r
here_found m y x q r e a b =
    let k : y.port ≡ m = equal_of y.port m e in
    rw (sym a, sym b) (record { port = k; out = record { same = λ n. one_first n y q; long = refl } })

-- one more in front, of another substream
swapped : (n m : ℕ) (y x : Tagged) (q r : List Tagged) → (y.port == m) ≡ false → x.port ≡ m → of_number n q ≡ of_number n (x ∷ []) ++ of_number n r → of_number n (y ∷ q) ≡ of_number n (x ∷ []) ++ of_number n (y ∷ r)
swapped n m y x q r e p h = by_flags (y.port == n) (x.port == n) refl refl
  where
    by_flags : (a b : Bool) → (y.port == n) ≡ a → (x.port == n) ≡ b → of_number n (y ∷ q) ≡ of_number n (x ∷ []) ++ of_number n (y ∷ r)
    by_flags true true a b = absurd (let k : y.port ≡ m = equal_of y.port n a ∙ sym (equal_of x.port n b) ∙ p in let z : (y.port == m) ≡ true = same y.port m k in let w : true ≡ false = sym z ∙ e in cc)
    by_flags true false a b = let k : of_number n q ≡ of_number n r = (let j = h in rw b at j) in rw (a, b) (ap (λ (l : List Tagged). y ∷ l) k)
    by_flags false true a b = let k : of_number n q ≡ x ∷ of_number n r = (let j = h in rw b at j) in rw (a, b) k
    by_flags false false a b = let k : of_number n q ≡ of_number n r = (let j = h in rw b at j) in rw (a, b) k

away_found : (m : ℕ) (y x : Tagged) (q r : List Tagged) → (y.port == m) ≡ false → Found m q x r → Found m (y ∷ q) x (y ∷ r)
away_found m y x q r e f = record {
  port = f.port;
  out = record { same = λ n. swapped n m y x q r e f.port (f.out.same n); long = ap suc f.out.long };
}

found : (m : ℕ) (q : List Tagged) (x : Tagged) (r : List Tagged) → first_of_sub m q ≡ Some (x, r) → Found m q x r
found m [] x r h = cc
found m (y ∷ q) x r h = by_flag (y.port == m) refl h (λ u s g. found m q u s g)
  where
    by_rest : (o : Option (Tagged × List Tagged)) → first_of_sub m q ≡ o → (y.port == m) ≡ false → ((u : Tagged) (s : List Tagged) → first_of_sub m q ≡ Some (u, s) → Found m q u s) → option_map (kept_ahead y) o ≡ Some (x, r) → Found m (y ∷ q) x r
    by_rest None e k later h = cc
    by_rest (Some z) e k later h =
        let p : kept_ahead y z ≡ (x, r) = inside (kept_ahead y z) (x, r) h in
        let a : z.0 ≡ x = ap (λ (u : Tagged × List Tagged). u.0) p in
        let b : y ∷ z.1 ≡ r = ap (λ (u : Tagged × List Tagged). u.1) p in
        let f : Found m (y ∷ q) z.0 (y ∷ z.1) = away_found m y z.0 q z.1 k (later z.0 z.1 e) in
        subst (λ (l : List Tagged). Found m (y ∷ q) x l) b (subst (λ (u : Tagged). Found m (y ∷ q) u (y ∷ z.1)) a f)

    by_flag : (b : Bool) → (y.port == m) ≡ b → (if b then Some (y, q) else option_map (kept_ahead y) (first_of_sub m q)) ≡ Some (x, r) → ((u : Tagged) (s : List Tagged) → first_of_sub m q ≡ Some (u, s) → Found m q u s) → Found m (y ∷ q) x r
    by_flag true e h later = let p : (y, q) ≡ (x, r) = inside (y, q) (x, r) h in here_found m y x q r e (ap (λ (u : Tagged × List Tagged). u.0) p) (ap (λ (u : Tagged × List Tagged). u.1) p)
    by_flag false e h later = by_rest (first_of_sub m q) refl e later h

pub taken_out : (m : ℕ) (q : List Tagged) (x : Tagged) (r : List Tagged) → first_of_sub m q ≡ Some (x, r) → TakenOut q x r
taken_out m q x r h = (found m q x r h).out

pub taken_port : (m : ℕ) (q : List Tagged) (x : Tagged) (r : List Tagged) → first_of_sub m q ≡ Some (x, r) → x.port ≡ m
taken_port m q x r h = (found m q x r h).port

-- where none is found, none is held
pub none_of : (m : ℕ) (q : List Tagged) → first_of_sub m q ≡ None → of_number m q ≡ []
none_of m [] h = refl
none_of m (y ∷ q) h = by_flag (y.port == m) h (λ e. none_of m q e)
  where
    by_rest : (o : Option (Tagged × List Tagged)) → first_of_sub m q ≡ o → (first_of_sub m q ≡ None → of_number m q ≡ []) → option_map (kept_ahead y) o ≡ None → of_number m q ≡ []
    by_rest None e later k = later e
    by_rest (Some z) e later k = cc

    by_flag : (b : Bool) → (if b then Some (y, q) else option_map (kept_ahead y) (first_of_sub m q)) ≡ None → (first_of_sub m q ≡ None → of_number m q ≡ []) → (if b then y ∷ of_number m q else of_number m q) ≡ []
    by_flag true h later = cc
    by_flag false h later = by_rest (first_of_sub m q) refl later h

-- ---- what is given and what is held

-- once more is ready, and is held
pub shares_more : (ready given held more : List Tagged) → Shares ready given held → Shares (ready ++ more) given (held ++ more)
shares_more ready given held more s = λ n.
    ap (λ (l : List Tagged). of_number n given ++ l) (of_append n held more) ∙ sym (append_assoc (of_number n given) (of_number n held) (of_number n more))
    ∙ ap (λ (l : List Tagged). l ++ of_number n more) (s n) ∙ sym (of_append n ready more)

-- once one was given of what is held
pub shares_given : (ready given held left : List Tagged) (x : Tagged) → Shares ready given held → TakenOut held x left → Shares ready (given ++ x ∷ []) left
shares_given ready given held left x s t = λ n.
    ap (λ (l : List Tagged). l ++ of_number n left) (of_append n given (x ∷ [])) ∙ append_assoc (of_number n given) (of_number n (x ∷ [])) (of_number n left)
    ∙ ap (λ (l : List Tagged). of_number n given ++ l) (sym (t.same n)) ∙ s n

-- what was given begins what is ready
pub shares_begin : (ready given held : List Tagged) → Shares ready given held → BeginsEach ready given
shares_begin ready given held s = λ n. record { rest = of_number n held; is = sym (s n) }

pub begins_more : (ready given more : List Tagged) → BeginsEach ready given → BeginsEach (ready ++ more) given
begins_more ready given more b = λ n.
    let p = b n in
    record { rest = p.rest ++ of_number n more; is = of_append n ready more ∙ ap (λ (l : List Tagged). l ++ of_number n more) p.is ∙ append_assoc (of_number n given) p.rest (of_number n more) }

-- ---- how many there are

-- as many moves name a substream as outputs of it were given
pub count_given : (n : ℕ) (l : List Tagged) → count_of n (ports_given l) ≡ length (of_number n l)
count_given n [] = refl
count_given n (x ∷ l) = by_flag (x.port == n) refl (count_given n l)
  where
    step : count_of n (x.port ∷ ports_given l) ≡ cond (x.port == n) 1 0 + count_of n (ports_given l)
    step = sum_by-cons (λ j. cond (j == n) 1 0) x.port (ports_given l)

    by_flag : (k : Bool) → (x.port == n) ≡ k → count_of n (ports_given l) ≡ length (of_number n l) → count_of n (x.port ∷ ports_given l) ≡ length (if k then x ∷ of_number n l else of_number n l)
    by_flag true e h = let one : ◌≡◌ {A = ℕ} (cond (x.port == n) 1 0) 1 = ap (λ (b : Bool). cond b 1 0) e in let all : count_of n (x.port ∷ ports_given l) ≡ suc (length (of_number n l)) = omega (arith, step, one, h) in all
    by_flag false e h = let none : ◌≡◌ {A = ℕ} (cond (x.port == n) 1 0) 0 = ap (λ (b : Bool). cond b 1 0) e in let all : count_of n (x.port ∷ ports_given l) ≡ length (of_number n l) = omega (arith, step, none, h) in all

-- ---- as outputs are kept

first_tagged : (n : ℕ) (os : List Output) → first_of_sub n (all_tagged os) ≡ option_map (λ (r : Output × List Output). (tagged r.0, all_tagged r.1)) (first_kept n os)
first_tagged n [] = refl
first_tagged n (o ∷ os) = by_flag (o.port == n) (first_tagged n os)
  where
    by_rest : (r : Option (Output × List Output)) → option_map (kept_ahead (tagged o)) (option_map (λ (r : Output × List Output). (tagged r.0, all_tagged r.1)) r) ≡ option_map (λ (r : Output × List Output). (tagged r.0, all_tagged r.1)) (option_map (kept_ahead o) r)
    by_rest None = refl
    by_rest (Some r) = refl

    by_flag : (k : Bool) → first_of_sub n (all_tagged os) ≡ option_map (λ (r : Output × List Output). (tagged r.0, all_tagged r.1)) (first_kept n os)
        → (if k then Some (tagged o, all_tagged os) else option_map (kept_ahead (tagged o)) (first_of_sub n (all_tagged os))) ≡ option_map (λ (r : Output × List Output). (tagged r.0, all_tagged r.1)) (if k then Some (o, os) else option_map (kept_ahead o) (first_kept n os))
    by_flag true h = refl
    by_flag false h = ap (option_map (kept_ahead (tagged o))) h ∙ by_rest (first_kept n os)

pub some_tagged : (n : ℕ) (os : List Output) (o : Output) (rest : List Output) → first_kept n os ≡ Some (o, rest) → first_of_sub n (all_tagged os) ≡ Some (tagged o, all_tagged rest)
some_tagged n os o rest h = first_tagged n os ∙ ap (option_map (λ (r : Output × List Output). (tagged r.0, all_tagged r.1))) h

pub none_tagged : (n : ℕ) (os : List Output) → first_kept n os ≡ None → first_of_sub n (all_tagged os) ≡ None
none_tagged n os h = first_tagged n os ∙ ap (option_map (λ (r : Output × List Output). (tagged r.0, all_tagged r.1))) h

-- ---- where the first of a substream stands

passed : (m : ℕ) (y : Output) (q : List Output) → first_kept m (y ∷ q) ≡ None → ((y.port == m) ≡ false) × (first_kept m q ≡ None)
passed m y q h = by_flag (y.port == m) refl h
  where
    by_rest : (o : Option (Output × List Output)) → first_kept m q ≡ o → option_map (kept_ahead y) o ≡ None → first_kept m q ≡ None
    by_rest None e k = e
    by_rest (Some z) e k = cc

    by_flag : (b : Bool) → (y.port == m) ≡ b → (if b then Some (y, q) else option_map (kept_ahead y) (first_kept m q)) ≡ None → ((y.port == m) ≡ false) × (first_kept m q ≡ None)
    by_flag true e h = cc
    by_flag false e h = (e, by_rest (first_kept m q) refl h)

pub at_place : (m p : ℕ) (q : List Output) (x : Output) → first_kept m (take p q) ≡ None → p < length q → slice_index_or q p x ≡ x → x.port ≡ m → first_kept m q ≡ Some (x, remove q p)
at_place m p [] x h l i e = absurd (omega (arith, l))
at_place m zero (y ∷ q) x h l i e = let b : (y.port == m) ≡ true = same y.port m (ap (λ (z : Output). z.port) i ∙ e) in rw b (ap (λ (z : Output). Some (z, q)) i)
at_place m (suc p) (y ∷ q) x h l i e =
    let b = passed m y (take p q) h in
    let r = at_place m p q x b.1 (omega (arith, l)) i e in
    rw (b.0, r) refl

one_more : (m p : ℕ) (q : List Output) (x : Output) → first_kept m (take p q) ≡ None → p < length q → slice_index_or q p x ≡ x → (x.port ≡ m → ⊥) → first_kept m (take (suc p) q) ≡ None
one_more m p [] x h l i e = absurd (omega (arith, l))
one_more m zero (y ∷ q) x h l i e = let b : (y.port == m) ≡ false = other y.port m (λ k. e (sym (ap (λ (z : Output). z.port) i) ∙ k)) in rw b refl
one_more m (suc p) (y ∷ q) x h l i e =
    let b = passed m y (take p q) h in
    let r = one_more m p q x b.1 (omega (arith, l)) i e in
    rw (b.0, r) refl

pub one_further : (m p : ℕ) (q : List Output) (x : Output) → first_kept m (take p q) ≡ None → p < length q → slice_index_or q p x ≡ x → (x.port ≡ m → ⊥) → first_kept m (take (p + 1) q) ≡ None
one_further m p q x h l i e = let z : p + 1 ≡ suc p = omega arith in rw z (one_more m p q x h l i e)

-- what stands at a place stands there whatever else might
pub same_at : (p : ℕ) (q : List Output) (x d : Output) → p < length q → slice_index_or q p x ≡ x → slice_index_or q p d ≡ x
same_at p [] x d l e = absurd (omega (arith, l))
same_at zero (y ∷ q) x d l e = e
same_at (suc p) (y ∷ q) x d l e = same_at p q x d (omega (arith, l)) e

-- ---- in the words of the model

pub of_sub_number : (yields : List Tree → End → Given Tree) (n : ℕ) (l : List Tagged) → of_sub yields n l ≡ map (λ x. x.item) (of_number n l)
of_sub_number yields n [] = refl
of_sub_number yields n (x ∷ l) = by_flag (x.port == n) (of_sub_number yields n l)
  where
    by_flag : (k : Bool) → of_sub yields n l ≡ map (λ x. x.item) (of_number n l) → map (λ (y : Tagged). y.item) (if k then x ∷ filter (λ y. y.port == n) l else filter (λ y. y.port == n) l) ≡ map (λ (y : Tagged). y.item) (if k then x ∷ of_number n l else of_number n l)
    by_flag true h = ap (λ (t : List Tree). x.item ∷ t) h
    by_flag false h = h
