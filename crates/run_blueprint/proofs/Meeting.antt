-- A function that meets an element of a type that it takes never lacks a value because the element is of another type.
use Rattle.std.proofs.Common.{◌≡◌, ℕ, ℤ, pos, ◌+ℤ◌, ◌*ℤ◌, neg_ℤ, Bool, true, false, List, [], ◌∷◌, ◌++◌, length, Option, Some, None, Result, Ok, Err, refl, sym, subst}
use Rattle.std.specs.Prelude.{if◌then◌else◌, int_lt, int_rem, int_div, nat_le, slice_get}
use Rattle.std.specs.List.{list_all}
use Rattle.std.specs.Option.{ok_or}
use Rattle.std.specs.Ordering.{int_eq}
use Rattle.elem_core.specs.Sort.{Sort, num_type, text_type, seq_type, pair_type}
use Rattle.elem_core.specs.SortLaws.{sort_from_same}
use Rattle.elem_core.specs.Tree.{Tree, num, text, seq, both, Row, items}
use Rattle.elem_core.specs.Number.{fits, fitting}
use Rattle.elem_core.specs.Text.{text_of, words}
use Rattle.elem_core.specs.Values.{short_text, quotient, remainder, not_below, is_number, sum_from, sum_of, field_of, as_text, as_number, map_value, pred_value, is_field, fold_step, reduce_step, part_of}
use Rattle.elem_core.specs.declared.why.Why.{Why}
use Rattle.elem_core.specs.declared.why.Why.TheVariants.{NotANumber, Overflow, DivideByZero, Negative, NoField, LineTooLong}
use Rattle.elem_core.specs.declared.function.MapFn.{MapFn}
use Rattle.elem_core.specs.declared.function.MapFn.TheVariants as f
use Rattle.elem_core.specs.declared.function.Pred.{Pred}
use Rattle.elem_core.specs.declared.function.Pred.TheVariants as p
use Rattle.elem_core.specs.declared.function.FoldOp.{FoldOp}
use Rattle.elem_core.specs.declared.function.FoldOp.TheVariants as o
use Rattle.elem_core.specs.declared.function.ReduceOp.{ReduceOp}
use Rattle.elem_core.specs.declared.function.ReduceOp.TheVariants as r
use Rattle.blue_names.specs.declared.want.Want.TheVariants.{Is, AnySeq, AnyPair}
use Rattle.blue_names.specs.FnTypes.{map_want, map_gives, pred_want, fold_want, fold_gives, reduce_want}
use Rattle.run_blueprint.specs.Types.{HasType, AllTyped, TakesSort}
use Rattle.run_blueprint.proofs.Functions.{map_typed}

-- ---- an element of a type that is wanted, by its form

by_number : (P : Tree → Type 0) → ((z : ℤ) → P (num z)) → (t : Sort) (x : Tree) → TakesSort (Some (Is num_type)) t → HasType t x → P x
by_number P g t x w h = go x (subst (λ s. HasType s x) (sym (sort_from_same num_type t w)) h)
  where
    go : (y : Tree) → HasType num_type y → P y
    go (num z) k = g z
    go _ k = absurd k

by_text : (P : Tree → Type 0) → ((bs : List ℕ) → P (text bs)) → (t : Sort) (x : Tree) → TakesSort (Some (Is text_type)) t → HasType t x → P x
by_text P g t x w h = go x (subst (λ s. HasType s x) (sym (sort_from_same text_type t w)) h)
  where
    go : (y : Tree) → HasType text_type y → P y
    go (text bs) k = g bs
    go _ k = absurd k

by_pair : (P : Tree → Type 0) → ((a b : Tree) → P (both a b)) → (t : Sort) (x : Tree) → TakesSort (Some AnyPair) t → HasType t x → P x
by_pair P g (pair_type t u) (both a b) w h = g a b
by_pair P g (pair_type t u) _ w h = absurd h
by_pair P g _ x w h = cc

by_list : (P : Tree → Type 0) → ((i : Row) → P (seq i)) → (t : Sort) (x : Tree) → TakesSort (Some AnySeq) t → HasType t x → P x
by_list P g (seq_type t) (seq i) w h = g i
by_list P g (seq_type t) _ w h = absurd h
by_list P g _ x w h = cc

-- ---- answers that say nothing of a number

-- the answer is not that the element is no number
abbrev Says : {T : Type 0} → Result T Why → Type 0
Says a = a ≡ Err NotANumber → ⊥

says_if : {T : Type 0} (b : Bool) (x y : Result T Why) → Says x → Says y → Says (if b then x else y)
says_if true x y h k = h
says_if false x y h k = k

says_ok : {T : Type 0} (x : T) → Says (Ok x)
says_ok x h = cc

says_number : (a : Result ℤ Why) → Says a → Says (as_number a)
says_number (Ok z) s h = cc
says_number (Err w) s h = let same : Result.Err w ≡ Err NotANumber = cc in s same

says_text : (a : Result (List ℕ) Why) → Says a → Says (as_text a)
says_text (Ok bs) s h = cc
says_text (Err w) s h = let same : Result.Err w ≡ Err NotANumber = cc in s same

fitting_says : (z : ℤ) → Says (fitting z)
fitting_says z = says_if (fits z) (Ok z) (Err Overflow) (λ h. cc) (λ h. cc)

number_says : (z : ℤ) → Says (as_number (fitting z))
number_says z = says_number (fitting z) (fitting_says z)

quotient_says : (x y : ℤ) → Says (quotient x y)
quotient_says x y = says_if (int_eq y (pos 0)) (Err DivideByZero) (fitting (int_div x y)) (λ h. cc) (fitting_says (int_div x y))

remainder_says : (x y : ℤ) → Says (remainder x y)
remainder_says x y =
    says_if (int_eq y (pos 0)) (Err DivideByZero) (if fits (int_div x y) then Ok (int_rem x y) else Err Overflow) (λ h. cc)
    (says_if (fits (int_div x y)) (Ok (int_rem x y)) (Err Overflow) (λ h. cc) (λ h. cc))

not_below_says : (x : ℤ) → Says (not_below x)
not_below_says x = says_if (int_lt x (pos 0)) (Err Negative) (Ok x) (λ h. cc) (λ h. cc)

short_says : (bs : List ℕ) → Says (short_text bs)
short_says bs = says_if (nat_le (length bs) 65536) (Ok (text bs)) (Err LineTooLong) (λ h. cc) (λ h. cc)

field_by : (w : Option (List ℕ)) → Says (ok_or w NoField)
field_by None h = cc
field_by (Some bs) h = cc

field_says : (bs : List ℕ) (n : ℕ) → Says (field_of bs n)
field_says bs n = field_by (slice_get (words bs) n)

numbers_all : (ts : List Tree) → AllTyped num_type ts → list_all is_number ts ≡ true
numbers_all [] h = refl
numbers_all (num z ∷ ts) h = numbers_all ts h.1
numbers_all (_ ∷ ts) h = absurd h.0

sum_says : (acc : ℤ) (ts : List Tree) → AllTyped num_type ts → Says (sum_from acc ts)
sum_says acc [] h = says_ok acc
sum_says acc (num z ∷ ts) h = says_if (fits (acc +ℤ z)) (sum_from (acc +ℤ z) ts) (Err Overflow) (sum_says (acc +ℤ z) ts h.1) (λ k. cc)
sum_says acc (_ ∷ ts) h = absurd h.0

sum_of_says : (ts : List Tree) → AllTyped num_type ts → Says (sum_of ts)
sum_of_says ts h = rw (numbers_all ts h) (sum_says (pos 0) ts h)

by_numbers : (P : Tree → Type 0) → ((i : Row) → AllTyped num_type (items i) → P (seq i)) → (t : Sort) (x : Tree) → TakesSort (Some (Is (seq_type num_type))) t → HasType t x → P x
by_numbers P g t x w h = go x (subst (λ s. HasType s x) (sym (sort_from_same (seq_type num_type) t w)) h)
  where
    go : (y : Tree) → HasType (seq_type num_type) y → P y
    go (seq i) k = g i k
    go _ k = absurd k

-- ---- functions

-- only the number that a text is may be wanting
pub map_meets : (g : MapFn) (t : Sort) (x : Tree) → TakesSort (map_want g) t → HasType t x → map_value g x ≡ Err NotANumber → g ≡ f.Num
map_meets f.Num t x w h = λ e. refl
map_meets f.Show t x w h = λ e. absurd (short_says (text_of x) e)
map_meets (f.Add k) t x w h = by_number (λ y. map_value (f.Add k) y ≡ Err NotANumber → f.Add k ≡ f.Num) (λ z e. absurd (number_says (z +ℤ k) e)) t x w h
map_meets (f.Mul k) t x w h = by_number (λ y. map_value (f.Mul k) y ≡ Err NotANumber → f.Mul k ≡ f.Num) (λ z e. absurd (number_says (z *ℤ k) e)) t x w h
map_meets (f.Div k) t x w h = by_number (λ y. map_value (f.Div k) y ≡ Err NotANumber → f.Div k ≡ f.Num) (λ z e. absurd (says_number (quotient z k) (quotient_says z k) e)) t x w h
map_meets (f.Rem k) t x w h = by_number (λ y. map_value (f.Rem k) y ≡ Err NotANumber → f.Rem k ≡ f.Num) (λ z e. absurd (says_number (remainder z k) (remainder_says z k) e)) t x w h
map_meets (f.DivInto k) t x w h = by_number (λ y. map_value (f.DivInto k) y ≡ Err NotANumber → f.DivInto k ≡ f.Num) (λ z e. absurd (says_number (quotient k z) (quotient_says k z) e)) t x w h
map_meets f.Neg t x w h = by_number (λ y. map_value f.Neg y ≡ Err NotANumber → f.Neg ≡ f.Num) (λ z e. absurd (number_says (neg_ℤ z) e)) t x w h
map_meets f.Abs t x w h = by_number (λ y. map_value f.Abs y ≡ Err NotANumber → f.Abs ≡ f.Num) (λ z e. absurd (number_says (if int_lt z (pos 0) then neg_ℤ z else z) e)) t x w h
map_meets f.Nonneg t x w h = by_number (λ y. map_value f.Nonneg y ≡ Err NotANumber → f.Nonneg ≡ f.Num) (λ z e. absurd (says_number (not_below z) (not_below_says z) e)) t x w h
map_meets f.Len t x w h = by_text (λ y. map_value f.Len y ≡ Err NotANumber → f.Len ≡ f.Num) (λ bs e. cc) t x w h
map_meets (f.Field n) t x w h = by_text (λ y. map_value (f.Field n) y ≡ Err NotANumber → f.Field n ≡ f.Num) (λ bs e. absurd (says_text (field_of bs n) (field_says bs n) e)) t x w h
map_meets (f.Prefix l) t x w h = by_text (λ y. map_value (f.Prefix l) y ≡ Err NotANumber → f.Prefix l ≡ f.Num) (λ bs e. absurd (short_says (l ++ bs) e)) t x w h
map_meets (f.Suffix l) t x w h = by_text (λ y. map_value (f.Suffix l) y ≡ Err NotANumber → f.Suffix l ≡ f.Num) (λ bs e. absurd (short_says (bs ++ l) e)) t x w h
map_meets f.First t x w h = by_pair (λ y. map_value f.First y ≡ Err NotANumber → f.First ≡ f.Num) (λ a b e. cc) t x w h
map_meets f.Second t x w h = by_pair (λ y. map_value f.Second y ≡ Err NotANumber → f.Second ≡ f.Num) (λ a b e. cc) t x w h
map_meets f.Swap t x w h = by_pair (λ y. map_value f.Swap y ≡ Err NotANumber → f.Swap ≡ f.Num) (λ a b e. cc) t x w h
map_meets f.Twin t x w h = λ e. cc
map_meets f.Size t x w h = by_list (λ y. map_value f.Size y ≡ Err NotANumber → f.Size ≡ f.Num) (λ i e. cc) t x w h
map_meets f.Sum t x w h = by_numbers (λ y. map_value f.Sum y ≡ Err NotANumber → f.Sum ≡ f.Num) (λ i k e. absurd (says_number (sum_of (items i)) (sum_of_says (items i) k) e)) t x w h

is_field_says : (a : Result (List ℕ) Why) (v : List ℕ) → Says a → Says (is_field a v)
is_field_says (Ok bs) v s h = cc
is_field_says (Err w) v s h = let same : Result.Err w ≡ Err NotANumber = cc in s same

-- a predicate always says whether an element passes, or why not
pub pred_meets : (q : Pred) (t : Sort) (x : Tree) → TakesSort (Some (pred_want q)) t → HasType t x → Says (pred_value q x)
pred_meets p.Even t x w h = by_number (λ y. Says (pred_value p.Even y)) (λ z e. cc) t x w h
pred_meets p.Odd t x w h = by_number (λ y. Says (pred_value p.Odd y)) (λ z e. cc) t x w h
pred_meets (p.Lt k) t x w h = by_number (λ y. Says (pred_value (p.Lt k) y)) (λ z e. cc) t x w h
pred_meets (p.Le k) t x w h = by_number (λ y. Says (pred_value (p.Le k) y)) (λ z e. cc) t x w h
pred_meets (p.Gt k) t x w h = by_number (λ y. Says (pred_value (p.Gt k) y)) (λ z e. cc) t x w h
pred_meets (p.Ge k) t x w h = by_number (λ y. Says (pred_value (p.Ge k) y)) (λ z e. cc) t x w h
pred_meets (p.Eq k) t x w h = by_number (λ y. Says (pred_value (p.Eq k) y)) (λ z e. cc) t x w h
pred_meets (p.Multiple k) t x w h =
    by_number (λ y. Says (pred_value (p.Multiple k) y))
    (λ z. says_if (int_eq k (pos 0)) (Err DivideByZero) (Ok (int_eq (int_rem z k) (pos 0))) (λ e. cc) (λ e. cc)) t x w h
pred_meets p.Blank t x w h = by_text (λ y. Says (pred_value p.Blank y)) (λ bs e. cc) t x w h
pred_meets (p.Has l) t x w h = by_text (λ y. Says (pred_value (p.Has l) y)) (λ bs e. cc) t x w h
pred_meets (p.Starts l) t x w h = by_text (λ y. Says (pred_value (p.Starts l) y)) (λ bs e. cc) t x w h
pred_meets (p.Is l) t x w h = by_text (λ y. Says (pred_value (p.Is l) y)) (λ bs e. cc) t x w h
pred_meets p.Numeric t x w h = by_text (λ y. Says (pred_value p.Numeric y)) (λ bs e. cc) t x w h
pred_meets (p.FieldIs n l) t x w h = by_text (λ y. Says (pred_value (p.FieldIs n l) y)) (λ bs. is_field_says (field_of bs n) l (field_says bs n)) t x w h

-- ---- steps

-- the value so far is a number
of_number : (P : Tree → Type 0) → ((z : ℤ) → P (num z)) → (a : Tree) → HasType num_type a → P a
of_number P g (num z) k = g z
of_number P g _ k = absurd k

pub step_meets : (g : FoldOp) (t : Sort) (a x : Tree) → TakesSort (fold_want g) t → HasType (fold_gives g t) a → HasType t x → Says (fold_step g a x)
step_meets o.Sum t a x w k h = of_number (λ b. Says (fold_step o.Sum b x)) (λ z. by_number (λ y. Says (fold_step o.Sum (num z) y)) (λ v. number_says (z +ℤ v)) t x w h) a k
step_meets o.SumNonneg t a x w k h =
    of_number (λ b. Says (fold_step o.SumNonneg b x))
    (λ z. by_number (λ y. Says (fold_step o.SumNonneg (num z) y)) (λ v. says_if (int_lt v (pos 0)) (Err Negative) (as_number (fitting (z +ℤ v))) (λ e. cc) (number_says (z +ℤ v))) t x w h) a k
step_meets o.Count t a x w k h = of_number (λ b. Says (fold_step o.Count b x)) (λ z. number_says (z +ℤ pos 1)) a k
step_meets o.Collect t (seq i) x w k h = λ e. cc
step_meets o.Collect t _ x w k h = absurd k

pub reduce_meets : (g : ReduceOp) (t : Sort) (a x : Tree) → TakesSort (reduce_want g) t → HasType t a → HasType t x → Says (reduce_step g a x)
reduce_meets r.Sum t a x w k h = by_number (λ b. Says (reduce_step r.Sum b x)) (λ z. by_number (λ y. Says (reduce_step r.Sum (num z) y)) (λ v. number_says (z +ℤ v)) t x w h) t a w k
reduce_meets r.Max t a x w k h = λ e. cc
reduce_meets r.Min t a x w k h = λ e. cc

-- ---- the part of a partition

part_says : (n : ℕ) (a : Result Tree Why) → ((y : Tree) → a ≡ Ok y → HasType num_type y) → part_of n a ≡ Err NotANumber → a ≡ Err NotANumber
part_says n (Ok (num z)) k e = cc
part_says n (Ok (text bs)) k e = absurd (k (text bs) refl)
part_says n (Ok (seq i)) k e = absurd (k (seq i) refl)
part_says n (Ok (both a b)) k e = absurd (k (both a b) refl)
part_says n (Err w) k e = cc

pub part_meets : (n : ℕ) (g : MapFn) (t : Sort) (x : Tree) → TakesSort (map_want g) t → map_gives g t ≡ num_type → HasType t x → part_of n (map_value g x) ≡ Err NotANumber → g ≡ f.Num
part_meets n g t x w num_is h e = map_meets g t x w h (part_says n (map_value g x) (λ y v. subst (λ s. HasType s y) num_is (map_typed g t x y w h v)) e)
