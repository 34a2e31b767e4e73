-- Each function gives an element of the type that its table says, for an element of a type that it takes.
use Rattle.std.proofs.Common.{◌≡◌, ℕ, ℤ, pos, ◌+ℤ◌, ◌*ℤ◌, neg_ℤ, Bool, true, false, List, [], ◌∷◌, ◌++◌, map, length, Result, Ok, Err, refl, subst}
use Rattle.std.specs.Prelude.{if◌then◌else◌, int_lt, nat_le}
use Rattle.elem_core.specs.Sort.{Sort, num_type, text_type, seq_type, pair_type}
use Rattle.elem_core.specs.SortLaws.{sort_from_same}
use Rattle.elem_core.specs.Tree.{Tree, num, text, seq, both, items, row}
use Rattle.elem_core.specs.Number.{fitting, number_of}
use Rattle.elem_core.specs.Text.{text_of, words}
use Rattle.elem_core.specs.Order.{tree_cmp}
use Rattle.std.specs.Ordering.{is_gt, is_lt}
use Rattle.elem_core.specs.Values.{short_text, quotient, remainder, magnitude, not_below, sum_of, field_of, as_text, as_number, map_value, expansion, fold_zero, sum_step, fold_step, reduce_step}
use Rattle.elem_core.specs.declared.why.Why.{Why}
use Rattle.elem_core.specs.declared.why.Why.TheVariants.{LineTooLong, Negative}
use Rattle.elem_core.specs.declared.function.MapFn.{MapFn}
use Rattle.elem_core.specs.declared.function.MapFn.TheVariants as f
use Rattle.elem_core.specs.declared.function.Expand.{Expand}
use Rattle.elem_core.specs.declared.function.Expand.TheVariants as x
use Rattle.elem_core.specs.declared.function.FoldOp.{FoldOp}
use Rattle.elem_core.specs.declared.function.FoldOp.TheVariants as o
use Rattle.elem_core.specs.declared.function.ReduceOp.{ReduceOp}
use Rattle.elem_core.specs.declared.function.ReduceOp.TheVariants as r
use Rattle.blue_names.specs.FnTypes.{map_want, map_gives, expand_want, expand_gives, fold_gives, reduce_want, reduce_gives}
use Rattle.run_blueprint.specs.Types.{HasType, AllTyped, TakesSort}
use Rattle.run_blueprint.proofs.Lists.{typed_append, typed_row, typed_if}

-- ---- values of one type, whatever they are

number_typed : (r : Result ℤ Why) (y : Tree) → as_number r ≡ Ok y → HasType num_type y
number_typed (Ok z) y h = let same : num z ≡ y = cc in subst (HasType num_type) same tt
number_typed (Err w) y h = cc

text_typed : (r : Result (List ℕ) Why) (y : Tree) → as_text r ≡ Ok y → HasType text_type y
text_typed (Ok bs) y h = let same : text bs ≡ y = cc in subst (HasType text_type) same tt
text_typed (Err w) y h = cc

short_by : (b : Bool) (bs : List ℕ) (y : Tree) → (if b then Ok (text bs) else Err LineTooLong) ≡ Ok y → HasType text_type y
short_by true bs y h = let same : text bs ≡ y = cc in subst (HasType text_type) same tt
short_by false bs y h = cc

short_typed : (bs : List ℕ) (y : Tree) → short_text bs ≡ Ok y → HasType text_type y
short_typed bs y h = short_by (nat_le (length bs) 65536) bs y h

-- ---- a function of one element

pub map_typed : (g : MapFn) (t : Sort) (e y : Tree) → TakesSort (map_want g) t → HasType t e → map_value g e ≡ Ok y → HasType (map_gives g t) y
map_typed f.Num t (text bs) y w h v = number_typed (number_of bs) y v
map_typed f.Num t _ y w h v = cc
map_typed f.Show t e y w h v = short_typed (text_of e) y v
map_typed (f.Add k) t (num z) y w h v = number_typed (fitting (z +ℤ k)) y v
map_typed (f.Add k) t _ y w h v = cc
map_typed (f.Mul k) t (num z) y w h v = number_typed (fitting (z *ℤ k)) y v
map_typed (f.Mul k) t _ y w h v = cc
map_typed (f.Div k) t (num z) y w h v = number_typed (quotient z k) y v
map_typed (f.Div k) t _ y w h v = cc
map_typed (f.Rem k) t (num z) y w h v = number_typed (remainder z k) y v
map_typed (f.Rem k) t _ y w h v = cc
map_typed (f.DivInto k) t (num z) y w h v = number_typed (quotient k z) y v
map_typed (f.DivInto k) t _ y w h v = cc
map_typed f.Neg t (num z) y w h v = number_typed (fitting (neg_ℤ z)) y v
map_typed f.Neg t _ y w h v = cc
map_typed f.Abs t (num z) y w h v = number_typed (magnitude z) y v
map_typed f.Abs t _ y w h v = cc
map_typed f.Nonneg t (num z) y w h v = number_typed (not_below z) y v
map_typed f.Nonneg t _ y w h v = cc
map_typed f.Len t (text bs) y w h v = number_typed (Ok (pos (length bs))) y v
map_typed f.Len t _ y w h v = cc
map_typed (f.Field n) t (text bs) y w h v = text_typed (field_of bs n) y v
map_typed (f.Field n) t _ y w h v = cc
map_typed (f.Prefix l) t (text bs) y w h v = short_typed (l ++ bs) y v
map_typed (f.Prefix l) t _ y w h v = cc
map_typed (f.Suffix l) t (text bs) y w h v = short_typed (bs ++ l) y v
map_typed (f.Suffix l) t _ y w h v = cc
map_typed f.First (pair_type t u) (both a b) y w h v = let same : a ≡ y = cc in subst (HasType t) same h.0
map_typed f.First (pair_type t u) _ y w h v = cc
map_typed f.First _ e y w h v = cc
map_typed f.Second (pair_type t u) (both a b) y w h v = let same : b ≡ y = cc in subst (HasType u) same h.1
map_typed f.Second (pair_type t u) _ y w h v = cc
map_typed f.Second _ e y w h v = cc
map_typed f.Swap (pair_type t u) (both a b) y w h v = let same : both b a ≡ y = cc in subst (HasType (pair_type u t)) same (h.1, h.0)
map_typed f.Swap (pair_type t u) _ y w h v = cc
map_typed f.Swap _ e y w h v = cc
map_typed f.Twin t e y w h v = let same : both e e ≡ y = cc in subst (HasType (pair_type t t)) same (h, h)
map_typed f.Size t (seq i) y w h v = number_typed (Ok (pos (length (items i)))) y v
map_typed f.Size t _ y w h v = cc
map_typed f.Sum t (seq i) y w h v = number_typed (sum_of (items i)) y v
map_typed f.Sum t _ y w h v = cc

-- ---- a list for each element

texts_typed : (ls : List (List ℕ)) → AllTyped text_type (map text ls)
texts_typed [] = tt
texts_typed (l ∷ ls) = (tt, texts_typed ls)

pub expansion_typed : (g : Expand) (t : Sort) (e : Tree) → TakesSort (expand_want g) t → HasType t e → AllTyped (expand_gives g t) (expansion g e)
expansion_typed x.Words t (text bs) w h = texts_typed (words bs)
expansion_typed x.Words t _ w h = tt
expansion_typed x.Flat (seq_type t) (seq i) w h = h
expansion_typed x.Flat (seq_type t) _ w h = tt
expansion_typed x.Flat _ e w h = cc
expansion_typed x.Twice t e w h = (h, (h, tt))

-- ---- folds

pub zero_typed : (g : FoldOp) (t : Sort) → HasType (fold_gives g t) (fold_zero g)
zero_typed o.Sum t = tt
zero_typed o.SumNonneg t = tt
zero_typed o.Count t = tt
zero_typed o.Collect t = tt

sum_typed : (a e y : Tree) → sum_step a e ≡ Ok y → HasType num_type y
sum_typed (num a) (num z) y v = number_typed (fitting (a +ℤ z)) y v
sum_typed (num a) _ y v = cc
sum_typed _ e y v = cc

nonneg_typed : (b : Bool) (z : ℤ) (y : Tree) → (if b then Err Negative else as_number (fitting z)) ≡ Ok y → HasType num_type y
nonneg_typed true z y v = cc
nonneg_typed false z y v = number_typed (fitting z) y v

pub step_typed : (g : FoldOp) (t : Sort) (a e y : Tree) → HasType (fold_gives g t) a → HasType t e → fold_step g a e ≡ Ok y → HasType (fold_gives g t) y
step_typed o.Sum t a e y k h v = sum_typed a e y v
step_typed o.SumNonneg t (num a) (num z) y k h v = nonneg_typed (int_lt z (pos 0)) (a +ℤ z) y v
step_typed o.SumNonneg t (num a) _ y k h v = cc
step_typed o.SumNonneg t _ e y k h v = cc
step_typed o.Count t (num a) e y k h v = number_typed (fitting (a +ℤ pos 1)) y v
step_typed o.Count t _ e y k h v = cc
step_typed o.Collect t (seq i) e y k h v =
    let same : seq (row (items i ++ e ∷ [])) ≡ y = cc in
    subst (HasType (seq_type t)) same (typed_row t (items i ++ e ∷ []) (typed_append t (items i) (e ∷ []) k (h, tt)))
step_typed o.Collect t _ e y k h v = cc

-- ---- reductions

-- a reduction gives the type that it takes
pub reduced_same : (g : ReduceOp) (t : Sort) → TakesSort (reduce_want g) t → reduce_gives g t ≡ t
reduced_same r.Sum t w = sort_from_same num_type t w
reduced_same r.Max t w = refl
reduced_same r.Min t w = refl

chosen_typed : (t : Sort) (b : Bool) (a e y : Tree) → HasType t a → HasType t e → (if b then e else a) ≡ y → HasType t y
chosen_typed t b a e y k h same = subst (HasType t) same (typed_if t b e a h k)

pub reduced_typed : (g : ReduceOp) (t : Sort) (a e y : Tree) → TakesSort (reduce_want g) t → HasType t a → HasType t e → reduce_step g a e ≡ Ok y → HasType t y
reduced_typed r.Sum t a e y w k h v = subst (λ s. HasType s y) (sort_from_same num_type t w) (sum_typed a e y v)
reduced_typed r.Max t a e y w k h v =
    let same : (if is_gt (tree_cmp e a) then e else a) ≡ y = cc in
    chosen_typed t (is_gt (tree_cmp e a)) a e y k h same
reduced_typed r.Min t a e y w k h v =
    let same : (if is_lt (tree_cmp e a) then e else a) ≡ y = cc in
    chosen_typed t (is_lt (tree_cmp e a)) a e y k h same
