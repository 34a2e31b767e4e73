-- The words of functions, predicates, expansions and folds, each in its one spelling.
use Rattle.std.specs.Prelude.{ℕ, List, [], ◌∷◌, codes}
use Rattle.std.specs.Fmt.{decimal, signed_decimal}
use Rattle.elem_core.specs.declared.function.MapFn.{MapFn}
use Rattle.elem_core.specs.declared.function.MapFn.TheVariants as f
use Rattle.elem_core.specs.declared.function.Pred.{Pred}
use Rattle.elem_core.specs.declared.function.Pred.TheVariants as p
use Rattle.elem_core.specs.declared.function.Expand.{Expand}
use Rattle.elem_core.specs.declared.function.Expand.TheVariants as x
use Rattle.elem_core.specs.declared.function.FoldOp.{FoldOp}
use Rattle.elem_core.specs.declared.function.FoldOp.TheVariants as o
use Rattle.elem_core.specs.declared.function.ReduceOp.{ReduceOp}
use Rattle.elem_core.specs.declared.function.ReduceOp.TheVariants as r

-- the words of a function of one element
abbrev pub map_words : MapFn → List (List ℕ)
map_words f.Num = codes "num" ∷ []
map_words f.Show = codes "show" ∷ []
map_words (f.Add k) = codes "add" ∷ signed_decimal k ∷ []
map_words (f.Mul k) = codes "mul" ∷ signed_decimal k ∷ []
map_words (f.Div k) = codes "div" ∷ signed_decimal k ∷ []
map_words (f.Rem k) = codes "rem" ∷ signed_decimal k ∷ []
map_words (f.DivInto k) = codes "div_into" ∷ signed_decimal k ∷ []
map_words f.Neg = codes "neg" ∷ []
map_words f.Abs = codes "abs" ∷ []
map_words f.Nonneg = codes "nonneg" ∷ []
map_words f.Len = codes "len" ∷ []
map_words (f.Field n) = codes "field" ∷ decimal n ∷ []
map_words (f.Prefix w) = codes "prefix" ∷ w ∷ []
map_words (f.Suffix w) = codes "suffix" ∷ w ∷ []
map_words f.First = codes "first" ∷ []
map_words f.Second = codes "second" ∷ []
map_words f.Swap = codes "swap" ∷ []
map_words f.Twin = codes "twin" ∷ []
map_words f.Size = codes "size" ∷ []
map_words f.Sum = codes "sum" ∷ []

-- the words of a predicate
abbrev pub pred_words : Pred → List (List ℕ)
pred_words p.Even = codes "even" ∷ []
pred_words p.Odd = codes "odd" ∷ []
pred_words (p.Lt k) = codes "lt" ∷ signed_decimal k ∷ []
pred_words (p.Le k) = codes "le" ∷ signed_decimal k ∷ []
pred_words (p.Gt k) = codes "gt" ∷ signed_decimal k ∷ []
pred_words (p.Ge k) = codes "ge" ∷ signed_decimal k ∷ []
pred_words (p.Eq k) = codes "eq" ∷ signed_decimal k ∷ []
pred_words (p.Multiple k) = codes "multiple" ∷ signed_decimal k ∷ []
pred_words p.Blank = codes "blank" ∷ []
pred_words (p.Has w) = codes "has" ∷ w ∷ []
pred_words (p.Starts w) = codes "starts" ∷ w ∷ []
pred_words (p.Is w) = codes "is" ∷ w ∷ []
pred_words p.Numeric = codes "numeric" ∷ []
pred_words (p.FieldIs n w) = codes "field_is" ∷ decimal n ∷ w ∷ []

-- the word of an expansion
abbrev pub expand_word : Expand → List ℕ
expand_word x.Words = codes "words"
expand_word x.Flat = codes "flat"
expand_word x.Twice = codes "twice"

-- the word of a fold's step
abbrev pub fold_word : FoldOp → List ℕ
fold_word o.Sum = codes "sum"
fold_word o.SumNonneg = codes "sum_nonneg"
fold_word o.Count = codes "count"
fold_word o.Collect = codes "collect"

-- the word of a reduction's step
abbrev pub reduce_word : ReduceOp → List ℕ
reduce_word r.Sum = codes "sum"
reduce_word r.Max = codes "max"
reduce_word r.Min = codes "min"
