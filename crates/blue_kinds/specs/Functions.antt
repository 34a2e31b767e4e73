-- The functions, predicates, expansions and folds that words say. Each definition is a table by the first word; the last
-- row of one table goes on to the next.
use Rattle.std.specs.Prelude.{ℕ, if◌then◌else◌, List, [], ◌∷◌, Option, Some, None, codes}
use Rattle.std.specs.Str.{bytes_eq}
use Rattle.elem_core.specs.declared.function.MapFn.{MapFn}
use Rattle.elem_core.specs.declared.function.MapFn.TheVariants as f
use Rattle.elem_core.specs.declared.function.Pred.{Pred}
use Rattle.elem_core.specs.declared.function.Pred.TheVariants as p
use Rattle.elem_core.specs.declared.function.Expand.{Expand}
use Rattle.elem_core.specs.declared.function.Expand.TheVariants as x
use Rattle.elem_core.specs.declared.function.FoldOp.{FoldOp}
use Rattle.elem_core.specs.declared.function.FoldOp.TheVariants as o
use Rattle.elem_core.specs.declared.function.ReduceOp.{ReduceOp}
use Rattle.elem_core.specs.declared.function.ReduceOp.TheVariants as r
use Rattle.blue_words.specs.Reading.{Reading, said, made, then_read, word, int, count}

-- the value of a fixed word, and the words that are left
abbrev pub said_if : {A : Type 0} → Option A → List (List ℕ) → Reading A
said_if None ws = None
said_if (Some a) ws = said a ws

-- the functions without a place
abbrev pub bare_map : List ℕ → Option MapFn
bare_map w =
    if bytes_eq w (codes "num") then Some f.Num else
    (if bytes_eq w (codes "show") then Some f.Show else
    (if bytes_eq w (codes "neg") then Some f.Neg else
    (if bytes_eq w (codes "abs") then Some f.Abs else
    (if bytes_eq w (codes "nonneg") then Some f.Nonneg else
    (if bytes_eq w (codes "len") then Some f.Len else
    (if bytes_eq w (codes "first") then Some f.First else
    (if bytes_eq w (codes "second") then Some f.Second else
    (if bytes_eq w (codes "swap") then Some f.Swap else
    (if bytes_eq w (codes "twin") then Some f.Twin else
    (if bytes_eq w (codes "size") then Some f.Size else
    (if bytes_eq w (codes "sum") then Some f.Sum else None)))))))))))

-- the functions of texts that have a place
abbrev pub text_map : List ℕ → List (List ℕ) → Reading MapFn
text_map w ws =
    if bytes_eq w (codes "field") then made f.Field (count ws) else
    (if bytes_eq w (codes "prefix") then made f.Prefix (word ws) else
    (if bytes_eq w (codes "suffix") then made f.Suffix (word ws) else said_if (bare_map w) ws))

-- the functions that divide
abbrev pub quotient_map : List ℕ → List (List ℕ) → Reading MapFn
quotient_map w ws =
    if bytes_eq w (codes "div") then made f.Div (int ws) else
    (if bytes_eq w (codes "rem") then made f.Rem (int ws) else
    (if bytes_eq w (codes "div_into") then made f.DivInto (int ws) else text_map w ws))

-- the functions with a number
abbrev pub number_map : List ℕ → List (List ℕ) → Reading MapFn
number_map w ws =
    if bytes_eq w (codes "add") then made f.Add (int ws) else
    (if bytes_eq w (codes "mul") then made f.Mul (int ws) else quotient_map w ws)

-- a function of one element
abbrev pub map_of : List (List ℕ) → Reading MapFn
map_of [] = None
map_of (w ∷ ws) = number_map w ws

-- the predicates without a place
abbrev pub bare_pred : List ℕ → Option Pred
bare_pred w =
    if bytes_eq w (codes "even") then Some p.Even else
    (if bytes_eq w (codes "odd") then Some p.Odd else
    (if bytes_eq w (codes "blank") then Some p.Blank else
    (if bytes_eq w (codes "numeric") then Some p.Numeric else None)))

-- the predicates that compare with a text
abbrev pub whole_pred : List ℕ → List (List ℕ) → Reading Pred
whole_pred w ws =
    if bytes_eq w (codes "is") then made p.Is (word ws) else
    (if bytes_eq w (codes "field_is") then made (λ r. p.FieldIs r.0 r.1) (then_read (count ws) word) else
    said_if (bare_pred w) ws)

-- the predicates on texts that have a place
abbrev pub text_pred : List ℕ → List (List ℕ) → Reading Pred
text_pred w ws =
    if bytes_eq w (codes "has") then made p.Has (word ws) else
    (if bytes_eq w (codes "starts") then made p.Starts (word ws) else whole_pred w ws)

-- the predicates of one number, and of its multiples
abbrev pub exact_pred : List ℕ → List (List ℕ) → Reading Pred
exact_pred w ws =
    if bytes_eq w (codes "eq") then made p.Eq (int ws) else
    (if bytes_eq w (codes "multiple") then made p.Multiple (int ws) else text_pred w ws)

-- the predicates of greater numbers
abbrev pub greater_pred : List ℕ → List (List ℕ) → Reading Pred
greater_pred w ws =
    if bytes_eq w (codes "gt") then made p.Gt (int ws) else
    (if bytes_eq w (codes "ge") then made p.Ge (int ws) else exact_pred w ws)

-- the predicates with a number
abbrev pub number_pred : List ℕ → List (List ℕ) → Reading Pred
number_pred w ws =
    if bytes_eq w (codes "lt") then made p.Lt (int ws) else
    (if bytes_eq w (codes "le") then made p.Le (int ws) else greater_pred w ws)

-- a predicate
abbrev pub pred_of : List (List ℕ) → Reading Pred
pred_of [] = None
pred_of (w ∷ ws) = number_pred w ws

-- an expansion
abbrev pub expand_named : List ℕ → Option Expand
expand_named w =
    if bytes_eq w (codes "words") then Some x.Words else
    (if bytes_eq w (codes "flat") then Some x.Flat else
    (if bytes_eq w (codes "twice") then Some x.Twice else None))

-- a fold's step
abbrev pub fold_named : List ℕ → Option FoldOp
fold_named w =
    if bytes_eq w (codes "sum") then Some o.Sum else
    (if bytes_eq w (codes "sum_nonneg") then Some o.SumNonneg else
    (if bytes_eq w (codes "count") then Some o.Count else
    (if bytes_eq w (codes "collect") then Some o.Collect else None)))

-- a reduction's step
abbrev pub reduce_named : List ℕ → Option ReduceOp
reduce_named w =
    if bytes_eq w (codes "sum") then Some r.Sum else
    (if bytes_eq w (codes "max") then Some r.Max else
    (if bytes_eq w (codes "min") then Some r.Min else None))

-- a fixed word of one of these tables
abbrev pub one_of : {A : Type 0} → (List ℕ → Option A) → List (List ℕ) → Reading A
one_of table [] = None
one_of table (w ∷ ws) = said_if (table w) ws
