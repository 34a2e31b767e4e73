-- The types that functions and stages take and give.
use Rattle.std.specs.Prelude.{ℕ, ◌&&◌, Bool, true, false, nat_le, if◌then◌else◌, List, [], ◌∷◌, Option, Some, None}
use Rattle.elem_core.specs.Sort.{Sort, num_type, text_type, seq_type, pair_type, nesting, same_sort}
use Rattle.elem_core.specs.Values.{same_text}
use Rattle.elem_core.specs.declared.function.MapFn.{MapFn}
use Rattle.elem_core.specs.declared.function.MapFn.TheVariants as f
use Rattle.elem_core.specs.declared.function.Pred.{Pred}
use Rattle.elem_core.specs.declared.function.Pred.TheVariants as p
use Rattle.elem_core.specs.declared.function.Expand.{Expand}
use Rattle.elem_core.specs.declared.function.Expand.TheVariants as x
use Rattle.elem_core.specs.declared.function.FoldOp.{FoldOp}
use Rattle.elem_core.specs.declared.function.FoldOp.TheVariants as o
use Rattle.elem_core.specs.declared.function.ReduceOp.{ReduceOp}
use Rattle.elem_core.specs.declared.function.ReduceOp.TheVariants as r
use Rattle.blue_names.specs.declared.want.Want.{Want}
use Rattle.blue_names.specs.declared.want.Want.TheVariants.{Is, AnySeq, AnyPair}

-- the type is one of those that are wanted
abbrev pub suits : Want → Sort → Bool
suits (Is s) t = same_sort s t
suits AnySeq (seq_type t) = true
suits AnySeq _ = false
suits AnyPair (pair_type t u) = true
suits AnyPair _ = false

-- the type of a list's items; any other type is its own
abbrev pub items_type : Sort → Sort
items_type (seq_type t) = t
items_type t = t

-- the type of a pair's left half; any other type is its own
abbrev pub left_type : Sort → Sort
left_type (pair_type t u) = t
left_type t = t

-- the type of a pair's right half; any other type is its own
abbrev pub right_type : Sort → Sort
right_type (pair_type t u) = u
right_type t = t

-- what a function wants; none where it takes every type
abbrev pub map_want : MapFn → Option Want
map_want f.Num = Some (Is text_type)
map_want f.Show = None
map_want f.Len = Some (Is text_type)
map_want (f.Field n) = Some (Is text_type)
map_want (f.Prefix l) = Some (Is text_type)
map_want (f.Suffix l) = Some (Is text_type)
map_want f.First = Some AnyPair
map_want f.Second = Some AnyPair
map_want f.Swap = Some AnyPair
map_want f.Twin = None
map_want f.Size = Some AnySeq
map_want f.Sum = Some (Is (seq_type num_type))
map_want _ = Some (Is num_type)

-- what it gives whatever it takes; none where that depends on what it takes
abbrev pub map_fixed : MapFn → Option Sort
map_fixed f.Show = Some text_type
map_fixed (f.Field n) = Some text_type
map_fixed (f.Prefix l) = Some text_type
map_fixed (f.Suffix l) = Some text_type
map_fixed f.First = None
map_fixed f.Second = None
map_fixed f.Swap = None
map_fixed f.Twin = None
map_fixed _ = Some num_type

-- what it gives for a type that it takes
abbrev pub map_shape : MapFn → Sort → Sort
map_shape f.First t = left_type t
map_shape f.Second t = right_type t
map_shape f.Swap t = pair_type (right_type t) (left_type t)
map_shape _ t = pair_type t t

-- the first type, where there is one, and else the second
abbrev pub fixed_or : Option Sort → Sort → Sort
fixed_or (Some s) t = s
fixed_or None t = t

-- the type that a function gives for one that it takes
abbrev pub map_gives : MapFn → Sort → Sort
map_gives g t = fixed_or (map_fixed g) (map_shape g t)

-- what a predicate wants
abbrev pub pred_want : Pred → Want
pred_want p.Blank = Is text_type
pred_want (p.Has l) = Is text_type
pred_want (p.Starts l) = Is text_type
pred_want (p.Is l) = Is text_type
pred_want p.Numeric = Is text_type
pred_want (p.FieldIs n l) = Is text_type
pred_want _ = Is num_type

-- what an expansion wants
abbrev pub expand_want : Expand → Option Want
expand_want x.Words = Some (Is text_type)
expand_want x.Flat = Some AnySeq
expand_want x.Twice = None

-- the type that an expansion gives whatever it takes, where there is one
abbrev pub expand_fixed : Expand → Option Sort
expand_fixed x.Words = Some text_type
expand_fixed _ = None

-- the type that an expansion gives for one that it takes
abbrev pub expand_gives : Expand → Sort → Sort
expand_gives x.Words t = text_type
expand_gives x.Flat t = items_type t
expand_gives x.Twice t = t

-- what a fold wants
abbrev pub fold_want : FoldOp → Option Want
fold_want o.Sum = Some (Is num_type)
fold_want o.SumNonneg = Some (Is num_type)
fold_want _ = None

-- the type that a fold gives whatever it takes, where there is one
abbrev pub fold_fixed : FoldOp → Option Sort
fold_fixed o.Collect = None
fold_fixed _ = Some num_type

-- the type that a fold gives for one that it takes
abbrev pub fold_gives : FoldOp → Sort → Sort
fold_gives o.Collect t = seq_type t
fold_gives _ t = num_type

-- what a reduction wants
abbrev pub reduce_want : ReduceOp → Option Want
reduce_want r.Sum = Some (Is num_type)
reduce_want _ = None

-- the type that a reduction gives whatever it takes, where there is one
abbrev pub reduce_fixed : ReduceOp → Option Sort
reduce_fixed r.Sum = Some num_type
reduce_fixed _ = None

-- the type that a reduction gives for one that it takes
abbrev pub reduce_gives : ReduceOp → Sort → Sort
reduce_gives r.Sum t = num_type
reduce_gives _ t = t
