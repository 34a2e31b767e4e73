-- What the shape of a kind says: how many inputs it has, and how its type is found.
use Rattle.std.proofs.Common.{◌≡◌, ℕ, Bool, true, false, List, [], ◌∷◌, Option, Some, None, refl, sym, ap, ◌∙◌, subst}
use Rattle.std.specs.Prelude.{if◌then◌else◌, nat_le}
use Rattle.std.specs.Option.{option_or, option_map}
use Rattle.elem_core.specs.Sort.{Sort, num_type, text_type, nesting}
use Rattle.elem_core.specs.declared.function.Expand.{Expand}
use Rattle.elem_core.specs.declared.function.Expand.TheVariants as x
use Rattle.elem_core.specs.declared.function.FoldOp.{FoldOp}
use Rattle.elem_core.specs.declared.function.FoldOp.TheVariants as o
use Rattle.elem_core.specs.declared.function.ReduceOp.{ReduceOp}
use Rattle.elem_core.specs.declared.function.ReduceOp.TheVariants as r
use Rattle.stream_model.specs.declared.kind.Kind.{Kind}
use Rattle.stream_model.specs.declared.kind.Kind.TheVariants.{Lines, Range, Empty, Failed, Map, MapConcat, Fold, Scan, Reduce, Plug, Custom, GroupBy, SplitWhen, SplitAfter, Merge, MergeHub, Concat, Interleave, MergeSorted, Zip, Partition, Unzip}
use Rattle.stream_model.specs.declared.blueprint.ChainDecl.{ChainDecl}
use Rattle.stream_model.specs.declared.head.PlugHead.{PlugHead}
use Rattle.stream_model.specs.Known.{HeadLists}
use Rattle.blue_names.specs.CustomPorts.{custom_head, input_type, kind_inputs}
use Rattle.blue_names.specs.FnTypes.{suits, map_want, map_gives, pred_want, map_fixed, map_shape, fixed_or, expand_fixed, expand_gives, fold_fixed, fold_gives, reduce_fixed, reduce_gives}
use Rattle.blue_names.specs.Rounds.{half_type, first_typed, is_joining, clash_of, is_deep, fixes, attempt, attempt_by}
use Rattle.blue_names.specs.StageTypes.{keyed, chain_typed, chain_named, limited, clash_or, source_type, base_type, stage_want, stage_gives, fixed_type, stage_typed, port_typed, parted, plug_named, plug_gives, plug_fixed}
use Rattle.blue_names.specs.declared.typed.TheConstants.{MAX_NESTING}
use Rattle.blue_names.specs.declared.typed.Typed.{Typed}
use Rattle.blue_names.specs.declared.typed.Typed.TheVariants.{Gives, Clashes, TooDeep}
use Rattle.blue_names.specs.declared.want.Want.{Want}
use Rattle.blue_names.specs.declared.want.Want.TheVariants.{Is}
use Rattle.run_blueprint.specs.Kinds.{is_known, source, joining, zipping, single, hired, shape_of, function_want, port_want, chain_in, StepsTake}
use Rattle.run_blueprint.specs.Types.{TakesSort}

-- ---- inputs and outputs

pub one_input : (heads : HeadLists) (k : Kind) → shape_of k ≡ single → kind_inputs heads k ≡ 1
one_input heads (Merge n) s = cc
one_input heads _ s = cc

pub is_zip : (k : Kind) → shape_of k ≡ zipping → k ≡ Zip
is_zip Zip s = refl
is_zip _ s = cc

pub no_input : (heads : HeadLists) (k : Kind) → shape_of k ≡ source → kind_inputs heads k ≡ 0
no_input heads (Lines name) s = refl
no_input heads _ s = cc

pub hired_is : (k : Kind) → shape_of k ≡ hired → (name : List ℕ) × (k ≡ Custom name)
hired_is (Custom name) s = (name, refl)
hired_is _ s = cc

pub joins : (k : Kind) → shape_of k ≡ joining → is_joining k ≡ true
joins (Merge n) s = refl
joins _ s = cc

pub stands_apart : (k : Kind) → shape_of k ≡ single → is_joining k ≡ false
stands_apart (Merge n) s = cc
stands_apart _ s = cc

pub whole_source : (heads : HeadLists) (k : Kind) (p : ℕ) (t : Sort) → shape_of k ≡ source → half_type heads k p t ≡ t
whole_source heads Unzip p t s = cc
whole_source heads (Custom name) p t s = cc
whole_source heads _ p t s = refl

pub whole_joining : (heads : HeadLists) (k : Kind) (p : ℕ) (t : Sort) → shape_of k ≡ joining → half_type heads k p t ≡ t
whole_joining heads Unzip p t s = cc
whole_joining heads (Custom name) p t s = cc
whole_joining heads _ p t s = refl

pub record SourceType (k : Kind) : Type 0 where
  pub type : Sort
  pub is : source_type k ≡ Some type

pub type_of_source : (k : Kind) → shape_of k ≡ source → SourceType k
type_of_source (Lines name) s = record { type = text_type; is = refl }
type_of_source (Range low high) s = record { type = num_type; is = refl }
type_of_source (Empty b) s = record { type = base_type b; is = refl }
type_of_source (Failed b) s = record { type = base_type b; is = refl }
type_of_source _ s = cc

pub no_source : (k : Kind) (u : Sort) → shape_of k ≡ single → source_type k ≡ Some u → ⊥
no_source (Lines name) u s h = cc
no_source _ u s h = cc

pub no_joining_source : (k : Kind) (u : Sort) → shape_of k ≡ joining → source_type k ≡ Some u → ⊥
no_joining_source (Lines name) u s h = cc
no_joining_source _ u s h = cc

-- ---- a type that is met

pub clash_by : (w : Option Want) (i : ℕ) (t : Sort) (r : Typed) → clash_of i (clash_or w t r) ≡ None → TakesSort w t × (clash_or w t r ≡ r)
clash_by None i t r h = (tt, refl)
clash_by (Some w) i t r h = by_test (suits w t) h
  where
    by_test : (b : Bool) → clash_of i (if b then r else Clashes t w) ≡ None → (b ≡ true) × ((if b then r else Clashes t w) ≡ r)
    by_test true k = (refl, refl)
    by_test false k = cc

limited_by : (b : Bool) (i : ℕ) (t : Sort) → clash_of i (if b then Gives t else TooDeep) ≡ None
limited_by true i t = refl
limited_by false i t = refl

pub limited_meets : (i : ℕ) (t : Sort) → clash_of i (limited t) ≡ None
limited_meets i t = limited_by (nat_le (nesting t) MAX_NESTING) i t

-- what neither clashes nor nests too deep is fixed
pub must_fix : (r : Typed) (i : ℕ) → clash_of i r ≡ None → is_deep (Some r) ≡ false → fixes (Some r) ≡ None → ⊥
must_fix (Gives t) i c d h = cc
must_fix (Clashes t w) i c d h = cc
must_fix TooDeep i c d h = cc

pub record GivesType (r : Typed) : Type 0 where
  pub type : Sort
  pub is : r ≡ Gives type

pub gives_some : (r : Typed) (i : ℕ) → clash_of i r ≡ None → is_deep (Some r) ≡ false → GivesType r
gives_some (Gives t) i c d = record { type = t; is = refl }
gives_some (Clashes t w) i c d = cc
gives_some TooDeep i c d = cc

-- a node with a chain
pub data Chained (k : Kind) : Type 0 where
  chained : shape_of k ≡ single → ((heads : HeadLists) → fixed_type heads k ≡ None) → Chained k
  bare : ((heads : HeadLists) (chains : List ChainDecl) (t : Sort) → StepsTake heads (chain_in chains k) t) → Chained k

pub is_chained : (k : Kind) → Chained k
is_chained (GroupBy n f name) = chained refl (λ heads. refl)
is_chained (SplitWhen p name j) = chained refl (λ heads. refl)
is_chained (SplitAfter p name j) = chained refl (λ heads. refl)
is_chained _ = bare (λ heads chains t. tt)

module _ (heads : HeadLists) (chains : List ChainDecl) where
  -- the function of a node takes what does not clash there
  pub takes : (k : Kind) (i : ℕ) (t : Sort) → is_known heads k ≡ true → clash_of i (stage_typed heads chains k t) ≡ None → TakesSort (function_want heads k) t
  takes (GroupBy n f c) i t a h = (clash_by (map_want f) i t (keyed heads (map_gives f t) (chain_typed heads (chain_named c chains) t)) h).0
  takes (SplitWhen p c j) i t a h = (clash_by (Some (pred_want p)) i t (chain_typed heads (chain_named c chains) t) h).0
  takes (SplitAfter p c j) i t a h = (clash_by (Some (pred_want p)) i t (chain_typed heads (chain_named c chains) t) h).0
  takes (Partition n f) i t a h = (clash_by (map_want f) i t (parted heads (fixed_or (map_fixed f) (map_shape f t)) t) h).0
  takes k i t a h = (clash_by (stage_want heads k) i t (limited (stage_gives heads k t)) h).0

  pub joining_takes : (k : Kind) (p : ℕ) (t : Sort) → is_joining k ≡ true → TakesSort (port_want heads k p) t
  joining_takes (Merge n) p t j = tt
  joining_takes (MergeHub m n) p t j = tt
  joining_takes (Concat n) p t j = tt
  joining_takes (Interleave n s) p t j = tt
  joining_takes MergeSorted p t j = tt
  joining_takes _ p t j = cc

  -- an input takes what neither clashes there nor with the function of its node
  pub port_takes : (k : Kind) (p i : ℕ) (t : Sort) → clash_of i (port_typed heads chains p k t) ≡ None → TakesSort (function_want heads k) t → TakesSort (port_want heads k p) t
  port_takes k p i t h own =
      by (option_map Is (input_type (custom_head heads k) p)) (clash_by (option_map Is (input_type (custom_head heads k) p)) i t (stage_typed heads chains k t) h).0
    where
      by : (o : Option Want) → TakesSort o t → TakesSort (option_or o (function_want heads k)) t
      by None has = own
      by (Some w) has = has

  -- ---- what is tried

  pub source_tries : (k : Kind) (u : Sort) → shape_of k ≡ source → attempt heads chains k [] ≡ Some (Gives u) → ⊥
  source_tries (Lines name) u s h = cc
  source_tries (Range low high) u s h = cc
  source_tries (Empty b) u s h = cc
  source_tries (Failed b) u s h = cc
  source_tries _ u s h = cc

  tries_first : (k : Kind) (os : List (Option Sort)) → shape_of k ≡ single → attempt_by heads chains None k os ≡ option_map (stage_typed heads chains k) (first_typed os)
  tries_first Zip os s = cc
  tries_first (Custom name) os s = cc
  tries_first _ os s = refl

  -- a node that joins gives the first type that comes, where it does not nest too deep
  pub joining_tries : (k : Kind) (os : List (Option Sort)) → shape_of k ≡ joining → attempt heads chains k os ≡ option_map limited (first_typed os)
  joining_tries (Merge n) os s = refl
  joining_tries (MergeHub m n) os s = refl
  joining_tries (Concat n) os s = refl
  joining_tries (Interleave n m) os s = refl
  joining_tries MergeSorted os s = refl
  joining_tries _ os s = cc

  expand_by : (q : Expand) (s t : Sort) → expand_fixed q ≡ Some s → expand_gives q t ≡ s
  expand_by x.Words s t h = cc
  expand_by x.Flat s t h = cc
  expand_by x.Twice s t h = cc

  fold_by : (q : FoldOp) (s t : Sort) → fold_fixed q ≡ Some s → fold_gives q t ≡ s
  fold_by o.Sum s t h = cc
  fold_by o.SumNonneg s t h = cc
  fold_by o.Count s t h = cc
  fold_by o.Collect s t h = cc

  reduce_by : (q : ReduceOp) (s t : Sort) → reduce_fixed q ≡ Some s → reduce_gives q t ≡ s
  reduce_by r.Sum s t h = cc
  reduce_by r.Max s t h = cc
  reduce_by r.Min s t h = cc

  plug_by : (q : Option PlugHead) (s t : Sort) → plug_fixed q ≡ Some s → plug_gives q t ≡ s
  plug_by None s t h = cc
  plug_by (Some p) s t h = cc

  -- a kind with one input that gives one type whatever it takes gives that
  gives_fixed : (k : Kind) (s t : Sort) → shape_of k ≡ single → is_known heads k ≡ true → fixed_type heads k ≡ Some s → stage_gives heads k t ≡ s
  gives_fixed (Map q) s t z a h = ap (λ f. fixed_or f (map_shape q t)) h
  gives_fixed (MapConcat q) s t z a h = expand_by q s t h
  gives_fixed (Fold q) s t z a h = fold_by q s t h
  gives_fixed (Scan q) s t z a h = fold_by q s t h
  gives_fixed (Reduce q) s t z a h = reduce_by q s t h
  gives_fixed (Plug name) s t z a h = plug_by (plug_named name heads.plugs) s t h
  gives_fixed _ s t z a h = cc

  step_fixed : (k : Kind) (s t : Sort) → is_known heads k ≡ true → fixed_type heads k ≡ Some s → stage_typed heads chains k t ≡ clash_or (stage_want heads k) t (limited (stage_gives heads k t))
  step_fixed (GroupBy n f c) s t a h = cc
  step_fixed (SplitWhen p c j) s t a h = cc
  step_fixed (SplitAfter p c j) s t a h = cc
  step_fixed (Partition n f) s t a h = cc
  step_fixed _ s t a h = refl

  stage_fixed : (k : Kind) (s t : Sort) → shape_of k ≡ single → is_known heads k ≡ true → fixed_type heads k ≡ Some s → stage_typed heads chains k t ≡ clash_or (stage_want heads k) t (limited s)
  stage_fixed k s t z a h = step_fixed k s t a h ∙ ap (λ v. clash_or (stage_want heads k) t (limited v)) (gives_fixed k s t z a h)

  module _ (k : Kind) (typed : is_known heads k ≡ true) (shape : shape_of k ≡ single) (i : ℕ) (t : Sort) (met : clash_of i (stage_typed heads chains k t) ≡ None) where
    -- the type of a node with one input is what its kind gives for the type that comes in
    gives_by : (f : Option Sort) → fixed_type heads k ≡ f → (o : Option Sort) (u : Sort) → ((s : Sort) → o ≡ Some s → t ≡ s) → attempt_by heads chains f k (o ∷ []) ≡ Some (Gives u) → stage_typed heads chains k t ≡ Gives u
    gives_by (Some s) e o u same h =
        let is = stage_fixed k s t shape typed e in
        let lim : limited s ≡ Gives u = cc in
        is ∙ (clash_by (stage_want heads k) i t (limited s) (subst (λ v. clash_of i v ≡ None) is met)).1 ∙ lim
    gives_by None e None u same h = let no : option_map (stage_typed heads chains k) (first_typed (None ∷ [])) ≡ Some (Gives u) = sym (tries_first k (None ∷ []) shape) ∙ h in cc
    gives_by None e (Some s) u same h =
        let is : option_map (stage_typed heads chains k) (first_typed (Some s ∷ [])) ≡ Some (Gives u) = sym (tries_first k (Some s ∷ []) shape) ∙ h in
        let gives : stage_typed heads chains k s ≡ Gives u = cc in
        ap (stage_typed heads chains k) (same s refl) ∙ gives

    pub single_gives : (o : Option Sort) (u : Sort) → ((s : Sort) → o ≡ Some s → t ≡ s) → attempt heads chains k (o ∷ []) ≡ Some (Gives u) → stage_typed heads chains k t ≡ Gives u
    single_gives o u same h = gives_by (fixed_type heads k) refl o u same h

    -- a type is given
    pub single_given : fixed_type heads k ≡ None → is_deep (attempt heads chains k (Some t ∷ [])) ≡ false → GivesType (stage_typed heads chains k t)
    single_given f d =
        let is : attempt heads chains k (Some t ∷ []) ≡ Some (stage_typed heads chains k t) = ap (λ o. attempt_by heads chains o k (Some t ∷ [])) f ∙ tries_first k (Some t ∷ []) shape in
        gives_some (stage_typed heads chains k t) i met (subst (λ v. is_deep v ≡ false) is d)

    -- and it is fixed
    fixes_by : (f : Option Sort) → is_deep (attempt_by heads chains f k (Some t ∷ [])) ≡ false → fixes (attempt_by heads chains f k (Some t ∷ [])) ≡ None → ⊥
    fixes_by (Some s) d h = must_fix (limited s) i (limited_meets i s) d h
    fixes_by None d h =
        let is = tries_first k (Some t ∷ []) shape in
        must_fix (stage_typed heads chains k t) i met (subst (λ v. is_deep v ≡ false) is d) (subst (λ v. fixes v ≡ None) is h)

    pub single_fixes : is_deep (attempt heads chains k (Some t ∷ [])) ≡ false → fixes (attempt heads chains k (Some t ∷ [])) ≡ None → ⊥
    single_fixes d h = fixes_by (fixed_type heads k) d h
