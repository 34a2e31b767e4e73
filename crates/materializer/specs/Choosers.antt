-- The stages of a blueprint that choose, and the moves that each node follows.
use Rattle.std.specs.Prelude.{◌≡◌, ◌≢◌, ◌<◌, ◌≤◌, ◌^◌, ℕ, zero, suc, true, if◌then◌else◌, List, [], ◌∷◌, length, drop, slice_get, Option, Some, None, ⊤}
use Rattle.std.specs.Option.{option_map}
use Rattle.std.specs.declared.vec.Vec.{Vec}
use Rattle.std.specs.declared.alloc.Global.{Global}
use Rattle.stream_model.specs.declared.blueprint.Node.{Node}
use Rattle.stream_model.specs.declared.kind.Kind.{Kind}
use Rattle.stream_model.specs.declared.kind.Kind.TheVariants as kind
use Rattle.stream_model.specs.declared.kind.Policy.{Policy}
use Rattle.stream_model.specs.declared.kind.Policy.TheVariants.{Backpressure}
use Rattle.stream_model.specs.declared.kind.Joining.{Joining}
use Rattle.stream_model.specs.declared.kind.Joining.TheVariants as joining
use Rattle.stream_model.specs.Picks.{all_below, acted}
use Rattle.stage_switch.specs.States.{moves_by}
use Rattle.blue_names.specs.Picks.{picks}
use Rattle.plan_reader.specs.declared.plans.Shape.{Shape}
use Rattle.plan_reader.specs.declared.plans.Shape.TheVariants.{Below, Any, AtMostOne, OrderOf}
use Rattle.plan_reader.specs.declared.plans.Chooser.{Chooser}

-- which moves a buffer may make: it takes an element in, or gives one
abbrev pub drop_shape : Policy → Option Shape
drop_shape Backpressure = None
drop_shape p = Some (Below 2)

-- which moves substreams may make
abbrev pub joined_shape : Joining → Option Shape
joined_shape joining.Merge = Some Any
joined_shape joining.Concat = None

-- which moves a stage of this kind may make, where it chooses: a merge and a balance name one of their ports, and a valve an order of its
-- switch
abbrev pub chooser_shape : Kind → Option Shape
chooser_shape (kind.Merge n) = Some (Below n)
chooser_shape (kind.MergeHub s n) = Some (Below n)
chooser_shape (kind.Balance n) = Some (Below n)
chooser_shape (kind.Buffer n p) = drop_shape p
chooser_shape (kind.Valve switch) = Some (OrderOf switch)
chooser_shape (kind.RecoverNum n) = Some AtMostOne
chooser_shape (kind.RecoverText t) = Some AtMostOne
chooser_shape (kind.GroupBy n f chain) = Some Any
chooser_shape (kind.SplitWhen p chain j) = joined_shape j
chooser_shape (kind.SplitAfter p chain j) = joined_shape j
chooser_shape k = None

-- a node in front of others, where it chooses
abbrev pub with_chooser : List ℕ → Option Shape → List Chooser → List Chooser
with_chooser name None cs = cs
with_chooser name (Some s) cs = record { name = name; shape = s } ∷ cs

-- those of these nodes that choose, in their order
abbrev pub choosers_in : List Node → List Chooser
choosers_in [] = []
choosers_in (n ∷ ns) = with_chooser n.name (chooser_shape n.kind) (choosers_in ns)

-- the moves of a node of this kind, where these are those of it and of the ones behind it: the first of them where it chooses
abbrev pub first_moves : Kind → List (List ℕ) → Option (List ℕ)
first_moves k plans = if picks k then slice_get plans 0 else None

-- and those of the ones behind it
abbrev pub moves_behind : Kind → List (List ℕ) → List (List ℕ)
moves_behind k plans = if picks k then drop 1 plans else plans

-- the moves of each of these nodes, where these are those of the ones that choose, in their order
abbrev pub plans_in : List Node → List (List ℕ) → List (Option (List ℕ))
plans_in [] plans = []
plans_in (n ∷ ns) plans = first_moves n.kind plans ∷ plans_in ns (moves_behind n.kind plans)

-- a stage of this kind may follow these moves
abbrev pub KindMayFollow : Kind → List ℕ → Type 0
KindMayFollow (kind.Merge n) moves = all_below n moves ≡ true
KindMayFollow (kind.MergeHub s n) moves = all_below n moves ≡ true
KindMayFollow (kind.Balance n) moves = all_below n moves ≡ true
KindMayFollow (kind.Buffer n p) moves = (p ≢ Backpressure) × (all_below 2 moves ≡ true)
KindMayFollow (kind.Valve switch) moves = (length moves ≤ 2) × (moves ≡ moves_by (acted moves))
KindMayFollow (kind.RecoverNum n) moves = length moves ≤ 1
KindMayFollow (kind.RecoverText t) moves = length moves ≤ 1
KindMayFollow (kind.GroupBy n f chain) moves = ⊤
KindMayFollow (kind.SplitWhen p chain j) moves = j ≡ joining.Merge
KindMayFollow (kind.SplitAfter p chain j) moves = j ≡ joining.Merge
KindMayFollow k moves = ⊥

-- the moves of a node, where it is handed some
abbrev pub moves_of : Option (Vec ℕ Global) → Option (List ℕ)
moves_of moves = option_map (λ (m : Vec ℕ Global). m.items) moves

-- it follows none, or few enough that it may
abbrev pub PlanFits : Kind → Option (List ℕ) → Type 0
PlanFits k None = ⊤
PlanFits k (Some moves) = (length moves < 2 ^ 32) × KindMayFollow k moves

-- the same of nodes of these kinds, each with its own
abbrev pub PlansFit : List Kind → List (Option (List ℕ)) → Type 0
PlansFit [] [] = ⊤
PlansFit (k ∷ ks) (p ∷ ps) = PlanFits k p × PlansFit ks ps
PlansFit _ _ = ⊥

-- no node follows moves
abbrev pub NoneFollow : List (Option (List ℕ)) → Type 0
NoneFollow [] = ⊤
NoneFollow (p ∷ ps) = (p ≡ None) × NoneFollow ps

-- the moves of node k, where it follows some
abbrev pub plan_at : List (Option (List ℕ)) → ℕ → Option (List ℕ)
plan_at [] k = None
plan_at (p ∷ ps) zero = p
plan_at (p ∷ ps) (suc k) = plan_at ps k
