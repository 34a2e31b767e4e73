-- What the stages keep between elements, in the words of the model.
use Rattle.std.specs.Prelude.{◌≡◌, ℕ, ◌+◌, true, List, [], ◌∷◌, Option, Some, None, Result, Ok, Err}
use Rattle.elem_core.specs.Tree.{Tree, num, seq, row}
use Rattle.elem_core.specs.Values.{fold_zero, fold_step, reduce_step}
use Rattle.elem_core.specs.declared.function.FoldOp.{FoldOp}
use Rattle.elem_core.specs.declared.function.ReduceOp.{ReduceOp}
use Rattle.elem_core.specs.declared.why.Why.{Why}
use Rattle.elem_core.specs.declared.why.Decider.{Decider}
use Rattle.elem_core.specs.declared.why.Decider.TheVariants.{Stop, Resume, Restart}
use Rattle.stream_model.specs.Machine.{going, broken, adds, refuses}
use Rattle.stream_model.specs.Linear.{Book, Work, Stage, grouping, folding, scanning, reducing, step, finish_of, blame_end, linear}
use Rattle.stream_model.specs.OneWay.{holds_at_end}
use Rattle.step_work.specs.declared.keeping.StateWork.{StateWork}
use Rattle.step_work.specs.declared.keeping.StateWork.TheVariants.{Group, Fold, Reduce, Scan}
use Rattle.step_work.specs.declared.kind.StateKind.{StateKind}
use Rattle.step_work.specs.declared.kind.StateKind.TheVariants as kind
use Rattle.step_work.specs.declared.keeping.KeptAtOnce.{KeptAtOnce}
use Rattle.step_work.specs.declared.keeping.KeptAtOnce.TheVariants as at_once
use Rattle.step_work.specs.declared.keeping.StateReaction.{StateReaction}
use Rattle.step_work.specs.declared.keeping.StateReaction.TheVariants.{Gives, Asks, Fails}

-- the work of what is kept
abbrev pub work_in : StateWork → Work
work_in (Group n held) = grouping n held.items
work_in (Fold o a) = folding o a
work_in (Reduce r a) = reducing r a
work_in (Scan o a) = scanning o a

-- the work that it begins with
abbrev pub begun : StateKind → Work
begun (kind.Group n) = grouping n []
begun (kind.Fold o) = folding o (fold_zero o)
begun (kind.Reduce r) = reducing r None
begun (kind.Scan o) = scanning o (fold_zero o)

-- a stage of this work
abbrev pub stage_of : ℕ → Decider → ℕ → Work → Stage
stage_of node d taken w = record { node = node; decider = d; taken = taken; work = w }

-- they are works of the same machine, and the new one may hold a value behind the end of its input
abbrev pub GoesOn : Work → Work → Type 0
GoesOn old new = ((book : Book) → linear book new ≡ linear book old) × (holds_at_end new ≡ true)

-- a stage of this work and decider gives this for the element t, and has the new work
abbrev pub StepsTo : Decider → Work → Tree → List Tree → Work → Type 0
StepsTo d old t out new = (book : Book) (node taken : ℕ) → step book (stage_of node d taken old) t ≡
    record { gave = out; state = going (stage_of node d (taken + 1) new) }

-- What came of the element t: what is given, and the stage goes on; or it asks again; or it fails, and the element is to blame.
abbrev pub Reacted : Decider → Work → Tree → Work → StateReaction → Type 0
Reacted d old t new (Gives u) = StepsTo d old t (u ∷ []) new × GoesOn old new
Reacted d old t new Asks = StepsTo d old t [] new × GoesOn old new
Reacted d old t new (Fails why) =
    ((book : Book) (node taken : ℕ) → step book (stage_of node d taken old) t ≡ record {
      gave = [];
      state = broken (record { stage = node; nth = taken + 1; why = why });
    }) × GoesOn old new

-- what comes of an element at once, as an outcome
abbrev pub kept_outcome : KeptAtOnce → StateReaction
kept_outcome (at_once.Gives z) = Gives (num z)
kept_outcome at_once.Asks = Asks

-- what the end of the input brings: nothing, a value, or a failure that blames no element
abbrev pub FinishesBy : Work → Result (Option Tree) Why → Type 0
FinishesBy w (Ok None) = (book : Book) (s : Stage) → finish_of book s w ≡ adds []
FinishesBy w (Ok (Some t)) = (book : Book) (s : Stage) → finish_of book s w ≡ adds (t ∷ [])
FinishesBy w (Err why) = (book : Book) (s : Stage) → finish_of book s w ≡ refuses (blame_end s why)

-- the same, and the machine stays the same
abbrev pub Finishes : Work → Work → Result (Option Tree) Why → Type 0
Finishes old new r = FinishesBy old r × GoesOn old new

-- the group that is left at the end, if there is one
abbrev pub last_group : List Tree → Option Tree
last_group [] = None
last_group (t ∷ l) = Some (seq (row (t ∷ l)))

-- the value that a fold goes on from, where its step has none
abbrev pub after_failure : Decider → FoldOp → Tree → Tree
after_failure Stop o a = fold_zero o
after_failure Resume o a = a
after_failure Restart o a = fold_zero o

-- the next value, or why there is none
abbrev pub NextBy : Decider → FoldOp → Tree → Tree → Tree → Option Why → Type 0
NextBy d o a t new None = fold_step o a t ≡ Ok new
NextBy d o a t new (Some why) = (fold_step o a t ≡ Err why) × (new ≡ after_failure d o a)

-- the value that a reduction goes on from, where its step has none
abbrev pub after_reduced : Decider → Tree → Option Tree
after_reduced Stop a = None
after_reduced Resume a = Some a
after_reduced Restart a = None

-- the next value of a reduction; or why there is none, and the value that it goes on from
abbrev pub NextReducedBy : Decider → ReduceOp → Tree → Tree → Option Tree → Option Why → Type 0
NextReducedBy d r a t new None = (next : Tree) × ((reduce_step r a t ≡ Ok next) × (new ≡ Some next))
NextReducedBy d r a t new (Some why) = (reduce_step r a t ≡ Err why) × (new ≡ after_reduced d a)
