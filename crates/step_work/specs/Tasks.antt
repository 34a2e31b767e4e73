-- The tasks of the linear stages, in the words of the model.
use Rattle.std.specs.Prelude.{◌≡◌, ◌<◌, ⊤, Bool, true, false, [], ◌∷◌}
use Rattle.elem_core.specs.Tree.{Tree, num}
use Rattle.stream_model.specs.Linear.{Book, Work, mapping, filtering, taking, taking_while, dropping, dropping_while, passing, limiting, grouping, folding, scanning, reducing, heading, lasting, numbering, expanding, gives, ends, blames, breaks, reaction, holds, restarted, first_of, linear}
use Rattle.stream_model.specs.OneWay.{holds_at_end}
use Rattle.elem_core.specs.declared.function.Pred.{Pred}
use Rattle.step_work.specs.declared.task.LinearWork.{LinearWork}
use Rattle.step_work.specs.declared.task.LinearWork.TheVariants.{Map, Filter, FilterNot, Take, TakeWhile, Drop, DropWhile, Limit, Expand}
use Rattle.step_work.specs.declared.task.AtOnce.{AtOnce}
use Rattle.step_work.specs.declared.task.AtOnce.TheVariants as at_once
use Rattle.step_work.specs.declared.task.LinearReaction.{LinearReaction}
use Rattle.step_work.specs.declared.task.LinearReaction.TheVariants.{Gives, GivesAll, Skips, EndsWith, EndsWithAll, Ends, Blames, Fails}

-- a drop_while passes every element once it gave one
abbrev pub dropping_by : Pred → Bool → Work
dropping_by p true = passing
dropping_by p false = dropping_while p

-- the work of a task
abbrev pub work_in : LinearWork → Work
work_in (Map f) = mapping f
work_in (Filter p) = filtering p true
work_in (FilterNot p) = filtering p false
work_in (Take n) = taking n
work_in (TakeWhile p) = taking_while p
work_in (Drop n) = dropping n
work_in (DropWhile p passes) = dropping_by p passes
work_in (Limit n) = limiting n
work_in (Expand x) = expanding x

-- it is a work of these stages, and a take has an element to take
abbrev pub HasMore : Work → Type 0
HasMore (taking n) = 0 < n
HasMore (grouping n held) = ⊥
HasMore (folding o a) = ⊥
HasMore (scanning o a) = ⊥
HasMore (reducing r a) = ⊥
HasMore heading = ⊥
HasMore (lasting a) = ⊥
HasMore (numbering n f i) = ⊥
HasMore _ = ⊤

-- they are works of the same machine
abbrev pub SameMachine : Work → Work → Type 0
SameMachine old new = (book : Book) → linear book new ≡ linear book old

-- the stage goes on with this work: there is more to do, and it is the same machine
abbrev pub GoesOn : Work → Work → Type 0
GoesOn old new = HasMore new × SameMachine old new

-- the outputs of one element are held, also behind the end of the input
abbrev pub Spreads : Work → Type 0
Spreads w = (holds w ≡ true) × (holds_at_end w ≡ true)

-- the work stays as it was, and has no state to begin again
abbrev pub Stays : Work → Work → Type 0
Stays old new = (new ≡ old) × ((restarted old ≡ old) × (first_of old ≡ []))

-- What came of the element t by a book of plugs, as the model's reaction: what is given, and the stage goes on; or that it ends;
-- or why the function has no value, at which the work stays as it was; or why the stage fails, whatever its decider.
abbrev pub ReactedBy : Book → Work → Tree → Work → LinearReaction → Type 0
ReactedBy book old t new (Gives u) = (reaction book old t ≡ gives (u ∷ []) new) × GoesOn old new
ReactedBy book old t new (GivesAll us) = (reaction book old t ≡ gives us new) × (GoesOn old new × Spreads new)
ReactedBy book old t new Skips = (reaction book old t ≡ gives [] new) × GoesOn old new
ReactedBy book old t new (EndsWith u) = (reaction book old t ≡ ends (u ∷ [])) × SameMachine old new
ReactedBy book old t new (EndsWithAll us) = (reaction book old t ≡ ends us) × (SameMachine old new × (Spreads old × Spreads new))
ReactedBy book old t new Ends = (reaction book old t ≡ ends []) × SameMachine old new
ReactedBy book old t new (Blames why) = (reaction book old t ≡ blames why) × Stays old new
ReactedBy book old t new (Fails why) = (reaction book old t ≡ breaks why) × SameMachine old new

-- the same by every book, since the task asks none
abbrev pub Reacted : Work → Tree → Work → LinearReaction → Type 0
Reacted old t new o = (book : Book) → ReactedBy book old t new o

-- what comes of an element of this task may not be known at once
abbrev pub IsUnsaid : LinearWork → Type 0
IsUnsaid (Map f) = ⊤
IsUnsaid (Filter p) = ⊥
IsUnsaid (FilterNot p) = ⊥
IsUnsaid (Take n) = ⊥
IsUnsaid (TakeWhile p) = ⊤
IsUnsaid (Drop n) = ⊥
IsUnsaid (DropWhile p passes) = ⊤
IsUnsaid (Limit n) = n ≡ 0
IsUnsaid (Expand x) = ⊤

-- what comes of the element t at once, as an outcome
abbrev pub outcome_of : AtOnce → Tree → LinearReaction
outcome_of at_once.Passes t = Gives t
outcome_of (at_once.Gives z) t = Gives (num z)
outcome_of at_once.Skips t = Skips
outcome_of at_once.PassesLast t = EndsWith t
outcome_of (at_once.Blames why) t = Blames why
