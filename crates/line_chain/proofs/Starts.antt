-- How a step stands that has taken nothing.
use Rattle.std.proofs.Common.{◌≡◌, ℕ, zero, suc, true, false, List, [], Option, refl, ap, ◌∙◌}
use Rattle.std.specs.Prelude.{option_to_list}
use Rattle.elem_core.specs.Tree.{Tree}
use Rattle.elem_core.specs.declared.why.Decider.{Decider}
use Rattle.stream_model.specs.Linear.{Work, mapping, filtering, taking, taking_while, dropping, dropping_while, passing, limiting, grouping, expanding, folding, scanning, reducing, heading, lasting, numbering, plugged, first_of, begin_work}
use Rattle.step_work.specs.declared.task.LinearWork.{LinearWork}
use Rattle.step_work.specs.declared.task.LinearWork.TheVariants.{Map, Filter, FilterNot, Take, TakeWhile, Drop, DropWhile, Limit, Expand}
use Rattle.step_work.specs.Tasks as tasks
use Rattle.step_work.specs.declared.ending.StateEnd.{StateEnd}
use Rattle.step_work.specs.declared.ending.StateEnd.TheVariants as ending
use Rattle.step_work.specs.declared.kind.StateKind.{StateKind}
use Rattle.step_work.specs.declared.kind.StateKind.TheVariants.{Group, Fold, Reduce, Scan}
use Rattle.step_work.specs.Keeping as keeping
use Rattle.step_work.specs.Keeping.{stage_of}
use Rattle.step_work.specs.Endings.{state_by}
use Rattle.line_chain.specs.Kinds.{begun_ending}

-- a task gives nothing before any element
pub first_of_task : (t : LinearWork) → [] ≡ first_of (tasks.work_in t)
first_of_task (Map f) = refl
first_of_task (Filter p) = refl
first_of_task (FilterNot p) = refl
first_of_task (Take n) = refl
first_of_task (TakeWhile p) = refl
first_of_task (Drop n) = refl
first_of_task (DropWhile p true) = refl
first_of_task (DropWhile p false) = refl
first_of_task (Limit n) = refl
first_of_task (Expand x) = refl

-- what keeps elements has not ended before any element
pub lasting_kept : (k : StateKind) → ending.Lasting ≡ begun_ending (keeping.begun k)
lasting_kept (Group n) = refl
lasting_kept (Fold o) = refl
lasting_kept (Reduce r) = refl
lasting_kept (Scan o) = refl

begun_as : (node : ℕ) (d : Decider) (w : Work) → record { gave = first_of w; state = state_by (begun_ending w) (stage_of node d 0 w) } ≡ begin_work node d w
begun_as node d (taking zero) = refl
begun_as node d (taking (suc n)) = refl
begun_as node d (mapping f) = refl
begun_as node d (filtering p b) = refl
begun_as node d (taking_while p) = refl
begun_as node d (dropping n) = refl
begun_as node d (dropping_while p) = refl
begun_as node d passing = refl
begun_as node d (limiting n) = refl
begun_as node d (grouping n held) = refl
begun_as node d (expanding x) = refl
begun_as node d (folding o a) = refl
begun_as node d (scanning o a) = refl
begun_as node d (reducing r a) = refl
begun_as node d heading = refl
begun_as node d (lasting a) = refl
begun_as node d (numbering n f i) = refl
begun_as node d (plugged name taken) = refl

-- a step that owes what its work gives before any element, and stands as it begins, is the one that the model begins with
pub begun_now : (node : ℕ) (d : Decider) (w v : Work) (owed : Option Tree) (e : StateEnd) → option_to_list owed ≡ first_of w → v ≡ w → e ≡ begun_ending w → record { gave = option_to_list owed; state = state_by e (stage_of node d 0 v) } ≡ begin_work node d w
begun_now node d w v owed e gives works ends =
    ap (λ (l : List Tree). record { gave = l; state = state_by e (stage_of node d 0 v) }) gives ∙ ap (λ (x : Work). record { gave = first_of w; state = state_by e (stage_of node d 0 x) }) works
    ∙ ap (λ (x : StateEnd). record { gave = first_of w; state = state_by x (stage_of node d 0 w) }) ends ∙ begun_as node d w
