-- A chain without a plug gives the same by every book.
use Rattle.std.proofs.Common.{◌≡◌, ℕ, zero, suc, ◌+◌, Bool, true, false, List, [], ◌∷◌, ◌++◌, length, Some, None, Result, Ok, Err, refl, ap, ◌∙◌}
use Rattle.std.specs.Prelude.{⊤, if◌then◌else◌, nat_le, ◌==◌}
use Rattle.elem_core.specs.Tree.{Tree}
use Rattle.elem_core.specs.Values.{map_value, pred_value, fold_step, reduce_step, part_of}
use Rattle.elem_core.specs.declared.why.Decider.{Decider}
use Rattle.elem_core.specs.declared.why.Decider.TheVariants.{Stop, Resume, Restart}
use Rattle.elem_core.specs.declared.why.Why.{Why}
use Rattle.port_core.specs.ListFunction.{Same}
use Rattle.stream_model.specs.Outlook.{End, unended, ended, failed}
use Rattle.stream_model.specs.Machine.{State, going, done, broken, Run, Given, run, close, close_at, finish_at, feed}
use Rattle.stream_model.specs.Linear.{Book, Stage, Work, mapping, filtering, taking, taking_while, dropping, dropping_while, passing, limiting, grouping, expanding, folding, scanning, reducing, heading, lasting, numbering, plugged, Reaction, gives, ends, blames, breaks, on_value, on_test, on_number, reaction, restarted, decided, reacts, finish_of, begin_work, linear}
use Rattle.stream_model.specs.Substreams.{Chain, through}
use Rattle.step_work.specs.declared.task.LinearWork.{LinearWork}
use Rattle.step_work.specs.declared.task.LinearWork.TheVariants as task
use Rattle.step_work.specs.Tasks as tasks
use Rattle.step_work.specs.declared.kind.StateKind.{StateKind}
use Rattle.step_work.specs.declared.kind.StateKind.TheVariants as kept
use Rattle.step_work.specs.Keeping as keeping
use Rattle.step_work.specs.LineChains.{chain_step, given_with, list_function}
use Rattle.line_chain.specs.Kinds.{begun}
use Rattle.line_chain.specs.Line.{no_plugs}
use Rattle.line_chain.specs.Chains.{starts_of}
use Rattle.line_chain.specs.declared.step.LineStep.{LineStep}
use Rattle.line_chain.specs.declared.kind.StepKind.{StepKind}
use Rattle.line_chain.specs.declared.kind.StepKind.TheVariants as step_kind

-- it is no plug
abbrev pub Own : Work → Type 0
Own (plugged name taken) = ⊥
Own _ = ⊤

abbrev pub OwnState : State Stage → Type 0
OwnState (going s) = Own s.work
OwnState done = ⊤
OwnState (broken c) = ⊤

-- ---- one element

same_reaction : (book : Book) (w : Work) (t : Tree) → Own w → reaction no_plugs w t ≡ reaction book w t
same_reaction book (mapping f) t h = refl
same_reaction book (filtering p true) t h = refl
same_reaction book (filtering p false) t h = refl
same_reaction book (taking zero) t h = refl
same_reaction book (taking (suc zero)) t h = refl
same_reaction book (taking (suc (suc n))) t h = refl
same_reaction book (taking_while p) t h = refl
same_reaction book (dropping zero) t h = refl
same_reaction book (dropping (suc n)) t h = refl
same_reaction book (dropping_while p) t h = refl
same_reaction book passing t h = refl
same_reaction book (limiting zero) t h = refl
same_reaction book (limiting (suc n)) t h = refl
same_reaction book (grouping n held) t h = refl
same_reaction book (expanding x) t h = refl
same_reaction book (folding o a) t h = refl
same_reaction book (scanning o a) t h = refl
same_reaction book (reducing r None) t h = refl
same_reaction book (reducing r (Some a)) t h = refl
same_reaction book heading t h = refl
same_reaction book (lasting a) t h = refl
same_reaction book (numbering n f i) t h = refl
same_reaction book (plugged name taken) t h = absurd h

-- what goes on is no plug either
abbrev OwnReaction : Reaction → Type 0
OwnReaction (gives o w) = Own w
OwnReaction (ends o) = ⊤
OwnReaction (blames why) = ⊤
OwnReaction (breaks why) = ⊤

own_value : (r : Result Tree Why) (f : Tree → Reaction) → ((u : Tree) → OwnReaction (f u)) → OwnReaction (on_value r f)
own_value (Ok u) f h = h u
own_value (Err w) f h = tt

own_test : (r : Result Bool Why) (a b : Reaction) → OwnReaction a → OwnReaction b → OwnReaction (on_test r a b)
own_test (Ok true) a b h k = h
own_test (Ok false) a b h k = k
own_test (Err w) a b h k = tt

own_number : (r : Result ℕ Why) (f : ℕ → Reaction) → ((k : ℕ) → OwnReaction (f k)) → OwnReaction (on_number r f)
own_number (Ok k) f h = h k
own_number (Err w) f h = tt

own_either : (b : Bool) (x y : Reaction) → OwnReaction x → OwnReaction y → OwnReaction (if b then x else y)
own_either true x y h k = h
own_either false x y h k = k

own_reaction : (w : Work) (t : Tree) → Own w → OwnReaction (reaction no_plugs w t)
own_reaction (mapping f) t h = own_value (map_value f t) (λ u. gives (u ∷ []) (mapping f)) (λ u. tt)
own_reaction (filtering p true) t h = own_test (pred_value p t) (gives (t ∷ []) (filtering p true)) (gives [] (filtering p true)) tt tt
own_reaction (filtering p false) t h = own_test (pred_value p t) (gives [] (filtering p false)) (gives (t ∷ []) (filtering p false)) tt tt
own_reaction (taking zero) t h = tt
own_reaction (taking (suc zero)) t h = tt
own_reaction (taking (suc (suc n))) t h = tt
own_reaction (taking_while p) t h = own_test (pred_value p t) (gives (t ∷ []) (taking_while p)) (ends []) tt tt
own_reaction (dropping zero) t h = tt
own_reaction (dropping (suc n)) t h = tt
own_reaction (dropping_while p) t h = own_test (pred_value p t) (gives [] (dropping_while p)) (gives (t ∷ []) passing) tt tt
own_reaction passing t h = tt
own_reaction (limiting zero) t h = tt
own_reaction (limiting (suc n)) t h = tt
own_reaction (grouping n held) t h = own_either (nat_le n (length held + 1)) _ _ tt tt
own_reaction (expanding x) t h = tt
own_reaction (folding o a) t h = own_value (fold_step o a t) (λ b. gives [] (folding o b)) (λ u. tt)
own_reaction (scanning o a) t h = own_value (fold_step o a t) (λ b. gives (b ∷ []) (scanning o b)) (λ u. tt)
own_reaction (reducing r None) t h = tt
own_reaction (reducing r (Some a)) t h = own_value (reduce_step r a t) (λ b. gives [] (reducing r (Some b))) (λ u. tt)
own_reaction heading t h = tt
own_reaction (lasting a) t h = tt
own_reaction (numbering n f i) t h = own_number (part_of n (map_value f t)) (λ k. gives (if k == i then t ∷ [] else []) (numbering n f i)) (λ k. tt)
own_reaction (plugged name taken) t h = absurd h

own_restarted : (w : Work) → Own w → Own (restarted w)
own_restarted (mapping f) h = tt
own_restarted (filtering p b) h = tt
own_restarted (taking n) h = tt
own_restarted (taking_while p) h = tt
own_restarted (dropping n) h = tt
own_restarted (dropping_while p) h = tt
own_restarted passing h = tt
own_restarted (limiting n) h = tt
own_restarted (grouping n held) h = tt
own_restarted (expanding x) h = tt
own_restarted (folding o a) h = tt
own_restarted (scanning o a) h = tt
own_restarted (reducing r a) h = tt
own_restarted heading h = tt
own_restarted (lasting a) h = tt
own_restarted (numbering n f i) h = tt
own_restarted (plugged name taken) h = absurd h

own_decided : (d : Decider) (s : Stage) (why : Why) → Own s.work → OwnState (decided d s why).state
own_decided Stop s why h = tt
own_decided Resume s why h = h
own_decided Restart s why h = own_restarted s.work h

own_reacts : (s : Stage) (r : Reaction) → Own s.work → OwnReaction r → OwnState (reacts s r).state
own_reacts s (gives o w) h k = k
own_reacts s (ends o) h k = tt
own_reacts s (blames why) h k = own_decided s.decider s why h
own_reacts s (breaks why) h k = tt

same_feed : (book : Book) (g : List Tree) (st : State Stage) (t : Tree) → OwnState st → feed (linear no_plugs passing) (record { gave = g; state = st }) t ≡ feed (linear book passing) (record { gave = g; state = st }) t
same_feed book g (going s) t h = ap (λ (r : Reaction). record { gave = g ++ (reacts s r).gave; state = (reacts s r).state }) (same_reaction book s.work t h)
same_feed book g done t h = refl
same_feed book g (broken c) t h = refl

own_feed : (g : List Tree) (st : State Stage) (t : Tree) → OwnState st → OwnState (feed (linear no_plugs passing) (record { gave = g; state = st }) t).state
own_feed g (going s) t h = own_reacts s (reaction no_plugs s.work t) h (own_reaction s.work t h)
own_feed g done t h = tt
own_feed g (broken c) t h = tt

-- ---- all elements, and the end

same_run : (book : Book) (x : Run Stage Tree) (l : List Tree) → OwnState x.state → run (linear no_plugs passing) x l ≡ run (linear book passing) x l
same_run book x [] h = refl
same_run book x (t ∷ l) h =
    same_run book (feed (linear no_plugs passing) x t) l (own_feed x.gave x.state t h) ∙ ap (λ (y : Run Stage Tree). run (linear book passing) y l) (same_feed book x.gave x.state t h)

own_run : (x : Run Stage Tree) (l : List Tree) → OwnState x.state → OwnState (run (linear no_plugs passing) x l).state
own_run x [] h = h
own_run x (t ∷ l) h = own_run (feed (linear no_plugs passing) x t) l (own_feed x.gave x.state t h)

same_finish : (book : Book) (s : Stage) (w : Work) → Own w → finish_of no_plugs s w ≡ finish_of book s w
same_finish book s (mapping f) h = refl
same_finish book s (filtering p b) h = refl
same_finish book s (taking n) h = refl
same_finish book s (taking_while p) h = refl
same_finish book s (dropping n) h = refl
same_finish book s (dropping_while p) h = refl
same_finish book s passing h = refl
same_finish book s (limiting n) h = refl
same_finish book s (grouping n []) h = refl
same_finish book s (grouping n (t ∷ held)) h = refl
same_finish book s (expanding x) h = refl
same_finish book s (folding o a) h = refl
same_finish book s (scanning o a) h = refl
same_finish book s (reducing r None) h = refl
same_finish book s (reducing r (Some a)) h = refl
same_finish book s heading h = refl
same_finish book s (lasting None) h = refl
same_finish book s (lasting (Some t)) h = refl
same_finish book s (numbering n f i) h = refl
same_finish book s (plugged name taken) h = absurd h

same_close : (book : Book) (g : List Tree) (st : State Stage) (e : End) → OwnState st → close_at (linear no_plugs passing) g st e ≡ close_at (linear book passing) g st e
same_close book g (going s) unended h = refl
same_close book g (going s) ended h = ap (finish_at (linear book passing) g) (same_finish book s s.work h)
same_close book g (going s) (failed c) h = refl
same_close book g done e h = refl
same_close book g (broken c) e h = refl

-- ---- a chain

abbrev pub OwnChain : Chain → Type 0
OwnChain [] = ⊤
OwnChain (s ∷ ss) = OwnState s.state × OwnChain ss

same_through : (book : Book) (xs : Chain) (l : List Tree) (e : End) → OwnChain xs → through no_plugs xs l e ≡ through book xs l e
same_through book [] l e h = refl
same_through book (s ∷ ss) l e h =
    let y = run (linear no_plugs passing) s l in
    let g : close (linear no_plugs passing) y e ≡ close (linear book passing) (run (linear book passing) s l) e =
    same_close book y.gave y.state e (own_run s l h.0) ∙ ap (λ (x : Run Stage Tree). close (linear book passing) x e) (same_run book s l h.0) in
    same_through book ss (close (linear no_plugs passing) y e).list (close (linear no_plugs passing) y e).end h.1 ∙ ap (λ (x : Given Tree). through book ss x.list x.end) g

own_task : (t : LinearWork) → Own (tasks.work_in t)
own_task (task.Map f) = tt
own_task (task.Filter p) = tt
own_task (task.FilterNot p) = tt
own_task (task.Take n) = tt
own_task (task.TakeWhile p) = tt
own_task (task.Drop n) = tt
own_task (task.DropWhile p true) = tt
own_task (task.DropWhile p false) = tt
own_task (task.Limit n) = tt
own_task (task.Expand x) = tt

own_kept : (k : StateKind) → Own (keeping.begun k)
own_kept (kept.Group n) = tt
own_kept (kept.Fold o) = tt
own_kept (kept.Reduce r) = tt
own_kept (kept.Scan o) = tt

own_begun : (k : StepKind) → Own (begun k)
own_begun (step_kind.Plain t) = own_task t
own_begun (step_kind.Keeps k) = own_kept k
own_begun step_kind.Passes = tt
own_begun step_kind.First = tt
own_begun step_kind.Last = tt

own_begin : (node : ℕ) (d : Decider) (w : Work) → Own w → OwnState (begin_work node d w).state
own_begin node d (taking zero) h = tt
own_begin node d (taking (suc n)) h = h
own_begin node d (mapping f) h = h
own_begin node d (filtering p b) h = h
own_begin node d (taking_while p) h = h
own_begin node d (dropping n) h = h
own_begin node d (dropping_while p) h = h
own_begin node d passing h = h
own_begin node d (limiting n) h = h
own_begin node d (grouping n held) h = h
own_begin node d (expanding x) h = h
own_begin node d (folding o a) h = h
own_begin node d (scanning o a) h = h
own_begin node d (reducing r a) h = h
own_begin node d heading h = h
own_begin node d (lasting a) h = h
own_begin node d (numbering n f i) h = h
own_begin node d (plugged name taken) h = absurd h

own_starts : (steps : List LineStep) → OwnChain (starts_of steps)
own_starts [] = tt
own_starts (s ∷ ss) = (own_begin s.node s.decider (begun s.kind) (own_begun s.kind), own_starts ss)

-- the steps give the same by every book
pub same_by_books : (steps : List LineStep) (book : Book) → Same (list_function no_plugs (starts_of steps)) (list_function book (starts_of steps))
same_by_books steps book =
    let all : (l : List Tree) (e : End) → through no_plugs (starts_of steps) l e ≡ through book (starts_of steps) l e = λ l e. same_through book (starts_of steps) l e (own_starts steps) in record {
      gives = λ l. ap (λ (x : Given Tree). x.list) (all l unended);
      stop = λ l. ap (λ (x : Given Tree). chain_step x.end) (all l unended);
      adds = λ l. ap (λ (x : Given Tree). given_with x.list (through no_plugs (starts_of steps) l ended)) (all l unended) ∙ ap (λ (x : Given Tree). given_with (through book (starts_of steps) l unended).list x) (all l ended);
    }
