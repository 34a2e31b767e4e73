-- A machine that keeps something of its state, and gives only what is so, for elements that are so.
use Rattle.std.proofs.Common.{List, [], ◌∷◌, ◌++◌}
use Rattle.elem_core.specs.Tree.{Tree}
use Rattle.stream_model.specs.Outlook.{Outlook, End, unended, ended, failed}
use Rattle.stream_model.specs.Machine.{State, going, done, broken, Run, Machine, Finish, adds, refuses, feed, run, finish_at, close_at, close, input_end, whole}
use Rattle.run_blueprint.specs.Types.{Each}

pub each_append : {A : Type 0} (P : A → Type 0) (xs ys : List A) → Each P xs → Each P ys → Each P (xs ++ ys)
each_append P [] ys h k = k
each_append P (x ∷ xs) ys h k = (h.0, each_append P xs ys h.1 k)

-- of what it gave, and of its state where it goes on
module _ {S O : Type 0} (Kept : S → Type 0) (Good : O → Type 0) where
  abbrev pub StateKeeps : State S → Type 0
  StateKeeps (going s) = Kept s
  StateKeeps done = Unit {0}
  StateKeeps (broken c) = Unit {0}

  pub record RunKeeps (x : Run S O) : Type 0 where
    pub gave : Each Good x.gave
    pub state : StateKeeps x.state

  abbrev pub FinishKeeps : Finish O → Type 0
  FinishKeeps (adds o) = Each Good o
  FinishKeeps (refuses c) = Unit {0}

  module _ (m : Machine S O) (Taken : Tree → Type 0) (steps : (s : S) (x : Tree) → Kept s → Taken x → RunKeeps (m.step s x)) (ends : (s : S) → Kept s → FinishKeeps (m.finish s)) where
    feed_keeps : (g : List O) (st : State S) (x : Tree) → Each Good g → StateKeeps st → Taken x → RunKeeps (feed m (record { gave = g; state = st }) x)
    feed_keeps g (going s) x a i h =
        let more = steps s x i h in
        record { gave = each_append Good g (m.step s x).gave a more.gave; state = more.state }
    feed_keeps g done x a i h = record { gave = a; state = tt }
    feed_keeps g (broken c) x a i h = record { gave = a; state = tt }

    pub run_keeps : (x : Run S O) (l : List Tree) → RunKeeps x → Each Taken l → RunKeeps (run m x l)
    run_keeps x [] i h = i
    run_keeps x (e ∷ l) i h = run_keeps (feed m x e) l (feed_keeps x.gave x.state e i.gave i.state h.0) h.1

    finish_keeps : (g : List O) (f : Finish O) → Each Good g → FinishKeeps f → Each Good (finish_at m g f).list
    finish_keeps g (adds o) a h = each_append Good g o a h
    finish_keeps g (refuses c) a h = a

    close_at_keeps : (g : List O) (st : State S) (e : End) → Each Good g → StateKeeps st → Each Good (close_at m g st e).list
    close_at_keeps g done e a i = a
    close_at_keeps g (broken c) e a i = a
    close_at_keeps g (going s) ended a i = finish_keeps g (m.finish s) a (ends s i)
    close_at_keeps g (going s) unended a i = a
    close_at_keeps g (going s) (failed c) a i = a

    -- all that it gives, where its input stands so
    pub close_keeps : (x : Run S O) (l : List Tree) (e : End) → RunKeeps x → Each Taken l → Each Good (close m (run m x l) e).list
    close_keeps x l e i h = let all = run_keeps x l i h in close_at_keeps (run m x l).gave (run m x l).state e all.gave all.state

    pub whole_keeps : (x : Run S O) (o : Outlook) → RunKeeps x → Each Taken o.list → Each Good (whole m x o).list
    whole_keeps x o i h = close_keeps x o.list (input_end o.ends) i h
