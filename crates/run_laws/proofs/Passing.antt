-- A stage that passes each element on leaves an outlook's lists as they are.
use Rattle.std.proofs.Common.{◌≡◌, ℕ, ◌+◌, ◌-◌, List, [], ◌∷◌, ◌++◌, length, take, refl, sym, ap, ◌∙◌, append_assoc, append-nil}
use Rattle.elem_core.specs.Tree.{Tree}
use Rattle.elem_core.specs.declared.why.Cause.{Cause}
use Rattle.elem_core.specs.declared.why.Decider.{Decider}
use Rattle.elem_core.proofs.Prefixes.{prefix_refl, prefix_take, prefix_length}
use Rattle.stream_model.specs.Outlook.{Outlook, End, unended, ended, failed, Agrees}
use Rattle.stream_model.specs.Machine.{going, run, of_input, Stands, output}
use Rattle.stream_model.specs.Linear.{Book, Stage, passing, linear, begin_work}
use Rattle.stream_model.proofs.Traces.{trace_output}

-- a stage that took n elements and passed them
abbrev passer : ℕ → Decider → ℕ → Stage
passer k d n = record { node = k; decider = d; taken = n; work = passing }

module _ (book : Book) (k : ℕ) (d : Decider) where
  passes : (g : List Tree) (n : ℕ) (l : List Tree) → (m : ℕ) × (run (linear book passing) (record { gave = g; state = going (passer k d n) }) l ≡ record { gave = g ++ l; state = going (passer k d m) })
  passes g n [] = (n, ap (λ (x : List Tree). record { gave = x; state = going (passer k d n) }) (sym (append-nil g)))
  passes g n (t ∷ l) =
      let later = passes (g ++ t ∷ []) (n + 1) l in
      (later.0, later.1 ∙ ap (λ (x : List Tree). record { gave = x; state = going (passer k d later.0) }) (append_assoc g (t ∷ []) l))

  pub passing_stands : (l : List Tree) (e : End) → Stands (linear book passing) (begin_work k d passing) l e l e
  passing_stands l unended = let p = passes [] 0 l in rw p.1 (prefix_refl l)
  passing_stands l ended = let p = passes [] 0 l in rw p.1 (ap (λ (x : List Tree). record { list = x; end = ended }) (append-nil l))
  passing_stands l (failed c) =
      let p = passes [] 0 l in
      let some = passes [] 0 (take (length l - 0) l) in
      of_input (rw p.1 refl) (record { part = rw p.1 (prefix_refl l); enough = rw some.1 (prefix_length (prefix_take (length l - 0) l)) })

  -- what came before its input failed is a first part of what may come
  pub passing_part : (l : List Tree) (c : Cause) → Stands (linear book passing) (begin_work k d passing) l (failed c) l unended
  passing_part l c = let p = passes [] 0 l in rw p.1 (prefix_refl l)

  pub passing_agrees : (o : Outlook) (l : List Tree) (e : End) → Agrees o l e → Agrees (output (linear book passing) (begin_work k d passing) o) l e
  passing_agrees o l e a = trace_output (linear book passing) (begin_work k d passing) o l e l e a (passing_stands l e)
