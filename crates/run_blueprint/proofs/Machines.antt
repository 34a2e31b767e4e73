-- The list of a stage's output is of its type, where the list of its input is.
use Rattle.std.proofs.Common.{ℕ, List}
use Rattle.elem_core.specs.Sort.{Sort}
use Rattle.elem_core.specs.Tree.{Tree}
use Rattle.elem_core.specs.declared.why.Decider.{Decider}
use Rattle.stream_model.specs.Outlook.{Outlook, End}
use Rattle.stream_model.specs.Machine.{Run, run, close, output}
use Rattle.stream_model.specs.Linear.{Book, Work, Stage, linear, begin_work}
use Rattle.stream_model.specs.Known.{HeadLists}
use Rattle.run_blueprint.specs.Plugs.{KeepsPlugTypes}
use Rattle.run_blueprint.specs.Types.{HasType, AllTyped}
use Rattle.run_blueprint.proofs.Keeping.{close_keeps, whole_keeps}
use Rattle.run_blueprint.proofs.Works.{WorkTyped, RunTyped, stage_step_typed, finish_typed, begin_typed}

module _ (heads : HeadLists) (book : Book) (keeps : KeepsPlugTypes heads book) (v : Work) (t u : Sort) where
  abbrev Kept : Stage → Type 0
  Kept s = WorkTyped heads t u s.work

  -- a work that is for elements of that type
  pub output_typed : (node : ℕ) (d : Decider) (w : Work) (o : Outlook) → WorkTyped heads t u w → AllTyped t o.list → AllTyped u (output (linear book v) (begin_work node d w) o).list
  output_typed node d w o i h =
      whole_keeps Kept (HasType u) (linear book v) (HasType t) (λ s x k h. stage_step_typed heads t u book keeps s x k h) (λ s k. finish_typed heads t u book keeps s s.work k)
      (begin_work node d w) o (begin_typed heads t u node d w i) h

  -- what a stage gives in all
  pub closed_typed : (x : Run Stage Tree) (l : List Tree) (e : End) → RunTyped heads t u x → AllTyped t l → AllTyped u (close (linear book v) (run (linear book v) x l) e).list
  closed_typed x l e i h =
      close_keeps Kept (HasType u) (linear book v) (HasType t) (λ s x k h. stage_step_typed heads t u book keeps s x k h) (λ s k. finish_typed heads t u book keeps s s.work k) x l e i h
