-- What came of an element by every book comes of it by each, and whether a worker may then be called.
use Rattle.std.specs.Prelude.{◌≡◌, Bool, true, Result, Ok, Err, IfOk, Option, Some, None, IfSome}
use Rattle.elem_core.specs.Tree.{Tree}
use Rattle.stream_model.specs.Linear.{Book, Work}
use Rattle.step_work.specs.declared.task.AtOnce.{AtOnce}
use Rattle.step_work.specs.declared.task.LinearReaction.{LinearReaction}
use Rattle.step_work.specs.declared.task.LinearReaction.TheVariants.{Gives, GivesAll, Skips, EndsWith, EndsWithAll, Ends, Blames, Fails}
use Rattle.stage_linear.specs.Plugs.{StaysOn}
use Rattle.step_work.specs.Tasks.{Reacted, ReactedBy, outcome_of}

pub at_book_if : {E : Type 0} (book : Book) (old : Work) (t : Tree) (new : Work) (r : Result LinearReaction E) → IfOk r (Reacted old t new) → IfOk r (ReactedBy book old t new)
at_book_if book old t new (Ok o) h = h book
at_book_if book old t new (Err e) h = h

pub at_book_said : (book : Book) (old : Work) (t : Tree) (new : Work) (r : Option AtOnce) → IfSome r (λ s. Reacted old t new (outcome_of s t)) → IfSome r (λ s. ReactedBy book old t new (outcome_of s t))
at_book_said book old t new (Some s) h = h book
at_book_said book old t new None h = h

-- one that may be called may be called where the stage goes on
pub stays_on : (b : Bool) (o : LinearReaction) → b ≡ true → StaysOn b o
stays_on b (Gives u) h = h
stays_on b (GivesAll us) h = h
stays_on b Skips h = h
stays_on b (EndsWith u) h = tt
stays_on b (EndsWithAll us) h = tt
stays_on b Ends h = tt
stays_on b (Blames why) h = h
stays_on b (Fails why) h = tt
