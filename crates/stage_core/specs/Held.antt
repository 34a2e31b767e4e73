-- A history of items as a machine takes it, and what a stage is between two events: the outputs that it holds, and its machine's state.
use Rattle.std.specs.Prelude.{List, [], ◌∷◌, ◌++◌, Option, None, Some}
use Rattle.std.specs.List.{fold}
use Rattle.elem_core.specs.Tree.{Tree}
use Rattle.elem_core.specs.declared.why.Cause.{Cause}
use Rattle.stream_model.specs.Outlook.{End, unended, ended, failed}
use Rattle.stream_model.specs.Machine.{State, going, done, broken, Run, Finish, adds, refuses, Machine, Given, feed, close}
use Rattle.elem_core.specs.declared.item.Item.{Item}
use Rattle.elem_core.specs.declared.item.Item.TheVariants as item

-- the items of a list that stands so
abbrev pub end_items : End → List Item
end_items unended = []
end_items ended = item.Ended ∷ []
end_items (failed c) = item.Failed c ∷ []

-- the history, an end among its items, of a list that stands so
abbrev pub told : List Tree → End → List Item
told [] e = end_items e
told (t ∷ l) e = item.Elem t ∷ told l e

-- the same of what a machine gave
abbrev pub told_of : Given Tree → List Item
told_of g = told g.list g.end

-- An output between two calls: it still owes these elements, and then what its state says; or it is closed and owes nothing.
-- A normal end that came leaves the state `done`, a failure that is kept leaves it `broken`.
pub data Held (S : Type 0) : Type 0 where
  owing : Run S Tree → Held S
  shut : Held S

module _ {S : Type 0} (m : Machine S Tree) where
  -- a normal end, of which the state remembers that it came
  abbrev pub sealed_by : List Tree → Finish Tree → Run S Tree
  sealed_by g (adds o) = record { gave = g ++ o; state = done }
  sealed_by g (refuses c) = record { gave = g; state = broken c }

  -- the same by the state
  abbrev pub sealed_at : List Tree → State S → Run S Tree
  sealed_at g (going s) = sealed_by g (m.finish s)
  sealed_at g done = record { gave = g; state = done }
  sealed_at g (broken c) = record { gave = g; state = broken c }

  -- a failure of the input
  abbrev pub failed_at : List Tree → State S → Cause → Run S Tree
  failed_at g (going s) c = record { gave = g; state = broken c }
  failed_at g done c = record { gave = g; state = done }
  failed_at g (broken d) c = record { gave = g; state = broken d }

  -- after one more item, an end too: a machine over items
  abbrev pub after : Run S Tree → Item → Run S Tree
  after x (item.Elem t) = feed m x t
  after x item.Ended = sealed_at x.gave x.state
  after x (item.Failed c) = failed_at x.gave x.state c

  -- after a history
  abbrev pub heard : Run S Tree → List Item → Run S Tree
  heard x items = fold after x items

  -- all that it gives for a history, nothing of it lost
  abbrev pub whole : Run S Tree → List Item → List Item
  whole x items = told_of (close m (heard x items) unended)

  -- what it still gives, for these further items
  abbrev pub gives : Held S → List Item → List Item
  gives (owing x) items = whole x items
  gives shut items = []
