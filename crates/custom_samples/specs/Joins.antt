-- What a dedup over two inputs asks for. Rule: own.
use Rattle.std.specs.Prelude.{ℕ, Bool, false, ◌&&◌, ◌||◌, if◌then◌else◌, List, [], ◌∷◌, ◌++◌, Option, Some, None, is_some}
use Rattle.std.specs.Ordering.{eq_by_cmp}
use Rattle.elem_core.specs.Tree.{Tree}
use Rattle.elem_core.specs.Order.{tree_cmp}
use Rattle.elem_core.specs.declared.item.Item.TheVariants as item
use Rattle.port_core.specs.Call.{Call, starts, pulls, arrives, cancels}
use Rattle.graph_stage.specs.declared.ask.Ask.{Ask}
use Rattle.graph_stage.specs.declared.ask.Ask.TheVariants.{Pull, Push, Finish, Pass}
use Rattle.graph_stage.specs.OwnView.{Seen, input_at, output_at, is_closed_in}

-- whether an element is equal to the last that was given
abbrev pub repeats_last : Option Tree → Tree → Bool
repeats_last None e = false
repeats_last (Some l) e = eq_by_cmp tree_cmp l e

-- its pull of an input, where that is open and was not pulled
abbrev pub pull_where_due : Seen → ℕ → List Ask
pull_where_due s i = if (input_at s i).asked || (input_at s i).closed then [] else Pull i ∷ []

-- whether both inputs have ended
abbrev pub have_ended : Seen → Bool
have_ended s = is_closed_in s 0 && is_closed_in s 1

-- its finish, where both inputs have ended
abbrev pub finish_at_end : Seen → List Ask
finish_at_end s = if have_ended s then Finish ∷ [] else []

-- what it asks for where it gives nothing: what it may pull, or the finish
abbrev pub pull_both : Seen → List Ask
pull_both s = (pull_where_due s 0 ++ pull_where_due s 1) ++ finish_at_end s

-- what it asks for once an element came, behind that last one: it goes out, where the output is asked and it repeats nothing
abbrev pub asks_at : Option Tree → Seen → Tree → List Ask
asks_at last s e = if (output_at s 0).asked then (if repeats_last last e then pull_both s else Push 0 e ∷ []) else []

-- what it asks for once its output was pulled, where that one waits: behind an element that waited it may be the last call of all
abbrev pub asks_of_one : Option Tree → Seen → Option Tree → List Ask
asks_of_one last s None = pull_both s
asks_of_one last s (Some e) = if repeats_last last e then pull_both s else Push 0 e ∷ finish_at_end s

-- what it asks for in a call, by the last element that it gave, by what waits, and by what it sees
abbrev pub joined_asks : Option Tree → Option Tree → Seen → Call → List Ask
joined_asks last waits s starts = []
joined_asks last waits s (pulls j) = asks_of_one last s waits
joined_asks last waits s (arrives i (item.Elem e)) = asks_at last s e
joined_asks last waits s (arrives i item.Ended) = if is_some waits then [] else finish_at_end s
joined_asks last waits s (arrives i (item.Failed c)) = Pass ∷ []
joined_asks last waits s (cancels j) = Finish ∷ []

-- the last that was given, once one of these is
abbrev pub given_last : Option Tree → Option Tree → Option Tree
given_last last None = last
given_last last (Some e) = if repeats_last last e then last else Some e

-- the last that was given, once a call was answered
abbrev pub last_after : Option Tree → Option Tree → Seen → Call → Option Tree
last_after last waits s (pulls j) = given_last last waits
last_after last waits s (arrives i (item.Elem e)) = if (output_at s 0).asked then given_last last (Some e) else last
last_after last waits s _ = last

-- what waits then: an element for which the output is not asked
abbrev pub waits_after : Option Tree → Seen → Call → Option Tree
waits_after waits s (pulls j) = None
waits_after waits s (arrives i (item.Elem e)) = if (output_at s 0).asked then waits else Some e
waits_after waits s _ = waits
