-- What a router asks for. Rule: own.
use Rattle.std.specs.Prelude.{ℕ, ℤ, int_lt, Bool, not, ◌&&◌, ◌||◌, if◌then◌else◌, List, [], ◌∷◌}
use Rattle.elem_core.specs.Tree.{Tree, num}
use Rattle.elem_core.specs.declared.item.Item.TheVariants as item
use Rattle.port_core.specs.Call.{Call, starts, pulls, arrives, cancels}
use Rattle.graph_stage.specs.declared.ask.Ask.{Ask}
use Rattle.graph_stage.specs.declared.ask.Ask.TheVariants.{Pull, Push, Finish, Pass}
use Rattle.graph_stage.specs.OwnView.{Seen, input_at, output_at, is_closed_out}

-- the output for an element: 0 for a number below the bound, 1 for all else
abbrev pub output_for : ℤ → Tree → ℕ
output_for bound (num z) = if int_lt z bound then 0 else 1
output_for bound _ = 1

-- whether its input is open and was not pulled
abbrev pub may_pull : Seen → Bool
may_pull s = not ((input_at s 0).asked || (input_at s 0).closed)

-- whether an output is asked, or closed
abbrev pub lets_pull : Seen → ℕ → Bool
lets_pull s j = (output_at s j).asked || (output_at s j).closed

-- its pull, where each output can do with what may come
abbrev pub pull_for_both : Seen → List Ask
pull_for_both s = if may_pull s && (lets_pull s 0 && lets_pull s 1) then Pull 0 ∷ [] else []

-- what it asks for once an element came for that output, which is closed or not
abbrev pub push_for : Bool → ℕ → Tree → Seen → List Ask
push_for closed j e s = if closed then pull_for_both s else Push j e ∷ []

-- what the router of this bound asks for in a call, by what it sees
abbrev pub router_asks : ℤ → Seen → Call → List Ask
router_asks bound s starts = []
router_asks bound s (pulls j) = pull_for_both s
router_asks bound s (arrives i (item.Elem e)) = push_for (is_closed_out s (output_for bound e)) (output_for bound e) e s
router_asks bound s (arrives i item.Ended) = Finish ∷ []
router_asks bound s (arrives i (item.Failed c)) = Pass ∷ []
router_asks bound s (cancels j) = if is_closed_out s 0 && is_closed_out s 1 then Finish ∷ [] else pull_for_both s
