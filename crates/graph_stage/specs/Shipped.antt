-- What the two custom stages of the program ask for. Rule: own.
use Rattle.std.specs.Prelude.{ℕ, Bool, true, false, not, ◌&&◌, if◌then◌else◌, List, [], ◌∷◌}
use Rattle.elem_core.specs.declared.item.Item.TheVariants as item
use Rattle.port_core.specs.Call.{Call, starts, pulls, arrives, cancels}
use Rattle.graph_stage.specs.declared.ask.Ask.{Ask}
use Rattle.graph_stage.specs.declared.ask.Ask.TheVariants.{Pull, Push, Finish, Pass}
use Rattle.graph_stage.specs.OwnView.{Seen, input_at, output_at}

-- the output whose turn it is, by whether that is the second
abbrev pub output_in_turn : Bool → ℕ
output_in_turn true = 1
output_in_turn false = 0

-- its pull, where that output is asked, and the input is open and was not pulled
abbrev pub pull_for : ℕ → Seen → List Ask
pull_for j s = if (output_at s j).asked && not (input_at s 0).asked && not (input_at s 0).closed then Pull 0 ∷ [] else []

-- what `alternate` asks for in a call, by whether it is the second output's turn and by what it sees: an element goes to the output whose
-- turn it is, and it pulls for that whose turn comes
abbrev pub alternate_asks : Bool → Seen → Call → List Ask
alternate_asks second s starts = []
alternate_asks second s (pulls j) = pull_for (output_in_turn second) s
alternate_asks second s (arrives i (item.Elem e)) = Push (output_in_turn second) e ∷ pull_for (output_in_turn (not second)) s
alternate_asks second s (arrives i item.Ended) = Finish ∷ []
alternate_asks second s (arrives i (item.Failed c)) = Pass ∷ []
alternate_asks second s (cancels j) = Finish ∷ []

-- whether it is the second output's turn then: each element turns it
abbrev pub turn_after : Bool → Call → Bool
turn_after second (arrives i (item.Elem e)) = not second
turn_after second _ = second

-- what `rude` asks for in a call: each element twice
abbrev pub rude_asks : Call → List Ask
rude_asks starts = []
rude_asks (pulls j) = Pull 0 ∷ []
rude_asks (arrives i (item.Elem e)) = Push 0 e ∷ Push 0 e ∷ []
rude_asks (arrives i item.Ended) = Finish ∷ []
rude_asks (arrives i (item.Failed c)) = Pass ∷ []
rude_asks (cancels j) = Finish ∷ []
