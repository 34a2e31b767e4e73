-- What a throttle by count asks for. Rule: own.
use Rattle.std.specs.Prelude.{ℕ, ◌+◌, nat_lt, ◌==◌, if◌then◌else◌, List, [], ◌∷◌}
use Rattle.elem_core.specs.declared.item.Item.TheVariants as item
use Rattle.port_core.specs.Call.{Call, starts, pulls, arrives, cancels}
use Rattle.graph_stage.specs.declared.ask.Ask.{Ask}
use Rattle.graph_stage.specs.declared.ask.Ask.TheVariants.{Pull, Push, Finish, Pass}

-- what it asks for in a call, by how many elements of the round came: the first goes out, and behind any other the next is pulled
abbrev pub throttle_asks : ℕ → Call → List Ask
throttle_asks came starts = []
throttle_asks came (pulls j) = Pull 0 ∷ []
throttle_asks came (arrives i (item.Elem e)) = if came == 0 then Push 0 e ∷ [] else Pull 0 ∷ []
throttle_asks came (arrives i item.Ended) = Finish ∷ []
throttle_asks came (arrives i (item.Failed c)) = Pass ∷ []
throttle_asks came (cancels j) = Finish ∷ []

-- how many elements of a round of n came then: none where this one was its last
abbrev pub came_after : ℕ → ℕ → Call → ℕ
came_after n came (arrives i (item.Elem e)) = if nat_lt (came + 1) n then came + 1 else 0
came_after n came _ = came
