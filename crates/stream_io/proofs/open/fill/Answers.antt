-- The goals of `open::fill` that the search leaves.
use Rattle.stream_io.proofs.Stoppings.{stops_behind, lacks_behind}
use Rattle.stream_io.proofs.open.fill.Goals as goal

pub returns-in-Err-Missing-open_outputs-clause-no_output : goal.returns-in-Err-Missing-open_outputs-clause-no_output
returns-in-Err-Missing-open_outputs-clause-no_output g c = λ n e. stops_behind _ _ _ _ _ _ _ _ c.in-Ok.ensures.opened (c.in-Err-Missing-open_outputs.ensures.missing n (cc))

pub returns-in-Err-NoMemory-open_outputs-clause-no_memory : goal.returns-in-Err-NoMemory-open_outputs-clause-no_memory
returns-in-Err-NoMemory-open_outputs-clause-no_memory g c = λ e. lacks_behind _ _ _ _ _ _ _ c.in-Ok.ensures.opened (c.in-Err-NoMemory-open_outputs.ensures.no_memory (cc))
