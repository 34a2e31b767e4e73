-- The goals of `open::open_all` that the search leaves.
use Rattle.stream_io.proofs.Stoppings.{misses, refuses, gives_up, gives_up_first}
use Rattle.stream_io.proofs.open.open_all.Goals as goal

pub returns-in_default-clause-no_memory : goal.returns-in_default-clause-no_memory
returns-in_default-clause-no_memory g c = λ e. gives_up_first _ _

pub returns-in-Err-clause-no_input : goal.returns-in-Err-clause-no_input
returns-in-Err-clause-no_input g c = λ n e. misses _ _ _ _ _ _ _ (c.in-Err.ensures.no_input n (cc)) c.close_all.ensures.closes

pub returns-in-Err-clause-no_output : goal.returns-in-Err-clause-no_output
returns-in-Err-clause-no_output g c = λ n e. refuses _ _ _ _ _ _ _ _ (c.in-Err.ensures.no_output n (cc)) c.close_all.ensures.closes

pub returns-in-Err-clause-no_memory : goal.returns-in-Err-clause-no_memory
returns-in-Err-clause-no_memory g c = λ e. gives_up _ _ _ _ _ _ (c.in-Err.ensures.no_memory (cc)) c.close_all.ensures.closes
