-- The goals of `laws::chains_keep_their_list_function`.
use Rattle.port_core.proofs.Chains.{pushed_goes, pushed_stops, finished_ends, finished_fails}
use Rattle.port_core.proofs.laws.chains_keep_their_list_function.Goals as goal

pub returns-clause-goes : goal.returns-clause-goes
returns-clause-goes c = pushed_goes

pub returns-clause-stops : goal.returns-clause-stops
returns-clause-stops c = pushed_stops

pub returns-clause-ends : goal.returns-clause-ends
returns-clause-ends c = finished_ends

pub returns-clause-fails : goal.returns-clause-fails
returns-clause-fails c = finished_fails
