-- An island that has started is fit to be a body.
use Rattle.island_runs.proofs.Beginning.{begins}
use Rattle.island_runs.proofs.begin_laws.an_island_begins_a_body.Goals as goal

pub returns : goal.returns
returns g c = λ homes count ws nodes k x i e a p h all. begins g.S.Source.state g.D.Drain.state g.B.PlugBook.lists homes count ws nodes k x i e a p.nodes_are p.links_are h all
