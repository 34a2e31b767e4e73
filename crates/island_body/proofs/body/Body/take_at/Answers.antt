-- The goals of `body::Body::take_at` that the search leaves.
use Rattle.std.proofs.Common.{◌∙◌}
use Rattle.island_body.specs.Lasting.{goes_on}
use Rattle.island_body.proofs.Acting.{done_as}
use Rattle.island_body.proofs.Looking.{only_in_on}
use Rattle.island_body.proofs.Telling.{wakes_on}
use Rattle.island_body.proofs.body.Body.take_at.Goals as goal

pub returns-then-is_next-clause-served : goal.returns-then-is_next-clause-served
returns-then-is_next-clause-served g c = done_as _ _ _ _ _ c.serve_in.ensures.count.0 c.serve_in.ensures.count.1 (c.serve_in.ensures.served _ _ c.look_in.ensures.served)

pub returns-then-is_next-clause-goes : goal.returns-then-is_next-clause-goes
returns-then-is_next-clause-goes g c = goes_on _ _ _ c.look_in.ensures.goes c.serve_in.ensures.goes

pub returns-then-is_next-clause-only : goal.returns-then-is_next-clause-only
returns-then-is_next-clause-only g c = only_in_on _ _ _ _ c.look_in.ensures.goes c.look_in.ensures.only c.serve_in.ensures.only

pub returns-then-is_next-clause-wakes : goal.returns-then-is_next-clause-wakes
returns-then-is_next-clause-wakes g c = wakes_on _ _ _ c.look_in.ensures.wakes c.serve_in.ensures.wakes

pub returns-then-is_next-clause-took : goal.returns-then-is_next-clause-took
returns-then-is_next-clause-took g c e = c.serve_in.ensures.costs.0 ∙ c.look_in.ensures.took c.if-not-look_in.false

pub returns-else-is_next-clause-took : goal.returns-else-is_next-clause-took
returns-else-is_next-clause-took g c e = c.look_in.ensures.took c.if-not-look_in.false

pub returns-else-is_next-clause-served : goal.returns-else-is_next-clause-served
returns-else-is_next-clause-served g c = c.look_in.ensures.behind c.if-not-look_in.false (c.is_next.ensures c.if-is_next.false)
