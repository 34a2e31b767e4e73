-- The goal of `body::Body::is_next` that the search leaves.
use Rattle.std.proofs.Common.{◌≤◌, length, subst, sym, ◌∙◌}
use Rattle.lane_core.specs.Boundary.{waits}
use Rattle.island_body.specs.declared.input.IslandInput.{IslandInput}
use Rattle.island_body.proofs.Lists.{some_same}
use Rattle.island_body.proofs.Acting.{at_index}
use Rattle.island_body.proofs.body.Body.is_next.Goals as goal

pub returns : goal.returns
returns g c e x at =
    let here = at_index c.args.self.now.ins.items c.args.k c.index.result.now c.requires.within c.index.ensures in
    subst (λ (z : IslandInput). 2 ≤ length (waits z.boundary)) (some_same c.index.result.now x (sym here ∙ at)) (c.is_next.ensures e)
