-- The goal of `body::Body::place_in` that the search leaves.
use Rattle.std.proofs.Common.{ap, sym, ◌∙◌}
use Rattle.interpreter.specs.Boundary.{way_in}
use Rattle.island_body.specs.declared.input.IslandInput.{IslandInput}
use Rattle.island_body.proofs.Lists.{some_same}
use Rattle.island_body.proofs.Acting.{at_index}
use Rattle.island_body.proofs.body.Body.place_in.Goals as goal

pub returns : goal.returns
returns g c x at =
    let here = at_index c.args.self.now.ins.items c.args.k c.index.result.now c.requires.within c.index.ensures in
    c.way_in.ensures ∙ ap (λ (y : IslandInput). way_in c.args.self.now.island y.wire) (some_same c.index.result.now x (sym here ∙ at))
