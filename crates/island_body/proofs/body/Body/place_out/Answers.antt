-- The goal of `body::Body::place_out` that the search leaves.
use Rattle.std.proofs.Common.{ap, sym, ◌∙◌}
use Rattle.interpreter.specs.Boundary.{way_out}
use Rattle.island_body.specs.declared.output.OutputBoundary.{OutputBoundary}
use Rattle.island_body.proofs.Lists.{some_same}
use Rattle.island_body.proofs.Acting.{at_index}
use Rattle.island_body.proofs.body.Body.place_out.Goals as goal

pub returns : goal.returns
returns g c o at =
    let here = at_index c.args.self.now.outs.items c.args.k c.index.result.now c.requires.within c.index.ensures in
    c.way_out.ensures ∙ ap (λ (y : OutputBoundary). way_out c.args.self.now.island y.wire) (some_same c.index.result.now o (sym here ∙ at))
