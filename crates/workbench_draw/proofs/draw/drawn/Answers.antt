use Rattle.workbench_draw.proofs.Drawn.{draws}
use Rattle.workbench_draw.proofs.draw.drawn.Goals as goal

pub returns : goal.returns
returns c = draws c.args.b.now c.args.drawing.now c.text_of.result c.requires.nodes c.requires.wires c.text_of.ensures
