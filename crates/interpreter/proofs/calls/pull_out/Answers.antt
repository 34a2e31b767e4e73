use Rattle.std.proofs.Common.{◌∙◌}
use Rattle.port_core.specs.declared.act.Act.TheVariants.{Pull}
use Rattle.fused_net.specs.Net.{end_at}
use Rattle.interpreter.proofs.Acting.{may_pull, pulled_is, leaving_tells}
use Rattle.interpreter.proofs.calls.pull_out.Goals as goal

pub poke_pull-requires-clause-may : goal.poke_pull-requires-clause-may
poke_pull-requires-clause-may g c = may_pull g.S.Source.state g.D.Drain.state g.B.PlugBook.lists _ c.requires.laws _ c.requires.within c.requires.stage c.requires.can.1 c.requires.can.0

pub returns-clause-after : goal.returns-clause-after
returns-clause-after g c = c.poke_pull.ensures.after ∙ pulled_is g.S.Source.state g.D.Drain.state g.B.PlugBook.lists _ c.requires.laws _ c.requires.within

pub poke_pull-requires-clause-tells : goal.poke_pull-requires-clause-tells
poke_pull-requires-clause-tells g c =
    leaving_tells g.S.Source.state g.D.Drain.state g.B.PlugBook.lists c.args.engine.now c.requires.laws c.args.place c.requires.within c.requires.stage (Pull (end_at c.args.engine.now.ends c.args.place).input)
