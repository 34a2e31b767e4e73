use Rattle.std.proofs.Common.{◌∙◌}
use Rattle.interpreter.proofs.Acting.{may_push, pushed_is}
use Rattle.interpreter.proofs.calls.push_in.Goals as goal

pub poke_push-requires-clause-may : goal.poke_push-requires-clause-may
poke_push-requires-clause-may g c = may_push g.S.Source.state g.D.Drain.state g.B.PlugBook.lists _ c.requires.laws _ c.requires.within c.args.e c.requires.stage c.requires.asked

pub returns-clause-after : goal.returns-clause-after
returns-clause-after g c = c.poke_push.ensures.after ∙ pushed_is g.S.Source.state g.D.Drain.state g.B.PlugBook.lists _ c.requires.laws _ c.requires.within c.args.e
