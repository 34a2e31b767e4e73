use Rattle.std.proofs.Common.{◌≡◌, rules, false}
use Rattle.fused_net.specs.Net.{wire_at}
use Rattle.port_core.specs.View.{output_closed}
use Rattle.interpreter.proofs.Acting.{may_end, end_tells}
use Rattle.interpreter.proofs.calls.end_in.Goals as goal

pub poke-requires-clause-may : goal.poke-requires-clause-may
poke-requires-clause-may g c =
    let free : output_closed (wire_at c.args.engine.now c.args.place).wire.out ≡ false = search rules in
    rw (c.end_act.ensures, c.ends-ends.ensures) (may_end g.S.Source.state g.D.Drain.state g.B.PlugBook.lists _ c.requires.laws _ c.requires.within c.args.cause c.requires.stage free)

pub poke-requires-clause-tells : goal.poke-requires-clause-tells
poke-requires-clause-tells g c = rw c.end_act.ensures (end_tells c.args.engine.now c.ends-ends.result.from c.ends-ends.result.output c.args.cause)
