use Rattle.std.proofs.Common.{◌≡◌, rules, false}
use Rattle.fused_net.specs.Net.{wire_at}
use Rattle.port_core.specs.View.{input_closed}
use Rattle.interpreter.proofs.Acting.{may_cancel}
use Rattle.interpreter.proofs.calls.cancel.Goals as goal

pub poke-requires-clause-may : goal.poke-requires-clause-may
poke-requires-clause-may g c =
    let free : input_closed (wire_at c.args.engine.now c.args.place).wire.inp ≡ false = search rules in
    rw c.ends-ends.ensures (may_cancel g.S.Source.state g.D.Drain.state g.B.PlugBook.lists _ c.requires.laws _ c.requires.within c.requires.stage free)
