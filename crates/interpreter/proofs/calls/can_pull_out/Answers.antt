use Rattle.std.specs.Prelude.{IsTrue}
use Rattle.std.proofs.Common.{rules}
use Rattle.port_core.specs.Decoding.{can_pull}
use Rattle.fused_net.specs.Net.{wire_at, end_at}
use Rattle.interpreter.proofs.Acting.{clear_both}
use Rattle.interpreter.proofs.calls.can_pull_out.Goals as goal

pub returns-then-can_pull : goal.returns-then-can_pull
returns-then-can_pull g c =
    let p : IsTrue (can_pull (wire_at c.args.engine.now c.args.place).wire.conn) = search rules in
    clear_both c.args.engine.now (end_at c.args.engine.now.ends c.args.place).to c.is_clear.result _ (c.requires.laws.wired.to_within _ c.requires.within) p (rw c.ends-ends.ensures at c.is_clear.ensures)
