use Rattle.std.proofs.Common.{is_none, arith}
use Rattle.blue_names.specs.First.{when}
use Rattle.blue_names.specs.Wiring.{found_in}
use Rattle.blue_names.proofs.OpenPorts.{first_from_count}
use Rattle.blue_names.proofs.ports.open_among.Goals as goal

pub loop-port-preserved : goal.loop-port-preserved
loop-port-preserved c =
    let e = first_from_count (λ _ p. when (is_none (found_in c.args.table.now c.args.node p)) p) c.loop-port.port c.args.count c.loop-port-test.true in
    grind (arith, e, c.loop-port.invariant, c.wire_at.ensures, c.is_none.ensures, c.if-is_none.false)
