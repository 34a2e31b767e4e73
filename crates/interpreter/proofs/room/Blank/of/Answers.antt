-- The goal of `room::Blank::of`.
use Rattle.std.proofs.Common.{rules, arith}
use Rattle.interpreter.proofs.room.Blank.of.Goals as goal

pub returns : goal.returns
returns g c = record {
  ends = c.in_ok-ends.ensures;
  rows = c.in_ok-ports.ensures;
  wires = c.in_ok-wires.ensures;
  ring = c.in_ok-ring.ensures;
  no_nodes = search rules;
  room_for_nodes = search (rules, arith);
}
