use Rattle.std.proofs.Common.{◌≡◌, length, vec_len}
use Rattle.blue_check.proofs.Numbering.{Numbering}
use Rattle.blue_check.proofs.homes.homes_of.Given as goal

abbrev pub invariant-loop-node : goal.invariant-loop-node
invariant-loop-node l = record {
  each : vec_len l.homes ≡ l.node;
  table : vec_len l.numbers ≡ length l.labels;
  numbering : Numbering l.labels l.homes.items l.firsts.items l.numbers.items;
}
