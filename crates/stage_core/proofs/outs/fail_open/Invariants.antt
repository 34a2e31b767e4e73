use Rattle.std.proofs.Common.{◌≡◌, ◌≤◌, ◌++◌, ◌+◌, length, drop}
use Rattle.port_core.specs.declared.act.Act.TheVariants.{FailOut}
use Rattle.stage_core.specs.OpenOuts.{at_open}
use Rattle.stage_core.proofs.outs.fail_open.Given as goal

abbrev pub invariant-loop-i : goal.invariant-loop-i
invariant-loop-i l = record {
  rest : l.acts.items ++ at_open (λ j. FailOut j l.cause) l.i (drop l.i l.outs) ≡ l.initial.acts.items ++ at_open (λ j. FailOut j l.cause) 0 l.outs;
  room : l.acts.room ≡ l.initial.acts.room;
  fits : length l.acts.items ≤ length l.initial.acts.items + l.i;
}
