use Rattle.std.proofs.Common.{◌≡◌, ◌≤◌, ◌++◌, ◌+◌, length, drop}
use Rattle.port_core.specs.declared.act.Act.TheVariants.{Push}
use Rattle.stage_core.specs.OpenOuts.{at_open}
use Rattle.stage_out.specs.Copies.{push_to}
use Rattle.stage_out.proofs.copy_logic.CopyLogic.give_copies.Given as goal

abbrev pub invariant-loop-i : goal.invariant-loop-i
invariant-loop-i l = record {
  rest : l.acts.items ++ push_to l.last l.fn.e ++ at_open (λ j. Push j l.fn.e) l.i (drop l.i l.self.outs) ≡ l.initial.acts.items ++ at_open (λ j. Push j l.fn.e) 0 l.self.outs;
  room : l.acts.room ≡ l.initial.acts.room;
  fits : length l.acts.items + length (push_to l.last l.fn.e) ≤ length l.initial.acts.items + l.i;
}
