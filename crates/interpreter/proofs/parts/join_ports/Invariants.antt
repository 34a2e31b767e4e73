-- The loop of `parts::join`.
use Rattle.std.proofs.Common.{length}
use Rattle.interpreter.specs.Parts.{ins_in, outs_in, IsSized, IsFilledUpTo}
use Rattle.interpreter.proofs.parts.join_ports.Given as goal

abbrev pub invariant-loop-w : goal.invariant-loop-w
invariant-loop-w l = IsSized (ins_in l.initial.ports.items) (outs_in l.initial.ports.items) (length l.initial.ports.items) l.ports.items × IsFilledUpTo l.fn.ends l.ports.items l.w
