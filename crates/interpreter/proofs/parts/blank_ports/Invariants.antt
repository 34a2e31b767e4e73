-- The loop of `parts::blank_ports`.
use Rattle.std.proofs.Common.{◌≡◌, ℕ, ◌<◌, length}
use Rattle.fused_net.specs.Net.{port_at}
use Rattle.interpreter.specs.Parts.{input_count_at, output_count_at}
use Rattle.interpreter.proofs.parts.blank_ports.Given as goal

abbrev pub invariant-loop-n : goal.invariant-loop-n
invariant-loop-n l = (length l.ports.items ≡ l.n)
    × ((k : ℕ) → k < l.n → length (port_at l.ports.items k).ins ≡ input_count_at l.fn.places k)
    × ((k : ℕ) → k < l.n → length (port_at l.ports.items k).outs ≡ output_count_at l.fn.places k)
