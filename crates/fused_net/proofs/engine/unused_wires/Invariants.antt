-- The loop of `engine::unused_wires`.
use Rattle.std.proofs.Common.{◌≡◌, replicate, vec_len, vec_capacity}
use Rattle.port_core.specs.Cell.{new_cell}
use Rattle.fused_net.proofs.engine.unused_wires.Given as goal

abbrev pub invariant-loop-i : goal.invariant-loop-i
invariant-loop-i l = (l.wires.items ≡ replicate l._i new_cell) × (vec_len l.wires ≡ l._i) × (vec_capacity l.wires ≡ vec_capacity l.initial.wires)
