-- The goals of `island::assemble` that the search leaves.
use Rattle.std.proofs.Common.{◌∙◌, ℕ, [], length, replicate, sym, ap, subst}
use Rattle.port_core.specs.Ring.{Ring}
use Rattle.port_core.specs.Cell.{new_cell}
use Rattle.interpreter.specs.Parts.{inputs_at, outputs_at, IsSized}
use Rattle.interpreter.proofs.Tables.{rows_count, rows_wiring, rows_sized}
use Rattle.interpreter.proofs.Islands.{same_count, all_fresh, ends_many, parts_wired}
use Rattle.interpreter.proofs.island.assemble.Goals as goal

pub join_ports-requires-clause-wiring : goal.join_ports-requires-clause-wiring
join_ports-requires-clause-wiring g c = rows_wiring c.args.parts.nodes.items c.args.blank.ports.items c.requires.blank.rows _ _ (c.deref.ensures.value ∙ c.requires.blank.ends) c.requires.parts.wiring

pub new-requires-clause-wired : goal.new-requires-clause-wired
new-requires-clause-wired g c = parts_wired c.args.parts.nodes.items _ _ c.args.blank.ports.items _ c.build_all-nodes.ensures (rows_count c.args.parts.nodes.items c.args.blank.ports.items c.requires.blank.rows) (rw c.deref.ensures.value at c.join_ports.ensures.wired)

pub new-requires-clause-wires : goal.new-requires-clause-wires
new-requires-clause-wires g c = c.requires.blank.wires ∙ ends_many _ _ (λ (n : ℕ). replicate n new_cell) c.requires.blank.ends

pub new-requires-clause-ring : goal.new-requires-clause-ring
new-requires-clause-ring g c = let ring : ℕ → Ring = λ n. record { size = n; queue = [] } in c.requires.blank.ring ∙ ends_many _ _ ring c.requires.blank.ends

pub new-requires-clause-fresh : goal.new-requires-clause-fresh
new-requires-clause-fresh g c = all_fresh c.args.parts.nodes.items _ _ c.requires.parts.unused c.build_all-nodes.ensures (rows_sized c.args.parts.nodes.items c.args.blank.ports.items c.requires.blank.rows _ c.join_ports.ensures.sized)

pub returns-clause-ports : goal.returns-clause-ports
returns-clause-ports g c = subst (IsSized (inputs_at c.args.parts.nodes.items) (outputs_at c.args.parts.nodes.items) (length c.args.parts.nodes.items)) (sym c.new.ensures.ports) (rows_sized c.args.parts.nodes.items c.args.blank.ports.items c.requires.blank.rows _ c.join_ports.ensures.sized)

pub returns-clause-count : goal.returns-clause-count
returns-clause-count g c = ap length c.new.ensures.nodes ∙ same_count _ _ c.build_all-nodes.ensures ∙ sym c.args.parts.nodes.ok.0
