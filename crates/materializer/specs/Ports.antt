-- The ports of a node that its wires use.
use Rattle.std.specs.Prelude.{ℕ, ◌+◌, max, if◌then◌else◌, List, [], ◌∷◌}
use Rattle.elem_core.specs.Values.{same_text}
use Rattle.stream_model.specs.declared.blueprint.WireDecl.{WireDecl}

-- one above the highest input of that node to which one of these wires leads
abbrev pub used_inputs : List WireDecl → List ℕ → ℕ
used_inputs [] name = 0
used_inputs (w ∷ ws) name = max (if same_text name w.to then w.input + 1 else 0) (used_inputs ws name)

-- one above the highest output of that node from which one of these wires comes
abbrev pub used_outputs : List WireDecl → List ℕ → ℕ
used_outputs [] name = 0
used_outputs (w ∷ ws) name = max (if same_text name w.from then w.output + 1 else 0) (used_outputs ws name)

-- Choice: docs/DECISIONS.md#ports-by-wires
-- both: so many inputs and outputs has a custom stage of a blueprint that breaks no rule
abbrev pub used_ports : List WireDecl → List ℕ → ℕ × ℕ
used_ports ws name = (used_inputs ws name, used_outputs ws name)
