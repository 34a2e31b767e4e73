-- The ports of a custom stage, which are those of its head.
use Rattle.std.specs.Prelude.{ℕ, Bool, true, false, ◌&&◌, not, ◌==◌, min, nat_le, if◌then◌else◌, List, [], ◌∷◌, length, slice_get, is_none, Option, Some, None}
use Rattle.std.specs.Option.{option_and_then, option_or}
use Rattle.elem_core.specs.Sort.{Sort, nesting}
use Rattle.elem_core.specs.Values.{same_text}
use Rattle.stream_model.specs.Composed.{inputs_by}
use Rattle.stream_model.specs.Known.{CustomShape, HeadLists}
use Rattle.stream_model.specs.Linear.{Mention, no_name, a_file, a_switch, a_trip, a_plug, a_custom, a_chain, mention_of}
use Rattle.stream_model.specs.View.{outputs_by}
use Rattle.stream_model.specs.declared.kind.Kind.{Kind}
use Rattle.blue_names.specs.First.{first_from, when}
use Rattle.blue_names.specs.declared.typed.TheConstants.{MAX_NESTING}

-- the first of these that has that name
abbrev pub named : {X : Type 0} → (X → List ℕ) → List ℕ → List X → Option X
named text name [] = None
named text name (x ∷ xs) = if same_text name (text x) then Some x else named text name xs

-- the custom stage that is named
abbrev custom_in : Mention → Option (List ℕ)
custom_in no_name = None
custom_in (a_file file) = None
custom_in (a_switch name) = None
custom_in (a_trip order name n) = None
custom_in (a_plug name) = None
custom_in (a_custom name) = Some name
custom_in (a_chain name) = None

-- the custom stage that a node names
abbrev pub custom_of : Kind → Option (List ℕ)
custom_of k = custom_in (mention_of k)

-- the head of that name
abbrev pub custom_named : HeadLists → List ℕ → Option CustomShape
custom_named heads name = named (λ c. c.name) name heads.customs

-- the head of the custom stage that a node names, where it is handed in
abbrev pub custom_head : HeadLists → Kind → Option CustomShape
custom_head heads k = option_and_then (custom_named heads) (custom_of k)

-- the most ports that are counted
abbrev pub MOST_PORTS : ℕ
MOST_PORTS = 4294967295

-- how many inputs and how many outputs a head has
abbrev pub head_ports : Option CustomShape → ℕ × ℕ
head_ports None = (0, 0)
head_ports (Some h) = (min (length h.inputs) MOST_PORTS, min (length h.outputs) MOST_PORTS)

-- how many inputs a node of this kind has
abbrev pub kind_inputs : HeadLists → Kind → ℕ
kind_inputs heads k = inputs_by (head_ports (custom_head heads k)) k

-- how many outputs it has
abbrev pub kind_outputs : HeadLists → Kind → ℕ
kind_outputs heads k = outputs_by (head_ports (custom_head heads k)) k

-- a custom stage that is not handed in is named, and there is no head by which its ports could be tested
abbrev pub lacks_head : Option (List ℕ) → Option CustomShape → Bool
lacks_head None h = false
lacks_head (Some name) h = is_none h

-- the same of a kind
abbrev pub is_headless : HeadLists → Kind → Bool
is_headless heads k = lacks_head (custom_of k) (custom_head heads k)

-- a head has at most eight inputs and at most eight outputs, and a port
abbrev pub head_fits : Option CustomShape → Bool
head_fits None = true
head_fits (Some h) = nat_le (length h.inputs) 8 && (nat_le (length h.outputs) 8 && not (length h.inputs == 0 && length h.outputs == 0))

-- ---- its types

-- the type of an input, where there is the head and it has the input
abbrev pub input_type : Option CustomShape → ℕ → Option Sort
input_type None p = None
input_type (Some h) p = slice_get h.inputs p

-- the type of an output, where there is the head and it has the output
abbrev pub output_type : Option CustomShape → ℕ → Option Sort
output_type None p = None
output_type (Some h) p = slice_get h.outputs p

-- Choice: docs/DECISIONS.md#deep-head-fixes-none
-- what stands for the types of its outputs: the first that nests too deep, since it keeps all of them from being fixed, and else the first
abbrev pub outputs_type : Option CustomShape → Option Sort
outputs_type None = None
outputs_type (Some h) = option_or (first_from (λ _ t. when (not (nat_le (nesting t) MAX_NESTING)) t) 0 h.outputs) (slice_get h.outputs 0)
