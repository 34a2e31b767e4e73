-- What is known of all that a caller hands in.
use Rattle.std.specs.Prelude.{ℕ, List, map}
use Rattle.elem_core.specs.Sort.{Sort}
use Rattle.stream_model.specs.declared.head.PlugHead.{PlugHead}
use Rattle.stream_model.specs.declared.head.CustomHead.{CustomHead}

-- Choice: docs/DECISIONS.md#heads-are-one-value
-- a custom stage's name, and the types of its inputs and of its outputs
pub record CustomShape : Type 0 where
  pub name : List ℕ
  pub inputs : List Sort
  pub outputs : List Sort

-- what a head says
abbrev pub head_shape : CustomHead → CustomShape
head_shape h = record { name = h.name; inputs = h.inputs.items; outputs = h.outputs.items }

-- the heads of its plugs, and what those of its custom stages say
pub record HeadLists : Type 0 where
  pub plugs : List PlugHead
  pub customs : List CustomShape
