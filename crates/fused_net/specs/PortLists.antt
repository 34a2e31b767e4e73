-- The wires of a node, by its ports.
use Rattle.std.specs.Prelude.{ℕ, List}

-- the wires of its inputs and those of its outputs, each in the order of the ports
pub record PortLists : Type 0 where
  pub ins : List ℕ
  pub outs : List ℕ
