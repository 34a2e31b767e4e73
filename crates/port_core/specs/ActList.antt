-- The actions that a handler wants done, with the room for them.
use Rattle.std.specs.Prelude.{ℕ, List}
use Rattle.port_core.specs.declared.act.Act.{Act}

-- how many actions there may be, and the actions, first in first out
pub record ActList : Type 0 where
  pub room : ℕ
  pub items : List Act
