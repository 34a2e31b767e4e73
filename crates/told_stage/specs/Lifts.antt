-- The types of what a plug gives that is lifted.
use Rattle.std.specs.Prelude.{◌≡◌, true, List}
use Rattle.elem_core.specs.Sort.{Sort}
use Rattle.elem_core.specs.Tree.{Tree}
use Rattle.elem_core.specs.Typed.{is_of}
use Rattle.plug_logic.specs.Gives.{Gives}
use Rattle.graph_stage.specs.Told.{AllOfType, all_of}

-- of elements of the first type it gives elements of the second
pub record TurnsInto (from to : Sort) (p : Gives) : Type 0 where
  pub reply : (took : List Tree) (t : Tree) → all_of from took ≡ true → is_of from t ≡ true → AllOfType to (p.reply took t).gave
  pub closing : (took : List Tree) → all_of from took ≡ true → AllOfType to (p.closing took).gave
