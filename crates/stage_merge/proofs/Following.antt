-- A new merge that takes moves to follow is a new merge still.
use Rattle.std.proofs.Common.{◌≡◌, ℕ, Bool, false, List, [], sym, ap, ◌∙◌, subst}
use Rattle.std.specs.Prelude.{Option, Some}
use Rattle.port_core.specs.Picks.{Picks}
use Rattle.stage_merge.specs.Mergings.{Core, Merging, Begins, NamesInputs}

-- a new merge of so many inputs is one of no other number
one_fan : (m n : ℕ) (a b : Bool) (l : Merging) → Begins m a l → Begins n b l → m ≡ n
one_fan m n a b l x y = ap (λ (c : Core). c.room) (sym x.core ∙ y.core)

followed : (old : Merging) (log : Picks) (moves : List ℕ) (n : ℕ) (a : Bool) → Begins n a old → NamesInputs n (Some moves) → log.moves ≡ [] → log.left ≡ Some moves → log.stuck ≡ false
    → (k : ℕ) (b : Bool) → Begins k b old → Begins k b (record old { log = log })
followed old log moves n a begun named none left calm k b as_k = record {
  moves = none;
  way = as_k.way;
  calm = calm;
  named = subst (λ (p : Option (List ℕ)). NamesInputs k p) (sym left) (subst (λ i. NamesInputs i (Some moves)) (sym (one_fan k n b a old as_k begun)) named);
  core = as_k.core;
}

-- the same of its parts
pub follows : (old : Merging) (was log : Picks) (gathers : Bool) (core : Core) (moves : List ℕ) (n : ℕ) (a : Bool) → record { log = was; gathers = gathers; core = core } ≡ old → Begins n a old → NamesInputs n (Some moves)
    → log.moves ≡ [] → log.left ≡ Some moves → log.stuck ≡ false → (k : ℕ) (b : Bool) → Begins k b old → Begins k b (record { log = log; gathers = gathers; core = core })
follows old was log gathers core moves n a is begun named none left calm k b as_k =
    subst (λ (m : Merging). Begins k b (record m { log = log })) (sym is) (followed old log moves n a begun named none left calm k b as_k)
