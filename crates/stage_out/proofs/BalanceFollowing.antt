-- A new balance that takes moves to follow is a new balance still.
use Rattle.std.proofs.Common.{◌≡◌, ℕ, false, List, [], sym, ap, ◌∙◌, subst, Option, Some}
use Rattle.port_core.specs.Picks.{Picks}
use Rattle.stage_out.specs.Balancings.{Core, Balancing, Begins, NamesOutputs}

-- a new balance of so many outputs is one of no other number
one_fan : (m n : ℕ) (l : Balancing) → Begins m l → Begins n l → m ≡ n
one_fan m n l x y = ap (λ (c : Core). c.room) (sym x.core ∙ y.core)

pub follows : (old : Balancing) (was log : Picks) (core : Core) (moves : List ℕ) (n : ℕ) → record { log = was; core = core } ≡ old → Begins n old → NamesOutputs n (Some moves) → log.moves ≡ [] → log.left ≡ Some moves → log.stuck ≡ false
    → (k : ℕ) → Begins k old → Begins k (record { log = log; core = core })
follows old was log core moves n is begun named none left calm k as_k = record {
  moves = none;
  calm = calm;
  named = subst (λ (p : Option (List ℕ)). NamesOutputs k p) (sym left) (subst (λ i. NamesOutputs i (Some moves)) (sym (one_fan k n old as_k begun)) named);
  core = ap (λ (m : Balancing). m.core) is ∙ as_k.core;
}
