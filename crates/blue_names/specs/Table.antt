-- Tables of names, and what they know.
use Rattle.std.specs.Prelude.{◌≡◌, ℕ, List, Option}
use Rattle.std.specs.HashMap.{HashMap, get_by}
use denote.Ref.{Bor}
use Rattle.elem_core.specs.Values.{same_text}
use Rattle.blue_names.specs.RuleLinks.{number_from}

-- the number that a table has for a name
abbrev pub number_in : {S : Type 0} → HashMap (Bor (List ℕ)) ℕ S → List ℕ → Option ℕ
number_in m q = get_by (λ k. same_text q k.now) m

-- the table has the place of each of these names
pub record Numbers {S : Type 0} (m : HashMap (Bor (List ℕ)) ℕ S) (names : List (List ℕ)) : Type 0 where
  pub at : (q : List ℕ) → number_in m q ≡ number_from q 0 names
