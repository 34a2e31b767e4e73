-- Claims as the rules see them, and what tables of the names and files that are taken know.
use Rattle.std.specs.Prelude.{◌≡◌, ℕ, List, is_some}
use Rattle.std.specs.HashMap.{HashMap}
use Rattle.std.specs.List.{list_any}
use denote.Ref.{Bor}
use Rattle.blue_names.specs.Names as rule
use Rattle.blue_names.specs.declared.claims.NameClaim.{NameClaim}
use Rattle.blue_names.specs.declared.claims.NameClaim.TheVariants.{Called, Opens, Hires}
use Rattle.blue_names.specs.Table.{number_in}

-- a claim by its text
abbrev pub claim_of : NameClaim → rule.Claim
claim_of (Called l) = rule.called l.now
claim_of (Opens l) = rule.opens l.now
claim_of (Hires l) = rule.hires l.now

-- the tables have just the names, the files and the custom stages among these claims
pub record Knows {S : Type 0} (names files customs : HashMap (Bor (List ℕ)) ℕ S) (before : List rule.Claim) : Type 0 where
  pub named : (q : List ℕ) → is_some (number_in names q) ≡ list_any (rule.same_claim (rule.called q)) before
  pub opened : (q : List ℕ) → is_some (number_in files q) ≡ list_any (rule.same_claim (rule.opens q)) before
  pub hired : (q : List ℕ) → is_some (number_in customs q) ≡ list_any (rule.same_claim (rule.hires q)) before
