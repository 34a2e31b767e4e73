-- A canonical text with comments says what it says without them.
use Rattle.std.proofs.Common.{◌≡◌, ◌≤◌, ◌∙◌, ℕ, true, List, [], ◌∷◌, ◌++◌, length, sym, subst, append_assoc}
use Rattle.std.specs.Str.{bytes_eq}
use Rattle.std.proofs.lemmas.Slice.Eq.{bytes_eq-Decides}
use Rattle.blue_lang.proofs.Roundtrip.{canonical_says}
use Rattle.blue_lang.specs.Texts.{Says}
use Rattle.blue_lang.specs.Canonical.{canonical}
use Rattle.blue_modules.specs.Text.{PlainText}

-- texts that are compared as the same are the same
pub same_bytes : (a b : List ℕ) → bytes_eq a b ≡ true → a ≡ b
same_bytes a b is = (bytes_eq-Decides a b).0 is

-- a text says what another says whose canonical text is the same
pub says_same : (text said : List ℕ) (m n : PlainText) → Says text m → Says said n → canonical n ≡ canonical m → length (canonical m) ≤ 1048576 → Says said m
says_same text said m n of again same short =
    let own : Says (canonical m) m = canonical_says text m of short in
    let other : Says (canonical m) n = subst (λ c. Says c n) same (canonical_says said n again (subst (λ c. length c ≤ 1048576) (sym same) short)) in
    subst (λ x. Says said x) (sym other.declared ∙ own.declared) again

-- a line is put behind what was put before it
pub line_put : (out l rest whole : List ℕ) → out ++ (l ++ (10 ∷ rest)) ≡ whole → ((out ++ l) ++ (10 ∷ [])) ++ rest ≡ whole
line_put out l rest whole is = append_assoc (out ++ l) (10 ∷ []) rest ∙ (append_assoc out l (10 ∷ rest) ∙ is)
