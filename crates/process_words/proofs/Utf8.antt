-- The test of UTF-8.
use Rattle.std.proofs.Common.{◌≡◌, ℕ, Bool, true, false, List, refl, sym}
use Rattle.std.specs.Str.{IsUtf8, is_utf8}
use Rattle.std.proofs.lemmas.Str.{IsUtf8-from_is_utf8, is_utf8-from_IsUtf8}

pub holds : (bs : List ℕ) → IsUtf8 bs → true ≡ is_utf8 bs
holds bs h = sym (is_utf8-from_IsUtf8 bs h)

not_true : (b : Bool) → (b ≡ true → ⊥) → false ≡ b
not_true false h = refl
not_true true h = absurd (h refl)

pub fails : (bs : List ℕ) → (IsUtf8 bs → ⊥) → false ≡ is_utf8 bs
fails bs h = not_true (is_utf8 bs) (λ e. h (IsUtf8-from_is_utf8 bs e))
