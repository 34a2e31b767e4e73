-- Lines whose bytes are spaces and bytes of words, and bytes that a text lacks.
use Rattle.std.proofs.Common.{◌≡◌, ℕ, Bool, true, false, not, eqb, List, [], ◌∷◌, refl, sym, ap, ◌∙◌, ⊎_elim}
use Rattle.std.specs.Char.{is_ascii_alphanumeric, is_ascii_lowercase}
use Rattle.std.specs.List.{list_all}
use Rattle.std.proofs.lemmas.Bool.{cases_Bool, eqb-true, and_parts, and_from, true≢false}
use Rattle.elem_core.specs.Line.{has_no_lf}
use Rattle.blue_words.specs.Line.{is_plain, is_plain_byte}
use Rattle.blue_words.specs.Names.{is_name, is_name_byte, is_file_name, is_file_byte}

-- no byte is c
abbrev pub lacks : ℕ → List ℕ → Bool
lacks c bs = list_all (λ b. not (eqb b c)) bs

differs : (c : ℕ) (p : ℕ → Bool) → p c ≡ false → (b : ℕ) → p b ≡ true → not (eqb b c) ≡ true
differs c p e b h =
    ⊎_elim (λ t. absurd (true≢false (sym h ∙ (ap p (eqb-true b c t) ∙ e)))) (λ f. ap not f) (cases_Bool (eqb b c))

-- bytes that all pass a test that c does not pass
pub lacks-all : (c : ℕ) (p : ℕ → Bool) → p c ≡ false → (bs : List ℕ) → list_all p bs ≡ true → lacks c bs ≡ true
lacks-all c p e [] h = refl
lacks-all c p e (b ∷ bs) h =
    let parts = and_parts (p b) (list_all p bs) h in
    and_from _ _ (differs c p e b parts.0) (lacks-all c p e bs parts.1)

-- a plain line holds no LF
pub no_lf_from_plain : (bs : List ℕ) → is_plain bs ≡ true → has_no_lf bs ≡ true
no_lf_from_plain bs h = lacks-all 10 is_plain_byte refl bs h

-- a name holds no LF, nor any byte that no name has
pub lacks-name : (c : ℕ) → is_ascii_lowercase c ≡ false → is_name_byte c ≡ false → (bs : List ℕ) → is_name bs ≡ true → lacks c bs ≡ true
lacks-name c d e [] h = refl
lacks-name c d e (b ∷ bs) h =
    let parts = and_parts _ (list_all is_name_byte bs) h in
    and_from _ _ (differs c is_ascii_lowercase d b (and_parts _ _ parts.0).0) (lacks-all c is_name_byte e bs parts.1)

pub lacks-file : (c : ℕ) → is_ascii_alphanumeric c ≡ false → is_file_byte c ≡ false → (bs : List ℕ) → is_file_name bs ≡ true → lacks c bs ≡ true
lacks-file c d e [] h = refl
lacks-file c d e (b ∷ bs) h =
    let parts = and_parts _ (list_all is_file_byte bs) h in
    and_from _ _ (differs c is_ascii_alphanumeric d b (and_parts _ _ parts.0).0) (lacks-all c is_file_byte e bs parts.1)

pub no_lf_from_name : (bs : List ℕ) → is_name bs ≡ true → has_no_lf bs ≡ true
no_lf_from_name bs h = lacks-name 10 refl refl bs h

pub no_lf_from_file : (bs : List ℕ) → is_file_name bs ≡ true → has_no_lf bs ≡ true
no_lf_from_file bs h = lacks-file 10 refl refl bs h
