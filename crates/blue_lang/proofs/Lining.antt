-- The words of a line, and the lines of canonical text.
use Rattle.std.proofs.Common.{◌≡◌, ℕ, ◌+◌, ◌≤◌, ◌<◌, Bool, true, false, cond, ltb, leb, eqb, List, [], ◌∷◌, ◌++◌, length, Err, refl, sym, ap, ◌∙◌, ⊎_elim, append_assoc, append-nil, length-append, arith}
use Rattle.std.specs.Prelude.{nat_lt}
use Rattle.std.specs.Char.{is_ascii_graphic}
use Rattle.std.specs.List.{All, filter, list_all, slice_split, onto_first}
use Rattle.std.proofs.lemmas.Bool.{cases_Bool, and_parts, and_from, le-leb, leb-true, lt-ltb, ltb-true, eqb-true, true≢false}
use Rattle.std.proofs.lemmas.List.Elements.{All-cons, All-nil}
use Rattle.std.proofs.lemmas.List.Folds.{list_all-append}
use Rattle.std.proofs.lemmas.List.Splits.{slice_split_at, slice_split_none}
use Rattle.elem_core.specs.Text.{words, lines}
use Rattle.blue_words.specs.declared.fault.BlueKind.TheVariants.{BadLine}
use Rattle.blue_words.specs.Line.{is_plain, is_plain_byte}
use Rattle.blue_words.specs.Names.{is_word}
use Rattle.blue_words.proofs.Plain.{lacks-all}
use Rattle.blue_words.proofs.Cutting.{cut_at-append, lines-cut}
use Rattle.blue_lang.specs.Spaced.{spaced}
use Rattle.blue_lang.specs.Canonical.{line_text}
use Rattle.blue_words.specs.declared.fault.Version.{Version}
use Rattle.blue_lang.specs.Declarations.{declared_by, declared_in}
use Rattle.blue_lang.proofs.Respelling.{Words, AllWords}
use Rattle.blue_lang.proofs.Declaring.{joined}

abbrev is_space : ℕ → Bool
is_space b = eqb b 32

abbrev graphic : List ℕ → Bool
graphic bs = list_all is_ascii_graphic bs

-- ---- a byte of a word is plain and no space
plain_graphic : (b : ℕ) → is_ascii_graphic b ≡ true → is_plain_byte b ≡ true
plain_graphic b h =
    let parts = and_parts (leb 33 b) (leb b 126) h in
    let low = leb-true 33 b parts.0 in
    and_from _ _ (le-leb 32 b (omega arith)) parts.1

graphic_is_no_space : (b : ℕ) → is_ascii_graphic b ≡ true → is_space b ≡ false
graphic_is_no_space b h =
    ⊎_elim (λ t. absurd (true≢false (sym h ∙ ap is_ascii_graphic (eqb-true b 32 t)))) (λ f. f) (cases_Bool (eqb b 32))

graphic_plain : (b : ℕ) → is_plain_byte b ≡ true → is_space b ≡ false → is_ascii_graphic b ≡ true
graphic_plain b h s =
    let parts = and_parts (leb 32 b) (leb b 126) h in
    let low = leb-true 32 b parts.0 in
    ⊎_elim
    (λ t. t)
    (λ f. let k : leb 33 b ≡ true = le-leb 33 b (⊎_elim (λ e. absurd (true≢false (sym e ∙ s))) (λ e. omega (arith, low, eqb_apart b e)) (cases_Bool (eqb b 32))) in and_from _ _ k parts.1)
    (cases_Bool (is_ascii_graphic b))
  where
    eqb_apart : (b : ℕ) → eqb b 32 ≡ false → b ≡ 32 → ⊥
    eqb_apart b e h = absurd (true≢false (sym (ap (λ x. eqb x 32) h) ∙ e))

plain_word : (w : List ℕ) → graphic w ≡ true → is_plain w ≡ true
plain_word [] h = refl
plain_word (b ∷ w) h =
    let parts = and_parts (is_ascii_graphic b) (graphic w) h in
    and_from _ _ (plain_graphic b parts.0) (plain_word w parts.1)

word_parts : (w : List ℕ) → is_word w ≡ true → (0 < length w) × (graphic w ≡ true)
word_parts w h = let parts = and_parts (ltb 0 (length w)) (graphic w) h in (ltb-true 0 (length w) parts.0, parts.1)

plain_spaced : (ws : Words) → AllWords ws → is_plain (spaced ws) ≡ true
plain_spaced [] h = refl
plain_spaced (w ∷ ws) h =
    let parts = and_parts (is_word w) (list_all is_word ws) h in
    and_from _ _ refl (list_all-append is_plain_byte w (spaced ws) ∙ and_from _ _ (plain_word w (word_parts w parts.0).1) (plain_spaced ws parts.1))

pub plain_joined : (ws : Words) → AllWords ws → is_plain (joined ws) ≡ true
plain_joined [] h = refl
plain_joined (w ∷ ws) h =
    let parts = and_parts (is_word w) (list_all is_word ws) h in
    list_all-append is_plain_byte w (spaced ws) ∙ and_from _ _ (plain_word w (word_parts w parts.0).1) (plain_spaced ws parts.1)

-- ---- the words of words that are joined
no_space : (w : List ℕ) → graphic w ≡ true → All (λ x. is_space x ≡ false) w
no_space [] h = All-nil (λ x. is_space x ≡ false)
no_space (b ∷ w) h =
    let parts = and_parts (is_ascii_graphic b) (graphic w) h in
    All-cons (λ x. is_space x ≡ false) b w (graphic_is_no_space b parts.0) (no_space w parts.1)

abbrev kept_parts : Words → Words
kept_parts ps = filter (λ w. nat_lt 0 (length w)) ps

kept_word : (w : List ℕ) (ps : Words) → 0 < length w → kept_parts (w ∷ ps) ≡ w ∷ kept_parts ps
kept_word w ps l = ap (λ t. cond t (w ∷ kept_parts ps) (kept_parts ps)) (lt-ltb 0 (length w) l)

pub words_joined : (w : List ℕ) (ws : Words) → AllWords (w ∷ ws) → words (w ++ spaced ws) ≡ w ∷ ws
words_joined w [] h =
    let k = word_parts w (and_parts (is_word w) true h).0 in
    let cut : slice_split is_space (w ++ []) ≡ w ∷ [] = ap (slice_split is_space) (append-nil w) ∙ slice_split_none is_space w (no_space w k.1) in
    ap kept_parts cut ∙ kept_word w [] k.0
words_joined w (v ∷ vs) h =
    let parts = and_parts (is_word w) (list_all is_word (v ∷ vs)) h in
    let k = word_parts w parts.0 in
    let cut = slice_split_at is_space w 32 (v ++ spaced vs) (no_space w k.1) refl in
    ap kept_parts cut ∙ (kept_word w (slice_split is_space (v ++ spaced vs)) k.0 ∙ ap (λ x. w ∷ x) (words_joined v vs parts.1))

-- a line of words declares what the words declare
pub joined_declares : (v : Version) (ws : Words) → 0 < length ws → AllWords ws → declared_in v (joined ws) ≡ declared_by v ws
joined_declares v [] l h = absurd (omega arith)
joined_declares v (w ∷ ws) l h =
    ap (λ t. cond t (declared_by v (words (joined (w ∷ ws)))) (Err BadLine)) (plain_joined (w ∷ ws) h) ∙ ap (declared_by v) (words_joined w ws h)

-- ---- the words of a plain line are words, and no longer than it
abbrev all_graphic : Words → Bool
all_graphic ps = list_all graphic ps

onto_kept : (b : ℕ) (ps : Words) → is_ascii_graphic b ≡ true → all_graphic ps ≡ true → all_graphic (onto_first b ps) ≡ true
onto_kept b [] g h = and_from _ _ (and_from _ _ g refl) refl
onto_kept b (p ∷ ps) g h =
    let parts = and_parts (graphic p) (all_graphic ps) h in
    and_from _ _ (and_from _ _ g parts.0) parts.1

onto_length : (b : ℕ) (ps : Words) → 0 < length ps → (length (spaced (onto_first b ps)) ≡ length (spaced ps) + 1) × (0 < length (onto_first b ps))
onto_length b [] l = absurd (omega arith)
onto_length b (p ∷ ps) l = (omega (arith, length-append p (spaced ps), length-append (b ∷ p) (spaced ps)), omega arith)

abbrev IsCut : List ℕ → Words → Type 0
IsCut l ps = (all_graphic ps ≡ true) × (length (spaced ps) ≡ length l + 1) × (0 < length ps)

cut_step : (b : ℕ) (l : List ℕ) (ps : Words) (t : Bool) → is_space b ≡ t → is_plain_byte b ≡ true → IsCut l ps → IsCut (b ∷ l) (cond t ([] ∷ ps) (onto_first b ps))
cut_step b l ps true e h c = (and_from _ _ refl c.0, omega (arith, c.1), omega arith)
cut_step b l ps false e h c =
    let k = onto_length b ps c.2 in
    (onto_kept b ps (graphic_plain b h e) c.0, omega (arith, k.0, c.1), k.1)

line_cut : (l : List ℕ) → is_plain l ≡ true → IsCut l (slice_split is_space l)
line_cut [] h = (refl, omega arith, omega arith)
line_cut (b ∷ l) h =
    let parts = and_parts (is_plain_byte b) (is_plain l) h in
    cut_step b l (slice_split is_space l) (is_space b) refl parts.0 (line_cut l parts.1)

parts_kept : (ps : Words) → all_graphic ps ≡ true → (AllWords (kept_parts ps)) × (length (spaced (kept_parts ps)) ≤ length (spaced ps))
parts_kept [] h = (refl, omega arith)
parts_kept (p ∷ ps) h =
    let parts = and_parts (graphic p) (all_graphic ps) h in
    let k = parts_kept ps parts.1 in
    one_part (ltb 0 (length p)) p ps refl parts.0 k.0 k.1
  where
    one_part : (t : Bool) (p : List ℕ) (ps : Words) → ltb 0 (length p) ≡ t → graphic p ≡ true → AllWords (kept_parts ps) → length (spaced (kept_parts ps)) ≤ length (spaced ps) → (AllWords (cond t (p ∷ kept_parts ps) (kept_parts ps))) × (length (spaced (cond t (p ∷ kept_parts ps) (kept_parts ps))) ≤ length (spaced (p ∷ ps)))
    one_part true p ps e g a l =
        (and_from _ _ (and_from _ _ e g) a, omega (arith, l, length-append p (spaced (kept_parts ps)), length-append p (spaced ps)))
    one_part false p ps e g a l = (a, omega (arith, l, length-append p (spaced ps)))

pub line_words : (l : List ℕ) → is_plain l ≡ true → AllWords (words l) × (length (spaced (words l)) ≤ length l + 1)
line_words l h =
    let c = line_cut l h in
    let k = parts_kept (slice_split is_space l) c.0 in
    (k.0, omega (arith, k.1, c.1))

-- ---- the lines of the canonical text
pub line_text_is : (ws : Words) → line_text ws ≡ joined ws ++ 10 ∷ []
line_text_is [] = refl
line_text_is (w ∷ ws) = sym (append_assoc w (spaced ws) (10 ∷ []))

pub first_line : (ws : Words) (rest : List ℕ) → AllWords ws → lines (line_text ws ++ rest) ≡ joined ws ∷ lines rest
first_line ws rest h =
    let plain = plain_joined ws h in
    let text : line_text ws ++ rest ≡ joined ws ++ 10 ∷ rest = ap (λ x. x ++ rest) (line_text_is ws) ∙ append_assoc (joined ws) (10 ∷ []) rest in
    ap lines text ∙ lines-cut (joined ws ++ 10 ∷ rest) (joined ws) rest (cut_at-append 10 (joined ws) rest (lacks-all 10 is_plain_byte refl (joined ws) plain))
