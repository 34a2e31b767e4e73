-- Words, names and numbers are read again from their spelling.
use Rattle.std.proofs.Common.{◌≡◌, ℕ, zero, suc, ◌≤◌, ◌<◌, ◌^◌, ℤ, pos, negsuc, neg_ℤ, Bool, true, false, ◌&&◌, ltb, leb, eqb, cond, List, [], ◌∷◌, length, Result, Ok, Err, refl, sym, ap, subst, ◌∙◌, ⊎_elim, arith, rules}
use Rattle.std.specs.List.{list_all}
use Rattle.std.specs.Char.{is_ascii_digit, is_ascii_graphic, is_ascii_lowercase}
use Rattle.std.specs.Fmt.{decimal, signed_decimal}
use Rattle.std.specs.Result.{result_unwrap_or}
use Rattle.std.specs.Str.Parse.{digits_value}
use Rattle.std.proofs.lemmas.Bool.{cases_Bool, and_parts, and_from, lt-ltb, ltb-true, leb-true, le-leb, eqb-true, true≢false}
use Rattle.std.proofs.lemmas.Str.Parse.{IsNumeralModel, numerals_by_value}
use Rattle.std.proofs.lemmas.Fmt.{decimal_nonempty, digits_decimal, digits_value-decimal, length-decimal-le}
use Rattle.std.proofs.lemmas.Int.Digits.{digits_value-lt}
use Rattle.elem_core.specs.Number.{fits}
use Rattle.blue_words.specs.declared.fault.BlueKind.{BlueKind}
use Rattle.blue_words.specs.declared.fault.BlueKind.TheVariants.{BadName, BadNumber}
use Rattle.blue_words.specs.Names.{is_word, is_name, is_name_byte, is_file_name}
use Rattle.blue_words.specs.Numbers.{are_digits, read_count, read_fitting, read_int, read_name, read_file_name}
use Rattle.blue_words.specs.Reading.{word, name, file, int, count, size}
use Rattle.blue_lang.proofs.Respelling.{Respelled, Words, place_respelled}

-- lists of digits, and the number that they are
own : IsNumeralModel (λ ds. list_all is_ascii_digit ds ≡ true) (digits_value 10)
own = numerals_by_value _ (search rules)

-- a value that a test lets through
pub tested : {A E : Type 0} (t : Bool) (a b : A) (e : E) → ◌≡◌ {A = Result A E} (cond t (Ok a) (Err e)) (Ok b) → (t ≡ true) × (a ≡ b)
tested true a b e h = (refl, ap (λ r. result_unwrap_or r a) h)
tested false a b e h = absurd (let k : ⊥ = cc in k)

graphic_digit : (b : ℕ) → is_ascii_digit b ≡ true → is_ascii_graphic b ≡ true
graphic_digit b h =
    let parts = and_parts (leb 48 b) (leb b 57) h in
    let low = leb-true 48 b parts.0 in
    let high = leb-true b 57 parts.1 in
    and_from _ _ (le-leb 33 b (omega arith)) (le-leb b 126 (omega arith))

pub graphic_digits : (ds : List ℕ) → list_all is_ascii_digit ds ≡ true → list_all is_ascii_graphic ds ≡ true
graphic_digits [] h = refl
graphic_digits (d ∷ ds) h =
    let parts = and_parts (is_ascii_digit d) (list_all is_ascii_digit ds) h in
    and_from _ _ (graphic_digit d parts.0) (graphic_digits ds parts.1)

-- the decimal of a number is digits, at most as many as any digits of that number
pub decimal_digits : (n : ℕ) → n < 2 ^ 64 → list_all is_ascii_digit (decimal n) ≡ true
decimal_digits n h = digits_decimal own n h

decimal_are_digits : (n : ℕ) → n < 2 ^ 64 → are_digits (decimal n) ≡ true
decimal_are_digits n h =
    and_from _ _ (and_from _ _ (lt-ltb 0 (length (decimal n)) (decimal_nonempty n h)) (le-leb (length (decimal n)) 20 (length-decimal-le 20 n (omega arith) (omega arith) h))) (decimal_digits n h)

decimal_shorter : (ds : List ℕ) → are_digits ds ≡ true → digits_value 10 ds < 2 ^ 64 → length (decimal (digits_value 10 ds)) ≤ length ds
decimal_shorter ds h l =
    let parts = and_parts _ (list_all is_ascii_digit ds) h in
    let long = ltb-true 0 (length ds) (and_parts (ltb 0 (length ds)) _ parts.0).0 in
    length-decimal-le (length ds) (digits_value 10 ds) long (digits_value-lt 10 ds (own.to ds parts.1)) l

decimal_is_word : (n : ℕ) → n < 2 ^ 64 → is_word (decimal n) ≡ true
decimal_is_word n h =
    and_from _ _ (lt-ltb 0 (length (decimal n)) (decimal_nonempty n h)) (graphic_digits (decimal n) (decimal_digits n h))

-- a number that was read is read again from its decimal
pub count_again : (bits : ℕ) (w : List ℕ) (n : ℕ) → 2 ^ bits ≤ 2 ^ 64 → read_count bits w ≡ Ok n → (read_count bits (decimal n) ≡ Ok n) × (length (decimal n) ≤ length w) × (is_word (decimal n) ≡ true)
count_again bits w n small h =
    let t = tested (are_digits w && ltb (digits_value 10 w) (2 ^ bits)) (digits_value 10 w) n BadNumber h in
    let parts = and_parts (are_digits w) (ltb (digits_value 10 w) (2 ^ bits)) t.0 in
    let below : digits_value 10 w < 2 ^ bits = ltb-true (digits_value 10 w) (2 ^ bits) parts.1 in
    let bound : n < 2 ^ bits = subst (λ x. x < 2 ^ bits) t.1 below in
    let few : n < 2 ^ 64 = omega arith in
    let value : digits_value 10 (decimal n) ≡ n = digits_value-decimal own n few in
    let room : ltb (digits_value 10 (decimal n)) (2 ^ bits) ≡ true = ap (λ x. ltb x (2 ^ bits)) value ∙ lt-ltb n (2 ^ bits) bound in
    let ok : (are_digits (decimal n) && ltb (digits_value 10 (decimal n)) (2 ^ bits)) ≡ true = and_from _ _ (decimal_are_digits n few) room in
    let here : digits_value 10 w < 2 ^ 64 = omega arith in (
      ap (λ t. cond t (Ok (digits_value 10 (decimal n))) (Err BadNumber)) ok ∙ ap (λ x. Ok x) value,
      subst (λ x. length (decimal x) ≤ length w) t.1 (decimal_shorter w parts.0 here),
      decimal_is_word n few,
    )

-- ---- numbers with a sign
plain_int : (ds : List ℕ) → are_digits ds ≡ true → read_int ds ≡ read_fitting (pos (digits_value 10 ds))
plain_int [] h = absurd (let k : ⊥ = cc in k)
plain_int (c ∷ cs) h =
    let digit = (and_parts (is_ascii_digit c) (list_all is_ascii_digit cs) (and_parts _ (list_all is_ascii_digit (c ∷ cs)) h).1).0 in
    ⊎_elim
    (λ t. absurd (true≢false (sym digit ∙ ap is_ascii_digit (eqb-true c 45 t))))
    (λ f. ap (λ t. cond t (cond (are_digits cs) (read_fitting (neg_ℤ (pos (digits_value 10 cs)))) (Err BadNumber)) (cond (are_digits (c ∷ cs)) (read_fitting (pos (digits_value 10 (c ∷ cs)))) (Err BadNumber))) f ∙ ap (λ t. cond t (read_fitting (pos (digits_value 10 (c ∷ cs)))) (Err BadNumber)) h)
    (cases_Bool (eqb c 45))

fitting_ok : (z y : ℤ) → read_fitting z ≡ Ok y → (fits z ≡ true) × (z ≡ y)
fitting_ok z y h = tested (fits z) z y BadNumber h

fitting_from : (z : ℤ) → fits z ≡ true → read_fitting z ≡ Ok z
fitting_from z h = ap (λ t. cond t (Ok z) (Err BadNumber)) h

abbrev Again : List ℕ → ℤ → Type 0
Again w z =
    (read_int (signed_decimal z) ≡ Ok z) × (length (signed_decimal z) ≤ length w) × (is_word (signed_decimal z) ≡ true)

above_again : (ds w : List ℕ) → are_digits ds ≡ true → fits (pos (digits_value 10 ds)) ≡ true → length ds ≤ length w → Again w (pos (digits_value 10 ds))
above_again ds w h f l =
    let n : ℕ = digits_value 10 ds in
    let small : n < 2 ^ 63 = ltb-true n (2 ^ 63) f in
    let few : n < 2 ^ 64 = omega arith in
    let value : digits_value 10 (decimal n) ≡ n = digits_value-decimal own n few in
    let short = decimal_shorter ds h few in (
      plain_int (decimal n) (decimal_are_digits n few) ∙ (ap (λ x. read_fitting (pos x)) value ∙ fitting_from (pos n) f),
      omega (arith, short),
      decimal_is_word n few,
    )

minus_digits : (ds : List ℕ) (n : ℕ) → are_digits ds ≡ true → digits_value 10 ds ≡ n → read_int (45 ∷ ds) ≡ read_fitting (neg_ℤ (pos n))
minus_digits ds n h e =
    ap (λ t. cond t (read_fitting (neg_ℤ (pos (digits_value 10 ds)))) (Err BadNumber)) h ∙ ap (λ x. read_fitting (neg_ℤ (pos x))) e

below_again : (m : ℕ) (ds : List ℕ) → digits_value 10 ds ≡ m → are_digits ds ≡ true → fits (neg_ℤ (pos m)) ≡ true → Again (45 ∷ ds) (neg_ℤ (pos m))
below_again zero ds e h f =
    let value : digits_value 10 (decimal 0) ≡ 0 = digits_value-decimal own 0 (omega arith) in
    let one : length (decimal 0) ≤ 1 = length-decimal-le 1 0 (omega arith) (omega arith) (omega arith) in (
      plain_int (decimal 0) (decimal_are_digits 0 (omega arith)) ∙ ap (λ x. read_fitting (pos x)) value,
      omega (arith, one),
      decimal_is_word 0 (omega arith),
    )
below_again (suc n) ds e h f =
    let small : n < 2 ^ 63 = ltb-true n (2 ^ 63) f in
    let few : suc n < 2 ^ 64 = omega arith in
    let here : digits_value 10 ds < 2 ^ 64 = omega arith in
    let short : length (decimal (suc n)) ≤ length ds = subst (λ x. length (decimal x) ≤ length ds) e (decimal_shorter ds h here) in
    let graphic = and_parts _ (list_all is_ascii_graphic (decimal (suc n))) (decimal_is_word (suc n) few) in (
      minus_digits (decimal (suc n)) (suc n) (decimal_are_digits (suc n) few) (digits_value-decimal own (suc n) few) ∙ fitting_from (negsuc n) f,
      omega (arith, short),
      and_from _ _ (lt-ltb 0 (suc (length (decimal (suc n)))) (omega arith)) graphic.1,
    )

abbrev minus_case : List ℕ → Result ℤ BlueKind
minus_case cs = cond (are_digits cs) (read_fitting (neg_ℤ (pos (digits_value 10 cs)))) (Err BadNumber)

abbrev plus_case : List ℕ → Result ℤ BlueKind
plus_case cs = cond (are_digits cs) (read_fitting (pos (digits_value 10 cs))) (Err BadNumber)

digits_case : {A : Type 0} (t : Bool) (r : Result A BlueKind) (b : A) → cond t r (Err BadNumber) ≡ Ok b → (t ≡ true) × (r ≡ Ok b)
digits_case true r b h = (refl, h)
digits_case false r b h = absurd (let k : ⊥ = cc in k)

minus_again : (cs : List ℕ) (z : ℤ) → minus_case cs ≡ Ok z → Again (45 ∷ cs) z
minus_again cs z h =
    let d = digits_case (are_digits cs) (read_fitting (neg_ℤ (pos (digits_value 10 cs)))) z h in
    let f = fitting_ok (neg_ℤ (pos (digits_value 10 cs))) z d.1 in
    subst (Again (45 ∷ cs)) f.1 (below_again (digits_value 10 cs) cs refl d.0 f.0)

plus_again : (w : List ℕ) (z : ℤ) → plus_case w ≡ Ok z → Again w z
plus_again w z h =
    let d = digits_case (are_digits w) (read_fitting (pos (digits_value 10 w))) z h in
    let f = fitting_ok (pos (digits_value 10 w)) z d.1 in
    subst (Again w) f.1 (above_again w w d.0 f.0 (omega arith))

pub int_again : (w : List ℕ) (z : ℤ) → read_int w ≡ Ok z → Again w z
int_again [] z h = absurd (let k : ⊥ = cc in k)
int_again (c ∷ cs) z h =
    ⊎_elim
    (λ t. let e : read_int (c ∷ cs) ≡ minus_case cs = ap (λ b. cond b (minus_case cs) (plus_case (c ∷ cs))) t in subst (λ x. Again (x ∷ cs) z) (sym (eqb-true c 45 t)) (minus_again cs z (sym e ∙ h)))
    (λ f. let e : read_int (c ∷ cs) ≡ plus_case (c ∷ cs) = ap (λ b. cond b (minus_case cs) (plus_case (c ∷ cs))) f in plus_again (c ∷ cs) z (sym e ∙ h))
    (cases_Bool (eqb c 45))

-- ---- the places
pub word_respelled : (ws : Words) → Respelled word (λ w. w ∷ []) ws (word ws)
word_respelled ws =
    place_respelled (λ w. Ok w) (λ w. w) (λ w a h t. let e : w ≡ a = ap (λ r. result_unwrap_or r w) h in (refl, subst (λ x. length x ≤ length w) e (omega arith), subst (λ x. is_word x ≡ true) e t)) ws

pub name_respelled : (ws : Words) → Respelled name (λ w. w ∷ []) ws (name ws)
name_respelled ws =
    place_respelled read_name (λ w. w) (λ w a h t. let e = tested (is_name w) w a BadName h in (subst (λ x. read_name x ≡ Ok x) e.1 (ap (λ b. cond b (Ok w) (Err BadName)) e.0), subst (λ x. length x ≤ length w) e.1 (omega arith), subst (λ x. is_word x ≡ true) e.1 t)) ws

pub file_respelled : (ws : Words) → Respelled file (λ w. w ∷ []) ws (file ws)
file_respelled ws =
    place_respelled read_file_name (λ w. w) (λ w a h t. let e = tested (is_file_name w) w a BadName h in (subst (λ x. read_file_name x ≡ Ok x) e.1 (ap (λ b. cond b (Ok w) (Err BadName)) e.0), subst (λ x. length x ≤ length w) e.1 (omega arith), subst (λ x. is_word x ≡ true) e.1 t)) ws

pub int_respelled : (ws : Words) → Respelled int (λ z. signed_decimal z ∷ []) ws (int ws)
int_respelled ws = place_respelled read_int signed_decimal (λ w a h t. int_again w a h) ws

pub count_respelled : (ws : Words) → Respelled count (λ n. decimal n ∷ []) ws (count ws)
count_respelled ws = place_respelled (read_count 64) decimal (λ w a h t. count_again 64 w a (omega arith) h) ws

pub size_respelled : (ws : Words) → Respelled size (λ n. decimal n ∷ []) ws (size ws)
size_respelled ws = place_respelled (read_count 32) decimal (λ w a h t. count_again 32 w a (omega arith) h) ws

-- ---- sizes
pub count_decimal : (n : ℕ) → n < 2 ^ 32 → (read_count 32 (decimal n) ≡ Ok n) × (length (decimal n) ≤ 10) × (is_word (decimal n) ≡ true)
count_decimal n l =
    let few : n < 2 ^ 64 = omega arith in
    let value : digits_value 10 (decimal n) ≡ n = digits_value-decimal own n few in
    let room : ltb (digits_value 10 (decimal n)) (2 ^ 32) ≡ true = ap (λ x. ltb x (2 ^ 32)) value ∙ lt-ltb n (2 ^ 32) l in
    let ok : (are_digits (decimal n) && ltb (digits_value 10 (decimal n)) (2 ^ 32)) ≡ true = and_from _ _ (decimal_are_digits n few) room in (
      ap (λ t. cond t (Ok (digits_value 10 (decimal n))) (Err BadNumber)) ok ∙ ap (λ x. Ok x) value,
      length-decimal-le 10 n (omega arith) (omega arith) few,
      decimal_is_word n few,
    )

pub size_below : (w : List ℕ) (n : ℕ) → read_count 32 w ≡ Ok n → n < 2 ^ 32
size_below w n h =
    let t = tested (are_digits w && ltb (digits_value 10 w) (2 ^ 32)) (digits_value 10 w) n BadNumber h in
    let parts = and_parts (are_digits w) (ltb (digits_value 10 w) (2 ^ 32)) t.0 in
    subst (λ x. x < 2 ^ 32) t.1 (ltb-true (digits_value 10 w) (2 ^ 32) parts.1)

pub name_ok : (w a : List ℕ) → read_name w ≡ Ok a → (is_name w ≡ true) × (w ≡ a)
name_ok w a h = tested (is_name w) w a BadName h

pub length-name-le : (bs : List ℕ) → is_name bs ≡ true → length bs ≤ 32
length-name-le [] h = omega arith
length-name-le (b ∷ bs) h =
    let short : length bs ≤ 31 = leb-true (length bs) 31 (and_parts (is_ascii_lowercase b) (leb (length bs) 31) (and_parts (is_ascii_lowercase b && leb (length bs) 31) (list_all is_name_byte bs) h).0).1 in
    omega arith
