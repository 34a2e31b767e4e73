-- Words that are no texts are in no command.
use Rattle.std.proofs.Common.{◌≡◌, ◌∙◌, ◌&&◌, not, ℕ, Bool, cond, true, false, zero, suc, refl, sym, ap, subst, List, [], ◌∷◌, map, Option, Some, None, inl, inr, true≢false, codes, bytes_eq, is_some, nat_lt, IsAscii, IsUtf8, arith, ltb-true, ◌⊎◌}
use lib.Pointwise.{bytes_decides}
use Rattle.std.specs.Prelude.{option_map, option_and_then, ◌==◌, length, nat_le}
use Rattle.std.specs.Char.{is_ascii_alphanumeric, is_ascii_digit}
use Rattle.std.specs.List.{list_all}
use Rattle.std.proofs.lemmas.Bool.{cases_Bool, and_parts, and_from, eqb-true}
use Rattle.std.proofs.lemmas.Str.{IsUtf8-from_ascii}
use Rattle.elem_core.specs.Number.{is_numeral}
use Rattle.blue_words.specs.Names.{is_file_byte, is_file_name}
use Rattle.run_report.specs.Parts.{Part, Setting, generate, workers, turns, trace, replay, given, file, with_part, files_of, is_dashed, name_in, parts_from, parts_of, setting_of, value_in, values_of, with_value}
use Rattle.run_report.specs.Asking.{Asked, asked_by, asked_of, asked_input, number_or, number_within, only, trace_of, replay_of, most_generated, most_turns, most_workers, usual_turns, usual_workers}
use Rattle.run_report.specs.Shape.{are_texts, is_text}

abbrev is_low : ℕ → Bool
is_low b = nat_lt b 128

abbrev are_low : List ℕ → Bool
are_low bs = list_all (λ b. nat_lt b 128) bs

low_index : (bs : List ℕ) → are_low bs ≡ true → IsAscii bs
low_index [] h i = omega arith
low_index (b ∷ bs) h zero = ltb-true b 128 (and_parts (is_low b) (are_low bs) h).0
low_index (b ∷ bs) h (suc i) = low_index bs (and_parts (is_low b) (are_low bs) h).1 i

pub utf8_text : (word : List ℕ) → is_text word ≡ true → IsUtf8 word
utf8_text word h = IsUtf8-from_ascii word (low_index word (and_parts (are_low word) (not (bytes_eq word (codes "-"))) h).0)

-- bytes that pass a test that only low bytes pass
low_all : (p : ℕ → Bool) → ((b : ℕ) → p b ≡ true → is_low b ≡ true) → (bs : List ℕ) → list_all p bs ≡ true → are_low bs ≡ true
low_all p low [] h = refl
low_all p low (b ∷ bs) h = let parts = and_parts (p b) (list_all p bs) h in and_from _ _ (low b parts.0) (low_all p low bs parts.1)

low_digit : (b : ℕ) → is_ascii_digit b ≡ true → is_low b ≡ true
low_digit b h = grind arith

low_name : (b : ℕ) → is_file_byte b ≡ true → is_low b ≡ true
low_name b h = grind arith

low_letter : (b : ℕ) → is_ascii_alphanumeric b ≡ true → is_low b ≡ true
low_letter b h = grind arith

-- a word that passes a test that `-` does not pass
not_dash : (p : List ℕ → Bool) → p (codes "-") ≡ false → (w : List ℕ) → p w ≡ true → not (bytes_eq w (codes "-")) ≡ true
not_dash p e w h = elim (cases_Bool (bytes_eq w (codes "-"))) [
  | inl is ↦ absurd (true≢false (sym h ∙ (ap p ((bytes_decides w (codes "-")).0 is) ∙ e)))
  | inr is ↦ ap not is
]

numeral_text : (w : List ℕ) → is_numeral w ≡ true → is_text w ≡ true
numeral_text w h = and_from _ _ (low_all is_ascii_digit low_digit w (and_parts (nat_lt 0 (length w)) (list_all is_ascii_digit w) h).1) (not_dash is_numeral refl w h)

name_low : (w : List ℕ) → is_file_name w ≡ true → are_low w ≡ true
name_low [] h = refl
name_low (b ∷ bs) h =
    let outer = and_parts (is_ascii_alphanumeric b && nat_le (length bs) 63) (list_all is_file_byte bs) h in
    and_from _ _ (low_letter b (and_parts (is_ascii_alphanumeric b) (nat_le (length bs) 63) outer.0).0) (low_all is_file_byte low_name bs outer.1)

name_text : (w : List ℕ) → is_file_name w ≡ true → is_text w ≡ true
name_text w h = and_from _ _ (name_low w h) (not_dash is_file_name refl w h)

number_text : (most : ℕ) (w : List ℕ) (n : ℕ) → number_within most w ≡ Some n → is_text w ≡ true
number_text most w n h = go (cases_Bool (is_numeral w)) h
  where
    go : (is_numeral w ≡ true) ⊎ (is_numeral w ≡ false) → number_within most w ≡ Some n → is_text w ≡ true
    go (inl is) e = numeral_text w is
    go (inr is) e = let none : number_within most w ≡ None = rw is refl in absurd (true≢false (sym (ap (λ o. is_some o) (sym none ∙ e))))

-- the value of a part
abbrev value_of : Part → List ℕ
value_of (given s v) = v
value_of (file v) = v

abbrev values : List Part → List (List ℕ)
values parts = map value_of parts

pub some_is : {A B : Type 0} (f : A → Option B) (o : Option A) (b : B) → option_and_then f o ≡ Some b → (a : A) × ((o ≡ Some a) × (f a ≡ Some b))
some_is f None b e = absurd (true≢false (sym (ap (λ o. is_some o) e)))
some_is f (Some a) b e = (a, (refl, e))

numbers_text : (usual most : ℕ) (vs : List (List ℕ)) (n : ℕ) → number_or usual most (only vs) ≡ Some n → are_texts vs ≡ true
numbers_text usual most [] n e = refl
numbers_text usual most (v ∷ []) n e = and_from _ _ (number_text most v n e) refl
numbers_text usual most (v ∷ w ∷ vs) n e = absurd (true≢false (sym (ap (λ o. is_some o) e)))

input_text : (fs ns : List (List ℕ)) (i : List ℕ × Option ℕ) → asked_input (only fs) (only ns) ≡ Some i → (are_texts fs ≡ true) × (are_texts ns ≡ true)
input_text [] [] i e = absurd (true≢false (sym (ap (λ o. is_some o) e)))
input_text [] (n ∷ []) i e = go (number_within most_generated n) refl e
  where
    go : (o : Option ℕ) → number_within most_generated n ≡ o → option_map (λ n. (codes "gen.blue", Some n)) o ≡ Some i → (are_texts [] ≡ true) × (are_texts (n ∷ []) ≡ true)
    go None is h = absurd (true≢false (sym (ap (λ o. is_some o) h)))
    go (Some k) is h = (refl, and_from _ _ (number_text most_generated n k is) refl)
input_text [] (n ∷ m ∷ ns) i e = absurd (true≢false (sym (ap (λ o. is_some o) e)))
input_text (f ∷ []) [] i e = go (cases_Bool (is_file_name f)) e
  where
    go : (is_file_name f ≡ true) ⊎ (is_file_name f ≡ false) → asked_input (only (f ∷ [])) (only []) ≡ Some i → (are_texts (f ∷ []) ≡ true) × (are_texts [] ≡ true)
    go (inl is) h = (and_from _ _ (name_text f is) refl, refl)
    go (inr is) h = let none : asked_input (only (f ∷ [])) (only []) ≡ None = rw is refl in absurd (true≢false (sym (ap (λ o. is_some o) (sym none ∙ h))))
input_text (f ∷ []) (n ∷ []) i e = absurd (true≢false (sym (ap (λ o. is_some o) e)))
input_text (f ∷ []) (n ∷ m ∷ ns) i e = absurd (true≢false (sym (ap (λ o. is_some o) e)))
input_text (f ∷ g ∷ fs) ns i e = absurd (true≢false (sym (ap (λ o. is_some o) e)))

trace_text : (other : List ℕ) (vs : List (List ℕ)) (path : Option (List ℕ)) → trace_of other (only vs) ≡ Some path → are_texts vs ≡ true
trace_text other [] path e = refl
trace_text other (v ∷ []) path e = go (cases_Bool (is_file_name v)) e
  where
    go : (is_file_name v ≡ true) ⊎ (is_file_name v ≡ false) → trace_of other (only (v ∷ [])) ≡ Some path → are_texts (v ∷ []) ≡ true
    go (inl is) h = and_from _ _ (name_text v is) refl
    go (inr is) h = let none : trace_of other (only (v ∷ [])) ≡ None = rw is refl in absurd (true≢false (sym (ap (λ o. is_some o) (sym none ∙ h))))
trace_text other (v ∷ w ∷ vs) path e = absurd (true≢false (sym (ap (λ o. is_some o) e)))

replay_text : (vs : List (List ℕ)) (number crew : Option (Option (List ℕ))) (other : List ℕ) (path : Option (List ℕ)) (moves : Option (List ℕ))
    → replay_of (only vs) number crew other path ≡ Some moves → are_texts vs ≡ true
replay_text [] number crew other path moves e = refl
replay_text (v ∷ []) None crew other path moves e = absurd (true≢false (sym (ap (λ o. is_some o) e)))
replay_text (v ∷ []) (Some (Some n)) crew other path moves e = absurd (true≢false (sym (ap (λ o. is_some o) e)))
replay_text (v ∷ []) (Some None) None other path moves e = absurd (true≢false (sym (ap (λ o. is_some o) e)))
replay_text (v ∷ []) (Some None) (Some (Some w)) other path moves e = absurd (true≢false (sym (ap (λ o. is_some o) e)))
replay_text (v ∷ []) (Some None) (Some None) other path moves e = go (cases_Bool (is_file_name v)) e
  where
    go : (is_file_name v ≡ true) ⊎ (is_file_name v ≡ false) → replay_of (only (v ∷ [])) (Some None) (Some None) other path ≡ Some moves → are_texts (v ∷ []) ≡ true
    go (inl is) h = and_from _ _ (name_text v is) refl
    go (inr is) h =
        let none : replay_of (only (v ∷ [])) (Some None) (Some None) other path ≡ None = rw is refl in
        absurd (true≢false (sym (ap (λ o. is_some o) (sym none ∙ h))))
replay_text (v ∷ w ∷ vs) number crew other path moves e = absurd (true≢false (sym (ap (λ o. is_some o) e)))

-- all values are texts where those of each option and the files are
gathered : (parts : List Part) → are_texts (files_of parts) ≡ true → are_texts (values_of generate parts) ≡ true → are_texts (values_of workers parts) ≡ true
    → are_texts (values_of turns parts) ≡ true → are_texts (values_of trace parts) ≡ true → are_texts (values_of replay parts) ≡ true
    → are_texts (values parts) ≡ true
gathered [] f g w t p m = refl
gathered (file v ∷ parts) f g w t p m = let h = and_parts (is_text v) (are_texts (files_of parts)) f in and_from _ _ h.0 (gathered parts h.1 g w t p m)
gathered (given generate v ∷ parts) f g w t p m = let h = and_parts (is_text v) (are_texts (values_of generate parts)) g in and_from _ _ h.0 (gathered parts f h.1 w t p m)
gathered (given workers v ∷ parts) f g w t p m = let h = and_parts (is_text v) (are_texts (values_of workers parts)) w in and_from _ _ h.0 (gathered parts f g h.1 t p m)
gathered (given turns v ∷ parts) f g w t p m = let h = and_parts (is_text v) (are_texts (values_of turns parts)) t in and_from _ _ h.0 (gathered parts f g w h.1 p m)
gathered (given trace v ∷ parts) f g w t p m = let h = and_parts (is_text v) (are_texts (values_of trace parts)) p in and_from _ _ h.0 (gathered parts f g w t h.1 m)
gathered (given replay v ∷ parts) f g w t p m = let h = and_parts (is_text v) (are_texts (values_of replay parts)) m in and_from _ _ h.0 (gathered parts f g w t p h.1)

mapped : {A B : Type 0} (f : A → B) (o : Option A) (b : B) → option_map f o ≡ Some b → (a : A) × (o ≡ Some a)
mapped f None b e = absurd (true≢false (sym (ap (λ o. is_some o) e)))
mapped f (Some a) b e = (a, refl)

asked_texts : (parts : List Part) (asked : Asked) → asked_by parts ≡ Some asked → are_texts (values parts) ≡ true
asked_texts parts asked e =
    let input = some_is _ (asked_input (only (files_of parts)) (only (values_of generate parts))) asked e in
    let crew = some_is _ (number_or usual_workers most_workers (only (values_of workers parts))) asked input.1.1 in
    let budget = some_is _ (number_or usual_turns most_turns (only (values_of turns parts))) asked crew.1.1 in
    let path = some_is _ (trace_of input.0.0 (only (values_of trace parts))) asked budget.1.1 in
    let moves = mapped _ (replay_of (only (values_of replay parts)) (only (values_of generate parts)) (only (values_of workers parts)) input.0.0 path.0) asked path.1.1 in
    let files = input_text (files_of parts) (values_of generate parts) input.0 input.1.0 in
    gathered parts files.0 files.1
    (numbers_text usual_workers most_workers (values_of workers parts) crew.0 crew.1.0)
    (numbers_text usual_turns most_turns (values_of turns parts) budget.0 budget.1.0)
    (trace_text input.0.0 (values_of trace parts) path.0 path.1.0)
    (replay_text (values_of replay parts) (only (values_of generate parts)) (only (values_of workers parts)) input.0.0 path.0 moves.0 moves.1)

-- a word is low where its name and its value are
low_word : (w : List ℕ) → are_low (name_in w) ≡ true → ((v : List ℕ) → value_in w ≡ Some v → are_low v ≡ true) → are_low w ≡ true
low_word [] n v = refl
low_word (b ∷ bs) n v = go (low_word bs) (cases_Bool (b == 61)) n v
  where
    go : (are_low (name_in bs) ≡ true → ((v : List ℕ) → value_in bs ≡ Some v → are_low v ≡ true) → are_low bs ≡ true)
        → ((b == 61) ≡ true) ⊎ ((b == 61) ≡ false) → are_low (name_in (b ∷ bs)) ≡ true → ((v : List ℕ) → value_in (b ∷ bs) ≡ Some v → are_low v ≡ true) → are_low (b ∷ bs) ≡ true
    go low (inl is) n v = and_from _ _ (ap is_low (eqb-true b 61 is)) (v bs (rw is refl))
    go low (inr is) n v =
        let name : are_low (b ∷ name_in bs) ≡ true = subst (λ t. are_low (cond t [] (b ∷ name_in bs)) ≡ true) is n in
        let parts = and_parts (is_low b) (are_low (name_in bs)) name in
        and_from _ _ parts.0 (low parts.1 (λ u e. v u (rw is e)))

low_setting : (n : List ℕ) (s : Setting) → setting_of n ≡ Some s → are_low n ≡ true
low_setting n s =
    go (cases_Bool (bytes_eq (codes "--gen") n)) (cases_Bool (bytes_eq (codes "--workers") n)) (cases_Bool (bytes_eq (codes "--turns") n))
    (cases_Bool (bytes_eq (codes "--trace") n)) (cases_Bool (bytes_eq (codes "--replay") n))
  where
    is_name : (m : List ℕ) → are_low m ≡ true → bytes_eq m n ≡ true → are_low n ≡ true
    is_name m low e = subst (λ k. are_low k ≡ true) ((bytes_decides m n).0 e) low

    go : (bytes_eq (codes "--gen") n ≡ true) ⊎ (bytes_eq (codes "--gen") n ≡ false) → (bytes_eq (codes "--workers") n ≡ true) ⊎ (bytes_eq (codes "--workers") n ≡ false)
        → (bytes_eq (codes "--turns") n ≡ true) ⊎ (bytes_eq (codes "--turns") n ≡ false) → (bytes_eq (codes "--trace") n ≡ true) ⊎ (bytes_eq (codes "--trace") n ≡ false)
        → (bytes_eq (codes "--replay") n ≡ true) ⊎ (bytes_eq (codes "--replay") n ≡ false) → setting_of n ≡ Some s → are_low n ≡ true
    go (inl a) b c d r e = is_name (codes "--gen") refl a
    go (inr a) (inl b) c d r e = is_name (codes "--workers") refl b
    go (inr a) (inr b) (inl c) d r e = is_name (codes "--turns") refl c
    go (inr a) (inr b) (inr c) (inl d) r e = is_name (codes "--trace") refl d
    go (inr a) (inr b) (inr c) (inr d) (inl r) e = is_name (codes "--replay") refl r
    go (inr a) (inr b) (inr c) (inr d) (inr r) e = let none : setting_of n ≡ None = rw (a, b, c, d, r) refl in absurd (true≢false (sym (ap (λ o. is_some o) (sym none ∙ e))))

option_text : (w : List ℕ) (s : Setting) → setting_of (name_in w) ≡ Some s → ((v : List ℕ) → value_in w ≡ Some v → is_text v ≡ true) → is_text w ≡ true
option_text w s is v =
    and_from _ _
    (low_word w (low_setting (name_in w) s is) (λ u e. (and_parts (are_low u) (not (bytes_eq u (codes "-"))) (v u e)).0))
    (not_dash (λ u. is_some (setting_of (name_in u))) refl w (ap (λ o. is_some o) is))

files_text : (xs : List (List ℕ)) → values (map file xs) ≡ xs
files_text [] = refl
files_text (x ∷ xs) = ap (λ r. x ∷ r) (files_text xs)

-- words whose parts have texts for values are texts
abbrev Sound : List (List ℕ) → Type 0
Sound xs = (waits : Option Setting) (parts : List Part) → parts_from xs waits ≡ Some parts → are_texts (values parts) ≡ true → are_texts xs ≡ true

part_before : (part : Part) (rest : Option (List Part)) (parts : List Part) → with_part part rest ≡ Some parts
    → (more : List Part) × ((rest ≡ Some more) × (parts ≡ part ∷ more))
part_before part None parts e = absurd (true≢false (sym (ap (λ o. is_some o) e)))
part_before part (Some more) parts e = (more, (refl, sym (ap (λ o. Rattle.std.specs.Option.unwrap_or o []) e)))

one_part : (x : List ℕ) (xs : List (List ℕ)) (part : Part) (parts : List Part) → value_of part ≡ x → Sound xs → with_part part (parts_from xs None) ≡ Some parts
    → are_texts (values parts) ≡ true → are_texts (x ∷ xs) ≡ true
one_part x xs part parts is sound e texts =
    let cut = part_before part (parts_from xs None) parts e in
    let both = and_parts (is_text (value_of part)) (are_texts (values cut.0)) (subst (λ ps. are_texts (values ps) ≡ true) cut.1.1 texts) in
    and_from _ _ (subst (λ w. is_text w ≡ true) is both.0) (sound None cut.0 cut.1.0 both.1)

option_part : (x : List ℕ) (xs : List (List ℕ)) (parts : List Part) → Sound xs
    → (o : Option Setting) → setting_of (name_in x) ≡ o → (v : Option (List ℕ)) → value_in x ≡ v
    → with_value o v (parts_from xs) ≡ Some parts → are_texts (values parts) ≡ true → are_texts (x ∷ xs) ≡ true
option_part x xs parts sound None is v has e texts = absurd (true≢false (sym (ap (λ o. is_some o) e)))
option_part x xs parts sound (Some s) is None has e texts =
    and_from _ _ (option_text x s is (λ u h. absurd (true≢false (sym (ap (λ o. is_some o) (sym has ∙ h)))))) (sound (Some s) parts e texts)
option_part x xs parts sound (Some s) is (Some v) has e texts =
    let cut = part_before (given s v) (parts_from xs None) parts e in
    let both = and_parts (is_text v) (are_texts (values cut.0)) (subst (λ ps. are_texts (values ps) ≡ true) cut.1.1 texts) in
    and_from _ _ (option_text x s is (λ u h. subst (λ w. is_text w ≡ true) (ap (λ o. Rattle.std.specs.Option.unwrap_or o []) (sym has ∙ h)) both.0)) (sound None cut.0 cut.1.0 both.1)

sound_words : (xs : List (List ℕ)) → Sound xs
unfolding parts_from
sound_words [] waits parts e texts = refl
sound_words (x ∷ xs) (Some s) parts e texts = go (sound_words xs) (cases_Bool (is_dashed x))
  where
    go : Sound xs → (is_dashed x ≡ true) ⊎ (is_dashed x ≡ false) → are_texts (x ∷ xs) ≡ true
    go sound (inl is) = absurd (true≢false (sym (ap (λ o. is_some o) (subst (λ b. cond b None (with_part (given s x) (parts_from xs None)) ≡ Some parts) is e))))
    go sound (inr is) = one_part x xs (given s x) parts refl sound (subst (λ b. cond b None (with_part (given s x) (parts_from xs None)) ≡ Some parts) is e) texts
sound_words (x ∷ xs) None parts e texts = go (sound_words xs) (cases_Bool (bytes_eq x (codes "--"))) (cases_Bool (is_dashed x))
  where
    go : Sound xs → (bytes_eq x (codes "--") ≡ true) ⊎ (bytes_eq x (codes "--") ≡ false) → (is_dashed x ≡ true) ⊎ (is_dashed x ≡ false) → are_texts (x ∷ xs) ≡ true
    go sound (inl a) d =
        let all : Some (map file xs) ≡ Some parts = subst (λ b. cond b (Some (map file xs)) (cond (is_dashed x) (with_value (setting_of (name_in x)) (value_in x) (parts_from xs)) (with_part (file x) (parts_from xs None))) ≡ Some parts) a e in
        let files : map file xs ≡ parts = ap (λ o. Rattle.std.specs.Option.unwrap_or o []) all in
        and_from _ _ (ap is_text ((bytes_decides x (codes "--")).0 a)) (subst (λ ws. are_texts ws ≡ true) (ap values (sym files) ∙ files_text xs) texts)
    go sound (inr a) (inl d) =
        option_part x xs parts sound (setting_of (name_in x)) refl (value_in x) refl
        (subst (λ c. cond c (with_value (setting_of (name_in x)) (value_in x) (parts_from xs)) (with_part (file x) (parts_from xs None)) ≡ Some parts) d
        (subst (λ b. cond b (Some (map file xs)) (cond (is_dashed x) (with_value (setting_of (name_in x)) (value_in x) (parts_from xs)) (with_part (file x) (parts_from xs None))) ≡ Some parts) a e)) texts
    go sound (inr a) (inr d) =
        one_part x xs (file x) parts refl sound
        (subst (λ c. cond c (with_value (setting_of (name_in x)) (value_in x) (parts_from xs)) (with_part (file x) (parts_from xs None)) ≡ Some parts) d
        (subst (λ b. cond b (Some (map file xs)) (cond (is_dashed x) (with_value (setting_of (name_in x)) (value_in x) (parts_from xs)) (with_part (file x) (parts_from xs None))) ≡ Some parts) a e)) texts

-- words that are no texts ask for nothing
pub no_command : (xs : List (List ℕ)) → are_texts xs ≡ false → asked_of xs ≡ None
no_command xs bad = go (parts_of xs) refl
  where
    asks : (parts : List Part) → parts_of xs ≡ Some parts → (o : Option Asked) → asked_by parts ≡ o → o ≡ None
    asks parts is None by = refl
    asks parts is (Some asked) by = absurd (true≢false (sym (sound_words xs None parts is (asked_texts parts asked by)) ∙ bad))

    go : (o : Option (List Part)) → parts_of xs ≡ o → option_and_then asked_by o ≡ None
    go None is = refl
    go (Some parts) is = asks parts is (asked_by parts) refl
