-- clap's walk over the words gives the parts that the grammar says.
use Rattle.std.proofs.Common.{◌≡◌, ◌∙◌, Bool, true, false, refl, ap, List, [], ◌∷◌, map, Option, Some, None, fold}
use Rattle.std.specs.Prelude.{option_map}
use Rattle.std.proofs.lemmas.Bool.{and_parts}
use Rattle.clap.specs.Walk.{Row, Text, Waiting, arg_by_long, nothing_held, option, positional, used, walk_from}
use Rattle.run_report.specs.Parts.{Part, Setting, generate, workers, turns, trace, replay, given, file, with_part, setting_of, name_in, value_in, with_value, parts_from, parts_of}
use Rattle.run_report.specs.Shape.{is_text, are_texts}
use Rattle.run_report.proofs.Cuts.{View, IsLongWord, view, plain, dashes, long, short}
use Rattle.run_report.proofs.Steps.{Calm, after, at, cut_by_dashes, cut_by_option, file_id, files_rule, find_long, id_of, open_wait, outcome, rules, setting_rule, step_dashes, step_given, step_plain, step_short, step_trailing, step_unknown, step_value, step_waits}

-- the rows with one part more
abbrev pub add : List Row → Part → List Row
add rows (given s v) = used (setting_rule s) (v ∷ []) rows
add rows (file v) = used files_rule (v ∷ []) rows

abbrev pub rows_with : List Row → Option (List Part) → Option (List Row)
rows_with rows = option_map (fold add rows)

with_before : (rows : List Row) (part : Part) (rest : Option (List Part)) → rows_with (add rows part) rest ≡ rows_with rows (with_part part rest)
with_before rows part None = refl
with_before rows part (Some parts) = refl

calm_file : (v : Text) → Calm (Some (file_id, v ∷ []))
calm_file v rows = refl

calm_setting : (s : Setting) (v : Text) → Calm (Some (id_of s, v ∷ []))
calm_setting generate v rows = refl
calm_setting workers v rows = refl
calm_setting turns v rows = refl
calm_setting trace v rows = refl
calm_setting replay v rows = refl

calm_none : Calm None
calm_none rows = refl

after_setting : (rows : List Row) (s : Setting) (v : Text) → after rows (Some (id_of s, v ∷ [])) ≡ add rows (given s v)
after_setting rows generate v = refl
after_setting rows workers v = refl
after_setting rows turns v = refl
after_setting rows trace v = refl
after_setting rows replay v = refl

-- behind `--`
trailing_files : (xs : List Text) (rows : List Row) (p : Option (Text × List Text)) (wt : Waiting) → Calm p
    → outcome (at rows p wt true) xs ≡ rows_with (after rows p) (Some (map file xs))
trailing_files [] rows p wt calm = rw (calm rows) refl
trailing_files (x ∷ xs) rows p wt calm =
    step_trailing rows p wt x xs calm ∙ trailing_files xs (after rows p) (Some (file_id, x ∷ [])) positional (calm_file x)

-- the walk over the words, where no option waits for its value
abbrev Opens : List Text → Type 0
Opens xs = (rows : List Row) (p : Option (Text × List Text)) (b : Bool) → Calm p
    → outcome (at rows p (open_wait b) false) xs ≡ rows_with (after rows p) (parts_from xs None)

-- and where one does
abbrev Awaits : List Text → Type 0
Awaits xs = (rows : List Row) (s : Setting) → outcome (at rows (Some (id_of s, [])) (option (id_of s)) false) xs ≡ rows_with rows (parts_from xs (Some s))

opens_nothing : Opens []
unfolding parts_from
opens_nothing rows p b calm = rw (calm rows) refl

awaits_nothing : Awaits []
unfolding parts_from
awaits_nothing rows generate = refl
awaits_nothing rows workers = refl
awaits_nothing rows turns = refl
awaits_nothing rows trace = refl
awaits_nothing rows replay = refl

opens_option : (x : Text) (xs : List Text) (w : IsLongWord x) → Opens xs → Awaits xs
    → (rows : List Row) (p : Option (Text × List Text)) (b : Bool) → Calm p
    → outcome (at rows p (open_wait b) false) (x ∷ xs) ≡ rows_with (after rows p) (with_value (setting_of (45 ∷ 45 ∷ name_in w.rest)) (value_in w.rest) (parts_from xs))
opens_option x xs w opens awaits rows p b calm = go (setting_of (45 ∷ 45 ∷ name_in w.rest)) (value_in w.rest) (find_long (name_in w.rest)) w.long
  where
    go : (o : Option Setting) (v : Option Text) → arg_by_long rules (name_in w.rest) ≡ option_map setting_rule o → Rattle.clap.specs.Lexer.long_of x ≡ Some (name_in w.rest, v)
        → outcome (at rows p (open_wait b) false) (x ∷ xs) ≡ rows_with (after rows p) (with_value o v (parts_from xs))
    go None v found cut = step_unknown rows p (open_wait b) x (name_in w.rest) v xs w.dashes cut found
    go (Some s) None found cut = step_waits rows p (open_wait b) x (name_in w.rest) s xs calm w.dashes cut found ∙ awaits (after rows p) s
    go (Some s) (Some v) found cut =
        step_given rows p (open_wait b) x (name_in w.rest) v s xs calm w.dashes cut found
        ∙ (opens (add (after rows p) (given s v)) None true calm_none ∙ with_before (after rows p) (given s v) (parts_from xs None))

opens_more : (x : Text) (xs : List Text) → View x → Opens xs → Awaits xs → Opens (x ∷ xs)
unfolding parts_from
opens_more x xs (plain w) opens awaits rows p b calm =
    step_plain rows p b x xs calm w.dashes w.long w.short
    ∙ (opens (after rows p) (Some (file_id, x ∷ [])) false (calm_file x)
    ∙ (with_before (after rows p) (file x) (parts_from xs None) ∙ rw (w.dashes, w.dashed) refl))
opens_more x xs (dashes is) opens awaits rows p b calm =
    rw is (step_dashes rows p (open_wait b) xs ∙ trailing_files xs rows p (open_wait b) calm)
opens_more x xs (long w) opens awaits rows p b calm =
    opens_option x xs w opens awaits rows p b calm ∙ rw (w.dashes, w.dashed, w.name, w.value) refl
opens_more x xs (short w) opens awaits rows p b calm =
    step_short rows p (open_wait b) x w.first w.rest xs w.dashes w.long w.short w.ascii ∙ rw (w.dashes, w.dashed, w.none) refl

awaits_more : (x : Text) (xs : List Text) → View x → Opens xs → Awaits (x ∷ xs)
unfolding parts_from
awaits_more x xs (plain w) opens rows s =
    step_value rows s x xs w.dashes w.long w.short
    ∙ (opens rows (Some (id_of s, x ∷ [])) true (calm_setting s x)
    ∙ (ap (λ rs. rows_with rs (parts_from xs None)) (after_setting rows s x)
    ∙ (with_before rows (given s x) (parts_from xs None) ∙ rw w.dashed refl)))
awaits_more x xs (dashes is) opens rows s = rw is (cut_by_dashes rows s (option (id_of s)) xs)
awaits_more x xs (long w) opens rows s = go (setting_of (45 ∷ 45 ∷ name_in w.rest)) (find_long (name_in w.rest)) ∙ rw w.dashed refl
  where
    go : (o : Option Setting) → arg_by_long rules (name_in w.rest) ≡ option_map setting_rule o
        → outcome (at rows (Some (id_of s, [])) (option (id_of s)) false) (x ∷ xs) ≡ None
    go None found = step_unknown rows (Some (id_of s, [])) (option (id_of s)) x (name_in w.rest) (value_in w.rest) xs w.dashes w.long found
    go (Some t) found = cut_by_option rows s t (option (id_of s)) x (name_in w.rest) (value_in w.rest) xs w.dashes w.long found
awaits_more x xs (short w) opens rows s =
    step_short rows (Some (id_of s, [])) (option (id_of s)) x w.first w.rest xs w.dashes w.long w.short w.ascii ∙ rw w.dashed refl

both : (xs : List Text) → are_texts xs ≡ true → Opens xs × Awaits xs
both [] t = (opens_nothing, awaits_nothing)
both (x ∷ xs) t =
    let parts = and_parts (is_text x) (are_texts xs) t in
    let seen = view x parts.0 in
    let rest = both xs parts.1 in
    (opens_more x xs seen rest.0 rest.1, awaits_more x xs seen rest.0)

pub walks : (xs : List Text) → are_texts xs ≡ true → outcome (walk_from nothing_held) xs ≡ rows_with [] (parts_of xs)
walks xs t = (both xs t).0 [] None true calm_none
