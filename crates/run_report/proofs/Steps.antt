-- The walk of clap over the words of the command, word by word.
use Rattle.std.proofs.Common.{◌≡◌, ◌∙◌, ◌&&◌, ◌||◌, ℕ, Bool, cond, true, false, refl, List, [], ◌∷◌, Option, Some, None, nat_lt, codes, slice_get, bytes_eq, fold}
use Rattle.std.specs.Str.{chars}
use Rattle.std.specs.Prelude.{option_map}
use Rattle.clap.specs.Lexer.{long_of, short_of}
use Rattle.clap.specs.Walk.{Held, Row, Rule, Step, Text, Waiting, Walk, idle, option, positional, trailing, after_step, arg_by_long, long_or_other, settled, settled_rows, used, walked}
use Rattle.clap.specs.Simple.{Shape, built}
use Rattle.clap.specs.Kinds.{Kinds, or_else}
use Rattle.clap.specs.Faults.{flag_word_fault, flags_fault, settle_fault, step_fault, turn_fault, walk_fault}
use Rattle.clap.specs.declared.builder.action.ArgAction.TheVariants.{Append}
use Rattle.clap.specs.declared.builder.value_parser.ValueParser.TheVariants as vp
use Rattle.run_report.specs.Parts.{Setting, generate, workers, turns, trace, replay, setting_of}
use Rattle.run_report.specs.Shape.{streams_app}

-- an argument as clap fills it in
abbrev pub filled_rule : Option Text → Option ℕ → Text → Rule
filled_rule long index id = record {
  id = id;
  long = long;
  aliases = [];
  short = None;
  short_aliases = [];
  index = index;
  action = Some Append;
  range = Some (record { start_inclusive = 1; end_inclusive = 1 });
  value_names = 0;
  defaults = [];
  missing = [];
  trailing_var_arg = false;
  parser = Some vp.String;
  ignore_case = false;
  required = false;
  is_simple = true;
  is_free = true;
}

abbrev pub id_of : Setting → Text
id_of generate = codes "gen"
id_of workers = codes "workers"
id_of turns = codes "turns"
id_of trace = codes "trace"
id_of replay = codes "replay"

abbrev pub file_id : Text
file_id = codes "file"

abbrev pub setting_rule : Setting → Rule
setting_rule s = filled_rule (Some (id_of s)) None (id_of s)

abbrev pub files_rule : Rule
files_rule = filled_rule None (Some 1) file_id

abbrev pub rules : List Rule
rules = files_rule ∷ setting_rule generate ∷ setting_rule workers ∷ setting_rule turns ∷ setting_rule trace ∷ setting_rule replay ∷ []

abbrev pub shape : Shape
shape = record (built streams_app).top { rules = rules }

pub shape_is : (built streams_app).top ≡ shape
shape_is = refl

-- where the walk stands
abbrev pub at : List Row → Option (Text × List Text) → Waiting → Bool → Walk
at rows p wt is_trailing = record { held = record { rows = rows; pending = p; skip = 0 }; waiting = wt; position = 1; is_trailing = is_trailing; stopped = None }

abbrev pub held : List Row → Option (Text × List Text) → Held
held rows p = record { rows = rows; pending = p; skip = 0 }

-- the rows once what is pending is used
abbrev pub after : List Row → Option (Text × List Text) → List Row
after rows p = settled_rows rules p rows

-- what is pending has its value
abbrev pub Calm : Option (Text × List Text) → Type 0
Calm p = (rows : List Row) → settle_fault rules false (held rows p) ≡ []

-- the rows, unless there is a fault
abbrev pub ends : Kinds → List Row → Option (List Row)
ends [] rows = Some rows
ends (k ∷ ks) rows = None

abbrev pub goes : Kinds → Option (List Row) → Option (List Row)
goes [] r = r
goes (k ∷ ks) r = None

-- the rows at the end of the words, where no step has a fault
abbrev pub outcome : Walk → List Text → Option (List Row)
outcome w [] = ends (settle_fault rules false w.held) (settled rules w.held).rows
outcome w (x ∷ xs) = goes (turn_fault shape [] w x) (outcome (walked rules [] w x) xs)

pub outcome_is : (w : Walk) (xs : List Text)
    → ends (or_else (walk_fault shape [] w xs) (settle_fault rules false (fold (walked rules []) w xs).held)) (settled rules (fold (walked rules []) w xs).held).rows ≡ outcome w xs
unfolding walk_fault
outcome_is w [] = refl
outcome_is w (x ∷ xs) = go (turn_fault shape [] w x) (outcome_is (walked rules [] w x) xs)
  where
    go : (ks : Kinds) → ends (or_else (walk_fault shape [] (walked rules [] w x) xs) (settle_fault rules false (fold (walked rules []) (walked rules [] w x) xs).held)) (settled rules (fold (walked rules []) (walked rules [] w x) xs).held).rows ≡ outcome (walked rules [] w x) xs
        → ends (or_else (or_else ks (walk_fault shape [] (walked rules [] w x) xs)) (settle_fault rules false (fold (walked rules []) (walked rules [] w x) xs).held)) (settled rules (fold (walked rules []) (walked rules [] w x) xs).held).rows ≡ goes ks (outcome (walked rules [] w x) xs)
    go [] e = e
    go (k ∷ ks) e = refl

-- a word before `--`: its fault, and what it comes to
abbrev pub met : List Row → Option (Text × List Text) → Waiting → Text → Held × Step
met rows p wt x = cond (bytes_eq x (45 ∷ 45 ∷ [])) (held rows p, trailing 1) (long_or_other rules wt x (long_of x) (held rows p))

abbrev pub word_kinds : List Row → Option (Text × List Text) → Waiting → Text → Kinds
word_kinds rows p wt x =
    or_else (cond (bytes_eq x (45 ∷ 45 ∷ [])) [] (flag_word_fault rules false (long_of x) x (held rows p)))
    (step_fault shape 1 (met rows p wt x).0 (met rows p wt x).1)

pub turn : (rows : List Row) (p : Option (Text × List Text)) (wt : Waiting) (x : Text) (xs : List Text)
    → outcome (at rows p wt false) (x ∷ xs) ≡ goes (word_kinds rows p wt x) (outcome (after_step rules x (at rows p wt false) (met rows p wt x).0 (met rows p wt x).1) xs)
unfolding walked
turn rows p idle x xs = refl
turn rows p (option id) x xs = refl
turn rows p positional x xs = refl

and_false : (b : Bool) → (b && false) ≡ false
and_false true = refl
and_false false = refl

-- what waits for no value
abbrev pub open_wait : Bool → Waiting
open_wait true = idle
open_wait false = positional

pub step_dashes : (rows : List Row) (p : Option (Text × List Text)) (wt : Waiting) (xs : List Text)
    → outcome (at rows p wt false) ((45 ∷ 45 ∷ []) ∷ xs) ≡ outcome (at rows p wt true) xs
step_dashes rows p wt xs = turn rows p wt (45 ∷ 45 ∷ []) xs

pub step_given : (rows : List Row) (p : Option (Text × List Text)) (wt : Waiting) (x name v : Text) (s : Setting) (xs : List Text) → Calm p
    → bytes_eq x (45 ∷ 45 ∷ []) ≡ false → long_of x ≡ Some (name, Some v) → arg_by_long rules name ≡ Some (setting_rule s)
    → outcome (at rows p wt false) (x ∷ xs) ≡ outcome (at (used (setting_rule s) (v ∷ []) (after rows p)) None idle false) xs
step_given rows p wt x name v s xs calm dashes long found = turn rows p wt x xs ∙ rw (dashes, long, found, calm rows) refl

pub step_waits : (rows : List Row) (p : Option (Text × List Text)) (wt : Waiting) (x name : Text) (s : Setting) (xs : List Text) → Calm p
    → bytes_eq x (45 ∷ 45 ∷ []) ≡ false → long_of x ≡ Some (name, None) → arg_by_long rules name ≡ Some (setting_rule s)
    → outcome (at rows p wt false) (x ∷ xs) ≡ outcome (at (after rows p) (Some (id_of s, [])) (option (id_of s)) false) xs
step_waits rows p wt x name s xs calm dashes long found = turn rows p wt x xs ∙ rw (dashes, long, found, calm rows) refl

pub step_unknown : (rows : List Row) (p : Option (Text × List Text)) (wt : Waiting) (x name : Text) (v : Option Text) (xs : List Text)
    → bytes_eq x (45 ∷ 45 ∷ []) ≡ false → long_of x ≡ Some (name, v) → arg_by_long rules name ≡ None
    → outcome (at rows p wt false) (x ∷ xs) ≡ None
step_unknown rows p wt x name v xs dashes long found = turn rows p wt x xs ∙ rw (dashes, long, found) refl

first_char : (c : ℕ) (cs : List ℕ) → nat_lt c 128 ≡ true → slice_get (chars (c ∷ cs)) 0 ≡ Some c
unfolding chars
first_char c [] e = rw e refl
first_char c (d ∷ ds) e = rw e refl

pub step_short : (rows : List Row) (p : Option (Text × List Text)) (wt : Waiting) (x : Text) (c : ℕ) (cs : List ℕ) (xs : List Text)
    → bytes_eq x (45 ∷ 45 ∷ []) ≡ false → long_of x ≡ None → short_of x ≡ Some (c ∷ cs) → nat_lt c 128 ≡ true
    → outcome (at rows p wt false) (x ∷ xs) ≡ None
unfolding flags_fault
step_short rows p wt x c cs xs dashes long short ascii = turn rows p wt x xs ∙ rw (dashes, long, short, first_char c cs ascii) refl

pub step_plain : (rows : List Row) (p : Option (Text × List Text)) (b : Bool) (x : Text) (xs : List Text) → Calm p
    → bytes_eq x (45 ∷ 45 ∷ []) ≡ false → long_of x ≡ None → short_of x ≡ None
    → outcome (at rows p (open_wait b) false) (x ∷ xs) ≡ outcome (at (after rows p) (Some (file_id, x ∷ [])) positional false) xs
step_plain rows p true x xs calm dashes long short = turn rows p idle x xs ∙ rw (dashes, long, short, and_false, calm rows) refl
step_plain rows p false x xs calm dashes long short = turn rows p positional x xs ∙ rw (dashes, long, short, and_false, calm rows) refl

pub step_trailing : (rows : List Row) (p : Option (Text × List Text)) (wt : Waiting) (x : Text) (xs : List Text) → Calm p
    → outcome (at rows p wt true) (x ∷ xs) ≡ outcome (at (after rows p) (Some (file_id, x ∷ [])) positional true) xs
unfolding walked
step_trailing rows p wt x xs calm = rw (and_false, calm rows) refl

-- an option waits for its value
pub step_value : (rows : List Row) (s : Setting) (x : Text) (xs : List Text) → bytes_eq x (45 ∷ 45 ∷ []) ≡ false → long_of x ≡ None → short_of x ≡ None
    → outcome (at rows (Some (id_of s, [])) (option (id_of s)) false) (x ∷ xs) ≡ outcome (at rows (Some (id_of s, x ∷ [])) idle false) xs
step_value rows generate x xs dashes long short = turn rows (Some (id_of generate, [])) (option (id_of generate)) x xs ∙ rw (dashes, long, short) refl
step_value rows workers x xs dashes long short = turn rows (Some (id_of workers, [])) (option (id_of workers)) x xs ∙ rw (dashes, long, short) refl
step_value rows turns x xs dashes long short = turn rows (Some (id_of turns, [])) (option (id_of turns)) x xs ∙ rw (dashes, long, short) refl
step_value rows trace x xs dashes long short = turn rows (Some (id_of trace, [])) (option (id_of trace)) x xs ∙ rw (dashes, long, short) refl
step_value rows replay x xs dashes long short = turn rows (Some (id_of replay, [])) (option (id_of replay)) x xs ∙ rw (dashes, long, short) refl

pub cut_by_option : (rows : List Row) (s t : Setting) (wt : Waiting) (x name : Text) (v : Option Text) (xs : List Text)
    → bytes_eq x (45 ∷ 45 ∷ []) ≡ false → long_of x ≡ Some (name, v) → arg_by_long rules name ≡ Some (setting_rule t)
    → outcome (at rows (Some (id_of s, [])) wt false) (x ∷ xs) ≡ None
cut_by_option rows generate t wt x name (Some v) xs dashes long found = turn rows (Some (id_of generate, [])) wt x xs ∙ rw (dashes, long, found) refl
cut_by_option rows workers t wt x name (Some v) xs dashes long found = turn rows (Some (id_of workers, [])) wt x xs ∙ rw (dashes, long, found) refl
cut_by_option rows turns t wt x name (Some v) xs dashes long found = turn rows (Some (id_of turns, [])) wt x xs ∙ rw (dashes, long, found) refl
cut_by_option rows trace t wt x name (Some v) xs dashes long found = turn rows (Some (id_of trace, [])) wt x xs ∙ rw (dashes, long, found) refl
cut_by_option rows replay t wt x name (Some v) xs dashes long found = turn rows (Some (id_of replay, [])) wt x xs ∙ rw (dashes, long, found) refl
cut_by_option rows generate t wt x name None xs dashes long found = turn rows (Some (id_of generate, [])) wt x xs ∙ rw (dashes, long, found) refl
cut_by_option rows workers t wt x name None xs dashes long found = turn rows (Some (id_of workers, [])) wt x xs ∙ rw (dashes, long, found) refl
cut_by_option rows turns t wt x name None xs dashes long found = turn rows (Some (id_of turns, [])) wt x xs ∙ rw (dashes, long, found) refl
cut_by_option rows trace t wt x name None xs dashes long found = turn rows (Some (id_of trace, [])) wt x xs ∙ rw (dashes, long, found) refl
cut_by_option rows replay t wt x name None xs dashes long found = turn rows (Some (id_of replay, [])) wt x xs ∙ rw (dashes, long, found) refl

ends_cut : (rows : List Row) (s : Setting) (wt : Waiting) (xs : List Text) → outcome (at rows (Some (id_of s, [])) wt true) xs ≡ None
ends_cut rows generate wt [] = refl
ends_cut rows workers wt [] = refl
ends_cut rows turns wt [] = refl
ends_cut rows trace wt [] = refl
ends_cut rows replay wt [] = refl
ends_cut rows generate wt (x ∷ xs) = refl
ends_cut rows workers wt (x ∷ xs) = refl
ends_cut rows turns wt (x ∷ xs) = refl
ends_cut rows trace wt (x ∷ xs) = refl
ends_cut rows replay wt (x ∷ xs) = refl

pub cut_by_dashes : (rows : List Row) (s : Setting) (wt : Waiting) (xs : List Text) → outcome (at rows (Some (id_of s, [])) wt false) ((45 ∷ 45 ∷ []) ∷ xs) ≡ None
cut_by_dashes rows s wt xs = step_dashes rows (Some (id_of s, [])) wt xs ∙ ends_cut rows s wt xs

-- the option of a name, by clap and by the grammar
pub find_long : (name : Text) → arg_by_long rules name ≡ option_map setting_rule (setting_of (45 ∷ 45 ∷ name))
find_long name =
    go (bytes_eq (codes "gen") name) (bytes_eq (codes "workers") name) (bytes_eq (codes "turns") name) (bytes_eq (codes "trace") name)
    (bytes_eq (codes "replay") name)
  where
    go : (a b c d e : Bool)
        → cond (a || false) (Some (setting_rule generate)) (cond (b || false) (Some (setting_rule workers)) (cond (c || false) (Some (setting_rule turns)) (cond (d || false) (Some (setting_rule trace)) (cond (e || false) (Some (setting_rule replay)) None))))
        ≡ option_map setting_rule (cond a (Some generate) (cond b (Some workers) (cond c (Some turns) (cond d (Some trace) (cond e (Some replay) None)))))
    go true b c d e = refl
    go false true c d e = refl
    go false false true d e = refl
    go false false false true e = refl
    go false false false false true = refl
    go false false false false false = refl
