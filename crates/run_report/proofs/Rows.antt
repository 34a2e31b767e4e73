-- The rows that a walk leaves, as the values of the options and the files.
use Rattle.std.proofs.Common.{◌≡◌, ◌∙◌, Bool, cond, true, false, refl, sym, ap, List, [], ◌∷◌, ◌++◌, Option, Some, None, inl, inr, true≢false, bytes_eq, fold, append_assoc, append-nil}
use lib.Pointwise.{bytes_decides}
use Rattle.std.specs.Prelude.{option_map, find}
use Rattle.std.specs.Option.{unwrap_or}
use Rattle.std.proofs.lemmas.Bool.{cases_Bool}
use Rattle.clap.specs.Walk.{Row, Rule, Text, all_of, at_row, more_values, rows_of, used, with_values}
use Rattle.clap.specs.Matches.{found_of}
use Rattle.clap.proofs.WalkLemmas.{raw_values-rows}
use Rattle.clap.specs.declared.builder.value_parser.Reading.{Reading}
use Rattle.clap.specs.declared.parser.matches.ArgMatches.{ArgMatches}
use Rattle.clap.specs.declared.parser.matches.ValueSource.TheVariants.{CommandLine}
use Rattle.run_report.specs.Parts.{Part, Setting, generate, workers, turns, trace, replay, given, file, files_of, is_setting, values_of}
use Rattle.run_report.specs.Shape.{SaysAll, SaysParts, value_list}
use Rattle.run_report.proofs.Steps.{file_id, files_rule, id_of}
use Rattle.run_report.proofs.Walking.{add, rows_with}

abbrev pub row_values : Text → List Row → List Text
row_values id rows = unwrap_or (all_of id rows) []

same_id : (a b : Text) → bytes_eq a b ≡ true → a ≡ b
same_id a b = (bytes_decides a b).0

self : (a b : Text) → a ≡ b → bytes_eq a b ≡ true
self a b = (bytes_decides a b).1

-- one more value of an id is put behind those that it has, and no other id gets it
grows : (id other : Text) (how : Reading) (v : Text) (rows : List Row)
    → row_values id (with_values other how CommandLine (v ∷ []) rows) ≡ cond (bytes_eq other id) (row_values id rows ++ v ∷ []) (row_values id rows)
grows id other how v [] = go (bytes_eq other id)
  where
    new : Row
    new = record { id = other; values = v ∷ []; count = None; source = Some CommandLine; reading = how }

    go : (b : Bool) → unwrap_or (option_map (λ (r : Row). r.values) (cond b (Some (record { id = other; values = v ∷ []; count = None; source = Some CommandLine; reading = how })) None)) [] ≡ cond b ([] ++ v ∷ []) []
    go true = refl
    go false = refl
grows id other how v (r ∷ rs) = elim (cases_Bool (bytes_eq r.id other)) [
  | inl is ↦ rw is (rw (sym (same_id r.id other is)) (here (bytes_eq r.id id)))
  | inr differs ↦ rw differs (there (bytes_eq r.id id) (bytes_eq other id) (grows id other how v rs) (never differs))
]
  where
    never : bytes_eq r.id other ≡ false → bytes_eq r.id id ≡ true → bytes_eq other id ≡ true → ⊥
    never differs first second = true≢false (sym (self r.id other (same_id r.id id first ∙ sym (same_id other id second))) ∙ differs)

    here : (b : Bool)
        → unwrap_or (option_map (λ (r : Row). r.values) (cond b (Some (record r { values = r.values ++ v ∷ []; source = Some (Rattle.clap.specs.Walk.stronger r.source CommandLine) })) (find (λ r. bytes_eq r.id id) rs))) []
        ≡ cond b (unwrap_or (option_map (λ (r : Row). r.values) (cond b (Some r) (find (λ r. bytes_eq r.id id) rs))) [] ++ v ∷ []) (unwrap_or (option_map (λ (r : Row). r.values) (cond b (Some r) (find (λ r. bytes_eq r.id id) rs))) [])
    here true = refl
    here false = refl

    there : (b c : Bool) → row_values id (with_values other how CommandLine (v ∷ []) rs) ≡ cond c (row_values id rs ++ v ∷ []) (row_values id rs)
        → (b ≡ true → c ≡ true → ⊥)
        → unwrap_or (option_map (λ (r : Row). r.values) (cond b (Some r) (find (λ r. bytes_eq r.id id) (with_values other how CommandLine (v ∷ []) rs)))) []
        ≡ cond c (unwrap_or (option_map (λ (r : Row). r.values) (cond b (Some r) (find (λ r. bytes_eq r.id id) rs))) [] ++ v ∷ []) (unwrap_or (option_map (λ (r : Row). r.values) (cond b (Some r) (find (λ r. bytes_eq r.id id) rs))) [])
    there true true e clash = absurd (clash refl refl)
    there true false e clash = refl
    there false c e clash = e

same_setting : (s t : Setting) → bytes_eq (id_of t) (id_of s) ≡ is_setting s t
same_setting generate generate = refl
same_setting generate workers = refl
same_setting generate turns = refl
same_setting generate trace = refl
same_setting generate replay = refl
same_setting workers generate = refl
same_setting workers workers = refl
same_setting workers turns = refl
same_setting workers trace = refl
same_setting workers replay = refl
same_setting turns generate = refl
same_setting turns workers = refl
same_setting turns turns = refl
same_setting turns trace = refl
same_setting turns replay = refl
same_setting trace generate = refl
same_setting trace workers = refl
same_setting trace turns = refl
same_setting trace trace = refl
same_setting trace replay = refl
same_setting replay generate = refl
same_setting replay workers = refl
same_setting replay turns = refl
same_setting replay trace = refl
same_setting replay replay = refl

no_file : (s : Setting) → bytes_eq file_id (id_of s) ≡ false
no_file generate = refl
no_file workers = refl
no_file turns = refl
no_file trace = refl
no_file replay = refl

no_setting : (s : Setting) → bytes_eq (id_of s) file_id ≡ false
no_setting generate = refl
no_setting workers = refl
no_setting turns = refl
no_setting trace = refl
no_setting replay = refl

join : (b : Bool) (xs ys : List Text) (v : Text) → cond b (xs ++ v ∷ []) xs ++ ys ≡ xs ++ cond b (v ∷ ys) ys
join true xs ys v = append_assoc xs (v ∷ []) ys
join false xs ys v = refl

reads : Reading
reads = Rattle.clap.specs.Walk.reading_by files_rule

values_grow : (s : Setting) (parts : List Part) (rows : List Row) → row_values (id_of s) (fold add rows parts) ≡ row_values (id_of s) rows ++ values_of s parts
values_grow s [] rows = sym (append-nil (row_values (id_of s) rows))
values_grow s (given t v ∷ parts) rows =
    values_grow s parts (add rows (given t v))
    ∙ (ap (λ xs. xs ++ values_of s parts) (grows (id_of s) (id_of t) _ v rows ∙ ap (λ b. cond b (row_values (id_of s) rows ++ v ∷ []) (row_values (id_of s) rows)) (same_setting s t))
    ∙ join (is_setting s t) (row_values (id_of s) rows) (values_of s parts) v)
values_grow s (file v ∷ parts) rows =
    values_grow s parts (add rows (file v))
    ∙ ap (λ xs. xs ++ values_of s parts) (grows (id_of s) file_id _ v rows ∙ ap (λ b. cond b (row_values (id_of s) rows ++ v ∷ []) (row_values (id_of s) rows)) (no_file s))

files_grow : (parts : List Part) (rows : List Row) → row_values file_id (fold add rows parts) ≡ row_values file_id rows ++ files_of parts
files_grow [] rows = sym (append-nil (row_values file_id rows))
files_grow (given t v ∷ parts) rows =
    files_grow parts (add rows (given t v))
    ∙ ap (λ xs. xs ++ files_of parts) (grows file_id (id_of t) _ v rows ∙ ap (λ b. cond b (row_values file_id rows ++ v ∷ []) (row_values file_id rows)) (no_setting t))
files_grow (file v ∷ parts) rows =
    files_grow parts (add rows (file v))
    ∙ (ap (λ xs. xs ++ files_of parts) (grows file_id file_id _ v rows) ∙ append_assoc (row_values file_id rows) (v ∷ []) (files_of parts))

listed : (m : ArgMatches) (id : Text) (rows : List Row) → rows_of (found_of m) ≡ rows → value_list m id ≡ row_values id rows
listed m id rows e = ap (λ o. unwrap_or o []) (raw_values-rows (found_of m) id ∙ ap (all_of id) e)

-- the values that were found are those of the parts whose rows they are
says_all : (m : ArgMatches) (parts : List Part) → rows_of (found_of m) ≡ fold add [] parts → SaysAll m parts
says_all m parts e = record {
  files = listed m file_id (fold add [] parts) e ∙ files_grow parts [];
  generate_is = listed m (id_of generate) (fold add [] parts) e ∙ values_grow generate parts [];
  workers_is = listed m (id_of workers) (fold add [] parts) e ∙ values_grow workers parts [];
  turns_is = listed m (id_of turns) (fold add [] parts) e ∙ values_grow turns parts [];
  trace_is = listed m (id_of trace) (fold add [] parts) e ∙ values_grow trace parts [];
  replay_is = listed m (id_of replay) (fold add [] parts) e ∙ values_grow replay parts [];
}

pub says_parts : (m : ArgMatches) (parts : Option (List Part)) → Some (rows_of (found_of m)) ≡ rows_with [] parts → SaysParts parts m
says_parts m None e = absurd (true≢false (ap (λ o. Rattle.std.specs.Option.is_some o) e))
says_parts m (Some parts) e = says_all m parts (ap (λ o. unwrap_or o []) e)
