-- The words of a replay: beside it there is one worker, and nothing is generated.
use Rattle.std.proofs.Common.{◌≡◌, ◌∙◌, ℕ, Bool, true, false, refl, sym, ap, List, [], ◌∷◌, Option, Some, None, inl, inr, true≢false, codes, is_some, ◌⊎◌}
use Rattle.std.specs.Prelude.{option_map, IfSome, not, ◌&&◌, if◌then◌else◌}
use Rattle.std.specs.Str.{bytes_eq}
use Rattle.std.specs.Option.{unwrap_or}
use Rattle.std.proofs.lemmas.Bool.{cases_Bool}
use Rattle.std.proofs.lemmas.Slice.Eq.{bytes_eq-Decides}
use Rattle.blue_words.specs.Names.{is_file_name}
use Rattle.run_report.specs.Parts.{Part, generate, workers, turns, trace, replay, files_of, parts_from, parts_of, values_of}
use Rattle.run_report.specs.Asking.{Asked, asked_by, asked_input, asked_of, is_other, number_or, only, replay_of, trace_of, most_turns, most_workers, usual_turns, usual_workers}
use Rattle.run_report.proofs.Texts.{some_is}

mapped_to : {A B : Type 0} (f : A → B) (o : Option A) (b : B) → option_map f o ≡ Some b → (a : A) × ((o ≡ Some a) × (f a ≡ b))
mapped_to f None b e = absurd (true≢false (sym (ap (λ o. is_some o) e)))
mapped_to f (Some a) b e = (a, (refl, ap (λ o. unwrap_or o b) e))

-- where moves are to be followed no number of lines and no number of workers is given
alone : (moves number crew : Option (Option (List ℕ))) (other : List ℕ) (path : Option (List ℕ)) (file : List ℕ)
    → replay_of moves number crew other path ≡ Some (Some file) → (number ≡ Some None) × (crew ≡ Some None)
alone None number crew other path file e = absurd (true≢false (sym (ap (λ o. is_some o) e)))
alone (Some None) number crew other path file e = absurd (true≢false (sym (ap (λ o. is_some (unwrap_or o None)) e)))
alone (Some (Some word)) None crew other path file e = absurd (true≢false (sym (ap (λ o. is_some o) e)))
alone (Some (Some word)) (Some (Some n)) crew other path file e = absurd (true≢false (sym (ap (λ o. is_some o) e)))
alone (Some (Some word)) (Some None) None other path file e = absurd (true≢false (sym (ap (λ o. is_some o) e)))
alone (Some (Some word)) (Some None) (Some (Some c)) other path file e = absurd (true≢false (sym (ap (λ o. is_some o) e)))
alone (Some (Some word)) (Some None) (Some None) other path file e = (refl, refl)

-- no number, no lines
ungenerated : (files : Option (Option (List ℕ))) (number : Option (Option (List ℕ))) (input : List ℕ × Option ℕ) → number ≡ Some None
    → asked_input files number ≡ Some input → input.1 ≡ None
ungenerated None number input none e = absurd (true≢false (sym (ap (λ o. is_some o) (sym (ap (asked_input None) none) ∙ e))))
ungenerated (Some None) number input none e = absurd (true≢false (sym (ap (λ o. is_some o) (sym (ap (asked_input (Some None)) none) ∙ e))))
ungenerated (Some (Some f)) number input none e = go (cases_Bool (is_file_name f)) (sym (ap (asked_input (Some (Some f))) none) ∙ e)
  where
    go : (is_file_name f ≡ true) ⊎ (is_file_name f ≡ false) → asked_input (Some (Some f)) (Some None) ≡ Some input → input.1 ≡ None
    go (inl is) h = let named : asked_input (Some (Some f)) (Some None) ≡ Some (f, None) = rw is refl in ap (λ (o : Option (List ℕ × Option ℕ)). (unwrap_or {T = List ℕ × Option ℕ} o (f, None)).1) (sym h ∙ named)
    go (inr is) h = let none : asked_input (Some (Some f)) (Some None) ≡ None = rw is refl in absurd (true≢false (sym (ap (λ o. is_some o) (sym none ∙ h))))

-- no number, one worker
one_worker : (crew : Option (Option (List ℕ))) (n : ℕ) → crew ≡ Some None → number_or usual_workers most_workers crew ≡ Some n → n ≡ 1
one_worker crew n none e = ap (λ o. unwrap_or o 1) (sym e ∙ ap (number_or usual_workers most_workers) none)

parts_alone : (parts : List Part) (a : Asked) → asked_by parts ≡ Some a → (moves : Option (List ℕ)) → a.replay ≡ moves
    → IfSome moves (λ path. (a.workers ≡ 1) × (a.generated ≡ None))
parts_alone parts a e None is = tt
parts_alone parts a e (Some file) is =
    let input = some_is _ (asked_input (only (files_of parts)) (only (values_of generate parts))) a e in
    let crew = some_is _ (number_or usual_workers most_workers (only (values_of workers parts))) a input.1.1 in
    let budget = some_is _ (number_or usual_turns most_turns (only (values_of turns parts))) a crew.1.1 in
    let path = some_is _ (trace_of input.0.0 (only (values_of trace parts))) a budget.1.1 in
    let moves = mapped_to _ (replay_of (only (values_of replay parts)) (only (values_of generate parts)) (only (values_of workers parts)) input.0.0 path.0) a path.1.1 in
    let named = moves.1.0 ∙ ap (λ m. Some m) (ap (λ (x : Asked). x.replay) moves.1.1 ∙ is) in
    let both = alone (only (values_of replay parts)) (only (values_of generate parts)) (only (values_of workers parts)) input.0.0 path.0 file named in (
      ap (λ (x : Asked). x.workers) (sym moves.1.1) ∙ one_worker (only (values_of workers parts)) crew.0 both.1 crew.1.0,
      ap (λ (x : Asked). x.generated) (sym moves.1.1) ∙ ungenerated (only (files_of parts)) (only (values_of generate parts)) input.0 both.0 input.1.0,
    )

-- what the words ask for has one worker and generates nothing, where it follows moves
follows_alone : (words : List (List ℕ)) (a : Asked) → asked_of words ≡ Some a → IfSome a.replay (λ path. (a.workers ≡ 1) × (a.generated ≡ None))
follows_alone words a e = let parts = some_is asked_by (parts_of words) a e in parts_alone parts.0 a parts.1.1 a.replay refl

-- ---- and the file of moves is another than the blueprint's

other_than : (named same free : Bool) → (named && not same && free) ≡ true → same ≡ false
other_than true true free e = absurd cc
other_than false same free e = absurd cc
other_than true false free e = refl

word_is : (b : Bool) (word file : List ℕ) → (if b then Some (Some word) else None) ≡ Some (Some file) → (b ≡ true) × (word ≡ file)
word_is true word file e = (refl, ap (λ o. unwrap_or (unwrap_or o None) word) e)
word_is false word file e = absurd (true≢false (sym (ap (λ o. is_some o) e)))

apart : (moves number crew : Option (Option (List ℕ))) (other : List ℕ) (path : Option (List ℕ)) (file : List ℕ) → replay_of moves number crew other path ≡ Some (Some file) → file ≡ other → ⊥
apart None number crew other path file e same = absurd (true≢false (sym (ap (λ o. is_some o) e)))
apart (Some None) number crew other path file e same = absurd (true≢false (sym (ap (λ o. is_some (unwrap_or o None)) e)))
apart (Some (Some word)) None crew other path file e same = absurd (true≢false (sym (ap (λ o. is_some o) e)))
apart (Some (Some word)) (Some (Some n)) crew other path file e same = absurd (true≢false (sym (ap (λ o. is_some o) e)))
apart (Some (Some word)) (Some None) None other path file e same = absurd (true≢false (sym (ap (λ o. is_some o) e)))
apart (Some (Some word)) (Some None) (Some (Some c)) other path file e same = absurd (true≢false (sym (ap (λ o. is_some o) e)))
apart (Some (Some word)) (Some None) (Some None) other path file e same =
    let w = word_is (is_file_name word && not (bytes_eq word other) && is_other path word) word file e in
    let differs : bytes_eq word other ≡ false = other_than (is_file_name word) (bytes_eq word other) (is_other path word) w.0 in
    let alike : bytes_eq word other ≡ true = (bytes_eq-Decides word other).1 (w.1 ∙ same) in
    true≢false (sym alike ∙ differs)

parts_apart : (parts : List Part) (a : Asked) → asked_by parts ≡ Some a → a.replay ≡ Some a.file → ⊥
parts_apart parts a e is =
    let input = some_is _ (asked_input (only (files_of parts)) (only (values_of generate parts))) a e in
    let crew = some_is _ (number_or usual_workers most_workers (only (values_of workers parts))) a input.1.1 in
    let budget = some_is _ (number_or usual_turns most_turns (only (values_of turns parts))) a crew.1.1 in
    let path = some_is _ (trace_of input.0.0 (only (values_of trace parts))) a budget.1.1 in
    let moves = mapped_to _ (replay_of (only (values_of replay parts)) (only (values_of generate parts)) (only (values_of workers parts)) input.0.0 path.0) a path.1.1 in
    let named = moves.1.0 ∙ ap (λ m. Some m) (ap (λ (x : Asked). x.replay) moves.1.1 ∙ is) in
    apart (only (values_of replay parts)) (only (values_of generate parts)) (only (values_of workers parts)) input.0.0 path.0 a.file named (ap (λ (x : Asked). x.file) (sym moves.1.1))

pub follows_another : (words : List (List ℕ)) (a : Asked) → asked_of words ≡ Some a → a.replay ≡ Some a.file → ⊥
follows_another words a e = let parts = some_is asked_by (parts_of words) a e in parts_apart parts.0 a parts.1.1

-- Worked rows.
replayed : asked_of (codes "--replay=r.txt" ∷ codes "--turns=4000" ∷ codes "--" ∷ codes "f.blue" ∷ [])
    ≡ Some (record { file = codes "f.blue"; generated = None; workers = 1; turns = 4000; trace = None; replay = Some (codes "r.txt") })
unfolding parts_from
replayed = refl

-- `--workers 1` is refused beside a replay, though it is the usual number
crewed : asked_of (codes "--replay" ∷ codes "r.txt" ∷ codes "--workers" ∷ codes "1" ∷ codes "f.blue" ∷ []) ≡ None
unfolding parts_from
crewed = refl

-- and so are lines to be generated
generating : asked_of (codes "--gen" ∷ codes "4" ∷ codes "--replay" ∷ codes "r.txt" ∷ []) ≡ None
unfolding parts_from
generating = refl

-- the moves are in a file of their own
of_blueprint : asked_of (codes "--replay" ∷ codes "f.blue" ∷ codes "f.blue" ∷ []) ≡ None
unfolding parts_from
of_blueprint = refl

of_trace : asked_of (codes "--trace" ∷ codes "r.txt" ∷ codes "--replay" ∷ codes "r.txt" ∷ codes "f.blue" ∷ []) ≡ None
unfolding parts_from
of_trace = refl

twice : asked_of (codes "--replay" ∷ codes "r.txt" ∷ codes "--replay" ∷ codes "s.txt" ∷ codes "f.blue" ∷ []) ≡ None
unfolding parts_from
twice = refl

valueless : asked_of (codes "f.blue" ∷ codes "--replay" ∷ []) ≡ None
unfolding parts_from
valueless = refl

hidden : asked_of (codes "--replay" ∷ codes ".x" ∷ codes "f.blue" ∷ []) ≡ None
unfolding parts_from
hidden = refl
