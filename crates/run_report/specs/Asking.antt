-- What the words of the command ask for.
use Rattle.std.specs.Prelude.{ℕ, Bool, true, not, ◌&&◌, nat_le, if◌then◌else◌, List, [], ◌∷◌, length, Option, Some, None, option_map, option_and_then, codes}
use Rattle.std.specs.Str.{bytes_eq}
use Rattle.std.specs.Str.Parse.{digits_value}
use Rattle.elem_core.specs.Number.{is_numeral}
use Rattle.elem_core.specs.declared.count.TheConstants.{MOST_COUNT}
use Rattle.blue_words.specs.Names.{is_file_name}
use Rattle.run_report.specs.Parts.{Part, generate, workers, turns, trace, replay, parts_of, files_of, values_of}

-- the run of a file's blueprint, perhaps with so many lines generated before it, by so many workers and at most so many turns, and
-- perhaps a file for the trace, and perhaps the file of a trace whose moves are to be followed
pub record Asked : Type 0 where
  pub file : List ℕ
  pub generated : Option ℕ
  pub workers : ℕ
  pub turns : ℕ
  pub trace : Option (List ℕ)
  pub replay : Option (List ℕ)

-- the most lines that may be asked for
abbrev pub most_generated : ℕ
most_generated = 10000000

-- the most workers that may be asked for
abbrev pub most_workers : ℕ
most_workers = 64

-- the most turns that may be asked for
abbrev pub most_turns : ℕ
most_turns = MOST_COUNT

-- the workers where no number is given
abbrev pub usual_workers : ℕ
usual_workers = 1

-- the turns where no number is given
abbrev pub usual_turns : ℕ
usual_turns = 100000000

-- the number of 1 to 10 digits, from 1 to the greatest
abbrev pub number_within : ℕ → List ℕ → Option ℕ
number_within most word =
    if is_numeral word && nat_le (length word) 10 && nat_le 1 (digits_value 10 word) && nat_le (digits_value 10 word) most
    then Some (digits_value 10 word) else None

-- the value of what is given once or not at all; None where it is given more often
abbrev pub only : List (List ℕ) → Option (Option (List ℕ))
only [] = Some None
only (word ∷ []) = Some (Some word)
only _ = None

-- the number of an option, or the usual one where none is given
abbrev pub number_or : ℕ → ℕ → Option (Option (List ℕ)) → Option ℕ
number_or usual most (Some None) = Some usual
number_or usual most (Some (Some word)) = number_within most word
number_or usual most None = None

-- the blueprint's file, with the number of lines to generate: one file and no number, or a number and no file
abbrev pub asked_input : Option (Option (List ℕ)) → Option (Option (List ℕ)) → Option (List ℕ × Option ℕ)
asked_input (Some (Some word)) (Some None) = if is_file_name word then Some (word, None) else None
asked_input (Some None) (Some (Some word)) = option_map (λ n. (codes "gen.blue", Some n)) (number_within most_generated word)
asked_input _ _ = None

-- the trace's file, which is another than the blueprint's
abbrev pub trace_of : List ℕ → Option (Option (List ℕ)) → Option (Option (List ℕ))
trace_of other (Some None) = Some None
trace_of other (Some (Some word)) = if is_file_name word && not (bytes_eq word other) then Some (Some word) else None
trace_of other None = None

-- the word is another than that, where there is one
abbrev pub is_other : Option (List ℕ) → List ℕ → Bool
is_other None word = true
is_other (Some path) word = not (bytes_eq word path)

-- The file of the moves to follow, which is another than the blueprint's and the trace's. Beside it no number of lines and no number of
-- workers is given.
abbrev pub replay_of : Option (Option (List ℕ)) → Option (Option (List ℕ)) → Option (Option (List ℕ)) → List ℕ → Option (List ℕ) → Option (Option (List ℕ))
replay_of (Some None) number crew other path = Some None
replay_of (Some (Some word)) (Some None) (Some None) other path = if is_file_name word && not (bytes_eq word other) && is_other path word then Some
    (Some word) else None
replay_of _ _ _ _ _ = None

-- what the parts ask for, where each option is given once at most and each value is within its limits
abbrev pub asked_by : List Part → Option Asked
asked_by parts =
    option_and_then (λ input.
    option_and_then (λ w.
    option_and_then (λ t.
    option_and_then (λ path.
    option_map (λ moves. record { file = input.0; generated = input.1; workers = w; turns = t; trace = path; replay = moves })
    (replay_of (only (values_of replay parts)) (only (values_of generate parts)) (only (values_of workers parts)) input.0 path))
    (trace_of input.0 (only (values_of trace parts))))
    (number_or usual_turns most_turns (only (values_of turns parts))))
    (number_or usual_workers most_workers (only (values_of workers parts))))
    (asked_input (only (files_of parts)) (only (values_of generate parts)))

-- what the words ask for; None where they are no command
abbrev pub asked_of : List (List ℕ) → Option Asked
asked_of words = option_and_then asked_by (parts_of words)
