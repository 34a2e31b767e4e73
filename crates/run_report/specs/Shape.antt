-- The command as its parser is told of it: an argument for the files and one for each option, each of which may come several times.
use Rattle.std.specs.Prelude.{◌≡◌, ◌&&◌, ℕ, Bool, true, not, nat_lt, List, [], Option, Some, option_map, unwrap_or, IsSomeAnd, codes}
use Rattle.std.specs.List.{list_all}
use Rattle.std.specs.Str.{bytes_eq}
use Rattle.std.specs.Borrow.{Bor}
use Rattle.clap.specs.Matches.{found_of, matched_of, raw_values}
use Rattle.clap.specs.declared.parser.matches.ArgMatches.{ArgMatches}
use Rattle.run_report.specs.Parts.{Part, generate, workers, turns, trace, replay, files_of, values_of}
use Rattle.clap.specs.Walk.{Rule}
use Rattle.clap.specs.Simple.{App, new_app, new_rule, with_rule, on_top}
use Rattle.clap.specs.declared.builder.action.ArgAction.TheVariants.{Append}

-- the argument for the files
abbrev pub file_rule : Rule
file_rule = record (new_rule (codes "file")) { action = Some Append }

-- an option of this name, with a value
abbrev pub option_rule : List ℕ → Rule
option_rule name = record (new_rule name) { long = Some name; action = Some Append }

-- the command without its arguments: the first word is no name of a program, and no word asks for help
abbrev pub bare_app : App
bare_app = on_top (λ s. record s { no_binary_name = true; disable_help_flag = true }) (new_app (codes "streams"))

-- the command as its parser is told of it: the files, and the five options
abbrev pub streams_app : App
streams_app = with_rule (with_rule (with_rule (with_rule (with_rule (with_rule bare_app file_rule) (option_rule (codes "gen"))) (option_rule (codes "workers")))
    (option_rule (codes "turns"))) (option_rule (codes "trace"))) (option_rule (codes "replay"))

-- the word is ASCII, and not `-` alone
abbrev pub is_text : List ℕ → Bool
is_text word = list_all (λ b. nat_lt b 128) word && not (bytes_eq word (codes "-"))

-- each of these words is ASCII and not `-` alone
abbrev pub are_texts : List (List ℕ) → Bool
are_texts words = list_all is_text words

-- the text of a value, where there is one
abbrev pub text_in : Option (Option (Bor (List ℕ))) → Option (Option (List ℕ))
text_in = option_map (λ value. option_map (λ text. text.now) value)

-- the values that were found of that name
abbrev pub value_list : ArgMatches → List ℕ → List (List ℕ)
value_list matches name = unwrap_or (option_map raw_values (matched_of (found_of matches) name)) []

-- the files and the values of each option that were found are those of the parts
pub record SaysAll (matches : ArgMatches) (parts : List Part) : Type 0 where
  pub files : value_list matches (codes "file") ≡ files_of parts
  pub generate_is : value_list matches (codes "gen") ≡ values_of generate parts
  pub workers_is : value_list matches (codes "workers") ≡ values_of workers parts
  pub turns_is : value_list matches (codes "turns") ≡ values_of turns parts
  pub trace_is : value_list matches (codes "trace") ≡ values_of trace parts
  pub replay_is : value_list matches (codes "replay") ≡ values_of replay parts

-- there are parts, and they are what was found
abbrev pub SaysParts : Option (List Part) → ArgMatches → Type 0
SaysParts parts matches = IsSomeAnd parts (SaysAll matches)
