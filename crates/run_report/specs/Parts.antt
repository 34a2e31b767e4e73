-- What the words of the command say, in order: options with their values, and files.
use Rattle.std.specs.Prelude.{ℕ, Bool, true, false, ◌==◌, if◌then◌else◌, List, [], ◌∷◌, map, Option, Some, None, option_map, codes}
use Rattle.std.specs.Str.{bytes_eq}

-- an option of the command
pub data Setting : Type 0 where
  generate : Setting
  workers : Setting
  turns : Setting
  trace : Setting
  replay : Setting

-- an option with its value, or a file
pub data Part : Type 0 where
  given : Setting → List ℕ → Part
  file : List ℕ → Part

-- the word begins with `-`
abbrev pub is_dashed : List ℕ → Bool
is_dashed [] = false
is_dashed (b ∷ bs) = b == 45

-- what stands in a word before its first `=`; the whole word where there is none
abbrev pub name_in : List ℕ → List ℕ
name_in [] = []
name_in (b ∷ bs) = if b == 61 then [] else b ∷ name_in bs

-- what stands in a word behind its first `=`, where there is one
abbrev pub value_in : List ℕ → Option (List ℕ)
value_in [] = None
value_in (b ∷ bs) = if b == 61 then Some bs else value_in bs

-- the option of that name
abbrev pub setting_of : List ℕ → Option Setting
setting_of name =
    if bytes_eq (codes "--gen") name then Some generate
    else (if bytes_eq (codes "--workers") name then Some workers
    else (if bytes_eq (codes "--turns") name then Some turns
    else (if bytes_eq (codes "--trace") name then Some trace
    else (if bytes_eq (codes "--replay") name then Some replay else None))))

-- the part, and then those of the rest
abbrev pub with_part : Part → Option (List Part) → Option (List Part)
with_part part = option_map (λ parts. part ∷ parts)

-- an option has its value behind `=`, or it is the next word
abbrev pub with_value : Option Setting → Option (List ℕ) → (Option Setting → Option (List Part)) → Option (List Part)
with_value None value rest = None
with_value (Some s) None rest = rest (Some s)
with_value (Some s) (Some v) rest = with_part (given s v) (rest None)

-- The parts from a word on, where the rest is told from the option on that waits for its value. That value does not begin with `-`.
-- Behind a word `--` all words are files.
abbrev pub word_from : Option Setting → List ℕ → List (List ℕ) → (Option Setting → Option (List Part)) → Option (List Part)
word_from (Some s) word words rest = if is_dashed word then None else with_part (given s word) (rest None)
word_from None word words rest =
    if bytes_eq word (codes "--") then Some (map file words)
    else (if is_dashed word then with_value (setting_of (name_in word)) (value_in word) rest else with_part (file word) (rest None))

-- the parts of no words: none; and no parts at all where an option still waits for its value
abbrev pub no_word : Option Setting → Option (List Part)
no_word (Some s) = None
no_word None = Some []

-- the parts of the words, behind an option that waits for its value or behind none; None where they are not all parts
unfoldable pub parts_from : List (List ℕ) → Option Setting → Option (List Part)
parts_from [] waits = no_word waits
parts_from (word ∷ words) waits = word_from waits word words (parts_from words)

-- the parts that the words say in order: an option's value is the next word, which does not begin with `-`, or stands behind `=`; behind a
-- word `--` all words are files; no parts where a word is none of these
abbrev pub parts_of : List (List ℕ) → Option (List Part)
parts_of words = parts_from words None

-- the files among some parts
abbrev pub files_of : List Part → List (List ℕ)
files_of [] = []
files_of (given s value ∷ parts) = files_of parts
files_of (file name ∷ parts) = name ∷ files_of parts

-- this option is that one
abbrev pub is_setting : Setting → Setting → Bool
is_setting generate generate = true
is_setting workers workers = true
is_setting turns turns = true
is_setting trace trace = true
is_setting replay replay = true
is_setting _ _ = false

-- the values that some parts give of an option
abbrev pub values_of : Setting → List Part → List (List ℕ)
values_of s [] = []
values_of s (given t value ∷ parts) = if is_setting s t then value ∷ values_of s parts else values_of s parts
values_of s (file name ∷ parts) = values_of s parts
