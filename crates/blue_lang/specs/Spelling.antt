-- Lists of words.
use Rattle.std.specs.Prelude.{◌≡◌, ℕ, true, List}
use Rattle.std.specs.List.{list_all}
use Rattle.blue_words.specs.Names.{is_word}

-- each is a word: one byte or more, each from 0x21 to 0x7e
abbrev pub AllWords : List (List ℕ) → Type 0
AllWords ws = list_all is_word ws ≡ true
