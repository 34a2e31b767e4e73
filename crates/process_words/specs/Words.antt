-- What the words of a process are to a command (own).
use Rattle.std.specs.Prelude.{ℕ, Bool, ◌&&◌, nat_le, if◌then◌else◌, List, [], ◌∷◌, length, map}
use Rattle.std.specs.declared.vec.Vec.{Vec}
use Rattle.std.specs.declared.alloc.Global.{Global}
use Rattle.std.specs.Str.{is_utf8}
use Rattle.elem_core.specs.Line.{has_no_lf, longest_line}

-- the word is a line: without LF, and of at most 65,536 bytes
abbrev pub is_line : List ℕ → Bool
is_line word = nat_le (length word) longest_line && has_no_lf word

-- the line of a word: one that is no line, or not UTF-8, is the empty line, which no command has
abbrev pub word_line : List ℕ → List ℕ
word_line word = if is_line word && is_utf8 word then word else []

-- the words of a command: all but the first, which is the program's name
abbrev pub command_words : List (List ℕ) → List (List ℕ)
command_words [] = []
command_words (name ∷ words) = map word_line words

-- the bytes of words
abbrev pub bytes_of : List (Vec ℕ Global) → List (List ℕ)
bytes_of words = map (λ (w : Vec ℕ Global). w.items) words
