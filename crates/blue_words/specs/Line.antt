-- What a line of a blueprint says by its bytes: whether it is passed over, and its words.
use Rattle.std.specs.Prelude.{ℕ, Bool, false, not, ◌||◌, ◌&&◌, ◌==◌, nat_le, if◌then◌else◌, List, [], ◌∷◌}
use Rattle.std.specs.List.{list_all, list_any}
use Rattle.std.specs.Char.{is_ascii_graphic}
use Rattle.elem_core.specs.Bytes.{space_byte}

-- a space, or a byte of a word
abbrev pub is_plain_byte : ℕ → Bool
is_plain_byte b = nat_le 32 b && nat_le b 126

-- every byte is a space or a byte of a word
abbrev pub is_plain : List ℕ → Bool
is_plain bs = list_all is_plain_byte bs

-- the first byte other than a space is `#`
abbrev pub is_comment : List ℕ → Bool
is_comment [] = false
is_comment (b ∷ bs) = if b == space_byte then is_comment bs else b == 35

-- the line says nothing: it is a comment, or has no word
-- Choice: docs/DECISIONS.md#lines-without-words
abbrev pub is_passed_over : List ℕ → Bool
is_passed_over bs = is_comment bs || not (list_any is_ascii_graphic bs)
