-- The words of a blueprint that are not fixed: names, file names, and words of any kind.
use Rattle.std.specs.Prelude.{ℕ, Bool, false, ◌&&◌, ◌||◌, ◌==◌, nat_lt, nat_le, List, [], ◌∷◌, length}
use Rattle.std.specs.Char.{is_ascii_alphabetic, is_ascii_alphanumeric, is_ascii_digit, is_ascii_graphic, is_ascii_lowercase}
use Rattle.std.specs.List.{list_all}
use Rattle.elem_core.specs.Bytes.{point_byte}

-- a lower-case letter, a digit or `_`
abbrev pub is_name_byte : ℕ → Bool
is_name_byte b = is_ascii_lowercase b || is_ascii_digit b || b == 95

-- a lower-case letter, and up to 31 bytes that are lower-case letters, digits or `_`
abbrev pub is_name : List ℕ → Bool
is_name [] = false
is_name (b ∷ bs) = is_ascii_lowercase b && nat_le (length bs) 31 && list_all is_name_byte bs

-- a letter, a digit, `.`, `_` or `-`
abbrev pub is_file_byte : ℕ → Bool
is_file_byte b = is_ascii_alphanumeric b || b == point_byte || b == 95 || b == 45

-- a letter or a digit, and up to 63 bytes that are letters, digits, `.`, `_` or `-`
abbrev pub is_file_name : List ℕ → Bool
is_file_name [] = false
is_file_name (b ∷ bs) = is_ascii_alphanumeric b && nat_le (length bs) 63 && list_all is_file_byte bs

-- one byte or more, each from 0x21 to 0x7e
abbrev pub is_word : List ℕ → Bool
is_word bs = nat_lt 0 (length bs) && list_all is_ascii_graphic bs

-- the first byte is a letter
abbrev pub begins_with_letter : List ℕ → Bool
begins_with_letter [] = false
begins_with_letter (b ∷ bs) = is_ascii_alphabetic b
