-- The numbers that words say.
use Rattle.std.specs.Prelude.{ℕ, ◌^◌, ℤ, pos, neg_ℤ, Bool, ◌&&◌, nat_lt, nat_le, ◌==◌, if◌then◌else◌, List, [], ◌∷◌, length, Result, Ok, Err}
use Rattle.std.specs.Char.{is_ascii_digit}
use Rattle.std.specs.List.{list_all}
use Rattle.std.specs.Str.Parse.{digits_value}
use Rattle.elem_core.specs.Number.{fits}
use Rattle.blue_words.specs.declared.fault.BlueKind.{BlueKind}
use Rattle.blue_words.specs.declared.fault.BlueKind.TheVariants.{BadName, BadNumber}
use Rattle.blue_words.specs.Names.{is_name, is_file_name}

-- 1 to 20 digits
abbrev pub are_digits : List ℕ → Bool
are_digits ds = nat_lt 0 (length ds) && nat_le (length ds) 20 && list_all is_ascii_digit ds

-- the number of the digits, where it is below 2 to the power of bits
abbrev pub read_count : ℕ → List ℕ → Result ℕ BlueKind
read_count bits ds = if are_digits ds && nat_lt (digits_value 10 ds) (2 ^ bits) then Ok (digits_value 10 ds) else Err BadNumber

-- the number, where it has 64 bits with its sign
abbrev pub read_fitting : ℤ → Result ℤ BlueKind
read_fitting z = if fits z then Ok z else Err BadNumber

-- the number of an optional `-` and 1 to 20 digits, where it has 64 bits with its sign
abbrev pub read_int : List ℕ → Result ℤ BlueKind
read_int [] = Err BadNumber
read_int (c ∷ cs) =
    if c == 45
    then (if are_digits cs then read_fitting (neg_ℤ (pos (digits_value 10 cs))) else Err BadNumber)
    else (if are_digits (c ∷ cs) then read_fitting (pos (digits_value 10 (c ∷ cs))) else Err BadNumber)

-- the name that a word is
abbrev pub read_name : List ℕ → Result (List ℕ) BlueKind
read_name w = if is_name w then Ok w else Err BadName

-- the file name that a word is
abbrev pub read_file_name : List ℕ → Result (List ℕ) BlueKind
read_file_name w = if is_file_name w then Ok w else Err BadName
