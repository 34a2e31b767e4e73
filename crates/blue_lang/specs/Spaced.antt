-- How words are written one behind the other.
use Rattle.std.specs.Prelude.{ℕ, List, [], ◌∷◌, ◌++◌}
use Rattle.elem_core.specs.Bytes.{space_byte}

-- each word behind one space
abbrev pub spaced : List (List ℕ) → List ℕ
spaced [] = []
spaced (w ∷ ws) = space_byte ∷ (w ++ spaced ws)
