-- How bytes are cut at a byte.
use Rattle.std.specs.Prelude.{ℕ, ◌==◌, if◌then◌else◌, List, [], ◌∷◌, Option, Some, None}
use Rattle.std.specs.Option.{option_map}

-- the byte put before the first part
abbrev pub onto_cut : ℕ → List ℕ × List ℕ → List ℕ × List ℕ
onto_cut b r = (b ∷ r.0, r.1)

-- what stands before the first such byte, and what stands behind it
abbrev pub cut_at : ℕ → List ℕ → Option (List ℕ × List ℕ)
cut_at c [] = None
cut_at c (b ∷ bs) = if b == c then Some ([], bs) else option_map (onto_cut b) (cut_at c bs)
