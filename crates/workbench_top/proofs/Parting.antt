-- The parts of a row, one by one.
use Rattle.std.proofs.Common.{◌≡◌, ℕ, ◌+◌, Bool, true, false, List, [], ◌∷◌, ◌++◌, refl, sym, ap, subst, ◌∙◌, append_assoc}
use Rattle.std.specs.Prelude.{◌==◌, if◌then◌else◌, Option, Some, None}
use Rattle.std.specs.Option.{option_map}
use Rattle.blue_words.specs.Cut.{cut_at, onto_cut}
use Rattle.workbench_top.specs.Rows.{onto_part, row_parts, stage_between, sink_lines, later_lines}

-- ---- what stands before the first bar is the first part

cut_onto : (b : ℕ) (bs p q : List ℕ) (r : Option (List ℕ × List ℕ)) → cut_at 124 bs ≡ r → ((p q : List ℕ) → cut_at 124 bs ≡ Some (p, q) → row_parts bs ≡ p ∷ row_parts q)
    → option_map (onto_cut b) r ≡ Some (p, q) → onto_part b (row_parts bs) ≡ p ∷ row_parts q
cut_onto b bs p q None is before e = absurd cc
cut_onto b bs p q (Some r) is before e =
    let same : onto_cut b r ≡ (p, q) = cc in
    subst (λ ps. onto_part b ps ≡ p ∷ row_parts q) (sym (before r.0 r.1 is)) (ap (λ (x : List ℕ × List ℕ). x.0 ∷ row_parts x.1) same)

cut_first : (c : Bool) (b : ℕ) (bs p q : List ℕ) → ((p q : List ℕ) → cut_at 124 bs ≡ Some (p, q) → row_parts bs ≡ p ∷ row_parts q)
    → (if c then Some ([], bs) else option_map (onto_cut b) (cut_at 124 bs)) ≡ Some (p, q) → (if c then [] ∷ row_parts bs else onto_part b (row_parts bs)) ≡ p ∷ row_parts q
cut_first true b bs p q before e = let same : ([], bs) ≡ (p, q) = cc in ap (λ (x : List ℕ × List ℕ). x.0 ∷ row_parts x.1) same
cut_first false b bs p q before e = cut_onto b bs p q (cut_at 124 bs) refl before e

parts_cut : (bs p q : List ℕ) → cut_at 124 bs ≡ Some (p, q) → row_parts bs ≡ p ∷ row_parts q
parts_cut [] p q e = absurd cc
parts_cut (b ∷ bs) p q e = cut_first (b == 124) b bs p q (parts_cut bs) e

-- ---- where there is no bar there is one part

whole_onto : (b : ℕ) (bs : List ℕ) (r : Option (List ℕ × List ℕ)) → cut_at 124 bs ≡ r → (cut_at 124 bs ≡ None → row_parts bs ≡ bs ∷ [])
    → option_map (onto_cut b) r ≡ None → onto_part b (row_parts bs) ≡ (b ∷ bs) ∷ []
whole_onto b bs None is before e = subst (λ ps. onto_part b ps ≡ (b ∷ bs) ∷ []) (sym (before is)) refl
whole_onto b bs (Some r) is before e = absurd cc

whole_first : (c : Bool) (b : ℕ) (bs : List ℕ) → (cut_at 124 bs ≡ None → row_parts bs ≡ bs ∷ [])
    → (if c then Some ([], bs) else option_map (onto_cut b) (cut_at 124 bs)) ≡ None → (if c then [] ∷ row_parts bs else onto_part b (row_parts bs)) ≡ (b ∷ bs) ∷ []
whole_first true b bs before e = absurd cc
whole_first false b bs before e = whole_onto b bs (cut_at 124 bs) refl before e

parts_whole : (bs : List ℕ) → cut_at 124 bs ≡ None → row_parts bs ≡ bs ∷ []
parts_whole [] e = refl
parts_whole (b ∷ bs) e = whole_first (b == 124) b bs (parts_whole bs) e

-- ---- there is a part

onto_some : (b : ℕ) (ps : List (List ℕ)) → (x : List ℕ) × ((xs : List (List ℕ)) × (onto_part b ps ≡ x ∷ xs))
onto_some b [] = (b ∷ [], ([], refl))
onto_some b (p ∷ ps) = (b ∷ p, (ps, refl))

first_some : (c : Bool) (b : ℕ) (ps : List (List ℕ)) → (x : List ℕ) × ((xs : List (List ℕ)) × ((if c then [] ∷ ps else onto_part b ps) ≡ x ∷ xs))
first_some true b ps = ([], (ps, refl))
first_some false b ps = onto_some b ps

parts_some : (bs : List ℕ) → (x : List ℕ) × ((xs : List (List ℕ)) × (row_parts bs ≡ x ∷ xs))
parts_some [] = ([], ([], refl))
parts_some (b ∷ bs) = first_some (b == 124) b (row_parts bs)

later_stage : (n : ℕ) (p q : List ℕ) → later_lines n (p ∷ row_parts q) ≡ stage_between n (n + 1) p ++ later_lines (n + 1) (row_parts q)
later_stage n p q = let some = parts_some q in subst (λ ps. later_lines n (p ∷ ps) ≡ stage_between n (n + 1) p ++ later_lines (n + 1) ps) (sym some.1.1) refl

-- ---- the lines of a part, and of those behind it

-- a stage is put, and the parts behind it are left
pub later_on : (out total : List ℕ) (n next : ℕ) (rest p q : List ℕ) → cut_at 124 rest ≡ Some (p, q) → next ≡ n + 1 → out ++ later_lines n (row_parts rest) ≡ total
    → (out ++ stage_between n next p) ++ later_lines next (row_parts q) ≡ total
later_on out total n next rest p q is follows before =
    let parts = parts_cut rest p q is in
    let stage = later_stage n p q in
    let whole : out ++ (stage_between n (n + 1) p ++ later_lines (n + 1) (row_parts q)) ≡ total = subst (λ ls. out ++ ls ≡ total) stage (subst (λ ps. out ++ later_lines n ps ≡ total) parts before) in
    subst (λ m. (out ++ stage_between n m p) ++ later_lines m (row_parts q) ≡ total) (sym follows)
    (append_assoc out (stage_between n (n + 1) p) (later_lines (n + 1) (row_parts q)) ∙ whole)

-- the sink is put, and nothing is left
pub later_last : (out total : List ℕ) (n : ℕ) (rest : List ℕ) → cut_at 124 rest ≡ None → out ++ later_lines n (row_parts rest) ≡ total → out ++ sink_lines n rest ≡ total
later_last out total n rest is before = subst (λ ps. out ++ later_lines n ps ≡ total) (parts_whole rest is) before
