-- Where no port has a name and none is an instance's, no place of a wire is at fault.
use Rattle.std.proofs.Common.{◌≡◌, ℕ, ◌+◌, Bool, true, false, cond, ◌&&◌, List, [], ◌∷◌, Option, Some, None, refl, ap, sym, ◌∙◌}
use Rattle.std.specs.List.{list_all}
use Rattle.std.specs.Option.{option_or}
use Rattle.std.proofs.lemmas.Bool.{and_parts}
use Rattle.blue_names.specs.First.{first_from, when}
use Rattle.blue_modules.specs.declared.text.PortMark.{PortMark}
use Rattle.blue_modules.specs.declared.text.PortMark.TheVariants.{Num, Name}
use Rattle.blue_modules.specs.declared.text.Entry.{Entry}
use Rattle.blue_modules.specs.declared.text.Entry.TheVariants.{Node, Instance, Wire}
use Rattle.blue_modules.specs.Text.{PlainModule}
use Rattle.blue_modules.specs.Names.{is_called, entry_named}
use Rattle.blue_modules.specs.Rules.{Body, by_number, names_no_port, is_wrong, mark_text, wrong_place, wrong_wire}

-- what is named is no instance
not_wrong : (before : List PlainModule) (output : Bool) (name : List ℕ) (k : ℕ) (es : List Entry) → list_all names_no_port es ≡ true → is_wrong before output (entry_named name es) (Num k) ≡ false
not_wrong before output name k [] h = refl
not_wrong before output name k (e ∷ es) h =
    let both = and_parts (names_no_port e) (list_all names_no_port es) h in
    at (is_called name e) e both.0 (not_wrong before output name k es both.1)
  where
    here : (d : Entry) → names_no_port d ≡ true → is_wrong before output (Some d) (Num k) ≡ false
    here (Node n) h = refl
    here (Instance u) h = cc
    here (Wire w) h = refl

    at : (t : Bool) (d : Entry) → names_no_port d ≡ true → is_wrong before output (entry_named name es) (Num k) ≡ false → is_wrong before output (cond t (Some d) (entry_named name es)) (Num k) ≡ false
    at true d h later = here d h
    at false d h later = later

right_place : (b : Body) (output : Bool) (name : List ℕ) (m : PortMark) → by_number m ≡ true → list_all names_no_port b.entries ≡ true → wrong_place b output name m ≡ None
right_place b output name (Num k) m h = ap (λ t. when t (name, mark_text (Num k))) (not_wrong b.before output name k b.entries h)
right_place b output name (Name p) m h = cc

right_entry : (b : Body) (e : Entry) → names_no_port e ≡ true → list_all names_no_port b.entries ≡ true → wrong_wire b e ≡ None
right_entry b (Node n) m h = refl
right_entry b (Instance u) m h = refl
right_entry b (Wire w) m h =
    let both = and_parts (by_number w.output) (by_number w.input) m in
    ap (λ o. option_or o (wrong_place b false w.to w.input)) (right_place b true w.from w.output both.0 h) ∙ right_place b false w.to w.input both.1 h

right_entries : (b : Body) (n : ℕ) (es : List Entry) → list_all names_no_port es ≡ true → list_all names_no_port b.entries ≡ true → first_from (λ _ e. wrong_wire b e) n es ≡ None
right_entries b n [] m h = refl
right_entries b n (e ∷ es) m h =
    let both = and_parts (names_no_port e) (list_all names_no_port es) m in
    ap (λ o. option_or o (first_from (λ _ d. wrong_wire b d) (n + 1) es)) (right_entry b e both.0 h) ∙ right_entries b (n + 1) es both.1 h

pub right_wires : (b : Body) → list_all names_no_port b.entries ≡ true → None ≡ first_from (λ _ e. wrong_wire b e) 0 b.entries
right_wires b h = sym (right_entries b 0 b.entries h h)
