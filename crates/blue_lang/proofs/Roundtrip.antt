-- The canonical text of what a text says is a text that says the same.
use Rattle.std.proofs.Common.{◌≡◌, ℕ, ◌+◌, ◌≤◌, ◌<◌, Bool, true, false, not, cond, ◌&&◌, ltb, List, [], ◌∷◌, ◌++◌, length, map, Option, Some, None, Ok, refl, sym, ap, subst, ◌∙◌, arith}
use Rattle.std.specs.Prelude.{codes, is_some}
use Rattle.std.specs.List.{cons_option}
use Rattle.std.proofs.lemmas.Bool.{le-ltb}
use Rattle.elem_core.specs.Text.{words, lines}
use Rattle.stream_model.specs.Linear.{Side, at_source, at_stage, at_sink, side_by, role_of}
use Rattle.blue_modules.specs.declared.text.Entry.{Entry}
use Rattle.blue_modules.specs.declared.text.Entry.TheVariants.{Node, Instance, Wire}
use Rattle.blue_modules.specs.Text.{PlainText}
use Rattle.blue_words.specs.declared.fault.BlueKind.{BlueKind}
use Rattle.blue_words.specs.declared.fault.BlueKind.TheVariants.{BadLine, TooLong, TooMany}
use Rattle.blue_words.specs.declared.fault.Version.TheVariants.{Second}
use Rattle.blue_words.specs.Line.{is_passed_over}
use Rattle.blue_lang.specs.Kinds.{side_word}
use Rattle.blue_lang.specs.Declarations.{Declaration, sets, switch, chain, opens, port, part, ends, declared_by, declared_in, is_misplaced}
use Rattle.blue_lang.specs.Texts.{Says, Context, context_of, text_of, has_room, declaration_fault, words_fault, said_fault, line_fault, version_behind, version_in, declaration_at, declares, declarations_from, declarations, fault_behind, fault_or, end_fault, first_fault}
use Rattle.blue_lang.specs.Canonical.{direction_word, declaration_words, lines_text, version_words, canonical_declarations, canonical}
use Rattle.blue_lang.proofs.Respelling.{Words, AllWords}
use Rattle.blue_lang.proofs.Reading.{version_push, declarations_push}
use Rattle.blue_lang.proofs.Declaring.{joined}
use Rattle.blue_lang.proofs.Lining.{joined_declares, plain_joined, words_joined, first_line}
use Rattle.blue_lang.proofs.Rebuilding.{rebuilt}
use Rattle.blue_lang.proofs.Fitting.{is_placed, Fit}
use Rattle.blue_lang.proofs.Limits.{Each, Fine, none_after, lines_fine, lines_room, all_fine, all_fit}

abbrev Ds : Type 0
Ds = List Declaration

-- ---- the first word of a declaration that may stand here
abbrev first_misplaced : Context → Words → Bool
first_misplaced c [] = true
first_misplaced c (w ∷ ws) = is_misplaced (is_some c.opened) c.defaulted w

no : {P : Type 0} → false ≡ true → P
no h = absurd (let k : ⊥ = cc in k)

outside : (word : List ℕ) → ((t : Bool) → is_misplaced false t word ≡ false) → (i t : Bool) → not i ≡ true → is_misplaced i t word ≡ false
outside word f true t h = no h
outside word f false t h = f t

default_placed : (i t : Bool) → (not i && not t) ≡ true → is_misplaced i t (codes "default") ≡ false
default_placed true t h = no h
default_placed false true h = no h
default_placed false false h = refl

port_placed : (o i t : Bool) → i ≡ true → is_misplaced i t (direction_word o) ≡ false
port_placed false true t h = refl
port_placed true true t h = refl
port_placed o false t h = no h

end_placed : (i t : Bool) → i ≡ true → is_misplaced i t (codes "end") ≡ false
end_placed true t h = refl
end_placed false t h = no h

node_placed : (s : Side) (i t : Bool) → is_misplaced i t (side_word s) ≡ false
node_placed at_source true t = refl
node_placed at_source false t = refl
node_placed at_stage true t = refl
node_placed at_stage false t = refl
node_placed at_sink true t = refl
node_placed at_sink false t = refl

part_placed : (e : Entry) (c : Context) (i t : Bool) → is_some c.opened ≡ i → c.defaulted ≡ t → first_misplaced c (declaration_words (part e)) ≡ false
part_placed (Node n) c i t x y = node_placed (side_by (role_of n.kind)) (is_some c.opened) c.defaulted
part_placed (Instance u) c i t x y = ap (λ b. is_misplaced b c.defaulted (codes "use")) x ∙ use_placed i c.defaulted
  where
    use_placed : (i t : Bool) → is_misplaced i t (codes "use") ≡ false
    use_placed true t = refl
    use_placed false t = refl
part_placed (Wire w) c i t x y = ap (λ b. is_misplaced b c.defaulted (codes "wire")) x ∙ wire_placed i c.defaulted
  where
    wire_placed : (i t : Bool) → is_misplaced i t (codes "wire") ≡ false
    wire_placed true t = refl
    wire_placed false t = refl

placed_first : (c : Context) (d : Declaration) → is_placed c d ≡ true → first_misplaced c (declaration_words d) ≡ false
placed_first c (sets a) h = default_placed (is_some c.opened) c.defaulted h
placed_first c (switch n) h = outside (codes "switch") (λ t. refl) (is_some c.opened) c.defaulted h
placed_first c (chain k) h = outside (codes "chain") (λ t. refl) (is_some c.opened) c.defaulted h
placed_first c (opens n a) h = outside (codes "module") (λ t. refl) (is_some c.opened) c.defaulted h
placed_first c (port p) h = port_placed p.output (is_some c.opened) c.defaulted h
placed_first c (part e) h = part_placed e c (is_some c.opened) c.defaulted refl refl
placed_first c ends h = end_placed (is_some c.opened) c.defaulted h

words_clean : (c : Context) (d : Declaration) (ws : Words) → first_misplaced c ws ≡ false → declared_by Second ws ≡ Ok d → has_room c d ≡ true → words_fault Second c ws ≡ None
words_clean c d [] m h r = no (sym m)
words_clean c d (w ∷ ws) m h r =
    ap (λ t. cond t (Some BadLine) (declaration_fault c (declared_by Second (w ∷ ws)))) m ∙ (ap (declaration_fault c) h ∙ ap (λ t. cond t None (Some TooMany)) r)

-- ---- the canonical lines
abbrev line_of : Declaration → List ℕ
line_of d = joined (declaration_words d)

some_words : (ws : Words) (d : Declaration) → declared_by Second ws ≡ Ok d → 0 < length ws
some_words [] d h = absurd (let k : ⊥ = cc in k)
some_words (w ∷ ws) d h = omega arith

words_of_line : (ws : Words) → 0 < length ws → AllWords ws → words (joined ws) ≡ ws
words_of_line [] l h = absurd (omega (arith, l))
words_of_line (w ∷ ws) l h = words_joined w ws h

line_declares : (d : Declaration) → Fine d → declares (Some Second) (line_of d) ≡ Some d
line_declares d f =
    let whole : declared_in Second (line_of d) ≡ Ok d = joined_declares Second (declaration_words d) (some_words (declaration_words d) d f.kept.again) f.kept.words ∙ f.kept.again in
    ap (λ t. cond t None (declaration_at (declared_in Second (line_of d)))) f.kept.heard ∙ ap declaration_at whole

line_faultless : (c : Context) (d : Declaration) → Fine d → is_placed c d ≡ true → has_room c d ≡ true → line_fault (Some Second) c (line_of d) ≡ None
line_faultless c d f p r =
    let l = line_of d in
    let words_are = words_of_line (declaration_words d) (some_words (declaration_words d) d f.kept.again) f.kept.words in
    let clean : words_fault Second c (words l) ≡ None = ap (words_fault Second c) words_are ∙ words_clean c d (declaration_words d) (placed_first c d p) f.kept.again r in
    let said : said_fault Second c l ≡ None = ap (λ t. cond t (words_fault Second c (words l)) (Some BadLine)) (plain_joined (declaration_words d) f.kept.words) ∙ clean in
    let later : Option BlueKind = cond (is_passed_over l) None (said_fault Second c l) in
    ap (λ t. cond t (Some TooLong) later) (le-ltb 1024 (length l) f.kept.short) ∙ (ap (λ t. cond t None (said_fault Second c l)) f.kept.heard ∙ said)

canonical_faultless : (before : List (List ℕ)) (bs ds : Ds) → version_in before ≡ Some Second → declarations before ≡ bs → Each Fine ds → Fit bs ds → first_fault before (map line_of ds) ≡ None
canonical_faultless before bs [] v e f t =
    ap (λ x. end_fault x (context_of (declarations before))) v ∙ (ap (λ x. end_fault (Some Second) (context_of x)) e ∙ ap (λ b. cond b (Some (record { kind = BadLine; line = 0 })) None) t)
canonical_faultless before bs (d ∷ ds) v e f t =
    let l = line_of d in
    let clean : fault_behind before l ≡ None = ap (λ x. line_fault x (context_of (declarations before)) l) v ∙ (ap (λ x. line_fault (Some Second) (context_of x) l) e ∙ line_faultless (context_of bs) d f.0 t.0 t.1) in
    let version : version_in (before ++ l ∷ []) ≡ Some Second = version_push None before l ∙ ap (λ x. version_behind x l) v in
    let declared : declarations (before ++ l ∷ []) ≡ bs ++ d ∷ [] = declarations_push None before l ∙ (ap (λ x. declarations before ++ cons_option (declares x l) []) v ∙ (ap (λ o. declarations before ++ cons_option o []) (line_declares d f.0) ∙ ap (λ x. x ++ d ∷ []) e)) in
    ap (λ o. fault_or o (length before + 1) (first_fault (before ++ l ∷ []) (map line_of ds))) clean ∙ canonical_faultless (before ++ l ∷ []) (bs ++ d ∷ []) ds version declared f.1 t.2

lines_declare : (ds : Ds) → Each Fine ds → declarations_from (Some Second) (map line_of ds) ≡ ds
lines_declare [] f = refl
lines_declare (d ∷ ds) f =
    ap (λ o. cons_option o (declarations_from (Some Second) (map line_of ds))) (line_declares d f.0) ∙ ap (λ x. d ∷ x) (lines_declare ds f.1)

-- ---- the canonical text's lines
text_lines : (wss : List Words) → Each AllWords wss → lines (lines_text wss) ≡ map joined wss
text_lines [] h = refl
text_lines (ws ∷ wss) h = first_line ws (lines_text wss) h.0 ∙ ap (λ x. joined ws ∷ x) (text_lines wss h.1)

fine_words : (ds : Ds) → Each Fine ds → Each AllWords (map declaration_words ds)
fine_words [] f = tt
fine_words (d ∷ ds) f = (f.0.kept.words, fine_words ds f.1)

joined_lines : (ds : Ds) → map joined (map declaration_words ds) ≡ map line_of ds
joined_lines [] = refl
joined_lines (d ∷ ds) = ap (λ x. line_of d ∷ x) (joined_lines ds)

lines_of_canonical : (t : PlainText) → Each Fine (canonical_declarations t) → lines (canonical t) ≡ joined version_words ∷ map line_of (canonical_declarations t)
lines_of_canonical t f =
    text_lines (version_words ∷ map declaration_words (canonical_declarations t)) (refl, fine_words (canonical_declarations t) f) ∙ ap (λ x. joined version_words ∷ x) (joined_lines (canonical_declarations t))

-- the canonical text of what a text says says the same, where it is no longer than a text may be
pub canonical_says : (text : List ℕ) (t : PlainText) → Says text t → length (canonical t) ≤ 1048576 → Says (canonical t) t
canonical_says text t s l =
    let clean = none_after (ltb 1048576 (length text)) (record { kind = TooLong; line = 0 }) (first_fault [] (lines text)) s.faultless in
    let ds : Ds = declarations (lines text) in
    let each : Each Fine ds = lines_fine [] (lines text) clean.1 in
    let fine : Each Fine (canonical_declarations t) = subst (λ x. Each Fine (canonical_declarations x)) s.declared (all_fine ds each) in
    let fit : Fit [] (canonical_declarations t) = subst (λ x. Fit [] (canonical_declarations x)) s.declared (all_fit ds each (lines_room [] (lines text) clean.1)) in
    let cs : Ds = canonical_declarations t in
    let says = lines_of_canonical t fine in
    let declared : declarations (joined version_words ∷ map line_of cs) ≡ cs = lines_declare cs fine in
    let rest : first_fault (joined version_words ∷ []) (map line_of cs) ≡ None = canonical_faultless (joined version_words ∷ []) [] cs refl refl fine fit in
    let faultless : first_fault [] (joined version_words ∷ map line_of cs) ≡ None = rest in
    record {
      faultless = ap (λ b. cond b (Some (record { kind = TooLong; line = 0 })) (first_fault [] (lines (canonical t)))) (le-ltb 1048576 (length (canonical t)) l) ∙ (ap (first_fault []) says ∙ faultless);
      declared = ap (λ x. text_of (declarations x)) says ∙ (ap text_of declared ∙ rebuilt t);
    }
