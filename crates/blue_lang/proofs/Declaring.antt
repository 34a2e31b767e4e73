-- Declarations are read again from their canonical words.
use Rattle.std.proofs.Common.{◌≡◌, ℕ, ◌+◌, ◌≤◌, ◌<◌, ◌^◌, Bool, true, false, cond, ltb, leb, List, [], ◌∷◌, ◌++◌, length, Option, Some, None, Ok, Err, refl, sym, ap, subst, ◌∙◌, append-nil, length-append, arith}
use Rattle.std.specs.Prelude.{if◌then◌else◌, codes}
use Rattle.std.specs.Char.{is_ascii_alphabetic, is_ascii_digit, is_ascii_graphic, is_ascii_lowercase, is_ascii_uppercase}
use Rattle.std.specs.Fmt.{decimal}
use Rattle.std.specs.List.{list_all}
use Rattle.std.specs.Str.{bytes_eq}
use Rattle.std.proofs.lemmas.Bool.{and_parts, and_from, and_left, or_from, or_right, lt-ltb, leb-true, true≢false, false_from_ne_true}
use Rattle.std.proofs.lemmas.List.Folds.{list_all-append}
use Rattle.std.proofs.lemmas.Slice.Eq.{bytes_eq-Decides}
use Rattle.elem_core.specs.declared.why.Decider.{Decider}
use Rattle.stream_model.specs.declared.kind.Kind.{Kind}
use Rattle.blue_modules.specs.declared.text.Attrs.{Attrs}
use Rattle.blue_modules.specs.declared.text.PortMark.{PortMark}
use Rattle.blue_modules.specs.declared.text.PortMark.TheVariants.{Num, Name}
use Rattle.blue_modules.specs.declared.text.LaneMark.{LaneMark}
use Rattle.blue_modules.specs.declared.text.LaneMark.TheVariants.{Fused, Inherited, Own}
use Rattle.blue_modules.specs.declared.text.NodeText.{NodeText}
use Rattle.blue_modules.specs.declared.text.UseText.{UseText}
use Rattle.blue_modules.specs.declared.text.WireText.{WireText}
use Rattle.blue_modules.specs.declared.text.Entry.TheVariants.{Node, Instance, Wire}
use Rattle.blue_modules.specs.declared.text.StepText.{StepText}
use Rattle.blue_modules.specs.Text.{PlainChainText}
use Rattle.blue_words.specs.declared.fault.BlueKind.TheVariants.{BadLine, BadName}
use Rattle.blue_words.specs.declared.fault.Version.{Version}
use Rattle.blue_words.specs.declared.fault.Version.TheVariants.{First, Second}
use Rattle.blue_words.specs.Cut.{cut_at}
use Rattle.blue_words.specs.Line.{is_passed_over}
use Rattle.blue_words.specs.Names.{is_word, is_name, is_name_byte, begins_with_letter}
use Rattle.blue_words.specs.Numbers.{read_count, read_name}
use Rattle.blue_words.specs.Reading.{At, Reading, at_map, both, said, made, with_second, then_read, behind_word, begins_with, name, size}
use Rattle.blue_words.proofs.Cutting.{cut_at-append, cut_at-says}
use Rattle.blue_words.proofs.Plain.{lacks-name}
use Rattle.blue_kinds.specs.Kinds.{source_kind, sink_kind, stage_kind, stage_in, named_decider, kept_decider, decider_of, may_decide}
use Rattle.blue_kinds.specs.Steps.{read_chain}
use Rattle.blue_lang.specs.Spaced.{spaced}
use Rattle.blue_lang.specs.Kinds.{kind_words, sort_word, decider_words}
use Rattle.blue_lang.specs.Canonical.{attrs_words, mark_word, place_word, keep_words, lane_words, steps_words, direction_word, declaration_words}
use Rattle.blue_lang.specs.Declarations.{Declaration, sets, switch, chain, opens, port, part, ends, is_nil, set_decider, read_attrs, read_some_attrs, read_mark, cut_place, read_port_place, bare_lane, is_keep, read_keep, read_lane_size, read_lane, read_end, wire_from, read_wire, undecided, read_decided, read_node, read_use, read_behind, port_from, read_port, chain_words, read_opening, inner_declaration, later_declaration, declaration, read_whole, declared_by}
use Rattle.blue_lang.proofs.Respelling.{Words, AllWords, Tabled, behind_word_respelled, made_of, made_place, then_of, both_of, same_value, same_rest, same_place, some_if_read}
use Rattle.blue_lang.proofs.Lexical.{name_respelled, size_respelled, count_decimal, size_below, name_ok, length-name-le, decimal_digits, graphic_digits}
use Rattle.blue_lang.proofs.KindTables.{source_tabled, sink_tabled, stage_tabled}
use Rattle.blue_lang.proofs.Sorting.{Sorts, source_sorts, sink_sorts, stage_sorts}
use Rattle.blue_lang.proofs.Deciding.{KeptApart, decider_kept, decided_words, deciding_kept, chain_kept}
use Rattle.blue_lang.proofs.Texts.{decided_is, decided_of, stage_of}

-- words, parted by one space
abbrev pub joined : Words → List ℕ
joined [] = []
joined (w ∷ ws) = w ++ spaced ws

-- the canonical words of a declaration declare it in version 2, and are a line that may stand in a text
pub record KeptDeclaration (d : Declaration) : Type 0 where
  pub again : declared_by Second (declaration_words d) ≡ Ok d
  pub words : AllWords (declaration_words d)
  pub short : length (joined (declaration_words d)) ≤ 1024
  pub heard : is_passed_over (joined (declaration_words d)) ≡ false

from_tail : (d : Declaration) (word : List ℕ) (tail : Words) → declaration_words d ≡ word ∷ tail → declared_by Second (word ∷ tail) ≡ Ok d → is_word word ≡ true → AllWords tail → length word + length (spaced tail) ≤ 1024 → is_passed_over (word ++ spaced tail) ≡ false → KeptDeclaration d
from_tail d word tail e again w t l h =
    record {
      again = ap (declared_by Second) e ∙ again;
      words = ap (list_all is_word) e ∙ and_from _ _ w t;
      short = omega (arith, ap (λ x. length (joined x)) e, length-append word (spaced tail), l);
      heard = ap (λ x. is_passed_over (joined x)) e ∙ h;
    }

-- ---- switches and chains
switch_kept : (w : List ℕ) (ws : Words) (d : Declaration) → made switch (name ws) ≡ Some (Ok d, []) → w ≡ codes "switch" → AllWords ws → length (spaced (w ∷ ws)) ≤ 1025 → KeptDeclaration d
switch_kept w ws d h e a l =
    let m = made_of switch (name ws) d [] h in
    let k = (name_respelled ws).kept m.0 [] m.1 a in
    let again : declared_by Second (codes "switch" ∷ m.0 ∷ []) ≡ Ok (switch m.0) = ap (λ r. read_whole (made switch r)) (k.again []) in
    let room : length (codes "switch") + length (spaced (m.0 ∷ [])) ≤ 1024 = omega (arith, k.shorter, length-append w (spaced ws), ap length e) in
    subst KeptDeclaration m.2 (from_tail (switch m.0) (codes "switch") (m.0 ∷ []) refl again refl k.words room refl)

abbrev chain_from : List ℕ × List StepText → PlainChainText
chain_from r = record { name = r.0; steps = r.1 }

chain_declared : (v : Version) (w : List ℕ) (ws : Words) (d : Declaration) → made chain (chain_words v ws) ≡ Some (Ok d, []) → w ≡ codes "chain" → AllWords ws → length (spaced (w ∷ ws)) ≤ 1025 → KeptDeclaration d
chain_declared v w ws d h e a l =
    let m = made_of chain (chain_words v ws) d [] h in
    let n = made_of chain_from (then_read (name ws) (read_chain v)) m.0 [] m.1 in
    let r = n.0 in
    let p = then_of (name ws) (read_chain v) r [] n.1 in
    let k = (name_respelled ws).kept r.0 p.0 p.1 a in
    let t = chain_kept v p.0 [] r.1 p.2 k.left in
    let first = ap (λ x. read_whole (made chain (made chain_from (then_read x (read_chain Second))))) (k.again (steps_words r.1)) in
    let second = ap (λ x. read_whole (made chain (made chain_from (with_second (Ok r.0) x)))) (t.again (length (steps_words r.1)) (omega arith)) in
    let again : declared_by Second (codes "chain" ∷ r.0 ∷ steps_words r.1) ≡ Ok (chain (chain_from r)) = first ∙ second in
    let room : length (codes "chain") + length (spaced (r.0 ∷ steps_words r.1)) ≤ 1024 = omega (arith, k.shorter, t.shorter, length-append w (spaced ws), ap length e, length-append r.0 (spaced (steps_words r.1)), length-append r.0 []) in
    let words = and_from _ _ (and_parts (is_word r.0) true k.words).0 t.words in
    subst KeptDeclaration (ap chain n.2 ∙ m.2) (from_tail (chain (chain_from r)) (codes "chain") (r.0 ∷ steps_words r.1) refl again refl words room refl)

-- ---- nodes
abbrev node_part : NodeText → Declaration
node_part n = part (Node n)

abbrev node_from : List ℕ × (Kind × Option Decider) → NodeText
node_from r = record { name = r.0; kind = r.1.0; decider = r.1.1 }

-- what is read behind a node's name in a text of some version is read again in one of version 2, and is of one sort
pub record KeptNode (sort : List ℕ) (R S : Words → Reading (Kind × Option Decider)) : Type 0 where
  pub same : (vs : Words) → declaration Second sort vs ≡ made node_part (read_node S vs)
  pub kept : (vs : Words) (r : Kind × Option Decider) → R vs ≡ Some (Ok r, []) → AllWords vs → KeptApart S (decided_words r) r vs []
  pub sorts : (vs : Words) (r : Kind × Option Decider) → R vs ≡ Some (Ok r, []) → sort_word r.0 ≡ sort
  pub word : is_word sort ≡ true
  pub heard : (x : List ℕ) → is_passed_over (sort ++ x) ≡ false

node_declared : (sort : List ℕ) (R S : Words → Reading (Kind × Option Decider)) → KeptNode sort R S → (w : List ℕ) (ws : Words) (d : Declaration) → made node_part (read_node R ws) ≡ Some (Ok d, []) → w ≡ sort → AllWords ws → length (spaced (w ∷ ws)) ≤ 1025 → KeptDeclaration d
node_declared sort R S s w ws d h e a l =
    let m = made_of node_part (read_node R ws) d [] h in
    let n = made_of node_from (then_read (name ws) R) m.0 [] m.1 in
    let r = n.0 in
    let p = then_of (name ws) R r [] n.1 in
    let k = (name_respelled ws).kept r.0 p.0 p.1 a in
    let t = s.kept p.0 r.1 p.2 k.left in
    let tail : Words = r.0 ∷ decided_words r.1 in
    let last : S (decided_words r.1) ≡ Some (Ok r.1, []) = ap S (sym (append-nil (decided_words r.1))) ∙ t.again [] refl in
    let first = ap (λ x. read_whole (made node_part (made node_from (then_read x S)))) (k.again (decided_words r.1)) in
    let second = ap (λ x. read_whole (made node_part (made node_from (with_second (Ok r.0) x)))) last in
    let again : declared_by Second (sort ∷ tail) ≡ Ok (node_part (node_from r)) = ap read_whole (s.same tail) ∙ (first ∙ second) in
    let front : declaration_words (node_part (node_from r)) ≡ sort ∷ tail = ap (λ x. x ∷ tail) (s.sorts p.0 r.1 p.2) in
    let room : length sort + length (spaced tail) ≤ 1024 = omega (arith, k.shorter, t.shorter, length-append w (spaced ws), ap length e, length-append r.0 (spaced (decided_words r.1)), length-append r.0 []) in
    let words = and_from _ _ (and_parts (is_word r.0) true k.words).0 t.words in
    subst KeptDeclaration (ap node_part n.2 ∙ m.2) (from_tail (node_part (node_from r)) sort tail front again s.word words room (s.heard (spaced tail)))

abbrev undecided_from : Kind → Kind × Option Decider
undecided_from k = (k, None)

undecided_kept : (table : List ℕ → Words → Reading Kind) → ((w : List ℕ) (ws : Words) → Tabled table kind_words w ws (table w ws)) → (vs : Words) (r : Kind × Option Decider) → undecided table vs ≡ Some (Ok r, []) → AllWords vs → KeptApart (undecided table) (decided_words r) r vs []
undecided_kept table tabled [] r h a = absurd (let k : ⊥ = cc in k)
undecided_kept table tabled (w ∷ ws) r h a =
    let m = made_of undecided_from (table w ws) r [] h in
    let parts = and_parts (is_word w) (list_all is_word ws) a in
    let k = (tabled w ws).kept m.0 [] m.1 parts.1 in
    let front : decided_words (undecided_from m.0) ≡ w ∷ k.tail = append-nil (kind_words m.0) ∙ k.head in
    subst
    (λ x. KeptApart (undecided table) (decided_words x) x (w ∷ ws) [])
    m.2
    (record {
      again = λ more f. ap (λ x. undecided table (x ++ more)) front ∙ ap (made undecided_from) (k.again more);
      shorter = omega (arith, ap (λ x. length (spaced x)) front, length-append w (spaced k.tail), length-append w (spaced ws), k.shorter);
      words = ap (list_all is_word) front ∙ and_from _ _ parts.0 k.words;
      left = k.left;
    })

undecided_sorts : (sort : List ℕ) (table : List ℕ → Words → Reading Kind) → ((w : List ℕ) (ws : Words) → Sorts sort (table w ws)) → (vs : Words) (r : Kind × Option Decider) → undecided table vs ≡ Some (Ok r, []) → sort_word r.0 ≡ sort
undecided_sorts sort table s [] r h = absurd (let k : ⊥ = cc in k)
undecided_sorts sort table s (w ∷ ws) r h =
    let m = made_of undecided_from (table w ws) r [] h in
    ap (λ x. sort_word x.0) (sym m.2) ∙ (s w ws).kept m.0 [] m.1

sources : KeptNode (codes "source") (undecided source_kind) (undecided source_kind)
sources = record { same = λ vs. refl; kept = undecided_kept source_kind source_tabled; sorts = undecided_sorts (codes "source") source_kind source_sorts; word = refl; heard = λ x. refl }

sinks : KeptNode (codes "sink") (undecided sink_kind) (undecided sink_kind)
sinks = record { same = λ vs. refl; kept = undecided_kept sink_kind sink_tabled; sorts = undecided_sorts (codes "sink") sink_kind sink_sorts; word = refl; heard = λ x. refl }

decided_kept : (v : Version) (vs : Words) (r : Kind × Option Decider) → read_decided v vs ≡ Some (Ok r, []) → AllWords vs → KeptApart (read_decided Second) (decided_words r) r vs []
decided_kept v vs r h a =
    let k = deciding_kept v stage_kind stage_tabled vs [] r (decided_of v vs (Ok r, []) h) a in
    record { again = λ more f. decided_is (decided_words r ++ more) ∙ k.again more f; shorter = k.shorter; words = k.words; left = k.left }

decided_sorts : (v : Version) (vs : Words) (r : Kind × Option Decider) → read_decided v vs ≡ Some (Ok r, []) → sort_word r.0 ≡ codes "stage"
decided_sorts v [] r h = absurd (let k : ⊥ = cc in k)
decided_sorts v (w ∷ ws) r h =
    let p = then_of (stage_in v w ws) (decider_of v (may_decide w)) r [] h in
    (stage_sorts w ws).kept r.0 p.0 (stage_of v w ws (Ok r.0, p.0) p.1)

stages : (v : Version) → KeptNode (codes "stage") (read_decided v) (read_decided Second)
stages v = record { same = λ vs. refl; kept = decided_kept v; sorts = decided_sorts v; word = refl; heard = λ x. refl }

-- ---- what is set
pub record KeptAttrs (a : Attrs) (ws : Words) : Type 0 where
  pub again : read_attrs (attrs_words a) ≡ Some (Ok a, [])
  pub shorter : length (spaced (attrs_words a)) ≤ length (spaced ws)
  pub words : AllWords (attrs_words a)
  pub some : is_nil ws ≡ false → is_nil (attrs_words a) ≡ false

abbrev sized : ℕ × Option Decider → Attrs
sized r = record { size = Some r.0; decider = r.1 }

abbrev unsized : Option Decider → Attrs
unsized d = record { size = None; decider = d }

abbrev some_decider : Decider → Option Decider
some_decider d = kept_decider Second d

not_none : {A : Type 0} {P : Type 0} (a : A) → ◌≡◌ {A = Option A} (Some a) None → P
not_none a h = absurd (let k : ⊥ = cc in k)

-- where no decider is read of all words, there is no word
no_decider : (t : Bool) (ws : Words) → cond t (made some_decider (named_decider ws)) (said None ws) ≡ Some (Ok None, []) → is_nil ws ≡ true
no_decider true ws h = let m = made_of some_decider (named_decider ws) None [] h in not_none m.0 m.2
no_decider false ws h = ap is_nil (same_rest {A = Option Decider} (Ok None) (Ok None) ws [] h)

decider_again : (d : Option Decider) (ws : Words) → KeptApart (decider_of Second true) (decider_words d) d ws [] → set_decider (decider_words d) ≡ Some (Ok d, [])
decider_again d ws k = ap set_decider (sym (append-nil (decider_words d))) ∙ k.again [] refl

unsized_again : (d : Option Decider) → read_attrs (decider_words d) ≡ made unsized (set_decider (decider_words d))
unsized_again None = refl
unsized_again (Some d) = refl

some_unsized : (d : Option Decider) (ws : Words) → set_decider ws ≡ Some (Ok d, []) → is_nil ws ≡ false → is_nil (decider_words d) ≡ false
some_unsized None ws h e = absurd (true≢false (sym (no_decider (begins_with (codes "decider") ws) ws h) ∙ e))
some_unsized (Some d) ws h e = refl

attrs_at : (t : Bool) (ws : Words) (a : Attrs) → cond t (made sized (then_read (behind_word (codes "async") size ws) set_decider)) (made unsized (set_decider ws)) ≡ Some (Ok a, []) → AllWords ws → KeptAttrs a ws
attrs_at true ws a h w =
    let m = made_of sized (then_read (behind_word (codes "async") size ws) set_decider) a [] h in
    let r = m.0 in
    let p = then_of (behind_word (codes "async") size ws) set_decider r [] m.1 in
    let k = (behind_word_respelled (codes "async") size (λ n. decimal n ∷ []) refl size_respelled ws).kept r.0 p.0 p.1 w in
    let d = decider_kept Second true p.0 [] r.1 p.2 k.left in
    let first = ap (λ x. made sized (then_read x set_decider)) (k.again (decider_words r.1)) in
    let second = ap (λ x. made sized (with_second (Ok r.0) x)) (decider_again r.1 p.0 d) in
    let again : read_attrs (attrs_words (sized r)) ≡ Some (Ok (sized r), []) = first ∙ second in
    let number = and_parts (is_word (codes "async")) (list_all is_word (decimal r.0 ∷ [])) k.words in
    let words : AllWords (attrs_words (sized r)) = and_from _ _ refl (and_from _ _ (and_parts (is_word (decimal r.0)) true number.1).0 d.words) in
    let shorter : length (spaced (attrs_words (sized r))) ≤ length (spaced ws) = omega (arith, k.shorter, d.shorter, length-append (decimal r.0) (spaced (decider_words r.1)), length-append (decimal r.0) []) in
    subst (λ x. KeptAttrs x ws) m.2 (record { again = again; shorter = shorter; words = words; some = λ e. refl })
attrs_at false ws a h w =
    let m = made_of unsized (set_decider ws) a [] h in
    let d = decider_kept Second true ws [] m.0 m.1 w in
    let again : read_attrs (attrs_words (unsized m.0)) ≡ Some (Ok (unsized m.0), []) = unsized_again m.0 ∙ ap (made unsized) (decider_again m.0 ws d) in
    let shorter : length (spaced (attrs_words (unsized m.0))) ≤ length (spaced ws) = omega (arith, d.shorter) in
    subst (λ x. KeptAttrs x ws) m.2 (record { again = again; shorter = shorter; words = d.words; some = some_unsized m.0 ws m.1 })

attrs_kept : (ws : Words) (a : Attrs) → read_attrs ws ≡ Some (Ok a, []) → AllWords ws → KeptAttrs a ws
attrs_kept ws a h w = attrs_at (begins_with (codes "async") ws) ws a h w

some_if_not : {A : Type 0} (t : Bool) (r : Reading A) (a : A) (rest : Words) → cond t None r ≡ Some (Ok a, rest) → (t ≡ false) × (r ≡ Some (Ok a, rest))
some_if_not true r a rest e = absurd (let k : ⊥ = cc in k)
some_if_not false r a rest e = (refl, e)

default_declared : (w : List ℕ) (ws : Words) (d : Declaration) → made sets (read_some_attrs ws) ≡ Some (Ok d, []) → w ≡ codes "default" → AllWords ws → length (spaced (w ∷ ws)) ≤ 1025 → KeptDeclaration d
default_declared w ws d h e a l =
    let m = made_of sets (read_some_attrs ws) d [] h in
    let here = some_if_not (is_nil ws) (read_attrs ws) m.0 [] m.1 in
    let k = attrs_kept ws m.0 here.1 a in
    let first = ap (λ t. read_whole (made sets (cond t None (read_attrs (attrs_words m.0))))) (k.some here.0) in
    let again : declared_by Second (codes "default" ∷ attrs_words m.0) ≡ Ok (sets m.0) = first ∙ ap (λ x. read_whole (made sets x)) k.again in
    let room : length (codes "default") + length (spaced (attrs_words m.0)) ≤ 1024 = omega (arith, k.shorter, length-append w (spaced ws), ap length e) in
    subst KeptDeclaration m.2 (from_tail (sets m.0) (codes "default") (attrs_words m.0) refl again refl k.words room refl)

abbrev opens_from : List ℕ × Attrs → Declaration
opens_from r = opens r.0 r.1

module_declared : (w : List ℕ) (ws : Words) (d : Declaration) → made opens_from (read_opening ws) ≡ Some (Ok d, []) → w ≡ codes "module" → AllWords ws → length (spaced (w ∷ ws)) ≤ 1025 → KeptDeclaration d
module_declared w ws d h e a l =
    let m = made_of opens_from (read_opening ws) d [] h in
    let r = m.0 in
    let p = then_of (name ws) read_attrs r [] m.1 in
    let k = (name_respelled ws).kept r.0 p.0 p.1 a in
    let t = attrs_kept p.0 r.1 p.2 k.left in
    let first = ap (λ x. read_whole (made opens_from (then_read x read_attrs))) (k.again (attrs_words r.1)) in
    let second = ap (λ x. read_whole (made opens_from (with_second (Ok r.0) x))) t.again in
    let again : declared_by Second (codes "module" ∷ r.0 ∷ attrs_words r.1) ≡ Ok (opens_from r) = first ∙ second in
    let room : length (codes "module") + length (spaced (r.0 ∷ attrs_words r.1)) ≤ 1024 = omega (arith, k.shorter, t.shorter, length-append w (spaced ws), ap length e, length-append r.0 (spaced (attrs_words r.1)), length-append r.0 []) in
    let words = and_from _ _ (and_parts (is_word r.0) true k.words).0 t.words in
    subst KeptDeclaration m.2 (from_tail (opens_from r) (codes "module") (r.0 ∷ attrs_words r.1) refl again refl words room refl)

-- ---- instances
abbrev use_part : UseText → Declaration
use_part u = part (Instance u)

abbrev use_from : List ℕ × (List ℕ × Attrs) → UseText
use_from r = record { name = r.0; of = r.1.0; attrs = r.1.1 }

abbrev module_attrs : Words → Reading (List ℕ × Attrs)
module_attrs vs = then_read (name vs) read_attrs

use_declared : (w : List ℕ) (ws : Words) (d : Declaration) → made use_part (read_use ws) ≡ Some (Ok d, []) → w ≡ codes "use" → AllWords ws → length (spaced (w ∷ ws)) ≤ 1025 → KeptDeclaration d
use_declared w ws d h e a l =
    let m = made_of use_part (read_use ws) d [] h in
    let n = made_of use_from (then_read (name ws) module_attrs) m.0 [] m.1 in
    let r = n.0 in
    let p = then_of (name ws) module_attrs r [] n.1 in
    let k = (name_respelled ws).kept r.0 p.0 p.1 a in
    let q = then_of (name p.0) read_attrs r.1 [] p.2 in
    let j = (name_respelled p.0).kept r.1.0 q.0 q.1 k.left in
    let t = attrs_kept q.0 r.1.1 q.2 j.left in
    let last : Words = attrs_words r.1.1 in
    let first = ap (λ x. read_whole (made use_part (made use_from (then_read x module_attrs)))) (k.again (r.1.0 ∷ last)) in
    let second = ap (λ x. read_whole (made use_part (made use_from (with_second (Ok r.0) (then_read x read_attrs))))) (j.again last) in
    let third = ap (λ x. read_whole (made use_part (made use_from (with_second (Ok r.0) (with_second (Ok r.1.0) x))))) t.again in
    let again : declared_by Second (codes "use" ∷ r.0 ∷ r.1.0 ∷ last) ≡ Ok (use_part (use_from r)) = first ∙ (second ∙ third) in
    let room : length (codes "use") + length (spaced (r.0 ∷ r.1.0 ∷ last)) ≤ 1024 = omega (arith, k.shorter, j.shorter, t.shorter, length-append w (spaced ws), ap length e, length-append r.0 (spaced (r.1.0 ∷ last)), length-append r.0 [], length-append r.1.0 (spaced last), length-append r.1.0 []) in
    let words = and_from _ _ (and_parts (is_word r.0) true k.words).0 (and_from _ _ (and_parts (is_word r.1.0) true j.words).0 t.words) in
    subst KeptDeclaration (ap use_part n.2 ∙ m.2) (from_tail (use_part (use_from r)) (codes "use") (r.0 ∷ r.1.0 ∷ last) refl again refl words room refl)

-- ---- places
-- no digit is a letter, and each lower-case letter is one
above_digits : (lo hi b : ℕ) → 57 < lo → b ≤ 57 → (leb lo b) ≡ false
above_digits lo hi b h l = false_from_ne_true (leb lo b) (λ t. let g = leb-true lo b t in absurd (omega (arith, g, h, l)))

digit_is_no_letter : (b : ℕ) → is_ascii_digit b ≡ true → is_ascii_alphabetic b ≡ false
digit_is_no_letter b h =
    let high = leb-true b 57 (and_parts (leb 48 b) (leb b 57) h).1 in
    or_from _ _ (and_left (leb 65 b) (leb b 90) (above_digits 65 90 b (omega arith) high)) (and_left (leb 97 b) (leb b 122) (above_digits 97 122 b (omega arith) high))

digits_no_letter : (ds : List ℕ) → list_all is_ascii_digit ds ≡ true → begins_with_letter ds ≡ false
digits_no_letter [] h = refl
digits_no_letter (d ∷ ds) h = digit_is_no_letter d (and_parts (is_ascii_digit d) (list_all is_ascii_digit ds) h).0

name_letter : (p : List ℕ) → is_name p ≡ true → begins_with_letter p ≡ true
name_letter [] h = absurd (let k : ⊥ = cc in k)
name_letter (b ∷ bs) h =
    or_right (is_ascii_uppercase b) (is_ascii_lowercase b) (and_parts (is_ascii_lowercase b) (leb (length bs) 31) (and_parts _ (list_all is_name_byte bs) h).0).0

-- what stands behind the point
pub record KeptMark (m : PortMark) : Type 0 where
  pub again : read_mark Second (mark_word m) ≡ Ok m
  pub graphic : list_all is_ascii_graphic (mark_word m) ≡ true
  pub short : length (mark_word m) ≤ 32

abbrev letter_mark : List ℕ → Bool → At PortMark
letter_mark w t = cond t (at_map Name (read_name w)) (at_map Num (read_count 32 w))

number_kept : (n : ℕ) → n < 2 ^ 32 → KeptMark (Num n)
number_kept n l =
    let few : n < 2 ^ 64 = omega arith in
    let k = count_decimal n l in
    let digits = decimal_digits n few in
    record {
      again = ap (letter_mark (decimal n)) (digits_no_letter (decimal n) digits) ∙ ap (at_map Num) k.0;
      graphic = graphic_digits (decimal n) digits;
      short = omega (arith, k.1);
    }

name_kept : (w p : List ℕ) → read_name w ≡ Ok p → list_all is_ascii_graphic w ≡ true → KeptMark (Name p)
name_kept w p h g =
    let n = name_ok w p h in
    let named : is_name p ≡ true = subst (λ x. is_name x ≡ true) n.1 n.0 in
    record {
      again = ap (letter_mark p) (name_letter p named) ∙ ap (λ t. at_map Name (cond t (Ok p) (Err BadName))) named;
      graphic = subst (λ x. list_all is_ascii_graphic x ≡ true) n.1 g;
      short = length-name-le p named;
    }

number_mark_kept : (w : List ℕ) (m : PortMark) → at_map Num (read_count 32 w) ≡ Ok m → KeptMark m
number_mark_kept w m h =
    let k = made_place Num (read_count 32 w) m h in
    subst KeptMark k.2 (number_kept k.0 (size_below w k.0 k.1))

name_mark_kept : (w : List ℕ) (m : PortMark) → at_map Name (read_name w) ≡ Ok m → list_all is_ascii_graphic w ≡ true → KeptMark m
name_mark_kept w m h g =
    let k = made_place Name (read_name w) m h in
    subst KeptMark k.2 (name_kept w k.0 k.1 g)

mark_at : (t : Bool) (w : List ℕ) (m : PortMark) → letter_mark w t ≡ Ok m → list_all is_ascii_graphic w ≡ true → KeptMark m
mark_at true w m h g = name_mark_kept w m h g
mark_at false w m h g = number_mark_kept w m h

mark_kept : (v : Version) (w : List ℕ) (m : PortMark) → read_mark v w ≡ Ok m → list_all is_ascii_graphic w ≡ true → KeptMark m
mark_kept First w m h g = number_mark_kept w m h
mark_kept Second w m h g = mark_at (begins_with_letter w) w m h g

pub record KeptPlace (r : List ℕ × PortMark) : Type 0 where
  pub again : (more : Words) → read_port_place Second (place_word r.0 r.1 ∷ more) ≡ Some (Ok r, more)
  pub word : is_word (place_word r.0 r.1) ≡ true
  pub short : length (place_word r.0 r.1) ≤ 65

-- the parts of a word before and behind its point
graphic_parts : (a b w : List ℕ) → w ≡ a ++ 46 ∷ b → is_word w ≡ true → (list_all is_ascii_graphic a ≡ true) × (list_all is_ascii_graphic b ≡ true)
graphic_parts a b w e t =
    let whole = sym (list_all-append is_ascii_graphic a (46 ∷ b)) ∙ (ap (list_all is_ascii_graphic) (sym e) ∙ (and_parts (ltb 0 (length w)) (list_all is_ascii_graphic w) t).1) in
    let parts = and_parts (list_all is_ascii_graphic a) (list_all is_ascii_graphic (46 ∷ b)) whole in
    (parts.0, (and_parts (is_ascii_graphic 46) (list_all is_ascii_graphic b) parts.1).1)

place_from : (a : List ℕ) (m : PortMark) → is_name a ≡ true → list_all is_ascii_graphic a ≡ true → KeptMark m → KeptPlace (a, m)
place_from a m h g k =
    let cut : cut_at 46 (place_word a m) ≡ Some (a, mark_word m) = cut_at-append 46 a (mark_word m) (lacks-name 46 refl refl a h) in
    let name_is : read_name a ≡ Ok a = ap (λ b. cond b (Ok a) (Err BadName)) h in
    record {
      again = λ more. ap (λ x. cut_place Second x more) cut ∙ (ap (λ x. Some (both x (read_mark Second (mark_word m)), more)) name_is ∙ ap (λ x. Some (both (Ok a) x, more)) k.again);
      word = and_from _ _ (lt-ltb 0 (length (place_word a m)) (omega (arith, length-append a (46 ∷ mark_word m)))) (list_all-append is_ascii_graphic a (46 ∷ mark_word m) ∙ and_from _ _ g (and_from _ _ refl k.graphic));
      short = omega (arith, length-append a (46 ∷ mark_word m), k.short, length-name-le a h);
    }

place_cut : (v : Version) (o : Option (List ℕ × List ℕ)) (w : List ℕ) (r : List ℕ × PortMark) (vs rest : Words) → cut_at 46 w ≡ o → cut_place v o vs ≡ Some (Ok r, rest) → is_word w ≡ true → KeptPlace r × (vs ≡ rest)
place_cut v None w r vs rest c h t = absurd (let k : ⊥ = cc in k)
place_cut v (Some q) w r vs rest c h t =
    let b = both_of (read_name q.0) (read_mark v q.1) r (same_place (both (read_name q.0) (read_mark v q.1)) (Ok r) vs rest h) in
    let n = name_ok q.0 r.0 b.0 in
    let cut : w ≡ q.0 ++ 46 ∷ q.1 = cut_at-says 46 w q.0 q.1 c in
    let g = graphic_parts q.0 q.1 w cut t in (
      place_from r.0 r.1 (subst (λ x. is_name x ≡ true) n.1 n.0) (subst (λ x. list_all is_ascii_graphic x ≡ true) n.1 g.0) (mark_kept v q.1 r.1 b.1 g.1),
      same_rest (both (read_name q.0) (read_mark v q.1)) (Ok r) vs rest h,
    )

place_kept : (v : Version) (ws rest : Words) (r : List ℕ × PortMark) → read_port_place v ws ≡ Some (Ok r, rest) → AllWords ws → KeptPlace r × AllWords rest
place_kept v [] rest r h a = absurd (let k : ⊥ = cc in k)
place_kept v (w ∷ ws) rest r h a =
    let parts = and_parts (is_word w) (list_all is_word ws) a in
    let k = place_cut v (cut_at 46 w) w r ws rest refl h parts.0 in
    (k.0, subst AllWords k.1 parts.1)

-- behind a fixed word
behind_kept : (v : Version) (word : List ℕ) (ws rest : Words) (r : List ℕ × PortMark) → behind_word word (read_port_place v) ws ≡ Some (Ok r, rest) → AllWords ws → KeptPlace r × AllWords rest
behind_kept v word [] rest r h a = absurd (let k : ⊥ = cc in k)
behind_kept v word (w ∷ ws) rest r h a =
    place_kept v ws rest r (some_if_read (bytes_eq w word) (read_port_place v ws) r rest h).1 (and_parts (is_word w) (list_all is_word ws) a).1

-- ---- lanes
-- a lane and its mark
pub record KeptLane (l : LaneMark × Bool) : Type 0 where
  pub again : read_lane Second (lane_words l.0 l.1) ≡ Some (Ok l, [])
  pub words : AllWords (lane_words l.0 l.1)
  pub short : length (spaced (lane_words l.0 l.1)) ≤ 22

keep_again : (k : Bool) → read_keep Second (keep_words k) ≡ Some (Ok k, [])
keep_again true = refl
keep_again false = refl

keep_are : (k : Bool) → AllWords (keep_words k)
keep_are true = refl
keep_are false = refl

keep_short : (k : Bool) → length (spaced (keep_words k)) ≤ 5
keep_short true = omega arith
keep_short false = omega arith

-- a number is no such mark
not_keep : (n : ℕ) → n < 2 ^ 32 → bytes_eq (decimal n) (codes "keep") ≡ false
not_keep n l = by (bytes_eq (decimal n) (codes "keep")) refl
  where
    by : (b : Bool) → bytes_eq (decimal n) (codes "keep") ≡ b → bytes_eq (decimal n) (codes "keep") ≡ false
    by false e = e
    by true e =
        let few : n < 2 ^ 64 = omega arith in
        let same : decimal n ≡ codes "keep" = (bytes_eq-Decides (decimal n) (codes "keep")).0 e in
        let none : begins_with_letter (codes "keep") ≡ false = ap begins_with_letter (sym same) ∙ digits_no_letter (decimal n) (decimal_digits n few) in
        absurd cc

own_lane : (n : ℕ) (k : Bool) → n < 2 ^ 32 → KeptLane (Own n, k)
own_lane n k l =
    let c = count_decimal n l in
    record {
      again = ap (λ b. if b then said (Inherited, true) (keep_words k) else then_read (made Own (size (decimal n ∷ keep_words k))) (read_keep Second)) (not_keep n l)
          ∙ (ap (λ x. then_read (made Own (Some (x, keep_words k))) (read_keep Second)) c.0 ∙ ap (with_second (Ok (Own n))) (keep_again k));
      words = and_from _ _ refl (and_from _ _ c.2 (keep_are k));
      short = omega (arith, c.1, length-append (decimal n) (spaced (keep_words k)), keep_short k);
    }

inherited_kept : (k : Bool) → KeptLane (Inherited, k)
inherited_kept true = record { again = refl; words = refl; short = omega arith }
inherited_kept false = record { again = refl; words = refl; short = omega arith }

bare_kept : (v : Version) (k : Bool) → KeptLane (bare_lane v, k)
bare_kept First k = own_lane 16 k (omega arith)
bare_kept Second k = inherited_kept k

lane_size_at : (v : Version) (u : List ℕ) (us : Words) (l : LaneMark × Bool) (b : Bool)
    → (if b then said (bare_lane v, true) us else then_read (made Own (size (u ∷ us))) (read_keep v)) ≡ Some (Ok l, []) → KeptLane l
lane_size_at v u us l true h = subst KeptLane (same_value (bare_lane v, true) l us [] h) (bare_kept v true)
lane_size_at v u us l false h =
    let p = then_of (made Own (size (u ∷ us))) (read_keep v) l [] h in
    let m = made_of Own (size (u ∷ us)) l.0 p.0 p.1 in
    subst KeptLane (ap (λ x. (x, l.1)) m.2) (own_lane m.0 l.1 (size_below u m.0 (same_place (read_count 32 u) (Ok m.0) us p.0 m.1)))

lane_size_kept : (v : Version) (vs : Words) (l : LaneMark × Bool) → read_lane_size v vs ≡ Some (Ok l, []) → KeptLane l
lane_size_kept v [] l h = subst KeptLane (same_value (bare_lane v, false) l [] [] h) (bare_kept v false)
lane_size_kept v (u ∷ us) l h = lane_size_at v u us l (is_keep v u) h

lane_kept : (v : Version) (us : Words) (l : LaneMark × Bool) → read_lane v us ≡ Some (Ok l, []) → KeptLane l
lane_kept v [] l h = subst KeptLane (same_value (Fused, false) l [] [] h) (record { again = refl; words = refl; short = omega arith })
lane_kept v (w ∷ ws) l h = lane_size_kept v ws l (some_if_read (bytes_eq w (codes "async")) (read_lane_size v ws) l [] h).1

-- ---- wires
abbrev wire_part : WireText → Declaration
wire_part w = part (Wire w)

abbrev end_lane : Version → Words → Reading ((List ℕ × PortMark) × (LaneMark × Bool))
end_lane v vs = then_read (read_end v vs) (read_lane v)

wire_declared : (v : Version) (ws : Words) (d : Declaration) → made wire_part (read_wire v ws) ≡ Some (Ok d, []) → AllWords ws → KeptDeclaration d
wire_declared v ws d h a =
    let m = made_of wire_part (read_wire v ws) d [] h in
    let n = made_of wire_from (then_read (read_port_place v ws) (end_lane v)) m.0 [] m.1 in
    let r = n.0 in
    let p = then_of (read_port_place v ws) (end_lane v) r [] n.1 in
    let start = place_kept v ws p.0 r.0 p.1 a in
    let q = then_of (read_end v p.0) (read_lane v) r.1 [] p.2 in
    let end = behind_kept v (codes "->") p.0 q.0 r.1.0 q.1 start.1 in
    let size_is = lane_kept v q.0 r.1.1 q.2 in
    let last : Words = lane_words r.1.1.0 r.1.1.1 in
    let to : List ℕ = place_word r.1.0.0 r.1.0.1 in
    let from : List ℕ = place_word r.0.0 r.0.1 in
    let tail : Words = from ∷ codes "->" ∷ to ∷ last in
    let first = ap (λ x. read_whole (made wire_part (made wire_from (then_read x (end_lane Second))))) (start.0.again (codes "->" ∷ to ∷ last)) in
    let second = ap (λ x. read_whole (made wire_part (made wire_from (with_second (Ok r.0) (then_read x (read_lane Second)))))) (end.0.again last) in
    let third = ap (λ x. read_whole (made wire_part (made wire_from (with_second (Ok r.0) (with_second (Ok r.1.0) x))))) size_is.again in
    let again : declared_by Second (codes "wire" ∷ tail) ≡ Ok (wire_part (wire_from r)) = first ∙ (second ∙ third) in
    let words = and_from _ _ start.0.word (and_from _ _ refl (and_from _ _ end.0.word size_is.words)) in
    let room : length (codes "wire") + length (spaced tail) ≤ 1024 = omega (arith, start.0.short, end.0.short, size_is.short, length-append from (spaced (codes "->" ∷ to ∷ last)), length-append to (spaced last)) in
    subst KeptDeclaration (ap wire_part n.2 ∙ m.2) (from_tail (wire_part (wire_from r)) (codes "wire") tail refl again refl words room refl)

-- ---- ports of modules
port_again : (output : Bool) (r : List ℕ × (List ℕ × PortMark)) → read_port output (r.0 ∷ codes "=" ∷ place_word r.1.0 r.1.1 ∷ []) ≡ Some (Ok (port_from output r), []) → declared_by Second (direction_word output ∷ r.0 ∷ codes "=" ∷ place_word r.1.0 r.1.1 ∷ []) ≡ Ok (port (port_from output r))
port_again false r h = ap (λ x. read_whole (made port x)) h
port_again true r h = ap (λ x. read_whole (made port x)) h

port_kept : (output : Bool) (r : List ℕ × (List ℕ × PortMark)) (tail : Words) → tail ≡ r.0 ∷ codes "=" ∷ place_word r.1.0 r.1.1 ∷ [] → declared_by Second (direction_word output ∷ tail) ≡ Ok (port (port_from output r)) → AllWords tail → length (spaced tail) ≤ 1000 → KeptDeclaration (port (port_from output r))
port_kept false r tail e h a l = from_tail (port (port_from false r)) (codes "in") tail (ap (λ x. codes "in" ∷ x) (sym e)) h refl a (omega (arith, l)) refl
port_kept true r tail e h a l = from_tail (port (port_from true r)) (codes "out") tail (ap (λ x. codes "out" ∷ x) (sym e)) h refl a (omega (arith, l)) refl

port_declared : (output : Bool) (ws : Words) (d : Declaration) → made port (read_port output ws) ≡ Some (Ok d, []) → AllWords ws → KeptDeclaration d
port_declared output ws d h a =
    let m = made_of port (read_port output ws) d [] h in
    let n = made_of (port_from output) (then_read (name ws) read_behind) m.0 [] m.1 in
    let r = n.0 in
    let p = then_of (name ws) read_behind r [] n.1 in
    let k = (name_respelled ws).kept r.0 p.0 p.1 a in
    let place = behind_kept Second (codes "=") p.0 [] r.1 p.2 k.left in
    let to : List ℕ = place_word r.1.0 r.1.1 in
    let tail : Words = r.0 ∷ codes "=" ∷ to ∷ [] in
    let named = name_short ws p.0 r.0 p.1 in
    let first = ap (λ x. made (port_from output) (then_read x read_behind)) (k.again (codes "=" ∷ to ∷ [])) in
    let second = ap (λ x. made (port_from output) (with_second (Ok r.0) x)) (place.0.again []) in
    let whole : read_port output tail ≡ Some (Ok (port_from output r), []) = first ∙ second in
    let words = and_from _ _ (and_parts (is_word r.0) true k.words).0 (and_from _ _ refl (and_from _ _ place.0.word refl)) in
    let room : length (spaced tail) ≤ 1000 = omega (arith, named, place.0.short, length-append r.0 (spaced (codes "=" ∷ to ∷ [])), length-append to []) in
    subst KeptDeclaration (ap port n.2 ∙ m.2) (port_kept output r tail refl (port_again output r whole) words room)
  where
    name_short : (ws rest : Words) (p : List ℕ) → name ws ≡ Some (Ok p, rest) → length p ≤ 32
    name_short [] rest p h = absurd (let k : ⊥ = cc in k)
    name_short (w ∷ ws) rest p h =
        let n = name_ok w p (same_place (read_name w) (Ok p) ws rest h) in
        length-name-le p (subst (λ x. is_name x ≡ true) n.1 n.0)

pub end_kept : KeptDeclaration ends
end_kept = from_tail ends (codes "end") [] refl refl refl refl (omega arith) refl

-- ---- any declaration
if_else : {A : Type 0} (t : Bool) (r other : Reading A) (a : A) (P : Type 0) → cond t r other ≡ Some (Ok a, []) → (t ≡ true → r ≡ Some (Ok a, []) → P) → (other ≡ Some (Ok a, []) → P) → P
if_else true r other a P h f g = f refl h
if_else false r other a P h f g = g h

whole_at : {A : Type 0} (p : At A) (vs : Words) (a : A) → cond (is_nil vs) p (Err BadLine) ≡ Ok a → ◌≡◌ {A = Reading A} (Some (p, vs)) (Some (Ok a, []))
whole_at p [] a h = ap (λ x. Some (x, [])) h
whole_at p (v ∷ vs) a h = absurd (let k : ⊥ = cc in k)

whole_of : {A : Type 0} (r : Reading A) (a : A) → read_whole r ≡ Ok a → r ≡ Some (Ok a, [])
whole_of None a h = absurd (let k : ⊥ = cc in k)
whole_of (Some r) a h = whole_at r.0 r.1 a h

inner_declared : (w : List ℕ) (ws : Words) (d : Declaration) → inner_declaration w ws ≡ Some (Ok d, []) → AllWords ws → KeptDeclaration d
inner_declared w ws d h a =
    if_else (bytes_eq w (codes "in")) (made port (read_port false ws)) _ d (KeptDeclaration d) h (λ t r. port_declared false ws d r a) (λ h.
    if_else (bytes_eq w (codes "out")) (made port (read_port true ws)) _ d (KeptDeclaration d) h (λ t r. port_declared true ws d r a) (λ h.
    if_else (bytes_eq w (codes "end")) (said ends ws) None d (KeptDeclaration d) h (λ t r. subst KeptDeclaration (same_value ends d ws [] r) end_kept) (λ h. absurd (let k : ⊥ = cc in k))))

later_declared : (v : Version) (w : List ℕ) (ws : Words) (d : Declaration) → later_declaration v w ws ≡ Some (Ok d, []) → AllWords ws → length (spaced (w ∷ ws)) ≤ 1025 → KeptDeclaration d
later_declared First w ws d h a l = absurd (let k : ⊥ = cc in k)
later_declared Second w ws d h a l =
    let same : (word : List ℕ) → bytes_eq w word ≡ true → w ≡ word = λ word t. (bytes_eq-Decides w word).0 t in
    if_else (bytes_eq w (codes "default")) (made sets (read_some_attrs ws)) _ d (KeptDeclaration d) h (λ t r. default_declared w ws d r (same (codes "default") t) a l) (λ h.
    if_else (bytes_eq w (codes "module")) (made opens_from (read_opening ws)) _ d (KeptDeclaration d) h (λ t r. module_declared w ws d r (same (codes "module") t) a l) (λ h.
    if_else (bytes_eq w (codes "use")) (made use_part (read_use ws)) _ d (KeptDeclaration d) h (λ t r. use_declared w ws d r (same (codes "use") t) a l) (λ h. inner_declared w ws d h a)))

declared_at : (v : Version) (w : List ℕ) (ws : Words) (d : Declaration) → declaration v w ws ≡ Some (Ok d, []) → AllWords ws → length (spaced (w ∷ ws)) ≤ 1025 → KeptDeclaration d
declared_at v w ws d h a l =
    let same : (word : List ℕ) → bytes_eq w word ≡ true → w ≡ word = λ word t. (bytes_eq-Decides w word).0 t in
    if_else (bytes_eq w (codes "switch")) (made switch (name ws)) _ d (KeptDeclaration d) h (λ t r. switch_kept w ws d r (same (codes "switch") t) a l) (λ h.
    if_else (bytes_eq w (codes "chain")) (made chain (chain_words v ws)) _ d (KeptDeclaration d) h (λ t r. chain_declared v w ws d r (same (codes "chain") t) a l) (λ h.
    if_else (bytes_eq w (codes "source")) (made node_part (read_node (undecided source_kind) ws)) _ d (KeptDeclaration d) h (λ t r. node_declared (codes "source") (undecided source_kind) (undecided source_kind) sources w ws d r (same (codes "source") t) a l) (λ h.
    if_else (bytes_eq w (codes "stage")) (made node_part (read_node (read_decided v) ws)) _ d (KeptDeclaration d) h (λ t r. node_declared (codes "stage") (read_decided v) (read_decided Second) (stages v) w ws d r (same (codes "stage") t) a l) (λ h.
    if_else (bytes_eq w (codes "sink")) (made node_part (read_node (undecided sink_kind) ws)) _ d (KeptDeclaration d) h (λ t r. node_declared (codes "sink") (undecided sink_kind) (undecided sink_kind) sinks w ws d r (same (codes "sink") t) a l) (λ h.
    if_else (bytes_eq w (codes "wire")) (made wire_part (read_wire v ws)) (later_declaration v w ws) d (KeptDeclaration d) h (λ t r. wire_declared v ws d r a) (λ h. later_declared v w ws d h a l))))))

pub declared_kept : (v : Version) (ws : Words) (d : Declaration) → declared_by v ws ≡ Ok d → AllWords ws → length (spaced ws) ≤ 1025 → KeptDeclaration d
declared_kept v [] d h a l = absurd (let k : ⊥ = cc in k)
declared_kept v (w ∷ ws) d h a l =
    declared_at v w ws d (whole_of (declaration v w ws) d h) (and_parts (is_word w) (list_all is_word ws) a).1 l
