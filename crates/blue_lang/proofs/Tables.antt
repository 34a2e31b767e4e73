-- The tables of words: what each row reads is read again from its one spelling.
use Rattle.std.proofs.Common.{◌≡◌, ℕ, List, [], ◌∷◌, ◌++◌, Option, refl, sym, ◌∙◌}
use Rattle.std.specs.Prelude.{codes}
use Rattle.std.specs.Fmt.{decimal, signed_decimal}
use Rattle.elem_core.specs.declared.function.MapFn.TheVariants as f
use Rattle.elem_core.specs.declared.function.Pred.TheVariants as p
use Rattle.elem_core.specs.declared.function.Expand.TheVariants as x
use Rattle.elem_core.specs.declared.function.FoldOp.TheVariants as o
use Rattle.elem_core.specs.declared.function.ReduceOp.TheVariants as r
use Rattle.blue_words.specs.Reading.{Reading, then_read, word, int, count}
use Rattle.blue_kinds.specs.Functions.{one_of, said_if, map_of, number_map, text_map, bare_map, pred_of, number_pred, text_pred, bare_pred, expand_named, fold_named, reduce_named}
use Rattle.blue_lang.specs.Functions.{map_words, pred_words}
use Rattle.blue_lang.specs.Functions as spell
use Rattle.blue_lang.proofs.Respelling.{Words, Respelled, Tabled, headed, headed_respelled, none_tabled, row, row_word, then_respelled}
use Rattle.blue_lang.proofs.Lexical.{word_respelled, int_respelled, count_respelled}

bare_map_tabled : (w : List ℕ) (ws : Words) → Tabled number_map map_words w ws (said_if (bare_map w) ws)
bare_map_tabled w ws =
    row_word number_map map_words w (codes "num") ws f.Num _ (λ _. refl) refl
    (row_word number_map map_words w (codes "show") ws f.Show _ (λ _. refl) refl
    (row_word number_map map_words w (codes "neg") ws f.Neg _ (λ _. refl) refl
    (row_word number_map map_words w (codes "abs") ws f.Abs _ (λ _. refl) refl
    (row_word number_map map_words w (codes "nonneg") ws f.Nonneg _ (λ _. refl) refl
    (row_word number_map map_words w (codes "len") ws f.Len _ (λ _. refl) refl
    (row_word number_map map_words w (codes "first") ws f.First _ (λ _. refl) refl
    (row_word number_map map_words w (codes "second") ws f.Second _ (λ _. refl) refl
    (row_word number_map map_words w (codes "swap") ws f.Swap _ (λ _. refl) refl
    (row_word number_map map_words w (codes "twin") ws f.Twin _ (λ _. refl) refl
    (row_word number_map map_words w (codes "size") ws f.Size _ (λ _. refl) refl
    (row_word number_map map_words w (codes "sum") ws f.Sum _ (λ _. refl) refl
    (none_tabled number_map map_words w ws))))))))))))

text_map_tabled : (w : List ℕ) (ws : Words) → Tabled number_map map_words w ws (text_map w ws)
text_map_tabled w ws =
    row number_map map_words count (λ n. decimal n ∷ []) w (codes "field") ws f.Field _ (λ _. refl) (λ _. refl) (count_respelled ws)
    (row number_map map_words word (λ w. w ∷ []) w (codes "prefix") ws f.Prefix _ (λ _. refl) (λ _. refl) (word_respelled ws)
    (row number_map map_words word (λ w. w ∷ []) w (codes "suffix") ws f.Suffix _ (λ _. refl) (λ _. refl) (word_respelled ws)
    (bare_map_tabled w ws)))

number_map_tabled : (w : List ℕ) (ws : Words) → Tabled number_map map_words w ws (number_map w ws)
number_map_tabled w ws =
    row number_map map_words int (λ z. signed_decimal z ∷ []) w (codes "add") ws f.Add _ (λ _. refl) (λ _. refl) (int_respelled ws)
    (row number_map map_words int (λ z. signed_decimal z ∷ []) w (codes "mul") ws f.Mul _ (λ _. refl) (λ _. refl) (int_respelled ws)
    (row number_map map_words int (λ z. signed_decimal z ∷ []) w (codes "div") ws f.Div _ (λ _. refl) (λ _. refl) (int_respelled ws)
    (row number_map map_words int (λ z. signed_decimal z ∷ []) w (codes "rem") ws f.Rem _ (λ _. refl) (λ _. refl) (int_respelled ws)
    (row number_map map_words int (λ z. signed_decimal z ∷ []) w (codes "div_into") ws f.DivInto _ (λ _. refl) (λ _. refl) (int_respelled ws)
    (text_map_tabled w ws)))))

-- the reader of a table, by another name
pub renamed : {A : Type 0} (table : List ℕ → Words → Reading A) (R : Words → Reading A) (S : A → Words) → ((ws : Words) → R ws ≡ headed table ws) → ((ws : Words) → Respelled (headed table) S ws (headed table ws)) → (ws : Words) → Respelled R S ws (R ws)
renamed table R S same h ws =
    record {
      kept = λ a rest e t. let k = (h ws).kept a rest (sym (same ws) ∙ e) t in
          record {
            again = λ more. same (S a ++ more) ∙ k.again more;
            shorter = k.shorter;
            words = k.words;
            left = k.left;
          };
    }

map_headed : (ws : Words) → map_of ws ≡ headed number_map ws
map_headed [] = refl
map_headed (w ∷ ws) = refl

pub map_respelled : (ws : Words) → Respelled map_of map_words ws (map_of ws)
map_respelled ws = renamed number_map map_of map_words map_headed (headed_respelled number_map map_words number_map_tabled) ws

bare_pred_tabled : (w : List ℕ) (ws : Words) → Tabled number_pred pred_words w ws (said_if (bare_pred w) ws)
bare_pred_tabled w ws =
    row_word number_pred pred_words w (codes "even") ws p.Even _ (λ _. refl) refl
    (row_word number_pred pred_words w (codes "odd") ws p.Odd _ (λ _. refl) refl
    (row_word number_pred pred_words w (codes "blank") ws p.Blank _ (λ _. refl) refl
    (row_word number_pred pred_words w (codes "numeric") ws p.Numeric _ (λ _. refl) refl
    (none_tabled number_pred pred_words w ws))))

abbrev field_is : Words → Reading (ℕ × List ℕ)
field_is ws = then_read (count ws) word

abbrev field_is_words : ℕ × List ℕ → Words
field_is_words r = decimal r.0 ∷ r.1 ∷ []

field_is_respelled : (ws : Words) → Respelled field_is field_is_words ws (field_is ws)
field_is_respelled ws = then_respelled count word (λ n. decimal n ∷ []) (λ w. w ∷ []) ws (count_respelled ws) word_respelled

text_pred_tabled : (w : List ℕ) (ws : Words) → Tabled number_pred pred_words w ws (text_pred w ws)
text_pred_tabled w ws =
    row number_pred pred_words word (λ w. w ∷ []) w (codes "has") ws p.Has _ (λ _. refl) (λ _. refl) (word_respelled ws)
    (row number_pred pred_words word (λ w. w ∷ []) w (codes "starts") ws p.Starts _ (λ _. refl) (λ _. refl) (word_respelled ws)
    (row number_pred pred_words word (λ w. w ∷ []) w (codes "is") ws p.Is _ (λ _. refl) (λ _. refl) (word_respelled ws)
    (row number_pred pred_words field_is field_is_words w (codes "field_is") ws (λ r. p.FieldIs r.0 r.1) _ (λ _. refl) (λ _. refl) (field_is_respelled ws)
    (bare_pred_tabled w ws))))

number_pred_tabled : (w : List ℕ) (ws : Words) → Tabled number_pred pred_words w ws (number_pred w ws)
number_pred_tabled w ws =
    row number_pred pred_words int (λ z. signed_decimal z ∷ []) w (codes "lt") ws p.Lt _ (λ _. refl) (λ _. refl) (int_respelled ws)
    (row number_pred pred_words int (λ z. signed_decimal z ∷ []) w (codes "le") ws p.Le _ (λ _. refl) (λ _. refl) (int_respelled ws)
    (row number_pred pred_words int (λ z. signed_decimal z ∷ []) w (codes "gt") ws p.Gt _ (λ _. refl) (λ _. refl) (int_respelled ws)
    (row number_pred pred_words int (λ z. signed_decimal z ∷ []) w (codes "ge") ws p.Ge _ (λ _. refl) (λ _. refl) (int_respelled ws)
    (row number_pred pred_words int (λ z. signed_decimal z ∷ []) w (codes "eq") ws p.Eq _ (λ _. refl) (λ _. refl) (int_respelled ws)
    (row number_pred pred_words int (λ z. signed_decimal z ∷ []) w (codes "multiple") ws p.Multiple _ (λ _. refl) (λ _. refl) (int_respelled ws)
    (text_pred_tabled w ws))))))

pred_headed : (ws : Words) → pred_of ws ≡ headed number_pred ws
pred_headed [] = refl
pred_headed (w ∷ ws) = refl

pub pred_respelled : (ws : Words) → Respelled pred_of pred_words ws (pred_of ws)
pred_respelled ws = renamed number_pred pred_of pred_words pred_headed (headed_respelled number_pred pred_words number_pred_tabled) ws

-- a table of fixed words
abbrev pub fixed : {A : Type 0} → (List ℕ → Option A) → List ℕ → Words → Reading A
fixed table w ws = said_if (table w) ws

one_headed : {A : Type 0} (table : List ℕ → Option A) (ws : Words) → one_of table ws ≡ headed (fixed table) ws
one_headed table [] = refl
one_headed table (w ∷ ws) = refl

pub one_respelled : {A : Type 0} (table : List ℕ → Option A) (S : A → List ℕ) → ((w : List ℕ) (ws : Words) → Tabled (fixed table) (λ a. S a ∷ []) w ws (said_if (table w) ws)) → (ws : Words) → Respelled (one_of table) (λ a. S a ∷ []) ws (one_of table ws)
one_respelled table S h ws =
    renamed (fixed table) (one_of table) (λ a. S a ∷ []) (one_headed table) (headed_respelled (fixed table) (λ a. S a ∷ []) h) ws

expand_tabled : (w : List ℕ) (ws : Words) → Tabled (fixed expand_named) (λ a. spell.expand_word a ∷ []) w ws (said_if (expand_named w) ws)
expand_tabled w ws =
    row_word (fixed expand_named) (λ a. spell.expand_word a ∷ []) w (codes "words") ws x.Words _ (λ _. refl) refl
    (row_word (fixed expand_named) (λ a. spell.expand_word a ∷ []) w (codes "flat") ws x.Flat _ (λ _. refl) refl
    (row_word (fixed expand_named) (λ a. spell.expand_word a ∷ []) w (codes "twice") ws x.Twice _ (λ _. refl) refl
    (none_tabled (fixed expand_named) (λ a. spell.expand_word a ∷ []) w ws)))

pub expand_respelled : (ws : Words) → Respelled (one_of expand_named) (λ a. spell.expand_word a ∷ []) ws (one_of expand_named ws)
expand_respelled ws = one_respelled expand_named spell.expand_word expand_tabled ws

fold_tabled : (w : List ℕ) (ws : Words) → Tabled (fixed fold_named) (λ a. spell.fold_word a ∷ []) w ws (said_if (fold_named w) ws)
fold_tabled w ws =
    row_word (fixed fold_named) (λ a. spell.fold_word a ∷ []) w (codes "sum") ws o.Sum _ (λ _. refl) refl
    (row_word (fixed fold_named) (λ a. spell.fold_word a ∷ []) w (codes "sum_nonneg") ws o.SumNonneg _ (λ _. refl) refl
    (row_word (fixed fold_named) (λ a. spell.fold_word a ∷ []) w (codes "count") ws o.Count _ (λ _. refl) refl
    (row_word (fixed fold_named) (λ a. spell.fold_word a ∷ []) w (codes "collect") ws o.Collect _ (λ _. refl) refl
    (none_tabled (fixed fold_named) (λ a. spell.fold_word a ∷ []) w ws))))

pub fold_respelled : (ws : Words) → Respelled (one_of fold_named) (λ a. spell.fold_word a ∷ []) ws (one_of fold_named ws)
fold_respelled ws = one_respelled fold_named spell.fold_word fold_tabled ws

reduce_tabled : (w : List ℕ) (ws : Words) → Tabled (fixed reduce_named) (λ a. spell.reduce_word a ∷ []) w ws (said_if (reduce_named w) ws)
reduce_tabled w ws =
    row_word (fixed reduce_named) (λ a. spell.reduce_word a ∷ []) w (codes "sum") ws r.Sum _ (λ _. refl) refl
    (row_word (fixed reduce_named) (λ a. spell.reduce_word a ∷ []) w (codes "max") ws r.Max _ (λ _. refl) refl
    (row_word (fixed reduce_named) (λ a. spell.reduce_word a ∷ []) w (codes "min") ws r.Min _ (λ _. refl) refl
    (none_tabled (fixed reduce_named) (λ a. spell.reduce_word a ∷ []) w ws)))

pub reduce_respelled : (ws : Words) → Respelled (one_of reduce_named) (λ a. spell.reduce_word a ∷ []) ws (one_of reduce_named ws)
reduce_respelled ws = one_respelled reduce_named spell.reduce_word reduce_tabled ws
