-- The tables of kinds: what each row reads is read again from its one spelling.
use Rattle.std.proofs.Common.{◌≡◌, ℕ, ℤ, true, cond, List, [], ◌∷◌, ◌++◌, length, refl, sym, ap, subst, ◌∙◌, ⊎_elim, append_assoc, length-append, arith}
use Rattle.std.specs.Prelude.{codes}
use Rattle.std.specs.List.{list_all}
use Rattle.std.specs.Str.{bytes_eq}
use Rattle.std.specs.Fmt.{decimal, signed_decimal}
use Rattle.std.proofs.lemmas.Bool.{cases_Bool, and_parts, and_from}
use Rattle.std.proofs.lemmas.Slice.Eq.{bytes_eq-Decides}
use Rattle.elem_core.specs.declared.function.MapFn.{MapFn}
use Rattle.elem_core.specs.declared.function.Pred.{Pred}
use Rattle.stream_model.specs.declared.kind.Base.TheVariants as base
use Rattle.stream_model.specs.declared.kind.Policy.{Policy}
use Rattle.stream_model.specs.declared.kind.Policy.TheVariants as policy
use Rattle.stream_model.specs.declared.kind.Joining.{Joining}
use Rattle.stream_model.specs.declared.kind.Joining.TheVariants as joining
use Rattle.stream_model.specs.declared.kind.Kind.{Kind}
use Rattle.stream_model.specs.declared.kind.Kind.TheVariants as k
use Rattle.blue_words.specs.Names.{is_word}
use Rattle.blue_words.specs.Reading.{Reading, made, then_read, before_word, word, name, file, int, count, size}
use Rattle.blue_kinds.specs.Functions.{one_of, said_if, map_of, pred_of, expand_named, fold_named, reduce_named}
use Rattle.blue_kinds.specs.Kinds.{base_named, policy_named, joining_named, source_kind, sink_kind, testing_kind, making_kind, linear_kind, fan_out_kind, fan_in_kind, hub_kind, each_chain, split_of, key_of, keys_of, substream_kind, recover_of, trip_of, stage_kind}
use Rattle.blue_lang.specs.Spaced.{spaced}
use Rattle.blue_lang.specs.Functions.{map_words, pred_words}
use Rattle.blue_lang.specs.Functions as spell_functions
use Rattle.blue_lang.specs.Kinds.{kind_words}
use Rattle.blue_lang.specs.Kinds as spell
use Rattle.blue_lang.proofs.Respelling.{Words, Respelled, Tabled, if_tabled, made_again, made_of, none_tabled, row, row_said, row_word, second_row, then_respelled, behind_word_respelled, ending_respelled}
use Rattle.blue_lang.proofs.Lexical.{word_respelled, name_respelled, file_respelled, int_respelled, count_respelled, size_respelled}
use Rattle.blue_lang.proofs.Tables.{map_respelled, pred_respelled, expand_respelled, fold_respelled, reduce_respelled, fixed, one_respelled}

base_tabled : (w : List ℕ) (ws : Words) → Tabled (fixed base_named) (λ a. spell.base_word a ∷ []) w ws (said_if (base_named w) ws)
base_tabled w ws =
    row_word (fixed base_named) (λ a. spell.base_word a ∷ []) w (codes "num") ws base.Num _ (λ _. refl) refl
    (row_word (fixed base_named) (λ a. spell.base_word a ∷ []) w (codes "text") ws base.Text _ (λ _. refl) refl
    (none_tabled (fixed base_named) (λ a. spell.base_word a ∷ []) w ws))

base_respelled : (ws : Words) → Respelled (one_of base_named) (λ a. spell.base_word a ∷ []) ws (one_of base_named ws)
base_respelled ws = one_respelled base_named spell.base_word base_tabled ws

policy_tabled : (w : List ℕ) (ws : Words) → Tabled (fixed policy_named) (λ a. spell.policy_word a ∷ []) w ws (said_if (policy_named w) ws)
policy_tabled w ws =
    row_word (fixed policy_named) (λ a. spell.policy_word a ∷ []) w (codes "backpressure") ws policy.Backpressure _ (λ _. refl) refl
    (row_word (fixed policy_named) (λ a. spell.policy_word a ∷ []) w (codes "drop_head") ws policy.DropHead _ (λ _. refl) refl
    (row_word (fixed policy_named) (λ a. spell.policy_word a ∷ []) w (codes "drop_tail") ws policy.DropTail _ (λ _. refl) refl
    (row_word (fixed policy_named) (λ a. spell.policy_word a ∷ []) w (codes "drop_buffer") ws policy.DropBuffer _ (λ _. refl) refl
    (row_word (fixed policy_named) (λ a. spell.policy_word a ∷ []) w (codes "drop_new") ws policy.DropNew _ (λ _. refl) refl
    (row_word (fixed policy_named) (λ a. spell.policy_word a ∷ []) w (codes "fail") ws policy.Fail _ (λ _. refl) refl
    (none_tabled (fixed policy_named) (λ a. spell.policy_word a ∷ []) w ws))))))

policy_respelled : (ws : Words) → Respelled (one_of policy_named) (λ a. spell.policy_word a ∷ []) ws (one_of policy_named ws)
policy_respelled ws = one_respelled policy_named spell.policy_word policy_tabled ws

joining_tabled : (w : List ℕ) (ws : Words) → Tabled (fixed joining_named) (λ a. spell.joining_word a ∷ []) w ws (said_if (joining_named w) ws)
joining_tabled w ws =
    row_word (fixed joining_named) (λ a. spell.joining_word a ∷ []) w (codes "merge") ws joining.Merge _ (λ _. refl) refl
    (row_word (fixed joining_named) (λ a. spell.joining_word a ∷ []) w (codes "concat") ws joining.Concat _ (λ _. refl) refl
    (none_tabled (fixed joining_named) (λ a. spell.joining_word a ∷ []) w ws))

joining_respelled : (ws : Words) → Respelled (one_of joining_named) (λ a. spell.joining_word a ∷ []) ws (one_of joining_named ws)
joining_respelled ws = one_respelled joining_named spell.joining_word joining_tabled ws

abbrev range : Words → Reading (ℤ × ℤ)
range ws = then_read (int ws) int

abbrev range_words : ℤ × ℤ → Words
range_words r = (signed_decimal r.0 ∷ []) ++ (signed_decimal r.1 ∷ [])

range_respelled : (ws : Words) → Respelled range range_words ws (range ws)
range_respelled ws = then_respelled int int (λ z. signed_decimal z ∷ []) (λ z. signed_decimal z ∷ []) ws (int_respelled ws) int_respelled

abbrev two_sizes : Words → Reading (ℕ × ℕ)
two_sizes ws = then_read (size ws) size

abbrev two_sizes_words : ℕ × ℕ → Words
two_sizes_words r = (decimal r.0 ∷ []) ++ (decimal r.1 ∷ [])

two_sizes_respelled : (ws : Words) → Respelled two_sizes two_sizes_words ws (two_sizes ws)
two_sizes_respelled ws = then_respelled size size (λ n. decimal n ∷ []) (λ n. decimal n ∷ []) ws (size_respelled ws) size_respelled

abbrev partition : Words → Reading (ℕ × MapFn)
partition ws = then_read (size ws) map_of

abbrev partition_words : ℕ × MapFn → Words
partition_words r = (decimal r.0 ∷ []) ++ (map_words r.1)

partition_respelled : (ws : Words) → Respelled partition partition_words ws (partition ws)
partition_respelled ws = then_respelled size map_of (λ n. decimal n ∷ []) map_words ws (size_respelled ws) map_respelled

abbrev buffer : Words → Reading (ℕ × Policy)
buffer ws = then_read (size ws) (one_of policy_named)

abbrev buffer_words : ℕ × Policy → Words
buffer_words r = (decimal r.0 ∷ []) ++ (spell.policy_word r.1 ∷ [])

buffer_respelled : (ws : Words) → Respelled buffer buffer_words ws (buffer ws)
buffer_respelled ws = then_respelled size (one_of policy_named) (λ n. decimal n ∷ []) (λ a. spell.policy_word a ∷ []) ws (size_respelled ws) policy_respelled

abbrev each_words : List ℕ → Words
each_words c = codes "each" ∷ c ∷ []

each_respelled : (ws : Words) → Respelled each_chain each_words ws (each_chain ws)
each_respelled ws = behind_word_respelled (codes "each") name (λ w. w ∷ []) refl name_respelled ws

abbrev chain_joining : Words → Reading (List ℕ × Joining)
chain_joining ws = then_read (each_chain ws) (one_of joining_named)

abbrev chain_joining_words : List ℕ × Joining → Words
chain_joining_words r = (each_words r.0) ++ (spell.joining_word r.1 ∷ [])

chain_joining_respelled : (ws : Words) → Respelled chain_joining chain_joining_words ws (chain_joining ws)
chain_joining_respelled ws = then_respelled each_chain (one_of joining_named) each_words (λ a. spell.joining_word a ∷ []) ws (each_respelled ws) joining_respelled

abbrev split_words : Pred × (List ℕ × Joining) → Words
split_words r = pred_words r.0 ++ chain_joining_words r.1

split_respelled : (ws : Words) → Respelled split_of split_words ws (split_of ws)
split_respelled ws = then_respelled pred_of chain_joining pred_words chain_joining_words ws (pred_respelled ws) chain_joining_respelled

abbrev key_words : MapFn × List ℕ → Words
key_words r = map_words r.0 ++ each_words r.1

key_respelled : (ws : Words) → Respelled key_of key_words ws (key_of ws)
key_respelled ws = then_respelled map_of each_chain map_words each_words ws (map_respelled ws) each_respelled

abbrev keys_words : ℕ × (MapFn × List ℕ) → Words
keys_words r = (decimal r.0 ∷ []) ++ key_words r.1

keys_respelled : (ws : Words) → Respelled keys_of keys_words ws (keys_of ws)
keys_respelled ws = then_respelled size key_of (λ n. decimal n ∷ []) key_words ws (size_respelled ws) key_respelled

abbrev group : Words → Reading (ℕ × (MapFn × List ℕ))
group ws = before_word (codes "merge") (keys_of ws)

abbrev group_words : ℕ × (MapFn × List ℕ) → Words
group_words r = keys_words r ++ codes "merge" ∷ []

group_respelled : (ws : Words) → Respelled group group_words ws (group ws)
group_respelled ws = ending_respelled (codes "merge") keys_of keys_words refl ws (keys_respelled ws)

group_spelled : (r : ℕ × (MapFn × List ℕ)) → kind_words (k.GroupBy r.0 r.1.0 r.1.1) ≡ codes "group_by" ∷ group_words r
group_spelled r =
    ap (λ x. codes "group_by" ∷ decimal r.0 ∷ x) (sym (append_assoc (map_words r.1.0) (each_words r.1.1) (codes "merge" ∷ [])))

pub source_tabled : (w : List ℕ) (ws : Words) → Tabled source_kind kind_words w ws (source_kind w ws)
source_tabled w ws =
    row source_kind kind_words file (λ w. w ∷ []) w (codes "lines") ws k.Lines _ (λ _. refl) (λ _. refl) (file_respelled ws)
    (row source_kind kind_words range range_words w (codes "range") ws (λ r. k.Range r.0 r.1) _ (λ _. refl) (λ _. refl) (range_respelled ws)
    (row source_kind kind_words (one_of base_named) (λ a. spell.base_word a ∷ []) w (codes "empty") ws k.Empty _ (λ _. refl) (λ _. refl) (base_respelled ws)
    (row source_kind kind_words (one_of base_named) (λ a. spell.base_word a ∷ []) w (codes "failed") ws k.Failed _ (λ _. refl) (λ _. refl) (base_respelled ws)
    (none_tabled source_kind kind_words w ws))))

pub sink_tabled : (w : List ℕ) (ws : Words) → Tabled sink_kind kind_words w ws (sink_kind w ws)
sink_tabled w ws =
    row sink_kind kind_words file (λ w. w ∷ []) w (codes "lines") ws k.ToLines _ (λ _. refl) (λ _. refl) (file_respelled ws)
    (row sink_kind kind_words file (λ w. w ∷ []) w (codes "head") ws k.Head _ (λ _. refl) (λ _. refl) (file_respelled ws)
    (row sink_kind kind_words file (λ w. w ∷ []) w (codes "last") ws k.Last _ (λ _. refl) (λ _. refl) (file_respelled ws)
    (row_said sink_kind kind_words w (codes "ignore") ws k.Ignore _ (λ _. refl) refl
    (none_tabled sink_kind kind_words w ws))))

-- the stages that a chain may have, in a chain
testing_tabled : (w : List ℕ) (ws : Words) → Tabled linear_kind kind_words w ws (testing_kind w ws)
testing_tabled w ws =
    row linear_kind kind_words pred_of pred_words w (codes "filter") ws k.Filter _ (λ _. refl) (λ _. refl) (pred_respelled ws)
    (row linear_kind kind_words pred_of pred_words w (codes "filter_not") ws k.FilterNot _ (λ _. refl) (λ _. refl) (pred_respelled ws)
    (row linear_kind kind_words pred_of pred_words w (codes "take_while") ws k.TakeWhile _ (λ _. refl) (λ _. refl) (pred_respelled ws)
    (row linear_kind kind_words pred_of pred_words w (codes "drop_while") ws k.DropWhile _ (λ _. refl) (λ _. refl) (pred_respelled ws)
    (none_tabled linear_kind kind_words w ws))))

making_tabled : (w : List ℕ) (ws : Words) → Tabled linear_kind kind_words w ws (making_kind w ws)
making_tabled w ws =
    row linear_kind kind_words map_of map_words w (codes "map") ws k.Map _ (λ _. refl) (λ _. refl) (map_respelled ws)
    (row linear_kind kind_words (one_of expand_named) (λ a. spell_functions.expand_word a ∷ []) w (codes "map_concat") ws k.MapConcat _ (λ _. refl) (λ _. refl) (expand_respelled ws)
    (row linear_kind kind_words (one_of fold_named) (λ a. spell_functions.fold_word a ∷ []) w (codes "fold") ws k.Fold _ (λ _. refl) (λ _. refl) (fold_respelled ws)
    (row linear_kind kind_words (one_of fold_named) (λ a. spell_functions.fold_word a ∷ []) w (codes "scan") ws k.Scan _ (λ _. refl) (λ _. refl) (fold_respelled ws)
    (row linear_kind kind_words (one_of reduce_named) (λ a. spell_functions.reduce_word a ∷ []) w (codes "reduce") ws k.Reduce _ (λ _. refl) (λ _. refl) (reduce_respelled ws)
    (testing_tabled w ws)))))

pub linear_tabled : (w : List ℕ) (ws : Words) → Tabled linear_kind kind_words w ws (linear_kind w ws)
linear_tabled w ws =
    row linear_kind kind_words count (λ n. decimal n ∷ []) w (codes "take") ws k.Take _ (λ _. refl) (λ _. refl) (count_respelled ws)
    (row linear_kind kind_words count (λ n. decimal n ∷ []) w (codes "drop") ws k.Drop _ (λ _. refl) (λ _. refl) (count_respelled ws)
    (row linear_kind kind_words count (λ n. decimal n ∷ []) w (codes "limit") ws k.Limit _ (λ _. refl) (λ _. refl) (count_respelled ws)
    (row linear_kind kind_words size (λ n. decimal n ∷ []) w (codes "grouped") ws k.Grouped _ (λ _. refl) (λ _. refl) (size_respelled ws)
    (making_tabled w ws))))

-- and as stages
stage_testing_tabled : (w : List ℕ) (ws : Words) → Tabled stage_kind kind_words w ws (testing_kind w ws)
stage_testing_tabled w ws =
    row stage_kind kind_words pred_of pred_words w (codes "filter") ws k.Filter _ (λ _. refl) (λ _. refl) (pred_respelled ws)
    (row stage_kind kind_words pred_of pred_words w (codes "filter_not") ws k.FilterNot _ (λ _. refl) (λ _. refl) (pred_respelled ws)
    (row stage_kind kind_words pred_of pred_words w (codes "take_while") ws k.TakeWhile _ (λ _. refl) (λ _. refl) (pred_respelled ws)
    (row stage_kind kind_words pred_of pred_words w (codes "drop_while") ws k.DropWhile _ (λ _. refl) (λ _. refl) (pred_respelled ws)
    (none_tabled stage_kind kind_words w ws))))

stage_making_tabled : (w : List ℕ) (ws : Words) → Tabled stage_kind kind_words w ws (making_kind w ws)
stage_making_tabled w ws =
    row stage_kind kind_words map_of map_words w (codes "map") ws k.Map _ (λ _. refl) (λ _. refl) (map_respelled ws)
    (row stage_kind kind_words (one_of expand_named) (λ a. spell_functions.expand_word a ∷ []) w (codes "map_concat") ws k.MapConcat _ (λ _. refl) (λ _. refl) (expand_respelled ws)
    (row stage_kind kind_words (one_of fold_named) (λ a. spell_functions.fold_word a ∷ []) w (codes "fold") ws k.Fold _ (λ _. refl) (λ _. refl) (fold_respelled ws)
    (row stage_kind kind_words (one_of fold_named) (λ a. spell_functions.fold_word a ∷ []) w (codes "scan") ws k.Scan _ (λ _. refl) (λ _. refl) (fold_respelled ws)
    (row stage_kind kind_words (one_of reduce_named) (λ a. spell_functions.reduce_word a ∷ []) w (codes "reduce") ws k.Reduce _ (λ _. refl) (λ _. refl) (reduce_respelled ws)
    (stage_testing_tabled w ws)))))

stage_linear_tabled : (w : List ℕ) (ws : Words) → Tabled stage_kind kind_words w ws (linear_kind w ws)
stage_linear_tabled w ws =
    row stage_kind kind_words count (λ n. decimal n ∷ []) w (codes "take") ws k.Take _ (λ _. refl) (λ _. refl) (count_respelled ws)
    (row stage_kind kind_words count (λ n. decimal n ∷ []) w (codes "drop") ws k.Drop _ (λ _. refl) (λ _. refl) (count_respelled ws)
    (row stage_kind kind_words count (λ n. decimal n ∷ []) w (codes "limit") ws k.Limit _ (λ _. refl) (λ _. refl) (count_respelled ws)
    (row stage_kind kind_words size (λ n. decimal n ∷ []) w (codes "grouped") ws k.Grouped _ (λ _. refl) (λ _. refl) (size_respelled ws)
    (stage_making_tabled w ws))))

fan_out_tabled : (w : List ℕ) (ws : Words) → Tabled stage_kind kind_words w ws (fan_out_kind w ws)
fan_out_tabled w ws =
    row stage_kind kind_words size (λ n. decimal n ∷ []) w (codes "broadcast") ws k.Broadcast _ (λ _. refl) (λ _. refl) (size_respelled ws)
    (row stage_kind kind_words size (λ n. decimal n ∷ []) w (codes "balance") ws k.Balance _ (λ _. refl) (λ _. refl) (size_respelled ws)
    (row stage_kind kind_words partition partition_words w (codes "partition") ws (λ r. k.Partition r.0 r.1) _ (λ _. refl) (λ _. refl) (partition_respelled ws)
    (row_said stage_kind kind_words w (codes "unzip") ws k.Unzip _ (λ _. refl) refl
    (stage_linear_tabled w ws))))

fan_in_tabled : (w : List ℕ) (ws : Words) → Tabled stage_kind kind_words w ws (fan_in_kind w ws)
fan_in_tabled w ws =
    row stage_kind kind_words size (λ n. decimal n ∷ []) w (codes "merge") ws k.Merge _ (λ _. refl) (λ _. refl) (size_respelled ws)
    (row stage_kind kind_words size (λ n. decimal n ∷ []) w (codes "concat") ws k.Concat _ (λ _. refl) (λ _. refl) (size_respelled ws)
    (row stage_kind kind_words two_sizes two_sizes_words w (codes "interleave") ws (λ r. k.Interleave r.0 r.1) _ (λ _. refl) (λ _. refl) (two_sizes_respelled ws)
    (row_said stage_kind kind_words w (codes "merge_sorted") ws k.MergeSorted _ (λ _. refl) refl
    (row_said stage_kind kind_words w (codes "zip") ws k.Zip _ (λ _. refl) refl
    (fan_out_tabled w ws)))))

hub_tabled : (w : List ℕ) (ws : Words) → Tabled stage_kind kind_words w ws (hub_kind w ws)
hub_tabled w ws =
    row stage_kind kind_words two_sizes two_sizes_words w (codes "merge_hub") ws (λ r. k.MergeHub r.0 r.1) _ (λ _. refl) (λ _. refl) (two_sizes_respelled ws)
    (row stage_kind kind_words two_sizes two_sizes_words w (codes "broadcast_hub") ws (λ r. k.BroadcastHub r.0 r.1) _ (λ _. refl) (λ _. refl) (two_sizes_respelled ws)
    (fan_in_tabled w ws))

substream_tabled : (w : List ℕ) (ws : Words) → Tabled stage_kind kind_words w ws (substream_kind w ws)
substream_tabled w ws =
    row stage_kind kind_words group group_words w (codes "group_by") ws (λ r. k.GroupBy r.0 r.1.0 r.1.1) _ (λ _. refl) group_spelled (group_respelled ws)
    (row stage_kind kind_words split_of split_words w (codes "split_when") ws (λ r. k.SplitWhen r.0 r.1.0 r.1.1) _ (λ _. refl) (λ _. refl) (split_respelled ws)
    (row stage_kind kind_words split_of split_words w (codes "split_after") ws (λ r. k.SplitAfter r.0 r.1.0 r.1.1) _ (λ _. refl) (λ _. refl) (split_respelled ws)
    (hub_tabled w ws)))

recover_tabled : (w : List ℕ) (ws : Words) → w ≡ codes "recover" → Tabled stage_kind kind_words w ws (recover_of ws)
recover_tabled w [] e = none_tabled stage_kind kind_words w []
recover_tabled w (v ∷ vs) e =
    second_row stage_kind kind_words int (λ z. signed_decimal z ∷ []) w (codes "recover") v (codes "num") vs k.RecoverNum _ (λ _. refl) (λ _. refl) (int_respelled vs) e
    (second_row stage_kind kind_words word (λ w. w ∷ []) w (codes "recover") v (codes "text") vs k.RecoverText _ (λ _. refl) (λ _. refl) (word_respelled vs) e
    (none_tabled stage_kind kind_words w (v ∷ vs)))

abbrev named_size : Words → Reading (List ℕ × ℕ)
named_size ws = then_read (name ws) size

abbrev named_size_words : List ℕ × ℕ → Words
named_size_words r = r.0 ∷ decimal r.1 ∷ []

named_size_respelled : (ws : Words) → Respelled named_size named_size_words ws (named_size ws)
named_size_respelled ws = then_respelled name size (λ w. w ∷ []) (λ n. decimal n ∷ []) ws (name_respelled ws) size_respelled

-- a trip's row: its order stands between the switch and the number
order_at : (order : List ℕ) (f : List ℕ × ℕ → Kind) (w v u : List ℕ) (us : Words) → ((s : List ℕ) (ws : Words) → stage_kind (codes "trip") (s ∷ order ∷ ws) ≡ made f (named_size (s ∷ ws))) → ((r : List ℕ × ℕ) → kind_words (f r) ≡ codes "trip" ∷ r.0 ∷ order ∷ decimal r.1 ∷ []) → w ≡ codes "trip" → u ≡ order → Tabled stage_kind kind_words w (v ∷ u ∷ us) (made f (named_size (v ∷ us)))
order_at order f w v u us same spelled e d =
    record {
      kept = λ b rest h t. let m = made_of f (named_size (v ∷ us)) b rest h in
          let first = and_parts (is_word v) (list_all is_word (u ∷ us)) t in
          let later = and_parts (is_word u) (list_all is_word us) first.1 in
          let kept = (named_size_respelled (v ∷ us)).kept m.0 rest m.1 (and_from _ _ first.0 later.1) in
          let words = and_parts (is_word m.0.0) (list_all is_word (decimal m.0.1 ∷ [])) kept.words in
          let l : length u ≡ length order = ap length d in
          record {
            tail = m.0.0 ∷ order ∷ decimal m.0.1 ∷ [];
            head = ap kind_words (sym m.2) ∙ (spelled m.0 ∙ ap (λ x. x ∷ m.0.0 ∷ order ∷ decimal m.0.1 ∷ []) (sym e));
            again = λ more. ap (λ x. stage_kind x (m.0.0 ∷ order ∷ decimal m.0.1 ∷ more)) e ∙ (same m.0.0 (decimal m.0.1 ∷ more) ∙ made_again f (named_size (m.0.0 ∷ decimal m.0.1 ∷ more)) m.0 b more (kept.again more) m.2);
            shorter = omega (arith, l, kept.shorter, length-append v (spaced (u ∷ us)), length-append u (spaced us), length-append v (spaced us), length-append m.0.0 (spaced (order ∷ decimal m.0.1 ∷ [])), length-append m.0.0 (spaced (decimal m.0.1 ∷ [])), length-append order (spaced (decimal m.0.1 ∷ [])));
            words = and_from _ _ words.0 (and_from _ _ (subst (λ x. is_word x ≡ true) d later.0) words.1);
            left = kept.left;
          };
    }

order_row : (order : List ℕ) (f : List ℕ × ℕ → Kind) (w v u : List ℕ) (us : Words) (other : Reading Kind) → ((s : List ℕ) (ws : Words) → stage_kind (codes "trip") (s ∷ order ∷ ws) ≡ made f (named_size (s ∷ ws))) → ((r : List ℕ × ℕ) → kind_words (f r) ≡ codes "trip" ∷ r.0 ∷ order ∷ decimal r.1 ∷ []) → w ≡ codes "trip" → Tabled stage_kind kind_words w (v ∷ u ∷ us) other → Tabled stage_kind kind_words w (v ∷ u ∷ us) (cond (bytes_eq u order) (made f (named_size (v ∷ us))) other)
order_row order f w v u us other same spelled e later =
    ⊎_elim
    (λ t. subst (Tabled stage_kind kind_words w (v ∷ u ∷ us)) (sym (ap (λ b. cond b (made f (named_size (v ∷ us))) other) t)) (order_at order f w v u us same spelled e ((bytes_eq-Decides u order).0 t)))
    (λ t. subst (Tabled stage_kind kind_words w (v ∷ u ∷ us)) (sym (ap (λ b. cond b (made f (named_size (v ∷ us))) other) t)) later)
    (cases_Bool (bytes_eq u order))

trip_tabled : (w : List ℕ) (ws : Words) → w ≡ codes "trip" → Tabled stage_kind kind_words w ws (trip_of (name ws))
trip_tabled w [] e = none_tabled stage_kind kind_words w []
trip_tabled w (v ∷ []) e = none_tabled stage_kind kind_words w (v ∷ [])
trip_tabled w (v ∷ u ∷ us) e =
    order_row (codes "shutdown") (λ r. k.TripShutdown r.0 r.1) w v u us _ (λ _ _. refl) (λ _. refl) e
    (order_row (codes "abort") (λ r. k.TripAbort r.0 r.1) w v u us _ (λ _ _. refl) (λ _. refl) e
    (none_tabled stage_kind kind_words w (v ∷ u ∷ us)))

pub stage_tabled : (w : List ℕ) (ws : Words) → Tabled stage_kind kind_words w ws (stage_kind w ws)
stage_tabled w ws =
    row stage_kind kind_words buffer buffer_words w (codes "buffer") ws (λ r. k.Buffer r.0 r.1) _ (λ _. refl) (λ _. refl) (buffer_respelled ws)
    (if_tabled stage_kind kind_words w (codes "recover") ws (recover_of ws) _ (λ e. recover_tabled w ws e)
    (row stage_kind kind_words name (λ w. w ∷ []) w (codes "valve") ws k.Valve _ (λ _. refl) (λ _. refl) (name_respelled ws)
    (if_tabled stage_kind kind_words w (codes "trip") ws (trip_of (name ws)) _ (λ e. trip_tabled w ws e)
    (row stage_kind kind_words name (λ w. w ∷ []) w (codes "plug") ws k.Plug _ (λ _. refl) (λ _. refl) (name_respelled ws)
    (row stage_kind kind_words name (λ w. w ∷ []) w (codes "custom") ws k.Custom _ (λ _. refl) (λ _. refl) (name_respelled ws)
    (substream_tabled w ws))))))
