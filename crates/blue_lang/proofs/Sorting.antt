-- Which word a node's line begins with, by the table that read its kind.
use Rattle.std.proofs.Common.{◌≡◌, ℕ, Bool, true, false, cond, List, [], ◌∷◌, Some, None, Ok, refl, sym, ap, ◌∙◌}
use Rattle.std.specs.Prelude.{codes}
use Rattle.std.specs.Str.{bytes_eq}
use Rattle.stream_model.specs.declared.kind.Kind.{Kind}
use Rattle.stream_model.specs.declared.kind.Kind.TheVariants as k
use Rattle.blue_words.specs.Numbers.{read_name}
use Rattle.blue_words.specs.Reading.{Reading, said, made, with_second, then_read, word, name, file, int, count, size}
use Rattle.blue_kinds.specs.Functions.{one_of, map_of, pred_of, expand_named, fold_named, reduce_named}
use Rattle.blue_kinds.specs.Kinds.{base_named, policy_named, source_kind, sink_kind, testing_kind, making_kind, linear_kind, fan_out_kind, fan_in_kind, hub_kind, split_of, group_of, keys_of, substream_kind, recover_of, trip_of, stage_kind}
use Rattle.blue_words.specs.Reading.{before_word}
use Rattle.blue_lang.specs.Kinds.{sort_word}
use Rattle.blue_lang.proofs.Respelling.{Words, made_of, same_value}

-- each kind that is read is of this sort
pub record Sorts (s : List ℕ) (r : Reading Kind) : Type 0 where
  pub kept : (kind : Kind) (rest : Words) → r ≡ Some (Ok kind, rest) → sort_word kind ≡ s

sorts_none : (s : List ℕ) → Sorts s None
sorts_none s = record { kept = λ kind rest h. absurd (let c : ⊥ = cc in c) }

sorts_made : {A : Type 0} (s : List ℕ) (f : A → Kind) (r : Reading A) → ((a : A) → sort_word (f a) ≡ s) → Sorts s (made f r)
sorts_made s f r h =
    record { kept = λ kind rest e. let m = made_of f r kind rest e in ap sort_word (sym m.2) ∙ h m.0 }

sorts_said : (s : List ℕ) (kind : Kind) (ws : Words) → sort_word kind ≡ s → Sorts s (said kind ws)
sorts_said s kind ws h = record { kept = λ other rest e. ap sort_word (sym (same_value kind other ws rest e)) ∙ h }

sorts_if : (s : List ℕ) (t : Bool) (a b : Reading Kind) → Sorts s a → Sorts s b → Sorts s (cond t a b)
sorts_if s true a b x y = x
sorts_if s false a b x y = y

recover_sorts : (ws : Words) → Sorts (codes "stage") (recover_of ws)
recover_sorts [] = sorts_none (codes "stage")
recover_sorts (w ∷ ws) =
    sorts_if (codes "stage") (bytes_eq w (codes "num")) (made k.RecoverNum (int ws)) _ (sorts_made (codes "stage") k.RecoverNum (int ws) (λ _. refl))
    (sorts_if (codes "stage") (bytes_eq w (codes "text")) (made k.RecoverText (word ws)) None (sorts_made (codes "stage") k.RecoverText (word ws) (λ _. refl))
    (sorts_none (codes "stage")))

trip_sorts : (ws : Words) → Sorts (codes "stage") (trip_of (name ws))
trip_sorts [] = sorts_none (codes "stage")
trip_sorts (v ∷ []) = sorts_none (codes "stage")
trip_sorts (v ∷ w ∷ ws) =
    sorts_if (codes "stage") (bytes_eq w (codes "shutdown")) (made (λ r. k.TripShutdown r.0 r.1) (with_second (read_name v) (size ws))) _ (sorts_made (codes "stage") (λ r. k.TripShutdown r.0 r.1) (with_second (read_name v) (size ws)) (λ _. refl))
    (sorts_if (codes "stage") (bytes_eq w (codes "abort")) (made (λ r. k.TripAbort r.0 r.1) (with_second (read_name v) (size ws))) None (sorts_made (codes "stage") (λ r. k.TripAbort r.0 r.1) (with_second (read_name v) (size ws)) (λ _. refl))
    (sorts_none (codes "stage")))

pub source_sorts : (w : List ℕ) (ws : Words) → Sorts (codes "source") (source_kind w ws)
source_sorts w ws =
    sorts_if (codes "source") (bytes_eq w (codes "lines")) (made k.Lines (file ws)) _ (sorts_made (codes "source") k.Lines (file ws) (λ _. refl))
    (sorts_if (codes "source") (bytes_eq w (codes "range")) (made (λ r. k.Range r.0 r.1) (then_read (int ws) int)) _ (sorts_made (codes "source") (λ r. k.Range r.0 r.1) (then_read (int ws) int) (λ _. refl))
    (sorts_if (codes "source") (bytes_eq w (codes "empty")) (made k.Empty (one_of base_named ws)) _ (sorts_made (codes "source") k.Empty (one_of base_named ws) (λ _. refl))
    (sorts_if (codes "source") (bytes_eq w (codes "failed")) (made k.Failed (one_of base_named ws)) _ (sorts_made (codes "source") k.Failed (one_of base_named ws) (λ _. refl))
    (sorts_none (codes "source")))))

pub sink_sorts : (w : List ℕ) (ws : Words) → Sorts (codes "sink") (sink_kind w ws)
sink_sorts w ws =
    sorts_if (codes "sink") (bytes_eq w (codes "lines")) (made k.ToLines (file ws)) _ (sorts_made (codes "sink") k.ToLines (file ws) (λ _. refl))
    (sorts_if (codes "sink") (bytes_eq w (codes "head")) (made k.Head (file ws)) _ (sorts_made (codes "sink") k.Head (file ws) (λ _. refl))
    (sorts_if (codes "sink") (bytes_eq w (codes "last")) (made k.Last (file ws)) _ (sorts_made (codes "sink") k.Last (file ws) (λ _. refl))
    (sorts_if (codes "sink") (bytes_eq w (codes "ignore")) (said k.Ignore ws) _ (sorts_said (codes "sink") k.Ignore ws refl)
    (sorts_none (codes "sink")))))

testing_sorts : (w : List ℕ) (ws : Words) → Sorts (codes "stage") (testing_kind w ws)
testing_sorts w ws =
    sorts_if (codes "stage") (bytes_eq w (codes "filter")) (made k.Filter (pred_of ws)) _ (sorts_made (codes "stage") k.Filter (pred_of ws) (λ _. refl))
    (sorts_if (codes "stage") (bytes_eq w (codes "filter_not")) (made k.FilterNot (pred_of ws)) _ (sorts_made (codes "stage") k.FilterNot (pred_of ws) (λ _. refl))
    (sorts_if (codes "stage") (bytes_eq w (codes "take_while")) (made k.TakeWhile (pred_of ws)) _ (sorts_made (codes "stage") k.TakeWhile (pred_of ws) (λ _. refl))
    (sorts_if (codes "stage") (bytes_eq w (codes "drop_while")) (made k.DropWhile (pred_of ws)) _ (sorts_made (codes "stage") k.DropWhile (pred_of ws) (λ _. refl))
    (sorts_none (codes "stage")))))

making_sorts : (w : List ℕ) (ws : Words) → Sorts (codes "stage") (making_kind w ws)
making_sorts w ws =
    sorts_if (codes "stage") (bytes_eq w (codes "map")) (made k.Map (map_of ws)) _ (sorts_made (codes "stage") k.Map (map_of ws) (λ _. refl))
    (sorts_if (codes "stage") (bytes_eq w (codes "map_concat")) (made k.MapConcat (one_of expand_named ws)) _ (sorts_made (codes "stage") k.MapConcat (one_of expand_named ws) (λ _. refl))
    (sorts_if (codes "stage") (bytes_eq w (codes "fold")) (made k.Fold (one_of fold_named ws)) _ (sorts_made (codes "stage") k.Fold (one_of fold_named ws) (λ _. refl))
    (sorts_if (codes "stage") (bytes_eq w (codes "scan")) (made k.Scan (one_of fold_named ws)) _ (sorts_made (codes "stage") k.Scan (one_of fold_named ws) (λ _. refl))
    (sorts_if (codes "stage") (bytes_eq w (codes "reduce")) (made k.Reduce (one_of reduce_named ws)) _ (sorts_made (codes "stage") k.Reduce (one_of reduce_named ws) (λ _. refl))
    (testing_sorts w ws)))))

linear_sorts : (w : List ℕ) (ws : Words) → Sorts (codes "stage") (linear_kind w ws)
linear_sorts w ws =
    sorts_if (codes "stage") (bytes_eq w (codes "take")) (made k.Take (count ws)) _ (sorts_made (codes "stage") k.Take (count ws) (λ _. refl))
    (sorts_if (codes "stage") (bytes_eq w (codes "drop")) (made k.Drop (count ws)) _ (sorts_made (codes "stage") k.Drop (count ws) (λ _. refl))
    (sorts_if (codes "stage") (bytes_eq w (codes "limit")) (made k.Limit (count ws)) _ (sorts_made (codes "stage") k.Limit (count ws) (λ _. refl))
    (sorts_if (codes "stage") (bytes_eq w (codes "grouped")) (made k.Grouped (size ws)) _ (sorts_made (codes "stage") k.Grouped (size ws) (λ _. refl))
    (making_sorts w ws))))

fan_out_sorts : (w : List ℕ) (ws : Words) → Sorts (codes "stage") (fan_out_kind w ws)
fan_out_sorts w ws =
    sorts_if (codes "stage") (bytes_eq w (codes "broadcast")) (made k.Broadcast (size ws)) _ (sorts_made (codes "stage") k.Broadcast (size ws) (λ _. refl))
    (sorts_if (codes "stage") (bytes_eq w (codes "balance")) (made k.Balance (size ws)) _ (sorts_made (codes "stage") k.Balance (size ws) (λ _. refl))
    (sorts_if (codes "stage") (bytes_eq w (codes "partition")) (made (λ r. k.Partition r.0 r.1) (then_read (size ws) map_of)) _ (sorts_made (codes "stage") (λ r. k.Partition r.0 r.1) (then_read (size ws) map_of) (λ _. refl))
    (sorts_if (codes "stage") (bytes_eq w (codes "unzip")) (said k.Unzip ws) _ (sorts_said (codes "stage") k.Unzip ws refl)
    (linear_sorts w ws))))

fan_in_sorts : (w : List ℕ) (ws : Words) → Sorts (codes "stage") (fan_in_kind w ws)
fan_in_sorts w ws =
    sorts_if (codes "stage") (bytes_eq w (codes "merge")) (made k.Merge (size ws)) _ (sorts_made (codes "stage") k.Merge (size ws) (λ _. refl))
    (sorts_if (codes "stage") (bytes_eq w (codes "concat")) (made k.Concat (size ws)) _ (sorts_made (codes "stage") k.Concat (size ws) (λ _. refl))
    (sorts_if (codes "stage") (bytes_eq w (codes "interleave")) (made (λ r. k.Interleave r.0 r.1) (then_read (size ws) size)) _ (sorts_made (codes "stage") (λ r. k.Interleave r.0 r.1) (then_read (size ws) size) (λ _. refl))
    (sorts_if (codes "stage") (bytes_eq w (codes "merge_sorted")) (said k.MergeSorted ws) _ (sorts_said (codes "stage") k.MergeSorted ws refl)
    (sorts_if (codes "stage") (bytes_eq w (codes "zip")) (said k.Zip ws) _ (sorts_said (codes "stage") k.Zip ws refl)
    (fan_out_sorts w ws)))))

hub_sorts : (w : List ℕ) (ws : Words) → Sorts (codes "stage") (hub_kind w ws)
hub_sorts w ws =
    sorts_if (codes "stage") (bytes_eq w (codes "merge_hub")) (made (λ r. k.MergeHub r.0 r.1) (then_read (size ws) size)) _ (sorts_made (codes "stage") (λ r. k.MergeHub r.0 r.1) (then_read (size ws) size) (λ _. refl))
    (sorts_if (codes "stage") (bytes_eq w (codes "broadcast_hub")) (made (λ r. k.BroadcastHub r.0 r.1) (then_read (size ws) size)) _ (sorts_made (codes "stage") (λ r. k.BroadcastHub r.0 r.1) (then_read (size ws) size) (λ _. refl))
    (fan_in_sorts w ws))

substream_sorts : (w : List ℕ) (ws : Words) → Sorts (codes "stage") (substream_kind w ws)
substream_sorts w ws =
    sorts_if (codes "stage") (bytes_eq w (codes "group_by")) (group_of ws) _ (sorts_made (codes "stage") (λ r. k.GroupBy r.0 r.1.0 r.1.1) (before_word (codes "merge") (keys_of ws)) (λ _. refl))
    (sorts_if (codes "stage") (bytes_eq w (codes "split_when")) (made (λ r. k.SplitWhen r.0 r.1.0 r.1.1) (split_of ws)) _ (sorts_made (codes "stage") (λ r. k.SplitWhen r.0 r.1.0 r.1.1) (split_of ws) (λ _. refl))
    (sorts_if (codes "stage") (bytes_eq w (codes "split_after")) (made (λ r. k.SplitAfter r.0 r.1.0 r.1.1) (split_of ws)) _ (sorts_made (codes "stage") (λ r. k.SplitAfter r.0 r.1.0 r.1.1) (split_of ws) (λ _. refl))
    (hub_sorts w ws)))

pub stage_sorts : (w : List ℕ) (ws : Words) → Sorts (codes "stage") (stage_kind w ws)
stage_sorts w ws =
    sorts_if (codes "stage") (bytes_eq w (codes "buffer")) (made (λ r. k.Buffer r.0 r.1) (then_read (size ws) (one_of policy_named))) _ (sorts_made (codes "stage") (λ r. k.Buffer r.0 r.1) (then_read (size ws) (one_of policy_named)) (λ _. refl))
    (sorts_if (codes "stage") (bytes_eq w (codes "recover")) (recover_of ws) _ (recover_sorts ws)
    (sorts_if (codes "stage") (bytes_eq w (codes "valve")) (made k.Valve (name ws)) _ (sorts_made (codes "stage") k.Valve (name ws) (λ _. refl))
    (sorts_if (codes "stage") (bytes_eq w (codes "trip")) (trip_of (name ws)) _ (trip_sorts ws)
    (sorts_if (codes "stage") (bytes_eq w (codes "plug")) (made k.Plug (name ws)) _ (sorts_made (codes "stage") k.Plug (name ws) (λ _. refl))
    (sorts_if (codes "stage") (bytes_eq w (codes "custom")) (made k.Custom (name ws)) _ (sorts_made (codes "stage") k.Custom (name ws) (λ _. refl))
    (substream_sorts w ws))))))
