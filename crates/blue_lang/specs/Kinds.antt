-- The words of kinds and deciders, each in its one spelling. A table's last row goes on to the next.
use Rattle.std.specs.Prelude.{ℕ, List, [], ◌∷◌, ◌++◌, Option, Some, None, codes}
use Rattle.std.specs.Fmt.{decimal, signed_decimal}
use Rattle.elem_core.specs.declared.why.Decider.{Decider}
use Rattle.elem_core.specs.declared.why.Decider.TheVariants.{Stop, Resume, Restart}
use Rattle.stream_model.specs.declared.kind.Base.{Base}
use Rattle.stream_model.specs.declared.kind.Base.TheVariants as base
use Rattle.stream_model.specs.declared.kind.Policy.{Policy}
use Rattle.stream_model.specs.declared.kind.Policy.TheVariants as policy
use Rattle.stream_model.specs.declared.kind.Joining.{Joining}
use Rattle.stream_model.specs.declared.kind.Joining.TheVariants as joining
use Rattle.stream_model.specs.declared.kind.Kind.{Kind}
use Rattle.stream_model.specs.declared.kind.Kind.TheVariants as k
use Rattle.stream_model.specs.Linear.{Side, at_source, at_stage, at_sink, side_by, role_of}
use Rattle.blue_lang.specs.Functions.{map_words, pred_words, expand_word, fold_word, reduce_word}

-- the word of the type of a source's elements
abbrev pub base_word : Base → List ℕ
base_word base.Num = codes "num"
base_word base.Text = codes "text"

-- the word of what a full buffer does
abbrev pub policy_word : Policy → List ℕ
policy_word policy.Backpressure = codes "backpressure"
policy_word policy.DropHead = codes "drop_head"
policy_word policy.DropTail = codes "drop_tail"
policy_word policy.DropBuffer = codes "drop_buffer"
policy_word policy.DropNew = codes "drop_new"
policy_word policy.Fail = codes "fail"

-- the word of how substreams come together
abbrev pub joining_word : Joining → List ℕ
joining_word joining.Merge = codes "merge"
joining_word joining.Concat = codes "concat"

-- the chain of each substream, and how they come together
abbrev pub each_words : List ℕ → List ℕ → List (List ℕ)
each_words name joining = codes "each" ∷ name ∷ joining ∷ []

-- stages with several inputs or outputs
abbrev pub fan_words : Kind → List (List ℕ)
fan_words (k.Merge n) = codes "merge" ∷ decimal n ∷ []
fan_words (k.MergeHub s n) = codes "merge_hub" ∷ decimal s ∷ decimal n ∷ []
fan_words (k.Concat n) = codes "concat" ∷ decimal n ∷ []
fan_words (k.Interleave n s) = codes "interleave" ∷ decimal n ∷ decimal s ∷ []
fan_words k.MergeSorted = codes "merge_sorted" ∷ []
fan_words k.Zip = codes "zip" ∷ []
fan_words (k.Broadcast n) = codes "broadcast" ∷ decimal n ∷ []
fan_words (k.BroadcastHub s n) = codes "broadcast_hub" ∷ decimal s ∷ decimal n ∷ []
fan_words (k.Balance n) = codes "balance" ∷ decimal n ∷ []
fan_words (k.Partition n f) = codes "partition" ∷ decimal n ∷ map_words f
fan_words k.Unzip = codes "unzip" ∷ []
fan_words _ = []

-- the other stages that no chain may have
abbrev pub edge_words : Kind → List (List ℕ)
edge_words (k.Buffer n p) = codes "buffer" ∷ decimal n ∷ policy_word p ∷ []
edge_words (k.RecoverNum z) = codes "recover" ∷ codes "num" ∷ signed_decimal z ∷ []
edge_words (k.RecoverText w) = codes "recover" ∷ codes "text" ∷ w ∷ []
edge_words (k.Valve s) = codes "valve" ∷ s ∷ []
edge_words (k.TripShutdown s n) = codes "trip" ∷ s ∷ codes "shutdown" ∷ decimal n ∷ []
edge_words (k.TripAbort s n) = codes "trip" ∷ s ∷ codes "abort" ∷ decimal n ∷ []
edge_words (k.Plug n) = codes "plug" ∷ n ∷ []
edge_words (k.Custom n) = codes "custom" ∷ n ∷ []
edge_words (k.GroupBy n f c) = codes "group_by" ∷ decimal n ∷ (map_words f ++ each_words c (codes "merge"))
edge_words (k.SplitWhen p c j) = codes "split_when" ∷ (pred_words p ++ each_words c (joining_word j))
edge_words (k.SplitAfter p c j) = codes "split_after" ∷ (pred_words p ++ each_words c (joining_word j))
edge_words kind = fan_words kind

-- stages that a chain may have
abbrev pub stage_words : Kind → List (List ℕ)
stage_words (k.Map f) = codes "map" ∷ map_words f
stage_words (k.Filter p) = codes "filter" ∷ pred_words p
stage_words (k.FilterNot p) = codes "filter_not" ∷ pred_words p
stage_words (k.TakeWhile p) = codes "take_while" ∷ pred_words p
stage_words (k.DropWhile p) = codes "drop_while" ∷ pred_words p
stage_words (k.Take n) = codes "take" ∷ decimal n ∷ []
stage_words (k.Drop n) = codes "drop" ∷ decimal n ∷ []
stage_words (k.Limit n) = codes "limit" ∷ decimal n ∷ []
stage_words (k.Grouped n) = codes "grouped" ∷ decimal n ∷ []
stage_words (k.MapConcat x) = codes "map_concat" ∷ expand_word x ∷ []
stage_words (k.Fold o) = codes "fold" ∷ fold_word o ∷ []
stage_words (k.Scan o) = codes "scan" ∷ fold_word o ∷ []
stage_words (k.Reduce r) = codes "reduce" ∷ reduce_word r ∷ []
stage_words kind = edge_words kind

-- every kind: sources, sinks and stages
abbrev pub kind_words : Kind → List (List ℕ)
kind_words (k.Lines f) = codes "lines" ∷ f ∷ []
kind_words (k.Range a b) = codes "range" ∷ signed_decimal a ∷ signed_decimal b ∷ []
kind_words (k.Empty b) = codes "empty" ∷ base_word b ∷ []
kind_words (k.Failed b) = codes "failed" ∷ base_word b ∷ []
kind_words (k.ToLines f) = codes "lines" ∷ f ∷ []
kind_words (k.Head f) = codes "head" ∷ f ∷ []
kind_words (k.Last f) = codes "last" ∷ f ∷ []
kind_words k.Ignore = codes "ignore" ∷ []
kind_words kind = stage_words kind

-- the word of a side
abbrev pub side_word : Side → List ℕ
side_word at_source = codes "source"
side_word at_stage = codes "stage"
side_word at_sink = codes "sink"

-- the word that a node's line begins with
abbrev pub sort_word : Kind → List ℕ
sort_word k = side_word (side_by (role_of k))

-- the word of a decider
abbrev pub set_decider_word : Decider → List ℕ
set_decider_word Stop = codes "stop"
set_decider_word Resume = codes "resume"
set_decider_word Restart = codes "restart"

-- a decider, where one is set
abbrev pub decider_words : Option Decider → List (List ℕ)
decider_words None = []
decider_words (Some d) = codes "decider" ∷ set_decider_word d ∷ []
