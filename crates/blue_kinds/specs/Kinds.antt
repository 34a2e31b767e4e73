-- The kinds that words say. Each definition is a table by the first word; the last row of one table goes on to the
-- next. Rule: Akka Streams 2.6 reference for the kinds, own for their words.
use Rattle.std.specs.Prelude.{ℕ, Bool, false, ◌&&◌, ◌||◌, if◌then◌else◌, List, [], ◌∷◌, Option, Some, None, codes}
use Rattle.std.specs.Str.{bytes_eq}
use Rattle.elem_core.specs.declared.why.Decider.{Decider}
use Rattle.elem_core.specs.declared.why.Decider.TheVariants.{Stop, Resume, Restart}
use Rattle.elem_core.specs.declared.function.MapFn.{MapFn}
use Rattle.elem_core.specs.declared.function.Pred.{Pred}
use Rattle.stream_model.specs.declared.kind.Base.{Base}
use Rattle.stream_model.specs.declared.kind.Base.TheVariants as base
use Rattle.stream_model.specs.declared.kind.Policy.{Policy}
use Rattle.stream_model.specs.declared.kind.Policy.TheVariants as policy
use Rattle.stream_model.specs.declared.kind.Joining.{Joining}
use Rattle.stream_model.specs.declared.kind.Joining.TheVariants as joining
use Rattle.stream_model.specs.declared.kind.Kind.{Kind}
use Rattle.stream_model.specs.declared.kind.Kind.TheVariants as k
use Rattle.blue_words.specs.declared.fault.Version.{Version}
use Rattle.blue_words.specs.declared.fault.Version.TheVariants.{First, Second}
use Rattle.blue_words.specs.Reading.{At, Reading, said, made, with_second, then_read, behind_word, begins_with, before_word, word, name, file, int, count, size}
use Rattle.blue_kinds.specs.Functions.{one_of, map_of, pred_of, expand_named, fold_named, reduce_named}

-- the type of a source that gives nothing
abbrev pub base_named : List ℕ → Option Base
base_named w =
    if bytes_eq w (codes "num") then Some base.Num else
    (if bytes_eq w (codes "text") then Some base.Text else None)

-- what a full buffer does
abbrev pub policy_named : List ℕ → Option Policy
policy_named w =
    if bytes_eq w (codes "backpressure") then Some policy.Backpressure else
    (if bytes_eq w (codes "drop_head") then Some policy.DropHead else
    (if bytes_eq w (codes "drop_tail") then Some policy.DropTail else
    (if bytes_eq w (codes "drop_buffer") then Some policy.DropBuffer else
    (if bytes_eq w (codes "drop_new") then Some policy.DropNew else
    (if bytes_eq w (codes "fail") then Some policy.Fail else None)))))

-- how substreams come together
abbrev pub joining_named : List ℕ → Option Joining
joining_named w =
    if bytes_eq w (codes "merge") then Some joining.Merge else
    (if bytes_eq w (codes "concat") then Some joining.Concat else None)

-- sources
abbrev pub source_kind : List ℕ → List (List ℕ) → Reading Kind
source_kind w ws =
    if bytes_eq w (codes "lines") then made k.Lines (file ws) else
    (if bytes_eq w (codes "range") then made (λ r. k.Range r.0 r.1) (then_read (int ws) int) else
    (if bytes_eq w (codes "empty") then made k.Empty (one_of base_named ws) else
    (if bytes_eq w (codes "failed") then made k.Failed (one_of base_named ws) else None)))

-- sinks
abbrev pub sink_kind : List ℕ → List (List ℕ) → Reading Kind
sink_kind w ws =
    if bytes_eq w (codes "lines") then made k.ToLines (file ws) else
    (if bytes_eq w (codes "head") then made k.Head (file ws) else
    (if bytes_eq w (codes "last") then made k.Last (file ws) else
    (if bytes_eq w (codes "ignore") then said k.Ignore ws else None)))

-- stages of a chain that test elements up to the first that misses
abbrev pub while_kind : List ℕ → List (List ℕ) → Reading Kind
while_kind w ws =
    if bytes_eq w (codes "take_while") then made k.TakeWhile (pred_of ws) else
    (if bytes_eq w (codes "drop_while") then made k.DropWhile (pred_of ws) else None)

-- stages of a chain that test elements
abbrev pub testing_kind : List ℕ → List (List ℕ) → Reading Kind
testing_kind w ws =
    if bytes_eq w (codes "filter") then made k.Filter (pred_of ws) else
    (if bytes_eq w (codes "filter_not") then made k.FilterNot (pred_of ws) else while_kind w ws)

-- stages of a chain that gather elements
abbrev pub folding_kind : List ℕ → List (List ℕ) → Reading Kind
folding_kind w ws =
    if bytes_eq w (codes "fold") then made k.Fold (one_of fold_named ws) else
    (if bytes_eq w (codes "scan") then made k.Scan (one_of fold_named ws) else
    (if bytes_eq w (codes "reduce") then made k.Reduce (one_of reduce_named ws) else testing_kind w ws))

-- stages of a chain that make elements of elements
abbrev pub making_kind : List ℕ → List (List ℕ) → Reading Kind
making_kind w ws =
    if bytes_eq w (codes "map") then made k.Map (map_of ws) else
    (if bytes_eq w (codes "map_concat") then made k.MapConcat (one_of expand_named ws) else folding_kind w ws)

-- stages of a chain with a bound that they do not pass
abbrev pub bounded_kind : List ℕ → List (List ℕ) → Reading Kind
bounded_kind w ws =
    if bytes_eq w (codes "limit") then made k.Limit (count ws) else
    (if bytes_eq w (codes "grouped") then made k.Grouped (size ws) else making_kind w ws)

-- stages of a chain: those that count elements, and the others
abbrev pub linear_kind : List ℕ → List (List ℕ) → Reading Kind
linear_kind w ws =
    if bytes_eq w (codes "take") then made k.Take (count ws) else
    (if bytes_eq w (codes "drop") then made k.Drop (count ws) else bounded_kind w ws)

-- stages that part their elements among their outputs
abbrev pub parting_kind : List ℕ → List (List ℕ) → Reading Kind
parting_kind w ws =
    if bytes_eq w (codes "partition") then made (λ r. k.Partition r.0 r.1) (then_read (size ws) map_of) else
    (if bytes_eq w (codes "unzip") then said k.Unzip ws else linear_kind w ws)

-- stages with several outputs
abbrev pub fan_out_kind : List ℕ → List (List ℕ) → Reading Kind
fan_out_kind w ws =
    if bytes_eq w (codes "broadcast") then made k.Broadcast (size ws) else
    (if bytes_eq w (codes "balance") then made k.Balance (size ws) else parting_kind w ws)

-- stages that take from their inputs by turns or in step
abbrev pub turning_kind : List ℕ → List (List ℕ) → Reading Kind
turning_kind w ws =
    if bytes_eq w (codes "interleave") then made (λ r. k.Interleave r.0 r.1) (then_read (size ws) size) else
    (if bytes_eq w (codes "merge_sorted") then said k.MergeSorted ws else
    (if bytes_eq w (codes "zip") then said k.Zip ws else fan_out_kind w ws))

-- stages with several inputs
abbrev pub fan_in_kind : List ℕ → List (List ℕ) → Reading Kind
fan_in_kind w ws =
    if bytes_eq w (codes "merge") then made k.Merge (size ws) else
    (if bytes_eq w (codes "concat") then made k.Concat (size ws) else turning_kind w ws)

-- hubs: the size of their lanes, and how many parties they have; and what goes on
abbrev pub hub_kind : List ℕ → List (List ℕ) → Reading Kind
hub_kind w ws =
    if bytes_eq w (codes "merge_hub") then made (λ r. k.MergeHub r.0 r.1) (then_read (size ws) size) else
    (if bytes_eq w (codes "broadcast_hub") then made (λ r. k.BroadcastHub r.0 r.1) (then_read (size ws) size) else fan_in_kind w ws)

-- the chain behind `each`
abbrev pub each_chain : List (List ℕ) → Reading (List ℕ)
each_chain ws = behind_word (codes "each") name ws

-- a predicate, a chain, and how its substreams come together
abbrev pub split_of : List (List ℕ) → Reading (Pred × (List ℕ × Joining))
split_of ws = then_read (pred_of ws) (λ vs. then_read (each_chain vs) (one_of joining_named))

-- the key, and the chain of each
abbrev pub key_of : List (List ℕ) → Reading (MapFn × List ℕ)
key_of ws = then_read (map_of ws) each_chain

-- how many keys, the key, and the chain of each
abbrev pub keys_of : List (List ℕ) → Reading (ℕ × (MapFn × List ℕ))
keys_of ws = then_read (size ws) key_of

-- the same, and `merge`
abbrev pub group_of : List (List ℕ) → Reading Kind
group_of ws = made (λ r. k.GroupBy r.0 r.1.0 r.1.1) (before_word (codes "merge") (keys_of ws))

-- stages that run a chain for each substream
abbrev pub substream_kind : List ℕ → List (List ℕ) → Reading Kind
substream_kind w ws =
    if bytes_eq w (codes "group_by") then group_of ws else
    (if bytes_eq w (codes "split_when") then made (λ r. k.SplitWhen r.0 r.1.0 r.1.1) (split_of ws) else
    (if bytes_eq w (codes "split_after") then made (λ r. k.SplitAfter r.0 r.1.0 r.1.1) (split_of ws) else hub_kind w ws))

-- the element that a failure becomes
abbrev pub recover_of : List (List ℕ) → Reading Kind
recover_of [] = None
recover_of (w ∷ ws) =
    if bytes_eq w (codes "num") then made k.RecoverNum (int ws) else
    (if bytes_eq w (codes "text") then made k.RecoverText (word ws) else None)

-- the order that a trip gives its switch, and at which element
abbrev pub order_of : At (List ℕ) → List (List ℕ) → Reading Kind
order_of switch [] = None
order_of switch (w ∷ ws) =
    if bytes_eq w (codes "shutdown") then made (λ r. k.TripShutdown r.0 r.1) (with_second switch (size ws)) else
    (if bytes_eq w (codes "abort") then made (λ r. k.TripAbort r.0 r.1) (with_second switch (size ws)) else None)

-- a trip's switch, and its order
abbrev pub trip_of : Reading (List ℕ) → Reading Kind
trip_of None = None
trip_of (Some r) = order_of r.0 r.1

-- the kinds of stages: those of the edges, and the others
abbrev pub stage_kind : List ℕ → List (List ℕ) → Reading Kind
stage_kind w ws =
    if bytes_eq w (codes "buffer") then made (λ r. k.Buffer r.0 r.1) (then_read (size ws) (one_of policy_named)) else
    (if bytes_eq w (codes "recover") then recover_of ws else
    (if bytes_eq w (codes "valve") then made k.Valve (name ws) else
    (if bytes_eq w (codes "trip") then trip_of (name ws) else
    (if bytes_eq w (codes "plug") then made k.Plug (name ws) else
    (if bytes_eq w (codes "custom") then made k.Custom (name ws) else substream_kind w ws)))))

-- the first words of the kinds that version 1 does not have: those of hubs
abbrev pub is_later : Version → List ℕ → Bool
is_later First w = bytes_eq w (codes "merge_hub") || bytes_eq w (codes "broadcast_hub")
is_later Second w = false

-- a kind of stage in a text of that version
abbrev pub stage_in : Version → List ℕ → List (List ℕ) → Reading Kind
stage_in v w ws = if is_later v w then None else stage_kind w ws

-- the first words of the kinds that may have a decider
abbrev pub may_decide : List ℕ → Bool
may_decide w =
    bytes_eq w (codes "map") || bytes_eq w (codes "filter") || bytes_eq w (codes "filter_not")
    || bytes_eq w (codes "take_while") || bytes_eq w (codes "drop_while") || bytes_eq w (codes "map_concat")
    || bytes_eq w (codes "fold") || bytes_eq w (codes "scan") || bytes_eq w (codes "reduce")

-- what a stage does with an element for which its function has no value
abbrev pub decider_word : List ℕ → Option Decider
decider_word w =
    if bytes_eq w (codes "stop") then Some Stop else
    (if bytes_eq w (codes "resume") then Some Resume else
    (if bytes_eq w (codes "restart") then Some Restart else None))

-- a decider, behind its word
abbrev pub named_decider : List (List ℕ) → Reading Decider
named_decider ws = behind_word (codes "decider") (one_of decider_word) ws

-- a decider as it is kept: as it is written, but in version 1 `stop` says what no decider says
abbrev pub kept_decider : Version → Decider → Option Decider
kept_decider First Stop = None
kept_decider First Resume = Some Resume
kept_decider First Restart = Some Restart
kept_decider Second d = Some d

-- the decider behind a kind, where one is written; one is read only where the kind may have one
abbrev pub decider_of : Version → Bool → List (List ℕ) → Reading (Option Decider)
decider_of v may ws = if may && begins_with (codes "decider") ws then made (kept_decider v) (named_decider ws) else said None ws
