-- What comes of a type at a stage, at a chain and at each kind of node.
use Rattle.std.specs.Prelude.{ℕ, nat_le, if◌then◌else◌, List, [], ◌∷◌, Option, Some, None}
use Rattle.std.specs.Option.{option_map}
use Rattle.elem_core.specs.Sort.{Sort, num_type, text_type, seq_type, pair_type, nesting, same_sort}
use Rattle.elem_core.specs.Values.{same_text}
use Rattle.stream_model.specs.declared.kind.Base.{Base}
use Rattle.stream_model.specs.declared.kind.Base.TheVariants as base
use Rattle.stream_model.specs.declared.kind.Kind.{Kind}
use Rattle.stream_model.specs.declared.kind.Kind.TheVariants.{Lines, Range, Empty, Failed, Map, Filter, FilterNot, TakeWhile, DropWhile, Take, Drop, Limit, Grouped, MapConcat, Fold, Scan, Reduce, Buffer, RecoverNum, RecoverText, Valve, TripShutdown, TripAbort, Plug, Custom, GroupBy, SplitWhen, SplitAfter, Merge, MergeHub, Concat, Interleave, MergeSorted, Zip, Broadcast, BroadcastHub, Balance, Partition, Unzip, ToLines, Head, Last, Ignore}
use Rattle.stream_model.specs.Linear.{Role, a_source, a_flow, a_fan_in, a_fan_out, reads_lines, gives_range, gives_nothing, gives_failure, works, trips, plugs_in, buffers, recovers, obeys, groups_by, splits_when, splits_after, broadcasts, balances, partitions, unzips, customs, sinks, role_of}
use Rattle.stream_model.specs.declared.blueprint.Step.{Step}
use Rattle.stream_model.specs.declared.blueprint.ChainDecl.{ChainDecl}
use Rattle.stream_model.specs.declared.head.PlugHead.{PlugHead}
use Rattle.stream_model.specs.Known.{HeadLists}
use Rattle.blue_names.specs.CustomPorts.{named, custom_named, custom_head, input_type, outputs_type}
use Rattle.blue_names.specs.declared.typed.TheConstants.{MAX_NESTING}
use Rattle.blue_names.specs.declared.typed.Typed.{Typed}
use Rattle.blue_names.specs.declared.typed.Typed.TheVariants.{Gives, Clashes, TooDeep}
use Rattle.blue_names.specs.declared.want.Want.{Want}
use Rattle.blue_names.specs.declared.want.Want.TheVariants.{Is, AnyPair}
use Rattle.blue_names.specs.FnTypes.{suits, map_want, map_fixed, map_gives, pred_want, expand_want, expand_fixed, expand_gives, fold_want, fold_fixed, fold_gives, reduce_want, reduce_fixed, reduce_gives}

-- a type that does not nest too deep
abbrev pub limited : Sort → Typed
limited t = if nat_le (nesting t) MAX_NESTING then Gives t else TooDeep

-- what follows where the type is wanted, and else a clash
abbrev pub clash_or : Option Want → Sort → Typed → Typed
clash_or None t r = r
clash_or (Some w) t r = if suits w t then r else Clashes t w

-- the plug of that name
abbrev pub plug_named : List ℕ → List PlugHead → Option PlugHead
plug_named name plugs = named (λ p. p.name) name plugs

-- the steps of a chain, none where there is none
abbrev pub steps_in : Option ChainDecl → List Step
steps_in None = []
steps_in (Some c) = c.steps.items

-- the steps of the chain of that name
abbrev pub chain_named : List ℕ → List ChainDecl → List Step
chain_named name chains = steps_in (named (λ c. c.name) name chains)

-- what a plug wants
abbrev pub plug_want : Option PlugHead → Option Want
plug_want (Some p) = Some (Is p.input)
plug_want None = None

-- the type that a plug gives; one that is not there gives what it takes
abbrev pub plug_gives : Option PlugHead → Sort → Sort
plug_gives (Some p) t = p.output
plug_gives None t = t

-- the type that a plug gives whatever it takes, where there is the plug
abbrev pub plug_fixed : Option PlugHead → Option Sort
plug_fixed (Some p) = Some p.output
plug_fixed None = None

-- the types of the sources that give none
abbrev pub base_type : Base → Sort
base_type base.Num = num_type
base_type base.Text = text_type

-- the type of a source
abbrev source_type_by : Role → Option Sort
source_type_by (a_source (reads_lines name)) = Some text_type
source_type_by (a_source (gives_range low high)) = Some num_type
source_type_by (a_source (gives_nothing b)) = Some (base_type b)
source_type_by (a_source (gives_failure b)) = Some (base_type b)
source_type_by (a_flow flow) = None
source_type_by (a_fan_in fan) = None
source_type_by (a_fan_out fan) = None
source_type_by (customs name) = None
source_type_by (sinks file keeps) = None

-- the type of a source; none of any other kind
abbrev pub source_type : Kind → Option Sort
source_type k = source_type_by (role_of k)

-- how a stage by its own function treats types: what it wants, what it gives whatever it takes, and what it gives for a type
-- that it takes; what a custom stage wants is said of its ports
pub record Typing : Type 0 where
  pub want : Option Want
  pub fixed : Option Sort
  pub gives : Sort → Sort

-- one that gives the type that it takes, and that wants this
abbrev wanting : Option Want → Typing
wanting w = record { want = w; fixed = None; gives = λ t. t }

module _ (heads : HeadLists) where
  -- each kind by its own function; a kind that has none takes every type and gives it
  abbrev pub typing_of : Kind → Typing
  typing_of (Lines file) = wanting None
  typing_of (Range low high) = wanting None
  typing_of (Empty b) = wanting None
  typing_of (Failed b) = wanting None
  typing_of (Map g) = record { want = map_want g; fixed = map_fixed g; gives = map_gives g }
  typing_of (Filter p) = wanting (Some (pred_want p))
  typing_of (FilterNot p) = wanting (Some (pred_want p))
  typing_of (TakeWhile p) = wanting (Some (pred_want p))
  typing_of (DropWhile p) = wanting (Some (pred_want p))
  typing_of (Take n) = wanting None
  typing_of (Drop n) = wanting None
  typing_of (Limit n) = wanting None
  typing_of (Grouped n) = record { want = None; fixed = None; gives = seq_type }
  typing_of (MapConcat x) = record { want = expand_want x; fixed = expand_fixed x; gives = expand_gives x }
  typing_of (Fold o) = record { want = fold_want o; fixed = fold_fixed o; gives = fold_gives o }
  typing_of (Scan o) = record { want = fold_want o; fixed = fold_fixed o; gives = fold_gives o }
  typing_of (Reduce r) = record { want = reduce_want r; fixed = reduce_fixed r; gives = reduce_gives r }
  typing_of (Buffer n p) = wanting None
  typing_of (RecoverNum k) = record { want = Some (Is num_type); fixed = Some num_type; gives = λ t. num_type }
  typing_of (RecoverText l) = record { want = Some (Is text_type); fixed = Some text_type; gives = λ t. text_type }
  typing_of (Valve name) = wanting None
  typing_of (TripShutdown name n) = wanting None
  typing_of (TripAbort name n) = wanting None
  typing_of (Plug name) = let p = plug_named name heads.plugs in record { want = plug_want p; fixed = plug_fixed p; gives = plug_gives p }
  typing_of (Custom name) = record { want = None; fixed = outputs_type (custom_named heads name); gives = λ t. t }
  typing_of (GroupBy n f name) = wanting None
  typing_of (SplitWhen p name j) = wanting None
  typing_of (SplitAfter p name j) = wanting None
  typing_of (Merge n) = wanting None
  typing_of (MergeHub s n) = wanting None
  typing_of (Concat n) = wanting None
  typing_of (Interleave n s) = wanting None
  typing_of MergeSorted = wanting None
  typing_of Zip = wanting None
  typing_of (Broadcast n) = wanting None
  typing_of (BroadcastHub s n) = wanting None
  typing_of (Balance n) = wanting None
  typing_of (Partition n f) = wanting None
  typing_of Unzip = wanting (Some AnyPair)
  typing_of (ToLines file) = wanting None
  typing_of (Head file) = wanting None
  typing_of (Last file) = wanting None
  typing_of Ignore = wanting None

  -- what the function of a stage wants
  abbrev pub stage_want : Kind → Option Want
  stage_want k = (typing_of k).want

  -- what a stage gives for a type that it takes
  abbrev pub stage_gives : Kind → Sort → Sort
  stage_gives k t = (typing_of k).gives t

  -- what a kind gives whatever it takes
  abbrev pub fixed_type : Kind → Option Sort
  fixed_type k = (typing_of k).fixed

  -- a stage by its own function
  abbrev pub step_typed : Kind → Sort → Typed
  step_typed k t = clash_or (stage_want k) t (limited (stage_gives k t))

  -- what comes of a type, where one is given, and else what was said instead
  abbrev pub and_then : Typed → (Sort → Typed) → Typed
  and_then (Gives t) g = g t
  and_then r g = r

  -- the steps of a chain one after another, up to the first that does not give
  abbrev pub chain_typed : List Step → Sort → Typed
  chain_typed [] t = Gives t
  chain_typed (s ∷ ss) t = and_then (step_typed s.kind t) (chain_typed ss)

  -- a chain's type, where the type of the key does not nest too deep
  abbrev pub keyed : Sort → Typed → Typed
  keyed key (Gives t) = if nat_le (nesting key) MAX_NESTING then Gives t else TooDeep
  keyed key r = r

  -- the part that a number names
  abbrev pub parted : Sort → Sort → Typed
  parted part t = if same_sort num_type part then Gives t else Clashes part (Is num_type)

  module _ (chains : List ChainDecl) where
    -- what comes of a type at a node of this role, where this comes of it by the node's own function
    abbrev pub typed_by : Role → Sort → Typed → Typed
    typed_by (a_source source) t alone = alone
    typed_by (a_flow (works w)) t alone = alone
    typed_by (a_flow (trips order name n)) t alone = alone
    typed_by (a_flow (plugs_in name)) t alone = alone
    typed_by (a_flow (buffers n p)) t alone = alone
    typed_by (a_flow (recovers tree)) t alone = alone
    typed_by (a_flow (obeys name)) t alone = alone
    typed_by (a_flow (groups_by n g name)) t alone = clash_or (map_want g) t (keyed (map_gives g t) (chain_typed (chain_named name chains) t))
    typed_by (a_flow (splits_when p name j)) t alone = clash_or (Some (pred_want p)) t (chain_typed (chain_named name chains) t)
    typed_by (a_flow (splits_after p name j)) t alone = clash_or (Some (pred_want p)) t (chain_typed (chain_named name chains) t)
    typed_by (a_fan_in fan) t alone = alone
    typed_by (a_fan_out (broadcasts n)) t alone = alone
    typed_by (a_fan_out (balances n)) t alone = alone
    typed_by (a_fan_out (partitions n g)) t alone = clash_or (map_want g) t (parted (map_gives g t) t)
    typed_by (a_fan_out unzips) t alone = alone
    typed_by (customs name) t alone = alone
    typed_by (sinks file keeps) t alone = alone

    -- what comes of a type at a node with one input; at a sink and at a fan the type as it is
    abbrev pub stage_typed : Kind → Sort → Typed
    stage_typed k t = typed_by (role_of k) t (step_typed k t)

    -- what comes of a type at this input of a node: a custom stage wants that of its head there
    abbrev pub port_typed : ℕ → Kind → Sort → Typed
    port_typed p k t = clash_or (option_map Is (input_type (custom_head heads k) p)) t (stage_typed k t)
