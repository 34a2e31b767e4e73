-- What a stage with one input and one output gives, as numbers of elements.
use Rattle.std.specs.Prelude.{ℕ, ◌+◌, Bool, true, false, List, [], length, Option, Some, None}
use Rattle.elem_core.specs.Tree.{Tree}
use Rattle.stream_model.specs.declared.kind.Kind.{Kind}
use Rattle.elem_core.specs.declared.why.Decider.{Decider}
use Rattle.stream_model.specs.Outlook.{ended}
use Rattle.stream_model.specs.Machine.{Machine, Run, run, close, is_going}
use Rattle.stream_model.specs.Linear.{Book, told_book, Work, linear, begin_work, grouping, expanding, folding, scanning, reducing, passing, plugged, Role, a_source, a_flow, a_fan_in, a_fan_out, works, trips, plugs_in, buffers, recovers, obeys, groups_by, splits_when, splits_after, customs, sinks, role_of, Side, at_source, at_stage, at_sink, side_by}
use Rattle.stream_model.specs.Substreams.{Opening, by_key, before, behind, through, substreams, begin_subs}
use Rattle.stream_model.specs.Graph.{Graph, steps_of}
use Rattle.stream_model.specs.Node.{World, chain_of}

-- how many elements it gives for a list, and for a list with its end; whether it goes on behind a list; whether it may give after its input was shut
pub record OneWay : Type 0 where
  pub given : List Tree → ℕ
  pub given_at_end : List Tree → ℕ
  pub goes_on : List Tree → Bool
  pub holds : Bool

-- what a machine gives, as numbers
abbrev pub of_machine : {S O : Type 0} → Machine S O → Run S O → Bool → OneWay
of_machine m start holds = record {
  given = λ l. length (run m start l).gave;
  given_at_end = λ l. length (close m (run m start l) ended).list;
  goes_on = λ l. is_going (run m start l).state;
  holds = holds;
}

-- one that gives what it takes, and so many more at the end
abbrev pub as_it_is : ℕ → Bool → OneWay
as_it_is n holds = record { given = λ l. length l; given_at_end = λ l. length l + n; goes_on = λ l. true; holds = holds }

-- a stage that may hold outputs behind the end of its input
abbrev pub holds_at_end : Work → Bool
holds_at_end (grouping n held) = true
holds_at_end (expanding x) = true
holds_at_end (folding o a) = true
holds_at_end (scanning o a) = true
holds_at_end (reducing r a) = true
holds_at_end (plugged name taken) = true
holds_at_end _ = false

-- by its side
abbrev ends_here : Side → Bool
ends_here at_source = false
ends_here at_stage = false
ends_here at_sink = true

-- the kinds that stand at a sink's side
abbrev pub is_sink : Kind → Bool
is_sink k = ends_here (side_by (role_of k))

-- by its work
abbrev of_work : Book → ℕ → Decider → Option Work → Option OneWay
of_work book node d None = None
of_work book node d (Some w) = Some (of_machine (linear book w) (begin_work node d w) (holds_at_end w))

-- by its substreams
abbrev of_subs : Graph → World → ℕ → Opening → List ℕ → Option OneWay
of_subs g w node o chain =
    let c = through w.book (chain_of node (steps_of chain g.chains)) in Some (of_machine (substreams c o) (begin_subs c node) true)

-- a custom stage that tells a list is a plug
abbrev pub custom_way : World → ℕ → List ℕ → Decider → Bool → Option OneWay
custom_way w node name d true = of_work (told_book w.book) node d (Some (plugged name []))
custom_way w node name d false = None

-- the same by its role: the stages with one input and one output, but for buffers; no sink, and no custom stage that tells no list
abbrev pub one_way_by : Graph → World → ℕ → Role → Decider → Option OneWay
one_way_by g w node (a_source source) d = None
one_way_by g w node (a_flow (works v)) d = of_work w.book node d (Some v)
one_way_by g w node (a_flow (trips order name n)) d = of_work w.book node d (Some passing)
one_way_by g w node (a_flow (plugs_in name)) d = of_work w.book node d (Some (plugged name []))
one_way_by g w node (a_flow (buffers n p)) d = None
one_way_by g w node (a_flow (recovers t)) d = Some (as_it_is 1 true)
one_way_by g w node (a_flow (obeys name)) d = Some (as_it_is 0 false)
one_way_by g w node (a_flow (groups_by n f chain)) d = of_subs g w node (by_key n f) chain
one_way_by g w node (a_flow (splits_when p chain j)) d = of_subs g w node (before p) chain
one_way_by g w node (a_flow (splits_after p chain j)) d = of_subs g w node (behind p) chain
one_way_by g w node (a_fan_in fan) d = None
one_way_by g w node (a_fan_out fan) d = None
one_way_by g w node (customs name) d = custom_way w node name d (w.book.tells name)
one_way_by g w node (sinks file keeps) d = None

-- what a node of this kind gives as numbers, where it is a stage with one input and one output and no buffer; none of a sink
abbrev pub one_way : Graph → World → ℕ → Kind → Decider → Option OneWay
one_way g w node k d = one_way_by g w node (role_of k) d
