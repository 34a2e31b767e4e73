-- What a node leaves is known by its kind, whatever it has done since.
use Rattle.std.specs.Prelude.{is_some, slice_get}
use Rattle.std.proofs.Common.{◌≡◌, ◌≢◌, ◌⊎◌, inl, inr, ℕ, zero, suc, ◌+◌, Bool, true, false, List, [], ◌∷◌, Option, Some, None, refl, ap, sym, ◌∙◌, subst}
use Rattle.stream_model.specs.Graph as graph
use Rattle.elem_core.specs.declared.item.Item.{Item}
use Rattle.elem_core.specs.declared.why.Decider.{Decider}
use Rattle.port_core.specs.View.{View}
use Rattle.stream_io.specs.State.{SourceState, DrainState}
use Rattle.stream_model.specs.declared.kind.Kind.{Kind}
use Rattle.stream_model.specs.declared.kind.Kind.TheVariants as kind
use Rattle.stream_model.specs.declared.kind.Joining.{Joining}
use Rattle.stream_model.specs.declared.kind.Joining.TheVariants as joining
use Rattle.stream_model.specs.declared.kind.Policy.{Policy}
use Rattle.stream_model.specs.declared.kind.Policy.TheVariants.{Backpressure, DropHead, DropTail, DropBuffer, DropNew, Fail}
use Rattle.stream_model.specs.OneWay.{is_sink}
use Rattle.stage_linear.specs.States.{IsLinear}
use Rattle.stage_dropping.specs.Droppings.{Dropping}
use Rattle.stage_dropping.specs.Recoverings.{Recover}
use Rattle.stage_state.specs.States.{IsMachine}
use Rattle.stage_state.specs.declared.logic.StateLogic.{StateLogic}
use Rattle.stage_state.specs.declared.logic.StateLogic.TheVariants as state
use Rattle.stage_state.specs.Handling.{StateLaw}
use Rattle.stage_state.specs.Logics.{IsStateful}
use Rattle.stage_state.specs.Moves.{state_picks, state_seat}
use Rattle.stage_sub.specs.States as subs
use Rattle.stage_sub.specs.Handling.{IsSub, ChoosesAs, new_log, sub_picks}
use Rattle.stage_sub.specs.Handling as sub
use Rattle.line_chain.specs.Line.{Line}
use Rattle.stage_switch.specs.States.{Valve, Trip}
use Rattle.stage_in.specs.declared.logic.InLogic.{InLogic}
use Rattle.stage_in.specs.declared.logic.InLogic.TheVariants.{Taking, Sorting, Zipping, Merging}
use Rattle.stage_in.specs.Logics.{IsFanIn, TakesAs, SameKind}
use Rattle.stage_in.specs.Moves.{in_picks}
use Rattle.stage_out.specs.Balancings.{Balancing}
use Rattle.stage_out.specs.declared.logic.OutLogic.{OutLogic}
use Rattle.stage_out.specs.declared.logic.OutLogic.TheVariants.{Machines, Balances}
use Rattle.stage_out.specs.Machines.{IsMachines}
use Rattle.stage_out.specs.OutLogics.{BeginsBalance, IsOut, OutLaw}
use Rattle.stage_out.specs.OutLogics as fan_out
use Rattle.stage_out.specs.Moves.{out_picks}
use Rattle.graph_stage.specs.State.{CustomState}
use Rattle.nodes.specs.Ignoring.{Ignorer}
use Rattle.nodes.specs.Kinds.{IsMaker, maker_of, IsFileSink}
use Rattle.nodes.specs.Keeping.{KeepsDrain, KeepsEnd}
use Rattle.nodes.specs.Sink.{Sink}
use Rattle.nodes.specs.Source.{Lines}
use Rattle.nodes.specs.Nodes.{node_law, node_picks, node_seat, node_end, KeepsNode}
use Rattle.nodes.specs.declared.node.IslandNode.{IslandNode}
use Rattle.nodes.specs.declared.node.IslandNode.TheVariants as node
use Rattle.nodes.specs.declared.node.NodeEnd.{NodeEnd}
use Rattle.nodes.specs.declared.node.NodeEnd.TheVariants.{Read, Staged, Wrote}
use Rattle.interpreter.specs.Parts.{Becomes, BecomesOf}
use Rattle.interpreter.specs.declared.parts.Seated.{Seated}
use Rattle.interpreter.specs.declared.parts.Work.{Work}
use Rattle.interpreter.specs.declared.parts.Work.TheVariants as work
use Rattle.run_laws.specs.Made.{LedAs}
use Rattle.run_laws.proofs.States.{led_machine}
use Rattle.stream_model.specs.declared.blueprint.Node as blue
use Rattle.blue_names.specs.Picks.{picks, is_merged}
use Rattle.materializer.specs.Board.{switch_of}
use Rattle.materializer.specs.Graphs.{Around}
use Rattle.materializer.specs.Files.{source_file, output_of}
use Rattle.materializer.specs.Seats.{IsWork, AreSeats}
use Rattle.materializer.proofs.Placing.{reads_lines}
use Rattle.island_parts.specs.Ends.{leaves_something, sink_of, reader_of, writer_of, is_lane_end}
use Rattle.stream_model.specs.Linear.{Book}

-- a node leaves a handle where another does
pub record HandlesAs {S D L H B : Type 0} (x y : IslandNode S D L H B) : Type 0 where
  pub readers : leaves_something (reader_of y) ≡ leaves_something (reader_of x)
  pub writers : leaves_something (writer_of y) ≡ leaves_something (writer_of x)

-- and so of all that it leaves
pub record LeavesAs {S D L H B : Type 0} (x y : IslandNode S D L H B) : Type 0 where
  pub sinks : leaves_something (sink_of y) ≡ leaves_something (sink_of x)
  pub picks : leaves_something (node_picks y) ≡ leaves_something (node_picks x)
  pub seats : leaves_something (node_seat y) ≡ leaves_something (node_seat x)
  pub handles : HandlesAs x y
  pub ends : is_lane_end y ≡ is_lane_end x

-- it leaves a handle where its kind has a file
pub record HandlesBy {S D L H B : Type 0} (shape : Kind) (x : IslandNode S D L H B) : Type 0 where
  pub readers : leaves_something (reader_of x) ≡ is_some (source_file shape)
  pub writers : leaves_something (writer_of x) ≡ is_some (output_of shape)

-- and all that its kind says
pub record LeavesBy {S D L H B : Type 0} (shape : Kind) (x : IslandNode S D L H B) : Type 0 where
  pub sinks : leaves_something (sink_of x) ≡ is_sink shape
  pub picks : leaves_something (node_picks x) ≡ picks shape
  pub seats : leaves_something (node_seat x) ≡ is_some (switch_of shape)
  pub handles : HandlesBy shape x

pub handles_on : {S D L H B : Type 0} (shape : Kind) (x y : IslandNode S D L H B) → HandlesBy shape x → HandlesAs x y → HandlesBy shape y
handles_on shape x y b s = record { readers = s.readers ∙ b.readers; writers = s.writers ∙ b.writers }

pub leaves_on : {S D L H B : Type 0} (shape : Kind) (x y : IslandNode S D L H B) → LeavesBy shape x → LeavesAs x y → LeavesBy shape y
leaves_on shape x y b s = record { sinks = s.sinks ∙ b.sinks; picks = s.picks ∙ b.picks; seats = s.seats ∙ b.seats; handles = handles_on shape x y b.handles s.handles }

pub handles_both : {S D L H B : Type 0} (x y z : IslandNode S D L H B) → HandlesAs x y → HandlesAs y z → HandlesAs x z
handles_both x y z a b = record { readers = b.readers ∙ a.readers; writers = b.writers ∙ a.writers }

-- it leaves nothing
pub record IsBare {S D L H B : Type 0} (x : IslandNode S D L H B) : Type 0 where
  pub sinks : sink_of x ≡ None
  pub picks : node_picks x ≡ None
  pub seats : node_seat x ≡ None
  pub readers : reader_of x ≡ None
  pub writers : writer_of x ≡ None

pub lane_bare : {S D L H B : Type 0} (x : IslandNode S D L H B) → is_lane_end x ≡ true → IsBare x
lane_bare (node.Entering x) e = record { sinks = refl; picks = refl; seats = refl; readers = refl; writers = refl }
lane_bare (node.Leaving x) e = record { sinks = refl; picks = refl; seats = refl; readers = refl; writers = refl }
lane_bare _ e = absurd cc

-- ---- what a node's law keeps

state_stays : (f x : StateLogic) (v : View) (took gave : List (List Item)) → StateLaw f x v took gave → leaves_something (state_picks x) ≡ leaves_something (state_picks f)
state_stays (state.Machine f) (state.Machine x) v took gave law = refl
state_stays (state.Dropping f) (state.Dropping x) v took gave law = refl
state_stays (state.Recovering f) (state.Recovering x) v took gave law = refl
state_stays (state.Obeying f) (state.Obeying x) v took gave law = refl
state_stays (state.Tripping f) (state.Tripping x) v took gave law = refl
state_stays f x v took gave law = absurd law

state_seated : (f x : StateLogic) (v : View) (took gave : List (List Item)) → StateLaw f x v took gave → leaves_something (state_seat x) ≡ leaves_something (state_seat f)
state_seated (state.Machine f) (state.Machine x) v took gave law = refl
state_seated (state.Dropping f) (state.Dropping x) v took gave law = refl
state_seated (state.Recovering f) (state.Recovering x) v took gave law = refl
state_seated (state.Obeying f) (state.Obeying x) v took gave law = refl
state_seated (state.Tripping f) (state.Tripping x) v took gave law = refl
state_seated f x v took gave law = absurd law

sub_stays : (f x : Option (List ℕ)) → ChoosesAs f x → leaves_something x ≡ leaves_something f
sub_stays None None c = refl
sub_stays (Some ms) (Some ns) c = refl
sub_stays f x c = absurd c

in_stays : (f x : InLogic) → SameKind f x → leaves_something (in_picks x) ≡ leaves_something (in_picks f)
in_stays (Taking f) (Taking x) law = refl
in_stays (Sorting f) (Sorting x) law = refl
in_stays (Zipping f) (Zipping x) law = refl
in_stays (Merging f) (Merging x) law = refl
in_stays f x law = absurd law

out_stays : (f x : OutLogic) (v : View) (took gave : List (List Item)) → OutLaw f x v took gave → leaves_something (out_picks x) ≡ leaves_something (out_picks f)
out_stays (Machines f) (Machines x) v took gave law = refl
out_stays (Balances f) (Balances x) v took gave law = refl
out_stays f x v took gave law = absurd law

module _ {S D L H B : Type 0} (sources : S → SourceState) (drains : D → DrainState) (book : Book) where
  -- a node stays of its kind
  pub law_stays : (f x : IslandNode S D L H B) (v : View) (took gave : List (List Item)) → node_law sources drains book f x v took gave → LeavesAs f x
  law_stays (node.Reading f) (node.Reading x) v took gave law = record { sinks = refl; picks = refl; seats = refl; handles = record { readers = refl; writers = refl }; ends = refl }
  law_stays (node.Making f) (node.Making x) v took gave law = record { sinks = refl; picks = refl; seats = refl; handles = record { readers = refl; writers = refl }; ends = refl }
  law_stays (node.Linear f) (node.Linear x) v took gave law = record { sinks = refl; picks = refl; seats = refl; handles = record { readers = refl; writers = refl }; ends = refl }
  law_stays (node.State f) (node.State x) v took gave law = record { sinks = refl; picks = state_stays f x v took gave law; seats = state_seated f x v took gave law; handles = record { readers = refl; writers = refl }; ends = refl }
  law_stays (node.Sub f) (node.Sub x) v took gave law = record { sinks = refl; picks = sub_stays f.logic.moves x.logic.moves law.chooses; seats = refl; handles = record { readers = refl; writers = refl }; ends = refl }
  law_stays (node.FanIn f) (node.FanIn x) v took gave law = record { sinks = refl; picks = in_stays f x law.same; seats = refl; handles = record { readers = refl; writers = refl }; ends = refl }
  law_stays (node.FanOut f) (node.FanOut x) v took gave law = record { sinks = refl; picks = out_stays f x v took gave law; seats = refl; handles = record { readers = refl; writers = refl }; ends = refl }
  law_stays (node.Custom f) (node.Custom x) v took gave law = record { sinks = refl; picks = refl; seats = refl; handles = record { readers = refl; writers = refl }; ends = refl }
  law_stays (node.Writing f) (node.Writing x) v took gave law = record { sinks = refl; picks = refl; seats = refl; handles = record { readers = refl; writers = refl }; ends = refl }
  law_stays (node.Ignoring f) (node.Ignoring x) v took gave law = record { sinks = refl; picks = refl; seats = refl; handles = record { readers = refl; writers = refl }; ends = refl }
  law_stays (node.Entering f) (node.Entering x) v took gave law = record { sinks = refl; picks = refl; seats = refl; handles = record { readers = refl; writers = refl }; ends = refl }
  law_stays (node.Leaving f) (node.Leaving x) v took gave law = record { sinks = refl; picks = refl; seats = refl; handles = record { readers = refl; writers = refl }; ends = refl }
  law_stays f x v took gave law = absurd law

-- ---- what outlives want of memory

-- whether a source, or a drain, is left
abbrev reads_in : {S D : Type 0} → NodeEnd S D → Bool
reads_in (Read s) = true
reads_in Staged = false
reads_in (Wrote e) = false

abbrev writes_in : {S D : Type 0} → NodeEnd S D → Bool
writes_in (Read s) = false
writes_in Staged = false
writes_in (Wrote e) = is_some e.drain

module _ {S D L H B : Type 0} where
  reader_end : (x : IslandNode S D L H B) → leaves_something (reader_of x) ≡ reads_in (node_end x)
  reader_end (node.Reading x) = refl
  reader_end (node.Making x) = refl
  reader_end (node.Linear x) = refl
  reader_end (node.State x) = refl
  reader_end (node.Sub x) = refl
  reader_end (node.FanIn x) = refl
  reader_end (node.FanOut x) = refl
  reader_end (node.Custom x) = refl
  reader_end (node.Writing x) = refl
  reader_end (node.Ignoring x) = refl
  reader_end (node.Entering x) = refl
  reader_end (node.Leaving x) = refl

  writer_end : (x : IslandNode S D L H B) → leaves_something (writer_of x) ≡ writes_in (node_end x)
  writer_end (node.Reading x) = refl
  writer_end (node.Making x) = refl
  writer_end (node.Linear x) = refl
  writer_end (node.State x) = refl
  writer_end (node.Sub x) = refl
  writer_end (node.FanIn x) = refl
  writer_end (node.FanOut x) = refl
  writer_end (node.Custom x) = refl
  writer_end (node.Writing x) = refl
  writer_end (node.Ignoring x) = refl
  writer_end (node.Entering x) = refl
  writer_end (node.Leaving x) = refl

module _ {S D : Type 0} (sources : S → SourceState) (drains : D → DrainState) where
  drain_kept : (o p : Option D) → KeepsDrain sources drains o p → is_some p ≡ is_some o
  drain_kept None None k = refl
  drain_kept (Some d) (Some e) k = refl
  drain_kept None (Some e) k = absurd k
  drain_kept (Some d) None k = absurd k

  end_reads : (e f : NodeEnd S D) → KeepsEnd sources drains e f → reads_in f ≡ reads_in e
  end_reads (Read s) (Read t) k = refl
  end_reads Staged Staged k = refl
  end_reads (Wrote x) (Wrote y) k = refl
  end_reads e f k = absurd k

  end_writes : (e f : NodeEnd S D) → KeepsEnd sources drains e f → writes_in f ≡ writes_in e
  end_writes (Read s) (Read t) k = refl
  end_writes Staged Staged k = refl
  end_writes (Wrote x) (Wrote y) k = drain_kept x.drain y.drain k
  end_writes e f k = absurd k

module _ {S D L H B : Type 0} (sources : S → SourceState) (drains : D → DrainState) where
  -- the handles of a node outlive it
  pub kept_stays : (x y : IslandNode S D L H B) → (y ≡ x) ⊎ KeepsNode sources drains x y → HandlesAs x y
  kept_stays x y (inl e) = record { readers = ap (λ (z : IslandNode S D L H B). leaves_something (reader_of z)) e; writers = ap (λ (z : IslandNode S D L H B). leaves_something (writer_of z)) e }
  kept_stays x y (inr k) = record {
    readers = reader_end y ∙ (end_reads sources drains (node_end x) (node_end y) k.ends ∙ sym (reader_end x));
    writers = writer_end y ∙ (end_writes sources drains (node_end x) (node_end y) k.ends ∙ sym (writer_end x));
  }

-- ---- kinds

-- a kind that is no sink and has no file
record IsPlain (shape : Kind) : Type 0 where
  sinks : is_sink shape ≡ false
  reads : is_some (source_file shape) ≡ false
  writes : is_some (output_of shape) ≡ false

maker_plain : (shape : Kind) → IsMaker shape → IsPlain shape × (picks shape ≡ false)
maker_plain (kind.Range low high) h = (record { sinks = refl; reads = refl; writes = refl }, refl)
maker_plain (kind.Empty b) h = (record { sinks = refl; reads = refl; writes = refl }, refl)
maker_plain (kind.Failed b) h = (record { sinks = refl; reads = refl; writes = refl }, refl)
maker_plain _ h = absurd h

linear_plain : (shape : Kind) → IsLinear shape → IsPlain shape × (picks shape ≡ false)
linear_plain (kind.Map f) h = (record { sinks = refl; reads = refl; writes = refl }, refl)
linear_plain (kind.Filter p) h = (record { sinks = refl; reads = refl; writes = refl }, refl)
linear_plain (kind.FilterNot p) h = (record { sinks = refl; reads = refl; writes = refl }, refl)
linear_plain (kind.Take n) h = (record { sinks = refl; reads = refl; writes = refl }, refl)
linear_plain (kind.TakeWhile p) h = (record { sinks = refl; reads = refl; writes = refl }, refl)
linear_plain (kind.Drop n) h = (record { sinks = refl; reads = refl; writes = refl }, refl)
linear_plain (kind.DropWhile p) h = (record { sinks = refl; reads = refl; writes = refl }, refl)
linear_plain (kind.Limit n) h = (record { sinks = refl; reads = refl; writes = refl }, refl)
linear_plain (kind.MapConcat x) h = (record { sinks = refl; reads = refl; writes = refl }, refl)
linear_plain (kind.Plug name) h = (record { sinks = refl; reads = refl; writes = refl }, refl)
linear_plain _ h = absurd h

state_plain : (shape : Kind) → IsStateful shape → IsPlain shape
state_plain (kind.Grouped n) h = record { sinks = refl; reads = refl; writes = refl }
state_plain (kind.Fold o) h = record { sinks = refl; reads = refl; writes = refl }
state_plain (kind.Reduce r) h = record { sinks = refl; reads = refl; writes = refl }
state_plain (kind.Scan o) h = record { sinks = refl; reads = refl; writes = refl }
state_plain (kind.Buffer n p) h = record { sinks = refl; reads = refl; writes = refl }
state_plain (kind.RecoverNum z) h = record { sinks = refl; reads = refl; writes = refl }
state_plain (kind.RecoverText l) h = record { sinks = refl; reads = refl; writes = refl }
state_plain (kind.Valve name) h = record { sinks = refl; reads = refl; writes = refl }
state_plain (kind.TripShutdown name n) h = record { sinks = refl; reads = refl; writes = refl }
state_plain (kind.TripAbort name n) h = record { sinks = refl; reads = refl; writes = refl }
state_plain _ h = absurd h

sub_plain : (shape : Kind) → IsSub shape → IsPlain shape
sub_plain (kind.GroupBy n f name) h = record { sinks = refl; reads = refl; writes = refl }
sub_plain (kind.SplitWhen p name j) h = record { sinks = refl; reads = refl; writes = refl }
sub_plain (kind.SplitAfter p name j) h = record { sinks = refl; reads = refl; writes = refl }
sub_plain _ h = absurd h

fan_in_plain : (shape : Kind) → IsFanIn shape → IsPlain shape
fan_in_plain (kind.Concat n) h = record { sinks = refl; reads = refl; writes = refl }
fan_in_plain (kind.Interleave n s) h = record { sinks = refl; reads = refl; writes = refl }
fan_in_plain kind.MergeSorted h = record { sinks = refl; reads = refl; writes = refl }
fan_in_plain kind.Zip h = record { sinks = refl; reads = refl; writes = refl }
fan_in_plain (kind.Merge n) h = record { sinks = refl; reads = refl; writes = refl }
fan_in_plain (kind.MergeHub m n) h = record { sinks = refl; reads = refl; writes = refl }
fan_in_plain _ h = absurd h

fan_out_plain : (shape : Kind) → IsOut shape → IsPlain shape
fan_out_plain (kind.Broadcast n) h = record { sinks = refl; reads = refl; writes = refl }
fan_out_plain (kind.BroadcastHub m n) h = record { sinks = refl; reads = refl; writes = refl }
fan_out_plain (kind.Partition n f) h = record { sinks = refl; reads = refl; writes = refl }
fan_out_plain kind.Unzip h = record { sinks = refl; reads = refl; writes = refl }
fan_out_plain (kind.Balance n) h = record { sinks = refl; reads = refl; writes = refl }
fan_out_plain _ h = absurd h

-- a sink with a file
record IsFiled (shape : Kind) : Type 0 where
  sinks : is_sink shape ≡ true
  picked : picks shape ≡ false
  shut : is_some (switch_of shape) ≡ false
  reads : is_some (source_file shape) ≡ false
  writes : is_some (output_of shape) ≡ true

file_sink : (shape : Kind) → IsFileSink shape → IsFiled shape
file_sink (kind.ToLines name) h = record { sinks = refl; picked = refl; shut = refl; reads = refl; writes = refl }
file_sink (kind.Head name) h = record { sinks = refl; picked = refl; shut = refl; reads = refl; writes = refl }
file_sink (kind.Last name) h = record { sinks = refl; picked = refl; shut = refl; reads = refl; writes = refl }
file_sink _ h = absurd h

-- ---- which stages choose, as they begin

machine_free : (shape : Kind) → IsMachine shape → picks shape ≡ false
machine_free (kind.Grouped n) h = refl
machine_free (kind.Fold o) h = refl
machine_free (kind.Reduce r) h = refl
machine_free (kind.Scan o) h = refl
machine_free (kind.Buffer n Backpressure) h = refl
machine_free _ h = absurd h

-- a buffer chooses where it drops
drop_picks : (n : ℕ) (p : Policy) → p ≢ Backpressure → picks (kind.Buffer n p) ≡ true
drop_picks n Backpressure drops = absurd (drops refl)
drop_picks n DropHead drops = refl
drop_picks n DropTail drops = refl
drop_picks n DropBuffer drops = refl
drop_picks n DropNew drops = refl
drop_picks n Fail drops = refl

drop_chooses : (k : ℕ) (shape : Kind) (d : Decider) (f : Dropping) → LedAs shape k d (state.Dropping f) → picks shape ≡ true
drop_chooses k (kind.Buffer n p) d f b = drop_picks n p b.0
drop_chooses k shape d f b = absurd b

recover_chooses : (k : ℕ) (shape : Kind) (d : Decider) (f : Recover) → LedAs shape k d (state.Recovering f) → picks shape ≡ true
recover_chooses k (kind.RecoverNum z) d f b = refl
recover_chooses k (kind.RecoverText l) d f b = refl
recover_chooses k shape d f b = absurd b

valve_chooses : (k : ℕ) (shape : Kind) (d : Decider) (f : Valve) → LedAs shape k d (state.Obeying f) → picks shape ≡ true
valve_chooses k (kind.Valve name) d f b = refl
valve_chooses k shape d f b = absurd b

trip_free : (k : ℕ) (shape : Kind) (d : Decider) (f : Trip) → LedAs shape k d (state.Tripping f) → picks shape ≡ false
trip_free k (kind.TripShutdown name n) d f b = refl
trip_free k (kind.TripAbort name n) d f b = refl
trip_free k shape d f b = absurd b

state_chooses : (k : ℕ) (shape : Kind) (d : Decider) (f : StateLogic) → LedAs shape k d f → leaves_something (state_picks f) ≡ picks shape
state_chooses k shape d (state.Machine f) b = sym (machine_free shape (led_machine shape k d f b).0)
state_chooses k shape d (state.Dropping f) b = sym (drop_chooses k shape d f b)
state_chooses k shape d (state.Recovering f) b = sym (recover_chooses k shape d f b)
state_chooses k shape d (state.Obeying f) b = sym (valve_chooses k shape d f b)
state_chooses k shape d (state.Tripping f) b = sym (trip_free k shape d f b)

-- substreams choose where their outputs come together as they are
join_chooses : (j : Joining) → leaves_something (new_log j) ≡ is_merged j
join_chooses joining.Merge = refl
join_chooses joining.Concat = refl

sub_chooses : (k : ℕ) (shape : Kind) (chain : Line) (f : subs.Logic Line) → sub.BeginsAs shape k chain f → leaves_something (sub_picks f) ≡ picks shape
sub_chooses k (kind.GroupBy n g name) chain f b = ap (λ (x : subs.Logic Line). leaves_something x.moves) b
sub_chooses k (kind.SplitWhen p name j) chain f b = ap (λ (x : subs.Logic Line). leaves_something x.moves) b ∙ join_chooses j
sub_chooses k (kind.SplitAfter p name j) chain f b = ap (λ (x : subs.Logic Line). leaves_something x.moves) b ∙ join_chooses j
sub_chooses k shape chain f b = absurd b

fan_in_chooses : (shape : Kind) (f : InLogic) → TakesAs shape f → leaves_something (in_picks f) ≡ picks shape
fan_in_chooses (kind.Concat n) (Taking f) t = refl
fan_in_chooses (kind.Interleave n m) (Taking f) t = refl
fan_in_chooses kind.MergeSorted (Sorting f) t = refl
fan_in_chooses kind.Zip (Zipping f) t = refl
fan_in_chooses (kind.Merge n) (Merging f) t = refl
fan_in_chooses (kind.MergeHub m n) (Merging f) t = refl
fan_in_chooses shape f t = absurd t

copies_free : (shape : Kind) → IsMachines shape → picks shape ≡ false
copies_free (kind.Broadcast n) h = refl
copies_free (kind.BroadcastHub m n) h = refl
copies_free (kind.Partition n f) h = refl
copies_free kind.Unzip h = refl
copies_free _ h = absurd h

balance_chooses : (shape : Kind) (f : Balancing) → BeginsBalance shape f → picks shape ≡ true
balance_chooses (kind.Balance n) f b = refl
balance_chooses shape f b = absurd b

fan_out_chooses : (k : ℕ) (shape : Kind) (f : OutLogic) → fan_out.BeginsAs k shape f → leaves_something (out_picks f) ≡ picks shape
fan_out_chooses k shape (Machines f) b = sym (copies_free shape b.0)
fan_out_chooses k shape (Balances f) b = sym (balance_chooses shape f b)

-- ---- which stages have a seat, as they begin

maker_unseated : (shape : Kind) → IsMaker shape → is_some (switch_of shape) ≡ false
maker_unseated (kind.Range low high) h = refl
maker_unseated (kind.Empty b) h = refl
maker_unseated (kind.Failed b) h = refl
maker_unseated _ h = absurd h

linear_unseated : (shape : Kind) → IsLinear shape → is_some (switch_of shape) ≡ false
linear_unseated (kind.Map f) h = refl
linear_unseated (kind.Filter p) h = refl
linear_unseated (kind.FilterNot p) h = refl
linear_unseated (kind.Take n) h = refl
linear_unseated (kind.TakeWhile p) h = refl
linear_unseated (kind.Drop n) h = refl
linear_unseated (kind.DropWhile p) h = refl
linear_unseated (kind.Limit n) h = refl
linear_unseated (kind.MapConcat x) h = refl
linear_unseated (kind.Plug name) h = refl
linear_unseated _ h = absurd h

machine_unseated : (shape : Kind) → IsMachine shape → is_some (switch_of shape) ≡ false
machine_unseated (kind.Grouped n) h = refl
machine_unseated (kind.Fold o) h = refl
machine_unseated (kind.Reduce r) h = refl
machine_unseated (kind.Scan o) h = refl
machine_unseated (kind.Buffer n p) h = refl
machine_unseated _ h = absurd h

sub_unseated : (shape : Kind) → IsSub shape → is_some (switch_of shape) ≡ false
sub_unseated (kind.GroupBy n f name) h = refl
sub_unseated (kind.SplitWhen p name j) h = refl
sub_unseated (kind.SplitAfter p name j) h = refl
sub_unseated _ h = absurd h

fan_in_unseated : (shape : Kind) → IsFanIn shape → is_some (switch_of shape) ≡ false
fan_in_unseated (kind.Concat n) h = refl
fan_in_unseated (kind.Interleave n s) h = refl
fan_in_unseated kind.MergeSorted h = refl
fan_in_unseated kind.Zip h = refl
fan_in_unseated (kind.Merge n) h = refl
fan_in_unseated (kind.MergeHub m n) h = refl
fan_in_unseated _ h = absurd h

fan_out_unseated : (shape : Kind) → IsOut shape → is_some (switch_of shape) ≡ false
fan_out_unseated (kind.Broadcast n) h = refl
fan_out_unseated (kind.BroadcastHub m n) h = refl
fan_out_unseated (kind.Partition n f) h = refl
fan_out_unseated kind.Unzip h = refl
fan_out_unseated (kind.Balance n) h = refl
fan_out_unseated _ h = absurd h

drop_unseated : (k : ℕ) (shape : Kind) (d : Decider) (f : Dropping) → LedAs shape k d (state.Dropping f) → is_some (switch_of shape) ≡ false
drop_unseated k (kind.Buffer n p) d f b = refl
drop_unseated k shape d f b = absurd b

recover_unseated : (k : ℕ) (shape : Kind) (d : Decider) (f : Recover) → LedAs shape k d (state.Recovering f) → is_some (switch_of shape) ≡ false
recover_unseated k (kind.RecoverNum z) d f b = refl
recover_unseated k (kind.RecoverText l) d f b = refl
recover_unseated k shape d f b = absurd b

valve_seated : (k : ℕ) (shape : Kind) (d : Decider) (f : Valve) → LedAs shape k d (state.Obeying f) → is_some (switch_of shape) ≡ true
valve_seated k (kind.Valve name) d f b = refl
valve_seated k shape d f b = absurd b

trip_seated : (k : ℕ) (shape : Kind) (d : Decider) (f : Trip) → LedAs shape k d (state.Tripping f) → is_some (switch_of shape) ≡ true
trip_seated k (kind.TripShutdown name n) d f b = refl
trip_seated k (kind.TripAbort name n) d f b = refl
trip_seated k shape d f b = absurd b

state_seats : (k : ℕ) (shape : Kind) (d : Decider) (f : StateLogic) → LedAs shape k d f → leaves_something (state_seat f) ≡ is_some (switch_of shape)
state_seats k shape d (state.Machine f) b = sym (machine_unseated shape (led_machine shape k d f b).0)
state_seats k shape d (state.Dropping f) b = sym (drop_unseated k shape d f b)
state_seats k shape d (state.Recovering f) b = sym (recover_unseated k shape d f b)
state_seats k shape d (state.Obeying f) b = sym (valve_seated k shape d f b)
state_seats k shape d (state.Tripping f) b = sym (trip_seated k shape d f b)

-- ---- a node as it begins

module _ {S D L H B : Type 0} where
  inner : (shape : Kind) (x : IslandNode S D L H B) → leaves_something (sink_of x) ≡ false → leaves_something (reader_of x) ≡ false → leaves_something (writer_of x) ≡ false → leaves_something (node_picks x) ≡ picks shape → leaves_something (node_seat x) ≡ is_some (switch_of shape) → IsPlain shape → LeavesBy shape x
  inner shape x s r w p t is = record { sinks = s ∙ sym is.sinks; picks = p; seats = t; handles = record { readers = r ∙ sym is.reads; writers = w ∙ sym is.writes } }

  reading_leaves : (shape : Kind) (name : List ℕ) (y : Lines S) → shape ≡ kind.Lines name → LeavesBy {S = S} {D = D} {L = L} {H = H} {B = B} shape (node.Reading y)
  reading_leaves shape name y e = record {
    sinks = sym (ap is_sink e);
    picks = sym (ap picks e);
    seats = sym (ap (λ (t : Kind). is_some (switch_of t)) e);
    handles = record { readers = sym (ap (λ (t : Kind). is_some (source_file t)) e); writers = sym (ap (λ (t : Kind). is_some (output_of t)) e) };
  }

  custom_leaves : (shape : Kind) (name : List ℕ) (y : CustomState) → shape ≡ kind.Custom name → LeavesBy {S = S} {D = D} {L = L} {H = H} {B = B} shape (node.Custom y)
  custom_leaves shape name y e = record {
    sinks = sym (ap is_sink e);
    picks = sym (ap picks e);
    seats = sym (ap (λ (t : Kind). is_some (switch_of t)) e);
    handles = record { readers = sym (ap (λ (t : Kind). is_some (source_file t)) e); writers = sym (ap (λ (t : Kind). is_some (output_of t)) e) };
  }

  ignoring_leaves : (shape : Kind) (y : Ignorer) → shape ≡ kind.Ignore → LeavesBy {S = S} {D = D} {L = L} {H = H} {B = B} shape (node.Ignoring y)
  ignoring_leaves shape y e = record {
    sinks = sym (ap is_sink e);
    picks = sym (ap picks e);
    seats = sym (ap (λ (t : Kind). is_some (switch_of t)) e);
    handles = record { readers = sym (ap (λ (t : Kind). is_some (source_file t)) e); writers = sym (ap (λ (t : Kind). is_some (output_of t)) e) };
  }

  writing_leaves : (shape : Kind) (y : Sink D) → IsFileSink shape → LeavesBy {S = S} {D = D} {L = L} {H = H} {B = B} shape (node.Writing y)
  writing_leaves shape y is = let f = file_sink shape is in record { sinks = sym f.sinks; picks = sym f.picked; seats = sym f.shut; handles = record { readers = sym f.reads; writers = sym f.writes } }

  work_leaves : (around : Around) (k m room : ℕ) (n : blue.Node) (ss : List S) (ds : List D) (w : Work S D L H B) (x : IslandNode S D L H B) → IsWork around k n ss ds w → BecomesOf m room w x → LeavesBy n.kind x
  work_leaves around k m room n ss ds (work.Reading r) x is b = let l = reads_lines n.kind ss r.source is.source in subst (λ (y : IslandNode S D L H B). LeavesBy n.kind y) (sym b) (reading_leaves n.kind l.0 _ l.1)
  work_leaves around k m room n ss ds (work.Making shape) x is b = let p = maker_plain n.kind is.is_maker in subst (λ (y : IslandNode S D L H B). LeavesBy n.kind y) (sym b) (inner n.kind (node.Making (maker_of m shape)) refl refl refl (sym p.1) (sym (maker_unseated n.kind is.is_maker)) p.0)
  work_leaves around k m room n ss ds (work.Linear l) x is b = let p = linear_plain n.kind is.is_linear in subst (λ (y : IslandNode S D L H B). LeavesBy n.kind y) (sym b) (inner n.kind (node.Linear l) refl refl refl (sym p.1) (sym (linear_unseated n.kind is.is_linear)) p.0)
  work_leaves around k m room n ss ds (work.State l) x is b =
      subst (λ (y : IslandNode S D L H B). LeavesBy n.kind y) (sym b) (inner n.kind (node.State l) refl refl refl (state_chooses k n.kind n.decider l is.begins.as_kind) (state_seats k n.kind n.decider l is.begins.as_kind) (state_plain n.kind is.is_state))
  work_leaves around k m room n ss ds (work.Sub l) x is b =
      subst (λ (y : IslandNode S D L H B). LeavesBy n.kind y) (sym b) (inner n.kind (node.Sub l) refl refl refl (sub_chooses k n.kind l.logic.chain l.logic is.begins.as_kind) (sym (sub_unseated n.kind is.is_sub)) (sub_plain n.kind is.is_sub))
  work_leaves around k m room n ss ds (work.FanIn l inputs) x is b =
      subst (λ (y : IslandNode S D L H B). LeavesBy n.kind y) (sym b) (inner n.kind (node.FanIn l) refl refl refl (fan_in_chooses n.kind l is.begins.takes) (sym (fan_in_unseated n.kind is.is_in)) (fan_in_plain n.kind is.is_in))
  work_leaves around k m room n ss ds (work.FanOut l outputs) x is b =
      subst (λ (y : IslandNode S D L H B). LeavesBy n.kind y) (sym b) (inner n.kind (node.FanOut l) refl refl refl (fan_out_chooses k n.kind l is.begins.as_kind) (sym (fan_out_unseated n.kind is.is_out)) (fan_out_plain n.kind is.is_out))
  work_leaves around k m room n ss ds (work.Custom l inputs outputs) x is b = subst (λ (y : IslandNode S D L H B). LeavesBy n.kind y) (sym b) (custom_leaves n.kind is.0.is_custom.0 l is.0.is_custom.1)
  work_leaves around k m room n ss ds (work.LaneIn u) x is b = absurd is
  work_leaves around k m room n ss ds (work.LaneOut u) x is b = absurd is
  work_leaves around k m room n ss ds (work.Writing shape (Some d)) x is b = subst (λ (y : IslandNode S D L H B). LeavesBy n.kind y) (sym b) (writing_leaves n.kind _ is.is_sink)
  work_leaves around k m room n ss ds (work.Writing shape None) x is b = subst (λ (y : IslandNode S D L H B). LeavesBy n.kind y) (sym b) (ignoring_leaves n.kind _ is.is_ignore)

  -- a node that began as what was handed in for node j leaves what the kind of that says
  pub seat_leaves : (around : Around) (k : ℕ) (ns : List blue.Node) (ss : List S) (ds : List D) (ps : List (Seated S D L H B)) (j : ℕ) (n : blue.Node) (p : Seated S D L H B) (x : IslandNode S D L H B)
      → AreSeats around k ns ss ds ps → slice_get ns j ≡ Some n → slice_get ps j ≡ Some p → Becomes p x → LeavesBy n.kind x
  seat_leaves around k [] ss ds ps j n p x a en ep b = absurd cc
  seat_leaves around k (m ∷ ns) ss ds [] j n p x a en ep b = absurd a
  seat_leaves around k (m ∷ ns) ss ds (q ∷ ps) zero n p x a en ep b =
      let e : m ≡ n = cc in
      let f : q ≡ p = cc in
      subst (λ (z : blue.Node). LeavesBy z.kind x) e (work_leaves around k q.node q.room m ss ds q.work x a.1.0 (subst (λ (z : Seated S D L H B). Becomes z x) (sym f) b))
  seat_leaves around k (m ∷ ns) ss ds (q ∷ ps) (suc j) n p x a en ep b = seat_leaves around (k + 1) ns _ _ ps j n p x a.1.1 en ep b
