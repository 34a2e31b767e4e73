-- What the stages of an island chose: a list of moves for each node whose kind chooses, and the worlds that tell of it.
use Rattle.std.proofs.Common.{◌≡◌, ◌≢◌, ℕ, zero, suc, ◌+◌, Bool, true, false, List, [], ◌∷◌, length, slice_get, refl, sym, ap, ◌∙◌, subst, arith}
use Rattle.std.specs.Prelude.{Option, Some, None, if◌then◌else◌}
use Rattle.std.specs.Option.{unwrap_or}
use Rattle.elem_core.specs.declared.item.Item.{Item}
use Rattle.elem_core.specs.declared.why.Decider.{Decider}
use Rattle.port_core.specs.View.{View}
use Rattle.stream_model.specs.declared.kind.Kind.{Kind}
use Rattle.stream_model.specs.declared.kind.Kind.TheVariants as kind
use Rattle.stream_model.specs.declared.kind.Joining.{Joining}
use Rattle.stream_model.specs.declared.kind.Joining.TheVariants as joining
use Rattle.stream_model.specs.declared.kind.Policy.{Policy}
use Rattle.stream_model.specs.declared.kind.Policy.TheVariants.{Backpressure, DropHead, DropTail, DropBuffer, DropNew, Fail}
use Rattle.stream_model.specs.Composed.{count_from}
use Rattle.stream_model.specs.Graph as graph
use Rattle.stream_model.specs.Node.{World}
use Rattle.stream_io.specs.State.{SourceState, DrainState}
use Rattle.stage_linear.specs.States.{IsLinear}
use Rattle.stage_dropping.specs.Droppings.{Dropping}
use Rattle.stage_dropping.specs.Recoverings.{Recover}
use Rattle.stage_switch.specs.States.{Valve, Trip}
use Rattle.stage_state.specs.States.{IsMachine}
use Rattle.stage_state.specs.declared.logic.StateLogic.{StateLogic}
use Rattle.stage_state.specs.declared.logic.StateLogic.TheVariants as state
use Rattle.stage_state.specs.Handling.{StateLaw}
use Rattle.stage_state.specs.Moves.{state_picks}
use Rattle.stage_sub.specs.States as subs
use Rattle.stage_sub.specs.Handling.{new_log}
use Rattle.stage_sub.specs.Handling as sub
use Rattle.line_chain.specs.Line.{Line}
use Rattle.stage_in.specs.declared.logic.InLogic.{InLogic}
use Rattle.stage_in.specs.declared.logic.InLogic.TheVariants.{Taking, Sorting, Zipping, Merging}
use Rattle.stage_in.specs.Logics.{TakesAs, SameKind}
use Rattle.stage_in.specs.Moves.{in_picks}
use Rattle.stage_out.specs.Balancings.{Balancing}
use Rattle.stage_out.specs.declared.logic.OutLogic.{OutLogic}
use Rattle.stage_out.specs.declared.logic.OutLogic.TheVariants.{Machines, Balances}
use Rattle.stage_out.specs.Machines.{IsMachines}
use Rattle.stage_out.specs.OutLogics.{BeginsBalance, OutLaw}
use Rattle.stage_out.specs.OutLogics as fan_out
use Rattle.stage_out.specs.Moves.{out_picks}
use Rattle.nodes.specs.Nodes.{node_law, node_picks, node_moves}
use Rattle.nodes.specs.Kinds.{IsMaker, IsFileSink}
use Rattle.nodes.specs.declared.node.IslandNode.{IslandNode}
use Rattle.nodes.specs.declared.node.IslandNode.TheVariants as node
use Rattle.interpreter.specs.Picks.{Pick, with_picks, picks_of}
use Rattle.run_laws.specs.Made.{FirstOf, LedAs}
use Rattle.run_laws.proofs.States.{led_machine}
use Rattle.stream_model.specs.declared.blueprint.Node as blue
use Rattle.stream_model.specs.declared.blueprint.WireDecl.{WireDecl}
use Rattle.blue_names.specs.Picks.{picks, is_merged}
use Rattle.materializer.specs.Graphs.{graph_node}
use Rattle.run_blueprint.specs.Choosing.{pick_places, picked, HasPicks}
use Rattle.stream_model.specs.Linear.{Book}

-- what a node whose kind chooses recorded, and what no other does
abbrev pub ChoosesAs : Bool → Option (List ℕ) → Type 0
ChoosesAs true o = (moves : List ℕ) × (o ≡ Some moves)
ChoosesAs false o = o ≡ None

no_choice : (b : Bool) (o : Option (List ℕ)) → b ≡ false → o ≡ None → ChoosesAs b o
no_choice true o e f = absurd cc
no_choice false o e f = f

-- ---- the kinds, by what a node of them is

maker_free : (shape : Kind) → IsMaker shape → picks shape ≡ false
maker_free (kind.Range low high) h = refl
maker_free (kind.Empty b) h = refl
maker_free (kind.Failed b) h = refl
maker_free _ h = absurd h

linear_free : (shape : Kind) → IsLinear shape → picks shape ≡ false
linear_free (kind.Map f) h = refl
linear_free (kind.Filter p) h = refl
linear_free (kind.FilterNot p) h = refl
linear_free (kind.Take n) h = refl
linear_free (kind.TakeWhile p) h = refl
linear_free (kind.Drop n) h = refl
linear_free (kind.DropWhile p) h = refl
linear_free (kind.Limit n) h = refl
linear_free (kind.MapConcat x) h = refl
linear_free (kind.Plug name) h = refl
linear_free _ h = absurd h

machine_free : (shape : Kind) → IsMachine shape → picks shape ≡ false
machine_free (kind.Grouped n) h = refl
machine_free (kind.Fold o) h = refl
machine_free (kind.Reduce r) h = refl
machine_free (kind.Scan o) h = refl
machine_free (kind.Buffer n Backpressure) h = refl
machine_free _ h = absurd h

-- a buffer chooses where it drops
drop_picks : (n : ℕ) (p : Policy) → p ≢ Backpressure → picks (kind.Buffer n p) ≡ true
drop_picks n Backpressure drops = absurd (drops refl)
drop_picks n DropHead drops = refl
drop_picks n DropTail drops = refl
drop_picks n DropBuffer drops = refl
drop_picks n DropNew drops = refl
drop_picks n Fail drops = refl

drop_chooses : (k : ℕ) (shape : Kind) (d : Decider) (first : Dropping) → LedAs shape k d (state.Dropping first) → picks shape ≡ true
drop_chooses k (kind.Buffer n p) d first b = drop_picks n p b.0
drop_chooses k shape d first b = absurd b

recover_chooses : (k : ℕ) (shape : Kind) (d : Decider) (first : Recover) → LedAs shape k d (state.Recovering first) → picks shape ≡ true
recover_chooses k (kind.RecoverNum z) d first b = refl
recover_chooses k (kind.RecoverText l) d first b = refl
recover_chooses k shape d first b = absurd b

valve_chooses : (k : ℕ) (shape : Kind) (d : Decider) (first : Valve) → LedAs shape k d (state.Obeying first) → picks shape ≡ true
valve_chooses k (kind.Valve name) d first b = refl
valve_chooses k shape d first b = absurd b

trip_free : (k : ℕ) (shape : Kind) (d : Decider) (first : Trip) → LedAs shape k d (state.Tripping first) → picks shape ≡ false
trip_free k (kind.TripShutdown name n) d first b = refl
trip_free k (kind.TripAbort name n) d first b = refl
trip_free k shape d first b = absurd b

state_chooses : (k : ℕ) (shape : Kind) (d : Decider) (first now : StateLogic) (v : View) (took gave : List (List Item)) → LedAs shape k d first → StateLaw first now v took gave → ChoosesAs (picks shape) (state_picks now)
state_chooses k shape d (state.Machine f) (state.Machine x) v took gave b law = no_choice (picks shape) None (machine_free shape (led_machine shape k d f b).0) refl
state_chooses k shape d (state.Dropping f) (state.Dropping x) v took gave b law = subst (λ (c : Bool). ChoosesAs c (Some x.log.moves)) (sym (drop_chooses k shape d f b)) (x.log.moves, refl)
state_chooses k shape d (state.Recovering f) (state.Recovering x) v took gave b law = subst (λ (c : Bool). ChoosesAs c (Some x.moves)) (sym (recover_chooses k shape d f b)) (x.moves, refl)
state_chooses k shape d (state.Obeying f) (state.Obeying x) v took gave b law = subst (λ (c : Bool). ChoosesAs c (Some x.moves)) (sym (valve_chooses k shape d f b)) (x.moves, refl)
state_chooses k shape d (state.Tripping f) (state.Tripping x) v took gave b law = no_choice (picks shape) None (trip_free k shape d f b) refl
state_chooses k shape d f x v took gave b law = absurd law

-- substreams choose where they are joined as their outputs come
joined_chooses : (j : Joining) (o : Option (List ℕ)) → sub.ChoosesAs (new_log j) o → ChoosesAs (is_merged j) o
joined_chooses joining.Merge (Some ms) c = (ms, refl)
joined_chooses joining.Merge None c = absurd c
joined_chooses joining.Concat None c = refl
joined_chooses joining.Concat (Some ms) c = absurd c

sub_chooses : (k : ℕ) (shape : Kind) (chain : Line) (first now : subs.Logic Line) → sub.BeginsAs shape k chain first → sub.ChoosesAs first.moves now.moves → ChoosesAs (picks shape) now.moves
sub_chooses k (kind.GroupBy n f name) chain first now b c = joined_chooses joining.Merge now.moves (subst (λ (x : subs.Logic Line). sub.ChoosesAs x.moves now.moves) b c)
sub_chooses k (kind.SplitWhen p name j) chain first now b c = joined_chooses j now.moves (subst (λ (x : subs.Logic Line). sub.ChoosesAs x.moves now.moves) b c)
sub_chooses k (kind.SplitAfter p name j) chain first now b c = joined_chooses j now.moves (subst (λ (x : subs.Logic Line). sub.ChoosesAs x.moves now.moves) b c)
sub_chooses k shape chain first now b c = absurd b

fan_in_chooses : (shape : Kind) (first now : InLogic) → TakesAs shape first → SameKind first now → ChoosesAs (picks shape) (in_picks now)
fan_in_chooses (kind.Concat n) (Taking f) (Taking l) t s = refl
fan_in_chooses (kind.Interleave n m) (Taking f) (Taking l) t s = refl
fan_in_chooses kind.MergeSorted (Sorting f) (Sorting l) t s = refl
fan_in_chooses kind.Zip (Zipping f) (Zipping l) t s = refl
fan_in_chooses (kind.Merge n) (Merging f) (Merging l) t s = (l.log.moves, refl)
fan_in_chooses (kind.MergeHub m n) (Merging f) (Merging l) t s = (l.log.moves, refl)
fan_in_chooses (kind.Concat n) (Taking f) now t s = absurd s
fan_in_chooses (kind.Interleave n m) (Taking f) now t s = absurd s
fan_in_chooses kind.MergeSorted (Sorting f) now t s = absurd s
fan_in_chooses kind.Zip (Zipping f) now t s = absurd s
fan_in_chooses (kind.Merge n) (Merging f) now t s = absurd s
fan_in_chooses (kind.MergeHub m n) (Merging f) now t s = absurd s
fan_in_chooses shape first now t s = absurd t

copies_free : (shape : Kind) → IsMachines shape → picks shape ≡ false
copies_free (kind.Broadcast n) h = refl
copies_free (kind.BroadcastHub m n) h = refl
copies_free (kind.Partition n f) h = refl
copies_free kind.Unzip h = refl
copies_free _ h = absurd h

balance_chooses : (shape : Kind) (first now : Balancing) → BeginsBalance shape first → ChoosesAs (picks shape) (Some now.log.moves)
balance_chooses (kind.Balance n) first now b = (now.log.moves, refl)
balance_chooses shape first now b = absurd b

fan_out_chooses : (k : ℕ) (shape : Kind) (first now : OutLogic) (v : View) (took gave : List (List Item)) → fan_out.BeginsAs k shape first → OutLaw first now v took gave → ChoosesAs (picks shape) (out_picks now)
fan_out_chooses k shape (Machines f) (Machines l) v took gave b law = no_choice (picks shape) None (copies_free shape b.0) refl
fan_out_chooses k shape (Balances f) (Balances l) v took gave b law = balance_chooses shape f l b
fan_out_chooses k shape (Machines f) (Balances l) v took gave b law = absurd law
fan_out_chooses k shape (Balances f) (Machines l) v took gave b law = absurd law

sink_free : (shape : Kind) → IsFileSink shape → picks shape ≡ false
sink_free (kind.ToLines name) h = refl
sink_free (kind.Head name) h = refl
sink_free (kind.Last name) h = refl
sink_free _ h = absurd h

-- a node has chosen exactly where its kind chooses
pub node_chooses : {S D L H B : Type 0} (sources : S → SourceState) (drains : D → DrainState) (book : Book) (wires : List WireDecl) (chains : List graph.Chain) (k : ℕ) (n : blue.Node) (first now : IslandNode S D L H B) (v : View) (took gave : List (List Item))
    → FirstOf sources chains k (graph_node wires n) first → node_law sources drains book first now v took gave → ChoosesAs (picks n.kind) (node_picks now)
node_chooses sources drains book wires chains k n (node.Reading f) (node.Reading x) v took gave made law = no_choice (picks n.kind) None (ap picks made.kind_is) refl
node_chooses sources drains book wires chains k n (node.Making f) (node.Making x) v took gave made law = no_choice (picks n.kind) None (maker_free n.kind made.is_maker) refl
node_chooses sources drains book wires chains k n (node.Linear f) (node.Linear x) v took gave made law = no_choice (picks n.kind) None (linear_free n.kind made.is_linear) refl
node_chooses sources drains book wires chains k n (node.State f) (node.State x) v took gave made law = state_chooses k n.kind n.decider f x v took gave made.begins.as_kind law
node_chooses sources drains book wires chains k n (node.Sub f) (node.Sub x) v took gave made law = sub_chooses k n.kind f.logic.chain f.logic x.logic made.begins.as_kind law.chooses
node_chooses sources drains book wires chains k n (node.FanIn f) (node.FanIn x) v took gave made law = fan_in_chooses n.kind f x made.begins.takes law.same
node_chooses sources drains book wires chains k n (node.FanOut f) (node.FanOut x) v took gave made law = fan_out_chooses k n.kind f x v took gave made.begins.as_kind law
node_chooses sources drains book wires chains k n (node.Custom f) (node.Custom x) v took gave made law = no_choice (picks n.kind) None (ap picks made.kind_is) refl
node_chooses sources drains book wires chains k n (node.Writing f) (node.Writing x) v took gave made law = no_choice (picks n.kind) None (sink_free n.kind made.is_sink) refl
node_chooses sources drains book wires chains k n (node.Ignoring f) (node.Ignoring x) v took gave made law = no_choice (picks n.kind) None (ap picks made.kind_is) refl
node_chooses sources drains book wires chains k n (node.Entering f) x v took gave made law = absurd made
node_chooses sources drains book wires chains k n (node.Leaving f) x v took gave made law = absurd made
node_chooses sources drains book wires chains k n f x v took gave made law = absurd law

-- ---- the lists of moves stand in the order of their nodes

picked_cons : (k j : ℕ) (b : Bool) (o : Option (List ℕ)) (later : List ℕ) (rest : List Pick) → ChoosesAs b o → j ≡ k → picked rest ≡ later → picked (with_picks j o rest) ≡ (if b then k ∷ later else later)
picked_cons k j true o later rest h e f = rw h.1 (ap (λ m. m ∷ picked rest) e ∙ ap (λ l. k ∷ l) f)
picked_cons k j false o later rest h e f = rw h f

pub picked_along : {S D L H B : Type 0} (k : ℕ) (ns : List blue.Node) (xs : List (IslandNode S D L H B)) → length ns ≡ length xs
    → ((i : ℕ) (n : blue.Node) (x : IslandNode S D L H B) → slice_get ns i ≡ Some n → slice_get xs i ≡ Some x → ChoosesAs (picks n.kind) (node_picks x)) → picked (picks_of (count_from k (length xs)) xs) ≡ pick_places k ns
picked_along k [] [] e each = refl
picked_along k [] (x ∷ xs) e each = absurd (omega (arith, e))
picked_along k (n ∷ ns) [] e each = absurd (omega (arith, e))
picked_along k (n ∷ ns) (x ∷ xs) e each =
    picked_cons k k (picks n.kind) (node_picks x) (pick_places (k + 1) ns) (picks_of (count_from (k + 1) (length xs)) xs) (each 0 n x refl refl) refl
    (picked_along (k + 1) ns xs (omega (arith, e)) (λ i m y a b. each (suc i) m y a b))

-- ---- a world that has the moves tells of every stage

first_told : (j k : ℕ) (o : Option (List ℕ)) (rest : List Pick) (w : World) (moves : List ℕ) → HasPicks (with_picks j o rest) w → o ≡ Some moves → j ≡ k → w.moves k ≡ moves
first_told j k None rest w moves h e is = absurd cc
first_told j k (Some m) rest w moves h e is = let same : m ≡ moves = cc in ap w.moves (sym is) ∙ h 0 (j, m) refl ∙ same

later_told : (j : ℕ) (o : Option (List ℕ)) (rest : List Pick) (w : World) → HasPicks (with_picks j o rest) w → HasPicks rest w
later_told j None rest w h = h
later_told j (Some m) rest w h = λ i p e. h (suc i) p e

pub told_along : {S D L H B : Type 0} (k : ℕ) (xs : List (IslandNode S D L H B)) (w : World) → HasPicks (picks_of (count_from k (length xs)) xs) w
    → (i : ℕ) (x : IslandNode S D L H B) (moves : List ℕ) → slice_get xs i ≡ Some x → node_picks x ≡ Some moves → w.moves (k + i) ≡ moves
told_along k [] w has i x moves at is = absurd cc
told_along k (y ∷ xs) w has zero x moves at is =
    let same : y ≡ x = cc in
    let place : k + 0 ≡ k = omega arith in
    first_told k (k + 0) (node_picks y) (picks_of (count_from (k + 1) (length xs)) xs) w moves has (ap node_picks same ∙ is) (sym place)
told_along k (y ∷ xs) w has (suc i) x moves at is =
    let place : (k + 1) + i ≡ k + suc i = omega arith in
    ap w.moves (sym place) ∙ told_along (k + 1) xs w (later_told k (node_picks y) (picks_of (count_from (k + 1) (length xs)) xs) w has) i x moves at is

-- ---- a world in which each node made its moves has them

has_cons : (j k : ℕ) (o : Option (List ℕ)) (rest : List Pick) (w : World) → j ≡ k → w.moves k ≡ unwrap_or o [] → HasPicks rest w → HasPicks (with_picks j o rest) w
has_cons j k None rest w e f h i p at = h i p at
has_cons j k (Some m) rest w e f h zero p at = let same : (j, m) ≡ p = cc in subst (λ (q : Pick). w.moves q.0 ≡ q.1) same (ap w.moves e ∙ f)
has_cons j k (Some m) rest w e f h (suc i) p at = h i p at

pub has_along : {S D L H B : Type 0} (k : ℕ) (xs : List (IslandNode S D L H B)) (w : World)
    → ((i : ℕ) (x : IslandNode S D L H B) → slice_get xs i ≡ Some x → w.moves (k + i) ≡ node_moves x) → HasPicks (picks_of (count_from k (length xs)) xs) w
has_along k [] w each = λ i p at. absurd cc
has_along k (x ∷ xs) w each =
    let place : k + 0 ≡ k = omega arith in
    has_cons k k (node_picks x) (picks_of (count_from (k + 1) (length xs)) xs) w refl (ap w.moves (sym place) ∙ each 0 x refl)
    (has_along (k + 1) xs w (λ i y at. let later : (k + 1) + i ≡ k + suc i = omega arith in ap w.moves later ∙ each (suc i) y at))
