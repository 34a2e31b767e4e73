-- The places of an island, by the nodes that got them.
use Rattle.std.proofs.Common.{◌≡◌, ℕ, zero, suc, ◌+◌, List, [], ◌∷◌, length, Some, None, refl, ap, sym, ◌∙◌, subst}
use Rattle.std.specs.Prelude.{slice_get}
use Rattle.stream_model.specs.declared.kind.Kind.{Kind}
use Rattle.stream_model.specs.declared.kind.Kind.TheVariants.{Lines, Range, Empty, Failed, Map, Filter, FilterNot, TakeWhile, DropWhile, Take, Drop, Limit, MapConcat, Plug, Custom, Grouped, Fold, Reduce, Scan, Buffer, RecoverNum, RecoverText, Valve, TripShutdown, TripAbort, GroupBy, SplitWhen, SplitAfter, Merge, MergeHub, Concat, Interleave, MergeSorted, Zip, Broadcast, BroadcastHub, Balance, Partition, Unzip, ToLines, Head, Last}
use Rattle.stream_model.specs.Composed.{inputs_by}
use Rattle.stream_model.specs.View.{outputs_by}
use Rattle.stage_linear.specs.States.{HasTask, IsLinear}
use Rattle.stage_state.specs.Logics.{IsStateful}
use Rattle.stage_sub.specs.Handling.{IsSub}
use Rattle.stage_in.specs.Logics.{IsFanIn}
use Rattle.stage_in.specs.Logics as fan_in
use Rattle.port_core.specs.View.{unpulled_ins, unpulled_outs}
use Rattle.stage_out.specs.OutLogics.{OutFresh, IsOut}
use Rattle.stage_out.specs.OutLogics as fan_out
use Rattle.nodes.specs.Kinds.{IsMaker, IsFileSink}
use Rattle.interpreter.specs.declared.parts.Seated.{Seated}
use Rattle.interpreter.specs.declared.parts.Work.{Work}
use Rattle.interpreter.specs.declared.parts.Work.TheVariants as work
use Rattle.interpreter.specs.Parts.{work_inputs, work_outputs, inputs_at, outputs_at, IsUnused, AllUnused}
use Rattle.stream_model.specs.declared.blueprint.Node.{Node}
use Rattle.materializer.specs.Graphs.{Around}
use Rattle.materializer.specs.Ports.{used_ports}
use Rattle.materializer.specs.Files.{source_file, output_of}
use Rattle.materializer.specs.Seats.{handle_of, IsWork, AreSeats}

-- ---- kinds

-- only sources of lines read a file
pub reads_lines : {X : Type 0} (k : Kind) (xs : List X) (x : X) → handle_of (source_file k) xs ≡ Some x → (name : List ℕ) × (k ≡ Lines name)
reads_lines (Lines name) xs x h = (name, refl)
reads_lines _ xs x h = absurd cc

maker_ports : (u : ℕ × ℕ) (k : Kind) → IsMaker k → (inputs_by u k ≡ 0) × (outputs_by u k ≡ 1)
maker_ports u (Range low high) h = (refl, refl)
maker_ports u (Empty b) h = (refl, refl)
maker_ports u (Failed b) h = (refl, refl)
maker_ports u _ h = absurd h

file_sink_ports : (u : ℕ × ℕ) (k : Kind) → IsFileSink k → (inputs_by u k ≡ 1) × (outputs_by u k ≡ 0)
file_sink_ports u (ToLines name) h = (refl, refl)
file_sink_ports u (Head name) h = (refl, refl)
file_sink_ports u (Last name) h = (refl, refl)
file_sink_ports u _ h = absurd h

-- a stage with a task is a linear one
pub task_linear : (k : Kind) → HasTask k → IsLinear k
task_linear (Map f) h = tt
task_linear (Filter p) h = tt
task_linear (FilterNot p) h = tt
task_linear (TakeWhile p) h = tt
task_linear (DropWhile p) h = tt
task_linear (Take n) h = tt
task_linear (Drop n) h = tt
task_linear (Limit n) h = tt
task_linear (MapConcat x) h = tt
task_linear _ h = absurd h

linear_ports : (u : ℕ × ℕ) (k : Kind) → IsLinear k → (inputs_by u k ≡ 1) × (outputs_by u k ≡ 1)
linear_ports u (Map f) h = (refl, refl)
linear_ports u (Filter p) h = (refl, refl)
linear_ports u (FilterNot p) h = (refl, refl)
linear_ports u (TakeWhile p) h = (refl, refl)
linear_ports u (DropWhile p) h = (refl, refl)
linear_ports u (Take n) h = (refl, refl)
linear_ports u (Drop n) h = (refl, refl)
linear_ports u (Limit n) h = (refl, refl)
linear_ports u (MapConcat x) h = (refl, refl)
linear_ports u (Plug name) h = (refl, refl)
linear_ports u _ h = absurd h

state_ports : (u : ℕ × ℕ) (k : Kind) → IsStateful k → (inputs_by u k ≡ 1) × (outputs_by u k ≡ 1)
state_ports u (Grouped n) h = (refl, refl)
state_ports u (Fold o) h = (refl, refl)
state_ports u (Reduce r) h = (refl, refl)
state_ports u (Scan o) h = (refl, refl)
state_ports u (Buffer n p) h = (refl, refl)
state_ports u (RecoverNum z) h = (refl, refl)
state_ports u (RecoverText l) h = (refl, refl)
state_ports u (Valve name) h = (refl, refl)
state_ports u (TripShutdown name n) h = (refl, refl)
state_ports u (TripAbort name n) h = (refl, refl)
state_ports u _ h = absurd h

sub_ports : (u : ℕ × ℕ) (k : Kind) → IsSub k → (inputs_by u k ≡ 1) × (outputs_by u k ≡ 1)
sub_ports u (GroupBy n f name) h = (refl, refl)
sub_ports u (SplitWhen p name j) h = (refl, refl)
sub_ports u (SplitAfter p name j) h = (refl, refl)
sub_ports u _ h = absurd h

-- a stage with several inputs has those of its kind, and one output
fan_in_ports : (u : ℕ × ℕ) (k : Kind) → IsFanIn k → (inputs_by u k ≡ fan_in.inputs_of k) × (outputs_by u k ≡ 1)
fan_in_ports u (Concat n) h = (refl, refl)
fan_in_ports u (Interleave n s) h = (refl, refl)
fan_in_ports u MergeSorted h = (refl, refl)
fan_in_ports u Zip h = (refl, refl)
fan_in_ports u (Merge n) h = (refl, refl)
fan_in_ports u (MergeHub s n) h = (refl, refl)
fan_in_ports u _ h = absurd h

-- a stage with several outputs has those of its kind, and one input
fan_out_ports : (u : ℕ × ℕ) (k : Kind) → IsOut k → (inputs_by u k ≡ 1) × (outputs_by u k ≡ fan_out.outputs_of k)
fan_out_ports u (Broadcast n) h = (refl, refl)
fan_out_ports u (BroadcastHub s n) h = (refl, refl)
fan_out_ports u (Partition n f) h = (refl, refl)
fan_out_ports u Unzip h = (refl, refl)
fan_out_ports u (Balance n) h = (refl, refl)
fan_out_ports u _ h = absurd h

-- a custom stage has those that the wires use
custom_ports : (u : ℕ × ℕ) (k : Kind) (inputs outputs : ℕ) → (name : List ℕ) × (k ≡ Custom name) → u ≡ (inputs, outputs) → (inputs ≡ inputs_by u k) × (outputs ≡ outputs_by u k)
custom_ports u k inputs outputs is e =
    (sym (ap (λ (p : ℕ × ℕ). p.0) e) ∙ sym (ap (inputs_by u) is.1), sym (ap (λ (p : ℕ × ℕ). p.1) e) ∙ sym (ap (outputs_by u) is.1))

-- only sinks write a file
file_apart : (P : Kind → Type 0) → ((name : List ℕ) → P (ToLines name) → ⊥) → ((name : List ℕ) → P (Head name) → ⊥) → ((name : List ℕ) → P (Last name) → ⊥) → (k : Kind) (name : List ℕ) → P k → output_of k ≡ Some name → ⊥
file_apart P a b c (ToLines file) name h e = a file h
file_apart P a b c (Head file) name h e = b file h
file_apart P a b c (Last file) name h e = c file h
file_apart P a b c _ name h e = cc

pub maker_no_file : (k : Kind) (name : List ℕ) → IsMaker k → output_of k ≡ Some name → ⊥
maker_no_file k name h e = file_apart IsMaker (λ _ i. i) (λ _ i. i) (λ _ i. i) k name h e

pub linear_no_file : (k : Kind) (name : List ℕ) → IsLinear k → output_of k ≡ Some name → ⊥
linear_no_file k name h e = file_apart IsLinear (λ _ i. i) (λ _ i. i) (λ _ i. i) k name h e

pub state_no_file : (k : Kind) (name : List ℕ) → IsStateful k → output_of k ≡ Some name → ⊥
state_no_file k name h e = file_apart IsStateful (λ _ i. i) (λ _ i. i) (λ _ i. i) k name h e

pub sub_no_file : (k : Kind) (name : List ℕ) → IsSub k → output_of k ≡ Some name → ⊥
sub_no_file k name h e = file_apart IsSub (λ _ i. i) (λ _ i. i) (λ _ i. i) k name h e

pub fan_in_no_file : (k : Kind) (name : List ℕ) → IsFanIn k → output_of k ≡ Some name → ⊥
fan_in_no_file k name h e = file_apart IsFanIn (λ _ i. i) (λ _ i. i) (λ _ i. i) k name h e

pub fan_out_no_file : (k : Kind) (name : List ℕ) → IsOut k → output_of k ≡ Some name → ⊥
fan_out_no_file k name h e = file_apart IsOut (λ _ i. i) (λ _ i. i) (λ _ i. i) k name h e

module _ {S D L H B : Type 0} where
  -- ---- works

  pub work_ports : (around : Around) (k : ℕ) (n : Node) (ss : List S) (ds : List D) (w : Work S D L H B) → IsWork around k n ss ds w
      → (work_inputs w ≡ inputs_by (used_ports around.wires n.name) n.kind) × (work_outputs w ≡ outputs_by (used_ports around.wires n.name) n.kind)
  work_ports around k n ss ds (work.Reading r) is =
      let u = used_ports around.wires n.name in
      let l = reads_lines n.kind ss r.source is.source in
      (sym (ap (inputs_by u) l.1), sym (ap (outputs_by u) l.1))
  work_ports around k n ss ds (work.Making shape) is = let p = maker_ports (used_ports around.wires n.name) n.kind is.is_maker in (sym p.0, sym p.1)
  work_ports around k n ss ds (work.Linear l) is = let p = linear_ports (used_ports around.wires n.name) n.kind is.is_linear in (sym p.0, sym p.1)
  work_ports around k n ss ds (work.State l) is = let p = state_ports (used_ports around.wires n.name) n.kind is.is_state in (sym p.0, sym p.1)
  work_ports around k n ss ds (work.Sub l) is = let p = sub_ports (used_ports around.wires n.name) n.kind is.is_sub in (sym p.0, sym p.1)
  work_ports around k n ss ds (work.FanIn l inputs) is =
      let p = fan_in_ports (used_ports around.wires n.name) n.kind is.is_in in
      (is.inputs_are ∙ (fan_in_ports (0, 0) n.kind is.is_in).0 ∙ sym p.0, sym p.1)
  work_ports around k n ss ds (work.FanOut l outputs) is =
      let p = fan_out_ports (used_ports around.wires n.name) n.kind is.is_out in
      (sym p.0, is.outputs_are ∙ (fan_out_ports (0, 0) n.kind is.is_out).1 ∙ sym p.1)
  work_ports around k n ss ds (work.Custom x inputs outputs) is = custom_ports (used_ports around.wires n.name) n.kind inputs outputs is.0.is_custom is.1
  work_ports around k n ss ds (work.LaneIn u) is = absurd is
  work_ports around k n ss ds (work.LaneOut u) is = absurd is
  work_ports around k n ss ds (work.Writing shape (Some d)) is = let p = file_sink_ports (used_ports around.wires n.name) n.kind is.is_sink in (sym p.0, sym p.1)
  work_ports around k n ss ds (work.Writing shape None) is =
      let u = used_ports around.wires n.name in
      (sym (ap (inputs_by u) is.is_ignore), sym (ap (outputs_by u) is.is_ignore))

  work_unused : (around : Around) (k : ℕ) (n : Node) (ss : List S) (ds : List D) (w : Work S D L H B) → IsWork around k n ss ds w → IsUnused w
  work_unused around k n ss ds (work.Reading r) is = is.kept
  work_unused around k n ss ds (work.Making shape) is = subst IsMaker (sym is.shape_is) is.is_maker
  work_unused around k n ss ds (work.Linear l) is = let b = is.begins in record { phase = b.phase; ports = rw b.phase b.ready }
  work_unused around k n ss ds (work.State l) is = is.begins.fresh
  work_unused around k n ss ds (work.Sub l) is = is.begins.fresh
  work_unused around k n ss ds (work.FanIn l inputs) is =
      let b = is.begins in
      let same : fan_in.inputs_of n.kind ≡ inputs = sym (is.inputs_are ∙ (fan_in_ports (0, 0) n.kind is.is_in).0) in
      record { fresh = b.fresh; ports = subst (λ m. fan_in.port_state l (unpulled_ins m)) same b.ready }
  work_unused around k n ss ds (work.FanOut l outputs) is =
      let b = is.begins in
      let same : fan_out.outputs_of n.kind ≡ outputs = sym (is.outputs_are ∙ (fan_out_ports (0, 0) n.kind is.is_out).1) in
      subst (λ m. OutFresh l (unpulled_outs m)) same b.fresh
  work_unused around k n ss ds (work.Custom x inputs outputs) is = is.0.fresh
  work_unused around k n ss ds (work.LaneIn u) is = absurd is
  work_unused around k n ss ds (work.LaneOut u) is = absurd is
  work_unused around k n ss ds (work.Writing shape (Some d)) is = subst IsFileSink (sym is.shape_is) is.is_sink
  work_unused around k n ss ds (work.Writing shape None) is = is.shape_is ∙ is.is_ignore

  -- ---- places

  pub seats_count : (around : Around) (k : ℕ) (ns : List Node) (ss : List S) (ds : List D) (ps : List (Seated S D L H B)) → AreSeats around k ns ss ds ps → length ps ≡ length ns
  seats_count around k [] ss ds [] a = refl
  seats_count around k [] ss ds (p ∷ ps) a = absurd a
  seats_count around k (n ∷ ns) ss ds [] a = absurd a
  seats_count around k (n ∷ ns) ss ds (p ∷ ps) a = ap suc (seats_count around (k + 1) ns _ _ ps a.1.1)

  pub seats_unused : (around : Around) (k : ℕ) (ns : List Node) (ss : List S) (ds : List D) (ps : List (Seated S D L H B)) → AreSeats around k ns ss ds ps → AllUnused ps
  seats_unused around k [] ss ds [] a = tt
  seats_unused around k [] ss ds (p ∷ ps) a = absurd a
  seats_unused around k (n ∷ ns) ss ds [] a = absurd a
  seats_unused around k (n ∷ ns) ss ds (p ∷ ps) a = (work_unused around k n ss ds p.work a.1.0, seats_unused around (k + 1) ns _ _ ps a.1.1)

  pub seats_ports : (around : Around) (k : ℕ) (ns : List Node) (ss : List S) (ds : List D) (ps : List (Seated S D L H B)) (j : ℕ) (n : Node) → AreSeats around k ns ss ds ps → slice_get ns j ≡ Some n
      → (inputs_at ps j ≡ inputs_by (used_ports around.wires n.name) n.kind) × (outputs_at ps j ≡ outputs_by (used_ports around.wires n.name) n.kind)
  seats_ports around k [] ss ds ps j n a at = absurd cc
  seats_ports around k (m ∷ ns) ss ds [] j n a at = absurd a
  seats_ports around k (m ∷ ns) ss ds (p ∷ ps) zero n a at =
      let e : m ≡ n = cc in
      let w = work_ports around k m ss ds p.work a.1.0 in
      (w.0 ∙ ap (λ (x : Node). inputs_by (used_ports around.wires x.name) x.kind) e, w.1 ∙ ap (λ (x : Node). outputs_by (used_ports around.wires x.name) x.kind) e)
  seats_ports around k (m ∷ ns) ss ds (p ∷ ps) (suc j) n a at = seats_ports around (k + 1) ns _ _ ps j n a.1.1 at
