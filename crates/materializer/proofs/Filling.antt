-- The works of seats, with their handles; and how many handles the seats of a blueprint want.
use Rattle.std.proofs.Common.{◌≡◌, ℕ, ◌+◌, List, [], ◌∷◌, length, map, Some, None, refl, ap, ◌∙◌, arith, Option}
use Rattle.std.specs.List.{cons_option}
use Rattle.stream_model.specs.declared.kind.Kind.{Kind}
use Rattle.stream_model.specs.declared.kind.Kind.TheVariants as kind
use Rattle.stream_model.specs.Composed.{inputs_by}
use Rattle.stream_model.specs.View.{outputs_by}
use Rattle.nodes.specs.Kinds.{IsFileSink, IsMaker}
use Rattle.stage_linear.specs.States.{IsLinear}
use Rattle.stage_state.specs.Logics.{IsStateful}
use Rattle.stage_sub.specs.Handling.{IsSub}
use Rattle.stage_in.specs.Logics.{IsFanIn}
use Rattle.stage_out.specs.OutLogics.{IsOut}
use Rattle.interpreter.specs.declared.parts.Place.{Place}
use Rattle.interpreter.specs.declared.parts.Seated.{Seated}
use Rattle.interpreter.specs.declared.parts.Work.{Work}
use Rattle.interpreter.specs.declared.parts.Work.TheVariants as work
use Rattle.interpreter.specs.Parts.{seat_place}
use Rattle.interpreter.specs.Handles.{with_source, with_drain, sources_in, drains_in}
use Rattle.stream_model.specs.declared.blueprint.Node.{Node}
use Rattle.materializer.specs.Graphs.{Around}
use Rattle.materializer.specs.Ports.{used_ports}
use Rattle.materializer.specs.Files.{source_file, output_of, inputs_of_nodes, outputs_of_nodes}
use Rattle.materializer.specs.Seats.{handle_of, handles_left, IsWork, AreSeats}
use Rattle.materializer.specs.Planned.{IsLedPlan, ArePlanned, reads, writes, reads_in, writes_in, places_from}
use Rattle.materializer.specs.declared.seats.Planned.{Planned}
use Rattle.materializer.specs.declared.seats.Planned.TheVariants.{Reads, Writes, Works}
use Rattle.materializer.specs.declared.seats.Seat.{Seat}
use Rattle.materializer.proofs.Placing.{reads_lines, work_ports, maker_no_file, linear_no_file, state_no_file, sub_no_file, fan_in_no_file, fan_out_no_file}

-- a sink with a file writes it, and reads none
sink_file : (k : Kind) → IsFileSink k → (name : List ℕ) × ((output_of k ≡ Some name) × (source_file k ≡ None))
sink_file (kind.ToLines file) h = (file, (refl, refl))
sink_file (kind.Head file) h = (file, (refl, refl))
sink_file (kind.Last file) h = (file, (refl, refl))
sink_file _ h = absurd h

-- as many handles are wanted as there are files
one_file : (o : Option (List ℕ)) (name : List ℕ) (names : List (List ℕ)) (m : ℕ) → o ≡ Some name → m ≡ length names → 1 + m ≡ length (cons_option o names)
one_file o name names m e h = let size : length (cons_option o names) ≡ length (name ∷ names) = ap (λ p. length (cons_option p names)) e in omega (arith, size, h)

no_file : (o : Option (List ℕ)) (names : List (List ℕ)) (m : ℕ) → o ≡ None → m ≡ length names → 0 + m ≡ length (cons_option o names)
no_file o names m e h = let size : length (cons_option o names) ≡ length names = ap (λ p. length (cons_option p names)) e in omega (arith, size, h)

module _ {S D L H B : Type 0} where
  reads_here : (around : Around) (k : ℕ) (n : Node) (q : Planned S D L H B) (names : List (List ℕ)) (m : ℕ) → IsLedPlan around k n q → m ≡ length names → reads q + m ≡ length (cons_option (source_file n.kind) names)
  reads_here around k n Reads names m p h = one_file (source_file n.kind) p.file names m (ap source_file p.kind_is) h
  reads_here around k n (Writes shape) names m p h = no_file (source_file n.kind) names m (sink_file n.kind p.is_sink).1.1 h
  reads_here around k n (Works w) names m p h = no_file (source_file n.kind) names m p.no_input h

  writes_here : (around : Around) (k : ℕ) (n : Node) (q : Planned S D L H B) (names : List (List ℕ)) (m : ℕ) → IsLedPlan around k n q → m ≡ length names → writes q + m ≡ length (cons_option (output_of n.kind) names)
  writes_here around k n Reads names m p h = no_file (output_of n.kind) names m (ap output_of p.kind_is) h
  writes_here around k n (Writes shape) names m p h = let f = sink_file n.kind p.is_sink in one_file (output_of n.kind) f.0 names m f.1.0 h
  writes_here around k n (Works w) names m p h = no_file (output_of n.kind) names m p.no_output h

  pub reads_all : (around : Around) (k : ℕ) (ns : List Node) (seats : List (Seat S D L H B)) → ArePlanned around k ns seats → reads_in seats ≡ length (inputs_of_nodes ns)
  reads_all around k [] [] h = refl
  reads_all around k [] (s ∷ ss) h = absurd h
  reads_all around k (n ∷ ns) [] h = absurd h
  reads_all around k (n ∷ ns) (s ∷ ss) h = reads_here around k n s.planned (inputs_of_nodes ns) (reads_in ss) h.0.planned (reads_all around (k + 1) ns ss h.1)

  pub writes_all : (around : Around) (k : ℕ) (ns : List Node) (seats : List (Seat S D L H B)) → ArePlanned around k ns seats → writes_in seats ≡ length (outputs_of_nodes ns)
  writes_all around k [] [] h = refl
  writes_all around k [] (s ∷ ss) h = absurd h
  writes_all around k (n ∷ ns) [] h = absurd h
  writes_all around k (n ∷ ns) (s ∷ ss) h = writes_here around k n s.planned (outputs_of_nodes ns) (writes_in ss) h.0.planned (writes_all around (k + 1) ns ss h.1)

  -- the places of the works are those of the nodes
  pub places_same : (around : Around) (k : ℕ) (ns : List Node) (ss : List S) (ds : List D) (ps : List (Seated S D L H B)) → AreSeats around k ns ss ds ps → map seat_place ps ≡ places_from around.wires k ns
  places_same around k [] ss ds [] h = refl
  places_same around k [] ss ds (p ∷ ps) h = absurd h
  places_same around k (n ∷ ns) ss ds [] h = absurd h
  places_same around k (n ∷ ns) ss ds (p ∷ ps) h =
      let w = work_ports around k n ss ds p.work h.1.0 in
      let here : seat_place p ≡ record { node = k; inputs = inputs_by (used_ports around.wires n.name) n.kind; outputs = outputs_by (used_ports around.wires n.name) n.kind } = rw (h.0, w.0, w.1) refl in
      ap (λ (q : Place). q ∷ map seat_place ps) here ∙ ap (λ (l : List Place). record { node = k; inputs = inputs_by (used_ports around.wires n.name) n.kind; outputs = outputs_by (used_ports around.wires n.name) n.kind } ∷ l) (places_same around (k + 1) ns _ _ ps h.1.1)

-- ---- all handles stand in the places

-- a node that takes the next handle, and one that takes none
all_next : {X : Type 0} (o : Option (List ℕ)) (file : List ℕ) (names : List (List ℕ)) (xs : List X) (x : X) (rest : List X) → o ≡ Some file → handle_of o xs ≡ Some x → (length (handles_left o xs) ≡ length names → rest ≡ handles_left o xs) → length xs ≡ length (cons_option o names) → x ∷ rest ≡ xs
all_next None file names xs x rest e h so count = cc
all_next (Some f) file names [] x rest e h so count = cc
all_next (Some f) file names (y ∷ ys) x rest e h so count =
    let same : x ≡ y = cc in
    let less : length ys ≡ length names = omega (arith, count) in
    let behind : rest ≡ ys = so less in cc

all_left : {X : Type 0} (o : Option (List ℕ)) (names : List (List ℕ)) (xs rest : List X) → o ≡ None → (length (handles_left o xs) ≡ length names → rest ≡ handles_left o xs) → length xs ≡ length (cons_option o names) → rest ≡ xs
all_left None names xs rest e so count = so count
all_left (Some f) names xs rest e so count = cc

-- kinds without an input file, and without an output file
no_input : (P : Kind → Type 0) → ((name : List ℕ) → P (kind.Lines name) → ⊥) → (k : Kind) → P k → source_file k ≡ None
no_input P a (kind.Lines file) h = absurd (a file h)
no_input P a _ h = refl

none_of : (o : Option (List ℕ)) → ((name : List ℕ) → o ≡ Some name → ⊥) → o ≡ None
none_of None h = refl
none_of (Some name) h = absurd (h name refl)

module _ {S D L H B : Type 0} where
  source_in : (around : Around) (k : ℕ) (n : Node) (ss : List S) (ds : List D) (w : Work S D L H B) (names : List (List ℕ)) (rest : List S) → IsWork around k n ss ds w → (length (handles_left (source_file n.kind) ss) ≡ length names → rest ≡ handles_left (source_file n.kind) ss) → length ss ≡ length (cons_option (source_file n.kind) names)
      → with_source w rest ≡ ss
  source_in around k n ss ds (work.Reading r) names rest is so count = let l = reads_lines n.kind ss r.source is.source in all_next (source_file n.kind) l.0 names ss r.source rest (ap source_file l.1) is.source so count
  source_in around k n ss ds (work.Making shape) names rest is so count = all_left (source_file n.kind) names ss rest (no_input IsMaker (λ _ i. i) n.kind is.is_maker) so count
  source_in around k n ss ds (work.Linear l) names rest is so count = all_left (source_file n.kind) names ss rest (no_input IsLinear (λ _ i. i) n.kind is.is_linear) so count
  source_in around k n ss ds (work.State l) names rest is so count = all_left (source_file n.kind) names ss rest (no_input IsStateful (λ _ i. i) n.kind is.is_state) so count
  source_in around k n ss ds (work.Sub l) names rest is so count = all_left (source_file n.kind) names ss rest (no_input IsSub (λ _ i. i) n.kind is.is_sub) so count
  source_in around k n ss ds (work.FanIn l m) names rest is so count = all_left (source_file n.kind) names ss rest (no_input IsFanIn (λ _ i. i) n.kind is.is_in) so count
  source_in around k n ss ds (work.FanOut l m) names rest is so count = all_left (source_file n.kind) names ss rest (no_input IsOut (λ _ i. i) n.kind is.is_out) so count
  source_in around k n ss ds (work.Custom x inputs outputs) names rest is so count = all_left (source_file n.kind) names ss rest (ap source_file is.0.is_custom.1) so count
  source_in around k n ss ds (work.LaneIn u) names rest is so count = absurd is
  source_in around k n ss ds (work.LaneOut u) names rest is so count = absurd is
  source_in around k n ss ds (work.Writing shape (Some d)) names rest is so count = all_left (source_file n.kind) names ss rest (no_input IsFileSink (λ _ i. i) n.kind is.is_sink) so count
  source_in around k n ss ds (work.Writing shape None) names rest is so count = all_left (source_file n.kind) names ss rest (ap source_file is.is_ignore) so count

  pub all_sources : (around : Around) (k : ℕ) (ns : List Node) (ss : List S) (ds : List D) (ps : List (Seated S D L H B)) → AreSeats around k ns ss ds ps → length ss ≡ length (inputs_of_nodes ns) → sources_in ps ≡ ss
  all_sources around k [] [] ds [] h count = refl
  all_sources around k [] (s ∷ ss) ds [] h count = absurd (omega (arith, count))
  all_sources around k [] ss ds (p ∷ ps) h count = absurd h
  all_sources around k (n ∷ ns) ss ds [] h count = absurd h
  all_sources around k (n ∷ ns) ss ds (p ∷ ps) h count = source_in around k n ss ds p.work (inputs_of_nodes ns) (sources_in ps) h.1.0 (λ e. all_sources around (k + 1) ns _ _ ps h.1.1 e) count

  drain_in : (around : Around) (k : ℕ) (n : Node) (ss : List S) (ds : List D) (w : Work S D L H B) (names : List (List ℕ)) (rest : List D) → IsWork around k n ss ds w → (length (handles_left (output_of n.kind) ds) ≡ length names → rest ≡ handles_left (output_of n.kind) ds) → length ds ≡ length (cons_option (output_of n.kind) names)
      → with_drain w rest ≡ ds
  drain_in around k n ss ds (work.Reading r) names rest is so count = let l = reads_lines n.kind ss r.source is.source in all_left (output_of n.kind) names ds rest (ap output_of l.1) so count
  drain_in around k n ss ds (work.Making shape) names rest is so count = all_left (output_of n.kind) names ds rest (none_of _ (λ name e. maker_no_file n.kind name is.is_maker e)) so count
  drain_in around k n ss ds (work.Linear l) names rest is so count = all_left (output_of n.kind) names ds rest (none_of _ (λ name e. linear_no_file n.kind name is.is_linear e)) so count
  drain_in around k n ss ds (work.State l) names rest is so count = all_left (output_of n.kind) names ds rest (none_of _ (λ name e. state_no_file n.kind name is.is_state e)) so count
  drain_in around k n ss ds (work.Sub l) names rest is so count = all_left (output_of n.kind) names ds rest (none_of _ (λ name e. sub_no_file n.kind name is.is_sub e)) so count
  drain_in around k n ss ds (work.FanIn l m) names rest is so count = all_left (output_of n.kind) names ds rest (none_of _ (λ name e. fan_in_no_file n.kind name is.is_in e)) so count
  drain_in around k n ss ds (work.FanOut l m) names rest is so count = all_left (output_of n.kind) names ds rest (none_of _ (λ name e. fan_out_no_file n.kind name is.is_out e)) so count
  drain_in around k n ss ds (work.Custom x inputs outputs) names rest is so count = all_left (output_of n.kind) names ds rest (ap output_of is.0.is_custom.1) so count
  drain_in around k n ss ds (work.LaneIn u) names rest is so count = absurd is
  drain_in around k n ss ds (work.LaneOut u) names rest is so count = absurd is
  drain_in around k n ss ds (work.Writing shape (Some d)) names rest is so count = let f = sink_file n.kind is.is_sink in all_next (output_of n.kind) f.0 names ds d rest f.1.0 is.next so count
  drain_in around k n ss ds (work.Writing shape None) names rest is so count = all_left (output_of n.kind) names ds rest (ap output_of is.is_ignore) so count

  pub all_drains : (around : Around) (k : ℕ) (ns : List Node) (ss : List S) (ds : List D) (ps : List (Seated S D L H B)) → AreSeats around k ns ss ds ps → length ds ≡ length (outputs_of_nodes ns) → drains_in ps ≡ ds
  all_drains around k [] ss [] [] h count = refl
  all_drains around k [] ss (d ∷ ds) [] h count = absurd (omega (arith, count))
  all_drains around k [] ss ds (p ∷ ps) h count = absurd h
  all_drains around k (n ∷ ns) ss ds [] h count = absurd h
  all_drains around k (n ∷ ns) ss ds (p ∷ ps) h count = drain_in around k n ss ds p.work (outputs_of_nodes ns) (drains_in ps) h.1.0 (λ e. all_drains around (k + 1) ns _ _ ps h.1.1 e) count
