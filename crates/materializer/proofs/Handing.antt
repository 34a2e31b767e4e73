-- Which source and which drain each node holds as it is handed in.
use Rattle.std.proofs.Common.{◌≡◌, ℕ, zero, suc, ◌+◌, List, [], ◌∷◌, Option, Some, None, refl, ap, sym, ◌∙◌, subst, arith}
use Rattle.std.specs.Prelude.{slice_get}
use Rattle.std.specs.List.{cons_option}
use Rattle.stream_model.specs.declared.kind.Kind.TheVariants as kind
use Rattle.stage_linear.specs.States.{IsLinear}
use Rattle.stage_state.specs.Logics.{IsStateful}
use Rattle.stage_sub.specs.Handling.{IsSub}
use Rattle.stage_in.specs.Logics.{IsFanIn}
use Rattle.stage_out.specs.OutLogics.{IsOut}
use Rattle.nodes.specs.declared.node.IslandNode.{IslandNode}
use Rattle.nodes.specs.declared.node.IslandNode.TheVariants as node
use Rattle.nodes.specs.Source.{Lines}
use Rattle.nodes.specs.Sink.{Sink}
use Rattle.nodes.specs.Ignoring.{Ignorer}
use Rattle.nodes.specs.Kinds.{IsMaker, IsFileSink}
use Rattle.interpreter.specs.declared.parts.Seated.{Seated}
use Rattle.interpreter.specs.declared.parts.Work.{Work}
use Rattle.interpreter.specs.declared.parts.Work.TheVariants as work
use Rattle.interpreter.specs.Parts.{BecomesOf, AllBecome}
use Rattle.stream_model.specs.declared.blueprint.Node as blue
use Rattle.materializer.specs.Graphs.{Around}
use Rattle.materializer.specs.Files.{source_file, output_of, inputs_of_nodes, outputs_of_nodes}
use Rattle.materializer.specs.Handed.{ReadsSourceFile, WritesFile, WritesNoFile}
use Rattle.materializer.specs.Seats.{handle_of, handles_left, IsWork, AreSeats}
use Rattle.materializer.proofs.Placing.{reads_lines, maker_no_file, linear_no_file, state_no_file, sub_no_file, fan_in_no_file, fan_out_no_file}

-- the place of a handle and of its name, among all
record Handed {X : Type 0} (xs : List X) (names : List (List ℕ)) (x : X) (name : List ℕ) : Type 0 where
  pub place : ℕ
  pub handle : slice_get xs place ≡ Some x
  pub named : slice_get names place ≡ Some name

-- the next one
handed_next : {X : Type 0} (o : Option (List ℕ)) (xs : List X) (names : List (List ℕ)) (x : X) (name : List ℕ) → o ≡ Some name → handle_of o xs ≡ Some x → Handed xs (cons_option o names) x name
handed_next o xs names x name e h =
    record { place = 0; handle = sym (ap (λ p. handle_of p xs) e) ∙ h; named = ap (λ p. slice_get (cons_option p names) 0) e }

-- one behind those that a node leaves
handed_later : {X : Type 0} (o : Option (List ℕ)) (xs : List X) (names : List (List ℕ)) (x : X) (name : List ℕ) → Handed (handles_left o xs) names x name → Handed xs (cons_option o names) x name
handed_later None xs names x name h = record { place = h.place; handle = h.handle; named = h.named }
handed_later (Some file) [] names x name h = let e : None ≡ Some x = h.handle in absurd cc
handed_later (Some file) (y ∷ xs) names x name h = record { place = suc h.place; handle = h.handle; named = h.named }

module _ {S D L H B : Type 0} where
  -- ---- sources

  reader_at : (around : Around) (k room : ℕ) (n : blue.Node) (ss : List S) (ds : List D) (w : Work S D L H B) (x : IslandNode S D L H B) (names : List (List ℕ)) (name : List ℕ) → IsWork around k n ss ds w → BecomesOf k room w x → n.kind ≡ kind.Lines name
      → (first : Lines S) × ((x ≡ node.Reading first) × ((first.node ≡ k) × Handed ss (cons_option (source_file n.kind) names) first.reader.source name))
  reader_at around k room n ss ds (work.Reading r) x names name is b e = (_, (b, (refl, handed_next (source_file n.kind) ss names r.source name (ap source_file e) is.source)))
  reader_at around k room n ss ds (work.Making shape) x names name is b e = absurd (subst IsMaker e is.is_maker)
  reader_at around k room n ss ds (work.Linear l) x names name is b e = absurd (subst IsLinear e is.is_linear)
  reader_at around k room n ss ds (work.State l) x names name is b e = absurd (subst IsStateful e is.is_state)
  reader_at around k room n ss ds (work.Sub l) x names name is b e = absurd (subst IsSub e is.is_sub)
  reader_at around k room n ss ds (work.FanIn l inputs) x names name is b e = absurd (subst IsFanIn e is.is_in)
  reader_at around k room n ss ds (work.FanOut l outputs) x names name is b e = absurd (subst IsOut e is.is_out)
  reader_at around k room n ss ds (work.Custom y inputs outputs) x names name is b e = let same = sym is.0.is_custom.1 ∙ e in absurd cc
  reader_at around k room n ss ds (work.LaneIn u) x names name is b e = absurd is
  reader_at around k room n ss ds (work.LaneOut u) x names name is b e = absurd is
  reader_at around k room n ss ds (work.Writing shape (Some d)) x names name is b e = absurd (subst IsFileSink e is.is_sink)
  reader_at around k room n ss ds (work.Writing shape None) x names name is b e = let no : kind.Lines name ≡ kind.Ignore = sym e ∙ is.is_ignore in absurd cc

  -- of the nodes from node k on
  record ReadsAt (k : ℕ) (names : List (List ℕ)) (ss : List S) (xs : List (IslandNode S D L H B)) (j : ℕ) (name : List ℕ) : Type 0 where
    pub first : Lines S
    pub at : slice_get xs j ≡ Some (node.Reading first)
    pub node : first.node ≡ k + j
    pub handed : Handed ss names first.reader.source name

  reads_at : (around : Around) (k : ℕ) (ns : List blue.Node) (ss : List S) (ds : List D) (ps : List (Seated S D L H B)) (xs : List (IslandNode S D L H B)) (j : ℕ) (n : blue.Node) (name : List ℕ)
      → AreSeats around k ns ss ds ps → AllBecome ps xs → slice_get ns j ≡ Some n → n.kind ≡ kind.Lines name → ReadsAt k (inputs_of_nodes ns) ss xs j name
  reads_at around k [] ss ds ps xs j n name a b at e = absurd cc
  reads_at around k (m ∷ ns) ss ds [] xs j n name a b at e = absurd a
  reads_at around k (m ∷ ns) ss ds (p ∷ ps) [] j n name a b at e = absurd b
  reads_at around k (m ∷ ns) ss ds (p ∷ ps) (x ∷ xs) zero n name a b at e =
      let is : m ≡ n = cc in
      let here : BecomesOf k p.room p.work x = subst (λ i. BecomesOf i p.room p.work x) a.0 b.0 in
      let r = reader_at around k p.room m ss ds p.work x (inputs_of_nodes ns) name a.1.0 here (ap (λ (y : blue.Node). y.kind) is ∙ e) in
      record { first = r.0; at = ap Some r.1.0; node = let same : r.0.node ≡ k = r.1.1.0 in omega (arith, same); handed = r.1.1.1 }
  reads_at around k (m ∷ ns) ss ds (p ∷ ps) (x ∷ xs) (suc j) n name a b at e =
      let r = reads_at around (k + 1) ns _ _ ps xs j n name a.1.1 b.1 at e in
      record { first = r.first; at = r.at; node = let same : r.first.node ≡ k + 1 + j = r.node in omega (arith, same); handed = handed_later (source_file m.kind) ss (inputs_of_nodes ns) r.first.reader.source name r.handed }

  pub reads_file : (around : Around) (ns : List blue.Node) (ss : List S) (ds : List D) (ps : List (Seated S D L H B)) (xs : List (IslandNode S D L H B)) → AreSeats around 0 ns ss ds ps → AllBecome ps xs
      → (j : ℕ) (n : blue.Node) (name : List ℕ) → slice_get ns j ≡ Some n → n.kind ≡ kind.Lines name → ReadsSourceFile (inputs_of_nodes ns) ss xs j name
  reads_file around ns ss ds ps xs a b j n name at e =
      let r = reads_at around 0 ns ss ds ps xs j n name a b at e in
      record { first = r.first; at = r.at; node = let same : r.first.node ≡ 0 + j = r.node in omega (arith, same); place = r.handed.place; source = r.handed.handle; file = r.handed.named }

  -- ---- sinks with a file

  writer_at : (around : Around) (k room : ℕ) (n : blue.Node) (ss : List S) (ds : List D) (w : Work S D L H B) (x : IslandNode S D L H B) (names : List (List ℕ)) (name : List ℕ) → IsWork around k n ss ds w → BecomesOf k room w x → output_of n.kind ≡ Some name
      → (first : Sink D) × ((x ≡ node.Writing first) × ((first.node ≡ k) × Handed ds (cons_option (output_of n.kind) names) first.drain name))
  writer_at around k room n ss ds (work.Reading r) x names name is b e =
      let l = reads_lines n.kind ss r.source is.source in
      let no : output_of (kind.Lines l.0) ≡ Some name = sym (ap output_of l.1) ∙ e in absurd cc
  writer_at around k room n ss ds (work.Making shape) x names name is b e = absurd (maker_no_file n.kind name is.is_maker e)
  writer_at around k room n ss ds (work.Linear l) x names name is b e = absurd (linear_no_file n.kind name is.is_linear e)
  writer_at around k room n ss ds (work.State l) x names name is b e = absurd (state_no_file n.kind name is.is_state e)
  writer_at around k room n ss ds (work.Sub l) x names name is b e = absurd (sub_no_file n.kind name is.is_sub e)
  writer_at around k room n ss ds (work.FanIn l inputs) x names name is b e = absurd (fan_in_no_file n.kind name is.is_in e)
  writer_at around k room n ss ds (work.FanOut l outputs) x names name is b e = absurd (fan_out_no_file n.kind name is.is_out e)
  writer_at around k room n ss ds (work.Custom y inputs outputs) x names name is b e = let same = sym (ap output_of is.0.is_custom.1) ∙ e in absurd cc
  writer_at around k room n ss ds (work.LaneIn u) x names name is b e = absurd is
  writer_at around k room n ss ds (work.LaneOut u) x names name is b e = absurd is
  writer_at around k room n ss ds (work.Writing shape (Some d)) x names name is b e = (_, (b, (refl, handed_next (output_of n.kind) ds names d name e is.next)))
  writer_at around k room n ss ds (work.Writing shape None) x names name is b e = let no : output_of kind.Ignore ≡ Some name = sym (ap output_of is.is_ignore) ∙ e in absurd cc

  record WritesAt (k : ℕ) (names : List (List ℕ)) (ds : List D) (xs : List (IslandNode S D L H B)) (j : ℕ) (name : List ℕ) : Type 0 where
    pub first : Sink D
    pub at : slice_get xs j ≡ Some (node.Writing first)
    pub node : first.node ≡ k + j
    pub handed : Handed ds names first.drain name

  writes_at : (around : Around) (k : ℕ) (ns : List blue.Node) (ss : List S) (ds : List D) (ps : List (Seated S D L H B)) (xs : List (IslandNode S D L H B)) (j : ℕ) (n : blue.Node) (name : List ℕ)
      → AreSeats around k ns ss ds ps → AllBecome ps xs → slice_get ns j ≡ Some n → output_of n.kind ≡ Some name → WritesAt k (outputs_of_nodes ns) ds xs j name
  writes_at around k [] ss ds ps xs j n name a b at e = absurd cc
  writes_at around k (m ∷ ns) ss ds [] xs j n name a b at e = absurd a
  writes_at around k (m ∷ ns) ss ds (p ∷ ps) [] j n name a b at e = absurd b
  writes_at around k (m ∷ ns) ss ds (p ∷ ps) (x ∷ xs) zero n name a b at e =
      let is : m ≡ n = cc in
      let here : BecomesOf k p.room p.work x = subst (λ i. BecomesOf i p.room p.work x) a.0 b.0 in
      let r = writer_at around k p.room m ss ds p.work x (outputs_of_nodes ns) name a.1.0 here (ap (λ (y : blue.Node). output_of y.kind) is ∙ e) in
      record { first = r.0; at = ap Some r.1.0; node = let same : r.0.node ≡ k = r.1.1.0 in omega (arith, same); handed = r.1.1.1 }
  writes_at around k (m ∷ ns) ss ds (p ∷ ps) (x ∷ xs) (suc j) n name a b at e =
      let r = writes_at around (k + 1) ns _ _ ps xs j n name a.1.1 b.1 at e in
      record { first = r.first; at = r.at; node = let same : r.first.node ≡ k + 1 + j = r.node in omega (arith, same); handed = handed_later (output_of m.kind) ds (outputs_of_nodes ns) r.first.drain name r.handed }

  pub writes_file : (around : Around) (ns : List blue.Node) (ss : List S) (ds : List D) (ps : List (Seated S D L H B)) (xs : List (IslandNode S D L H B)) → AreSeats around 0 ns ss ds ps → AllBecome ps xs
      → (j : ℕ) (n : blue.Node) (name : List ℕ) → slice_get ns j ≡ Some n → output_of n.kind ≡ Some name → WritesFile (outputs_of_nodes ns) ds xs j name
  writes_file around ns ss ds ps xs a b j n name at e =
      let r = writes_at around 0 ns ss ds ps xs j n name a b at e in
      record { first = r.first; at = r.at; node = let same : r.first.node ≡ 0 + j = r.node in omega (arith, same); place = r.handed.place; drain = r.handed.handle; file = r.handed.named }

  -- ---- sinks that keep nothing

  ignorer_at : (around : Around) (k room : ℕ) (n : blue.Node) (ss : List S) (ds : List D) (w : Work S D L H B) (x : IslandNode S D L H B) → IsWork around k n ss ds w → BecomesOf k room w x → n.kind ≡ kind.Ignore → (first : Ignorer) × ((x ≡ node.Ignoring first) × (first.node ≡ k))
  ignorer_at around k room n ss ds (work.Reading r) x is b e =
      let l = reads_lines n.kind ss r.source is.source in
      let no : kind.Lines l.0 ≡ kind.Ignore = sym l.1 ∙ e in absurd cc
  ignorer_at around k room n ss ds (work.Making shape) x is b e = absurd (subst IsMaker e is.is_maker)
  ignorer_at around k room n ss ds (work.Linear l) x is b e = absurd (subst IsLinear e is.is_linear)
  ignorer_at around k room n ss ds (work.State l) x is b e = absurd (subst IsStateful e is.is_state)
  ignorer_at around k room n ss ds (work.Sub l) x is b e = absurd (subst IsSub e is.is_sub)
  ignorer_at around k room n ss ds (work.FanIn l inputs) x is b e = absurd (subst IsFanIn e is.is_in)
  ignorer_at around k room n ss ds (work.FanOut l outputs) x is b e = absurd (subst IsOut e is.is_out)
  ignorer_at around k room n ss ds (work.Custom y inputs outputs) x is b e = let same = sym is.0.is_custom.1 ∙ e in absurd cc
  ignorer_at around k room n ss ds (work.LaneIn u) x is b e = absurd is
  ignorer_at around k room n ss ds (work.LaneOut u) x is b e = absurd is
  ignorer_at around k room n ss ds (work.Writing shape (Some d)) x is b e = absurd (subst IsFileSink e is.is_sink)
  ignorer_at around k room n ss ds (work.Writing shape None) x is b e = (_, (b, refl))

  record IgnoresAt (k : ℕ) (xs : List (IslandNode S D L H B)) (j : ℕ) : Type 0 where
    pub first : Ignorer
    pub at : slice_get xs j ≡ Some (node.Ignoring first)
    pub node : first.node ≡ k + j

  ignores_at : (around : Around) (k : ℕ) (ns : List blue.Node) (ss : List S) (ds : List D) (ps : List (Seated S D L H B)) (xs : List (IslandNode S D L H B)) (j : ℕ) (n : blue.Node)
      → AreSeats around k ns ss ds ps → AllBecome ps xs → slice_get ns j ≡ Some n → n.kind ≡ kind.Ignore → IgnoresAt k xs j
  ignores_at around k [] ss ds ps xs j n a b at e = absurd cc
  ignores_at around k (m ∷ ns) ss ds [] xs j n a b at e = absurd a
  ignores_at around k (m ∷ ns) ss ds (p ∷ ps) [] j n a b at e = absurd b
  ignores_at around k (m ∷ ns) ss ds (p ∷ ps) (x ∷ xs) zero n a b at e =
      let is : m ≡ n = cc in
      let here : BecomesOf k p.room p.work x = subst (λ i. BecomesOf i p.room p.work x) a.0 b.0 in
      let r = ignorer_at around k p.room m ss ds p.work x a.1.0 here (ap (λ (y : blue.Node). y.kind) is ∙ e) in
      record { first = r.0; at = ap Some r.1.0; node = let same : r.0.node ≡ k = r.1.1 in omega (arith, same) }
  ignores_at around k (m ∷ ns) ss ds (p ∷ ps) (x ∷ xs) (suc j) n a b at e =
      let r = ignores_at around (k + 1) ns _ _ ps xs j n a.1.1 b.1 at e in
      record { first = r.first; at = r.at; node = let same : r.first.node ≡ k + 1 + j = r.node in omega (arith, same) }

  pub writes_no_file : (around : Around) (ns : List blue.Node) (ss : List S) (ds : List D) (ps : List (Seated S D L H B)) (xs : List (IslandNode S D L H B)) → AreSeats around 0 ns ss ds ps → AllBecome ps xs
      → (j : ℕ) (n : blue.Node) → slice_get ns j ≡ Some n → n.kind ≡ kind.Ignore → WritesNoFile xs j
  writes_no_file around ns ss ds ps xs a b j n at e =
      let r = ignores_at around 0 ns ss ds ps xs j n a b at e in
      record { first = r.first; at = r.at; node = let same : r.first.node ≡ 0 + j = r.node in omega (arith, same) }
