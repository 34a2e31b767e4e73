-- The nodes that stand at the places of a blueprint's nodes are those of its graph.
use Rattle.std.proofs.Common.{◌≡◌, ℕ, zero, suc, ◌+◌, List, [], ◌∷◌, Some, None, Option, refl, ap, sym, ◌∙◌, subst, arith}
use Rattle.std.specs.Prelude.{slice_get}
use Rattle.std.specs.List.{All}
use Rattle.std.proofs.lemmas.List.{length-map}
use Rattle.std.proofs.lemmas.Option.{slice_get_within, get_or_from_slice_get}
use Rattle.stream_model.specs.declared.kind.Kind.{Kind}
use Rattle.stream_model.specs.declared.kind.Kind.TheVariants as kind
use Rattle.stream_io.specs.State.{SourceState}
use Rattle.nodes.specs.declared.node.IslandNode.{IslandNode}
use Rattle.nodes.specs.Kinds.{maker_of, writes_of}
use Rattle.interpreter.specs.declared.parts.Seated.{Seated}
use Rattle.interpreter.specs.declared.parts.Work.{Work}
use Rattle.interpreter.specs.declared.parts.Work.TheVariants as work
use Rattle.interpreter.specs.Parts.{BecomesOf, AllBecome}
use Rattle.interpreter.proofs.Islands.{same_count}
use Rattle.run_laws.specs.Made.{FirstOf}
use Rattle.stream_model.specs.declared.blueprint.Blueprint.{Blueprint}
use Rattle.stream_model.specs.declared.blueprint.Node as blue
use Rattle.materializer.specs.Files.{source_file}
use Rattle.materializer.specs.Firsts.{AreFirsts}
use Rattle.graph_stage.specs.Laws.{CustomFresh}
use Rattle.graph_stage.specs.Making.{unpulled_view}
use Rattle.materializer.specs.Graphs.{Around, graph_node, graph_of, chains_of, around_of}
use Rattle.materializer.specs.Seats.{handle_of, handles_left, IsWork, AreSeats}
use Rattle.materializer.proofs.Joining.{mapped_from}
use Rattle.materializer.proofs.Placing.{reads_lines, seats_count}

-- ---- nodes

module _ {S : Type 0} (sources : S → SourceState) where
  -- no source that is left has handed out a byte
  abbrev NoneGiven : List S → Type 0
  NoneGiven ss = (i : ℕ) (s : S) → slice_get ss i ≡ Some s → (sources s).given ≡ 0

  none_given_left : (o : Option (List ℕ)) (ss : List S) → NoneGiven ss → NoneGiven (handles_left o ss)
  none_given_left None ss h = h
  none_given_left (Some file) [] h = h
  none_given_left (Some file) (s ∷ ss) h = λ i x at. h (suc i) x at

-- the next source, where a node reads a file
next_is : {S : Type 0} (k : Kind) (ss : List S) (s : S) (name : List ℕ) → k ≡ kind.Lines name → handle_of (source_file k) ss ≡ Some s → slice_get ss 0 ≡ Some s
next_is k ss s name e h = sym (ap (λ x. handle_of (source_file x) ss) e) ∙ h

module _ {S D L H B : Type 0} (sources : S → SourceState) where
  work_first : (around : Around) (k room : ℕ) (n : blue.Node) (ss : List S) (ds : List D) (w : Work S D L H B) (x : IslandNode S D L H B) → IsWork around k n ss ds w → BecomesOf k room w x → NoneGiven sources ss → FirstOf sources around.chains k (graph_node around.wires n) x
  work_first around k room n ss ds (work.Reading r) x is b none =
      let l = reads_lines n.kind ss r.source is.source in
      subst (λ y. FirstOf sources around.chains k (graph_node around.wires n) y) (sym b) (record { name = l.0; kind_is = l.1; node = refl; kept = is.kept; given = none 0 r.source (next_is n.kind ss r.source l.0 l.1 is.source) })
  work_first around k room n ss ds (work.Making shape) x is b none = subst (λ y. FirstOf sources around.chains k (graph_node around.wires n) y) (sym b) (record { is_maker = is.is_maker; is = ap (maker_of k) is.shape_is })
  work_first around k room n ss ds (work.Linear l) x is b none = subst (λ y. FirstOf sources around.chains k (graph_node around.wires n) y) (sym b) (record { is_linear = is.is_linear; begins = is.begins })
  work_first around k room n ss ds (work.State l) x is b none = subst (λ y. FirstOf sources around.chains k (graph_node around.wires n) y) (sym b) (record { is_state = is.is_state; begins = is.begins })
  work_first around k room n ss ds (work.Sub l) x is b none = subst (λ y. FirstOf sources around.chains k (graph_node around.wires n) y) (sym b) (record { is_sub = is.is_sub; begins = is.begins; line = is.line })
  work_first around k room n ss ds (work.FanIn l inputs) x is b none = subst (λ y. FirstOf sources around.chains k (graph_node around.wires n) y) (sym b) (record { is_in = is.is_in; begins = is.begins })
  work_first around k room n ss ds (work.FanOut l outputs) x is b none = subst (λ y. FirstOf sources around.chains k (graph_node around.wires n) y) (sym b) (record { is_out = is.is_out; begins = is.begins })
  work_first around k room n ss ds (work.Custom y inputs outputs) x is b none =
      subst (λ z. FirstOf sources around.chains k (graph_node around.wires n) z) (sym b) (record {
        name = is.0.is_custom.0;
        kind_is = is.0.is_custom.1;
        named = is.0.named;
        node = is.0.node_is;
        fresh = subst (λ (u : ℕ × ℕ). CustomFresh y (unpulled_view u.0 u.1)) (sym is.1) is.0.fresh;
      })
  work_first around k room n ss ds (work.LaneIn u) x is b none = absurd is
  work_first around k room n ss ds (work.LaneOut u) x is b none = absurd is
  work_first around k room n ss ds (work.Writing shape (Some d)) x is b none = subst (λ y. FirstOf sources around.chains k (graph_node around.wires n) y) (sym b) (record { is_sink = is.is_sink; node = refl; writes = ap writes_of is.shape_is; count = refl; end = refl })
  work_first around k room n ss ds (work.Writing shape None) x is b none = subst (λ y. FirstOf sources around.chains k (graph_node around.wires n) y) (sym b) (record { kind_is = is.is_ignore; node = refl; end = refl })

  seat_first : (around : Around) (k : ℕ) (n : blue.Node) (ss : List S) (ds : List D) (p : Seated S D L H B) (x : IslandNode S D L H B) → p.node ≡ k → IsWork around k n ss ds p.work → BecomesOf p.node p.room p.work x → NoneGiven sources ss → FirstOf sources around.chains k (graph_node around.wires n) x
  seat_first around k n ss ds p x e is b none = work_first around k p.room n ss ds p.work x is (subst (λ m. BecomesOf m p.room p.work x) e b) none

  pub seats_first : (around : Around) (k : ℕ) (ns : List blue.Node) (ss : List S) (ds : List D) (ps : List (Seated S D L H B)) (xs : List (IslandNode S D L H B)) (j : ℕ) (n : blue.Node) (x : IslandNode S D L H B)
      → AreSeats around k ns ss ds ps → AllBecome ps xs → NoneGiven sources ss → slice_get ns j ≡ Some n → slice_get xs j ≡ Some x → FirstOf sources around.chains (k + j) (graph_node around.wires n) x
  seats_first around k [] ss ds ps xs j n x a b none at is = absurd cc
  seats_first around k (m ∷ ns) ss ds [] xs j n x a b none at is = absurd a
  seats_first around k (m ∷ ns) ss ds (p ∷ ps) [] j n x a b none at is = absurd b
  seats_first around k (m ∷ ns) ss ds (p ∷ ps) (y ∷ ys) zero n x a b none at is =
      let e : m ≡ n = cc in
      let f : y ≡ x = cc in
      let z : k ≡ k + 0 = omega arith in
      subst (λ i. FirstOf sources around.chains i (graph_node around.wires n) x) z (subst (λ u. FirstOf sources around.chains k (graph_node around.wires u) x) e (subst (λ u. FirstOf sources around.chains k (graph_node around.wires m) u) f (seat_first around k m ss ds p y a.0 a.1.0 b.0 none)))
  seats_first around k (m ∷ ns) ss ds (p ∷ ps) (y ∷ ys) (suc j) n x a b none at is =
      let z : k + 1 + j ≡ k + suc j = omega arith in
      subst (λ i. FirstOf sources around.chains i (graph_node around.wires n) x) z (seats_first around (k + 1) ns _ _ ps ys j n x a.1.1 b.1 (none_given_left sources (source_file m.kind) ss none) at is)

-- ---- all nodes

none_given : {S : Type 0} (sources : S → SourceState) (ss : List S) → All (λ s. (sources s).given ≡ 0) ss → NoneGiven sources ss
none_given sources ss all i s at = subst (λ x. (sources x).given ≡ 0) (get_or_from_slice_get ss i s s at) (all i s (slice_get_within ss i s at))

module _ {S D L H B : Type 0} (sources : S → SourceState) (b : Blueprint) (ss : List S) (ds : List D) (places : List (Seated S D L H B)) (firsts : List (IslandNode S D L H B)) where
  pub are_firsts : AreSeats (around_of b) 0 b.nodes.items ss ds places → AllBecome places firsts → All (λ s. (sources s).given ≡ 0) ss → AreFirsts sources (chains_of b) (graph_of b).nodes firsts
  are_firsts a all given = record {
    many = same_count places firsts all ∙ seats_count (around_of b) 0 b.nodes.items ss ds places a ∙ sym (length-map b.nodes.items (graph_node b.wires.items));
    each = λ k n x at is.
        let m = mapped_from (graph_node b.wires.items) b.nodes.items k n at in
        let z : 0 + k ≡ k = omega arith in
        subst (λ u. FirstOf sources (chains_of b) k u x) m.1.1
        (subst (λ i. FirstOf sources (chains_of b) i (graph_node b.wires.items m.0) x) z (seats_first sources (around_of b) 0 b.nodes.items ss ds places firsts k m.0 x a all (none_given sources ss given) m.1.0 is));
  }
