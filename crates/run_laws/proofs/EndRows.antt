-- What the sources and the sinks give of their laws for a picture.
use Rattle.std.specs.Prelude.{slice_index_or}
use Rattle.std.proofs.Common.{◌≡◌, ◌⊎◌, inl, inr, ℕ, zero, suc, ◌≤◌, Bool, true, false, List, [], ◌∷◌, map, get_or, refl, sym, ap, ◌∙◌, arith}
use Rattle.elem_core.specs.declared.item.Item.{Item}
use Rattle.elem_core.specs.declared.why.Decider.{Decider}
use Rattle.elem_core.specs.Tree.{Tree}
use Rattle.elem_core.specs.Items.{elements}
use Rattle.port_core.specs.View.{View}
use Rattle.port_core.specs.declared.view.InView.{InView}
use Rattle.port_core.specs.declared.view.InView.TheVariants.{Pulled, Finished, Cancelled}
use Rattle.port_core.specs.declared.view.OutView.{OutView}
use Rattle.stream_io.specs.State.{SourceState, DrainState}
use Rattle.stream_model.specs.declared.kind.Kind.{Kind}
use Rattle.stream_model.specs.declared.kind.Kind.TheVariants as kind
use Rattle.stream_model.specs.declared.outcome.EndState.{EndState}
use Rattle.stream_model.specs.declared.outcome.EndState.TheVariants.{Ended, Failed, Unended, WriteFault}
use Rattle.stream_model.specs.Graph.{Graph}
use Rattle.stream_model.specs.Graph as graph
use Rattle.stream_model.specs.Node.{World}
use Rattle.stream_model.specs.Outlook.{End, unended}
use Rattle.stream_model.specs.Lawful.{RowLawful}
use Rattle.stream_model.specs.OneWay.{is_sink}
use Rattle.stream_model.specs.Rests.{IsShut, SourceRests, SinkRests, RowRests}
use Rattle.stream_model.specs.View.{EachWire, demand}
use Rattle.stream_model.specs.View as picture
use Rattle.stage_core.specs.Held.{told}
use Rattle.stage_core.specs.Row.{InClosed}
use Rattle.stage_core.specs.declared.phase.Phase.{Phase}
use Rattle.nodes.specs.declared.node.IslandNode.{IslandNode}
use Rattle.nodes.specs.declared.node.IslandNode.TheVariants.{Writing}
use Rattle.nodes.specs.declared.sink.Writes.{Writes}
use Rattle.nodes.specs.declared.sink.Writes.TheVariants.{Each, First, Last}
use Rattle.nodes.specs.Kinds.{IsMaker, IsFileSink, writes_of}
use Rattle.nodes.specs.Nodes.{node_port_state, node_law, node_asking, node_moves}
use Rattle.nodes.specs.Ports.{OneInOf, OneOutOf}
use Rattle.nodes.specs.Source.{lines_port_state_in}
use Rattle.nodes.specs.Sink.{Sink, sink_port_state_in, WritesOf}
use Rattle.run_laws.specs.KindLaws.{Moments, PictureLaws}
use Rattle.run_laws.specs.Ports.{InPort, OutPort, InStands, InRests, OutRests}
use Rattle.run_laws.specs.Picture.{sink_ended}
use Rattle.run_laws.proofs.OnePorts.{one_same, began, not_both}
use Rattle.run_laws.proofs.PictureStages.{lines_ports}

-- ---- the kinds

-- a kind of sources: it has no row of a lawful picture, and rests while it is not asked
pub record SourceRows (g : Graph) (w : World) (kd : Kind) : Type 0 where
  pub lawful : (k : ℕ) (d : Decider) (is os : List picture.SeenWire) → RowLawful g w k kd d is os
  pub no_sink : is_sink kd ≡ false
  pub rests : (k : ℕ) (d : Decider) (is os : List picture.SeenWire) → SourceRests os → RowRests g w k kd d is os

pub maker_rows : (g : Graph) (w : World) (kd : Kind) → IsMaker kd → SourceRows g w kd
maker_rows g w (kind.Range low high) m = record { lawful = λ k d is os. tt; no_sink = refl; rests = λ k d is os r. r }
maker_rows g w (kind.Empty b) m = record { lawful = λ k d is os. tt; no_sink = refl; rests = λ k d is os r. r }
maker_rows g w (kind.Failed b) m = record { lawful = λ k d is os. tt; no_sink = refl; rests = λ k d is os r. r }
maker_rows g w _ m = absurd m

pub lines_rows : (g : Graph) (w : World) (name : List ℕ) → SourceRows g w (kind.Lines name)
lines_rows g w name = record { lawful = λ k d is os. tt; no_sink = refl; rests = λ k d is os r. r }

-- a kind of sinks: of them only one that takes the first has a row of a lawful picture, and all wait where they rest
pub record SinkRows (g : Graph) (w : World) (kd : Kind) (first : Type 0) : Type 0 where
  pub lawful : (k : ℕ) (d : Decider) (is os : List picture.SeenWire) → (first → EachWire (λ i. demand i ≤ 1) is) → RowLawful g w k kd d is os
  pub rests : (k : ℕ) (d : Decider) (is os : List picture.SeenWire) → SinkRests is → RowRests g w k kd d is os

pub file_sink_rows : (g : Graph) (w : World) (kd : Kind) → IsFileSink kd → SinkRows g w kd (writes_of kd ≡ First)
file_sink_rows g w (kind.ToLines name) m = record { lawful = λ k d is os f. tt; rests = λ k d is os r. r }
file_sink_rows g w (kind.Head name) m = record { lawful = λ k d is os f. f refl; rests = λ k d is os r. r }
file_sink_rows g w (kind.Last name) m = record { lawful = λ k d is os f. tt; rests = λ k d is os r. r }
file_sink_rows g w _ m = absurd m

pub ignore_rows : (g : Graph) (w : World) → SinkRows g w kind.Ignore ⊥
ignore_rows g w = record { lawful = λ k d is os f. tt; rests = λ k d is os r. r }

-- ---- one that takes the first, when it last asked

waits_open : (b : Bool) (s : EndState) (ins : List InView) (outs : List OutView) → get_or ins 0 Cancelled ≡ Pulled → OneInOf (sink_port_state_in b s) ins outs → s ≡ Unended
waits_open b s [] outs e r = absurd r
waits_open true Unended (x ∷ []) [] e r = refl
waits_open true Ended (Finished ∷ []) [] e r = cc
waits_open true Ended (Cancelled ∷ []) [] e r = cc
waits_open true (Failed c) (Finished ∷ []) [] e r = cc
waits_open true WriteFault (Finished ∷ []) [] e r = cc
waits_open true WriteFault (Cancelled ∷ []) [] e r = cc
waits_open b s (x ∷ []) [] e r = absurd r
waits_open b s (x ∷ []) (y ∷ outs) e r = absurd r
waits_open b s (x ∷ y ∷ ins) outs e r = absurd r

none_took : (wr : Writes) (n : ℕ) (k : _) (s : EndState) (l w : List Tree) (e : End) → wr ≡ First → s ≡ Unended → WritesOf wr n k s l e w → (l ≡ []) × (e ≡ unended)
none_took First n k Unended l w e a b h = (h.0, h.1.1)
none_took First n k Ended l w e a b h = cc
none_took First n k (Failed c) l w e a b h = cc
none_took First n k WriteFault l w e a b h = cc
none_took Each n k s l w e a b h = cc
none_took Last n k s l w e a b h = cc

none_came : (g : List Item) (l : List Tree) (e : End) → g ≡ told l e → l ≡ [] → e ≡ unended → g ≡ []
none_came g l e is a b = is ∙ ap (λ (x : List Tree). told x e) a ∙ ap (λ (f : End). told [] f) b

-- none was wanted, or some
none_or_some : (n : ℕ) → (n ≤ 1) ⊎ (1 ≤ n)
none_or_some zero = inl (omega arith)
none_or_some (suc n) = inr (omega arith)

module _ {S D : Type 0} (L H B : Type 0) (sources : S → SourceState) (drains : D → DrainState) (g : Graph) (w : World) (k : ℕ) (n : graph.Node) where
  -- when it asked nothing had come to it
  first_moment : (first : Sink D) (x : IslandNode S D L H B) (v : View) (took gave : List (List Item)) (t : List Item) → first.writes ≡ First → node_port_state x v → node_law sources drains w.book (Writing first) x v took gave → get_or v.ins 0 Cancelled ≡ Pulled → took ≡ t ∷ [] → t ≡ []
  first_moment first (Writing x) v took gave t is row law waits at =
      let goes : x.end ≡ Unended = waits_open x.started x.end v.ins v.outs waits row in
      let none = none_took x.writes x.node x.kept x.end law.elems law.wrote law.in_end (law.writes_same ∙ is) goes law.writes in
      none_came t law.elems law.in_end (one_same t (told law.elems law.in_end) (sym at ∙ law.took_is)) none.0 none.1
  first_moment first x v took gave t is row law waits at = absurd law

  -- so it wanted one element at most
  pub first_wants : (first now : Sink D) (i : InPort) → first.writes ≡ First → InStands i
      → ((p : ℕ) → 1 ≤ slice_index_or (i.want ∷ []) p 0 → Moments {N = IslandNode S D L H B} node_port_state (node_law sources drains w.book) node_asking node_moves (Writing first) (Writing now) (i ∷ []) [] p) → demand i.wire ≤ 1
  first_wants first now i is s moments = elim (none_or_some i.want) [
    | inl few ↦ let reach = s.reach in omega (arith, few, reach)
    | inr some ↦
        let e = (moments 0 some).0 in
        let b = began e.had i.got i.want e.took_on e.one_more in
        let none : elements b.part ≡ 0 = ap elements (first_moment first e.old e.knew e.had e.given b.part is e.port_state_held e.law_held e.waited b.is) in
        let reach = s.reach in
        let one = b.one_more in
        omega (arith, none, reach, one)
  ]

  abbrev Laws : IslandNode S D L H B → IslandNode S D L H B → List InPort → List OutPort → Type 0
  Laws first x is os = PictureLaws node_port_state (node_law sources drains w.book) node_asking node_moves sink_ended g w k n first x is os

  -- ---- a source

  source_rests : (o : OutPort) (p : Phase) → OutRests o → lines_port_state_in p o.view → (EachWire IsShut [] × EachWire IsShut (o.wire ∷ [])) ⊎ SourceRests (o.wire ∷ [])
  source_rests o p r row = elim (lines_ports p o.view row) [ inl u ↦ inr (r.unasked u) | inr c ↦ inl (tt, (r.shut c, tt)) ]

  in_row : (is os : List picture.SeenWire) → SourceRows g w n.kind → (EachWire IsShut is × EachWire IsShut os) ⊎ SourceRests os → (EachWire IsShut is × EachWire IsShut os) ⊎ RowRests g w k n.kind n.decider is os
  in_row is os rows (inl h) = inl h
  in_row is os rows (inr h) = inr (rows.rests k n.decider is os h)

  pub source_picture : (first x : IslandNode S D L H B) (p : Phase) (is : List InPort) (os : List OutPort) → SourceRows g w n.kind → OneOutOf (lines_port_state_in p) (map (λ (i : InPort). i.view) is) (map (λ (o : OutPort). o.view) os) → Laws first x is os
  source_picture first x p [] (o ∷ []) rows r = record {
    lawful = λ si so m. rows.lawful k n.decider [] (o.wire ∷ []);
    rests = λ si so ri ro. in_row [] (o.wire ∷ []) rows (source_rests o p ro.0 r);
    matches = λ sink ri. absurd (not_both rows.no_sink sink);
  }
  source_picture first x p [] [] rows r = absurd r
  source_picture first x p [] (o ∷ q ∷ os) rows r = absurd r
  source_picture first x p (i ∷ is) os rows r = absurd r

  -- ---- a sink

  sink_waits : (i : InPort) (t : Bool) → InRests i → ((i.view ≡ Pulled) × (t ≡ false)) ⊎ (InClosed i.view × (t ≡ true)) → (EachWire IsShut (i.wire ∷ []) ⊎ SinkRests (i.wire ∷ [])) × (i.wire.shut ≡ t)
  sink_waits i t r (inl h) = let w = r.waits h.0 in (inr w.0, w.0.1 ∙ sym h.1)
  sink_waits i t r (inr h) = let c = r.shut h.0 in (inl (c, tt), c ∙ sym h.1)

  sink_row : (i : InPort) (F : Type 0) → SinkRows g w n.kind F → EachWire IsShut (i.wire ∷ []) ⊎ SinkRests (i.wire ∷ []) → (EachWire IsShut (i.wire ∷ []) × EachWire IsShut []) ⊎ RowRests g w k n.kind n.decider (i.wire ∷ []) []
  sink_row i F rows (inl h) = inl (h, tt)
  sink_row i F rows (inr h) = inr (rows.rests k n.decider (i.wire ∷ []) [] h)

  pub sink_picture : (first x : IslandNode S D L H B) (F : Type 0) (P : InView → Type 0) (is : List InPort) (os : List OutPort) → SinkRows g w n.kind F → OneInOf P (map (λ (i : InPort). i.view) is) (map (λ (o : OutPort). o.view) os)
      → ((v : InView) → P v → ((v ≡ Pulled) × (sink_ended x ≡ false)) ⊎ (InClosed v × (sink_ended x ≡ true)))
      → ((i : InPort) → is ≡ i ∷ [] → os ≡ [] → InStands i → ((p : ℕ) → 1 ≤ slice_index_or (i.want ∷ []) p 0 → Moments {N = IslandNode S D L H B} node_port_state (node_law sources drains w.book) node_asking node_moves first x (i ∷ []) [] p) → F → demand i.wire ≤ 1)
      → Laws first x is os
  sink_picture first x F P (i ∷ []) [] rows r ports few = record {
    lawful = λ si so m. rows.lawful k n.decider (i.wire ∷ []) [] (λ f. (few i refl refl si.0 m f, tt));
    rests = λ si so ri ro. sink_row i F rows (sink_waits i (sink_ended x) ri.0 (ports i.view r)).0;
    matches = λ sink ri. ((sink_waits i (sink_ended x) ri.0 (ports i.view r)).1, tt);
  }
  sink_picture first x F P [] os rows r ports few = absurd r
  sink_picture first x F P (i ∷ []) (o ∷ os) rows r ports few = absurd r
  sink_picture first x F P (i ∷ j ∷ is) os rows r ports few = absurd r
