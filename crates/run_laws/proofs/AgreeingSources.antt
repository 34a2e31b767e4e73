-- The sources of lines of a net that was made of a blueprint: what each read.
use Rattle.std.specs.Prelude.{map, slice_get}
use Rattle.std.proofs.Common.{◌≡◌, ℕ, ◌+◌, ◌<◌, List, Some, refl, sym, ap, subst, ◌∙◌, arith}
use Rattle.elem_core.specs.Tree.{text}
use Rattle.elem_core.specs.declared.item.Item.{Item}
use Rattle.port_core.specs.View.{View}
use Rattle.stage_linear.specs.States.{IsLinear}
use Rattle.stage_state.specs.Logics.{IsStateful}
use Rattle.stage_sub.specs.Handling.{IsSub}
use Rattle.stream_model.specs.declared.kind.Kind.TheVariants as kind
use Rattle.stream_model.specs.Graph.{Graph, Edge, find_source}
use Rattle.stream_model.specs.Graph as graph
use Rattle.stream_model.specs.View.{outputs_of}
use Rattle.stream_io.specs.State.{SourceState, DrainState}
use Rattle.stage_core.specs.Held.{told}
use Rattle.port_core.specs.Reading.{sent_of}
use Rattle.fused_net.proofs.Reading.{some_same}
use Rattle.nodes.specs.declared.node.IslandNode.{IslandNode}
use Rattle.nodes.specs.declared.node.IslandNode.TheVariants.{Reading, Making, Linear, State, Sub, FanIn, FanOut, Custom, Writing, Ignoring, Entering, Leaving}
use Rattle.nodes.specs.Kinds.{IsMaker, IsFileSink}
use Rattle.nodes.specs.Nodes.{node_port_state, node_law, node_asking, node_moves}
use Rattle.nodes.specs.Source.{Lines, LinesLaw}
use Rattle.stage_in.specs.Logics.{IsFanIn}
use Rattle.stage_out.specs.OutLogics.{IsOut}
use Rattle.run_laws.specs.Account.{Account, knows, took, gave}
use Rattle.run_laws.proofs.Agreeing.{read_there}
use Rattle.run_laws.proofs.Nodes.{kept_as}
use Rattle.run_laws.specs.Made.{FirstReading, FirstOf}
use Rattle.run_laws.specs.Runs.{IsRun}
use Rattle.run_laws.specs.Reads.{IsSourceAt, SentLines, GivesTexts}
use Rattle.run_laws.proofs.ReadingAhead.{sent_lines}
use Rattle.run_laws.proofs.Readings.{one_port}
use Rattle.stream_model.specs.Linear.{Book}

-- a node of a source's kind is a source
source_cases : {S D L H B : Type 0} (sources : S → SourceState) (drains : D → DrainState) (book : Book) (chains : List graph.Chain) (k : ℕ) (n : graph.Node) (name : List ℕ) (first now : IslandNode S D L H B) (v : View) (took gave : List (List Item))
    → n.kind ≡ kind.Lines name → FirstOf sources chains k n first → node_law sources drains book first now v took gave → (a : Lines S) × ((b : Lines S) × ((first ≡ Reading a) × (now ≡ Reading b)))
source_cases sources drains book chains k n name (Reading first) (Reading now) v took gave is made law = (first, (now, (refl, refl)))
source_cases sources drains book chains k n name (Making first) now v took gave is made law = let e : IsMaker (kind.Lines name) = subst IsMaker is made.is_maker in absurd e
source_cases sources drains book chains k n name (Writing first) now v took gave is made law = let e : IsFileSink (kind.Lines name) = subst IsFileSink is made.is_sink in absurd e
source_cases sources drains book chains k n name (Ignoring first) now v took gave is made law = let e : kind.Ignore ≡ kind.Lines name = sym made.kind_is ∙ is in absurd cc
source_cases sources drains book chains k n name (Linear first) now v took gave is made law = let e : IsLinear (kind.Lines name) = subst IsLinear is made.is_linear in absurd e
source_cases sources drains book chains k n name (State first) now v took gave is made law = let e : IsStateful (kind.Lines name) = subst IsStateful is made.is_state in absurd e
source_cases sources drains book chains k n name (Sub first) now v took gave is made law = let e : IsSub (kind.Lines name) = subst IsSub is made.is_sub in absurd e
source_cases sources drains book chains k n name (FanIn first) now v took gave is made law = let e : IsFanIn (kind.Lines name) = subst IsFanIn is made.is_in in absurd e
source_cases sources drains book chains k n name (FanOut first) now v took gave is made law = let e : IsOut (kind.Lines name) = subst IsOut is made.is_out in absurd e
source_cases sources drains book chains k n name (Custom first) now v took gave is made law = let e : kind.Lines name ≡ kind.Custom made.name = sym is ∙ made.kind_is in cc
source_cases sources drains book chains k n name (Entering first) now v took gave is made law = absurd made
source_cases sources drains book chains k n name (Leaving first) now v took gave is made law = absurd made
source_cases sources drains book chains k n name (Reading first) now v took gave is made law = absurd law

module _ {S D L H B : Type 0} (sources : S → SourceState) (drains : D → DrainState) (book : Book) (g : Graph) (a : Account (IslandNode S D L H B)) (run : IsRun sources drains book g a) where
  -- it is there
  pub source_there : (k : ℕ) (n : graph.Node) (name : List ℕ) → slice_get g.nodes k ≡ Some n → n.kind ≡ kind.Lines name → (first : Lines S) × ((now : Lines S) × IsSourceAt a k first now)
  source_there k n name ni is =
      let m = run.keeps.each_node k n ni in
      let c = source_cases sources drains book g.chains k n name m.first m.now (knows g a k n) (took g a k n) (gave g a k n) is (run.made k n m.first ni m.first_at) m.law_holds in
      (c.0, (c.1.0, record { at_first = m.first_at ∙ ap (λ (y : IslandNode S D L H B). Some y) c.1.1.0; at_last = m.now_at ∙ ap (λ (y : IslandNode S D L H B). Some y) c.1.1.1 }))

  pub every_source : (k : ℕ) (n : graph.Node) (first now : Lines S) (u : ℕ) (v : Edge) (bytes : List ℕ) → slice_get g.nodes k ≡ Some n → IsSourceAt a k first now → slice_get g.wires u ≡ Some v → v.from ≡ k
      → (sources first.reader.source).whole ≡ Some bytes → SentLines bytes (sources first.reader.source) (sources now.reader.source) (a.near u).wire.sent
  every_source k n first now u v bytes ni at ui from whole =
      let m = kept_as node_port_state (node_law sources drains book) node_asking node_moves g a run.keeps k n (Reading first) (Reading now) ni at.at_first at.at_last in
      let its : FirstReading sources k n.kind first = run.made k n (Reading first) ni at.at_first in
      let s = run.joined.source u v ui in
      let same : s.0 ≡ n = some_same s.0 n (sym s.1 ∙ subst (λ (j : ℕ). slice_get g.nodes j ≡ Some n) (sym from) ni) in
      let none : 0 + v.output ≡ v.output = omega arith in
      let within : v.output < outputs_of n = rw same at s.2 in
      let found : find_source k (0 + v.output) g.wires ≡ Some u = rw none (rw from at s.3) in
      let port : slice_get (gave g a k n) v.output ≡ Some (a.near u).wire.sent = read_there g sent_of a.near k 0 (outputs_of n) v.output u within found in
      sent_lines sources first now (knows g a k n) (took g a k n) (gave g a k n) m.law_holds bytes its.kept its.given whole v.output (a.near u).wire.sent port

  -- it sent texts, whatever is told of its file
  pub source_texts : (u : ℕ) (v : Edge) (n : graph.Node) (name : List ℕ) → slice_get g.wires u ≡ Some v → slice_get g.nodes v.from ≡ Some n → n.kind ≡ kind.Lines name → GivesTexts (a.near u).wire.sent
  source_texts u v n name ui ni is =
      let at = source_there v.from n name ni is in
      let m = kept_as node_port_state (node_law sources drains book) node_asking node_moves g a run.keeps v.from n (Reading at.0) (Reading at.1.0) ni at.1.1.at_first at.1.1.at_last in
      let law : LinesLaw sources at.0 at.1.0 (knows g a v.from n) (took g a v.from n) (gave g a v.from n) = m.law_holds in
      let s = run.joined.source u v ui in
      let same : s.0 ≡ n = some_same s.0 n (sym s.1 ∙ ni) in
      let none : 0 + v.output ≡ v.output = omega arith in
      let within : v.output < outputs_of n = rw same at s.2 in
      let found : find_source v.from (0 + v.output) g.wires ≡ Some u = rw none s.3 in
      let port : slice_get (gave g a v.from n) v.output ≡ Some (a.near u).wire.sent = read_there g sent_of a.near v.from 0 (outputs_of n) v.output u within found in
      record {
        texts = law.lines_drawn;
        end = law.end;
        is = one_port (told (map text law.lines_drawn) law.end) v.output (a.near u).wire.sent (rw law.gave_is at port);
      }
