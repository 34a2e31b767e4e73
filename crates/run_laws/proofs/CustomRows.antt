-- What a custom stage gives of its law for a picture: one that tells a list has the rows of a plug; one that tells none has no row of a
-- lawful one, and nothing is asked of it where no event is left. And what it sent in a run.
use Rattle.std.proofs.Common.{◌≡◌, ◌⊎◌, inl, inr, ℕ, ◌+◌, ◌<◌, Bool, true, false, List, map, refl, sym, ap, ◌∙◌, subst, arith}
use Rattle.std.specs.Prelude.{slice_get, Some}
use Rattle.elem_core.specs.declared.item.Item.{Item}
use Rattle.elem_core.specs.declared.why.Decider.{Decider}
use Rattle.fused_net.proofs.Reading.{some_same}
use Rattle.graph_stage.proofs.Passing.{outputs_pass}
use Rattle.graph_stage.proofs.Pushes.{gives_typed}
use Rattle.graph_stage.specs.Laws.{CustomLaw}
use Rattle.graph_stage.specs.Passed.{ItemsTyped}
use Rattle.graph_stage.specs.Plugged.{as_plug}
use Rattle.graph_stage.specs.State.{CustomState}
use Rattle.port_core.specs.Reading.{sent_of}
use Rattle.port_core.specs.View.{View, in_at}
use Rattle.port_core.specs.declared.view.InView.TheVariants.{Pulled}
use Rattle.stage_in.specs.Logics.{IsFanIn}
use Rattle.stage_linear.specs.States.{IsLinear}
use Rattle.stage_out.specs.OutLogics.{IsOut}
use Rattle.stage_state.specs.Logics.{IsStateful}
use Rattle.stage_sub.specs.Handling.{IsSub}
use Rattle.stream_io.specs.State.{SourceState, DrainState}
use Rattle.stream_model.specs.declared.kind.Kind.{Kind}
use Rattle.stream_model.specs.declared.kind.Kind.TheVariants as kind
use Rattle.stream_model.specs.Graph.{Graph, Edge}
use Rattle.stream_model.specs.Graph as graph
use Rattle.stream_model.specs.Lawful.{RowLawful, stage_lawful}
use Rattle.stream_model.specs.Linear.{Book, told_book}
use Rattle.stream_model.specs.Node.{World}
use Rattle.stream_model.specs.OneWay.{custom_way, is_sink}
use Rattle.stream_model.specs.Rests.{IsShut, RowRests, custom_rests}
use Rattle.stream_model.specs.View as picture
use Rattle.stream_model.specs.View.{EachWire, outputs_of}
use Rattle.nodes.specs.declared.node.IslandNode.{IslandNode}
use Rattle.nodes.specs.declared.node.IslandNode.TheVariants.{Reading, Making, Linear, State, Sub, FanIn, FanOut, Custom, Writing, Ignoring, Entering, Leaving}
use Rattle.nodes.specs.Kinds.{IsMaker, IsFileSink}
use Rattle.nodes.specs.Nodes.{node_port_state, node_law, node_asking, node_moves}
use Rattle.run_laws.specs.Account.{Account, knows, took, gave}
use Rattle.run_laws.specs.Items.{IsToldList}
use Rattle.run_laws.specs.KindLaws.{PictureLaws}
use Rattle.run_laws.specs.Made.{FirstCustom, FirstOf}
use Rattle.run_laws.specs.Picture.{sink_ended}
use Rattle.run_laws.specs.Ports.{InPort, OutPort, EachPort, InStands, OutStands, InRests, OutRests}
use Rattle.run_laws.specs.Runs.{IsRun}
use Rattle.run_laws.proofs.Agreeing.{read_there}
use Rattle.run_laws.proofs.LinearRows.{Moment, moment_of, staged_picture}
use Rattle.run_laws.proofs.ToldCustoms.{told_world, plug_node, told_first, told_law, told_ports}

neither : (b : Bool) → b ≡ false → b ≡ true → ⊥
neither b e f = cc

module _ (g : Graph) (w : World) (k : ℕ) (name : List ℕ) (d : Decider) where
  -- where it tells a list it has the rows of the plug
  lawful_by : (tells : Bool) (is os : List picture.SeenWire) → (tells ≡ true → RowLawful g (told_world w) k (kind.Plug name) d is os) → stage_lawful g w (custom_way w k name d tells) is os
  lawful_by false is os told = tt
  lawful_by true is os told = told refl

  rests_by : (tells : Bool) (is os : List picture.SeenWire) → (tells ≡ true → RowRests g (told_world w) k (kind.Plug name) d is os) → custom_rests g w (custom_way w k name d tells) is os
  rests_by false is os told = tt
  rests_by true is os told = told refl

module _ (S D L H B : Type 0) (sources : S → SourceState) (drains : D → DrainState) (g : Graph) (w : World) (k : ℕ) (n : graph.Node) where
  -- one that tells a list, as it stood when it last asked at its input
  told_moment : (first : CustomState) (made : FirstCustom k n first) → w.book.tells made.name ≡ true → (x : IslandNode S D L H B) (v : View) (took gave : List (List Item))
      → node_port_state x v → node_law sources drains w.book (Custom first) x v took gave → in_at v 0 ≡ Pulled → Moment (told_book w.book) k (plug_node n made.name) (as_plug n.decider first) v took gave
  told_moment first made tells (Custom l) v took gave r law waits =
      moment_of (told_book w.book) k (plug_node n made.name) (as_plug n.decider first) (as_plug n.decider l) v took gave (told_first w.book k n first l v took gave made tells law)
      (told_ports w.book k n first l v took gave made tells law) (told_law w.book k n first l v took gave made tells law) waits
  told_moment first made tells x v took gave r law waits = absurd law

  module _ (first x : CustomState) (is : List InPort) (os : List OutPort) (f : FirstCustom k n first)
      (law : CustomLaw w.book first x (record { ins = map (λ (i : InPort). i.view) is; outs = map (λ (o : OutPort). o.view) os }) (map (λ (i : InPort). i.got) is) (map (λ (o : OutPort). o.sent) os)) where
    -- the picture of the plug that gives its list
    told_picture : w.book.tells f.name ≡ true
        → PictureLaws {N = IslandNode S D L H B} node_port_state (node_law sources drains w.book) node_asking node_moves sink_ended g (told_world w) k (plug_node n f.name) (Custom first) (Custom x) is os
    told_picture tells =
        let v : View = record { ins = map (λ (i : InPort). i.view) is; outs = map (λ (o : OutPort). o.view) os } in
        let took = map (λ (i : InPort). i.got) is in
        let gave = map (λ (o : OutPort). o.sent) os in
        staged_picture {N = IslandNode S D L H B} node_port_state (node_law sources drains w.book) node_asking node_moves sink_ended g (told_world w) k (plug_node n f.name) (Custom first) (Custom x) (as_plug n.decider first) (as_plug n.decider x)
        (told_first w.book k n first x v took gave f tells law) (λ y z t g r l waits. told_moment first f tells y z t g r l waits) is os
        (told_ports w.book k n first x v took gave f tells law) (told_law w.book k n first x v took gave f tells law)

    abbrev Stands : Type 0
    Stands = (EachWire IsShut (map (λ (i : InPort). i.wire) is) × EachWire IsShut (map (λ (o : OutPort). o.wire) os)) ⊎ RowRests g w k n.kind n.decider (map (λ (i : InPort). i.wire) is) (map (λ (o : OutPort). o.wire) os)

    -- it rests as the plug does, or nothing is asked of it
    rests_as : (tells : Bool) → w.book.tells f.name ≡ tells → EachPort InStands is → EachPort OutStands os → EachPort InRests is → EachPort OutRests os → Stands
    rests_as false e ii oo ri ro =
        inr (subst (λ (q : Kind). RowRests g w k q n.decider (map (λ (i : InPort). i.wire) is) (map (λ (o : OutPort). o.wire) os)) (sym f.kind_is)
        (rests_by g w k f.name n.decider (w.book.tells f.name) (map (λ (i : InPort). i.wire) is) (map (λ (o : OutPort). o.wire) os) (λ t. absurd (neither (w.book.tells f.name) e t))))
    rests_as true e ii oo ri ro =
        elim ((told_picture e).rests ii oo ri ro) as (λ _. Stands) [
          | inl shut ↦ inl shut
          | inr row ↦
              inr (subst (λ (q : Kind). RowRests g w k q n.decider (map (λ (i : InPort). i.wire) is) (map (λ (o : OutPort). o.wire) os)) (sym f.kind_is)
              (rests_by g w k f.name n.decider (w.book.tells f.name) (map (λ (i : InPort). i.wire) is) (map (λ (o : OutPort). o.wire) os) (λ t. row)))
        ]

    pub custom_picture : PictureLaws {N = IslandNode S D L H B} node_port_state (node_law sources drains w.book) node_asking node_moves sink_ended g w k n (Custom first) (Custom x) is os
    custom_picture = record {
      lawful = λ ii oo m.
          subst (λ (q : Kind). RowLawful g w k q n.decider (map (λ (i : InPort). i.wire) is) (map (λ (o : OutPort). o.wire) os)) (sym f.kind_is)
          (lawful_by g w k f.name n.decider (w.book.tells f.name) (map (λ (i : InPort). i.wire) is) (map (λ (o : OutPort). o.wire) os) (λ t. (told_picture t).lawful ii oo m));
      rests = rests_as (w.book.tells f.name) refl;
      matches = λ sink ri. let here : is_sink (kind.Custom f.name) ≡ true = ap is_sink (sym f.kind_is) ∙ sink in absurd cc;
    }

-- ---- in a run

abbrev as_node : {S D L H B : Type 0} → CustomState → IslandNode S D L H B
as_node x = Custom x

one_custom : {S D L H B : Type 0} (x y : CustomState) → as_node {S = S} {D = D} {L = L} {H = H} {B = B} x ≡ as_node y → x ≡ y
one_custom x y e = cc

-- a node of a custom stage's kind is one
custom_cases : {S D L H B : Type 0} (sources : S → SourceState) (drains : D → DrainState) (book : Book) (chains : List graph.Chain) (k : ℕ) (n : graph.Node) (name : List ℕ) (first now : IslandNode S D L H B) (v : View) (took gave : List (List Item))
    → n.kind ≡ kind.Custom name → FirstOf sources chains k n first → node_law sources drains book first now v took gave → (a : CustomState) × ((b : CustomState) × ((first ≡ Custom a) × (now ≡ Custom b)))
custom_cases sources drains book chains k n name (Custom first) (Custom now) v took gave is made law = (first, (now, (refl, refl)))
custom_cases sources drains book chains k n name (Reading first) now v took gave is made law = let e : kind.Custom name ≡ kind.Lines made.name = sym is ∙ made.kind_is in absurd cc
custom_cases sources drains book chains k n name (Making first) now v took gave is made law = let e : IsMaker (kind.Custom name) = subst IsMaker is made.is_maker in absurd e
custom_cases sources drains book chains k n name (Writing first) now v took gave is made law = let e : IsFileSink (kind.Custom name) = subst IsFileSink is made.is_sink in absurd e
custom_cases sources drains book chains k n name (Ignoring first) now v took gave is made law = let e : kind.Ignore ≡ kind.Custom name = sym made.kind_is ∙ is in absurd cc
custom_cases sources drains book chains k n name (Linear first) now v took gave is made law = let e : IsLinear (kind.Custom name) = subst IsLinear is made.is_linear in absurd e
custom_cases sources drains book chains k n name (State first) now v took gave is made law = let e : IsStateful (kind.Custom name) = subst IsStateful is made.is_state in absurd e
custom_cases sources drains book chains k n name (Sub first) now v took gave is made law = let e : IsSub (kind.Custom name) = subst IsSub is made.is_sub in absurd e
custom_cases sources drains book chains k n name (FanIn first) now v took gave is made law = let e : IsFanIn (kind.Custom name) = subst IsFanIn is made.is_in in absurd e
custom_cases sources drains book chains k n name (FanOut first) now v took gave is made law = let e : IsOut (kind.Custom name) = subst IsOut is made.is_out in absurd e
custom_cases sources drains book chains k n name (Entering first) now v took gave is made law = absurd made
custom_cases sources drains book chains k n name (Leaving first) now v took gave is made law = absurd made
custom_cases sources drains book chains k n name (Custom first) now v took gave is made law = absurd law

module _ {S D L H B : Type 0} (sources : S → SourceState) (drains : D → DrainState) (book : Book) (g : Graph) (a : Account (IslandNode S D L H B)) (run : IsRun sources drains book g a) where
  -- it is there, as it was and as it is
  pub custom_there : (k : ℕ) (n : graph.Node) (name : List ℕ) → slice_get g.nodes k ≡ Some n → n.kind ≡ kind.Custom name
      → (first : CustomState) × ((now : CustomState) × ((a.firsts k ≡ Some (Custom first)) × ((a.nodes k ≡ Some (Custom now)) × CustomLaw book first now (knows g a k n) (took g a k n) (gave g a k n))))
  custom_there k n name ni is =
      let m = run.keeps.each_node k n ni in
      let c = custom_cases sources drains book g.chains k n name m.first m.now (knows g a k n) (took g a k n) (gave g a k n) is (run.made k n m.first ni m.first_at) m.law_holds in
      let begun : node_law sources drains book (Custom c.0) m.now (knows g a k n) (took g a k n) (gave g a k n) =
      subst (λ (x : IslandNode S D L H B). node_law sources drains book x m.now (knows g a k n) (took g a k n) (gave g a k n)) c.1.1.0 m.law_holds in
      let law : CustomLaw book c.0 c.1.0 (knows g a k n) (took g a k n) (gave g a k n) =
      subst (λ (x : IslandNode S D L H B). node_law sources drains book (Custom c.0) x (knows g a k n) (took g a k n) (gave g a k n)) c.1.1.1 begun in
      (c.0, (c.1.0, (m.first_at ∙ ap (λ (x : IslandNode S D L H B). Some x) c.1.1.0, (m.now_at ∙ ap (λ (x : IslandNode S D L H B). Some x) c.1.1.1, law))))

  -- what it gave on an output is what was sent on the wire there
  sent_there : (u : ℕ) (v : Edge) (n : graph.Node) → slice_get g.wires u ≡ Some v → slice_get g.nodes v.from ≡ Some n → slice_get (gave g a v.from n) v.output ≡ Some (a.near u).wire.sent
  sent_there u v n ui ni =
      let s = run.joined.source u v ui in
      let same : s.0 ≡ n = some_same s.0 n (sym s.1 ∙ ni) in
      let none : 0 + v.output ≡ v.output = omega arith in
      let within : v.output < outputs_of n = rw same at s.2 in
      read_there g sent_of a.near v.from 0 (outputs_of n) v.output u within (rw none s.3)

  -- what it sent is a list, and how it stands
  pub custom_sent : (u : ℕ) (v : Edge) (n : graph.Node) (name : List ℕ) → slice_get g.wires u ≡ Some v → slice_get g.nodes v.from ≡ Some n → n.kind ≡ kind.Custom name → IsToldList (a.near u).wire.sent
  custom_sent u v n name ui ni is =
      let c = custom_there v.from n name ni is in
      let passed = (outputs_pass c.0 c.1.0 (knows g a v.from n) (took g a v.from n) (gave g a v.from n) c.1.1.1.1).1 v.output (a.near u).wire.sent (sent_there u v n ui ni) in
      record { list = passed.list; end = passed.end; is = passed.is }

  -- and all of it is of the type of the output
  pub custom_typed : (u : ℕ) (v : Edge) (n : graph.Node) (name : List ℕ) → slice_get g.wires u ≡ Some v → slice_get g.nodes v.from ≡ Some n → n.kind ≡ kind.Custom name
      → (first : CustomState) → a.firsts v.from ≡ Some (Custom first) → ItemsTyped (slice_get first.types v.output) (a.near u).wire.sent
  custom_typed u v n name ui ni is first at =
      let c = custom_there v.from n name ni is in
      let same : c.0 ≡ first = one_custom c.0 first (some_same (as_node c.0) (as_node first) (sym c.1.1.0 ∙ at)) in
      let typed = gives_typed c.0 c.1.0 (knows g a v.from n) (took g a v.from n) (gave g a v.from n) c.1.1.1.1 v.output (a.near u).wire.sent (sent_there u v n ui ni) in
      subst (λ (x : CustomState). ItemsTyped (slice_get x.types v.output) (a.near u).wire.sent) same typed
