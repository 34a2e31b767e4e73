-- The sinks of a net that was made of a blueprint, by their outlooks.
use Rattle.std.specs.Prelude.{Option, slice_get, slice_index_or}
use Rattle.std.proofs.Common.{◌≡◌, ◌≢◌, ◌⊎◌, inl, inr, ℕ, ◌+◌, ◌<◌, ◌≤◌, false, List, [], ◌∷◌, length, get_or, Some, refl, sym, ap, subst, ◌∙◌, arith}
use Rattle.elem_core.specs.Tree.{Tree}
use Rattle.elem_core.specs.Items.{elements}
use Rattle.elem_core.specs.declared.item.Item.{Item}
use Rattle.port_core.specs.Joint.{IsSound}
use Rattle.port_core.specs.View.{View}
use Rattle.port_core.specs.declared.view.InView.{InView}
use Rattle.port_core.specs.declared.view.InView.TheVariants.{Cancelled}
use Rattle.stream_model.specs.declared.kind.Kind.{Kind}
use Rattle.stream_model.specs.declared.kind.Kind.TheVariants as kind
use Rattle.stream_model.specs.declared.outcome.EndState.{EndState}
use Rattle.stream_model.specs.declared.outcome.EndState.TheVariants.{Unended, WriteFault}
use Rattle.stream_model.specs.Sources.{whole_lines}
use Rattle.stream_model.specs.Outlook.{Outlook, End, unended, ended, failed, Agrees}
use Rattle.stream_model.specs.Graph.{Graph, Edge}
use Rattle.stream_model.specs.Graph as graph
use Rattle.stream_model.specs.Node.{World, nothing, head_of, of_work}
use Rattle.stream_model.specs.Composed.{inputs_by, inputs_of, count_from, ports_of, composed, sink_outlook}
use Rattle.stream_model.proofs.Compositions.{slice_get-below}
use Rattle.stream_io.specs.State.{SourceState, DrainState}
use Rattle.stream_model.specs.Linear.{Book, Work, passing, work_of}
use Rattle.stage_core.specs.Held.{told}
use Rattle.stage_core.specs.Law.{TookAs}
use Rattle.stage_linear.specs.States.{IsLinear}
use Rattle.stage_state.specs.Logics.{IsStateful}
use Rattle.stage_sub.specs.Handling.{IsSub}
use Rattle.port_core.specs.Marks.{wanted}
use Rattle.port_core.specs.Reading.{inp_of, got_of}
use Rattle.nodes.specs.declared.node.IslandNode.{IslandNode}
use Rattle.nodes.specs.declared.node.IslandNode.TheVariants.{Reading, Making, Linear, State, Sub, FanIn, FanOut, Custom, Writing, Ignoring, Entering, Leaving}
use Rattle.nodes.specs.Nodes.{node_port_state, node_law, node_asking, node_moves}
use Rattle.nodes.specs.Ports.{OneInOf}
use Rattle.nodes.specs.Kinds.{IsMaker, IsFileSink, writes_of}
use Rattle.nodes.specs.declared.sink.Writes.{Writes}
use Rattle.nodes.specs.declared.sink.Writes.TheVariants.{Each}
use Rattle.nodes.specs.Sink.{Sink, late_in, sink_late, sink_port_state_in, WrotePart, SinkStandsAs, end_seen, WritesOf, SinkLaw}
use Rattle.nodes.specs.Ignoring.{Ignorer, ignore_port_state_in, IgnoreLaw}
use Rattle.nodes.proofs.SinkTexts.{has_lines}
use Rattle.stage_in.specs.Logics.{IsFanIn}
use Rattle.stage_out.specs.OutLogics.{IsOut}
use Rattle.run_laws.specs.Account.{Account, knows, took, gave, ins_wanted, outs_wanted, outs_shut, Earlier, IsStill}
use Rattle.run_laws.proofs.Coming.{elements_told, no_fewer}
use Rattle.run_laws.proofs.Nodes.{KeptAs, kept_as, one_input, read_one}
use Rattle.run_laws.specs.Made.{FirstWriting, FirstIgnoring, FirstOf}
use Rattle.run_laws.specs.Runs.{IsRun}
use Rattle.run_laws.specs.Sinks.{TookList, SinkTells, SentTo, IsSinkAt, IgnoreTells, IsIgnorerAt}
use Rattle.run_laws.proofs.OutlookCounting.{over_of, over_failed, over_few, sent_by, rests_by, ignored_by}
use Rattle.run_laws.proofs.Faults.{sent_wanted, few_behind}
use Rattle.run_laws.specs.Items.{AllMayPass}
use Rattle.run_laws.proofs.Passing.{passing_agrees}
use Rattle.run_laws.proofs.Sinks.{sink_each, sink_took, sink_tells}
use Rattle.run_laws.proofs.Written.{work_by, file_sink_work, end_by, written_agrees}
use Rattle.run_laws.proofs.Writings.{file_sink_inputs}

-- a sink is of no other kind
not_linear : (shape : Kind) → IsFileSink shape → IsLinear shape → ⊥
not_linear (kind.ToLines name) h i = i
not_linear (kind.Head name) h i = i
not_linear (kind.Last name) h i = i
not_linear _ h i = h

not_stateful : (shape : Kind) → IsFileSink shape → IsStateful shape → ⊥
not_stateful (kind.ToLines name) h i = i
not_stateful (kind.Head name) h i = i
not_stateful (kind.Last name) h i = i
not_stateful _ h i = h

not_sub : (shape : Kind) → IsFileSink shape → IsSub shape → ⊥
not_sub (kind.ToLines name) h i = i
not_sub (kind.Head name) h i = i
not_sub (kind.Last name) h i = i
not_sub _ h i = h

not_maker : (shape : Kind) → IsFileSink shape → IsMaker shape → ⊥
not_maker (kind.ToLines name) h i = i
not_maker (kind.Head name) h i = i
not_maker (kind.Last name) h i = i
not_maker _ h i = h

not_fan_in : (shape : Kind) → IsFileSink shape → IsFanIn shape → ⊥
not_fan_in (kind.ToLines name) h i = i
not_fan_in (kind.Head name) h i = i
not_fan_in (kind.Last name) h i = i
not_fan_in _ h i = h

not_fan_out : (shape : Kind) → IsFileSink shape → IsOut shape → ⊥
not_fan_out (kind.ToLines name) h i = i
not_fan_out (kind.Head name) h i = i
not_fan_out (kind.Last name) h i = i
not_fan_out _ h i = h

-- a node of such a kind is a sink with a file
sink_cases : {S D L H B : Type 0} (sources : S → SourceState) (drains : D → DrainState) (book : Book) (chains : List graph.Chain) (k : ℕ) (n : graph.Node) (first now : IslandNode S D L H B) (v : View) (took gave : List (List Item))
    → IsFileSink n.kind → FirstOf sources chains k n first → node_law sources drains book first now v took gave → (a : Sink D) × ((b : Sink D) × ((first ≡ Writing a) × (now ≡ Writing b)))
sink_cases sources drains book chains k n (Writing first) (Writing now) v took gave is made law = (first, (now, (refl, refl)))
sink_cases sources drains book chains k n (Reading first) now v took gave is made law = let e : IsFileSink (kind.Lines made.name) = subst IsFileSink made.kind_is is in absurd e
sink_cases sources drains book chains k n (Making first) now v took gave is made law = absurd (not_maker n.kind is made.is_maker)
sink_cases sources drains book chains k n (Linear first) now v took gave is made law = absurd (not_linear n.kind is made.is_linear)
sink_cases sources drains book chains k n (State first) now v took gave is made law = absurd (not_stateful n.kind is made.is_state)
sink_cases sources drains book chains k n (Sub first) now v took gave is made law = absurd (not_sub n.kind is made.is_sub)
sink_cases sources drains book chains k n (FanIn first) now v took gave is made law = absurd (not_fan_in n.kind is made.is_in)
sink_cases sources drains book chains k n (FanOut first) now v took gave is made law = absurd (not_fan_out n.kind is made.is_out)
sink_cases sources drains book chains k n (Custom first) now v took gave is made law = absurd (subst IsFileSink made.kind_is is)
sink_cases sources drains book chains k n (Ignoring first) now v took gave is made law = let e : IsFileSink kind.Ignore = subst IsFileSink made.kind_is is in absurd e
sink_cases sources drains book chains k n (Entering first) now v took gave is made law = absurd made
sink_cases sources drains book chains k n (Leaving first) now v took gave is made law = absurd made
sink_cases sources drains book chains k n (Writing first) now v took gave is made law = absurd law

-- and one that keeps nothing
ignore_cases : {S D L H B : Type 0} (sources : S → SourceState) (drains : D → DrainState) (book : Book) (chains : List graph.Chain) (k : ℕ) (n : graph.Node) (first now : IslandNode S D L H B) (v : View) (took gave : List (List Item))
    → n.kind ≡ kind.Ignore → FirstOf sources chains k n first → node_law sources drains book first now v took gave → (a : Ignorer) × ((b : Ignorer) × ((first ≡ Ignoring a) × (now ≡ Ignoring b)))
ignore_cases sources drains book chains k n (Ignoring first) (Ignoring now) v took gave is made law = (first, (now, (refl, refl)))
ignore_cases sources drains book chains k n (Reading first) now v took gave is made law = let e : kind.Lines made.name ≡ kind.Ignore = sym made.kind_is ∙ is in absurd cc
ignore_cases sources drains book chains k n (Making first) now v took gave is made law = let e : IsMaker kind.Ignore = subst IsMaker is made.is_maker in absurd e
ignore_cases sources drains book chains k n (Linear first) now v took gave is made law = let e : IsLinear kind.Ignore = subst IsLinear is made.is_linear in absurd e
ignore_cases sources drains book chains k n (State first) now v took gave is made law = let e : IsStateful kind.Ignore = subst IsStateful is made.is_state in absurd e
ignore_cases sources drains book chains k n (Sub first) now v took gave is made law = let e : IsSub kind.Ignore = subst IsSub is made.is_sub in absurd e
ignore_cases sources drains book chains k n (FanIn first) now v took gave is made law = let e : IsFanIn kind.Ignore = subst IsFanIn is made.is_in in absurd e
ignore_cases sources drains book chains k n (FanOut first) now v took gave is made law = let e : IsOut kind.Ignore = subst IsOut is made.is_out in absurd e
ignore_cases sources drains book chains k n (Custom first) now v took gave is made law = let e : kind.Ignore ≡ kind.Custom made.name = sym is ∙ made.kind_is in cc
ignore_cases sources drains book chains k n (Writing first) now v took gave is made law = let e : IsFileSink kind.Ignore = subst IsFileSink is made.is_sink in absurd e
ignore_cases sources drains book chains k n (Entering first) now v took gave is made law = absurd made
ignore_cases sources drains book chains k n (Leaving first) now v took gave is made law = absurd made
ignore_cases sources drains book chains k n (Ignoring first) now v took gave is made law = absurd law

module _ {S D L H B : Type 0} (sources : S → SourceState) (drains : D → DrainState) (book : Book) (g : Graph) (a : Account (IslandNode S D L H B)) (run : IsRun sources drains book g a) where
  -- node k, which was handed in as one and is the other now
  abbrev At : ℕ → graph.Node → IslandNode S D L H B → IslandNode S D L H B → Type 0
  At k n first now = KeptAs node_port_state (node_law sources drains book) node_asking node_moves g a k n first now

  -- it is there
  pub sink_there : (k : ℕ) (n : graph.Node) → slice_get g.nodes k ≡ Some n → IsFileSink n.kind → (first : Sink D) × ((now : Sink D) × IsSinkAt a k first now)
  sink_there k n ni is =
      let m = run.keeps.each_node k n ni in
      let c = sink_cases sources drains book g.chains k n m.first m.now (knows g a k n) (took g a k n) (gave g a k n) is (run.made k n m.first ni m.first_at) m.law_holds in
      (c.0, (c.1.0, record { at_first = m.first_at ∙ ap (λ (y : IslandNode S D L H B). Some y) c.1.1.0; at_last = m.now_at ∙ ap (λ (y : IslandNode S D L H B). Some y) c.1.1.1 }))

  sink_at : (k : ℕ) (n : graph.Node) (first now : Sink D) → slice_get g.nodes k ≡ Some n → IsSinkAt a k first now → At k n (Writing first) (Writing now)
  sink_at k n first now ni at = kept_as node_port_state (node_law sources drains book) node_asking node_moves g a run.keeps k n (Writing first) (Writing now) ni at.at_first at.at_last

  -- its law
  pub sink_law : (k : ℕ) (n : graph.Node) (first now : Sink D) → slice_get g.nodes k ≡ Some n → IsSinkAt a k first now → SinkLaw drains first now (knows g a k n) (took g a k n) (gave g a k n)
  sink_law k n first now ni at = (sink_at k n first now ni at).law_holds

  pub ignorer_there : (k : ℕ) (n : graph.Node) → slice_get g.nodes k ≡ Some n → n.kind ≡ kind.Ignore → (first : Ignorer) × ((now : Ignorer) × IsIgnorerAt a k first now)
  ignorer_there k n ni is =
      let m = run.keeps.each_node k n ni in
      let c = ignore_cases sources drains book g.chains k n m.first m.now (knows g a k n) (took g a k n) (gave g a k n) is (run.made k n m.first ni m.first_at) m.law_holds in
      (c.0, (c.1.0, record { at_first = m.first_at ∙ ap (λ (y : IslandNode S D L H B). Some y) c.1.1.0; at_last = m.now_at ∙ ap (λ (y : IslandNode S D L H B). Some y) c.1.1.1 }))

  ignore_at : (k : ℕ) (n : graph.Node) (first now : Ignorer) → slice_get g.nodes k ≡ Some n → IsIgnorerAt a k first now → At k n (Ignoring first) (Ignoring now)
  ignore_at k n first now ni at = kept_as node_port_state (node_law sources drains book) node_asking node_moves g a run.keeps k n (Ignoring first) (Ignoring now) ni at.at_first at.at_last

  its_first : (k : ℕ) (n : graph.Node) (first now : Sink D) → slice_get g.nodes k ≡ Some n → IsSinkAt a k first now → FirstWriting k n.kind first
  its_first k n first now ni at = run.made k n (Writing first) ni at.at_first

  -- which elements it writes
  writes_are : (k : ℕ) (n : graph.Node) (first now : Sink D) → slice_get g.nodes k ≡ Some n → IsSinkAt a k first now → now.writes ≡ writes_of n.kind
  writes_are k n first now ni at = (sink_law k n first now ni at).writes_same ∙ (its_first k n first now ni at).writes

  writes_each : (k : ℕ) (n : graph.Node) (name : List ℕ) (first now : Sink D) → slice_get g.nodes k ≡ Some n → n.kind ≡ kind.ToLines name → IsSinkAt a k first now → now.writes ≡ Each
  writes_each k n name first now ni is at = writes_are k n first now ni at ∙ ap writes_of is

  -- the wire of a node with one input: what it knows of it, took there and wants
  record OneWire (k : ℕ) (n : graph.Node) (u : ℕ) : Type 0 where
    ins : (knows g a k n).ins ≡ (a.far u).wire.inp ∷ []
    came : took g a k n ≡ (a.far u).wire.got ∷ []
    wants : ins_wanted g a k n ≡ wanted (a.far u) ∷ []

  one_wire : (k : ℕ) (n : graph.Node) (u : ℕ) (v : Edge) → slice_get g.nodes k ≡ Some n → inputs_of n ≡ 1 → slice_get g.wires u ≡ Some v → v.to ≡ k → OneWire k n u
  one_wire k n u v ni one ui to =
      let found = one_input g run.joined k n u v ni one ui to in
      record { ins = read_one g inp_of a.far k (inputs_of n) u one found; came = read_one g got_of a.far k (inputs_of n) u one found; wants = read_one g wanted a.far k (inputs_of n) u one found }

  heads_same : (x y : List Item) → x ∷ [] ≡ y ∷ [] → x ≡ y
  heads_same x y e = cc

  -- a sink of lines, over its wire
  module _ (k : ℕ) (n : graph.Node) (name : List ℕ) (first now : Sink D) (u : ℕ) (v : Edge) (ni : slice_get g.nodes k ≡ Some n) (is : n.kind ≡ kind.ToLines name) (at : IsSinkAt a k first now) (ui : slice_get g.wires u ≡ Some v) (to : v.to ≡ k) where
    law : SinkLaw drains first now (knows g a k n) (took g a k n) (gave g a k n)
    law = sink_law k n first now ni at

    wire : OneWire k n u
    wire = one_wire k n u v ni (ap (inputs_by n.head) is) ui to

    each : (law.wrote ≡ law.elems) × (now.end ≢ WriteFault → law.in_end ≡ end_seen now.end)
    each = sink_each drains first now (knows g a k n) (took g a k n) (gave g a k n) law nothing (writes_each k n name first now ni is at)

    row_here : OneInOf (sink_port_state_in now.started now.end) ((a.far u).wire.inp ∷ []) (knows g a k n).outs
    row_here = subst (λ (l : List InView). OneInOf (sink_port_state_in now.started now.end) l (knows g a k n).outs) wire.ins (sink_at k n first now ni at).port_state_holds

    seen : TookAs (a.far u).wire.inp law.in_end
    seen = subst (λ (x : InView). TookAs x law.in_end) (ap (λ (l : List InView). get_or l 0 Cancelled) wire.ins) law.took_as

    got : (a.far u).wire.got ≡ told law.elems law.in_end
    got = heads_same (a.far u).wire.got (told law.elems law.in_end) (sym wire.came ∙ law.took_is)

    sound : (q : _) × IsSound (a.far u).wire q
    sound = run.keeps.far_sound u (slice_get-below g.wires u v ui)

    -- few were asked for behind a write that failed, where its input went on
    abbrev FewMore : Type 0
    FewMore = (elements (a.far u).wire.sent ≤ elements (a.far u).wire.got) ⊎ ((now.gather.passed + 1 < now.gather.room) × (elements (a.far u).wire.sent ≤ elements (a.far u).wire.got + 1))

    few_open : now.end ≡ WriteFault → law.in_end ≡ unended → FewMore
    few_open fault open_end =
        let part : WrotePart (drains first.drain) (drains now.drain) law.wrote now.count = subst (λ (s : EndState). SinkStandsAs s now.gather (drains first.drain) (drains now.drain) law.wrote now.count) fault law.stands in
        let some : now.count < length law.wrote = part.lost in
        let same : length law.wrote ≡ length law.elems = ap length each.0 in
        let open_got : (a.far u).wire.got ≡ told law.elems unended = rw open_end at got in
        let all : elements (a.far u).wire.got ≡ length law.elems = ap elements open_got ∙ elements_told law.elems unended in
        let came = no_fewer (a.far u).wire sound.0 sound.1 in
        let least : elements (a.far u).wire.sent ≤ wanted (a.far u) = sent_wanted (elements (a.far u).wire.sent) (a.far u).asked in
        let wants : slice_index_or (ins_wanted g a k n) 0 0 ≡ wanted (a.far u) = ap (λ (l : List ℕ). slice_index_or l 0 0) wire.wants in
        let one : inputs_of n ≡ 1 = ap (inputs_by n.head) is in
        let asked : 1 ≤ slice_index_or (ins_wanted g a k n) 0 0 = omega (arith, some, same, all, came, least, wants) in
        let e = (sink_at k n first now ni at).asks 0 (omega (arith, one)) asked in
        let e' = subst (λ (l : List (List Item)). Earlier {N = IslandNode S D L H B} node_port_state (node_law sources drains book) node_asking node_moves 0 (Writing first) (Writing now) l [] (ins_wanted g a k n) (outs_wanted g a k n) (outs_shut g a k n)) wire.came
        (subst (λ (l : List (List Item)). Earlier {N = IslandNode S D L H B} node_port_state (node_law sources drains book) node_asking node_moves 0 (Writing first) (Writing now) (took g a k n) l (ins_wanted g a k n) (outs_wanted g a k n) (outs_shut g a k n)) law.gave_is e) in
        elim (few_behind sources drains book first now fault (a.far u).wire.got (ins_wanted g a k n) (outs_wanted g a k n) (outs_shut g a k n) e' law.elems open_got) [
          | inl few ↦ inl (omega (arith, few, least, wants))
          | inr some ↦ let few = some.1 in inr (some.0, omega (arith, few, least, wants))
        ]

    -- and behind its end nothing comes
    few_by : now.end ≡ WriteFault → (f : End) → law.in_end ≡ f → FewMore
    few_by fault unended is = few_open fault is
    few_by fault ended is = inl (over_few (a.far u).wire sound.0 sound.1 (over_of (a.far u).wire.inp (rw is at seen)))
    few_by fault (failed c) is = inl (over_few (a.far u).wire sound.0 sound.1 (over_failed (a.far u).wire.inp c (rw is at seen)))

    few_more : now.end ≡ WriteFault → FewMore
    few_more fault = few_by fault law.in_end refl

    -- how many elements were sent to it
    pub sink_sent : SentTo now.gather.room now.end (elements (a.far u).wire.sent) now.count
    sink_sent = sent_by (a.far u).wire sound.0 sound.1 now.started (knows g a k n).outs law.elems law.in_end got seen (drains first.drain) (drains now.drain) now.gather law.wrote now.count each.0 law.paced now.end few_more each.1 row_here law.stands

    pub sink_rests : IsStill g a → now.end ≡ Unended → sink_late now ≡ 0 → elements (a.far u).wire.sent ≡ now.count
    sink_rests still goes put =
        rests_by (a.far u).wire false (still.far u (slice_get-below g.wires u v ui)) now.started (knows g a k n).outs law.elems law.in_end got seen (drains first.drain) (drains now.drain) now.gather law.wrote now.count each.0 law.paced now.end goes (sym (ap (λ (s : EndState). late_in s now.gather.late) goes) ∙ put) refl row_here law.stands

  -- and how many lines it wrote
  pub sink_lines : (k : ℕ) (n : graph.Node) (first now : Sink D) (written : List ℕ) → slice_get g.nodes k ≡ Some n → IsSinkAt a k first now → (drains first.drain).holds ≡ Some [] → (drains now.drain).holds ≡ Some written
      → whole_lines (length written) written ≡ now.count
  sink_lines k n first now written ni at h l = (has_lines drains first now (knows g a k n) (took g a k n) (gave g a k n) written (sink_law k n first now ni at) h l).0

  -- where what came to each node agrees with what a world lets come
  module _ (w : World) (agrees_in : (k : ℕ) (n : graph.Node) → slice_get g.nodes k ≡ Some n → AllMayPass (ports_of g w (composed g w) k (count_from 0 (inputs_of n))) (took g a k n)) where
    -- the outlook of what comes to a sink
    abbrev comes_in : ℕ → Outlook
    comes_in k = head_of (ports_of g w (composed g w) k (count_from 0 1))

    -- what came to its input agrees with that
    input_agrees : (k : ℕ) (n : graph.Node) (l : List Tree) (e : End) → slice_get g.nodes k ≡ Some n → inputs_of n ≡ 1 → took g a k n ≡ told l e ∷ [] → Agrees (comes_in k) l e
    input_agrees k n l e ni one_in is =
        let all : AllMayPass (ports_of g w (composed g w) k (count_from 0 (inputs_of n))) (told l e ∷ []) = subst (λ (h : List (List Item)). AllMayPass (ports_of g w (composed g w) k (count_from 0 (inputs_of n))) h) is (agrees_in k n ni) in
        let one : AllMayPass (ports_of g w (composed g w) k (count_from 0 1)) (told l e ∷ []) = subst (λ (c : ℕ). AllMayPass (ports_of g w (composed g w) k (count_from 0 c)) (told l e ∷ [])) one_in all in
        one.0 l e refl

    -- what it was to write agrees with its outlook
    pub its_list : (k : ℕ) (n : graph.Node) (first now : Sink D) → (ni : slice_get g.nodes k ≡ Some n) → (at : IsSinkAt a k first now)
        → Agrees (sink_outlook g w k n) (sink_law k n first now ni at).wrote (end_by now.end now.writes)
    its_list k n first now ni at =
        let law = sink_law k n first now ni at in
        let its : FirstWriting k n.kind first = its_first k n first now ni at in
        let node : now.node ≡ k = law.node ∙ its.node in
        let came : Agrees (comes_in k) law.elems law.in_end = input_agrees k n law.elems law.in_end ni (file_sink_inputs n.head n.kind its.is_sink) law.took_is in
        let writes : WritesOf now.writes k now.kept now.end law.elems law.in_end law.wrote = subst (λ (x : ℕ). WritesOf now.writes x now.kept now.end law.elems law.in_end law.wrote) node law.writes in
        let work : work_of n.kind ≡ Some (work_by now.writes) = file_sink_work n.kind its.is_sink ∙ ap (λ (x : Writes). Some (work_by x)) (sym (writes_are k n first now ni at)) in
        subst (λ (x : Option Work). Agrees (of_work w.book k n.decider x (ports_of g w (composed g w) k (count_from 0 1))) law.wrote (end_by now.end now.writes)) (sym work) (written_agrees w.book k n.decider now.writes now.kept now.end law.elems law.in_end law.wrote (comes_in k) writes came)

    -- a sink that passes each element on
    passes : (k : ℕ) (n : graph.Node) (shape : Kind) (l : List Tree) (e : End) → n.kind ≡ shape → work_of shape ≡ Some passing → Agrees (comes_in k) l e → Agrees (sink_outlook g w k n) l e
    passes k n shape l e is work a =
        subst (λ (x : Option Work). Agrees (of_work w.book k n.decider x (ports_of g w (composed g w) k (count_from 0 1))) l e) (sym (ap work_of is ∙ work)) (passing_agrees w.book k n.decider (comes_in k) l e a)

    pub every_sink_took : (k : ℕ) (n : graph.Node) (name : List ℕ) (first now : Sink D) → slice_get g.nodes k ≡ Some n → n.kind ≡ kind.ToLines name → IsSinkAt a k first now → TookList (sink_outlook g w k n) now.end (took g a k n)
    every_sink_took k n name first now ni is at =
        let law = sink_law k n first now ni at in
        let came : Agrees (comes_in k) law.elems law.in_end = input_agrees k n law.elems law.in_end ni (ap (inputs_by n.head) is) law.took_is in
        sink_took drains first now (knows g a k n) (took g a k n) (gave g a k n) law (sink_outlook g w k n) (writes_each k n name first now ni is at)
        (passes k n (kind.ToLines name) law.elems law.in_end is refl came)

    pub every_sink_tells : (k : ℕ) (n : graph.Node) (first now : Sink D) (written : List ℕ) → slice_get g.nodes k ≡ Some n → IsSinkAt a k first now
        → (drains first.drain).holds ≡ Some [] → (drains now.drain).holds ≡ Some written → SinkTells (sink_outlook g w k n) now.end written
    every_sink_tells k n first now written ni at h l =
        sink_tells drains first now (knows g a k n) (took g a k n) (gave g a k n) (sink_law k n first now ni at) (sink_outlook g w k n) (its_list k n first now ni at) written h l

    -- a sink that keeps nothing
    pub every_ignorer_tells : (k : ℕ) (n : graph.Node) (first now : Ignorer) (u : ℕ) (v : Edge) → slice_get g.nodes k ≡ Some n → IsIgnorerAt a k first now → slice_get g.wires u ≡ Some v → v.to ≡ k
        → IgnoreTells (sink_outlook g w k n) now.end (elements (a.far u).wire.sent)
    every_ignorer_tells k n first now u v ni at ui to =
        let m = ignore_at k n first now ni at in
        let law : IgnoreLaw first now (knows g a k n) (took g a k n) (gave g a k n) = m.law_holds in
        let its : FirstIgnoring k n.kind first = run.made k n (Ignoring first) ni at.at_first in
        let wire = one_wire k n u v ni (ap (inputs_by n.head) its.kind_is) ui to in
        let here : OneInOf (ignore_port_state_in now.started now.end) ((a.far u).wire.inp ∷ []) (knows g a k n).outs = subst (λ (l : List InView). OneInOf (ignore_port_state_in now.started now.end) l (knows g a k n).outs) wire.ins m.port_state_holds in
        let seen : TookAs (a.far u).wire.inp law.in_end = subst (λ (x : InView). TookAs x law.in_end) (ap (λ (l : List InView). get_or l 0 Cancelled) wire.ins) law.took_as in
        let got : (a.far u).wire.got ≡ told law.elems law.in_end = heads_same (a.far u).wire.got (told law.elems law.in_end) (sym wire.came ∙ law.took_is) in
        let came : Agrees (comes_in k) law.elems law.in_end = input_agrees k n law.elems law.in_end ni (ap (inputs_by n.head) its.kind_is) law.took_is in
        let agrees : Agrees (sink_outlook g w k n) law.elems law.in_end = passes k n kind.Ignore law.elems law.in_end its.kind_is refl came in
        let sound = run.keeps.far_sound u (slice_get-below g.wires u v ui) in
        ignored_by (a.far u).wire sound.0 sound.1 now.started (knows g a k n).outs law.elems law.in_end got seen now.end (sink_outlook g w k n) law.ends here agrees
