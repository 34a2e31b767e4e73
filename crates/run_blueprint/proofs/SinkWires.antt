-- How the wires of a run stand at any moment: of those on which an end was sent, of lanes, and of the wire of a sink by how it stands.
use Rattle.std.specs.Prelude.{slice_get, slice_index_or, if◌then◌else◌}
use Rattle.std.proofs.Common.{◌≡◌, ◌≢◌, ℕ, zero, suc, ◌+◌, ◌<◌, ◌≤◌, Bool, true, false, not, List, [], ◌∷◌, ◌++◌, length, length-append, Option, None, Some, refl, sym, ap, ◌∙◌, subst, arith}
use Rattle.elem_core.specs.Tree.{Tree}
use Rattle.elem_core.specs.Items.{elements}
use Rattle.elem_core.specs.declared.item.Item.{Item}
use Rattle.port_core.specs.Cell.{WireState}
use Rattle.port_core.specs.Decoding.{is_open}
use Rattle.port_core.specs.Joint.{IsSound}
use Rattle.port_core.specs.Marks.{IsMarked}
use Rattle.port_core.specs.Reading.{inp_of, out_of, got_of}
use Rattle.port_core.specs.View.{View}
use Rattle.port_core.specs.declared.view.InView.{InView}
use Rattle.port_core.specs.declared.view.InView.TheVariants.{Idle, Pulled, Finished, Cancelled}
use Rattle.port_core.specs.declared.view.OutView.{OutView}
use Rattle.port_core.specs.declared.view.OutView.TheVariants as outlet
use Rattle.stage_core.specs.Held.{told}
use Rattle.stage_core.specs.Law.{TookAs}
use Rattle.stage_core.specs.OpenOuts.{OutsClosed}
use Rattle.stage_core.specs.Row.{InClosed}
use Rattle.stage_linear.specs.Handling.{LinearPortState}
use Rattle.stage_linear.specs.States.{Logic}
use Rattle.stream_io.specs.State.{SourceState, DrainState}
use Rattle.stream_model.specs.declared.kind.Kind.{Kind}
use Rattle.stream_model.specs.declared.kind.Kind.TheVariants as kind
use Rattle.stream_model.specs.declared.outcome.EndState.{EndState}
use Rattle.stream_model.specs.declared.outcome.EndState.TheVariants.{Ended, Failed, Unended, WriteFault}
use Rattle.stream_model.specs.Composed.{inputs_by, inputs_of}
use Rattle.stream_model.specs.View.{outputs_of}
use Rattle.stream_model.specs.Graph.{Graph, Edge, find_wire, find_source}
use Rattle.stream_model.specs.Graph as graph
use Rattle.stream_model.specs.Lane.{lane_loss, Carries}
use Rattle.stream_model.specs.Linear.{Book}
use Rattle.stream_model.specs.Listed.{tells_none}
use Rattle.stream_model.specs.Outlook.{End, unended, ended}
use Rattle.stream_model.proofs.Compositions.{slice_get-below}
use Rattle.nodes.specs.declared.node.IslandNode.{IslandNode}
use Rattle.nodes.specs.declared.node.IslandNode.TheVariants as node
use Rattle.nodes.specs.declared.sink.Writes.{Writes}
use Rattle.nodes.specs.declared.sink.Writes.TheVariants.{Each, First, Last}
use Rattle.nodes.specs.Ignoring.{Ignorer, IgnoreLaw, ignore_port_state_in}
use Rattle.nodes.specs.Kinds.{writes_of}
use Rattle.nodes.specs.Nodes.{node_port_state, node_law, node_asking, node_moves}
use Rattle.nodes.specs.Ports.{OneInOf}
use Rattle.nodes.specs.Sink.{Gathered, Sink, sink_port_state_in, sink_room, Paced, SinkStandsAs, WritesOf, WritesEach, SinkLaw}
use Rattle.materializer.specs.Seats.{gather_of}
use Rattle.run_laws.proofs.OutlookCounting.{within_same, within_next}
use Rattle.run_laws.specs.Account.{Account, knows, took, gave, WireKeeps, NodeKeeps}
use Rattle.run_laws.specs.Items.{list_of, end_of_items, lane_size}
use Rattle.run_laws.specs.KindLaws.{IsHistoryOf}
use Rattle.run_laws.specs.Made.{FirstOf, FirstWriting}
use Rattle.run_laws.specs.Ports.{wire_count}
use Rattle.run_laws.specs.Runs.{IsRun}
use Rattle.run_laws.specs.Sinks.{IsSinkAt, IsIgnorerAt}
use Rattle.island_runs.specs.Leaving.{CancelsCross}
use Rattle.run_laws.proofs.Carrying.{wire_brings}
use Rattle.run_laws.proofs.Coming.{elements_told}
use Rattle.run_laws.proofs.Drawing.{in_there}
use Rattle.run_laws.proofs.Hearing.{node_hears}
use Rattle.run_laws.proofs.Marks.{lane_least, lane_over}
use Rattle.run_laws.proofs.Nodes.{kept_as, one_input, read_one}
use Rattle.run_laws.proofs.Agreeing.{read_there}
use Rattle.run_laws.proofs.Resting.{in_shut, out_shut}
use Rattle.run_blueprint.specs.Carrying.{ShutBy, OverBy, AskedBy, LinesWritten, SinkTook, IgnorerTook}
use Rattle.run_blueprint.specs.Stands.{SinkStand}
use Rattle.graph_stage.specs.State.{CustomState}
use Rattle.run_laws.proofs.ToldCustoms.{told_stands}
use Rattle.run_blueprint.proofs.Cancelled.{closes_outs, closed_there}
use Rattle.run_blueprint.proofs.EndShuts.{end_shuts, shut_left, out_left, waits_marked}
use Rattle.run_blueprint.proofs.Profiles.{some_one, stand_in}

-- ---- what a sink knows of its input, by how it stands

abbrev Sees : EndState → InView → Type 0
Sees Unended i = i ≡ Pulled
Sees Ended i = InClosed i
Sees (Failed c) i = i ≡ Finished
Sees WriteFault i = InClosed i

writer_sees : (b : Bool) (e : EndState) (i : InView) (outs : List OutView) → OneInOf (sink_port_state_in b e) (i ∷ []) outs → Sees e i
writer_sees true Unended Pulled [] r = refl
writer_sees true Ended Finished [] r = tt
writer_sees true Ended Cancelled [] r = tt
writer_sees true (Failed c) Finished [] r = refl
writer_sees true WriteFault Finished [] r = tt
writer_sees true WriteFault Cancelled [] r = tt
writer_sees _ e i [] r = absurd r
writer_sees _ e i (y ∷ outs) r = absurd r

ignorer_sees : (b : Bool) (e : EndState) (i : InView) (outs : List OutView) → OneInOf (ignore_port_state_in b e) (i ∷ []) outs → Sees e i
ignorer_sees true Unended Pulled [] r = refl
ignorer_sees true Ended Finished [] r = tt
ignorer_sees true (Failed c) Finished [] r = refl
ignorer_sees _ e i [] r = absurd r
ignorer_sees _ e i (y ∷ outs) r = absurd r

sink_sees : {S D L H B : Type 0} (now : IslandNode S D L H B) (s : SinkStand) (v : View) (i : InView) → stand_in now ≡ Some s → node_port_state now v → v.ins ≡ i ∷ [] → Sees s.2 i
sink_sees (node.Writing x) s v i is r ins =
    let row : OneInOf (sink_port_state_in x.started x.end) (i ∷ []) v.outs = subst (λ (l : List InView). OneInOf (sink_port_state_in x.started x.end) l v.outs) ins r in
    subst (λ (e : EndState). Sees e i) (ap (λ (t : SinkStand). t.2) (some_one (x.node, x.count, x.end) s is)) (writer_sees x.started x.end i v.outs row)
sink_sees (node.Ignoring x) s v i is r ins =
    let row : OneInOf (ignore_port_state_in x.started x.end) (i ∷ []) v.outs = subst (λ (l : List InView). OneInOf (ignore_port_state_in x.started x.end) l v.outs) ins r in
    subst (λ (e : EndState). Sees e i) (ap (λ (t : SinkStand). t.2) (some_one (x.node, 0, x.end) s is)) (ignorer_sees x.started x.end i v.outs row)
sink_sees (node.Reading x) s v i is r ins = absurd cc
sink_sees (node.Making x) s v i is r ins = absurd cc
sink_sees (node.Linear x) s v i is r ins = absurd cc
sink_sees (node.State x) s v i is r ins = absurd cc
sink_sees (node.Sub x) s v i is r ins = absurd cc
sink_sees (node.FanIn x) s v i is r ins = absurd cc
sink_sees (node.FanOut x) s v i is r ins = absurd cc
sink_sees (node.Custom x) s v i is r ins = absurd cc
sink_sees (node.Entering x) s v i is r ins = absurd cc
sink_sees (node.Leaving x) s v i is r ins = absurd cc

some_index : (l : List InView) (p : ℕ) (x y : InView) → slice_get l p ≡ Some x → slice_index_or l p y ≡ x
some_index [] p x y e = cc
some_index (i ∷ l) zero x y e = cc
some_index (i ∷ l) (suc p) x y e = some_index l p x y e

goes_on_there : (i : InView) → i ≡ Pulled → i ≡ Cancelled → ⊥
goes_on_there i waits left = let same : Pulled ≡ Cancelled = sym waits ∙ left in cc

-- an end came where one is known
over_known : (i : InView) (e : End) → TookAs i e → e ≡ ended → i ≡ Finished
over_known Idle e seen is = let none : unended ≡ ended = sym seen ∙ is in cc
over_known Pulled e seen is = let none : unended ≡ ended = sym seen ∙ is in cc
over_known Finished e seen is = refl
over_known Cancelled e seen is = let none : unended ≡ ended = sym seen ∙ is in cc

heads_same : (x y : List Item) → x ∷ [] ≡ y ∷ [] → x ≡ y
heads_same x y e = cc

-- ---- a sink that ended, and takes more than one element, saw the end of its input

-- a sink of another kind than head does not write the first element alone
not_first : (k : Kind) → ((file : List ℕ) → k ≢ kind.Head file) → writes_of k ≡ First → ⊥
not_first (kind.Head file) other is = other file refl
not_first (kind.ToLines file) other is = cc
not_first (kind.Last file) other is = cc
not_first _ other is = cc

end_of : (m : Writes) (n : ℕ) (kept : Option Tree) (l : List Tree) (e : End) (wrote : List Tree) → (m ≡ First → ⊥) → WritesOf m n kept Ended l e wrote → e ≡ ended
end_of Each n kept l e wrote other w = w.1
end_of First n kept l e wrote other w = absurd (other refl)
end_of Last n kept l e wrote other w = w.1.1.1

first_of : (l : List InView) (i : InView) → l ≡ i ∷ [] → slice_index_or l 0 Cancelled ≡ i
first_of l i is = ap (λ (x : List InView). slice_index_or x 0 Cancelled) is

-- by its law
law_ends : {D : Type 0} (drains : D → DrainState) (first now : Sink D) (v : View) (took gave : List (List Item)) → SinkLaw drains first now v took gave → (first.writes ≡ First → ⊥) → now.end ≡ Ended → (i : InView) → v.ins ≡ i ∷ [] → i ≡ Finished
law_ends drains first now v _ _ law other over i ins =
    let wrote : WritesOf now.writes now.node now.kept Ended law.elems law.in_end law.wrote = subst (λ (e : EndState). WritesOf now.writes now.node now.kept e law.elems law.in_end law.wrote) over law.writes in
    let end : law.in_end ≡ ended = end_of now.writes now.node now.kept law.elems law.in_end law.wrote (λ is. other (sym law.writes_same ∙ is)) wrote in
    over_known i law.in_end (subst (λ (x : InView). TookAs x law.in_end) (first_of v.ins i ins) law.took_as) end

ignorer_ends : (b : Bool) (e : EndState) (i : InView) (outs : List OutView) → e ≡ Ended → OneInOf (ignore_port_state_in b e) (i ∷ []) outs → i ≡ Finished
ignorer_ends true Ended Finished [] is r = refl
ignorer_ends true Unended Pulled [] is r = cc
ignorer_ends true (Failed c) Finished [] is r = refl
ignorer_ends _ e i [] is r = absurd r
ignorer_ends _ e i (y ∷ outs) is r = absurd r

ended_sees : {S D L H B : Type 0} (sources : S → SourceState) (drains : D → DrainState) (book : Book) (chains : List graph.Chain) (k : ℕ) (n : graph.Node) (first now : IslandNode S D L H B) (s : SinkStand) (v : View) (took gave : List (List Item)) (i : InView)
    → stand_in now ≡ Some s → s.2 ≡ Ended → ((file : List ℕ) → n.kind ≢ kind.Head file) → FirstOf sources chains k n first → node_law sources drains book first now v took gave → node_port_state now v → v.ins ≡ i ∷ [] → i ≡ Finished
ended_sees sources drains book chains k n (node.Writing f) (node.Writing x) s v took gave i is over other made law r ins =
    let end : x.end ≡ Ended = ap (λ (t : SinkStand). t.2) (some_one (x.node, x.count, x.end) s is) ∙ over in
    law_ends drains f x v took gave law (λ first. not_first n.kind other (sym made.writes ∙ first)) end i ins
ended_sees sources drains book chains k n (node.Ignoring f) (node.Ignoring x) s v took gave i is over other made law r ins =
    let end : x.end ≡ Ended = ap (λ (t : SinkStand). t.2) (some_one (x.node, 0, x.end) s is) ∙ over in
    ignorer_ends x.started x.end i v.outs end (subst (λ (l : List InView). OneInOf (ignore_port_state_in x.started x.end) l v.outs) ins r)
ended_sees sources drains book chains k n first (node.Reading x) s v took gave i is over other made law r ins = absurd cc
ended_sees sources drains book chains k n first (node.Making x) s v took gave i is over other made law r ins = absurd cc
ended_sees sources drains book chains k n first (node.Linear x) s v took gave i is over other made law r ins = absurd cc
ended_sees sources drains book chains k n first (node.State x) s v took gave i is over other made law r ins = absurd cc
ended_sees sources drains book chains k n first (node.Sub x) s v took gave i is over other made law r ins = absurd cc
ended_sees sources drains book chains k n first (node.FanIn x) s v took gave i is over other made law r ins = absurd cc
ended_sees sources drains book chains k n first (node.FanOut x) s v took gave i is over other made law r ins = absurd cc
ended_sees sources drains book chains k n first (node.Custom x) s v took gave i is over other made law r ins = absurd cc
ended_sees sources drains book chains k n first (node.Entering x) s v took gave i is over other made law r ins = absurd cc
ended_sees sources drains book chains k n first (node.Leaving x) s v took gave i is over other made law r ins = absurd cc
ended_sees sources drains book chains k n _ now s v took gave i is over other made law r ins = absurd law

-- ---- the wire, by the connections at its ends

-- a cancel crosses a lane from its input
abbrev Crosses : Option ℕ → WireState → WireState → Type 0
Crosses lane near far = (s : ℕ) → lane ≡ Some s → near.wire.inp ≡ Cancelled → far.wire.out ≡ outlet.Cancelled

module _ (keep : Bool) (near far : WireState) (asked : ℕ) (p q : Bool) (sn : IsSound near.wire p) (sf : IsSound far.wire q) where
  shut_by : (e : EndState) (lane : Option ℕ) → WireKeeps keep lane near far asked → Sees e far.wire.inp → ShutBy e lane (not (is_open near.wire.conn))
  shut_by Unended lane k h = tt
  shut_by Ended None k h = rw (sym k) (in_shut far.wire q sf h)
  shut_by Ended (Some s) k h = tt
  shut_by (Failed c) None k h = rw (sym k) (in_shut far.wire q sf (subst InClosed (sym h) tt))
  shut_by (Failed c) (Some s) k h = lane_over keep s near far k.out k.inp k.out_keeps k.in_keeps k.met p q sn sf h
  shut_by WriteFault None k h = rw (sym k) (in_shut far.wire q sf h)
  shut_by WriteFault (Some s) k h = tt

  -- where a cancel crosses it from its input, one that was cancelled was so by its node there
  left_by : (lane : Option ℕ) → WireKeeps keep lane near far asked → Crosses lane near far → near.wire.inp ≡ Cancelled → far.wire.inp ≡ Cancelled
  left_by None k crosses left = subst (λ (c : WireState). c.wire.inp ≡ Cancelled) (sym k) left
  left_by (Some s) k crosses left = out_left far.wire q sf (crosses s refl left)

  over_by : (e : EndState) (lane : Option ℕ) → WireKeeps keep lane near far asked → Crosses lane near far → (l : List Tree) (f : End) → near.wire.got ≡ told l f → TookAs near.wire.inp f → Sees e far.wire.inp → OverBy e (not (is_open near.wire.conn)) (end_of_items near.wire.sent)
  over_by Unended lane k crosses l f is seen h = λ shut none. goes_on_there far.wire.inp h (left_by lane k crosses (shut_left near.wire p sn l f is seen shut none))
  over_by Ended lane k crosses l f is seen h = tt
  over_by (Failed c) lane k crosses l f is seen h = tt
  over_by WriteFault lane k crosses l f is seen h = tt

  -- one whose end came at its input
  over_there : (lane : Option ℕ) → WireKeeps keep lane near far asked → far.wire.inp ≡ Finished → not (is_open near.wire.conn) ≡ true
  over_there None k h = rw (sym k) (in_shut far.wire q sf (subst InClosed (sym h) tt))
  over_there (Some s) k h = lane_over keep s near far k.out k.inp k.out_keeps k.in_keeps k.met p q sn sf h

  asked_by : (e : EndState) (lane : Option ℕ) (count : ℕ) → WireKeeps keep lane near far asked → IsMarked near → Sees e far.wire.inp → (lane ≡ None → e ≡ Unended → elements far.wire.got ≡ count) → AskedBy e lane count (wire_count lane near asked)
  asked_by Unended None count k m h wrote = λ none.
      let waits : near.wire.inp ≡ Pulled = subst (λ (c : WireState). c.wire.inp ≡ Pulled) k h in
      let all : elements near.wire.got ≡ count = subst (λ (c : WireState). elements c.wire.got ≡ count) k (wrote refl refl) in
      subst (λ (n : ℕ). elements near.wire.sent ≡ (if near.asked then n else n + 1)) all (waits_marked near p m sn waits none)
  asked_by Unended (Some s) count k m h wrote = tt
  asked_by Ended lane count k m h wrote = tt
  asked_by (Failed c) lane count k m h wrote = tt
  asked_by WriteFault lane count k m h wrote = tt

  asks_by : (lane : Option ℕ) (s : ℕ) → WireKeeps keep lane near far asked → lane ≡ Some s → (wire_count lane near asked).asked ≡ false → s ≤ elements near.wire.sent
  asks_by None s k is unasked = cc
  asks_by (Some z) s k is unasked =
      let size : z ≡ s = some_one z s is in
      let least : z ≤ elements near.wire.sent = lane_least keep z near far k.out k.inp k.out_keeps k.in_keeps k.met (rw k.asked_is unasked) in
      omega (arith, size, least)

-- how many elements came to a sink that goes on, writes each and puts one alone
each_wrote : (m : Writes) (n count : ℕ) (kept : Option Tree) (e : EndState) (y : Gathered) (old new : DrainState) (l : List Tree) (f : End) (wrote : List Tree) → m ≡ Each → e ≡ Unended → y.room ≡ 1 → Paced y.room y.passed count (length wrote) → WritesOf m n kept e l f wrote → SinkStandsAs e y old new wrote count
    → length l ≡ count
each_wrote Each n count kept Unended y old new l f wrote each goes one paced w s =
    let few : y.passed < y.room = paced.few in
    let none : y.late ≡ 0 = s.due (omega (arith, few, one)) in
    let late : y.late ≡ length s.first.off = s.first.late_is in
    let put : count ≡ length s.first.put = s.first.wrote_all.count in
    let parts : length wrote ≡ length (s.first.put ++ s.first.off) = ap length s.first.wrote_is in
    let same : length wrote ≡ length l = ap length w.0 in
    omega (arith, none, late, put, parts, same, length-append s.first.put s.first.off)
each_wrote First n count kept Unended y old new l f wrote each goes one paced w s = cc
each_wrote Last n count kept Unended y old new l f wrote each goes one paced w s = cc
each_wrote m n count kept Ended y old new l f wrote each goes one paced w s = cc
each_wrote m n count kept (Failed c) y old new l f wrote each goes one paced w s = cc
each_wrote m n count kept WriteFault y old new l f wrote each goes one paced w s = cc

-- how many lines a sink wrote
lines_written : (e : EndState) (y : Gathered) (old new : DrainState) (wrote : List Tree) (n : ℕ) → Paced y.room y.passed n (length wrote) → SinkStandsAs e y old new wrote n → LinesWritten y.room e wrote n
lines_written Unended y old new wrote n paced s =
    let put : n ≡ length s.first.put = s.first.wrote_all.count in
    let late : y.late ≡ length s.first.off = s.first.late_is in
    let parts : length wrote ≡ length (s.first.put ++ s.first.off) = ap length s.first.wrote_is in
    (omega (arith, put, parts, length-append s.first.put s.first.off), within_next y.room y.passed n (length wrote) paced (λ full. let none : y.late ≡ 0 = s.due full in omega (arith, none, late, put, parts, length-append s.first.put s.first.off)))
lines_written Ended y old new wrote n paced s = sym s.count
lines_written (Failed c) y old new wrote n paced s = sym s.count
lines_written WriteFault y old new wrote n paced s = let lost : n < length wrote = s.lost in (omega (arith, lost), within_same y.room y.passed n (length wrote) paced)

-- ---- a wire of a run

module _ {S D L H B : Type 0} (sources : S → SourceState) (drains : D → DrainState) (book : Book) (g : Graph) (a : Account (IslandNode S D L H B)) (run : IsRun sources drains book g a) (u : ℕ) (v : Edge) (at : slice_get g.wires u ≡ Some v) where
  near_sound : (q : _) × IsSound (a.near u).wire q
  near_sound = run.keeps.near_sound u (slice_get-below g.wires u v at)

  far_sound : (q : _) × IsSound (a.far u).wire q
  far_sound = run.keeps.far_sound u (slice_get-below g.wires u v at)

  keeps : WireKeeps v.keep v.lane (a.near u) (a.far u) (a.asked u)
  keeps = run.keeps.wires u v at

  -- what came at its input end is a list and its end, as is known there
  came_far : (l : List Tree) × (e : End) × ((a.far u).wire.got ≡ told l e) × TookAs (a.far u).wire.inp e
  came_far =
      let t = run.joined.target u v at in
      let none : 0 + v.input ≡ v.input = omega arith in
      let kept = run.keeps.each_node v.to t.0 t.1 in
      let got = in_there g got_of a.far v.to 0 (inputs_of t.0) v.input u t.2 (rw none t.3) in
      let inp = in_there g inp_of a.far v.to 0 (inputs_of t.0) v.input u t.2 (rw none t.3) in
      let h : IsHistoryOf (slice_index_or (knows g a v.to t.0).ins v.input Cancelled) (a.far u).wire.got =
      node_hears sources drains book g.chains v.to t.0 kept.first kept.now (knows g a v.to t.0) (took g a v.to t.0) (gave g a v.to t.0) (run.made v.to t.0 kept.first t.1 kept.first_at) kept.law_holds v.input (a.far u).wire.got got in
      let seen : TookAs (a.far u).wire.inp h.end = subst (λ (x : InView). TookAs x h.end) (some_index (knows g a v.to t.0).ins v.input (a.far u).wire.inp Cancelled inp) h.as_seen in
      (h.list, h.end, h.is, seen)

  came_by : (keep : Bool) (lane : Option ℕ) → WireKeeps keep lane (a.near u) (a.far u) (a.asked u) → (l : List Tree) × (e : End) × ((a.near u).wire.got ≡ told l e) × TookAs (a.near u).wire.inp e
  came_by keep None k = let c = came_far in (c.0, c.1, subst (λ (x : WireState). x.wire.got ≡ told c.0 c.1) k c.2, subst (λ (x : WireState). TookAs x.wire.inp c.1) k c.3)
  came_by keep (Some s) k = (k.out_keeps.came_list, k.out_keeps.came_end, k.out_keeps.came_is, k.out_keeps.came_as)

  -- at its output end
  came_near : (l : List Tree) × (e : End) × ((a.near u).wire.got ≡ told l e) × TookAs (a.near u).wire.inp e
  came_near = came_by v.keep v.lane keeps

  -- where an end was sent it is shut
  pub ended_shut : (end_of_items (a.near u).wire.sent ≡ unended → ⊥) → (wire_count v.lane (a.near u) (a.asked u)).shut ≡ true
  ended_shut over = let c = came_near in end_shuts (a.near u).wire near_sound.0 near_sound.1 c.0 c.1 c.2 c.3 over

  -- where it was cancelled, the wires that go out of the node at its input are shut
  pub left_shut : ((n : graph.Node) → slice_get g.nodes v.to ≡ Some n → tells_none book n.kind ≡ false) → CancelsCross g a → (wire_count v.lane (a.near u) (a.asked u)).shut ≡ true → end_of_items (a.near u).wire.sent ≡ unended
      → (j : ℕ) (x : Edge) → slice_get g.wires j ≡ Some x → x.from ≡ v.to → (wire_count x.lane (a.near j) (a.asked j)).shut ≡ true
  left_shut tells cancels shut none j x behind from =
      let c = came_near in
      let near : (a.near u).wire.inp ≡ Cancelled = shut_left (a.near u).wire near_sound.0 near_sound.1 c.0 c.1 c.2 c.3 shut none in
      let far : (a.far u).wire.inp ≡ Cancelled = left_by v.keep (a.near u) (a.far u) (a.asked u) near_sound.0 far_sound.0 near_sound.1 far_sound.1 v.lane keeps (λ size lane. cancels u v size at lane) near in
      let t = run.joined.target u v at in
      let kept = run.keeps.each_node v.to t.0 t.1 in
      let first : 0 + v.input ≡ v.input = omega arith in
      let there : slice_get (knows g a v.to t.0).ins v.input ≡ Some (a.far u).wire.inp = in_there g inp_of a.far v.to 0 (inputs_of t.0) v.input u t.2 (rw first t.3) in
      let other : (c : CustomState) → kept.now ≡ node.Custom c → (l : Logic) × LinearPortState l (knows g a v.to t.0) =
      λ c is. told_stands sources drains book g.chains v.to t.0 kept.first kept.now (knows g a v.to t.0) (took g a v.to t.0) (gave g a v.to t.0) c is (run.made v.to t.0 kept.first t.1 kept.first_at) kept.law_holds (tells t.0 t.1) in
      let closed : OutsClosed (knows g a v.to t.0).outs = closes_outs kept.now (knows g a v.to t.0) v.input other kept.port_state_holds (there ∙ ap Some far) in
      let s = run.joined.source j x behind in
      let same : s.0 ≡ t.0 = some_one s.0 t.0 (sym s.1 ∙ ap (slice_get g.nodes) from ∙ t.1) in
      let second : 0 + x.output ≡ x.output = omega arith in
      let below : x.output < outputs_of t.0 = subst (λ (m : graph.Node). x.output < outputs_of m) same s.2 in
      let found : find_source v.to (0 + x.output) g.wires ≡ Some j = rw second (subst (λ (k : ℕ). find_source k x.output g.wires ≡ Some j) from s.3) in
      let out : slice_get (knows g a v.to t.0).outs x.output ≡ Some (a.near j).wire.out = read_there g out_of a.near v.to 0 (outputs_of t.0) x.output j below found in
      let sound = run.keeps.near_sound j (slice_get-below g.wires j x behind) in
      out_shut (a.near j).wire sound.0 sound.1 (closed_there (knows g a v.to t.0).outs x.output (a.near j).wire.out closed out)

  -- a lane that is not asked
  pub lane_asked : (s : ℕ) → v.lane ≡ Some s → (wire_count v.lane (a.near u) (a.asked u)).asked ≡ false → s ≤ elements (a.near u).wire.sent
  lane_asked s is unasked = asks_by v.keep (a.near u) (a.far u) (a.asked u) near_sound.0 far_sound.0 near_sound.1 far_sound.1 v.lane s keeps is unasked

  -- the wire of a sink
  module _ (k : ℕ) (n : graph.Node) (now : IslandNode S D L H B) (ni : slice_get g.nodes k ≡ Some n) (one : inputs_of n ≡ 1) (to : v.to ≡ k) (here : a.nodes k ≡ Some now) (cancels : CancelsCross g a) where
    found : find_wire k 0 g.wires ≡ Some u
    found = one_input g run.joined k n u v ni one at to

    sees : (s : SinkStand) → stand_in now ≡ Some s → Sees s.2 (a.far u).wire.inp
    sees s is =
        let kept = run.keeps.each_node k n ni in
        let same : kept.now ≡ now = some_one kept.now now (sym kept.now_at ∙ here) in
        let row : node_port_state now (knows g a k n) = subst (λ (x : IslandNode S D L H B). node_port_state x (knows g a k n)) same kept.port_state_holds in
        sink_sees now s (knows g a k n) (a.far u).wire.inp is row (read_one g inp_of a.far k (inputs_of n) u one found)

    pub sink_shut : (s : SinkStand) → stand_in now ≡ Some s → ShutBy s.2 v.lane (wire_count v.lane (a.near u) (a.asked u)).shut × OverBy s.2 (wire_count v.lane (a.near u) (a.asked u)).shut (end_of_items (a.near u).wire.sent)
    sink_shut s is =
        let c = came_near in (
          shut_by v.keep (a.near u) (a.far u) (a.asked u) near_sound.0 far_sound.0 near_sound.1 far_sound.1 s.2 v.lane keeps (sees s is),
          over_by v.keep (a.near u) (a.far u) (a.asked u) near_sound.0 far_sound.0 near_sound.1 far_sound.1 s.2 v.lane keeps (λ size lane. cancels u v size at lane) c.0 c.1 c.2 c.3 (sees s is),
        )

    -- one that ended, and takes more than one element
    pub lane_shut : (s : SinkStand) → stand_in now ≡ Some s → s.2 ≡ Ended → ((file : List ℕ) → n.kind ≢ kind.Head file) → (wire_count v.lane (a.near u) (a.asked u)).shut ≡ true
    lane_shut s is over other =
        let kept = run.keeps.each_node k n ni in
        let same : kept.now ≡ now = some_one kept.now now (sym kept.now_at ∙ here) in
        let row : node_port_state now (knows g a k n) = subst (λ (x : IslandNode S D L H B). node_port_state x (knows g a k n)) same kept.port_state_holds in
        let law : node_law sources drains book kept.first now (knows g a k n) (took g a k n) (gave g a k n) = subst (λ (x : IslandNode S D L H B). node_law sources drains book kept.first x (knows g a k n) (took g a k n) (gave g a k n)) same kept.law_holds in
        let finished : (a.far u).wire.inp ≡ Finished = ended_sees sources drains book g.chains k n kept.first now s (knows g a k n) (took g a k n) (gave g a k n) (a.far u).wire.inp is over other (run.made k n kept.first ni kept.first_at) law row (read_one g inp_of a.far k (inputs_of n) u one found) in
        over_there v.keep (a.near u) (a.far u) (a.asked u) near_sound.0 far_sound.0 near_sound.1 far_sound.1 v.lane keeps finished

  -- what came to the node at its input
  brought : (l : List Tree) (e : End) → (a.far u).wire.got ≡ told l e → Carries (lane_size (lane_loss v.keep v.lane)) (list_of (a.near u).wire.sent) (end_of_items (a.near u).wire.sent) l e
  brought = wire_brings v.keep v.lane (a.near u) (a.far u) (a.asked u) near_sound.0 far_sound.0 near_sound.1 far_sound.1 keeps

  -- to a sink with a file
  pub sink_took : (k : ℕ) (n : graph.Node) (first now : Sink D) → slice_get g.nodes k ≡ Some n → inputs_of n ≡ 1 → v.to ≡ k → IsSinkAt a k first now → first.gather.room ≡ sink_room first.writes (gather_of v.lane)
      → SinkTook (lane_loss v.keep v.lane) v.lane (list_of (a.near u).wire.sent) (end_of_items (a.near u).wire.sent) n.kind (now.node, now.count, now.end)
  sink_took k n first now ni one to there roomed =
      let kept = kept_as node_port_state (node_law sources drains book) node_asking node_moves g a run.keeps k n (node.Writing first) (node.Writing now) ni there.at_first there.at_last in
      let law : SinkLaw drains first now (knows g a k n) (took g a k n) (gave g a k n) = kept.law_holds in
      let its : FirstWriting k n.kind first = run.made k n (node.Writing first) ni there.at_first in
      let came : took g a k n ≡ (a.far u).wire.got ∷ [] = read_one g got_of a.far k (inputs_of n) u one (one_input g run.joined k n u v ni one at to) in
      let got : (a.far u).wire.got ≡ told law.elems law.in_end = heads_same (a.far u).wire.got (told law.elems law.in_end) (sym came ∙ law.took_is) in
      record {
        came = law.elems;
        seen = law.in_end;
        carried = brought law.elems law.in_end got;
        kept = now.kept;
        wrote = law.wrote;
        writes = subst (λ (m : Writes). WritesOf m now.node now.kept now.end law.elems law.in_end law.wrote) (law.writes_same ∙ its.writes) law.writes;
        lines = subst (λ (m : ℕ). LinesWritten m now.end law.wrote now.count) (law.room_same ∙ roomed ∙ ap (λ (m : Writes). sink_room m (gather_of v.lane)) its.writes)
            (lines_written now.end now.gather (drains first.drain) (drains now.drain) law.wrote now.count law.paced law.stands);
      }

  -- to one that keeps nothing
  pub ignorer_took : (k : ℕ) (n : graph.Node) (first now : Ignorer) → slice_get g.nodes k ≡ Some n → inputs_of n ≡ 1 → v.to ≡ k → IsIgnorerAt a k first now
      → IgnorerTook (lane_loss v.keep v.lane) (list_of (a.near u).wire.sent) (end_of_items (a.near u).wire.sent) (now.node, 0, now.end)
  ignorer_took k n first now ni one to there =
      let kept = kept_as node_port_state (node_law sources drains book) node_asking node_moves g a run.keeps k n (node.Ignoring first) (node.Ignoring now) ni there.at_first there.at_last in
      let law : IgnoreLaw first now (knows g a k n) (took g a k n) (gave g a k n) = kept.law_holds in
      let came : took g a k n ≡ (a.far u).wire.got ∷ [] = read_one g got_of a.far k (inputs_of n) u one (one_input g run.joined k n u v ni one at to) in
      let got : (a.far u).wire.got ≡ told law.elems law.in_end = heads_same (a.far u).wire.got (told law.elems law.in_end) (sym came ∙ law.took_is) in
      record { came = law.elems; seen = law.in_end; carried = brought law.elems law.in_end got; none = refl; ends = law.ends }

  -- of a sink of lines
  module _ (k : ℕ) (n : graph.Node) (file : List ℕ) (first now : Sink D) (ni : slice_get g.nodes k ≡ Some n) (shape : n.kind ≡ kind.ToLines file) (to : v.to ≡ k) (there : IsSinkAt a k first now) (roomed : first.gather.room ≡ sink_room first.writes (gather_of v.lane)) (cancels : CancelsCross g a) where
    wrote_all : v.lane ≡ None → now.end ≡ Unended → elements (a.far u).wire.got ≡ now.count
    wrote_all fused goes =
        let kept = kept_as node_port_state (node_law sources drains book) node_asking node_moves g a run.keeps k n (node.Writing first) (node.Writing now) ni there.at_first there.at_last in
        let law : SinkLaw drains first now (knows g a k n) (took g a k n) (gave g a k n) = kept.law_holds in
        let its : FirstWriting k n.kind first = run.made k n (node.Writing first) ni there.at_first in
        let one : inputs_of n ≡ 1 = ap (inputs_by n.head) shape in
        let came : took g a k n ≡ (a.far u).wire.got ∷ [] = read_one g got_of a.far k (inputs_of n) u one (one_input g run.joined k n u v ni one at to) in
        let got : (a.far u).wire.got ≡ told law.elems law.in_end = heads_same (a.far u).wire.got (told law.elems law.in_end) (sym came ∙ law.took_is) in
        let each : now.writes ≡ Each = law.writes_same ∙ its.writes ∙ ap writes_of shape in
        ap elements got ∙ elements_told law.elems law.in_end
        ∙ each_wrote now.writes now.node now.count now.kept now.end now.gather (drains first.drain) (drains now.drain) law.elems law.in_end law.wrote each goes
        (law.room_same ∙ roomed ∙ ap (λ (m : Writes). sink_room m (gather_of v.lane)) (its.writes ∙ ap writes_of shape) ∙ ap (λ (o : Option ℕ). sink_room Each (gather_of o)) fused) law.paced law.writes law.stands

    pub sink_asked : AskedBy now.end v.lane now.count (wire_count v.lane (a.near u) (a.asked u))
    sink_asked =
        let view = sees k n (node.Writing now) ni (ap (inputs_by n.head) shape) to there.at_last cancels (now.node, now.count, now.end) refl in
        asked_by v.keep (a.near u) (a.far u) (a.asked u) near_sound.0 far_sound.0 near_sound.1 far_sound.1 now.end v.lane now.count keeps (run.keeps.near_marked u (slice_get-below g.wires u v at)) view wrote_all
