-- What a sink wrote whose drain does not tell what it holds: the same as one that tells it.
use Rattle.std.specs.Prelude.{Option, slice_get}
use Rattle.std.specs.Option.{option_map}
use Rattle.std.proofs.Common.{◌≡◌, ℕ, List, [], ◌++◌, Some, refl, sym, ap, subst, ◌∙◌}
use Rattle.elem_core.specs.Text.{text_lines}
use Rattle.elem_core.specs.Tree.{Tree}
use Rattle.elem_core.specs.declared.item.Item.{Item}
use Rattle.port_core.specs.View.{View}
use Rattle.stream_model.specs.declared.outcome.EndState.{EndState}
use Rattle.stream_model.specs.declared.outcome.EndState.TheVariants.{Ended, Failed, Unended, WriteFault}
use Rattle.stream_model.specs.Graph.{Graph}
use Rattle.stream_model.specs.Graph as graph
use Rattle.stream_model.specs.Composed.{sink_outlook}
use Rattle.stream_model.specs.Node.{World}
use Rattle.stream_io.specs.State.{SourceState, DrainState}
use Rattle.nodes.specs.declared.node.IslandNode.{IslandNode}
use Rattle.nodes.specs.Sink.{Gathered, Sink, WroteAll, SinkStandsAs, SinkLaw}
use Rattle.nodes.proofs.SinkTexts.{has_lines}
use Rattle.run_laws.specs.Account.{Account, knows, took, gave}
use Rattle.run_laws.specs.Runs.{IsRun}
use Rattle.run_laws.specs.Sinks.{IsSinkAt, SinkWrote}
use Rattle.run_laws.proofs.AgreeingSinks.{sink_law, its_list}
use Rattle.run_laws.proofs.OutlookAgreeing.{every_input_of}
use Rattle.run_laws.proofs.Replaying.{every_input_serves}
use Rattle.run_laws.proofs.Sinks.{sink_tells}
use Rattle.stream_model.specs.Linear.{Book}

-- a drain that tells that it holds these bytes, and else tells the same
abbrev holding : DrainState → List ℕ → DrainState
holding s held = record { name = s.name; holds = Some held; faults = s.faults }

-- what was written by one that held nothing at first
record Written (e : EndState) (y : Gathered) (old new : DrainState) (wrote : List Tree) (n : ℕ) : Type 0 where
  pub bytes : List ℕ
  pub stands : SinkStandsAs e y (holding old []) (holding new bytes) wrote n
  pub holds : old.holds ≡ Some [] → new.holds ≡ Some bytes

held_by : (o new : Option (List ℕ)) (more : List ℕ) → new ≡ option_map (λ held. held ++ more) o → o ≡ Some [] → new ≡ Some more
held_by o new more e f = e ∙ ap (λ (p : Option (List ℕ)). option_map (λ held. held ++ more) p) f

all_written : (old new : DrainState) (wrote : List Tree) (n : ℕ) → WroteAll old new wrote n → WroteAll (holding old []) (holding new (text_lines wrote)) wrote n
all_written old new wrote n w = record { holds = refl; count = w.count; faults = w.faults }

written_by : (e : EndState) (y : Gathered) (old new : DrainState) (wrote : List Tree) (n : ℕ) → SinkStandsAs e y old new wrote n → Written e y old new wrote n
written_by Unended y old new wrote n w = record {
  bytes = text_lines w.first.put;
  stands = record {
    first = record { put = w.first.put; off = w.first.off; wrote_is = w.first.wrote_is; wrote_all = all_written old new w.first.put n w.first.wrote_all; held_is = w.first.held_is; late_is = w.first.late_is };
    due = w.due;
  };
  holds = held_by old.holds new.holds (text_lines w.first.put) w.first.wrote_all.holds;
}
written_by Ended y old new wrote n w = record { bytes = text_lines wrote; stands = all_written old new wrote n w; holds = held_by old.holds new.holds (text_lines wrote) w.holds }
written_by (Failed c) y old new wrote n w = record { bytes = text_lines wrote; stands = all_written old new wrote n w; holds = held_by old.holds new.holds (text_lines wrote) w.holds }
written_by WriteFault y old new wrote n w = record {
  bytes = w.part;
  stands = record { part = w.part; rest = w.rest; text = w.text; holds = refl; count = w.count; lost = w.lost; faults = w.faults };
  holds = held_by old.holds new.holds w.part w.holds;
}

-- the sink over such drains
abbrev over : {D : Type 0} → Sink D → DrainState → Sink DrainState
over x s = record { node = x.node; drain = s; writes = x.writes; kept = x.kept; gather = x.gather; count = x.count; started = x.started; end = x.end }

module _ {D : Type 0} (drains : D → DrainState) (first now : Sink D) (v : View) (took gave : List (List Item)) (law : SinkLaw drains first now v took gave) where
  its_bytes : Written now.end now.gather (drains first.drain) (drains now.drain) law.wrote now.count
  its_bytes = written_by now.end now.gather (drains first.drain) (drains now.drain) law.wrote now.count law.stands

  law_over : SinkLaw (λ (s : DrainState). s) (over first (holding (drains first.drain) [])) (over now (holding (drains now.drain) its_bytes.bytes)) v took gave
  law_over = record {
    elems = law.elems;
    in_end = law.in_end;
    wrote = law.wrote;
    gave_is = law.gave_is;
    took_is = law.took_is;
    took_as = law.took_as;
    node = law.node;
    writes_same = law.writes_same;
    room_same = law.room_same;
    name = law.name;
    faults = law.faults;
    one_line = law.one_line;
    writes = law.writes;
    paced = law.paced;
    stands = its_bytes.stands;
  }

module _ {S D L H B : Type 0} (sources : S → SourceState) (drains : D → DrainState) (book : Book) (g : Graph) (a : Account (IslandNode S D L H B)) (run : IsRun sources drains book g a) where
  -- the run, by the book of a world
  its_run : (w : World) → w.book ≡ book → IsRun sources drains w.book g a
  its_run w same = subst (λ (b : Book). IsRun sources drains b g a) (sym same) run

  pub sink_wrote : (k : ℕ) (n : graph.Node) (first now : Sink D) → slice_get g.nodes k ≡ Some n → IsSinkAt a k first now → SinkWrote sources drains book g a k n first now
  unfolding law_over
  sink_wrote k n first now ni at =
      let law = sink_law sources drains book g a run k n first now ni at in
      let its = its_bytes drains first now (knows g a k n) (took g a k n) (gave g a k n) law in
      let then = law_over drains first now (knows g a k n) (took g a k n) (gave g a k n) law in
      let before = over first (holding (drains first.drain) []) in
      let after = over now (holding (drains now.drain) its.bytes) in
      record {
        written = its.bytes;
        lines_are = (has_lines (λ (s : DrainState). s) before after (knows g a k n) (took g a k n) (gave g a k n) its.bytes then refl refl).0;
        holds = its.holds;
        tells = λ w rank same tells ranked.
            sink_tells (λ (s : DrainState). s) before after (knows g a k n) (took g a k n) (gave g a k n) then (sink_outlook g w k n)
            (its_list sources drains book g a run w (every_input_of sources drains g w a (its_run w same) tells rank ranked) k n first now ni at) its.bytes refl refl;
        serves = λ w rank same files serves ranked.
            sink_tells (λ (s : DrainState). s) before after (knows g a k n) (took g a k n) (gave g a k n) then (sink_outlook g w k n)
            (its_list sources drains book g a run w (every_input_serves sources drains g w a (its_run w same) files serves rank ranked) k n first now ni at) its.bytes refl refl;
      }
