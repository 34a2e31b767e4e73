-- The picture of a blueprint's run by what passed its wires.
use Rattle.std.proofs.Common.{◌≡◌, ℕ, suc, ◌<◌, Bool, true, false, List, [], ◌∷◌, map, length, slice_get, refl, sym, ap, ◌∙◌, subst, arith}
use Rattle.std.specs.Prelude.{IsTrue, Option, Some, ◌||◌}
use Rattle.std.specs.List.{list_any}
use Rattle.stream_model.specs.declared.outcome.WireCount.{WireCount}
use Rattle.stream_model.specs.declared.outcome.EndState.{EndState}
use Rattle.stream_model.specs.declared.outcome.EndState.TheVariants.{Ended, Failed, Unended, WriteFault}
use Rattle.stream_model.specs.Graph.{Graph}
use Rattle.stream_model.specs.Listed.{AllTell}
use Rattle.stream_model.specs.Node.{World}
use Rattle.stream_model.specs.Shape.{IsPolytree, IsWired}
use Rattle.run_laws.specs.Picture.{has_ended, ended_there}
use Rattle.stream_io.specs.State.{FolderState, SourceState, DrainState}
use Rattle.nodes.specs.declared.node.IslandNode.{IslandNode}
use Rattle.interpreter.specs.Picks.{Pick, pick_of}
use Rattle.run_laws.specs.Account.{Account, IsStill}
use Rattle.run_laws.specs.Runs.{IsRun}
use Rattle.run_laws.specs.Replayed.{IsLawfulBy, RestsBy}
use Rattle.run_laws.specs.Telling.{AreSettled}
use Rattle.run_laws.proofs.Unled.{rests_freely}
use Rattle.stream_model.specs.declared.blueprint.Blueprint.{Blueprint}
use Rattle.stream_model.specs.declared.blueprint.Node as blue
use Rattle.blue_check.specs.Wires.{blueprint_wires}
use Rattle.blue_check.specs.Forest.{wiring}
use Rattle.stream_model.specs.Known.{HeadLists}
use Rattle.materializer.specs.Fit.{CanRun}
use Rattle.materializer.specs.Files.{inputs_of_nodes, outputs_of_nodes}
use Rattle.materializer.specs.Choosers.{NoneFollow, plan_at}
use Rattle.materializer.specs.Seats.{place_plan}
use Rattle.materializer.specs.Graphs.{graph_node, graph_of}
use Rattle.run_blueprint.specs.Carrying.{WiresCarry, PictureStands, MisfitByPassed, as_passed}
use Rattle.run_blueprint.proofs.Carried.{unread}
use Rattle.run_blueprint.specs.Drawing.{Drawn}
use Rattle.island_runs.specs.Leaving.{Moment, RunLeaves}
use Rattle.run_blueprint.specs.Opening.{Opens}
use Rattle.run_blueprint.specs.Replaying.{IsMisfit}
use Rattle.run_blueprint.specs.Stands.{SinkStand, is_unended}
use Rattle.island_runs.specs.declared.run.Stopped.{Stopped}
use Rattle.run_blueprint.proofs.Replays.{none_at}
use Rattle.run_blueprint.proofs.Worlds.{tree_by_wires}
use Rattle.run_blueprint.proofs.Places.{mapped_at, place_of, place_within}
use Rattle.run_blueprint.proofs.Handles.{HandleLaws}
use Rattle.run_blueprint.proofs.Drawns.{drawn_of, made_moves, picks_told}
use Rattle.run_blueprint.proofs.RunLaws.{RunLaws}
use Rattle.run_blueprint.proofs.EndStands.{counts_many, wires_are, sink_here, matched}
use Rattle.run_blueprint.proofs.EndLists.{carried, told_moves, HasTypes, sent_typed, picture, all_pass, all_agree}
use Rattle.run_blueprint.proofs.EndMoves.{follows, stopped, by_passed}
use Rattle.stream_model.specs.Linear.{Book}

-- ---- sinks that have ended

ended_goes : (e : EndState) → has_ended e ≡ true → is_unended e ≡ false
ended_goes Ended h = refl
ended_goes (Failed c) h = refl
ended_goes WriteFault h = refl
ended_goes Unended h = absurd cc

neither : (a b : Bool) → a ≡ false → b ≡ false → a || b ≡ false
neither true b p q = absurd cc
neither false b p q = q

none_unended : (stands : List SinkStand) → ((i : ℕ) (s : SinkStand) → slice_get stands i ≡ Some s → is_unended s.2 ≡ false) → list_any (λ (s : SinkStand). is_unended s.2) stands ≡ false
none_unended [] each = refl
none_unended (s ∷ ss) each = neither (is_unended s.2) (list_any (λ (t : SinkStand). is_unended t.2) ss) (each 0 s refl) (none_unended ss (λ i t at. each (suc i) t at))

-- ---- the picture of a run

module _ {S D L H B : Type 0} (sources : S → SourceState) (drains : D → DrainState) (book : Book) (handles : HandleLaws L H B sources drains book) (laws : RunLaws L H B sources drains book) (b : Blueprint) (can : CanRun b) (ss : List S) (ds : List D) (budget : ℕ) (st : Stopped S D) (l : RunLeaves L H B sources drains book b ss ds budget st)
    (plans : List (Option (List ℕ))) (led : map place_plan l.moment.places ≡ plans) (old mid : FolderState) {others : List (List ℕ)} (opens : Opens old mid (inputs_of_nodes b.nodes.items) (outputs_of_nodes b.nodes.items) others (map sources ss) (map drains ds)) where
  abbrev nodes : List blue.Node
  nodes = b.nodes.items

  abbrev left : Account (IslandNode S D L H B)
  left = l.account

  abbrev last : List (IslandNode S D L H B)
  last = l.nodes

  abbrev between : Moment sources drains book b ss ds left last
  between = l.moment

  abbrev g : Graph
  g = graph_of b

  run : IsRun sources drains book g left
  run = l.moment.run

  -- so it is by the heads of every world that has these
  run_at : (w : World) → w.book ≡ book → IsRun sources drains w.book g left
  run_at w is = subst (λ (x : Book). IsRun sources drains x g left) (sym is) run

  still : IsTrue st.at_rest → IsStill g left
  still rest = l.still rest

  settled : AreSettled g left
  settled = l.settled

  -- what the sources drew
  abbrev drawn : Drawn
  drawn = drawn_of sources (graph_of b) left last

  -- what the nodes chose
  abbrev moved : ℕ → List ℕ
  moved = made_moves sources drains book handles b can ss ds left last between old mid opens

  -- what passed its wires
  abbrev carry : WiresCarry book b st.end.sinks.items st.wires.items drawn.picks
  carry = carried sources drains book handles laws b can ss ds budget st l old mid opens

  picture_wired : IsWired g (picture sources drains book handles laws b can ss ds budget st l old mid opens)
  picture_wired =
      let joined = run.joined in
      record {
        target = joined.target;
        source = joined.source;
        counted = λ i v at.
            let within : i < length (blueprint_wires b) = place_within (blueprint_wires b) i v at in
            let count : length (picture sources drains book handles laws b can ss ds budget st l old mid opens) ≡ length (blueprint_wires b) = counts_many left 0 (blueprint_wires b) in
            place_of (picture sources drains book handles laws b can ss ds budget st l old mid opens) i (omega (arith, within, count));
      }

  -- in a polytree every sink has ended where no event was left
  pub ending : NoneFollow plans → AllTell g book → IsPolytree (wiring (blueprint_wires b)) → IsTrue st.at_rest → list_any (λ (s : SinkStand). is_unended s.2) st.end.sinks.items ≡ false
  ending none own tree rest =
      none_unended st.end.sinks.items (λ i s at.
      let h = sink_here sources drains book handles laws b ss ds budget st l old mid opens i s at in
      let n : slice_get g.nodes h.is.to ≡ Some (graph_node b.wires.items h.node) = subst (λ j. slice_get g.nodes j ≡ Some (graph_node b.wires.items h.node)) (sym h.to) (mapped_at (graph_node b.wires.items) nodes s.0 h.node h.at) in
      let over : ended_there (left.nodes h.is.to) ≡ true =
      laws.trees g (unread book moved) (picture sources drains book handles laws b can ss ds budget st l old mid opens) (as_passed carry) picture_wired
      (rests_freely g (unread book moved) (plan_at plans) (none_at plans none) (picture sources drains book handles laws b can ss ds budget st l old mid opens) (as_passed carry) (laws.rests_by g (unread book moved) (plan_at plans) left (as_passed carry) run (still rest) (told_moves sources drains book handles laws b can ss ds budget st l old mid opens) (follows sources drains book handles laws b can ss ds budget st l plans led old mid opens) (all_agree sources drains book handles laws b can ss ds budget st l old mid opens))) own (tree_by_wires g tree)
      (λ k. ended_there (left.nodes k)) (laws.match g (unread book moved) left (as_passed carry) run (still rest)) h.wire h.is (graph_node b.wires.items h.node) h.there n h.shape in
      ended_goes s.2 (sym h.ended ∙ ap (λ (k : ℕ). ended_there (left.nodes k)) (sym h.to) ∙ over))

  -- the picture by what passed
  pictured : (heads : HeadLists) → HasTypes sources drains book handles laws b can ss ds budget st l old mid opens heads → PictureStands book heads b plans st.end.sinks.items drawn.picks st.wires.items st.at_rest
  pictured heads typed = record {
    carries = carry;
    customs = sent_typed sources drains book handles laws b can ss ds budget st l old mid opens heads typed;
    lawful = λ w is has.
        subst (λ (c : List WireCount). IsLawfulBy g w (plan_at plans) c (as_passed carry)) (sym (wires_are sources drains book handles laws b ss ds budget st l old mid opens))
        (laws.lawful_by g w (plan_at plans) left (as_passed carry) (run_at w is) settled (picks_told sources drains book handles b can ss ds left last between old mid opens w has) (follows sources drains book handles laws b can ss ds budget st l plans led old mid opens) (all_pass sources drains book handles laws b can ss ds budget st l old mid opens));
    rest = λ rest w is has.
        subst (λ (c : List WireCount). RestsBy g w (plan_at plans) c (as_passed carry)) (sym (wires_are sources drains book handles laws b ss ds budget st l old mid opens))
        (laws.rests_by g w (plan_at plans) left (as_passed carry) (run_at w is) (still rest) (picks_told sources drains book handles b can ss ds left last between old mid opens w has) (follows sources drains book handles laws b can ss ds budget st l plans led old mid opens) (all_agree sources drains book handles laws b can ss ds budget st l old mid opens));
    matching = λ rest w. matched sources drains book handles laws b ss ds budget st l old mid opens rest w (as_passed carry);
  }

  -- the picture by what passed, and the cause of a misfit by that
  abbrev Pictured : HeadLists → List Pick → Type 0
  Pictured heads ps = (p : PictureStands book heads b plans st.end.sinks.items ps st.wires.items st.at_rest)
      × ((stage place : ℕ) → st.end.misfit ≡ Some (stage, place) → IsMisfit b plans ps (MisfitByPassed p.carries plans) stage place)

  pictured_so : (heads : HeadLists) → HasTypes sources drains book handles laws b can ss ds budget st l old mid opens heads → Pictured heads drawn.picks
  unfolding pictured
  pictured_so heads typed = (pictured heads typed, stopped sources drains book handles laws b can ss ds budget st l plans led old mid opens (MisfitByPassed carry plans) (by_passed sources drains book handles laws b can ss ds budget st l plans led old mid opens))

  pub pictured_told : (heads : HeadLists) → HasTypes sources drains book handles laws b can ss ds budget st l old mid opens heads → Pictured heads (map pick_of st.end.picks.items)
  pictured_told heads typed = subst (Pictured heads) (sym l.picks) (pictured_so heads typed)
