-- The moves that the stages of a blueprint had made by the end of its run, and where one could not make its next.
use Rattle.std.proofs.Common.{◌≡◌, ◌⊎◌, ℕ, ◌+◌, ◌<◌, List, [], map, length, slice_get, sym, ap, ◌∙◌, subst, arith}
use Rattle.std.specs.Prelude.{Option, Some, unwrap_or}
use Rattle.elem_core.specs.Prefix.{IsPrefix}
use Rattle.stream_model.specs.Graph.{Graph}
use Rattle.stream_model.specs.Node.{World}
use Rattle.stream_model.specs.Composed.{count_from}
use Rattle.stream_io.specs.State.{FolderState, SourceState, DrainState}
use Rattle.nodes.specs.Nodes.{node_moves, node_misfit, node_plan}
use Rattle.nodes.specs.declared.node.IslandNode.{IslandNode}
use Rattle.interpreter.specs.Misfits.{Found, FindsMisfit, IsLeast}
use Rattle.run_laws.specs.Account.{Account}
use Rattle.run_laws.specs.Runs.{IsRun}
use Rattle.run_laws.specs.Replayed.{IsAtOnce}
use Rattle.run_laws.specs.Telling.{FollowsPlans, moves_at}
use Rattle.run_laws.proofs.Unled.{misfit_has_more}
use Rattle.stream_model.specs.declared.blueprint.Blueprint.{Blueprint}
use Rattle.stream_model.specs.declared.blueprint.Node as blue
use Rattle.materializer.specs.Fit.{CanRun}
use Rattle.materializer.specs.Files.{inputs_of_nodes, outputs_of_nodes}
use Rattle.materializer.specs.Choosers.{plan_at}
use Rattle.materializer.specs.Seats.{place_plan}
use Rattle.materializer.specs.Graphs.{graph_node, graph_of}
use Rattle.run_blueprint.specs.Carrying.{WiresCarry, MisfitByPassed, as_passed}
use Rattle.run_blueprint.proofs.Carried.{unread}
use Rattle.run_blueprint.specs.Drawing.{Drawn}
use Rattle.island_runs.specs.Leaving.{Moment, RunLeaves}
use Rattle.run_blueprint.specs.Opening.{Opens}
use Rattle.run_blueprint.specs.Replaying.{MakesItsMoves, IsMisfit}
use Rattle.island_runs.specs.declared.run.Stopped.{Stopped}
use Rattle.run_blueprint.proofs.Replays.{follow_along, count_at, chose_along, made_along, misfit_chooses}
use Rattle.run_blueprint.proofs.Places.{mapped_at, place_of, place_within}
use Rattle.run_blueprint.proofs.Handles.{HandleLaws, as_many}
use Rattle.run_blueprint.proofs.Drawns.{drawn_of, made_moves, picks_told}
use Rattle.run_blueprint.proofs.RunLaws.{RunLaws}
use Rattle.run_blueprint.proofs.EndLists.{carried, told_moves, all_agree}
use Rattle.stream_model.specs.Linear.{Book}

module _ {S D L H B : Type 0} (sources : S → SourceState) (drains : D → DrainState) (book : Book) (handles : HandleLaws L H B sources drains book) (laws : RunLaws L H B sources drains book) (b : Blueprint) (can : CanRun b) (ss : List S) (ds : List D) (budget : ℕ) (st : Stopped S D) (l : RunLeaves L H B sources drains book b ss ds budget st)
    (plans : List (Option (List ℕ))) (led : map place_plan l.moment.places ≡ plans) (old mid : FolderState) {others : List (List ℕ)} (opens : Opens old mid (inputs_of_nodes b.nodes.items) (outputs_of_nodes b.nodes.items) others (map sources ss) (map drains ds)) where
  abbrev pub nodes : List blue.Node
  nodes = b.nodes.items

  abbrev pub left : Account (IslandNode S D L H B)
  left = l.account

  abbrev pub last : List (IslandNode S D L H B)
  last = l.nodes

  abbrev pub between : Moment sources drains book b ss ds left last
  between = l.moment

  abbrev pub g : Graph
  g = graph_of b

  run : IsRun sources drains book g left
  run = l.moment.run

  -- so it is by the heads of every world that has these
  run_at : (w : World) → w.book ≡ book → IsRun sources drains w.book g left
  run_at w is = subst (λ (x : Book). IsRun sources drains x g left) (sym is) run

  -- what the sources drew
  abbrev drawn : Drawn
  drawn = drawn_of sources (graph_of b) left last

  -- what the nodes chose
  abbrev moved : ℕ → List ℕ
  moved = made_moves sources drains book handles b can ss ds left last between old mid opens

  -- what passed its wires
  abbrev carry : WiresCarry book b st.end.sinks.items st.wires.items drawn.picks
  carry = carried sources drains book handles laws b can ss ds budget st l old mid opens

  -- what each node follows
  pub follows : FollowsPlans (plan_at plans) left
  follows k first at = subst (λ (ps : List (Option (List ℕ))). plan_at ps k ≡ node_plan first) led (follow_along between.places between.firsts between.become k first (sym (between.first_at k) ∙ at))

  -- a node of the blueprint, as it is at its place
  node_there : (k : ℕ) (x : IslandNode S D L H B) → slice_get last k ≡ Some x → left.nodes k ≡ Some x
  node_there k x at = between.node_at k ∙ at

  -- what the stages that follow moves made of them
  pub made : MakesItsMoves b plans drawn.picks
  made k n plan moves at is chose =
      let c = chose_along 0 last chose.0 k moves chose.1 in
      let place : c.at ≡ k = let p = c.place in omega (arith, p) in
      let there = node_there k c.node (subst (λ (j : ℕ). slice_get last j ≡ Some c.node) place c.there) in
      let here = mapped_at (graph_node b.wires.items) nodes k n at in
      let m = run.keeps.each_node k (graph_node b.wires.items n) here in
      let its = laws.begins g (unread book moved) left run k (graph_node b.wires.items n) m.first c.node plan here m.first_at there (sym (follows k m.first m.first_at) ∙ is) in
      subst (λ (ms : List ℕ). IsPrefix ms plan × (IsAtOnce n.kind → (ms ≡ []) ⊎ (ms ≡ plan))) (ap (λ (o : Option (List ℕ)). unwrap_or o []) c.picks) its

  -- one that could not make its next move, by what is told of its cause
  abbrev pub Told : (ℕ → blue.Node → Type 0) → Type 0
  Told Cause = (k : ℕ) (n : blue.Node) (x : IslandNode S D L H B) (place : ℕ) → slice_get nodes k ≡ Some n → left.nodes k ≡ Some x → node_misfit x ≡ Some place → Cause k n

  pub stopped : (Cause : ℕ → blue.Node → Type 0) → Told Cause → (stage place : ℕ) → st.end.misfit ≡ Some (stage, place) → IsMisfit b plans drawn.picks Cause stage place
  stopped Cause causes stage place is =
      let f : FindsMisfit (count_from 0 (length last)) last stage place = (subst (λ (o : Option Found). IsLeast (FindsMisfit (count_from 0 (length last)) last) o) is l.misfit).0 in
      let number : stage ≡ 0 + f.at = count_at 0 (length last) f.at stage f.number in
      let same : f.at ≡ stage = omega (arith, number) in
      let found : slice_get last stage ≡ Some f.node = subst (λ (j : ℕ). slice_get last j ≡ Some f.node) same f.there in
      let below : stage < length nodes = subst (λ (m : ℕ). stage < m) (sym (as_many sources drains book handles b ss ds left last between old mid opens)) (place_within last stage f.node found) in
      let n = place_of nodes stage below in
      let here = mapped_at (graph_node b.wires.items) nodes stage n.0 n.1 in
      let there = node_there stage f.node found in
      let why = laws.misfit g (unread book moved) (plan_at plans) left (as_passed carry) run (told_moves sources drains book handles laws b can ss ds budget st l old mid opens) follows (all_agree sources drains book handles laws b can ss ds budget st l old mid opens) stage (graph_node b.wires.items n.0) f.node place here there f.found in
      let more = misfit_has_more g (unread book moved) (plan_at plans) (as_passed carry) stage (graph_node b.wires.items n.0) why.1 in
      let moves : List ℕ = node_moves f.node in
      let size : length (moved stage) ≡ length (node_moves f.node) = ap (λ (o : Option (IslandNode S D L H B)). length (moves_at o)) there in
      let chose = made_along 0 last f.at stage f.node (node_moves f.node) number f.there (misfit_chooses f.node place f.found) in
      let many : place ≡ length (node_moves f.node) = why.0 in
      let longer : length (moved stage) < length more.moves = more.more in
      record {
        node = n.0;
        there = n.1;
        plan = more.moves;
        follows = more.is;
        moves = node_moves f.node;
        made = chose;
        place_is = why.0;
        more = omega (arith, size, many, longer);
        first = (made stage n.0 more.moves (node_moves f.node) n.1 more.is chose).0;
        cause = causes stage n.0 f.node place n.1 there f.found;
      }

  pub by_passed : Told (MisfitByPassed carry plans)
  by_passed k n x place at there found = λ w is has. (laws.misfit g w (plan_at plans) left (as_passed carry) (run_at w is) (picks_told sources drains book handles b can ss ds left last between old mid opens w has) follows (all_agree sources drains book handles laws b can ss ds budget st l old mid opens) k (graph_node b.wires.items n) x place (mapped_at (graph_node b.wires.items) nodes k n at) there found).1
