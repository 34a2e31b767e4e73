-- What bodies that ran leave is what a run of their blueprint leaves.
use Rattle.std.specs.Prelude.{slice_get}
use Rattle.std.specs.List.{All}
use Rattle.std.proofs.Common.{◌≡◌, ℕ, ◌+◌, ◌≤◌, Bool, true, false, IsTrue, List, length, map, Some, refl, sym, ap, ◌∙◌, subst}
use Rattle.std.proofs.lemmas.Option.{slice_get_within}
use Rattle.blue_check.specs.Wires.{blueprint_wires}
use Rattle.stream_model.specs.declared.blueprint.Blueprint.{Blueprint}
use Rattle.stream_model.specs.declared.blueprint.Node as blue
use Rattle.stream_io.specs.State.{SourceState, DrainState}
use Rattle.stream_model.specs.Graph.{Edge}
use Rattle.stream_model.specs.declared.outcome.WireCount.{WireCount}
use Rattle.stream_model.specs.Shape.{count_needed}
use Rattle.port_core.specs.Cell.{WireState}
use Rattle.nodes.specs.Nodes.{KeepsNode, node_seat}
use Rattle.nodes.specs.declared.node.IslandNode.{IslandNode}
use Rattle.nodes.specs.declared.node.IslandNode.TheVariants.{Writing}
use Rattle.nodes.specs.Sink.{Sink, sink_late}
use Rattle.fused_net.specs.Laws.{AllKept}
use Rattle.interpreter.specs.Island.{readers_of, writers_of}
use Rattle.stream_model.specs.Composed.{count_from}
use Rattle.interpreter.specs.Picks.{pick_of}
use Rattle.interpreter.specs.Misfits.{FindsMisfit, IsLeast}
use Rattle.interpreter.specs.declared.island.IslandEnd.{IslandEnd}
use Rattle.interpreter.specs.declared.parts.Seated.{Seated}
use Rattle.run_laws.specs.Account.{Account, IsStill}
use Rattle.run_laws.specs.Pictures.{picture_counts}
use Rattle.run_laws.specs.Runs.{IsRun}
use Rattle.materializer.specs.Graphs.{graph_of, around_of}
use Rattle.materializer.specs.Seats.{AreSeats, place_seat, place_room}
use Rattle.island_plans.specs.Rooms.{rooms_by}
use Rattle.island_runs.proofs.Calm.{rooms_are}
use Rattle.bodies_run.specs.Leaving.{AreLeft, of_lists}
use Rattle.bodies_run.proofs.Alone.{run_alone, still_alone, counts_alone}
use Rattle.bodies_run.specs.Counts.{all_sent, taken_off}
use Rattle.island_runs.specs.Whole.{IsLeftBy}
use Rattle.stage_switch.specs.Settling.{AllSettled}
use Rattle.materializer.specs.Board.{AreAtSwitches, numbered_from, seat_in}
use Rattle.materializer.specs.declared.switch_board.Board.{Board}
use Rattle.island_runs.specs.Leaving.{Moment, RunLeaves, LeavesBroken, CancelsCross}
use Rattle.island_runs.specs.declared.run.Stopped.{Stopped}
use Rattle.island_runs.proofs.Settling.{kept_seats, seats_numbered, settled_run}
use Rattle.stream_model.specs.Linear.{Book}

-- a condition that holds is true
is_so : (t : Bool) → IsTrue t → t ≡ true
is_so t h = cc

-- the seats that nodes leave, by their numbers
pub left_seats : {S D L H B : Type 0} (ws : List Edge) (near : ℕ → WireState) (last : List (IslandNode S D L H B)) (e : IslandEnd S D) → IsLeftBy ws near last e → e.seats.items ≡ numbered_from 0 (map node_seat last)
left_seats ws near last e l = l.seats ∙ seats_numbered 0 last

module _ {S D L H B : Type 0} (sources : S → SourceState) (drains : D → DrainState) (book : Book) (b : Blueprint) (ss : List S) (ds : List D) (nodes : List (Seated S D L H B)) (seats : AreSeats (around_of b) 0 b.nodes.items ss ds nodes) (many : length nodes ≡ length (graph_of b).nodes)
    (acc : Account (IslandNode S D L H B)) (last : List (IslandNode S D L H B)) (left : AreLeft nodes acc last) (run : IsRun sources drains book (graph_of b) acc) where
  -- the account of the nodes alone
  abbrev alone : Account (IslandNode S D L H B)
  alone = of_lists acc left.firsts last

  same : picture_counts alone (graph_of b) ≡ picture_counts acc (graph_of b)
  same = counts_alone acc left.firsts last 0 (graph_of b).wires

  -- it is one of the run at this moment
  moment : Moment sources drains book b ss ds alone last
  moment = record {
    places = nodes;
    seats = seats;
    firsts = left.firsts;
    become = left.become;
    first_at = λ k. refl;
    node_at = λ k. refl;
    as_many = left.as_many;
    run = run_alone sources drains book (graph_of b) acc nodes last left many run;
  }

  -- bodies that were taken apart between two events, where the seats that their nodes left were settled
  pub leaves : (budget : ℕ) (s : Stopped S D) (e : IslandEnd S D) (near : ℕ → WireState) → (s.at_rest ≡ true → IsStill (graph_of b) acc) → map place_room nodes ≡ rooms_by (length b.nodes.items) (blueprint_wires b) → (s.at_rest ≡ true → (k : ℕ) (f : Sink D) → acc.nodes k ≡ Some (Writing f) → sink_late f ≡ 0) → CancelsCross (graph_of b) acc → IsLeftBy (blueprint_wires b) near last e → s.end ≡ record e { seats = s.end.seats }
      → AllSettled (map (λ (n : blue.Node). n.kind) b.nodes.items) (seat_in (map node_seat last)) → s.wires.items ≡ picture_counts acc (graph_of b) → s.used ≤ budget → (s.at_rest ≡ false → s.used ≡ budget)
      → all_sent (picture_counts acc (graph_of b)) + taken_off (blueprint_wires b) (picture_counts acc (graph_of b)) ≤ s.used → s.used + length (blueprint_wires b) ≤ count_needed (graph_of b) (picture_counts acc (graph_of b)) → (l : RunLeaves L H B sources drains book b ss ds budget s) × (l.moment.places ≡ nodes)
  unfolding moment
  leaves budget s e near still rooms calm cancels l same_end settled wires within spent least most = (
    record {
      account = alone;
      nodes = last;
      moment = moment;
      still = λ h. still_alone (graph_of b) acc left.firsts last (still (is_so s.at_rest h));
      settled = settled_run b last alone (λ (k : ℕ). refl) settled;
      cancels = cancels;
      roomed = λ k u v first at wire to one. rooms_are nodes left.firsts (length b.nodes.items) (blueprint_wires b) left.become rooms k u v first at wire to one;
      none_late = λ h k now at. calm (is_so s.at_rest h) k now (left.node_at k (slice_get_within last k (Writing now) at) ∙ at);
      sinks = ap (λ (x : IslandEnd S D). x.sinks.items) same_end ∙ l.sinks;
      picks = ap (λ (x : IslandEnd S D). map pick_of x.picks.items) same_end ∙ l.picks;
      misfit = subst (λ (x : IslandEnd S D). IsLeast (FindsMisfit (count_from 0 (length last)) last) x.misfit) (sym same_end) l.misfit;
      wires = wires ∙ sym same;
      readers = ap (λ (x : IslandEnd S D). x.readers.items) same_end ∙ l.readers;
      writers = ap (λ (x : IslandEnd S D). x.writers.items) same_end ∙ l.writers;
      within = within;
      spent = spent;
      least = subst (λ (cs : List WireCount). all_sent cs + taken_off (blueprint_wires b) cs ≤ s.used) (sym same) least;
      most = subst (λ (cs : List WireCount). s.used + length (blueprint_wires b) ≤ count_needed (graph_of b) cs) (sym same) most;
    },
    refl,
  )

  -- their nodes have their seats at the switches of the board at which they were handed in
  pub kept : (board : Board) → AreAtSwitches (map (λ (n : blue.Node). n.kind) b.nodes.items) board (map place_seat nodes) → AreAtSwitches (map (λ (n : blue.Node). n.kind) b.nodes.items) board (map node_seat last)
  kept board at = kept_seats sources drains book b board nodes left.firsts last alone left.become (λ (k : ℕ). refl) (λ (k : ℕ). refl) left.as_many moment.run at

  -- and such as those of which some broke off in a turn
  pub broken : (e : IslandEnd S D) (later : List (IslandNode S D L H B)) → AllKept (KeepsNode sources drains) last later → e.readers.items ≡ readers_of later → e.writers.items ≡ writers_of later → LeavesBroken L H B sources drains book b ss ds e
  broken e later kept readers writers = record {
    account = alone;
    last = last;
    moment = moment;
    nodes = later;
    kept = kept;
    readers = readers;
    writers = writers;
  }
