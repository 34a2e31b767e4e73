-- What bodies between turns leave is what the nodes and the wires of their blueprint leave.
use Rattle.std.specs.Prelude.{slice_get, Option, All}
use Rattle.std.proofs.Common.{◌≡◌, ℕ, ◌<◌, List, ◌++◌, length, map, Some, None, true, refl, ap, sym, ◌∙◌, subst}
use Rattle.std.proofs.lemmas.List.{length-map}
use Rattle.std.proofs.lemmas.Option.{slice_get_within}
use Rattle.stream_io.specs.State.{SourceState, DrainState}
use Rattle.stream_model.specs.Composed.{count_from}
use Rattle.stream_model.specs.Graph.{Graph, Edge}
use Rattle.fused_net.proofs.Reading.{get_there}
use Rattle.fused_net.specs.Net.{Net, view_of, took, gave}
use Rattle.nodes.specs.Nodes.{node_picks, node_seat}
use Rattle.nodes.specs.Nodes.{node_misfit}
use Rattle.nodes.specs.declared.node.IslandNode.{IslandNode}
use Rattle.nodes.specs.declared.node.IslandNode.TheVariants as node
use Rattle.island_parts.specs.Ends.{is_lane_end}
use Rattle.interpreter.specs.Island.{counts_of, sinks_of, readers_of, writers_of}
use Rattle.interpreter.specs.Parts.{wire_number}
use Rattle.interpreter.specs.Picks.{place_number, picks_of}
use Rattle.interpreter.specs.Misfits.{least_of, FindsMisfit, IsLeast}
use Rattle.interpreter.specs.Seats.{seats_of}
use Rattle.interpreter.specs.declared.island.IslandEnd.{IslandEnd}
use Rattle.interpreter.specs.declared.parts.Seated.{Seated}
use Rattle.stream_model.specs.declared.blueprint.Node as blue
use Rattle.materializer.proofs.Placing.{seats_count}
use Rattle.materializer.specs.Graphs.{Around}
use Rattle.materializer.specs.Seats.{AreSeats}
use Rattle.lane_core.specs.Bodies.{AllOf, EachOf}
use Rattle.lane_core.specs.declared.crossing.Crossing.{Crossing}
use Rattle.blue_check.specs.Plan.{lanes_from}
use Rattle.blue_check.specs.declared.plan.LanePlan.{LanePlan}
use Rattle.scatter.specs.Shares.{of_home}
use Rattle.scatter.proofs.Sharing.{share_map}
use Rattle.island_parts.specs.Whole.{whole_seats}
use Rattle.island_parts.proofs.Wiring.{there}
use Rattle.island_parts.specs.Ends.{Whole, sink_of, reader_of, writer_of, leaves_something, homes_left, AreLaneEnds, AreEndsOf, AreHomesOf, IsEndOf, IsWholeEnd}
use Rattle.island_parts.specs.declared.room.EndHomes.{EndHomes}
use Rattle.island_parts.proofs.Behind.{sinks_behind, readers_behind, writers_behind, picks_behind, seats_behind, homes_behind}
use Rattle.island_parts.proofs.Misfits.{least_first}
use Rattle.island_plans.specs.Ends.{wire_home, homes_in, leaves_in, AreEndHomes}
use Rattle.island_plans.specs.declared.ends.EndList.{EndList}
use Rattle.island_plans.specs.declared.ends.EndList.TheVariants.{Sinks, Picks, Seats, Readers, Writers}
use Rattle.bodies_run.specs.Islands.{place_homes, links_in, AreNets, AreBroughtBack}
use Rattle.bodies_run.proofs.Gathering.{whole}
use Rattle.bodies_run.proofs.Standing.{all_below, all_seats, from_node, home_below}
use Rattle.island_body.specs.Keeping.{BodyKeeps, BodyGoes}
use Rattle.island_body.specs.declared.body.Body.{Body}
use Rattle.bodies_run.specs.Bodies.{net_in, net_of, AreBodiesOf, AllSettled}
use Rattle.bodies_run.proofs.Nets.{Went, went, stood, all_settled, now_nets}
use Rattle.bodies_run.specs.Begun.{AreNumberedBodies}
use Rattle.bodies_run.specs.Leaving.{account_in}
use Rattle.island_plans.specs.Making.{AreEndsOfBodies}
use Rattle.island_runs.specs.Whole.{whole_of, IsLeftBy}
use Rattle.island_runs.proofs.Homes.{homes_kept}
use Rattle.island_runs.proofs.Leaving.{LeavesAs, LeavesBy, lane_bare, law_stays, leaves_on, seat_leaves}
use Rattle.island_runs.proofs.Numbers.{map_both, all_read, seat_numbers}
use Rattle.island_runs.proofs.Became.{ends_at, node_began, end_began}
use Rattle.island_runs.proofs.Wires.{wires_are, told_many}
use Rattle.stream_model.specs.Linear.{Book}

-- a stage at an end of a lane chooses nothing
bare_misfit : {S D L H B : Type 0} (x : IslandNode S D L H B) → is_lane_end x ≡ true → node_misfit x ≡ None
bare_misfit (node.Entering x) e = refl
bare_misfit (node.Leaving x) e = refl
bare_misfit (node.Reading x) e = absurd cc
bare_misfit (node.Making x) e = absurd cc
bare_misfit (node.Linear x) e = absurd cc
bare_misfit (node.State x) e = absurd cc
bare_misfit (node.Sub x) e = absurd cc
bare_misfit (node.FanIn x) e = absurd cc
bare_misfit (node.FanOut x) e = absurd cc
bare_misfit (node.Custom x) e = absurd cc
bare_misfit (node.Writing x) e = absurd cc
bare_misfit (node.Ignoring x) e = absurd cc

-- a node of a settled net leaves what it left as it began
pub settled_stays : {S D L H B : Type 0} (sources : S → SourceState) (drains : D → DrainState) (book : Book) (bodies : List (Body S D L H B)) → AllSettled sources drains book bodies → (k p : ℕ) (first x : IslandNode S D L H B) → slice_get (net_of bodies k).firsts p ≡ Some first → slice_get (net_of bodies k).nodes p ≡ Some x → LeavesAs first x
settled_stays sources drains book bodies settled k p first x ef ex =
    let net = net_of bodies k in
    let m = (settled k).minded p (slice_get_within net.nodes p x ex) x first ex ef in
    law_stays sources drains book first x (view_of net p) (took net p) (gave net p) m.law_holds

-- the homes of a list, of nodes that leave what their kinds say and of others behind them
pub list_homes : {S D L H B Y : Type 0} (list : EndList) (f : IslandNode S D L H B → Option Y) (ns : List blue.Node) (homes others : List ℕ) (last more : List (IslandNode S D L H B)) → length last ≡ length homes → length last ≡ length ns
    → ((k : ℕ) (n : blue.Node) (x : IslandNode S D L H B) → slice_get ns k ≡ Some n → slice_get last k ≡ Some x → leaves_something (f x) ≡ leaves_in list n) → ((k : ℕ) (x : IslandNode S D L H B) → slice_get more k ≡ Some x → f x ≡ None) → homes_in list ns homes ≡ homes_left f (homes ++ others) (last ++ more)
list_homes list f ns homes others last more e g h none = homes_kept list f ns homes last g h ∙ sym (homes_behind f homes others last more e none)

module _ {S D L H B : Type 0} (sources : S → SourceState) (drains : D → DrainState) (book : Book) (g : Graph) (homes : List ℕ) (count : ℕ) (ws : List Edge) (nodes : List (Seated S D L H B)) (crossings : List Crossing) (begun now : List (Body S D L H B)) (all : ℕ → ℕ) (last more : List (IslandNode S D L H B))
    (m : AreBodiesOf sources drains book g homes count ws nodes crossings begun) (goes : EachOf BodyGoes begun now) (keep : AllOf (BodyKeeps sources drains book) now) (r : AreBroughtBack homes count ws (λ k. (net_of now k).nodes) last more) where
  goes_on : (k : ℕ) (x y : Body S D L H B) → slice_get begun k ≡ Some x → slice_get now k ≡ Some y → Went x y
  goes_on k x y ex ey = went x y (goes.each k x y ex ey)

  nets : AreNets homes ws nodes count (net_of now)
  nets = now_nets sources drains book g homes count ws nodes crossings begun m now goes.count goes_on

  settled : AllSettled sources drains book now
  settled = all_settled sources drains book now (λ k x at. stood sources drains book x (keep k x at))

  abbrev w : Whole S D L H B
  w = whole_of homes ws nodes (account_in homes ws now all).near last more

  -- the islands of the ends of lanes
  abbrev others : List ℕ
  others = map (λ (l : LanePlan). l.to) (lanes_from homes 0 ws) ++ map (λ (l : LanePlan). l.from) (lanes_from homes 0 ws)

  abbrev nodes_now : ℕ → List (IslandNode S D L H B)
  nodes_now k = (net_of now k).nodes

  stays : (k : ℕ) → k < count → (p : ℕ) (first x : IslandNode S D L H B) → slice_get (net_of now k).firsts p ≡ Some first → slice_get (nodes_now k) p ≡ Some x → LeavesAs first x
  stays k lt p first x ef ex = settled_stays sources drains book now settled k p first x ef ex

  -- what stands behind the nodes is at the ends of lanes
  lane_ends : AreLaneEnds more
  lane_ends k x is =
      let e = end_began homes count ws nodes (net_of now) m.seated nets LeavesAs nodes_now stays last more r k x is in
      e.1.1.ends ∙ e.1.0

  -- ---- the ends of all islands

  module _ (numbered : AreNumberedBodies homes ws nodes begun) (ends : List (IslandEnd S D)) (are : AreEndsOfBodies now ends) where
    many : length ends ≡ count
    many = are.many ∙ (goes.count ∙ m.begun_are.many)

    end_of : (k : ℕ) (e : IslandEnd S D) → slice_get ends k ≡ Some e → IsEndOf w k e
    end_of k e at =
        let lt : k < count = subst (λ (n : ℕ). k < n) many (slice_get_within ends k e at) in
        let b = get_there now k (subst (λ (n : ℕ). k < n) (sym (goes.count ∙ m.begun_are.many)) lt) in
        let a = get_there begun k (subst (λ (n : ℕ). k < n) (sym m.begun_are.many) lt) in
        let i = are.each k b.0 e b.1 at in
        let on = (goes.each k a.0 b.0 a.1 b.1).island in
        let n = numbered k a.0 a.1 in
        let net : net_of now k ≡ b.0.island.net = ap (λ (o : Option (Body S D L H B)). net_in o) b.1 in
        let share : of_home (place_homes homes ws) k (last ++ more) ≡ b.0.island.net.nodes = r.shares k lt ∙ ap (λ (t : Net (IslandNode S D L H B)). t.nodes) net in
        let places : b.0.island.places ≡ of_home (place_homes homes ws) k (map place_number (whole_seats nodes (lanes_from homes 0 ws))) =
        on.places ∙ (n.places ∙ sym (share_map place_number (place_homes homes ws) (whole_seats nodes (lanes_from homes 0 ws)) k)) in
        let wires = wires_are homes count ws nodes m.seated (net_of now) nets k lt in
        record {
          sinks = i.sinks ∙ ap sinks_of (sym share);
          picks = i.picks ∙ (ap (λ (ns : List ℕ). picks_of ns b.0.island.net.nodes) places ∙ ap (λ (xs : List (IslandNode S D L H B)). picks_of (of_home (place_homes homes ws) k (map place_number (whole_seats nodes (lanes_from homes 0 ws)))) xs) (sym share));
          misfit = i.misfit ∙ (ap (λ (ns : List ℕ). least_of ns b.0.island.net.nodes) places ∙ ap (λ (xs : List (IslandNode S D L H B)). least_of (of_home (place_homes homes ws) k (map place_number (whole_seats nodes (lanes_from homes 0 ws)))) xs) (sym share));
          seats = i.seats ∙ (ap (λ (ns : List ℕ). seats_of ns b.0.island.net.nodes) places ∙ ap (λ (xs : List (IslandNode S D L H B)). seats_of (of_home (place_homes homes ws) k (map place_number (whole_seats nodes (lanes_from homes 0 ws)))) xs) (sym share));
          readers = i.readers ∙ ap readers_of (sym share);
          writers = i.writers ∙ ap writers_of (sym share);
          fars = wires.0;
          wires = i.wires ∙ (ap (λ (ns : List ℕ). counts_of ns b.0.island.net.wires) (on.numbers ∙ n.wires) ∙ (ap (λ (t : Net (IslandNode S D L H B)). counts_of (map wire_number (links_in homes ws nodes k)) t.wires) (sym net) ∙ wires.1));
        }

    pub are_ends : AreEndsOf w ends
    are_ends = record {
      below = subst (λ (n : ℕ). All (λ h. h < n) (place_homes homes ws)) (sym many) (all_below homes count ws nodes m.seated);
      wires_below = all_read (λ h. h < length ends) (wire_home homes) ws (λ i v at. subst (λ (n : ℕ). wire_home homes v < n) (sym many) (home_below homes count ws nodes m.seated v.from (from_node homes count ws nodes m.seated i v at)));
      nodes_each = (whole homes count ws nodes m.seated nodes_now last more r).each;
      numbers_each = length-map (whole_seats nodes (lanes_from homes 0 ws)) place_number ∙ all_seats homes count ws nodes m.seated;
      counts_each = told_many (account_in homes ws now all).near 0 ws ∙ sym (length-map ws (wire_home homes));
      each = end_of;
    }

  -- ---- the homes of what is left, and all of it in one

  module _ (ns : List blue.Node) (ss : List S) (ds : List D) (around : Around) (seats : AreSeats around 0 ns ss ds nodes) where
    by_kind : (k : ℕ) (n : blue.Node) (x : IslandNode S D L H B) → slice_get ns k ≡ Some n → slice_get last k ≡ Some x → LeavesBy n.kind x
    by_kind k n x en ex =
        let lt : k < length ns = slice_get_within ns k n en in
        let s = there nodes k (subst (λ (i : ℕ). k < i) (sym (seats_count around 0 ns ss ds nodes seats)) lt) in
        let b = node_began homes count ws nodes (net_of now) m.seated nets LeavesAs nodes_now stays last more r k s.0 x s.1 ex in
        leaves_on n.kind b.first x (seat_leaves around 0 ns ss ds nodes k n s.0 b.first seats en s.1 b.becomes) b.keeps

    as_many : length last ≡ length ns
    as_many = r.each_node ∙ (m.seated.each ∙ seats_count around 0 ns ss ds nodes seats)

    pub are_homes : (e : EndHomes) → AreEndHomes homes ns ws e → AreHomesOf w e
    are_homes e are = record {
      sinks = are.sinks_are ∙ list_homes Sinks sink_of ns homes others last more r.each_node as_many (λ k n x en ex. (by_kind k n x en ex).sinks) (λ k x at. (lane_bare x (lane_ends k x at)).sinks);
      wires = are.wires_are;
      picks = are.picks_are ∙ list_homes Picks node_picks ns homes others last more r.each_node as_many (λ k n x en ex. (by_kind k n x en ex).picks) (λ k x at. (lane_bare x (lane_ends k x at)).picks);
      seats = are.seats_are ∙ list_homes Seats node_seat ns homes others last more r.each_node as_many (λ k n x en ex. (by_kind k n x en ex).seats) (λ k x at. (lane_bare x (lane_ends k x at)).seats);
      readers = are.readers_are ∙ list_homes Readers reader_of ns homes others last more r.each_node as_many (λ k n x en ex. (by_kind k n x en ex).handles.readers) (λ k x at. (lane_bare x (lane_ends k x at)).readers);
      writers = are.writers_are ∙ list_homes Writers writer_of ns homes others last more r.each_node as_many (λ k n x en ex. (by_kind k n x en ex).handles.writers) (λ k x at. (lane_bare x (lane_ends k x at)).writers);
    }

    pub is_left : (x : IslandEnd S D) → IsWholeEnd w x → IsLeftBy ws (account_in homes ws now all).near last x
    is_left x is = record {
      sinks = is.sinks ∙ sinks_behind last more lane_ends;
      picks = is.picks ∙ (ap (λ (l : List ℕ). picks_of l (last ++ more)) (map_both place_number nodes (ends_at (lanes_from homes 0 ws))) ∙ (picks_behind (map place_number nodes) (map place_number (ends_at {S = S} {D = D} {L = L} {H = H} {B = B} (lanes_from homes 0 ws))) last more (length-map nodes place_number ∙ sym same) lane_ends
          ∙ ap (λ (l : List ℕ). picks_of l last) (seat_numbers around 0 ns ss ds nodes seats ∙ ap (count_from 0) (sym same))));
      misfit = subst (λ (l : List ℕ). IsLeast (FindsMisfit l last) x.misfit) (seat_numbers around 0 ns ss ds nodes seats ∙ ap (count_from 0) (sym same))
          (least_first last more (λ k y at. bare_misfit y (lane_ends k y at)) (map place_number nodes) (map place_number (ends_at {S = S} {D = D} {L = L} {H = H} {B = B} (lanes_from homes 0 ws))) x.misfit (length-map nodes place_number ∙ sym same)
          (subst (λ (l : List ℕ). IsLeast (FindsMisfit l (last ++ more)) x.misfit) (map_both place_number nodes (ends_at (lanes_from homes 0 ws))) is.misfit));
      seats = is.seats ∙ (ap (λ (l : List ℕ). seats_of l (last ++ more)) (map_both place_number nodes (ends_at (lanes_from homes 0 ws))) ∙ (seats_behind (map place_number nodes) (map place_number (ends_at {S = S} {D = D} {L = L} {H = H} {B = B} (lanes_from homes 0 ws))) last more (length-map nodes place_number ∙ sym same) lane_ends
          ∙ ap (λ (l : List ℕ). seats_of l last) (seat_numbers around 0 ns ss ds nodes seats ∙ ap (count_from 0) (sym same))));
      wires = is.wires;
      readers = is.readers ∙ readers_behind last more lane_ends;
      writers = is.writers ∙ writers_behind last more lane_ends;
    }
      where
        same : length last ≡ length nodes
        same = r.each_node ∙ m.seated.each
