-- What bodies leave of which some broke off are the handles of their blueprint's nodes.
use Rattle.std.specs.Prelude.{slice_get, Option, All}
use Rattle.std.proofs.Common.{◌≡◌, ◌⊎◌, ℕ, zero, suc, ◌<◌, List, [], ◌∷◌, ◌++◌, length, map, Some, None, ap, sym, ◌∙◌, subst}
use Rattle.std.proofs.lemmas.Option.{slice_get_within}
use Rattle.stream_io.specs.State.{SourceState, DrainState}
use Rattle.stream_model.specs.Graph.{Graph, Edge}
use Rattle.fused_net.proofs.Reading.{get_there}
use Rattle.fused_net.specs.Laws.{AllKept}
use Rattle.fused_net.specs.Net.{Net}
use Rattle.nodes.specs.Nodes.{KeepsNode}
use Rattle.nodes.specs.declared.node.IslandNode.{IslandNode}
use Rattle.interpreter.specs.Island.{readers_of, writers_of}
use Rattle.interpreter.specs.declared.island.IslandEnd.{IslandEnd}
use Rattle.interpreter.specs.declared.parts.Seated.{Seated}
use Rattle.stream_model.specs.declared.blueprint.Node as blue
use Rattle.materializer.proofs.Placing.{seats_count}
use Rattle.materializer.specs.Graphs.{Around}
use Rattle.materializer.specs.Seats.{AreSeats}
use Rattle.lane_core.specs.declared.crossing.Crossing.{Crossing}
use Rattle.blue_check.specs.Plan.{lanes_from}
use Rattle.blue_check.specs.declared.plan.LanePlan.{LanePlan}
use Rattle.scatter.specs.Shares.{of_home}
use Rattle.island_parts.proofs.Wiring.{there}
use Rattle.island_parts.specs.Ends.{reader_of, writer_of, leaves_something, AreHandlesOf}
use Rattle.island_parts.specs.declared.room.EndHomes.{EndHomes}
use Rattle.island_parts.proofs.OfNodes.{readers_are, writers_are}
use Rattle.island_plans.specs.Ends.{AreEndHomes}
use Rattle.island_plans.specs.declared.ends.EndList.TheVariants.{Readers, Writers}
use Rattle.bodies_run.specs.Islands.{place_homes, AreNets, AreBroughtBack}
use Rattle.dispatcher.specs.Broken.{WholeOrBroken}
use Rattle.island_body.specs.Keeping.{BodyKeeps, BodyGoes, BodyBreaks}
use Rattle.island_body.specs.declared.body.Body.{Body}
use Rattle.bodies_run.specs.Bodies.{net_in, net_of, AreBodiesOf, AreLastOf}
use Rattle.bodies_run.proofs.Broken.{last_settled, last_kept, last_nets}
use Rattle.island_plans.specs.Making.{AreEndsOfBodies}
use Rattle.island_runs.proofs.Homes.{homes_kept, none_left, AreLeftOf, own_below, own_each, own_share}
use Rattle.island_runs.proofs.Leaving.{HandlesAs, HandlesBy, handles_both, handles_on, kept_stays, lane_bare, seat_leaves}
use Rattle.island_runs.proofs.Became.{node_began, end_began}
use Rattle.island_runs.proofs.Whole.{settled_stays}
use Rattle.stream_model.specs.Linear.{Book}

-- of two lists of which each item is kept
kept_at : {N : Type 0} (keeps : N → N → Type 0) (xs ys : List N) → AllKept keeps xs ys → (k : ℕ) (x y : N) → slice_get xs k ≡ Some x → slice_get ys k ≡ Some y → (y ≡ x) ⊎ keeps x y
kept_at keeps [] ys h k x y ex ey = absurd cc
kept_at keeps (v ∷ xs) [] h k x y ex ey = absurd h
kept_at {N = N} keeps (v ∷ xs) (w ∷ ys) h zero x y ex ey =
    let left : v ≡ x = cc in
    let right : w ≡ y = cc in
    subst (λ (z : N). (y ≡ z) ⊎ keeps z y) left (subst (λ (z : N). (z ≡ v) ⊎ keeps v z) right h.0)
kept_at keeps (v ∷ xs) (w ∷ ys) h (suc k) x y ex ey = kept_at keeps xs ys h.1 k x y ex ey

-- what leaves nothing as another leaves nothing
bare_as : {Y Z : Type 0} (o : Option Y) (p : Option Z) → leaves_something p ≡ leaves_something o → o ≡ None → p ≡ None
bare_as o p e n = none_left p (e ∙ ap leaves_something n)

module _ {S D L H B : Type 0} (sources : S → SourceState) (drains : D → DrainState) (book : Book) (g : Graph) (homes : List ℕ) (count : ℕ) (ws : List Edge) (nodes : List (Seated S D L H B)) (crossings : List Crossing) (begun now then : List (Body S D L H B)) (broken later : List (IslandNode S D L H B))
    (m : AreBodiesOf sources drains book g homes count ws nodes crossings begun) (broke : WholeOrBroken (BodyKeeps sources drains book) BodyGoes (BodyBreaks sources drains book) begun now) (l : AreLastOf sources drains book begun now then) (r : AreBroughtBack homes count ws (λ k. (net_of now k).nodes) broken later) where
  abbrev nodes_now : ℕ → List (IslandNode S D L H B)
  nodes_now k = (net_of now k).nodes

  nets : AreNets homes ws nodes count (net_of then)
  nets = last_nets sources drains book begun now broke then l g homes count ws nodes crossings m

  -- what is left of a node leaves a handle where it left one as it began
  stays : (k : ℕ) → k < count → (p : ℕ) (first x : IslandNode S D L H B) → slice_get (net_of then k).firsts p ≡ Some first → slice_get (nodes_now k) p ≡ Some x → HandlesAs first x
  stays k lt p first x ef ex =
      let within : p < length (net_of then k).firsts = slice_get_within (net_of then k).firsts p first ef in
      let y = there (net_of then k).nodes p (subst (λ (n : ℕ). p < n) (nets.each_first k lt) within) in
      let a = settled_stays sources drains book then (last_settled sources drains book begun now broke then l) k p first y.0 ef y.1 in
      handles_both first y.0 x a.handles (kept_stays sources drains y.0 x (kept_at (KeepsNode sources drains) (net_of then k).nodes (nodes_now k) (last_kept sources drains book begun now broke then l k) p y.0 x y.1 ex))

  module _ (ns : List blue.Node) (ss : List S) (ds : List D) (around : Around) (seats : AreSeats around 0 ns ss ds nodes) (e : EndHomes) (ends_are : AreEndHomes homes ns ws e) (ends : List (IslandEnd S D)) (are : AreEndsOfBodies now ends) where
    by_kind : (k : ℕ) (n : blue.Node) (x : IslandNode S D L H B) → slice_get ns k ≡ Some n → slice_get broken k ≡ Some x → HandlesBy n.kind x
    by_kind k n x en ex =
        let lt : k < length ns = slice_get_within ns k n en in
        let s = there nodes k (subst (λ (j : ℕ). k < j) (sym (seats_count around 0 ns ss ds nodes seats)) lt) in
        let b = node_began homes count ws nodes (net_of then) m.seated nets HandlesAs nodes_now stays broken later r k s.0 x s.1 ex in
        handles_on n.kind b.first x (seat_leaves around 0 ns ss ds nodes k n s.0 b.first seats en s.1 b.becomes).handles b.keeps

    as_many : length broken ≡ length ns
    as_many = r.each_node ∙ (m.seated.each ∙ seats_count around 0 ns ss ds nodes seats)

    many : length ends ≡ count
    many = are.many ∙ (broke.count ∙ m.begun_are.many)

    below : All (λ h. h < length ends) homes
    below = subst (λ (n : ℕ). All (λ h. h < n) homes) (sym many) m.seated.below

    abbrev others : List ℕ
    others = map (λ (p : LanePlan). p.to) (lanes_from homes 0 ws) ++ map (λ (p : LanePlan). p.from) (lanes_from homes 0 ws)

    abbrev wide : ℕ
    wide = length ends

    readers_left : AreLeftOf reader_of homes others wide broken later e.readers.items
    readers_left = record {
      many = r.each_node;
      below = below;
      none = λ k x at. let w = end_began homes count ws nodes (net_of then) m.seated nets HandlesAs nodes_now stays broken later r k x at in bare_as (reader_of w.0) (reader_of x) w.1.1.readers (lane_bare w.0 w.1.0).readers;
      own_are = ends_are.readers_are ∙ homes_kept Readers reader_of ns homes broken as_many (λ k n x en ex. (by_kind k n x en ex).readers);
    }

    writers_left : AreLeftOf writer_of homes others wide broken later e.writers.items
    writers_left = record {
      many = r.each_node;
      below = below;
      none = λ k x at. let w = end_began homes count ws nodes (net_of then) m.seated nets HandlesAs nodes_now stays broken later r k x at in bare_as (writer_of w.0) (writer_of x) w.1.1.writers (lane_bare w.0 w.1.0).writers;
      own_are = ends_are.writers_are ∙ homes_kept Writers writer_of ns homes broken as_many (λ k n x en ex. (by_kind k n x en ex).writers);
    }

    -- the body of an end, and its nodes
    body_of : (k : ℕ) (x : IslandEnd S D) → slice_get ends k ≡ Some x → (b : Body S D L H B) × ((slice_get now k ≡ Some b) × (b.island.net.nodes ≡ of_home (place_homes homes ws) k (broken ++ later)))
    body_of k x at =
        let lt : k < count = subst (λ (n : ℕ). k < n) many (slice_get_within ends k x at) in
        let b = get_there now k (subst (λ (n : ℕ). k < n) (sym (broke.count ∙ m.begun_are.many)) lt) in
        let net : net_of now k ≡ b.0.island.net = ap (λ (o : Option (Body S D L H B)). net_in o) b.1 in
        (b.0, (b.1, sym (r.shares k lt ∙ ap (λ (t : Net (IslandNode S D L H B)). t.nodes) net)))

    pub are_handles : AreHandlesOf e (readers_of broken) (writers_of broken) ends
    are_handles = record {
      readers_below = own_below reader_of homes others wide broken later e.readers.items readers_left;
      writers_below = own_below writer_of homes others wide broken later e.writers.items writers_left;
      readers_each = ap length (readers_are broken) ∙ own_each reader_of homes others wide broken later e.readers.items readers_left;
      writers_each = ap length (writers_are broken) ∙ own_each writer_of homes others wide broken later e.writers.items writers_left;
      reader_shares = λ k x at.
          let b = body_of k x at in
          (are.each k b.0 x b.1.0 at).readers ∙ (ap readers_of b.1.1 ∙ (readers_are (of_home (place_homes homes ws) k (broken ++ later)) ∙ (own_share reader_of homes others wide broken later e.readers.items readers_left k ∙ ap (of_home e.readers.items k) (sym (readers_are broken)))));
      writer_shares = λ k x at.
          let b = body_of k x at in
          (are.each k b.0 x b.1.0 at).writers ∙ (ap writers_of b.1.1 ∙ (writers_are (of_home (place_homes homes ws) k (broken ++ later)) ∙ (own_share writer_of homes others wide broken later e.writers.items writers_left k ∙ ap (of_home e.writers.items k) (sym (writers_are broken)))));
    }
