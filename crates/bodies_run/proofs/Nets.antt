-- The nets of the bodies' islands, as they were made and as they went on.
use Rattle.std.specs.Prelude.{slice_get, Option, None}
use Rattle.std.proofs.Common.{◌≡◌, ℕ, ◌<◌, List, length, map, Some, refl, sym, ◌∙◌, subst, arith}
use Rattle.stream_io.specs.State.{SourceState, DrainState}
use Rattle.stream_model.specs.Graph.{Graph, Edge}
use Rattle.fused_net.specs.Laws.{Settled, NetGoesOn}
use Rattle.fused_net.proofs.Reading.{get_there}
use Rattle.nodes.specs.Nodes.{node_port_state, node_law, node_asking, node_moves}
use Rattle.nodes.specs.declared.node.IslandNode.{IslandNode}
use Rattle.interpreter.specs.Parts.{ends_of, AllBecome}
use Rattle.interpreter.specs.declared.parts.Seated.{Seated}
use Rattle.run_laws.specs.Seats.{Covers, joined_account}
use Rattle.run_laws.specs.Units.{Owned}
use Rattle.bodies_run.specs.Islands.{seats_by_islands, seats_in, links_in, AreNets}
use Rattle.bodies_run.proofs.Covering.{covers, owned, go_on, firsts_count}
use Rattle.bodies_run.proofs.Gathering.{back, become}
use Rattle.lane_core.specs.declared.crossing.Crossing.{Crossing}
use Rattle.island_body.specs.Ends.{AllStand, IslandGoes}
use Rattle.island_body.specs.Keeping.{SameLanes, BodyKeeps, BodyGoes}
use Rattle.island_body.specs.declared.body.Body.{Body}
use Rattle.bodies_run.specs.Bodies.{empty_net, net_in, net_of, AreBodiesOf, AllSettled}
use Rattle.stream_model.specs.Linear.{Book}

module _ {S D L H B : Type 0} where
  -- what of a body goes on, and what of it stands, also where it breaks off
  pub record Went (a b : Body S D L H B) : Type 0 where
    pub island : IslandGoes a.island b.island
    pub lanes : SameLanes a.ins.items b.ins.items a.outs.items b.outs.items

  pub record Stood (sources : S → SourceState) (drains : D → DrainState) (book : Book) (b : Body S D L H B) : Type 0 where
    pub settled : Settled node_port_state (node_law sources drains book) node_asking node_moves b.island.net
    pub stand : AllStand b.island b.ins.items b.outs.items

  pub went : (a b : Body S D L H B) → BodyGoes a b → Went a b
  went a b g = record { island = g.island; lanes = g.lanes }

  pub stood : (sources : S → SourceState) (drains : D → DrainState) (book : Book) (b : Body S D L H B) → BodyKeeps sources drains book b → Stood sources drains book b
  stood sources drains book b k = record { settled = k.laws.laws; stand = k.stands.stand }

  -- nothing moves in a net without nodes
  pub empty_settled : (sources : S → SourceState) (drains : D → DrainState) (book : Book) → Settled node_port_state (node_law sources drains book) node_asking node_moves (empty_net {N = IslandNode S D L H B})
  empty_settled sources drains book = record {
    wired = record {
      each_node = refl;
      each_wire = refl;
      from_within = λ w h. absurd (omega (arith, h));
      to_within = λ w h. absurd (omega (arith, h));
      from_output = λ w h. absurd (omega (arith, h));
      to_input = λ w h. absurd (omega (arith, h));
      input_to = λ n i w h e. absurd (omega (arith, h));
      output_from = λ n j w h e. absurd (omega (arith, h));
    };
    each_first = refl;
    sound = λ w h. absurd (omega (arith, h));
    marked = λ w h. absurd (omega (arith, h));
    minded = λ n h. absurd (omega (arith, h));
    asked = λ w h. absurd (omega (arith, h));
    moments = λ n u h. absurd (omega (arith, h));
  }

  settled_in : (sources : S → SourceState) (drains : D → DrainState) (book : Book) (o : Option (Body S D L H B)) → ((b : Body S D L H B) → o ≡ Some b → Stood sources drains book b) → Settled node_port_state (node_law sources drains book) node_asking node_moves (net_in o)
  settled_in sources drains book None h = empty_settled sources drains book
  settled_in sources drains book (Some b) h = (h b refl).settled

  pub all_settled : (sources : S → SourceState) (drains : D → DrainState) (book : Book) (now : List (Body S D L H B)) → ((k : ℕ) (b : Body S D L H B) → slice_get now k ≡ Some b → Stood sources drains book b) → AllSettled sources drains book now
  all_settled sources drains book now h = λ k. settled_in sources drains book (slice_get now k) (h k)

module _ {S D L H B : Type 0} (sources : S → SourceState) (drains : D → DrainState) (book : Book) (g : Graph) (homes : List ℕ) (count : ℕ) (ws : List Edge) (nodes : List (Seated S D L H B)) (crossings : List Crossing) (begun : List (Body S D L H B))
    (m : AreBodiesOf sources drains book g homes count ws nodes crossings begun) where
  begun_at : (k : ℕ) → k < count → (b : Body S D L H B) × (slice_get begun k ≡ Some b)
  begun_at k lt = get_there begun k (subst (λ (n : ℕ). k < n) (sym m.begun_are.many) lt)

  begun_settled : AllSettled sources drains book begun
  begun_settled = all_settled sources drains book begun (λ k b at. stood sources drains book b (m.begun_are.keep k b at))

  begun_nets : AreNets homes ws nodes count (net_of begun)
  begun_nets = record {
    become = λ k lt. let b = begun_at k lt in subst (λ (o : Option (Body S D L H B)). AllBecome (seats_in homes ws nodes k) (net_in o).firsts) (sym b.1) (m.begun_are.become k b.0 b.1);
    ends_are = λ k lt. let b = begun_at k lt in subst (λ (o : Option (Body S D L H B)). (net_in o).ends ≡ map ends_of (links_in homes ws nodes k)) (sym b.1) (m.begun_are.ends_are k b.0 b.1);
    wired = λ k lt. (begun_settled k).wired;
    each_first = λ k lt. (begun_settled k).each_first;
  }

  module _ (now : List (Body S D L H B)) (many : length now ≡ length begun) (goes : (k : ℕ) (a b : Body S D L H B) → slice_get begun k ≡ Some a → slice_get now k ≡ Some b → Went a b) where
    now_at : (k : ℕ) → k < count → (b : Body S D L H B) × (slice_get now k ≡ Some b)
    now_at k lt = get_there now k (subst (λ (n : ℕ). k < n) (sym (many ∙ m.begun_are.many)) lt)

    net_goes : (k : ℕ) → k < count → NetGoesOn (net_of begun k) (net_of now k)
    net_goes k lt =
        let a = begun_at k lt in
        let b = now_at k lt in
        subst (λ (o : Option (Body S D L H B)). NetGoesOn (net_in o) (net_of now k)) (sym a.1) (subst (λ (o : Option (Body S D L H B)). NetGoesOn a.0.island.net (net_in o)) (sym b.1) (goes k a.0 b.0 a.1 b.1).island.on)

    pub now_nets : AreNets homes ws nodes count (net_of now)
    now_nets = go_on homes count ws nodes (net_of begun) (net_of now) begun_nets net_goes

    pub nets_cover : Covers g (net_of now) (seats_by_islands homes ws)
    nets_cover = covers homes count ws nodes (net_of now) m.seated now_nets g m.graph

    pub nets_owned : Owned g (net_of now) (seats_by_islands homes ws) count
    nets_owned = owned homes count ws nodes (net_of now) m.seated now_nets g m.graph

    -- their nodes began as what stands at the nodes of the blueprint
    pub nets_began : (all : ℕ → ℕ) → (firsts : List (IslandNode S D L H B)) × (AllBecome nodes firsts × ((k : ℕ) → k < length g.nodes → (joined_account (net_of now) (seats_by_islands homes ws) all).firsts k ≡ slice_get firsts k))
    nets_began all =
        let b = back homes count ws nodes m.seated (λ (j : ℕ). (net_of now j).firsts) (λ j lt. firsts_count homes count ws nodes (net_of now) m.seated now_nets j lt) in (
          b.0,
          (
            become homes count ws nodes (net_of now) m.seated now_nets b.0 b.1.0 b.1.1,
            λ k lt. sym (b.1.1.at k (subst (λ (l : ℕ). k < l) (m.graph.each_node ∙ sym m.seated.each) lt)),
          ),
        )
