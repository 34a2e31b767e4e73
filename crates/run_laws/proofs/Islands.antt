-- Islands that were made of a blueprint, between two events, leave a run of it.
use Rattle.std.specs.Prelude.{slice_get}
use Rattle.std.proofs.Common.{◌≡◌, false, ℕ, zero, suc, ◌+◌, ◌<◌, List, [], ◌∷◌, map, length, get_or, Option, None, Some, refl, sym, subst, ◌∙◌, arith}
use Rattle.port_core.specs.Joint.{IsSound}
use Rattle.stream_model.specs.Graph.{Graph, Edge}
use Rattle.stream_model.specs.Graph as graph
use Rattle.stream_model.specs.Composed.{inputs_of}
use Rattle.stream_model.proofs.Compositions.{slice_get-below}
use Rattle.stream_model.specs.Joined.{IsJoined}
use Rattle.stream_model.specs.View.{outputs_of}
use Rattle.stream_io.specs.State.{SourceState, DrainState}
use Rattle.fused_net.specs.Net.{Net, port_at, ports_at, wire_at}
use Rattle.fused_net.specs.Laws.{Settled}
use Rattle.fused_net.proofs.Reading.{some_same, get_within, get_there}
use Rattle.nodes.specs.declared.node.IslandNode.{IslandNode}
use Rattle.nodes.specs.Nodes.{node_port_state, node_law, node_asking, node_moves}
use Rattle.port_core.specs.Cell.{WireState}
use Rattle.port_core.specs.Reading.{no_wire}
use Rattle.run_laws.specs.Account.{Account, AllMade, IsStill}
use Rattle.run_laws.specs.Pictures.{counts_from, picture_counts}
use Rattle.run_laws.specs.Ports.{wire_count}
use Rattle.run_laws.specs.Seats.{Seats, Covers, LanesKeep, LanesRest, joined_account, one_seat, account_of}
use Rattle.run_laws.proofs.Joining.{all_keep, all_still}
use Rattle.run_laws.proofs.Reading.{found_both}
use Rattle.run_laws.specs.Made.{FirstOf, Materializes}
use Rattle.run_laws.specs.Runs.{IsRun}
use Rattle.stream_model.specs.Linear.{Book}

fused_or_lane : {lane : Option ℕ} {size : ℕ} → lane ≡ None → lane ≡ Some size → ⊥
fused_or_lane a b = cc

-- a list is as long as a number, where each place below one is below the other
as_long : (xs : List ℕ) (n : ℕ) → ((p : ℕ) → p < n → p < length xs) → ((p : ℕ) → p < length xs → p < n) → length xs ≡ n
as_long xs n most least = by (length xs) n most least
  where
    by : (m n : ℕ) → ((p : ℕ) → p < n → p < m) → ((p : ℕ) → p < m → p < n) → m ≡ n
    by zero zero f g = refl
    by zero (suc n) f g = absurd (omega (arith, f 0 (omega arith)))
    by (suc m) zero f g = absurd (omega (arith, g 0 (omega arith)))
    by (suc m) (suc n) f g = let a = f n (omega arith) in let b = g m (omega arith) in omega (arith, a, b)

-- the picture of wires that are no lanes, whose connections stand in this order
counts_same : {N : Type 0} (a : Account N) (i : ℕ) (ws : List Edge) (cells : List WireState) → ((k : ℕ) (v : Edge) → slice_get ws k ≡ Some v → v.lane ≡ None) → length ws ≡ length cells → ((k : ℕ) → k < length cells → a.near (i + k) ≡ get_or cells k no_wire) → counts_from a i ws ≡ map (λ (c : WireState). wire_count None c 0) cells
counts_same a i [] [] fused e f = refl
counts_same a i [] (c ∷ cells) fused e f = cc
counts_same a i (v ∷ ws) [] fused e f = cc
counts_same a i (v ∷ ws) (c ∷ cells) fused e f =
    let none : i + 0 ≡ i = omega arith in
    let here : a.near i ≡ c = rw none at (f 0 (omega arith)) in
    let is_fused : v.lane ≡ None = fused 0 v refl in
    let rest = counts_same a (i + 1) ws cells (λ k x. fused (suc k) x) (omega (arith, e)) (λ k h. let later : i + suc k ≡ (i + 1) + k = omega arith in rw later at (f (suc k) (omega (arith, h)))) in
    rw (is_fused, here, rest) refl

-- any number of islands, with lanes
module _ {S D L H B : Type 0} (sources : S → SourceState) (drains : D → DrainState) (book : Book) (g : Graph) (nets : ℕ → Net (IslandNode S D L H B)) (seats : Seats) (asked : ℕ → ℕ) (covers : Covers g nets seats)
    (settled : (b : ℕ) → Settled node_port_state (node_law sources drains book) node_asking node_moves (nets b)) where
  pub all_run : IsJoined g → LanesKeep g nets seats asked → AllMade (FirstOf sources g.chains) g (joined_account nets seats asked) → IsRun sources drains book g (joined_account nets seats asked)
  all_run is_joined lanes made = record {
    joined = is_joined;
    keeps = all_keep node_port_state (node_law sources drains book) node_asking node_moves g nets seats is_joined covers asked settled lanes;
    made = made;
  }

  pub all_rest : ((b : ℕ) → (nets b).queue ≡ []) → LanesRest g nets seats asked → IsStill g (joined_account nets seats asked)
  all_rest = all_still node_port_state (node_law sources drains book) node_asking node_moves g nets seats covers asked settled

-- one island, in which no wire is a lane
module _ {S D L H B : Type 0} (sources : S → SourceState) (drains : D → DrainState) (book : Book) (g : Graph) (net : Net (IslandNode S D L H B)) (settled : Settled node_port_state (node_law sources drains book) node_asking node_moves net) (made : Materializes sources g net.firsts net.ends) where
  within : (k : ℕ) (n : graph.Node) → slice_get g.nodes k ≡ Some n → k < length net.nodes
  within k n e = let h = slice_get-below g.nodes k n e in let a = settled.each_first in let b = made.nodes in omega (arith, h, a, b)

  wire_within : (u : ℕ) → u < length g.wires → u < length net.wires
  wire_within u h = let a = settled.wired.each_wire in let b = made.wires in omega (arith, h, a, b)

  below : (u : ℕ) (v : Edge) → slice_get g.wires u ≡ Some v → u < length net.wires
  below u v e = wire_within u (slice_get-below g.wires u v e)

  the_wire : (u : ℕ) → u < length net.wires → (v : Edge) × (slice_get g.wires u ≡ Some v)
  the_wire u h = let a = settled.wired.each_wire in let b = made.wires in get_there g.wires u (omega (arith, h, a, b))

  module _ (is_joined : IsJoined g) where
    -- a node has as many inputs in the island as its kind has
    ins_count : (k : ℕ) (n : graph.Node) → slice_get g.nodes k ≡ Some n → length (ports_at net k).ins ≡ inputs_of n
    ins_count k n e = as_long (ports_at net k).ins (inputs_of n) most least
      where
        most : (p : ℕ) → p < inputs_of n → p < length (ports_at net k).ins
        most p h =
            let u = is_joined.each_input k n p e h in
            let f = found_both (λ (x : Edge). x.to) (λ (x : Edge). x.input) k p g.wires u.0 u.1 in
            let w = made.each_wire u.0 f.wire f.at in
            let slot : slice_get (port_at net.ports k).ins p ≡ Some u.0 = rw (w.to ∙ f.here, w.input ∙ f.port_is) at (settled.wired.to_input u.0 (below u.0 f.wire f.at)) in
            get_within (ports_at net k).ins p u.0 slot

        least : (p : ℕ) → p < length (ports_at net k).ins → p < inputs_of n
        least p h =
            let q = get_there (ports_at net k).ins p h in
            let t = settled.wired.input_to k p q.0 (within k n e) q.1 in
            let v = the_wire q.0 t.0 in
            let w = made.each_wire q.0 v.0 v.1 in
            let j = is_joined.target q.0 v.0 v.1 in
            let to : v.0.to ≡ k = sym w.to ∙ t.1.0 in
            let input : v.0.input ≡ p = sym w.input ∙ t.1.1 in
            let same : j.0 ≡ n = some_same j.0 n (sym j.1 ∙ subst (λ (i : ℕ). slice_get g.nodes i ≡ Some n) (sym to) e) in
            rw (input, same) at j.2

    outs_count : (k : ℕ) (n : graph.Node) → slice_get g.nodes k ≡ Some n → length (ports_at net k).outs ≡ outputs_of n
    outs_count k n e = as_long (ports_at net k).outs (outputs_of n) most least
      where
        most : (p : ℕ) → p < outputs_of n → p < length (ports_at net k).outs
        most p h =
            let u = is_joined.each_output k n p e h in
            let f = found_both (λ (x : Edge). x.from) (λ (x : Edge). x.output) k p g.wires u.0 u.1 in
            let w = made.each_wire u.0 f.wire f.at in
            let slot : slice_get (port_at net.ports k).outs p ≡ Some u.0 = rw (w.from ∙ f.here, w.output ∙ f.port_is) at (settled.wired.from_output u.0 (below u.0 f.wire f.at)) in
            get_within (ports_at net k).outs p u.0 slot

        least : (p : ℕ) → p < length (ports_at net k).outs → p < outputs_of n
        least p h =
            let q = get_there (ports_at net k).outs p h in
            let t = settled.wired.output_from k p q.0 (within k n e) q.1 in
            let v = the_wire q.0 t.0 in
            let w = made.each_wire q.0 v.0 v.1 in
            let j = is_joined.source q.0 v.0 v.1 in
            let from : v.0.from ≡ k = sym w.from ∙ t.1.0 in
            let output : v.0.output ≡ p = sym w.output ∙ t.1.1 in
            let same : j.0 ≡ n = some_same j.0 n (sym j.1 ∙ subst (λ (i : ℕ). slice_get g.nodes i ≡ Some n) (sym from) e) in
            rw (output, same) at j.2

    covers : Covers g (λ (b : ℕ). net) one_seat
    covers = record {
      node_within = within;
      ins = ins_count;
      outs = outs_count;
      near_within = below;
      near_home = λ u v e. refl;
      near_from = λ u v e. (made.each_wire u v e).from;
      near_output = λ u v e. (made.each_wire u v e).output;
      far_within = below;
      far_home = λ u v e. refl;
      far_to = λ u v e. (made.each_wire u v e).to;
      far_input = λ u v e. (made.each_wire u v e).input;
      fused = λ u v e no. refl;
    }

    no_lane : (u : ℕ) (v : Edge) → slice_get g.wires u ≡ Some v → v.lane ≡ None
    no_lane u v e = (made.each_wire u v e).no_lane

    pub island_run : IsRun sources drains book g (account_of net)
    island_run = all_run sources drains book g (λ (b : ℕ). net) one_seat (λ u. 0) covers (λ (b : ℕ). settled) is_joined (λ u v size e lane. absurd (fused_or_lane (no_lane u v e) lane)) made.each_node

  pub island_still : net.queue ≡ [] → IsStill g (account_of net)
  island_still empty = record { near = λ u h. still u (wire_within u h); far = λ u h. still u (wire_within u h); quiet = λ u v e. rw (made.each_wire u v e).no_lane tt }
    where
      still : (u : ℕ) → u < length net.wires → IsSound (wire_at net u).wire false
      still u h = rw empty at (settled.sound u h)

  -- its picture is that of the island's wires
  pub island_counts : picture_counts (account_of net) g ≡ map (λ (c : WireState). wire_count None c 0) net.wires
  island_counts = counts_same (account_of net) 0 g.wires net.wires (λ u v e. (made.each_wire u v e).no_lane) (let a = settled.wired.each_wire in let b = made.wires in omega (arith, a, b)) (λ k h. let none : 0 + k ≡ k = omega arith in rw none refl)
