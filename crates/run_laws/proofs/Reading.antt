-- What a node reads off its wires in its net is what the blueprint reads there.
use Rattle.std.specs.Prelude.{slice_get, ◌==◌, ◌&&◌}
use Rattle.std.proofs.Common.{◌≡◌, ℕ, zero, suc, ◌+◌, ◌<◌, true, false, ◌⊎◌, inl, inr, List, [], ◌∷◌, length, get_or, Some, refl, sym, ap, subst, ◌∙◌, arith}
use Rattle.std.proofs.lemmas.Bool.{and_parts}
use Rattle.port_core.specs.Cell.{WireState}
use Rattle.stream_model.specs.Graph.{Graph, Edge, find_by, find_wire, find_source}
use Rattle.stream_model.specs.Graph as graph
use Rattle.stream_model.specs.Composed.{inputs_of, count_from}
use Rattle.stream_model.proofs.Compositions.{same_number, if_cases}
use Rattle.stream_model.specs.View.{outputs_of}
use Rattle.port_core.specs.Reading.{no_wire}
use Rattle.fused_net.specs.Net.{Net, read_all, end_at, port_at, ports_at}
use Rattle.fused_net.specs.Laws.{Wired}
use Rattle.fused_net.proofs.Reading.{some_same, get_within}
use Rattle.run_laws.specs.Account.{cell_by, read_ins, read_outs}
use Rattle.stream_model.specs.Joined.{IsJoined}
use Rattle.run_laws.specs.Seats.{Seats, Covers}

-- a wire that was found has these two numbers at that end
pub record FoundBoth (place port : Edge → ℕ) (node p : ℕ) (ws : List Edge) (i : ℕ) : Type 0 where
  pub wire : Edge
  pub at : slice_get ws i ≡ Some wire
  pub here : place wire ≡ node
  pub port_is : port wire ≡ p

found_from : (place port : Edge → ℕ) (node p n : ℕ) (ws : List Edge) (i : ℕ) → find_by place port node p n ws ≡ Some i → (k : ℕ) × ((i ≡ n + k) × FoundBoth place port node p ws k)
found_from place port node p n [] i h = cc
found_from place port node p n (w ∷ ws) i h =
    at (if_cases ((place w == node) && (port w == p)) (Some n) (find_by place port node p (n + 1) ws) i h) (λ e. found_from place port node p (n + 1) ws i e)
  where
    at : ((((place w == node) && (port w == p)) ≡ true) × (Some n ≡ Some i)) ⊎ ((((place w == node) && (port w == p)) ≡ false) × (find_by place port node p (n + 1) ws ≡ Some i))
        → (find_by place port node p (n + 1) ws ≡ Some i → (k : ℕ) × ((i ≡ n + 1 + k) × FoundBoth place port node p ws k)) → (k : ℕ) × ((i ≡ n + k) × FoundBoth place port node p (w ∷ ws) k)
    at (inl h) later =
        let is : n ≡ i = cc in
        let both = and_parts (place w == node) (port w == p) h.0 in
        (0, (omega arith, record { wire = w; at = refl; here = same_number (place w) node both.0; port_is = same_number (port w) p both.1 }))
    at (inr h) later =
        let r = later h.1 in
        (suc r.0, (omega (arith, r.1.0), record { wire = r.1.1.wire; at = r.1.1.at; here = r.1.1.here; port_is = r.1.1.port_is }))

pub found_both : (place port : Edge → ℕ) (node p : ℕ) (ws : List Edge) (i : ℕ) → find_by place port node p 0 ws ≡ Some i → FoundBoth place port node p ws i
found_both place port node p ws i h =
    let r = found_from place port node p 0 ws i h in
    let is : r.0 ≡ i = omega (arith, r.1.0) in
    subst (λ k. FoundBoth place port node p ws k) is r.1.1

-- so many ports are read as are counted
pub length_ins : {X : Type 0} (g : Graph) (f : WireState → X) (cells : ℕ → WireState) (k q n : ℕ) → length (read_ins g f cells k (count_from q n)) ≡ n
length_ins g f cells k q zero = refl
length_ins g f cells k q (suc n) = omega (arith, length_ins g f cells k (q + 1) n)

module _ {X : Type 0} (g : Graph) (f : WireState → X) (cells : ℕ → WireState) (wires : List WireState) (k : ℕ) where
  -- of the inputs from number q on
  pub ins_same : (q : ℕ) (ws : List ℕ) → ((i u : ℕ) → slice_get ws i ≡ Some u → get_or wires u no_wire ≡ cell_by cells (find_wire k (q + i) g.wires)) → read_all f wires ws ≡ read_ins g f cells k (count_from q (length ws))
  ins_same q [] h = refl
  ins_same q (u ∷ ws) h =
      let first : q + 0 ≡ q = omega arith in
      let here : get_or wires u no_wire ≡ cell_by cells (find_wire k q g.wires) = rw first at (h 0 u refl) in
      let rest : read_all f wires ws ≡ read_ins g f cells k (count_from (q + 1) (length ws)) =
      ins_same (q + 1) ws (λ i x e. let later : q + suc i ≡ (q + 1) + i = omega arith in rw later at (h (suc i) x e)) in
      rw (here, rest) refl

  pub outs_same : (q : ℕ) (ws : List ℕ) → ((i u : ℕ) → slice_get ws i ≡ Some u → get_or wires u no_wire ≡ cell_by cells (find_source k (q + i) g.wires)) → read_all f wires ws ≡ read_outs g f cells k (count_from q (length ws))
  outs_same q [] h = refl
  outs_same q (u ∷ ws) h =
      let first : q + 0 ≡ q = omega arith in
      let here : get_or wires u no_wire ≡ cell_by cells (find_source k q g.wires) = rw first at (h 0 u refl) in
      let rest : read_all f wires ws ≡ read_outs g f cells k (count_from (q + 1) (length ws)) =
      outs_same (q + 1) ws (λ i x e. let later : q + suc i ≡ (q + 1) + i = omega arith in rw later at (h (suc i) x e)) in
      rw (here, rest) refl

module _ {N : Type 0} (g : Graph) (nets : ℕ → Net N) (s : Seats) (joined : IsJoined g) (covers : Covers g nets s)
    (wired : (b : ℕ) → Wired (nets b).ends (nets b).ports (length (nets b).nodes) (length (nets b).wires)) where
  -- the connection at an input of a node stands at that input of its net
  pub far_slot : (k : ℕ) (n : graph.Node) (p u : ℕ) → slice_get g.nodes k ≡ Some n → find_wire k p g.wires ≡ Some u
      → ((s.far u).island ≡ (s.node k).island) × (((s.far u).at < length (nets (s.node k).island).wires) × (slice_get (ports_at (nets (s.node k).island) (s.node k).at).ins p ≡ Some (s.far u).at))
  far_slot k n p u e at =
      let f = found_both (λ (x : Edge). x.to) (λ (x : Edge). x.input) k p g.wires u at in
      let home : (s.far u).island ≡ (s.node k).island = covers.far_home u f.wire f.at ∙ ap (λ (j : ℕ). (s.node j).island) f.here in
      let within : (s.far u).at < length (nets (s.far u).island).wires = covers.far_within u f.wire f.at in
      let to : (end_at (nets (s.far u).island).ends (s.far u).at).to ≡ (s.node k).at = covers.far_to u f.wire f.at ∙ ap (λ (j : ℕ). (s.node j).at) f.here in
      let input : (end_at (nets (s.far u).island).ends (s.far u).at).input ≡ p = covers.far_input u f.wire f.at ∙ f.port_is in
      let slot : slice_get (port_at (nets (s.far u).island).ports (s.node k).at).ins p ≡ Some (s.far u).at = rw (to, input) at ((wired (s.far u).island).to_input (s.far u).at within) in
      (home, subst (λ (b : ℕ). ((s.far u).at < length (nets b).wires) × (slice_get (ports_at (nets b) (s.node k).at).ins p ≡ Some (s.far u).at)) home (within, slot))

  pub near_slot : (k : ℕ) (n : graph.Node) (p u : ℕ) → slice_get g.nodes k ≡ Some n → find_source k p g.wires ≡ Some u
      → ((s.near u).island ≡ (s.node k).island) × (((s.near u).at < length (nets (s.node k).island).wires) × (slice_get (ports_at (nets (s.node k).island) (s.node k).at).outs p ≡ Some (s.near u).at))
  near_slot k n p u e at =
      let f = found_both (λ (x : Edge). x.from) (λ (x : Edge). x.output) k p g.wires u at in
      let home : (s.near u).island ≡ (s.node k).island = covers.near_home u f.wire f.at ∙ ap (λ (j : ℕ). (s.node j).island) f.here in
      let within : (s.near u).at < length (nets (s.near u).island).wires = covers.near_within u f.wire f.at in
      let from : (end_at (nets (s.near u).island).ends (s.near u).at).from ≡ (s.node k).at = covers.near_from u f.wire f.at ∙ ap (λ (j : ℕ). (s.node j).at) f.here in
      let output : (end_at (nets (s.near u).island).ends (s.near u).at).output ≡ p = covers.near_output u f.wire f.at ∙ f.port_is in
      let slot : slice_get (port_at (nets (s.near u).island).ports (s.node k).at).outs p ≡ Some (s.near u).at = rw (from, output) at ((wired (s.near u).island).from_output (s.near u).at within) in
      (home, subst (λ (b : ℕ). ((s.near u).at < length (nets b).wires) × (slice_get (ports_at (nets b) (s.node k).at).outs p ≡ Some (s.near u).at)) home (within, slot))

  -- so what the node reads there, off these nets or off others with the same wiring
  pub read_in : {X : Type 0} (f : WireState → X) (cells : ℕ → List WireState) (k : ℕ) (n : graph.Node) → slice_get g.nodes k ≡ Some n
      → read_all f (cells (s.node k).island) (ports_at (nets (s.node k).island) (s.node k).at).ins ≡ read_ins g f (λ u. get_or (cells (s.far u).island) (s.far u).at no_wire) k (count_from 0 (inputs_of n))
  read_in f cells k n e =
      let ws = (ports_at (nets (s.node k).island) (s.node k).at).ins in
      subst (λ (c : ℕ). read_all f (cells (s.node k).island) ws ≡ read_ins g f (λ u. get_or (cells (s.far u).island) (s.far u).at no_wire) k (count_from 0 c)) (covers.ins k n e)
      (ins_same g f (λ u. get_or (cells (s.far u).island) (s.far u).at no_wire) (cells (s.node k).island) k 0 ws (λ p q at. slot p q at (get_within ws p q at)))
    where
      slot : (p q : ℕ) → slice_get (ports_at (nets (s.node k).island) (s.node k).at).ins p ≡ Some q → p < length (ports_at (nets (s.node k).island) (s.node k).at).ins
          → get_or (cells (s.node k).island) q no_wire ≡ cell_by (λ u. get_or (cells (s.far u).island) (s.far u).at no_wire) (find_wire k (0 + p) g.wires)
      slot p q at h =
          let many : length (ports_at (nets (s.node k).island) (s.node k).at).ins ≡ inputs_of n = covers.ins k n e in
          let i = joined.each_input k n p e (omega (arith, many, h)) in
          let there = far_slot k n p i.0 e i.1 in
          let same : q ≡ (s.far i.0).at = some_same q (s.far i.0).at (sym at ∙ there.1.1) in
          let none : 0 + p ≡ p = omega arith in
          rw (none, i.1, there.0, same) refl

  pub read_out : {X : Type 0} (f : WireState → X) (cells : ℕ → List WireState) (k : ℕ) (n : graph.Node) → slice_get g.nodes k ≡ Some n
      → read_all f (cells (s.node k).island) (ports_at (nets (s.node k).island) (s.node k).at).outs ≡ read_outs g f (λ u. get_or (cells (s.near u).island) (s.near u).at no_wire) k (count_from 0 (outputs_of n))
  read_out f cells k n e =
      let ws = (ports_at (nets (s.node k).island) (s.node k).at).outs in
      subst (λ (c : ℕ). read_all f (cells (s.node k).island) ws ≡ read_outs g f (λ u. get_or (cells (s.near u).island) (s.near u).at no_wire) k (count_from 0 c)) (covers.outs k n e)
      (outs_same g f (λ u. get_or (cells (s.near u).island) (s.near u).at no_wire) (cells (s.node k).island) k 0 ws (λ p q at. slot p q at (get_within ws p q at)))
    where
      slot : (p q : ℕ) → slice_get (ports_at (nets (s.node k).island) (s.node k).at).outs p ≡ Some q → p < length (ports_at (nets (s.node k).island) (s.node k).at).outs
          → get_or (cells (s.node k).island) q no_wire ≡ cell_by (λ u. get_or (cells (s.near u).island) (s.near u).at no_wire) (find_source k (0 + p) g.wires)
      slot p q at h =
          let many : length (ports_at (nets (s.node k).island) (s.node k).at).outs ≡ outputs_of n = covers.outs k n e in
          let i = joined.each_output k n p e (omega (arith, many, h)) in
          let there = near_slot k n p i.0 e i.1 in
          let same : q ≡ (s.near i.0).at = some_same q (s.near i.0).at (sym at ∙ there.1.1) in
          let none : 0 + p ≡ p = omega arith in
          rw (none, i.1, there.0, same) refl
