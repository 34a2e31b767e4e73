-- Wires that join every port of a graph are a wiring of its places.
use Rattle.std.proofs.Common.{◌≡◌, ℕ, zero, suc, ◌+◌, ◌<◌, true, false, ◌==◌, ◌&&◌, List, [], ◌∷◌, map, length, Option, Some, refl, ap, sym, ◌∙◌, subst, ⊎_elim, arith}
use Rattle.std.specs.Prelude.{slice_get}
use Rattle.std.proofs.lemmas.Bool.{and_parts, eqb-true, cases_Bool, cond-true, cond-false}
use Rattle.std.proofs.lemmas.List.{length-map}
use Rattle.std.specs.Option.{option_map}
use Rattle.std.proofs.lemmas.Option.{slice_get_within, slice_get-map}
use Rattle.stream_model.specs.Graph.{Graph, Edge, find_by, find_wire, find_source}
use Rattle.stream_model.specs.Graph as graph
use Rattle.stream_model.specs.Composed.{inputs_of}
use Rattle.stream_model.specs.View.{outputs_of}
use Rattle.fused_net.specs.declared.net.WireEnds.{WireEnds}
use Rattle.fused_net.specs.Net.{end_at}
use Rattle.interpreter.specs.declared.parts.Seated.{Seated}
use Rattle.interpreter.specs.Parts.{inputs_at, outputs_at, IsWiring}
use Rattle.stream_model.specs.declared.blueprint.Node.{Node}
use Rattle.materializer.specs.Graphs.{Around, graph_node}
use Rattle.stream_model.specs.Joined.{IsJoined}
use Rattle.materializer.specs.Seats.{AreSeats}
use Rattle.materializer.proofs.Joining.{mapped_from}
use Rattle.materializer.proofs.Placing.{seats_count, seats_ports}

pub some_at : {X : Type 0} (xs : List X) (i : ℕ) → i < length xs → (x : X) × (slice_get xs i ≡ Some x)
some_at [] i h = absurd (omega arith)
some_at (x ∷ xs) zero h = (x, refl)
some_at (x ∷ xs) (suc i) h = some_at xs i (omega (arith, h))

-- the ends of a wire
abbrev pub wire_ends : Edge → WireEnds
wire_ends v = record { from = v.from; output = v.output; to = v.to; input = v.input }

pub ends_at : (ws : List Edge) (i : ℕ) (v : Edge) → slice_get ws i ≡ Some v → end_at (map wire_ends ws) i ≡ wire_ends v
ends_at [] i v h = absurd cc
ends_at (w ∷ ws) zero v h = let e : w ≡ v = cc in ap wire_ends e
ends_at (w ∷ ws) (suc i) v h = ends_at ws i v h

-- the wire that was found at a port is at that port
record AtPort (place port : Edge → ℕ) (a b n : ℕ) (ws : List Edge) (k : ℕ) : Type 0 where
  pub at : ℕ
  pub wire : Edge
  pub is : slice_get ws at ≡ Some wire
  pub number : k ≡ n + at
  pub place_is : place wire ≡ a
  pub port_is : port wire ≡ b

at_port : (place port : Edge → ℕ) (a b n : ℕ) (ws : List Edge) (k : ℕ) → find_by place port a b n ws ≡ Some k → AtPort place port a b n ws k
at_port place port a b n [] k h = absurd cc
at_port place port a b n (w ∷ ws) k h =
    ⊎_elim
    (λ (t : ((place w == a) && (port w == b)) ≡ true).
    let is : Some n ≡ Some k = sym (cond-true _ (Some n) (find_by place port a b (n + 1) ws) t) ∙ h in
    let both = and_parts (place w == a) (port w == b) t in
    record { at = 0; wire = w; is = refl; number = let e : n ≡ k = cc in omega (arith, e); place_is = eqb-true (place w) a both.0; port_is = eqb-true (port w) b both.1 })
    (λ (f : ((place w == a) && (port w == b)) ≡ false).
    let r = at_port place port a b (n + 1) ws k (sym (cond-false _ (Some n) (find_by place port a b (n + 1) ws) f) ∙ h) in
    record { at = suc r.at; wire = r.wire; is = r.is; number = let e : k ≡ n + 1 + r.at = r.number in omega (arith, e); place_is = r.place_is; port_is = r.port_is })
    (cases_Bool ((place w == a) && (port w == b)))

module _ {S D L H B : Type 0} (nodes : List Node) (ws : List Edge) (around : Around) (ss : List S) (ds : List D) (places : List (Seated S D L H B))
    (j : IsJoined (record { nodes = map (graph_node around.wires) nodes; wires = ws; chains = around.chains })) (a : AreSeats around 0 nodes ss ds places) where
  abbrev ends : List WireEnds
  ends = map wire_ends ws

  wire_of : (i : ℕ) → i < length ends → (v : Edge) × (slice_get ws i ≡ Some v)
  wire_of i h = let e : length ends ≡ length ws = length-map ws wire_ends in some_at ws i (omega (arith, h, e))

  is_place : (k : ℕ) (n : graph.Node) → slice_get (map (graph_node around.wires) nodes) k ≡ Some n → k < length places
  is_place k n at =
      let lt : k < length (map (graph_node around.wires) nodes) = slice_get_within (map (graph_node around.wires) nodes) k n at in
      let e : length (map (graph_node around.wires) nodes) ≡ length nodes = length-map nodes (graph_node around.wires) in
      let c : length places ≡ length nodes = seats_count around 0 nodes ss ds places a in
      omega (arith, lt, e, c)

  node_at : (k : ℕ) → k < length places → (n : Node) × (slice_get nodes k ≡ Some n)
  node_at k h = let c : length places ≡ length nodes = seats_count around 0 nodes ss ds places a in some_at nodes k (omega (arith, h, c))

  outputs_are : (k : ℕ) (n : graph.Node) → slice_get (map (graph_node around.wires) nodes) k ≡ Some n → outputs_at places k ≡ outputs_of n
  outputs_are k n at =
      let m = mapped_from (graph_node around.wires) nodes k n at in
      (seats_ports around 0 nodes ss ds places k m.0 a m.1.0).1 ∙ ap (λ (x : graph.Node). outputs_of x) m.1.1

  inputs_are : (k : ℕ) (n : graph.Node) → slice_get (map (graph_node around.wires) nodes) k ≡ Some n → inputs_at places k ≡ inputs_of n
  inputs_are k n at =
      let m = mapped_from (graph_node around.wires) nodes k n at in
      (seats_ports around 0 nodes ss ds places k m.0 a m.1.0).0 ∙ ap (λ (x : graph.Node). inputs_of x) m.1.1

  from_ok : (i : ℕ) (v : Edge) → slice_get ws i ≡ Some v → (v.from < length places) × (v.output < outputs_at places v.from)
  from_ok i v at =
      let s = j.source i v at in
      let o : outputs_at places v.from ≡ outputs_of s.0 = outputs_are v.from s.0 s.1 in
      (is_place v.from s.0 s.1, let lt : v.output < outputs_of s.0 = s.2 in omega (arith, o, lt))

  to_ok : (i : ℕ) (v : Edge) → slice_get ws i ≡ Some v → (v.to < length places) × (v.input < inputs_at places v.to)
  to_ok i v at =
      let s = j.target i v at in
      let o : inputs_at places v.to ≡ inputs_of s.0 = inputs_are v.to s.0 s.1 in
      (is_place v.to s.0 s.1, let lt : v.input < inputs_of s.0 = s.2 in omega (arith, o, lt))

  -- a fact of a wire's ends
  by_wire : (P : WireEnds → Type 0) (i : ℕ) (v : Edge) → slice_get ws i ≡ Some v → P (wire_ends v) → P (end_at ends i)
  by_wire P i v at h = subst P (sym (ends_at ws i v at)) h

  same_found : (i k : ℕ) (o p : Option ℕ) → o ≡ Some i → p ≡ Some k → o ≡ p → i ≡ k
  same_found i k o p a b e = cc

  -- each end by its wire's
  from_is : (i : ℕ) (v : Edge) → slice_get ws i ≡ Some v → (end_at ends i).from ≡ v.from
  from_is i v at = ap (λ (e : WireEnds). e.from) (ends_at ws i v at)

  output_is : (i : ℕ) (v : Edge) → slice_get ws i ≡ Some v → (end_at ends i).output ≡ v.output
  output_is i v at = ap (λ (e : WireEnds). e.output) (ends_at ws i v at)

  to_is : (i : ℕ) (v : Edge) → slice_get ws i ≡ Some v → (end_at ends i).to ≡ v.to
  to_is i v at = ap (λ (e : WireEnds). e.to) (ends_at ws i v at)

  input_is : (i : ℕ) (v : Edge) → slice_get ws i ≡ Some v → (end_at ends i).input ≡ v.input
  input_is i v at = ap (λ (e : WireEnds). e.input) (ends_at ws i v at)

  meet : (a b c d : ℕ) → a ≡ c → b ≡ d → a ≡ b → c ≡ d
  meet a b c d p q e = sym p ∙ e ∙ q

  -- two wires at one output are one, and so are two at one input
  one_source : (i k : ℕ) (v u : Edge) → slice_get ws i ≡ Some v → slice_get ws k ≡ Some u → (end_at ends i).from ≡ (end_at ends k).from → (end_at ends i).output ≡ (end_at ends k).output → i ≡ k
  one_source i k v u vi uk e o =
      let from : v.from ≡ u.from = meet _ _ _ _ (from_is i v vi) (from_is k u uk) e in
      let output : v.output ≡ u.output = meet _ _ _ _ (output_is i v vi) (output_is k u uk) o in
      same_found i k (find_source v.from v.output ws) (find_source u.from u.output ws) (j.source i v vi).3 (j.source k u uk).3 (ap (λ x. find_source x v.output ws) from ∙ ap (λ x. find_source u.from x ws) output)

  one_target : (i k : ℕ) (v u : Edge) → slice_get ws i ≡ Some v → slice_get ws k ≡ Some u → (end_at ends i).to ≡ (end_at ends k).to → (end_at ends i).input ≡ (end_at ends k).input → i ≡ k
  one_target i k v u vi uk e o =
      let to : v.to ≡ u.to = meet _ _ _ _ (to_is i v vi) (to_is k u uk) e in
      let input : v.input ≡ u.input = meet _ _ _ _ (input_is i v vi) (input_is k u uk) o in
      same_found i k (find_wire v.to v.input ws) (find_wire u.to u.input ws) (j.target i v vi).3 (j.target k u uk).3 (ap (λ x. find_wire x v.input ws) to ∙ ap (λ x. find_wire u.to x ws) input)

  node_there : (k : ℕ) (n : Node) → slice_get nodes k ≡ Some n → slice_get (map (graph_node around.wires) nodes) k ≡ Some (graph_node around.wires n)
  node_there k n at = slice_get-map (graph_node around.wires) nodes k ∙ ap (option_map (graph_node around.wires)) at

  in_ends : (i : ℕ) (v : Edge) → slice_get ws i ≡ Some v → i < length ends
  in_ends i v at =
      let lt : i < length ws = slice_get_within ws i v at in
      let e : length ends ≡ length ws = length-map ws wire_ends in
      omega (arith, lt, e)

  -- each port has a wire
  a_source : (k p : ℕ) (n : Node) → slice_get nodes k ≡ Some n → p < outputs_at places k → (i : ℕ) × ((i < length ends) × (((end_at ends i).from ≡ k) × ((end_at ends i).output ≡ p)))
  a_source k p n at lt =
      let o : outputs_at places k ≡ outputs_of (graph_node around.wires n) = (seats_ports around 0 nodes ss ds places k n a at).1 in
      let w = j.each_output k (graph_node around.wires n) p (node_there k n at) (omega (arith, lt, o)) in
      let q = at_port (λ x. x.from) (λ x. x.output) k p 0 ws w.0 w.1 in
      (q.at, (in_ends q.at q.wire q.is, (from_is q.at q.wire q.is ∙ q.place_is, output_is q.at q.wire q.is ∙ q.port_is)))

  a_target : (k p : ℕ) (n : Node) → slice_get nodes k ≡ Some n → p < inputs_at places k → (i : ℕ) × ((i < length ends) × (((end_at ends i).to ≡ k) × ((end_at ends i).input ≡ p)))
  a_target k p n at lt =
      let o : inputs_at places k ≡ inputs_of (graph_node around.wires n) = (seats_ports around 0 nodes ss ds places k n a at).0 in
      let w = j.each_input k (graph_node around.wires n) p (node_there k n at) (omega (arith, lt, o)) in
      let q = at_port (λ x. x.to) (λ x. x.input) k p 0 ws w.0 w.1 in
      (q.at, (in_ends q.at q.wire q.is, (to_is q.at q.wire q.is ∙ q.place_is, input_is q.at q.wire q.is ∙ q.port_is)))

  pub wiring : IsWiring (inputs_at places) (outputs_at places) (length places) ends
  wiring = record {
    from_within = λ i h. let v = wire_of i h in by_wire (λ e. e.from < length places) i v.0 v.1 (from_ok i v.0 v.1).0;
    to_within = λ i h. let v = wire_of i h in by_wire (λ e. e.to < length places) i v.0 v.1 (to_ok i v.0 v.1).0;
    output_within = λ i h. let v = wire_of i h in by_wire (λ e. e.output < outputs_at places e.from) i v.0 v.1 (from_ok i v.0 v.1).1;
    input_within = λ i h. let v = wire_of i h in by_wire (λ e. e.input < inputs_at places e.to) i v.0 v.1 (to_ok i v.0 v.1).1;
    one_output = λ i k hi hk e o. let v = wire_of i hi in let u = wire_of k hk in one_source i k v.0 u.0 v.1 u.1 e o;
    one_input = λ i k hi hk e o. let v = wire_of i hi in let u = wire_of k hk in one_target i k v.0 u.0 v.1 u.1 e o;
    each_output = λ k p h lt. let n = node_at k h in a_source k p n.0 n.1 lt;
    each_input = λ k p h lt. let n = node_at k h in a_target k p n.0 n.1 lt;
  }
