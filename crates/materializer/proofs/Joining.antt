-- A graph of whose ports none is missing, used twice or open is joined.
use Rattle.std.proofs.Common.{◌≡◌, ℕ, zero, suc, ◌+◌, ◌<◌, Bool, true, false, not, is_none, ◌==◌, ◌&&◌, ◌||◌, List, [], ◌∷◌, map, Option, Some, None, refl, ap, sym, ◌∙◌, subst, ⊎_elim, arith}
use Rattle.std.specs.Prelude.{slice_get, nat_le}
use Rattle.std.specs.Option.{option_or, option_map}
use Rattle.std.proofs.lemmas.Bool.{or_parts, eqb-true, eq-eqb, cases_Bool}
use Rattle.std.proofs.lemmas.Bool.Decides.{nat_tests}
use Rattle.std.proofs.lemmas.Option.{slice_get-map}
use Rattle.stream_model.specs.Graph.{Graph, Edge, Chain, find_by, find_wire, find_source}
use Rattle.stream_model.specs.Graph as graph
use Rattle.stream_model.specs.Composed.{inputs_of, count_from}
use Rattle.stream_model.specs.View.{outputs_of}
use Rattle.stream_model.specs.declared.blueprint.Node.{Node}
use Rattle.stream_model.specs.declared.blueprint.WireDecl.{WireDecl}
use Rattle.stream_model.specs.Known.{HeadLists}
use Rattle.blue_names.specs.CustomPorts.{kind_inputs, kind_outputs, is_headless}
use Rattle.blue_names.specs.First.{first_from, when}
use Rattle.blue_names.specs.Ports.{port_missing, port_twice, port_open, is_port_number, lacks_output, lacks_input, lacks_guest, open_input, open_output}
use Rattle.materializer.specs.Graphs.{graph_node}
use Rattle.stream_model.specs.Joined.{IsJoined}

-- ---- nothing is said of any place

pub both_none : {X : Type 0} (a b : Option X) → option_or a b ≡ None → (a ≡ None) × (b ≡ None)
both_none None b h = (refl, h)
both_none (Some x) b h = cc

pub none_at : {X F : Type 0} (f : ℕ → X → Option F) (n : ℕ) (xs : List X) (i : ℕ) (x : X) → first_from f n xs ≡ None → slice_get xs i ≡ Some x → f (n + i) x ≡ None
none_at f n [] i x h at = absurd cc
none_at f n (y ∷ ys) zero x h at =
    let e : n ≡ n + 0 = omega arith in
    let is : y ≡ x = cc in
    subst (λ k. f k x ≡ None) e (subst (λ z. f n z ≡ None) is (both_none (f n y) (first_from f (n + 1) ys) h).0)
none_at f n (y ∷ ys) (suc i) x h at =
    let e : n + 1 + i ≡ n + suc i = omega arith in
    subst (λ k. f k x ≡ None) e (none_at f (n + 1) ys i x (both_none (f n y) (first_from f (n + 1) ys) h).1 at)

pub none_here : {X F : Type 0} (f : ℕ → X → Option F) (xs : List X) (i : ℕ) (x : X) → first_from f 0 xs ≡ None → slice_get xs i ≡ Some x → f i x ≡ None
none_here f xs i x h at = let e : 0 + i ≡ i = omega arith in subst (λ k. f k x ≡ None) e (none_at f 0 xs i x h at)

pub not_when : {F : Type 0} (b : Bool) (x : F) → when b x ≡ None → b ≡ false
not_when true x h = cc
not_when false x h = refl

pub not_false : (b : Bool) → not b ≡ false → b ≡ true
not_false true h = refl
not_false false h = absurd cc

-- ---- places of lists

-- what stands in a list that was mapped
pub mapped_from : {A B : Type 0} (f : A → B) (xs : List A) (i : ℕ) (y : B) → slice_get (map f xs) i ≡ Some y → (x : A) × ((slice_get xs i ≡ Some x) × (f x ≡ y))
mapped_from f [] i y h = absurd cc
mapped_from f (x ∷ xs) zero y h = (x, (refl, cc))
mapped_from f (x ∷ xs) (suc i) y h = mapped_from f xs i y h

pub number_at : (k n p : ℕ) → p < n → slice_get (count_from k n) p ≡ Some (k + p)
number_at k zero p h = absurd (omega arith)
number_at k (suc n) zero h = let e : k ≡ k + 0 = omega arith in ap Some e
number_at k (suc n) (suc p) h = let e : k + 1 + p ≡ k + suc p = omega arith in number_at (k + 1) n p (omega (arith, h)) ∙ ap Some e

-- a wire at a port is found there, or one before it
found : (place port : Edge → ℕ) (n : ℕ) (ws : List Edge) (i : ℕ) (v : Edge) → slice_get ws i ≡ Some v → (k : ℕ) × (find_by place port (place v) (port v) n ws ≡ Some k)
found place port n [] i v h = absurd cc
found place port n (w ∷ ws) zero v h =
    let e : w ≡ v = cc in
    let a : (place w == place v) ≡ true = eq-eqb (place w) (place v) (ap place e) in
    let b : (port w == port v) ≡ true = eq-eqb (port w) (port v) (ap port e) in
    (n, rw (a, b) refl)
found place port n (w ∷ ws) (suc i) v h = pick place port n w ws v (found place port (n + 1) ws i v h)
  where
    pick : (place port : Edge → ℕ) (n : ℕ) (w : Edge) (ws : List Edge) (v : Edge) → (k : ℕ) × (find_by place port (place v) (port v) (n + 1) ws ≡ Some k) → (k : ℕ) × (find_by place port (place v) (port v) n (w ∷ ws) ≡ Some k)
    pick place port n w ws v r =
        ⊎_elim
        (λ (t : ((place w == place v) && (port w == port v)) ≡ true). (n, rw t refl))
        (λ (f : ((place w == place v) && (port w == port v)) ≡ false). (r.0, rw f r.1))
        (cases_Bool ((place w == place v) && (port w == port v)))

is_it : (i k : ℕ) (o : Option ℕ) → o ≡ Some k → is_port_number i o ≡ true → o ≡ Some i
is_it i k o e h = let t : (k == i) ≡ true = sym (ap (is_port_number i) e) ∙ h in e ∙ ap Some (eqb-true k i t)

-- ---- ports that are there

below : (n p : ℕ) → nat_le n p ≡ false → p < n
below n p h = grind (arith, nat_tests, h)

pub alone : (l q : Bool) → l ≡ false → (not l && q) ≡ false → q ≡ false
alone true q e h = absurd cc
alone false q e h = h

is_found : (o : Option ℕ) → is_none o ≡ false → (i : ℕ) × (o ≡ Some i)
is_found None h = absurd cc
is_found (Some i) h = (i, refl)

-- where each custom stage that is named is handed in
module _ (heads : HeadLists) (nodes : List Node) (ws : List Edge) (known : (k : ℕ) (n : Node) → slice_get nodes k ≡ Some n → is_headless heads n.kind ≡ false) where
  guest_there : (k : ℕ) (o : Option Node) → slice_get nodes k ≡ o → lacks_guest heads o ≡ false
  guest_there k None e = refl
  guest_there k (Some n) e = known k n e

  input_there : (k : ℕ) (o : Option Node) (p : ℕ) → slice_get nodes k ≡ o → lacks_input heads o p ≡ false → (n : Node) × ((o ≡ Some n) × (p < kind_inputs heads n.kind))
  input_there k None p e h = absurd cc
  input_there k (Some n) p e h = (n, (refl, below (kind_inputs heads n.kind) p (alone (is_headless heads n.kind) (nat_le (kind_inputs heads n.kind) p) (known k n e) h)))

  output_there : (k : ℕ) (o : Option Node) (p : ℕ) → slice_get nodes k ≡ o → lacks_output heads o p ≡ false → (n : Node) × ((o ≡ Some n) × (p < kind_outputs heads n.kind))
  output_there k None p e h = absurd cc
  output_there k (Some n) p e h = (n, (refl, below (kind_outputs heads n.kind) p (alone (is_headless heads n.kind) (nat_le (kind_outputs heads n.kind) p) (known k n e) h)))

  module _ (missing : port_missing heads nodes ws ≡ None) (open_ : port_open heads nodes ws ≡ None) where
    there : (i : ℕ) (v : Edge) → slice_get ws i ≡ Some v → (lacks_output heads (slice_get nodes v.from) v.output ≡ false) × (lacks_input heads (slice_get nodes v.to) v.input ≡ false)
    there i v at =
        let e = none_here (λ k w. when (lacks_output heads (slice_get nodes w.from) w.output || lacks_input heads (slice_get nodes w.to) w.input) k) ws i v missing at in
        or_parts _ _ (not_when _ i e)

    -- the node to which a wire leads, and that from which it comes, by the ports of their heads
    pub target_port : (i : ℕ) (v : Edge) → slice_get ws i ≡ Some v → (n : Node) × ((slice_get nodes v.to ≡ Some n) × (v.input < kind_inputs heads n.kind))
    target_port i v at = input_there v.to (slice_get nodes v.to) v.input refl (there i v at).1

    pub source_port : (i : ℕ) (v : Edge) → slice_get ws i ≡ Some v → (n : Node) × ((slice_get nodes v.from ≡ Some n) × (v.output < kind_outputs heads n.kind))
    source_port i v at = output_there v.from (slice_get nodes v.from) v.output refl (there i v at).0

    closed : (k : ℕ) (n : Node) → slice_get nodes k ≡ Some n → (open_input heads k n ws ≡ None) × (open_output heads k n ws ≡ None)
    closed k n at = both_none _ _ (none_here (λ i m. option_or (open_input heads i m ws) (open_output heads i m ws)) nodes k n open_ at)

    pub input_wire : (k : ℕ) (n : Node) (p : ℕ) → slice_get nodes k ≡ Some n → p < kind_inputs heads n.kind → (i : ℕ) × (find_wire k p ws ≡ Some i)
    input_wire k n p at lt =
        let e = none_at (λ _ q. when (is_none (find_wire k q ws)) (record { node = k; output = false; port = q })) 0 (count_from 0 (kind_inputs heads n.kind)) p (0 + p) (closed k n at).0 (number_at 0 (kind_inputs heads n.kind) p lt) in
        let z : 0 + p ≡ p = omega arith in
        is_found _ (subst (λ q. is_none (find_wire k q ws) ≡ false) z (not_when _ _ e))

    pub output_wire : (k : ℕ) (n : Node) (p : ℕ) → slice_get nodes k ≡ Some n → p < kind_outputs heads n.kind → (i : ℕ) × (find_source k p ws ≡ Some i)
    output_wire k n p at lt =
        let e = none_at (λ _ q. when (is_none (find_source k q ws)) (record { node = k; output = true; port = q })) 0 (count_from 0 (kind_outputs heads n.kind)) p (0 + p) (closed k n at).1 (number_at 0 (kind_outputs heads n.kind) p lt) in
        let z : 0 + p ≡ p = omega arith in
        is_found _ (subst (λ q. is_none (find_source k q ws) ≡ false) z (not_when _ _ e))

    -- where the ports of each node are those that the wires use too
    module _ (ds : List WireDecl) (cs : List Chain) (twice : port_twice heads nodes ws ≡ None)
        (ins : (k : ℕ) (n : Node) → slice_get nodes k ≡ Some n → kind_inputs heads n.kind ≡ inputs_of (graph_node ds n))
        (outs : (k : ℕ) (n : Node) → slice_get nodes k ≡ Some n → kind_outputs heads n.kind ≡ outputs_of (graph_node ds n)) where
      abbrev whole : Graph
      whole = record { nodes = map (graph_node ds) nodes; wires = ws; chains = cs }

      once : (i : ℕ) (v : Edge) → slice_get ws i ≡ Some v → (not (is_port_number i (find_source v.from v.output ws)) ≡ false) × (not (is_port_number i (find_wire v.to v.input ws)) ≡ false)
      once i v at =
          let e = none_here
          (λ k w. when ((not (lacks_guest heads (slice_get nodes w.from)) && not (is_port_number k (find_source w.from w.output ws))) || (not (lacks_guest heads (slice_get nodes w.to)) && not (is_port_number k (find_wire w.to w.input ws)))) k)
          ws i v twice at in
          let both = or_parts _ _ (not_when _ i e) in (
            alone (lacks_guest heads (slice_get nodes v.from)) (not (is_port_number i (find_source v.from v.output ws))) (guest_there v.from (slice_get nodes v.from) refl) both.0,
            alone (lacks_guest heads (slice_get nodes v.to)) (not (is_port_number i (find_wire v.to v.input ws))) (guest_there v.to (slice_get nodes v.to) refl) both.1,
          )

      node_there : (k : ℕ) (n : Node) → slice_get nodes k ≡ Some n → slice_get (map (graph_node ds) nodes) k ≡ Some (graph_node ds n)
      node_there k n at = slice_get-map (graph_node ds) nodes k ∙ ap (option_map (graph_node ds)) at

      target_there : (i : ℕ) (v : Edge) → slice_get ws i ≡ Some v → (n : graph.Node) × (slice_get (map (graph_node ds) nodes) v.to ≡ Some n) × (v.input < inputs_of n) × (find_wire v.to v.input ws ≡ Some i)
      target_there i v at =
          let n = target_port i v at in
          let f = found (λ w. w.to) (λ w. w.input) 0 ws i v at in
          (graph_node ds n.0, node_there v.to n.0 n.1.0, subst (λ m. v.input < m) (ins v.to n.0 n.1.0) n.1.1, is_it i f.0 (find_wire v.to v.input ws) f.1 (not_false _ (once i v at).1))

      source_there : (i : ℕ) (v : Edge) → slice_get ws i ≡ Some v → (n : graph.Node) × (slice_get (map (graph_node ds) nodes) v.from ≡ Some n) × (v.output < outputs_of n) × (find_source v.from v.output ws ≡ Some i)
      source_there i v at =
          let n = source_port i v at in
          let f = found (λ w. w.from) (λ w. w.output) 0 ws i v at in
          (graph_node ds n.0, node_there v.from n.0 n.1.0, subst (λ m. v.output < m) (outs v.from n.0 n.1.0) n.1.1, is_it i f.0 (find_source v.from v.output ws) f.1 (not_false _ (once i v at).0))

      pub joined : IsJoined whole
      joined = record {
        target = target_there;
        source = source_there;
        each_input = λ k m p at lt.
            let n = mapped_from (graph_node ds) nodes k m at in
            input_wire k n.0 p n.1.0 (subst (λ c. p < c) (sym (ins k n.0 n.1.0)) (subst (λ (x : graph.Node). p < inputs_of x) (sym n.1.1) lt));
        each_output = λ k m p at lt.
            let n = mapped_from (graph_node ds) nodes k m at in
            output_wire k n.0 p n.1.0 (subst (λ c. p < c) (sym (outs k n.0 n.1.0)) (subst (λ (x : graph.Node). p < outputs_of x) (sym n.1.1) lt));
      }
