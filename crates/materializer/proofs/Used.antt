-- In a blueprint that breaks no rule the ports of a node are those that its wires use.
use Rattle.std.proofs.Common.{◌≡◌, ℕ, zero, suc, ◌+◌, ◌<◌, ◌≤◌, max, Bool, true, false, not, ◌==◌, ◌&&◌, ◌||◌, List, [], ◌∷◌, ◌++◌, length, map, Option, Some, None, refl, ap, sym, ◌∙◌, subst, arith}
use Rattle.std.specs.Prelude.{slice_get, if◌then◌else◌, is_none, min, nat_le, unwrap_or}
use Rattle.std.specs.List.{list_any}
use Rattle.std.specs.Option.{option_or, option_map, option_and_then}
use Rattle.std.proofs.lemmas.Bool.{and_parts, eqb-true}
use Rattle.std.proofs.lemmas.Bool.Decides.{nat_tests}
use Rattle.std.proofs.lemmas.Option.{slice_get-map}
use Rattle.elem_core.specs.Values.{same_text}
use Rattle.stream_model.specs.Composed.{inputs_by, inputs_of}
use Rattle.stream_model.specs.Graph.{Edge, find_by, find_wire, find_source}
use Rattle.stream_model.specs.Known.{CustomShape, HeadLists}
use Rattle.stream_model.specs.View.{outputs_by, outputs_of}
use Rattle.stream_model.specs.declared.blueprint.Blueprint.{Blueprint}
use Rattle.stream_model.specs.declared.blueprint.ChainDecl.{ChainDecl}
use Rattle.stream_model.specs.declared.blueprint.Node.{Node}
use Rattle.stream_model.specs.declared.blueprint.WireDecl.{WireDecl}
use Rattle.stream_model.specs.declared.kind.Kind.{Kind}
use Rattle.stream_model.specs.declared.kind.Kind.TheVariants as kind
use Rattle.blue_names.specs.CustomPorts.{named, custom_of, custom_named, custom_head, head_ports, head_fits, lacks_head, is_headless, kind_inputs, kind_outputs, MOST_PORTS}
use Rattle.blue_names.specs.First.{first_from, when}
use Rattle.blue_names.specs.Names.{unknown_guest, Claim, called, opens, same_claim, first_again, file_of, opening, claims_of_nodes, is_named, missing, plug_of, unknown_end, unknown_plug_at, unknown_guest_at}
use Rattle.blue_names.specs.RuleLinks.{number_from, node_number, wire_of}
use Rattle.blue_names.specs.Sizes.{sizes_fit, node_fits}
use Rattle.blue_check.specs.Fitness.{IsFit}
use Rattle.blue_check.specs.Wires.{blueprint_wires}
use Rattle.materializer.specs.Graphs.{graph_node}
use Rattle.materializer.specs.HandedCustoms.{HasGuests}
use Rattle.materializer.specs.Ports.{used_inputs, used_outputs, used_ports}
use Rattle.materializer.proofs.Facts.{facts}
use Rattle.materializer.proofs.Joining.{both_none, none_here, not_when, not_false, mapped_from, target_port, source_port, input_wire, output_wire}
use Rattle.materializer.proofs.Naming.{Holds, behind, first_of, once_head, known_name, none_some}
use Rattle.materializer.proofs.Places.{same_name, name_same}

some_same : {X : Type 0} (x y : X) → Some x ≡ Some y → x ≡ y
some_same x y e = cc

-- ---- the number of a node

-- the claims behind these
behind_claims : (before cs more : List Claim) → first_again before (cs ++ more) ≡ None → (b : List Claim) × (first_again b more ≡ None)
behind_claims before [] more h = (before, h)
behind_claims before (c ∷ cs) more h = let head = once_head c before (cs ++ more) (list_any (same_claim c) before) refl h in behind_claims (c ∷ before) cs more head.1

-- the claims behind that of a file
behind_file : (name : List ℕ) (o : Option (List ℕ)) (before cs : List Claim) → Holds called name before → first_again before (opening o cs) ≡ None → (b : List Claim) × (Holds called name b × (first_again b cs ≡ None))
behind_file name None before cs holds h = (before, (holds, h))
behind_file name (Some file) before cs holds h =
    let head = once_head (opens file) before cs (list_any (same_claim (opens file)) before) refl h in
    (opens file ∷ before, ((λ q. behind false _ _ (holds q)), head.1))

-- the claims behind those of the first node
behind_node : (before : List Claim) (n : Node) (ns : List Node) → first_again before (claims_of_nodes (n ∷ ns)) ≡ None → (b : List Claim) × (Holds called n.name b × (first_again b (claims_of_nodes ns) ≡ None))
behind_node before n ns h =
    let head = once_head (called n.name) before (opening (file_of n.kind) (claims_of_nodes ns)) (list_any (same_claim (called n.name)) before) refl h in
    behind_file n.name (file_of n.kind) (called n.name ∷ before) (claims_of_nodes ns) (λ q. first_of (same_text q n.name) (list_any (same_claim (called q)) before)) head.1

-- the nodes behind it have other names
nodes_differ : (name : List ℕ) (before : List Claim) (ns : List Node) → Holds called name before → first_again before (claims_of_nodes ns) ≡ None → (j : ℕ) (m : Node) → slice_get ns j ≡ Some m → same_text m.name name ≡ false
nodes_differ name before [] holds h j m there = absurd cc
nodes_differ name before (n ∷ ns) holds h zero m there =
    let head = once_head (called n.name) before (opening (file_of n.kind) (claims_of_nodes ns)) (list_any (same_claim (called n.name)) before) refl h in
    let same : n ≡ m = cc in
    subst (λ (x : Node). same_text x.name name ≡ false) same (holds n.name head.0)
nodes_differ name before (n ∷ ns) holds h (suc j) m there =
    let head = once_head (called n.name) before (opening (file_of n.kind) (claims_of_nodes ns)) (list_any (same_claim (called n.name)) before) refl h in
    let rest = behind_file name (file_of n.kind) (called n.name ∷ before) (claims_of_nodes ns) (λ q. behind (same_text q n.name) _ _ (holds q)) head.1 in
    nodes_differ name rest.0 ns rest.1.0 rest.1.1 j m there

number_is : (from : ℕ) (before : List Claim) (ns : List Node) → first_again before (claims_of_nodes ns) ≡ None → (k : ℕ) (n : Node) → slice_get ns k ≡ Some n → number_from n.name from (map (λ m. m.name) ns) ≡ Some (from + k)
number_is from before [] h k n there = absurd cc
number_is from before (x ∷ xs) h zero n there =
    let same : x ≡ n = cc in
    let is : same_text n.name x.name ≡ true = same_name n.name x.name (ap (λ (m : Node). m.name) (sym same)) in
    let e : from ≡ from + 0 = omega arith in
    rw is (ap Some e)
number_is from before (x ∷ xs) h (suc k) n there =
    let rest = behind_node before x xs h in
    let no : same_text n.name x.name ≡ false = nodes_differ x.name rest.0 xs rest.1.0 rest.1.1 k n there in
    let e : from + 1 + k ≡ from + suc k = omega arith in
    rw no (number_is (from + 1) rest.0 xs rest.1.1 k n there ∙ ap Some e)

-- a node of a name that is known
record IsCalled (name : List ℕ) (from : ℕ) (ns : List Node) : Type 0 where
  pub at : ℕ
  pub node : Node
  pub there : slice_get ns at ≡ Some node
  pub is : node.name ≡ name
  pub number : number_from name from (map (λ m. m.name) ns) ≡ Some (from + at)

called_at : (name : List ℕ) (from : ℕ) (ns : List Node) → is_named name (map (λ m. m.name) ns) ≡ true → IsCalled name from ns
called_at name from [] h = absurd cc
called_at name from (x ∷ xs) h = by (same_text name x.name) refl h (called_at name (from + 1) xs)
  where
    by : (b : Bool) → same_text name x.name ≡ b → (b || is_named name (map (λ (m : Node). m.name) xs)) ≡ true → (is_named name (map (λ (m : Node). m.name) xs) ≡ true → IsCalled name (from + 1) xs) → IsCalled name from (x ∷ xs)
    by true e i rest = let z : from ≡ from + 0 = omega arith in record { at = 0; node = x; there = refl; is = sym (name_same name x.name e); number = rw e (ap Some z) }
    by false e i rest =
        let r = rest i in
        let z : from + 1 + r.at ≡ from + suc r.at = omega arith in
        record { at = suc r.at; node = r.node; there = r.there; is = r.is; number = rw e (r.number ∙ ap Some z) }

-- ---- the most port that is used

abbrev most : (WireDecl → List ℕ) → (WireDecl → ℕ) → List WireDecl → List ℕ → ℕ
most end port [] name = 0
most end port (w ∷ ws) name = max (if same_text name (end w) then port w + 1 else 0) (most end port ws name)

inputs_most : (ws : List WireDecl) (name : List ℕ) → used_inputs ws name ≡ most (λ w. w.to) (λ w. w.input) ws name
inputs_most [] name = refl
inputs_most (w ∷ ws) name = ap (λ m. max (if same_text name w.to then w.input + 1 else 0) m) (inputs_most ws name)

outputs_most : (ws : List WireDecl) (name : List ℕ) → used_outputs ws name ≡ most (λ w. w.from) (λ w. w.output) ws name
outputs_most [] name = refl
outputs_most (w ∷ ws) name = ap (λ m. max (if same_text name w.from then w.output + 1 else 0) m) (outputs_most ws name)

most_below : (end : WireDecl → List ℕ) (port : WireDecl → ℕ) (ws : List WireDecl) (name : List ℕ) (c : ℕ) → ((i : ℕ) (w : WireDecl) → slice_get ws i ≡ Some w → same_text name (end w) ≡ true → port w < c) → most end port ws name ≤ c
most_below end port [] name c f = omega arith
most_below end port (w ∷ ws) name c f = by (same_text name (end w)) refl (most_below end port ws name c (λ i v at. f (suc i) v at))
  where
    by : (b : Bool) → same_text name (end w) ≡ b → most end port ws name ≤ c → max (if b then port w + 1 else 0) (most end port ws name) ≤ c
    by true e rest = let less : port w < c = f 0 w refl e in omega (arith, less, rest)
    by false e rest = omega (arith, rest)

most_above : (end : WireDecl → List ℕ) (port : WireDecl → ℕ) (ws : List WireDecl) (name : List ℕ) (i : ℕ) (w : WireDecl) → slice_get ws i ≡ Some w → same_text name (end w) ≡ true → port w + 1 ≤ most end port ws name
most_above end port [] name i w at e = absurd cc
most_above end port (v ∷ ws) name zero w at e =
    let same : v ≡ w = cc in
    let is : same_text name (end v) ≡ true = subst (λ x. same_text name (end x) ≡ true) (sym same) e in
    let ports : port v ≡ port w = ap port same in
    rw is (omega (arith, ports))
most_above end port (v ∷ ws) name (suc i) w at e = let rest = most_above end port ws name i w at e in omega (arith, rest)

exactly : (c used : ℕ) → used ≤ c → ((p : ℕ) → p < c → p + 1 ≤ used) → used ≡ c
exactly zero used least each = omega (arith, least)
exactly (suc p) used least each = let last : p + 1 ≤ used = each p (omega arith) in omega (arith, least, last)

-- ---- the wire at a port

-- the wire that is found there
record IsAtPort (place port : Edge → ℕ) (node p from : ℕ) (ws : List Edge) (i : ℕ) : Type 0 where
  pub past : ℕ
  pub number : i ≡ from + past
  pub wire : Edge
  pub at : slice_get ws past ≡ Some wire
  pub leads : place wire ≡ node
  pub joins : port wire ≡ p

at_port : (place port : Edge → ℕ) (node p from : ℕ) (ws : List Edge) (i : ℕ) → find_by place port node p from ws ≡ Some i → IsAtPort place port node p from ws i
at_port place port node p from [] i h = absurd cc
at_port place port node p from (w ∷ ws) i h = by ((place w == node) && (port w == p)) refl h (at_port place port node p (from + 1) ws i)
  where
    by : (b : Bool) → ((place w == node) && (port w == p)) ≡ b → (if b then Some from else find_by place port node p (from + 1) ws) ≡ Some i
        → (find_by place port node p (from + 1) ws ≡ Some i → IsAtPort place port node p (from + 1) ws i) → IsAtPort place port node p from (w ∷ ws) i
    by true e f rest =
        let parts = and_parts (place w == node) (port w == p) e in
        let same : from ≡ i = cc in
        record { past = 0; number = omega (arith, same); wire = w; at = refl; leads = eqb-true (place w) node parts.0; joins = eqb-true (port w) p parts.1 }
    by false e f rest =
        let r = rest f in
        let n = r.number in
        record { past = suc r.past; number = omega (arith, n); wire = r.wire; at = r.at; leads = r.leads; joins = r.joins }

-- ---- heads

-- a custom stage that is handed in has a head
head_there : (name : List ℕ) (cs : List CustomShape) → is_named name (map (λ c. c.name) cs) ≡ true → is_none (named (λ (c : CustomShape). c.name) name cs) ≡ false
head_there name [] h = absurd cc
head_there name (c ∷ cs) h = by (same_text name c.name) refl h (head_there name cs)
  where
    by : (b : Bool) → same_text name c.name ≡ b → (b || is_named name (map (λ (d : CustomShape). d.name) cs)) ≡ true
        → (is_named name (map (λ (d : CustomShape). d.name) cs) ≡ true → is_none (named (λ (d : CustomShape). d.name) name cs) ≡ false) → is_none (if same_text name c.name then Some c else named (λ (d : CustomShape). d.name) name cs) ≡ false
    by true e i rest = rw e refl
    by false e i rest = rw e (rest i)

has_head : (heads : HeadLists) (o : Option (List ℕ)) → unknown_plug_at (map (λ c. c.name) heads.customs) o ≡ None → lacks_head o (option_and_then (custom_named heads) o) ≡ false
has_head heads None h = refl
has_head heads (Some name) h = head_there name heads.customs (known_name (map (λ c. c.name) heads.customs) name (is_named name (map (λ c. c.name) heads.customs)) refl h)

-- only a custom stage has the ports of a head
inputs_by_kind : (h u : ℕ × ℕ) (k : Kind) → inputs_by h k ≡ u.0 → inputs_by h k ≡ inputs_by u k
inputs_by_kind h u (kind.Custom name) e = e
inputs_by_kind h u k e = refl

outputs_by_kind : (h u : ℕ × ℕ) (k : Kind) → outputs_by h k ≡ u.1 → outputs_by h k ≡ outputs_by u k
outputs_by_kind h u (kind.Custom name) e = e
outputs_by_kind h u k e = refl

head_inputs : (heads : HeadLists) (k : Kind) (h : CustomShape) → custom_head heads k ≡ Some h → kind_inputs heads k ≡ min (length h.inputs) MOST_PORTS
head_inputs heads (kind.Custom name) h e = ap (λ o. (head_ports o).0) e
head_inputs heads k h e = absurd (none_some e)

head_outputs : (heads : HeadLists) (k : Kind) (h : CustomShape) → custom_head heads k ≡ Some h → kind_outputs heads k ≡ min (length h.outputs) MOST_PORTS
head_outputs heads (kind.Custom name) h e = ap (λ o. (head_ports o).1) e
head_outputs heads k h e = absurd (none_some e)

few : (n : ℕ) → nat_le n 8 ≡ true → min n MOST_PORTS ≡ n
few n h = let least : n ≤ 8 = grind (arith, nat_tests, h) in omega (arith, least)

-- where each custom stage that is named is handed in
pub known_by : (heads : HeadLists) (chains : List ChainDecl) (nodes : List Node) → unknown_guest heads chains nodes ≡ None → (k : ℕ) (n : Node) → slice_get nodes k ≡ Some n → is_headless heads n.kind ≡ false
known_by heads chains nodes none k n at =
    let plugs = map (λ p. p.name) heads.plugs in
    let customs = map (λ (c : CustomShape). c.name) heads.customs in
    let here = none_here (λ _ (m : Node). unknown_guest_at plugs customs m.kind) nodes k n (both_none _ _ none).1 at in
    has_head heads (custom_of n.kind) (both_none (unknown_plug_at plugs (plug_of n.kind)) (unknown_plug_at customs (custom_of n.kind)) here).1

other_inputs : (h u : ℕ × ℕ) (k : Kind) → custom_of k ≡ None → inputs_by h k ≡ inputs_by u k
other_inputs h u (kind.Custom name) e = absurd (none_some (sym e))
other_inputs h u k e = refl

other_outputs : (h u : ℕ × ℕ) (k : Kind) → custom_of k ≡ None → outputs_by h k ≡ outputs_by u k
other_outputs h u (kind.Custom name) e = absurd (none_some (sym e))
other_outputs h u k e = refl

not_custom : (o : Option (List ℕ)) (h : Option CustomShape) → h ≡ None → lacks_head o h ≡ false → o ≡ None
not_custom None h e f = refl
not_custom (Some name) None e f = absurd cc
not_custom (Some name) (Some h) e f = absurd cc

-- the ports of a node in the graph, where those of a custom stage are the ports of its head
module _ (heads : HeadLists) (decls : List WireDecl) (n : Node) (known : is_headless heads n.kind ≡ false) (fits : head_fits (custom_head heads n.kind) ≡ true)
    (ports : (h : CustomShape) → custom_head heads n.kind ≡ Some h → used_ports decls n.name ≡ (length h.inputs, length h.outputs)) where
  pub inputs_in_graph : kind_inputs heads n.kind ≡ inputs_of (graph_node decls n)
  inputs_in_graph = by (custom_head heads n.kind) refl
    where
      by : (o : Option CustomShape) → custom_head heads n.kind ≡ o → kind_inputs heads n.kind ≡ inputs_of (graph_node decls n)
      by None e = other_inputs (head_ports (custom_head heads n.kind)) (used_ports decls n.name) n.kind (not_custom (custom_of n.kind) (custom_head heads n.kind) e known)
      by (Some h) e =
          let fit : head_fits (Some h) ≡ true = subst (λ o. head_fits o ≡ true) e fits in
          inputs_by_kind (head_ports (custom_head heads n.kind)) (used_ports decls n.name) n.kind
          (head_inputs heads n.kind h e ∙ few (length h.inputs) (and_parts (nat_le (length h.inputs) 8) _ fit).0 ∙ sym (ap (λ (p : ℕ × ℕ). p.0) (ports h e)))

  pub outputs_in_graph : kind_outputs heads n.kind ≡ outputs_of (graph_node decls n)
  outputs_in_graph = by (custom_head heads n.kind) refl
    where
      by : (o : Option CustomShape) → custom_head heads n.kind ≡ o → kind_outputs heads n.kind ≡ outputs_of (graph_node decls n)
      by None e = other_outputs (head_ports (custom_head heads n.kind)) (used_ports decls n.name) n.kind (not_custom (custom_of n.kind) (custom_head heads n.kind) e known)
      by (Some h) e =
          let fit : head_fits (Some h) ≡ true = subst (λ o. head_fits o ≡ true) e fits in
          outputs_by_kind (head_ports (custom_head heads n.kind)) (used_ports decls n.name) n.kind
          (head_outputs heads n.kind h e ∙ few (length h.outputs) (and_parts (nat_le (length h.outputs) 8) _ (and_parts (nat_le (length h.inputs) 8) _ fit).1).0 ∙ sym (ap (λ (p : ℕ × ℕ). p.1) (ports h e)))

-- ---- a blueprint

module _ (b : Blueprint) (heads : HeadLists) (taken : List (List ℕ)) (fit : IsFit b heads taken) where
  abbrev nodes : List Node
  nodes = b.nodes.items

  abbrev decls : List WireDecl
  decls = b.wires.items

  pub known : (k : ℕ) (n : Node) → slice_get nodes k ≡ Some n → is_headless heads n.kind ≡ false
  known k n at = known_by heads b.chains.items nodes (facts b heads taken fit).guests k n at

  number : (k : ℕ) (n : Node) → slice_get nodes k ≡ Some n → node_number n.name nodes ≡ k
  number k n at =
      let switches = behind_claims _ (map called b.switches.items) _ (facts b heads taken fit).named in
      let chains = behind_claims switches.0 (map (λ c. called c.name) b.chains.items) (claims_of_nodes nodes) switches.1 in
      let z : 0 + k ≡ k = omega arith in
      ap (λ o. unwrap_or o 0) (number_is 0 chains.0 nodes chains.1 k n at) ∙ z

  ends : (i : ℕ) (w : WireDecl) → slice_get decls i ≡ Some w → IsCalled w.from 0 nodes × IsCalled w.to 0 nodes
  ends i w at =
      let rest = (both_none _ _ (facts b heads taken fit).known).1 in
      let here = none_here (λ _ (x : WireDecl). unknown_end (map (λ (n : Node). n.name) nodes) x) decls i w rest at in
      let both = both_none (missing w.from (map (λ (n : Node). n.name) nodes)) (missing w.to (map (λ (n : Node). n.name) nodes)) here in (
        called_at w.from 0 nodes (known_name (map (λ (n : Node). n.name) nodes) w.from (is_named w.from (map (λ (n : Node). n.name) nodes)) refl both.0),
        called_at w.to 0 nodes (known_name (map (λ (n : Node). n.name) nodes) w.to (is_named w.to (map (λ (n : Node). n.name) nodes)) refl both.1),
      )

  edge : (i : ℕ) (w : WireDecl) → slice_get decls i ≡ Some w → slice_get (blueprint_wires b) i ≡ Some (wire_of nodes w)
  edge i w at = slice_get-map (wire_of nodes) decls i ∙ ap (option_map (wire_of nodes)) at

  -- two places of one name are one
  same_node : (k : ℕ) (n : Node) (name : List ℕ) (m : Node) → slice_get nodes k ≡ Some n → n.name ≡ name → slice_get nodes (node_number name nodes) ≡ Some m → m ≡ n
  same_node k n name m at is there =
      let e : node_number name nodes ≡ k = ap (λ (q : List ℕ). node_number q nodes) (sym is) ∙ number k n at in
      some_same m n (sym there ∙ ap (slice_get nodes) e ∙ at)

  inputs_below : (k : ℕ) (n : Node) → slice_get nodes k ≡ Some n → (i : ℕ) (w : WireDecl) → slice_get decls i ≡ Some w → same_text n.name w.to ≡ true → w.input < kind_inputs heads n.kind
  inputs_below k n at i w there is =
      let f = facts b heads taken fit in
      let t = target_port heads nodes (blueprint_wires b) known f.missing f.open_ i (wire_of nodes w) (edge i w there) in
      subst (λ (x : Node). w.input < kind_inputs heads x.kind) (same_node k n w.to t.0 at (name_same n.name w.to is) t.1.0) t.1.1

  outputs_below : (k : ℕ) (n : Node) → slice_get nodes k ≡ Some n → (i : ℕ) (w : WireDecl) → slice_get decls i ≡ Some w → same_text n.name w.from ≡ true → w.output < kind_outputs heads n.kind
  outputs_below k n at i w there is =
      let f = facts b heads taken fit in
      let s = source_port heads nodes (blueprint_wires b) known f.missing f.open_ i (wire_of nodes w) (edge i w there) in
      subst (λ (x : Node). w.output < kind_outputs heads x.kind) (same_node k n w.from s.0 at (name_same n.name w.from is) s.1.0) s.1.1

  -- the name at the end of a wire that leads to a node is its own
  end_is : (k : ℕ) (n : Node) (name : List ℕ) → slice_get nodes k ≡ Some n → IsCalled name 0 nodes → node_number name nodes ≡ k → same_text n.name name ≡ true
  end_is k n name at c e =
      let z : 0 + c.at ≡ c.at = omega arith in
      let here : node_number name nodes ≡ c.at = ap (λ o. unwrap_or o 0) c.number ∙ z in
      let same : c.node ≡ n = some_same c.node n (sym c.there ∙ ap (slice_get nodes) (sym here ∙ e) ∙ at) in
      same_name n.name name (ap (λ (x : Node). x.name) (sym same) ∙ c.is)

  inputs_used : (k : ℕ) (n : Node) → slice_get nodes k ≡ Some n → (p : ℕ) → p < kind_inputs heads n.kind → p + 1 ≤ most (λ w. w.to) (λ w. w.input) decls n.name
  inputs_used k n at p lt =
      let f = facts b heads taken fit in
      let r = input_wire heads nodes (blueprint_wires b) known f.missing f.open_ k n p at lt in
      let u = at_port (λ v. v.to) (λ v. v.input) k p 0 (blueprint_wires b) r.0 r.1 in
      let d = mapped_from (wire_of nodes) decls u.past u.wire u.at in
      let leads : node_number d.0.to nodes ≡ k = ap (λ (v : Edge). v.to) d.1.1 ∙ u.leads in
      let joins : d.0.input ≡ p = ap (λ (v : Edge). v.input) d.1.1 ∙ u.joins in
      let least = most_above (λ w. w.to) (λ w. w.input) decls n.name u.past d.0 d.1.0 (end_is k n d.0.to at (ends u.past d.0 d.1.0).1 leads) in
      omega (arith, least, joins)

  outputs_used : (k : ℕ) (n : Node) → slice_get nodes k ≡ Some n → (p : ℕ) → p < kind_outputs heads n.kind → p + 1 ≤ most (λ w. w.from) (λ w. w.output) decls n.name
  outputs_used k n at p lt =
      let f = facts b heads taken fit in
      let r = output_wire heads nodes (blueprint_wires b) known f.missing f.open_ k n p at lt in
      let u = at_port (λ v. v.from) (λ v. v.output) k p 0 (blueprint_wires b) r.0 r.1 in
      let d = mapped_from (wire_of nodes) decls u.past u.wire u.at in
      let leads : node_number d.0.from nodes ≡ k = ap (λ (v : Edge). v.from) d.1.1 ∙ u.leads in
      let joins : d.0.output ≡ p = ap (λ (v : Edge). v.output) d.1.1 ∙ u.joins in
      let least = most_above (λ w. w.from) (λ w. w.output) decls n.name u.past d.0 d.1.0 (end_is k n d.0.from at (ends u.past d.0 d.1.0).0 leads) in
      omega (arith, least, joins)

  -- the inputs and the outputs of a node, by its head, are those that are used
  inputs_are_used : (k : ℕ) (n : Node) → slice_get nodes k ≡ Some n → used_inputs decls n.name ≡ kind_inputs heads n.kind
  inputs_are_used k n at =
      inputs_most decls n.name
      ∙ exactly (kind_inputs heads n.kind) _ (most_below (λ w. w.to) (λ w. w.input) decls n.name (kind_inputs heads n.kind) (inputs_below k n at)) (inputs_used k n at)

  outputs_are_used : (k : ℕ) (n : Node) → slice_get nodes k ≡ Some n → used_outputs decls n.name ≡ kind_outputs heads n.kind
  outputs_are_used k n at =
      outputs_most decls n.name
      ∙ exactly (kind_outputs heads n.kind) _ (most_below (λ w. w.from) (λ w. w.output) decls n.name (kind_outputs heads n.kind) (outputs_below k n at)) (outputs_used k n at)

  -- so they are those of the node in the graph
  pub inputs_same : (k : ℕ) (n : Node) → slice_get nodes k ≡ Some n → kind_inputs heads n.kind ≡ inputs_of (graph_node decls n)
  inputs_same k n at = inputs_by_kind (head_ports (custom_head heads n.kind)) (used_ports decls n.name) n.kind (sym (inputs_are_used k n at))

  pub outputs_same : (k : ℕ) (n : Node) → slice_get nodes k ≡ Some n → kind_outputs heads n.kind ≡ outputs_of (graph_node decls n)
  outputs_same k n at = outputs_by_kind (head_ports (custom_head heads n.kind)) (used_ports decls n.name) n.kind (sym (outputs_are_used k n at))

  pub node_is_fit : (k : ℕ) (n : Node) → slice_get nodes k ≡ Some n → node_fits heads n.kind ≡ true
  node_is_fit k n at = not_false (node_fits heads n.kind) (not_when _ k (none_here (λ i (m : Node). when (not (node_fits heads m.kind)) i) nodes k n (facts b heads taken fit).sizes at))

  head_is_fit : (k : ℕ) (n : Node) → slice_get nodes k ≡ Some n → head_fits (custom_head heads n.kind) ≡ true
  head_is_fit k n at = (and_parts (sizes_fit n.kind) (head_fits (custom_head heads n.kind)) (node_is_fit k n at)).1

  ports_are : (k : ℕ) (n : Node) (h : CustomShape) → slice_get nodes k ≡ Some n → custom_head heads n.kind ≡ Some h → used_ports decls n.name ≡ (length h.inputs, length h.outputs)
  ports_are k n h at e =
      let fits : head_fits (Some h) ≡ true = subst (λ o. head_fits o ≡ true) e (head_is_fit k n at) in
      let ins = and_parts (nat_le (length h.inputs) 8) _ fits in
      let outs = and_parts (nat_le (length h.outputs) 8) _ ins.1 in
      let i : used_inputs decls n.name ≡ length h.inputs = inputs_are_used k n at ∙ head_inputs heads n.kind h e ∙ few (length h.inputs) ins.0 in
      let o : used_outputs decls n.name ≡ length h.outputs = outputs_are_used k n at ∙ head_outputs heads n.kind h e ∙ few (length h.outputs) outs.0 in
      cc (i, o)

  -- each plug and each custom stage that is named is handed in, with the ports that the wires use
  pub has_guests : HasGuests heads decls nodes
  has_guests = let f = facts b heads taken fit in record { chains = b.chains.items; known = f.guests; once = f.once; fits = head_is_fit; ports = ports_are }
