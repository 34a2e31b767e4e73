-- Where no wire lies on a closed walk, the ends of each are nodes: a name that no node has would be number 0 at both ends.
use Rattle.std.proofs.Common.{◌≡◌, ℕ, zero, suc, ◌+◌, ◌<◌, true, false, cond, List, [], ◌∷◌, length, map, get_or, Some, ap, sym, ◌∙◌, subst, ⊎_elim, arith}
use Rattle.std.specs.Prelude.{slice_get, unwrap_or}
use Rattle.std.proofs.lemmas.Bool.{cases_Bool}
use Rattle.std.proofs.lemmas.List.{length-map}
use Rattle.std.proofs.lemmas.Option.{slice_get-get_or}
use Rattle.elem_core.specs.Values.{same_text}
use Rattle.stream_model.specs.Graph.{Edge}
use Rattle.stream_model.specs.declared.blueprint.Blueprint.{Blueprint}
use Rattle.stream_model.specs.declared.blueprint.Node.{Node}
use Rattle.stream_model.specs.declared.blueprint.WireDecl.{WireDecl}
use Rattle.blue_names.specs.RuleLinks.{number_from, node_number, wire_of, wires_of}
use Rattle.blue_names.specs.Paths.{HasNoClosedWalk, stay}
use Rattle.blue_check.specs.Wires.{blueprint_wires}
use Rattle.blue_names.specs.declared.links.NumberedWire.{NumberedWire}
use Rattle.blue_names.specs.Links.{AreInRange, wire_of_link, wires_of_links}

-- a number is that of one of the names
number_below : (name : List ℕ) (names : List (List ℕ)) (n : ℕ) → 0 < n + length names → unwrap_or (number_from name n names) 0 < n + length names
number_below name [] n lt = lt
number_below name (x ∷ names) n lt =
    let rest : unwrap_or (number_from name (n + 1) names) 0 < n + 1 + length names = number_below name names (n + 1) (omega arith) in
    let same : n + 1 + length names ≡ n + suc (length names) = omega arith in
    ⊎_elim
    (λ (t : same_text name x ≡ true). let e : unwrap_or (number_from name n (x ∷ names)) 0 ≡ n = ap (λ b. unwrap_or (cond b (Some n) (number_from name (n + 1) names)) 0) t in omega (arith, e))
    (λ (f : same_text name x ≡ false).
    let e : unwrap_or (number_from name n (x ∷ names)) 0 ≡ unwrap_or (number_from name (n + 1) names) 0 = ap (λ b. unwrap_or (cond b (Some n) (number_from name (n + 1) names)) 0) f in
    omega (arith, e, rest, same))
    (cases_Bool (same_text name x))

number_of_below : (name : List ℕ) (n : Node) (ns : List Node) → node_number name (n ∷ ns) < length (n ∷ ns)
number_of_below name n ns =
    let long : length (map (λ (m : Node). m.name) (n ∷ ns)) ≡ length (n ∷ ns) = length-map (n ∷ ns) (λ (m : Node). m.name) in
    omega (arith, long, number_below name (map (λ (m : Node). m.name) (n ∷ ns)) 0 (omega (arith, long)))

-- a wire is one that is declared
declared_of : (nodes : List Node) (ws : List WireDecl) (i : ℕ) (w : Edge) → slice_get (wires_of nodes ws) i ≡ Some w → (d : WireDecl) × (wire_of nodes d ≡ w)
declared_of nodes [] i w h = cc
declared_of nodes (d ∷ ws) zero w h = (d, cc)
declared_of nodes (d ∷ ws) (suc i) w h = declared_of nodes ws i w h

ends_below : (nodes : List Node) (ws : List WireDecl) (i : ℕ) (w : Edge) → HasNoClosedWalk (wires_of nodes ws) → slice_get (wires_of nodes ws) i ≡ Some w → (w.from < length nodes) × (w.to < length nodes)
ends_below [] ws i w h at = let d = declared_of [] ws i w at in absurd (h.none i (record { wire = wire_of [] d.0; at = at ∙ ap Some (sym d.1); back = stay }))
ends_below (n ∷ ns) ws i w h at =
    let d = declared_of (n ∷ ns) ws i w at in
    subst (λ (v : Edge). (v.from < length (n ∷ ns)) × (v.to < length (n ∷ ns))) d.1 (number_of_below d.0.from n ns, number_of_below d.0.to n ns)

pub in_range_open : (nodes : List Node) (ws : List WireDecl) (ls : List NumberedWire) → HasNoClosedWalk (wires_of nodes ws) → wires_of_links ls ≡ wires_of nodes ws → AreInRange (length nodes) ls
in_range_open nodes ws ls h same = λ k d lt.
    let l = get_or ls k d in
    let at : slice_get (wires_of_links ls) k ≡ Some (wire_of_link l) = slice_get_map ls k l (slice_get-get_or ls k d lt) in
    ends_below nodes ws k (wire_of_link l) h (sym (ap (λ us. slice_get us k) same) ∙ at)
  where
    slice_get_map : (xs : List NumberedWire) (k : ℕ) (l : NumberedWire) → slice_get xs k ≡ Some l → slice_get (wires_of_links xs) k ≡ Some (wire_of_link l)
    slice_get_map [] k l e = cc
    slice_get_map (x ∷ xs) zero l e = let same : x ≡ l = cc in ap (λ y. Some (wire_of_link y)) same
    slice_get_map (x ∷ xs) (suc k) l e = slice_get_map xs k l e

-- the same of a checked blueprint, as code reads it
pub in_range_checked : (b seen : Blueprint) (nodes : List Node) (wires : List WireDecl) (ls links : List NumberedWire) (n : ℕ) → HasNoClosedWalk (blueprint_wires b) → seen ≡ b → nodes ≡ seen.nodes.items → wires ≡ seen.wires.items
    → wires_of_links ls ≡ wires_of nodes wires → links ≡ ls → n ≡ length seen.nodes.items → AreInRange n links
in_range_checked b seen nodes wires ls links n h is of_nodes of_wires same of_links long =
    let closes_none : HasNoClosedWalk (blueprint_wires seen) = subst (λ (s : Blueprint). HasNoClosedWalk (blueprint_wires s)) (sym is) h in
    let r : AreInRange (length seen.nodes.items) ls = in_range_open seen.nodes.items seen.wires.items ls closes_none (same ∙ ap (λ ns. wires_of ns wires) of_nodes ∙ ap (wires_of seen.nodes.items) of_wires) in
    subst (λ m. AreInRange m links) (sym long) (subst (AreInRange (length seen.nodes.items)) (sym of_links) r)
