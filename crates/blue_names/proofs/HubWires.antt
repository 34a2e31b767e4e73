-- Where no node is a hub, no wire is one's.
use Rattle.std.proofs.Common.{◌≡◌, ℕ, ◌+◌, zero, suc, Bool, true, false, List, [], ◌∷◌, Option, Some, None, is_some, ◌||◌, ◌&&◌, refl, ap, sym, ◌∙◌}
use Rattle.std.specs.Prelude.{slice_get}
use Rattle.std.specs.List.{list_any}
use Rattle.std.specs.Option.{option_or}
use Rattle.stream_model.specs.declared.blueprint.Node.{Node}
use Rattle.stream_model.specs.declared.blueprint.WireDecl.{WireDecl}
use Rattle.blue_names.specs.First.{first_from, when}
use Rattle.blue_names.specs.Hubs.{size_into, size_out_of, size_into_node, size_out_of_node, is_hub_fault}
use Rattle.blue_names.specs.RuleLinks.{node_number, is_faulty_wire, hub_wrong}

-- the node is a hub
abbrev is_hub : Node → Bool
is_hub n = is_some (size_out_of n.kind) || is_some (size_into n.kind)

or_left : (a b : Bool) → (a || b) ≡ false → a ≡ false
or_left false b h = refl
or_left true b h = cc

or_right : (a b : Bool) → (a || b) ≡ false → b ≡ false
or_right false b h = h
or_right true b h = cc

is_none_of : (o : Option ℕ) → is_some o ≡ false → o ≡ None
is_none_of None h = refl
is_none_of (Some n) h = cc

no_size_out : (nodes : List Node) (i : ℕ) → list_any is_hub nodes ≡ false → size_out_of_node (slice_get nodes i) ≡ None
no_size_out [] i h = refl
no_size_out (n ∷ ns) zero h = is_none_of (size_out_of n.kind) (or_left (is_some (size_out_of n.kind)) (is_some (size_into n.kind)) (or_left (is_hub n) (list_any is_hub ns) h))
no_size_out (n ∷ ns) (suc i) h = no_size_out ns i (or_right (is_hub n) (list_any is_hub ns) h)

no_size_into : (nodes : List Node) (i : ℕ) → list_any is_hub nodes ≡ false → size_into_node (slice_get nodes i) ≡ None
no_size_into [] i h = refl
no_size_into (n ∷ ns) zero h = is_none_of (size_into n.kind) (or_right (is_some (size_out_of n.kind)) (is_some (size_into n.kind)) (or_left (is_hub n) (list_any is_hub ns) h))
no_size_into (n ∷ ns) (suc i) h = no_size_into ns i (or_right (is_hub n) (list_any is_hub ns) h)

no_fault : (marked : Bool) (a b : Option ℕ) → a ≡ None → b ≡ None → ((marked && is_some (option_or a b)) || (is_some a && is_some b)) ≡ false
no_fault true None None ea eb = refl
no_fault false None None ea eb = refl
no_fault marked None (Some n) ea eb = cc
no_fault marked (Some n) b ea eb = cc

none_faulty : (nodes : List Node) (n : ℕ) (ws : List WireDecl) → list_any is_hub nodes ≡ false → first_from (λ i w. when (is_faulty_wire nodes w) i) n ws ≡ None
none_faulty nodes n [] h = refl
none_faulty nodes n (w ∷ ws) h =
    let from = node_number w.from nodes in
    let to = node_number w.to nodes in
    let fit : is_faulty_wire nodes w ≡ false = no_fault (is_some w.lane) (size_out_of_node (slice_get nodes from)) (size_into_node (slice_get nodes to)) (no_size_out nodes from h) (no_size_into nodes to h) in
    ap (λ b. option_or (when b n) (first_from (λ i v. when (is_faulty_wire nodes v) i) (n + 1) ws)) fit ∙ none_faulty nodes (n + 1) ws h

pub no_hub_wrong : (nodes : List Node) (wires : List WireDecl) → list_any (λ n. is_some (size_out_of n.kind) || is_some (size_into n.kind)) nodes ≡ false → None ≡ hub_wrong nodes wires
no_hub_wrong nodes wires h = sym (none_faulty nodes 0 wires h)
