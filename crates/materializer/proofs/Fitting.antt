-- What a blueprint that breaks no rule tells of its ports, its kinds and its wires.
use Rattle.std.proofs.Common.{◌≡◌, ℕ, ◌+◌, ◌<◌, ◌≤◌, ◌^◌, Bool, true, false, not, ◌&&◌, List, [], ◌∷◌, length, map, Option, Some, None, refl, ap, sym, ◌∙◌, arith}
use Rattle.std.specs.Prelude.{slice_get, nat_le}
use Rattle.std.specs.List.{list_all, All}
use Rattle.std.proofs.lemmas.Bool.{and_parts}
use Rattle.std.proofs.lemmas.Bool.Decides.{nat_tests}
use Rattle.stream_model.specs.Graph.{Edge}
use Rattle.stream_model.specs.Joined.{IsJoined}
use Rattle.stream_model.specs.Known.{CustomShape, HeadLists}
use Rattle.stream_model.specs.declared.kind.Kind.{Kind}
use Rattle.stream_model.specs.declared.kind.Kind.TheVariants.{Custom, Merge, MergeHub, Concat, Interleave, Broadcast, BroadcastHub, Balance, Partition}
use Rattle.stream_model.specs.declared.blueprint.Blueprint.{Blueprint}
use Rattle.stream_model.specs.declared.blueprint.Node.{Node}
use Rattle.stream_model.specs.declared.kind.TheConstants.{MAX_FAN}
use Rattle.blue_names.specs.CustomPorts.{custom_head, head_fits, head_ports, kind_inputs, kind_outputs}
use Rattle.blue_names.specs.First.{first_from, when}
use Rattle.blue_names.specs.Links.{wires_of_links}
use Rattle.blue_names.specs.Sizes.{sizes_fit, node_fits}
use Rattle.blue_names.specs.declared.links.NumberedWire.{NumberedWire}
use Rattle.blue_check.specs.Fitness.{IsFit}
use Rattle.blue_check.specs.Wires.{blueprint_wires}
use Rattle.blue_check.proofs.ClosedWalks.{link_at_place}
use Rattle.materializer.specs.Fit.{CanRun}
use Rattle.materializer.specs.Graphs.{graph_of, graph_chain}
use Rattle.materializer.proofs.Facts.{facts}
use Rattle.materializer.proofs.Joining.{both_none, not_when, source_port, target_port, joined}
use Rattle.materializer.proofs.Used.{known, inputs_same, outputs_same, node_is_fit}

not_true : (b : Bool) → not b ≡ false → b ≡ true
not_true true h = refl
not_true false h = absurd cc

and_both : (p q : Bool) → p ≡ true → q ≡ true → (p && q) ≡ true
and_both p q a b = grind (arith, a, b)

pub fit_joined : (b : Blueprint) (heads : HeadLists) (taken : List (List ℕ)) → IsFit b heads taken → IsJoined (graph_of b)
fit_joined b heads taken fit =
    let f = facts b heads taken fit in
    joined heads b.nodes.items (blueprint_wires b) (known b heads taken fit) f.missing f.open_ b.wires.items (map graph_chain b.chains.items) f.twice (inputs_same b heads taken fit) (outputs_same b heads taken fit)

-- ---- kinds that have few ports

at_most : (n m : ℕ) → nat_le n m ≡ true → n ≤ m
at_most n m h = grind (arith, nat_tests, h)

within : (least n : ℕ) → (nat_le least n && nat_le n MAX_FAN) ≡ true → n < 2 ^ 8
within least n h = let parts = and_parts (nat_le least n) (nat_le n MAX_FAN) h in let most : n ≤ MAX_FAN = at_most n MAX_FAN parts.1 in omega (arith, most)

few_head_inputs : (o : Option CustomShape) → head_fits o ≡ true → (head_ports o).0 < 2 ^ 8
few_head_inputs None h = omega arith
few_head_inputs (Some s) h = let most : length s.inputs ≤ 8 = at_most (length s.inputs) 8 (and_parts _ _ h).0 in omega (arith, most)

few_head_outputs : (o : Option CustomShape) → head_fits o ≡ true → (head_ports o).1 < 2 ^ 8
few_head_outputs None h = omega arith
few_head_outputs (Some s) h = let most : length s.outputs ≤ 8 = at_most (length s.outputs) 8 (and_parts _ _ (and_parts _ _ h).1).0 in omega (arith, most)

few_inputs : (heads : HeadLists) (k : Kind) → sizes_fit k ≡ true → head_fits (custom_head heads k) ≡ true → kind_inputs heads k < 2 ^ 8
few_inputs heads (Merge n) h fits = within 2 n h
few_inputs heads (MergeHub s n) h fits = within 1 n (and_parts _ _ h).1
few_inputs heads (Concat n) h fits = within 2 n h
few_inputs heads (Interleave n s) h fits = within 2 n (and_parts _ _ h).0
few_inputs heads (Custom name) h fits = few_head_inputs (custom_head heads (Custom name)) fits
few_inputs heads _ h fits = omega arith

few_outputs : (heads : HeadLists) (k : Kind) → sizes_fit k ≡ true → head_fits (custom_head heads k) ≡ true → kind_outputs heads k < 2 ^ 8
few_outputs heads (Broadcast n) h fits = within 2 n h
few_outputs heads (BroadcastHub s n) h fits = within 1 n (and_parts _ _ h).1
few_outputs heads (Balance n) h fits = within 2 n h
few_outputs heads (Partition n f) h fits = within 2 n h
few_outputs heads (Custom name) h fits = few_head_outputs (custom_head heads (Custom name)) fits
few_outputs heads _ h fits = omega arith

-- each node's sizes are within their limits
all_sized_from : (heads : HeadLists) (nodes : List Node) (i : ℕ) → first_from (λ k n. when (not (node_fits heads n.kind)) k) i nodes ≡ None → list_all (λ n. sizes_fit n.kind) nodes ≡ true
all_sized_from heads [] i h = refl
all_sized_from heads (n ∷ ns) i h =
    let both = both_none _ _ h in
    let fits = and_parts (sizes_fit n.kind) (head_fits (custom_head heads n.kind)) (not_true (node_fits heads n.kind) (not_when _ i both.0)) in
    and_both (sizes_fit n.kind) (list_all (λ m. sizes_fit m.kind) ns) fits.0 (all_sized_from heads ns (i + 1) both.1)

pub all_sized : (b : Blueprint) (heads : HeadLists) (taken : List (List ℕ)) → IsFit b heads taken → list_all (λ n. sizes_fit n.kind) b.nodes.items ≡ true
all_sized b heads taken fit = all_sized_from heads b.nodes.items 0 (facts b heads taken fit).sizes

module _ (b : Blueprint) (heads : HeadLists) (taken : List (List ℕ)) (fit : IsFit b heads taken) where
  -- so the ports of each wire have small numbers
  few_ports : (i : ℕ) (v : Edge) → slice_get (blueprint_wires b) i ≡ Some v → (v.output < 2 ^ 8) × (v.input < 2 ^ 8)
  few_ports i v at =
      let f = facts b heads taken fit in
      let s = source_port heads b.nodes.items (blueprint_wires b) (known b heads taken fit) f.missing f.open_ i v at in
      let t = target_port heads b.nodes.items (blueprint_wires b) (known b heads taken fit) f.missing f.open_ i v at in
      let from = and_parts (sizes_fit s.0.kind) (head_fits (custom_head heads s.0.kind)) (node_is_fit b heads taken fit v.from s.0 s.1.0) in
      let to = and_parts (sizes_fit t.0.kind) (head_fits (custom_head heads t.0.kind)) (node_is_fit b heads taken fit v.to t.0 t.1.0) in
      let o = few_outputs heads s.0.kind from.0 from.1 in
      let p = few_inputs heads t.0.kind to.0 to.1 in
      let output : v.output < kind_outputs heads s.0.kind = s.1.1 in
      let input : v.input < kind_inputs heads t.0.kind = t.1.1 in
      (omega (arith, output, o), omega (arith, input, p))

  pub few_link_ports : (ls : List NumberedWire) → wires_of_links ls ≡ blueprint_wires b → All (λ (l : NumberedWire). (l.output < 2 ^ 8) × (l.input < 2 ^ 8)) ls
  few_link_ports ls e = λ k d lt. few_ports k _ (ap (λ x. slice_get x k) (sym e) ∙ link_at_place ls k d lt)

-- so a blueprint that breaks no rule can be run
pub can_run : (b : Blueprint) (heads : HeadLists) (taken : List (List ℕ)) → IsFit b heads taken → CanRun b
can_run b heads taken fit = record { heads = heads; taken = taken; fit = fit }
