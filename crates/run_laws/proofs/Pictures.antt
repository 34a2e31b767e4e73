-- The rows of a picture speak of a node's ports: its wires in the picture are those of the ports, and what the node knows, took
-- and gave is theirs too.
use Rattle.std.specs.Prelude.{slice_get}
use Rattle.std.proofs.Common.{◌≡◌, ℕ, zero, suc, ◌+◌, List, [], ◌∷◌, map, Option, Some, refl, sym, arith}
use Rattle.port_core.specs.Cell.{WireState}
use Rattle.stream_model.specs.Graph.{Graph, Edge, find_wire, find_source}
use Rattle.stream_model.specs.Outlook.{Outlook}
use Rattle.stream_model.specs.View.{ins_at, outs_at}
use Rattle.fused_net.proofs.Reading.{some_same}
use Rattle.run_laws.specs.Account.{Account, read_ins, read_outs}
use Rattle.run_laws.specs.Ports.{InPort, OutPort, EachPort, wire_count}
use Rattle.run_laws.specs.Pictures.{counts_from, in_port, out_port, in_ports, out_ports}

module _ {N : Type 0} (a : Account N) where
  pub counts_at : (i : ℕ) (ws : List Edge) (u : ℕ) (v : Edge) → slice_get ws u ≡ Some v → slice_get (counts_from a i ws) u ≡ Some (wire_count v.lane (a.near (i + u)) (a.asked (i + u)))
  counts_at i [] u v e = cc
  counts_at i (w ∷ ws) zero v e = let here : i + 0 ≡ i = omega arith in let same : v ≡ w = some_same v w (sym e) in rw (here, same) refl
  counts_at i (w ∷ ws) (suc u) v e = let later : i + suc u ≡ (i + 1) + u = omega arith in rw later (counts_at (i + 1) ws u v e)

  module _ (g : Graph) (outlook : ℕ → Outlook) (k : ℕ) where
    -- each of these ports has a wire
    abbrev AllFound : (ℕ → Option ℕ) → List ℕ → Type 0
    AllFound find [] = Unit {0}
    AllFound find (p ∷ ps) = ((u : ℕ) × ((v : Edge) × ((find p ≡ Some u) × (slice_get g.wires u ≡ Some v)))) × AllFound find ps

    pub ins_are : (ps : List ℕ) → AllFound (λ p. find_wire k p g.wires) ps → ins_at g (counts_from a 0 g.wires) outlook k ps ≡ map (λ (i : InPort). i.wire) (in_ports a g outlook k ps)
    ins_are [] f = refl
    ins_are (p ∷ ps) f =
        let count = counts_at 0 g.wires f.0.0 f.0.1.0 f.0.1.1.1 in
        let none : 0 + f.0.0 ≡ f.0.0 = omega arith in
        rw (f.0.1.1.0, f.0.1.1.1, rw none at count, ins_are ps f.1) refl

    pub outs_are : (ps : List ℕ) → AllFound (λ p. find_source k p g.wires) ps → outs_at g (counts_from a 0 g.wires) outlook k ps ≡ map (λ (o : OutPort). o.wire) (out_ports a g outlook k ps)
    outs_are [] f = refl
    outs_are (p ∷ ps) f =
        let count = counts_at 0 g.wires f.0.0 f.0.1.0 f.0.1.1.1 in
        let none : 0 + f.0.0 ≡ f.0.0 = omega arith in
        rw (f.0.1.1.0, f.0.1.1.1, rw none at count, outs_are ps f.1) refl

    -- what the node reads there is what its ports show
    pub reads_in : {X : Type 0} (f : WireState → X) (h : InPort → X) → ((u : ℕ) (v : Edge) → h (in_port a g outlook u v) ≡ f (a.far u)) → (ps : List ℕ) → AllFound (λ p. find_wire k p g.wires) ps
        → read_ins g f a.far k ps ≡ map h (in_ports a g outlook k ps)
    reads_in f h same [] found = refl
    reads_in f h same (p ∷ ps) found = rw (found.0.1.1.0, found.0.1.1.1, reads_in f h same ps found.1, same found.0.0 found.0.1.0) refl

    pub reads_out : {X : Type 0} (f : WireState → X) (h : OutPort → X) → ((u : ℕ) (v : Edge) → h (out_port a g outlook u v) ≡ f (a.near u)) → (ps : List ℕ) → AllFound (λ p. find_source k p g.wires) ps
        → read_outs g f a.near k ps ≡ map h (out_ports a g outlook k ps)
    reads_out f h same [] found = refl
    reads_out f h same (p ∷ ps) found = rw (found.0.1.1.0, found.0.1.1.1, reads_out f h same ps found.1, same found.0.0 found.0.1.0) refl

    -- a fact of each wire is one of each port
    pub each_in : (P : InPort → Type 0) → ((u : ℕ) (v : Edge) → slice_get g.wires u ≡ Some v → P (in_port a g outlook u v)) → (ps : List ℕ) → AllFound (λ p. find_wire k p g.wires) ps → EachPort P (in_ports a g outlook k ps)
    each_in P f [] found = tt
    each_in P f (p ∷ ps) found = rw (found.0.1.1.0, found.0.1.1.1) (f found.0.0 found.0.1.0 found.0.1.1.1, each_in P f ps found.1)

    pub each_out : (P : OutPort → Type 0) → ((u : ℕ) (v : Edge) → slice_get g.wires u ≡ Some v → P (out_port a g outlook u v)) → (ps : List ℕ) → AllFound (λ p. find_source k p g.wires) ps → EachPort P (out_ports a g outlook k ps)
    each_out P f [] found = tt
    each_out P f (p ∷ ps) found = rw (found.0.1.1.0, found.0.1.1.1) (f found.0.0 found.0.1.0 found.0.1.1.1, each_out P f ps found.1)
