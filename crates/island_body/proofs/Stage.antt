-- The stage at which a lane comes in: what its law tells of the connection behind it.
use Rattle.std.specs.Prelude.{slice_get}
use Rattle.std.proofs.Common.{◌≡◌, inl, inr, ℕ, zero, suc, ◌<◌, ◌≤◌, ◌+◌, true, List, [], ◌∷◌, Some, length, get_or, refl, sym, ap, ◌∙◌, subst, arith}
use Rattle.elem_core.specs.Tree.{Tree}
use Rattle.elem_core.specs.Items.{elements}
use Rattle.elem_core.specs.declared.item.Item.{Item}
use Rattle.elem_core.specs.declared.count.TheConstants.{MOST_COUNT}
use Rattle.stream_io.specs.State.{SourceState, DrainState}
use Rattle.stream_model.specs.Outlook.{End}
use Rattle.stream_model.specs.Linear.{Book}
use Rattle.stage_core.specs.Held.{told}
use Rattle.stage_core.specs.Law.{GaveAs}
use Rattle.port_core.specs.View.{View, out_at}
use Rattle.port_core.specs.declared.view.OutView.{OutView}
use Rattle.port_core.specs.declared.view.OutView.TheVariants.{Available, Closed}
use Rattle.port_core.specs.Cell.{WireState}
use Rattle.port_core.specs.Counts.{asked_bit, asks}
use Rattle.port_core.specs.Reading.{no_wire, out_of, sent_of}
use Rattle.nodes.specs.declared.node.IslandNode.{IslandNode}
use Rattle.nodes.specs.declared.node.IslandNode.TheVariants as node
use Rattle.nodes.specs.Nodes.{node_port_state, node_law, node_asking, node_moves, node_passive}
use Rattle.fused_net.specs.Net.{Net, read_all, end_at, wire_at, ports_at, view_of, took, gave}
use Rattle.fused_net.specs.Laws.{Settled}
use Rattle.fused_net.specs.Costs.{sum_below, all_asks}
use Rattle.fused_net.specs.Outside.{IsPassiveAt}
use Rattle.fused_net.proofs.Reading.{get_there, read_at, same_or_not, some_same}
use Rattle.interpreter.specs.BoundaryPlaces.{IsEntering, EntersAt}

-- what was given at the one output of the stage, and what it knows of it
pub record Gave (sent : List Item) (y : OutView) : Type 0 where
  pub list : List Tree
  pub end : End
  pub is : sent ≡ told list end
  pub known : GaveAs y end

one_of : (a l : List Item) (i : ℕ) → slice_get (a ∷ []) i ≡ Some l → (i ≡ 0) × (a ≡ l)
one_of a l zero e = (refl, some_same a l e)
one_of a l (suc i) e = absurd cc

one_item : (a l : List Item) (t : List (List Item)) (i : ℕ) → t ≡ a ∷ [] → slice_get t i ≡ Some l → (i ≡ 0) × (a ≡ l)
one_item a l t i e at = one_of a l i (ap (λ (z : List (List Item)). slice_get z i) (sym e) ∙ at)

sent_there : (wires : List WireState) (ws : List ℕ) (i w : ℕ) → slice_get ws i ≡ Some w → slice_get (read_all sent_of wires ws) i ≡ Some (get_or wires w no_wire).wire.sent
sent_there wires [] i w e = absurd cc
sent_there wires (x ∷ ws) zero w e = ap (λ (k : ℕ). Some (get_or wires k no_wire).wire.sent) (some_same x w e)
sent_there wires (x ∷ ws) (suc i) w e = sent_there wires ws i w e

module _ {S D L H B : Type 0} (sources : S → SourceState) (drains : D → DrainState) (book : Book) where
  -- the stage's law at port i of it
  gave_by : (x first : IslandNode S D L H B) → IsEntering first → (v : View) (t g : List (List Item)) (i : ℕ) (l : List Item) (y : OutView) → slice_get g i ≡ Some l → out_at v i ≡ y → node_law sources drains book first x v t g → Gave l y
  gave_by (node.Entering x) (node.Entering f) h v t g i l y at out law =
      let one = one_item (told law.list law.end) l g i law.gave_is at in
      record {
        list = law.list;
        end = law.end;
        is = sym one.1;
        known = subst (λ (z : OutView). GaveAs z law.end) (ap (λ (k : ℕ). out_at v k) (sym one.0) ∙ out) law.gave_as;
      }
  gave_by (node.Reading x) (node.Entering f) h v t g i l y at out law = absurd law
  gave_by (node.Making x) (node.Entering f) h v t g i l y at out law = absurd law
  gave_by (node.Linear x) (node.Entering f) h v t g i l y at out law = absurd law
  gave_by (node.State x) (node.Entering f) h v t g i l y at out law = absurd law
  gave_by (node.Sub x) (node.Entering f) h v t g i l y at out law = absurd law
  gave_by (node.FanIn x) (node.Entering f) h v t g i l y at out law = absurd law
  gave_by (node.FanOut x) (node.Entering f) h v t g i l y at out law = absurd law
  gave_by (node.Custom x) (node.Entering f) h v t g i l y at out law = absurd law
  gave_by (node.Writing x) (node.Entering f) h v t g i l y at out law = absurd law
  gave_by (node.Ignoring x) (node.Entering f) h v t g i l y at out law = absurd law
  gave_by (node.Leaving x) (node.Entering f) h v t g i l y at out law = absurd law
  gave_by x (node.Reading f) h v t g i l y at out law = absurd h
  gave_by x (node.Making f) h v t g i l y at out law = absurd h
  gave_by x (node.Linear f) h v t g i l y at out law = absurd h
  gave_by x (node.State f) h v t g i l y at out law = absurd h
  gave_by x (node.Sub f) h v t g i l y at out law = absurd h
  gave_by x (node.FanIn f) h v t g i l y at out law = absurd h
  gave_by x (node.FanOut f) h v t g i l y at out law = absurd h
  gave_by x (node.Custom f) h v t g i l y at out law = absurd h
  gave_by x (node.Writing f) h v t g i l y at out law = absurd h
  gave_by x (node.Ignoring f) h v t g i l y at out law = absurd h
  gave_by x (node.Leaving f) h v t g i l y at out law = absurd h

  entering_passive : (x first : IslandNode S D L H B) → IsEntering first → (v : View) (t g : List (List Item)) → node_law sources drains book first x v t g → node_passive x ≡ true
  entering_passive (node.Entering x) (node.Entering f) h v t g law = refl
  entering_passive (node.Leaving x) (node.Entering f) h v t g law = refl
  entering_passive (node.Reading x) (node.Entering f) h v t g law = absurd law
  entering_passive (node.Making x) (node.Entering f) h v t g law = absurd law
  entering_passive (node.Linear x) (node.Entering f) h v t g law = absurd law
  entering_passive (node.State x) (node.Entering f) h v t g law = absurd law
  entering_passive (node.Sub x) (node.Entering f) h v t g law = absurd law
  entering_passive (node.FanIn x) (node.Entering f) h v t g law = absurd law
  entering_passive (node.FanOut x) (node.Entering f) h v t g law = absurd law
  entering_passive (node.Custom x) (node.Entering f) h v t g law = absurd law
  entering_passive (node.Writing x) (node.Entering f) h v t g law = absurd law
  entering_passive (node.Ignoring x) (node.Entering f) h v t g law = absurd law
  entering_passive x (node.Reading f) h v t g law = absurd h
  entering_passive x (node.Making f) h v t g law = absurd h
  entering_passive x (node.Linear f) h v t g law = absurd h
  entering_passive x (node.State f) h v t g law = absurd h
  entering_passive x (node.Sub f) h v t g law = absurd h
  entering_passive x (node.FanIn f) h v t g law = absurd h
  entering_passive x (node.FanOut f) h v t g law = absurd h
  entering_passive x (node.Custom f) h v t g law = absurd h
  entering_passive x (node.Writing f) h v t g law = absurd h
  entering_passive x (node.Ignoring f) h v t g law = absurd h
  entering_passive x (node.Leaving f) h v t g law = absurd h

  module _ (net : Net (IslandNode S D L H B)) (s : Settled node_port_state (node_law sources drains book) node_asking node_moves net) (q : ℕ) (h : q < length net.wires) (stage : EntersAt net q) where
    abbrev from : ℕ
    from = (end_at net.ends q).from

    -- what was pushed and closed there is a list and its end, as the stage knows
    pub gave_there : Gave (wire_at net q).wire.sent (wire_at net q).wire.out
    gave_there =
        let x = get_there net.nodes from (s.wired.from_within q h) in
        let first = get_there net.firsts from (rw s.each_first (s.wired.from_within q h)) in
        gave_by x.0 first.0 (stage first.0 first.1) (view_of net from) (took net from) (gave net from) (end_at net.ends q).output (wire_at net q).wire.sent (wire_at net q).wire.out
        (sent_there net.wires (ports_at net from).outs (end_at net.ends q).output q (s.wired.from_output q h))
        (read_at out_of net.wires (ports_at net from).outs (end_at net.ends q).output q Closed (s.wired.from_output q h))
        (s.minded from (s.wired.from_within q h) x.0 first.0 x.1 first.1).law_holds

    pub passive_there : IsPassiveAt node_passive net from
    passive_there x at =
        let first = get_there net.firsts from (rw s.each_first (s.wired.from_within q h)) in
        entering_passive x first.0 (stage first.0 first.1) (view_of net from) (took net from) (gave net from) (s.minded from (s.wired.from_within q h) x first.0 at first.1).law_holds

one_below : (f : ℕ → ℕ) (n w : ℕ) → w < n → f w ≤ sum_below f n
one_below f zero w h = absurd (omega (arith, h))
one_below f (suc n) w h = elim (same_or_not w n) [
  | inl e ↦ rw e (omega arith)
  | inr e ↦ let less : w < n = above w n h e in let r = one_below f n w less in omega (arith, r)
]
  where
    above : (w n : ℕ) → w < suc n → (w ≡ n → ⊥) → w < n
    above w n h e = grind (arith, h, e)

-- an asked output has pushed fewer elements than all were asked
pub few_there : {N : Type 0} (net : Net N) (q used : ℕ) → q < length net.wires → all_asks net ≤ used → used ≤ MOST_COUNT → (wire_at net q).wire.out ≡ Available → elements (wire_at net q).wire.sent < MOST_COUNT
few_there net q used h a b e =
    let one : asks (wire_at net q).wire ≤ all_asks net = one_below (λ w. asks (wire_at net w).wire) (length net.wires) q h in
    let is : asks (wire_at net q).wire ≡ elements (wire_at net q).wire.sent + 1 = ap (λ (y : OutView). elements (wire_at net q).wire.sent + asked_bit y) e in
    omega (arith, one, is, a, b)
