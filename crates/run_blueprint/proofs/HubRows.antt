-- The row of a merge hub in a picture, read for each of its producers.
use Rattle.std.specs.Prelude.{slice_get, if◌then◌else◌, Option, Some, None}
use Rattle.std.proofs.Common.{◌≡◌, ℕ, zero, suc, ◌+◌, ◌-◌, ◌<◌, ◌≤◌, ◌⊎◌, inl, inr, Bool, true, false, List, [], ◌∷◌, length, map, sym, ap, subst, ◌∙◌, arith}
use Rattle.std.proofs.lemmas.Bool.{cases_eq}
use Rattle.stream_io.specs.State.{FolderState}
use Rattle.stream_model.specs.Composed.{inputs_by, inputs_of, count_from}
use Rattle.stream_model.specs.Graph.{Graph, Edge, find_wire}
use Rattle.stream_model.specs.Graph as graph
use Rattle.stream_model.specs.Joined.{IsJoined}
use Rattle.stream_model.specs.Lawful.{MergeInputs, MergeLawful, RowLawful}
use Rattle.stream_model.specs.Linear.{Book, role_of}
use Rattle.stream_model.specs.Node.{World}
use Rattle.stream_model.specs.Outlook.{Outlook}
use Rattle.stream_model.specs.Picks.{count_of}
use Rattle.stream_model.specs.Rests.{ManyToOne}
use Rattle.stream_model.specs.View.{SeenWire, demand, view_of, with_wire, ins_at, outs_at, outputs_by}
use Rattle.stream_model.specs.declared.blueprint.Blueprint.{Blueprint}
use Rattle.stream_model.specs.declared.blueprint.Node.{Node}
use Rattle.stream_model.specs.Known.{HeadLists}
use Rattle.stream_model.specs.declared.kind.Kind.{Kind}
use Rattle.stream_model.specs.declared.kind.Kind.TheVariants.{MergeHub}
use Rattle.stream_model.specs.declared.outcome.WireCount.{WireCount}
use Rattle.stream_model.proofs.Compositions.{found_first}
use Rattle.blue_names.specs.Hubs.{hub_size}
use Rattle.blue_check.specs.Fitness.{IsFit}
use Rattle.blue_check.specs.Wires.{blueprint_wires}
use Rattle.interpreter.specs.Picks.{pick_of}
use Rattle.materializer.specs.Choosers.{plan_at}
use Rattle.materializer.specs.Graphs.{graph_node, graph_of}
use Rattle.materializer.proofs.Fitting.{fit_joined}
use Rattle.run_laws.specs.Replayed.{Plans, IsLawfulBy, RoleLawfulBy}
use Rattle.run_blueprint.specs.Carrying.{as_passed}
use Rattle.run_blueprint.specs.Choosing.{HasPicks}
use Rattle.run_blueprint.specs.Running.{Runs}
use Rattle.run_blueprint.specs.declared.run.RunResult.{RunResult}
use Rattle.run_blueprint.proofs.Parties.{hub_wire}
use Rattle.run_blueprint.proofs.Places.{place_within, place_of, mapped_at}

-- ---- the inputs of a merge, by their ports

-- the wire into a port, and its count
record PortWire (g : Graph) (counts : List WireCount) (node p : ℕ) : Type 0 where
  index : ℕ
  wire : Edge
  count : WireCount
  found : find_wire node p g.wires ≡ Some index
  at : slice_get g.wires index ≡ Some wire
  counted : slice_get counts index ≡ Some count

module _ (g : Graph) (counts : List WireCount) (outlook : ℕ → Outlook) (moves : List ℕ) (node : ℕ) where
  -- what a merge owes for its input at a port
  abbrev Owed : ℕ → SeenWire → Type 0
  Owed p i = (count_of p moves ≤ i.sent) × (demand i ≤ count_of p moves + 1)

  row_here : (k : ℕ) (o : Option ℕ) (i : ℕ) (v : Edge) (c : WireCount) (vs : List SeenWire) → o ≡ Some i → slice_get g.wires i ≡ Some v → slice_get counts i ≡ Some c → MergeInputs moves k (with_wire g counts outlook o vs)
      → Owed k (view_of i v c (outlook i)) × MergeInputs moves (k + 1) vs
  row_here k o i v c vs is at counted h = rw (is, at, counted) at h

  row_at : (n k p i : ℕ) (v : Edge) (c : WireCount) → k ≤ p → p < k + n → ((q : ℕ) → k ≤ q → q < k + n → PortWire g counts node q) → find_wire node p g.wires ≡ Some i → slice_get g.wires i ≡ Some v → slice_get counts i ≡ Some c
      → MergeInputs moves k (ins_at g counts outlook node (count_from k n)) → Owed p (view_of i v c (outlook i))
  row_at zero k p i v c low high there is at counted h = absurd (omega arith)
  row_at (suc n) k p i v c low high there is at counted h =
      by_place (cases_eq k p) (λ less rest. row_at n (k + 1) p i v c less (omega arith) (λ q a b. there q (omega arith) (omega arith)) is at counted rest)
    where
      by_place : (k ≡ p) ⊎ (k ≡ p → ⊥) → (k + 1 ≤ p → MergeInputs moves (k + 1) (ins_at g counts outlook node (count_from (k + 1) n)) → Owed p (view_of i v c (outlook i))) → Owed p (view_of i v c (outlook i))
      by_place (inl e) later =
          let here = row_here k (find_wire node k g.wires) i v c (ins_at g counts outlook node (count_from (k + 1) n)) (ap (λ (q : ℕ). find_wire node q g.wires) e ∙ is) at counted h in
          subst (λ (q : ℕ). Owed q (view_of i v c (outlook i))) e here.0
      by_place (inr e) later =
          let t = there k (omega arith) (omega arith) in
          let here = row_here k (find_wire node k g.wires) t.index t.wire t.count (ins_at g counts outlook node (count_from (k + 1) n)) t.found t.at t.counted h in
          later (omega arith) here.1

-- ---- the picture of a blueprint

one_out : (P : List SeenWire → SeenWire → Type 0) (is os : List SeenWire) → ManyToOne P is os → (o : SeenWire) × P is o
one_out P is [] h = absurd h
one_out P is (o ∷ []) h = (o, h)
one_out P is (o ∷ x ∷ os) h = absurd h

-- what is wanted of a lane beyond its size bounds what was sent on it
sent_few : (asked : Bool) (sent size g : ℕ) → (if asked then sent + 1 else sent) - size ≤ g + 1 → sent ≤ g + (size + 1)
sent_few true sent size g h = omega (arith, h)
sent_few false sent size g h = omega (arith, h)

lane_few : (u : ℕ) (v : Edge) (c : WireCount) (o : Outlook) (size g : ℕ) → v.lane ≡ Some size → demand (view_of u v c o) ≤ g + 1 → c.sent ≤ g + (size + 1)
lane_few u v c o size g lane h = by v.lane lane h
  where
    by : (l : Option ℕ) → l ≡ Some size → (if c.asked then c.sent + 1 else c.sent) - (elim l as (λ _. ℕ) [ None ↦ 0 | Some s ↦ s ]) ≤ g + 1 → c.sent ≤ g + (size + 1)
    by None is d = absurd cc
    by (Some s) is d = let same : s ≡ size = cc in sent_few c.asked c.sent size g (subst (λ (x : ℕ). (if c.asked then c.sent + 1 else c.sent) - x ≤ g + 1) same d)

module _ (b : Blueprint) (wires : List WireCount) (counted : length wires ≡ length (blueprint_wires b)) (joined : IsJoined (graph_of b)) where
  port_wire : (k : ℕ) (n : graph.Node) (p : ℕ) → slice_get (graph_of b).nodes k ≡ Some n → p < inputs_of n → PortWire (graph_of b) wires k p
  port_wire k n p at less =
      let w = joined.each_input k n p at less in
      let f = found_first (λ (v : Edge). v.to) (λ (v : Edge). v.input) k p (blueprint_wires b) w.0 w.1 in
      let within = place_within (blueprint_wires b) w.0 f.wire f.at in
      let c = place_of wires w.0 (omega (arith, within, counted)) in
      record { index = w.0; wire = f.wire; count = c.0; found = w.1; at = f.at; counted = c.1 }

  hub_left : (w : World) (plans : Plans) (outlook : ℕ → Outlook) → IsLawfulBy (graph_of b) w plans wires outlook → (k : ℕ) (n : graph.Node) (own producers : ℕ) → slice_get (graph_of b).nodes k ≡ Some n → n.kind ≡ MergeHub own producers
      → (u : ℕ) (v : Edge) (c : WireCount) (size : ℕ) → slice_get (blueprint_wires b) u ≡ Some v → v.to ≡ k → v.lane ≡ Some size → slice_get wires u ≡ Some c
      → (count_of v.input (w.moves k) ≤ c.sent) × (c.sent ≤ count_of v.input (w.moves k) + (size + 1))
  hub_left w plans outlook lawful k n own producers at is u v c size there to lane count =
      let row : RowLawful (graph_of b) w k (MergeHub own producers) n.decider (ins_at (graph_of b) wires outlook k (count_from 0 producers)) (outs_at (graph_of b) wires outlook k (count_from 0 1)) =
      subst (λ (x : Kind). RoleLawfulBy (graph_of b) w plans k (role_of x) n.decider (ins_at (graph_of b) wires outlook k (count_from 0 (inputs_by n.head x))) (outs_at (graph_of b) wires outlook k (count_from 0 (outputs_by n.head x)))) is (lawful.nodes k n at) in
      let one = one_out (MergeLawful (w.moves k)) (ins_at (graph_of b) wires outlook k (count_from 0 producers)) (outs_at (graph_of b) wires outlook k (count_from 0 1)) row in
      let t = joined.target u v there in
      let both : Some t.0 ≡ Some n = sym (subst (λ (x : ℕ). slice_get (graph_of b).nodes x ≡ Some t.0) to t.1) ∙ at in
      let same : t.0 ≡ n = cc in
      let less : v.input < producers = subst (λ (x : Kind). v.input < inputs_by n.head x) is (subst (λ (x : graph.Node). v.input < inputs_of x) same t.2) in
      let found : find_wire k v.input (blueprint_wires b) ≡ Some u = subst (λ (x : ℕ). find_wire x v.input (blueprint_wires b) ≡ Some u) to t.3 in
      let ports : (q : ℕ) → 0 ≤ q → q < 0 + producers → PortWire (graph_of b) wires k q = λ q low high. let below : q < producers = omega (arith, high) in port_wire k n q at (subst (λ (x : Kind). q < inputs_by n.head x) (sym is) below) in
      let owed = row_at (graph_of b) wires outlook (w.moves k) k producers 0 v.input u v c (omega arith) (omega (arith, less)) ports found there count one.1.1 in
      (owed.0, lane_few u v c (outlook u) size (count_of v.input (w.moves k)) lane owed.1)

pub hub_leaves : (book : Book) (old new : FolderState) (b : Blueprint) (plans : List (Option (List ℕ))) (trace : Option (List ℕ)) (budget : ℕ) (ran : RunResult) (known heads : HeadLists) (taken : List (List ℕ)) (w : World) → Runs book known old new b plans trace budget ran → IsFit b heads taken → w.book ≡ book → HasPicks (map pick_of ran.picks.items) w
    → (k : ℕ) (n : Node) (own producers u : ℕ) (v : Edge) (c : WireCount) (size : ℕ) → slice_get b.nodes.items k ≡ Some n → n.kind ≡ MergeHub own producers → slice_get (blueprint_wires b) u ≡ Some v → v.to ≡ k → hub_size b.nodes.items v.from v.to ≡ Some size → slice_get ran.wires.items u ≡ Some c
    → (count_of v.input (w.moves k) ≤ c.sent) × (c.sent ≤ count_of v.input (w.moves k) + (size + 1))
hub_leaves book old new b plans trace budget ran known heads taken w runs fit same has k n own producers u v c size at is there to hub count =
    hub_left b ran.wires.items runs.pays.counted (fit_joined b heads taken fit) w (plan_at plans) (as_passed runs.picture.carries) (runs.picture.lawful w same has) k (graph_node b.wires.items n) own producers (mapped_at (graph_node b.wires.items) b.nodes.items k n at) is u v c size there to (hub_wire b u v size there hub).0 count
