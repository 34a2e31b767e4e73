-- The islands of a blueprint, whose nodes hold their handles, are seated, and its lanes can be made.
use Rattle.std.specs.Prelude.{slice_get, slice_index, nat_le}
use Rattle.std.specs.List.{All}
use Rattle.std.specs.Option.{option_or, option_map}
use Rattle.std.proofs.Common.{◌≡◌, ℕ, zero, suc, ◌+◌, ◌<◌, ◌≤◌, ◌^◌, Bool, true, false, not, List, [], ◌∷◌, ◌++◌, length, ◌⊎◌, inl, inr, Option, Some, None, refl, sym, ap, ◌∙◌, subst, arith}
use Rattle.std.proofs.lemmas.Bool.{and_parts}
use Rattle.std.proofs.lemmas.Bool.Decides.{nat_tests}
use Rattle.std.proofs.lemmas.List.{length-map}
use Rattle.std.proofs.lemmas.List.Elements.{All-get_or, All-from_get_or}
use Rattle.std.proofs.lemmas.Option.{slice_get_within, slice_get-map, get_or_from_slice_get}
use Rattle.stream_model.specs.Graph.{Edge}
use Rattle.stream_model.specs.Graph as graph
use Rattle.stream_model.specs.Composed.{inputs_of}
use Rattle.stream_model.specs.View.{outputs_of}
use Rattle.stream_model.specs.Joined.{IsJoined}
use Rattle.stream_model.specs.Known.{HeadLists}
use Rattle.stream_model.specs.declared.blueprint.Blueprint.{Blueprint}
use Rattle.stream_model.specs.declared.blueprint.Node.{Node}
use Rattle.stream_model.specs.declared.blueprint.WireDecl.{WireDecl}
use Rattle.stream_model.specs.declared.kind.Kind.{Kind}
use Rattle.stream_model.specs.declared.kind.Kind.TheVariants.{MergeHub, BroadcastHub}
use Rattle.stream_model.specs.declared.kind.TheConstants.{MAX_FAN}
use Rattle.blue_names.specs.CustomPorts.{custom_head, head_fits}
use Rattle.blue_names.specs.First.{when}
use Rattle.blue_names.specs.Hubs.{size_into, size_out_of, size_into_node, size_out_of_node, lane_by}
use Rattle.blue_names.specs.RuleLinks.{node_number, size_of_hub, wire_of, hub_wrong}
use Rattle.blue_names.specs.Sizes.{is_within, sizes_fit, node_fits, lane_fits, chain_wrong, node_wrong, wire_wrong, size_wrong}
use Rattle.blue_names.specs.declared.spot.Spot.TheVariants as at
use Rattle.blue_check.specs.Fitness.{names_fault, ports_fault, guests_fault, sizes_fault, types_fault, IsFit}
use Rattle.blue_check.specs.Wires.{blueprint_wires}
use Rattle.blue_check.specs.declared.fault.CheckFault.TheVariants as fault
use Rattle.interpreter.specs.declared.parts.Parts.{Parts}
use Rattle.interpreter.specs.declared.room.IslandRoom.{IslandRoom}
use Rattle.blue_check.specs.Plan.{lane_sized, lanes_from}
use Rattle.blue_check.specs.declared.plan.LanePlan.{LanePlan}
use Rattle.island_parts.specs.Whole.{whole_links, whole_homes, whole_seats, own_links}
use Rattle.scatter.specs.Shares.{of_home}
use Rattle.materializer.specs.Graphs.{graph_of, graph_node, around_of}
use Rattle.materializer.proofs.Fitting.{fit_joined}
use Rattle.materializer.proofs.Joining.{both_none, none_here, not_when, mapped_from}
use Rattle.materializer.proofs.Placing.{seats_count, seats_ports}
use Rattle.island_plans.specs.Ends.{wire_home}
use Rattle.island_plans.specs.Plans.{IsPlans, IsFilled}
use Rattle.island_plans.specs.declared.plans.Filled.{Filled}
use Rattle.island_plans.specs.declared.plans.Plans.{Plans}
use Rattle.island_plans.proofs.Standing.{keeps_inside, places_count}
use Rattle.bodies_run.specs.Islands.{AreSeated, IsGraphOf}
use Rattle.island_plans.specs.LaneEnds.{CanAllBeMade, AreRising}
use Rattle.island_runs.specs.Made.{ArePartsOf}
use Rattle.island_runs.specs.Sized.{HasFewLinks}
use Rattle.island_runs.proofs.Lanes.{plan_of}
use Rattle.island_runs.proofs.Stages.{some_same}

-- ---- lanes rise by their wires

least_by : (homes : List ℕ) (n : ℕ) (w : Edge) (rest : List LanePlan) (o : Option ℕ) (i : ℕ) (l : LanePlan) → ((j : ℕ) → slice_get rest j ≡ Some l → n + 1 ≤ l.wire) → slice_get (lane_sized homes n w o ++ rest) i ≡ Some l → n ≤ l.wire
least_by homes n w rest None i l more at = let r = more i at in omega (arith, r)
least_by homes n w rest (Some s) zero l more at =
    let here : Some (record { wire = n; size = s; keep = w.keep; from = slice_index homes w.from; to = slice_index homes w.to; hub = w.hub }) ≡ Some l = at in
    let same : record { wire = n; size = s; keep = w.keep; from = slice_index homes w.from; to = slice_index homes w.to; hub = w.hub } ≡ l = some_same _ l here in
    let e : n ≡ l.wire = ap (λ (p : LanePlan). p.wire) same in
    omega (arith, e)
least_by homes n w rest (Some s) (suc i) l more at = let r = more i at in omega (arith, r)

from_least : (homes : List ℕ) (n : ℕ) (ws : List Edge) (j : ℕ) (l : LanePlan) → slice_get (lanes_from homes n ws) j ≡ Some l → n ≤ l.wire
from_least homes n [] j l at = absurd cc
from_least homes n (w ∷ ws) j l at = least_by homes n w (lanes_from homes (n + 1) ws) w.lane j l (λ i here. from_least homes (n + 1) ws i l here) at

rising_by : (homes : List ℕ) (n : ℕ) (w : Edge) (rest : List LanePlan) (o : Option ℕ) (a b : ℕ) (l k : LanePlan) → ((j : ℕ) → slice_get rest j ≡ Some k → n + 1 ≤ k.wire)
    → ((i j : ℕ) → i < j → slice_get rest i ≡ Some l → slice_get rest j ≡ Some k → l.wire < k.wire) → a < b → slice_get (lane_sized homes n w o ++ rest) a ≡ Some l → slice_get (lane_sized homes n w o ++ rest) b ≡ Some k → l.wire < k.wire
rising_by homes n w rest None a b l k more on lt at bt = on a b lt at bt
rising_by homes n w rest (Some s) a zero l k more on lt at bt = absurd (omega (arith, lt))
rising_by homes n w rest (Some s) zero (suc b) l k more on lt at bt =
    let here : Some (record { wire = n; size = s; keep = w.keep; from = slice_index homes w.from; to = slice_index homes w.to; hub = w.hub }) ≡ Some l = at in
    let same : record { wire = n; size = s; keep = w.keep; from = slice_index homes w.from; to = slice_index homes w.to; hub = w.hub } ≡ l = some_same _ l here in
    let e : n ≡ l.wire = ap (λ (p : LanePlan). p.wire) same in
    let r = more b bt in
    omega (arith, e, r)
rising_by homes n w rest (Some s) (suc a) (suc b) l k more on lt at bt = on a b (omega (arith, lt)) at bt

pub rising : (homes : List ℕ) (n : ℕ) (ws : List Edge) (a b : ℕ) (l k : LanePlan) → a < b → slice_get (lanes_from homes n ws) a ≡ Some l → slice_get (lanes_from homes n ws) b ≡ Some k → l.wire < k.wire
rising homes n [] a b l k lt at bt = absurd cc
rising homes n (w ∷ ws) a b l k lt at bt =
    rising_by homes n w (lanes_from homes (n + 1) ws) w.lane a b l k (λ j here. from_least homes (n + 1) ws j k here) (λ i j less here there. rising homes (n + 1) ws i j l k less here there) lt at bt

-- ---- the lanes of a blueprint that breaks no rule have their sizes

map_none : {X Y : Type 0} (f : X → Y) (o : Option X) → option_map f o ≡ None → o ≡ None
map_none f None h = refl
map_none f (Some x) h = absurd cc

not_true : (b : Bool) → not b ≡ false → b ≡ true
not_true true h = refl
not_true false h = absurd cc

bounded : (n : ℕ) → is_within 1 1024 n ≡ true → (1 ≤ n) × (n ≤ 1024)
bounded n h = let both = and_parts (nat_le 1 n) (nat_le n 1024) h in (grind (arith, nat_tests, both.0), grind (arith, nat_tests, both.1))

lane_within : (o : Option ℕ) (n : ℕ) → o ≡ Some n → lane_fits o ≡ true → (1 ≤ n) × (n ≤ 1024)
lane_within None n e h = absurd cc
lane_within (Some m) n e h =
    let same : m ≡ n = cc in
    subst (λ (z : ℕ). (1 ≤ z) × (z ≤ 1024)) same (bounded m (and_parts (is_within 1 1024 m) _ h).0)

-- the size that a hub gives its lanes
into_within : (k : Kind) (s : ℕ) → sizes_fit k ≡ true → size_into k ≡ Some s → (1 ≤ s) × (s ≤ 1024)
into_within (MergeHub m n) s f e =
    let same : m ≡ s = cc in
    subst (λ (z : ℕ). (1 ≤ z) × (z ≤ 1024)) same (bounded m (and_parts (is_within 1 1024 m) (is_within 1 MAX_FAN n) f).0)
into_within _ s f e = absurd cc

out_within : (k : Kind) (s : ℕ) → sizes_fit k ≡ true → size_out_of k ≡ Some s → (1 ≤ s) × (s ≤ 1024)
out_within (BroadcastHub m n) s f e =
    let same : m ≡ s = cc in
    subst (λ (z : ℕ). (1 ≤ z) × (z ≤ 1024)) same (bounded m (and_parts (is_within 1 1024 m) (is_within 1 MAX_FAN n) f).0)
out_within _ s f e = absurd cc

into_node : (o : Option Node) (s : ℕ) → ((n : Node) → o ≡ Some n → sizes_fit n.kind ≡ true) → size_into_node o ≡ Some s → (1 ≤ s) × (s ≤ 1024)
into_node None s f e = absurd cc
into_node (Some n) s f e = into_within n.kind s (f n refl) e

out_node : (o : Option Node) (s : ℕ) → ((n : Node) → o ≡ Some n → sizes_fit n.kind ≡ true) → size_out_of_node o ≡ Some s → (1 ≤ s) × (s ≤ 1024)
out_node None s f e = absurd cc
out_node (Some n) s f e = out_within n.kind s (f n refl) e

either_some : (a b : Option ℕ) (s : ℕ) → option_or a b ≡ Some s → (a ≡ Some s) ⊎ (b ≡ Some s)
either_some None b s e = inr e
either_some (Some x) b s e = inl e

module _ (b : Blueprint) (heads : HeadLists) (taken : List (List ℕ)) (fit : IsFit b heads taken) where
  no_wrong_size : size_wrong heads b.chains.items b.nodes.items b.wires.items ≡ None
  no_wrong_size =
      let nodes = b.nodes.items in
      let ws = blueprint_wires b in
      let chains = b.chains.items in
      let names = names_fault b.switches.items chains nodes b.wires.items taken in
      let ports = ports_fault heads nodes ws in
      let faults = guests_fault heads chains nodes in
      let sizes = sizes_fault heads chains nodes b.wires.items in
      let types = types_fault heads chains nodes ws in
      let a = both_none names (option_or ports (option_or faults (option_or sizes types))) fit.early in
      let c = both_none ports (option_or faults (option_or sizes types)) a.1 in
      let d = both_none faults (option_or sizes types) c.1 in
      let e = both_none (option_map fault.BadSize (size_wrong heads chains nodes b.wires.items)) (option_map fault.HubWire (hub_wrong nodes b.wires.items)) (both_none sizes types d.1).0 in
      map_none fault.BadSize (size_wrong heads chains nodes b.wires.items) e.0

  no_wrong_place : (option_map at.Node (node_wrong heads b.nodes.items) ≡ None) × (option_map at.Wire (wire_wrong b.wires.items) ≡ None)
  no_wrong_place =
      let nodes = option_map at.Node (node_wrong heads b.nodes.items) in
      let wires = option_map at.Wire (wire_wrong b.wires.items) in
      both_none nodes wires (both_none (option_map at.Chain (chain_wrong b.chains.items)) (option_or nodes wires) no_wrong_size).1

  no_wrong_wire : wire_wrong b.wires.items ≡ None
  no_wrong_wire = map_none at.Wire (wire_wrong b.wires.items) no_wrong_place.1

  node_sized : (k : ℕ) (n : Node) → slice_get b.nodes.items k ≡ Some n → sizes_fit n.kind ≡ true
  node_sized k n there =
      let none : node_wrong heads b.nodes.items ≡ None = map_none at.Node (node_wrong heads b.nodes.items) no_wrong_place.0 in
      (and_parts (sizes_fit n.kind) (head_fits (custom_head heads n.kind)) (not_true (node_fits heads n.kind) (not_when (not (node_fits heads n.kind)) k (none_here (λ i (x : Node). when (not (node_fits heads x.kind)) i) b.nodes.items k n none there)))).0

  hub_within : (w : WireDecl) (s : ℕ) → size_of_hub b.nodes.items w ≡ Some s → (1 ≤ s) × (s ≤ 1024)
  hub_within w s e = by (either_some (size_out_of_node (slice_get b.nodes.items from)) (size_into_node (slice_get b.nodes.items to)) s e)
    where
      from : ℕ
      from = node_number w.from b.nodes.items

      to : ℕ
      to = node_number w.to b.nodes.items

      by : (size_out_of_node (slice_get b.nodes.items from) ≡ Some s) ⊎ (size_into_node (slice_get b.nodes.items to) ≡ Some s) → (1 ≤ s) × (s ≤ 1024)
      by (inl h) = out_node (slice_get b.nodes.items from) s (node_sized from) h
      by (inr h) = into_node (slice_get b.nodes.items to) s (node_sized to) h

  lane_size : (i : ℕ) (v : Edge) (size : ℕ) → slice_get (blueprint_wires b) i ≡ Some v → v.lane ≡ Some size → (1 ≤ size) × (size ≤ 1024)
  lane_size i v size there lane =
      let m = mapped_from (wire_of b.nodes.items) b.wires.items i v there in
      let fits : lane_fits (m.0).lane ≡ true = not_true (lane_fits (m.0).lane) (not_when (not (lane_fits (m.0).lane)) i (none_here (λ k (w : WireDecl). when (not (lane_fits w.lane)) k) b.wires.items i m.0 no_wrong_wire m.1.0)) in
      by m.0 fits (size_of_hub b.nodes.items m.0) refl (ap (λ (w : Edge). w.lane) m.1.1 ∙ lane)
    where
      by : (w : WireDecl) → lane_fits w.lane ≡ true → (h : Option ℕ) → size_of_hub b.nodes.items w ≡ h → lane_by h w.lane ≡ Some size → (1 ≤ size) × (size ≤ 1024)
      by w fits None e is = lane_within w.lane size is fits
      by w fits (Some s) e is = let same : s ≡ size = cc in subst (λ (z : ℕ). (1 ≤ z) × (z ≤ 1024)) same (hub_within w s e)

-- what stands at a place of a list
wire_there : (ws : List Edge) (n : ℕ) → n < length ws → (w : Edge) × (slice_get ws n ≡ Some w)
wire_there [] n lt = absurd (omega (arith, lt))
wire_there (w ∷ ws) zero lt = (w, refl)
wire_there (w ∷ ws) (suc n) lt = wire_there ws n (omega (arith, lt))

-- ---- islands whose nodes hold their handles

module _ {S D L H B : Type 0} where
  pub few : (p : Plans S D L H B) → IsPlans p → HasFewLinks p.blueprint.value
  few p is = subst (λ (n : ℕ). length (whole_links n (blueprint_wires p.blueprint.value)) < 2 ^ 32) (places_count p.blueprint.value.wires.items 0 p.blueprint.value.nodes.items) is.split.few

  module _ (b : Blueprint) (ss : List S) (ds : List D) (f : Filled S D L H B) (is : IsFilled b ss ds f) where
    node_count : length is.nodes ≡ length b.nodes.items
    node_count = seats_count (around_of b) 0 b.nodes.items ss ds is.nodes is.seats

    pub seated : HasFewLinks b → AreSeated f.homes.items f.count (blueprint_wires b) is.nodes
    seated links = record {
      each = is.homes_are.are.each ∙ sym node_count;
      below = is.homes_are.below;
      inside = keeps_inside (length b.nodes.items) (blueprint_wires b) f.homes.items is.homes_are.are;
      nodes_are = is.joined;
      few = subst (λ (n : ℕ). length (whole_links n (blueprint_wires b)) < 2 ^ 32) (sym node_count) links;
    }

    pub graph_is : IsGraphOf (graph_of b) (blueprint_wires b) is.nodes
    graph_is = record {
      wires_are = refl;
      each_node = length-map b.nodes.items (graph_node b.wires.items) ∙ sym node_count;
      ins_are = λ k n here.
          let m = mapped_from (graph_node b.wires.items) b.nodes.items k n here in
          (seats_ports (around_of b) 0 b.nodes.items ss ds is.nodes k m.0 is.seats m.1.0).0 ∙ ap (λ (x : graph.Node). inputs_of x) m.1.1;
      outs_are = λ k n here.
          let m = mapped_from (graph_node b.wires.items) b.nodes.items k n here in
          (seats_ports (around_of b) 0 b.nodes.items ss ds is.nodes k m.0 is.seats m.1.0).1 ∙ ap (λ (x : graph.Node). outputs_of x) m.1.1;
    }

    pub parts_are : (k : ℕ) (x : Parts S D L H B × IslandRoom S D L H B) → slice_get f.islands.items k ≡ Some x → ArePartsOf f.homes.items (blueprint_wires b) is.nodes k x.0
    parts_are k x here =
        let i = is.each k x here in
        record {
          nodes_are = i.nodes_are ∙ ap (λ (ls : List LanePlan). of_home (whole_homes f.homes.items ls) k (whole_seats is.nodes ls)) is.lanes_are;
          links_are = i.links_are ∙ ap (λ (ls : List LanePlan). own_links (whole_homes f.homes.items ls) (whole_links (length is.nodes) (blueprint_wires b)) k) is.lanes_are;
        }

  -- plans of islands have the lanes of their blueprint
  pub lanes_rise : (p : Plans S D L H B) → IsPlans p → AreRising p.lanes.items
  lanes_rise p is = subst AreRising (sym is.lanes_are) (λ m n l k lt at bt. rising p.homes.items 0 (blueprint_wires p.blueprint.value) m n l k lt at bt)

  -- each wire begins in an island
  pub wires_begin : (p : Plans S D L H B) → IsPlans p → All (λ h. h < p.count) p.ends.wires.items
  wires_begin p is =
      let b = p.blueprint.value in
      let homes = p.homes.items in
      let ws = blueprint_wires b in
      let joined : IsJoined (graph_of b) = fit_joined b is.runs.heads is.runs.taken is.runs.fit in
      All-from_get_or (λ h. h < p.count) p.ends.wires.items 0 (λ i lt.
      let size : length p.ends.wires.items ≡ length ws = ap length is.ends_are.wires_are ∙ length-map ws (wire_home homes) in
      let w = wire_there ws i (omega (arith, size, lt)) in
      let source = joined.source i w.0 w.1 in
      let first = mapped_from (graph_node b.wires.items) b.nodes.items w.0.from source.0 source.1 in
      let out = slice_get_within b.nodes.items w.0.from first.0 first.1.0 in
      let many = is.homes_are.are.each in
      let below : slice_index homes w.0.from < p.count = All-get_or (λ h. h < p.count) homes w.0.from 0 (omega (arith, out, many)) is.homes_are.below in
      let here : slice_get p.ends.wires.items i ≡ Some (wire_home homes w.0) = ap (λ (hs : List ℕ). slice_get hs i) is.ends_are.wires_are ∙ slice_get-map (wire_home homes) ws i ∙ ap (option_map (wire_home homes)) w.1 in
      subst (λ (h : ℕ). h < p.count) (sym (get_or_from_slice_get p.ends.wires.items i (wire_home homes w.0) 0 here)) below)

  pub lanes_made : (p : Plans S D L H B) → IsPlans p → CanAllBeMade p.count p.lanes.items
  lanes_made p is = λ n l here.
      let b = p.blueprint.value in
      let homes = p.homes.items in
      let w = plan_of homes (blueprint_wires b) n l (subst (λ (ls : List LanePlan). slice_get ls n ≡ Some l) is.lanes_are here) in
      let size = lane_size b is.runs.heads is.runs.taken is.runs.fit l.wire w.wire l.size w.is w.lane in
      let joined : IsJoined (graph_of b) = fit_joined b is.runs.heads is.runs.taken is.runs.fit in
      let source = joined.source l.wire w.wire w.is in
      let target = joined.target l.wire w.wire w.is in
      let first = mapped_from (graph_node b.wires.items) b.nodes.items w.wire.from source.0 source.1 in
      let last = mapped_from (graph_node b.wires.items) b.nodes.items w.wire.to target.0 target.1 in
      let many = is.homes_are.are.each in
      let out = slice_get_within b.nodes.items w.wire.from first.0 first.1.0 in
      let inp = slice_get_within b.nodes.items w.wire.to last.0 last.1.0 in
      let from : slice_index homes w.wire.from < p.count = All-get_or (λ h. h < p.count) homes w.wire.from 0 (omega (arith, out, many)) is.homes_are.below in
      let to : slice_index homes w.wire.to < p.count = All-get_or (λ h. h < p.count) homes w.wire.to 0 (omega (arith, inp, many)) is.homes_are.below in
      record { least = size.0; most = size.1; from_there = omega (arith, from, w.from); to_there = omega (arith, to, w.to) }
