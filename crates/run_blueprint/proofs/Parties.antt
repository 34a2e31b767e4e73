-- What a lane that keeps carries of a party, and that the wires of a blueprint's hubs are such lanes.
use Rattle.std.specs.Prelude.{slice_get, if◌then◌else◌}
use Rattle.std.proofs.Common.{◌≡◌, ◌≢◌, ℕ, ◌+◌, ◌≤◌, Bool, true, false, List, [], ◌∷◌, ◌++◌, length, Option, None, Some, refl, sym, ap, subst, ◌∙◌, arith}
use Rattle.std.proofs.lemmas.Option.{slice_get_within}
use Rattle.elem_core.specs.Items.{elements}
use Rattle.elem_core.specs.Prefix.{IsPrefix}
use Rattle.elem_core.specs.Tree.{Tree}
use Rattle.elem_core.specs.declared.item.Item.{Item}
use Rattle.elem_core.specs.declared.item.Item.TheVariants as item
use Rattle.elem_core.specs.declared.why.Cause.{Cause}
use Rattle.elem_core.proofs.Prefixes.{prefix_whole}
use Rattle.port_core.specs.Cell.{WireState}
use Rattle.port_core.specs.Connection.{ConnStep, quiet, pulled, ready, pushed}
use Rattle.port_core.specs.Joint.{Joint, idle, asking, asked, moving, ending, closing, leaving, finished, parted, cancelled, joint_wire, Histories, under_way, IsSound}
use Rattle.port_core.specs.Marks.{wanted}
use Rattle.port_core.specs.Wire.{JointPorts, end_item}
use Rattle.port_core.specs.declared.view.InView.TheVariants.{Cancelled}
use Rattle.port_core.proofs.Counting.{elements_elem, elements_end}
use Rattle.stage_core.specs.Held.{told}
use Rattle.stream_io.specs.State.{SourceState, DrainState}
use Rattle.stream_model.specs.Graph.{Edge}
use Rattle.stream_model.specs.Lane.{Carries}
use Rattle.stream_model.specs.Linear.{Book}
use Rattle.stream_model.specs.Outlook.{End, unended, ended, failed}
use Rattle.stream_model.specs.declared.blueprint.Blueprint.{Blueprint}
use Rattle.stream_model.specs.declared.blueprint.Node.{Node}
use Rattle.stream_model.specs.declared.blueprint.WireDecl.{WireDecl}
use Rattle.nodes.specs.declared.node.IslandNode.{IslandNode}
use Rattle.run_laws.specs.Account.{Account, WireKeeps}
use Rattle.run_laws.specs.Ends.{LaneKeeps}
use Rattle.run_laws.specs.Items.{list_of, end_of_items, IsToldList}
use Rattle.run_laws.proofs.Carrying.{carries_part}
use Rattle.run_laws.proofs.Coming.{elements_append, elements_told}
use Rattle.run_laws.proofs.Histories.{got_begins}
use Rattle.run_laws.proofs.Lanes.{brings}
use Rattle.blue_names.specs.Hubs.{hub_size, lane_by, keep_by}
use Rattle.blue_names.specs.RuleLinks.{size_of_hub, wire_of}
use Rattle.blue_check.specs.Wires.{blueprint_wires}
use Rattle.materializer.proofs.Joining.{mapped_from}
use Rattle.island_runs.specs.Leaving.{Moment}
use Rattle.run_blueprint.specs.Parties.{CarriesParty}

-- ---- one connection

none_behind : (h r : List Item) → [] ≡ h ++ r → h ≡ []
none_behind [] r e = refl
none_behind (x ∷ h) r e = cc

-- what begins a list and its end is a list, and that end or none
begun_told : (h : List Item) (l : List Tree) (e : End) (r : List Item) → told l e ≡ h ++ r → IsToldList h
begun_told [] l e r is = record { list = []; end = unended; is = refl }
begun_told (item.Elem x ∷ h) (t ∷ l) e r is =
    let rest : told l e ≡ h ++ r = cc in
    let k = begun_told h l e r rest in
    record { list = x ∷ k.list; end = k.end; is = ap (λ (s : List Item). item.Elem x ∷ s) k.is }
begun_told (item.Elem x ∷ h) [] unended r is = absurd cc
begun_told (item.Elem x ∷ h) [] ended r is = absurd cc
begun_told (item.Elem x ∷ h) [] (failed c) r is = absurd cc
begun_told (item.Ended ∷ h) (t ∷ l) e r is = absurd cc
begun_told (item.Ended ∷ h) [] unended r is = absurd cc
begun_told (item.Ended ∷ h) [] ended r is =
    let rest : [] ≡ h ++ r = cc in
    record { list = []; end = ended; is = ap (λ (s : List Item). item.Ended ∷ s) (none_behind h r rest) }
begun_told (item.Ended ∷ h) [] (failed c) r is = absurd cc
begun_told (item.Failed d ∷ h) (t ∷ l) e r is = absurd cc
begun_told (item.Failed d ∷ h) [] unended r is = absurd cc
begun_told (item.Failed d ∷ h) [] ended r is = absurd cc
begun_told (item.Failed d ∷ h) [] (failed c) r is =
    let rest : [] ≡ h ++ r = cc in
    record { list = []; end = failed d; is = ap (λ (s : List Item). item.Failed d ∷ s) (none_behind h r rest) }

way_few : (t : ConnStep) → elements (under_way t) ≤ 1
way_few quiet = omega arith
way_few pulled = omega arith
way_few ready = omega arith
way_few (pushed x) = omega arith

end_none : (c : Option Cause) → elements (end_item c ∷ []) ≡ 0
end_none None = refl
end_none (Some c) = refl

-- one that has not cancelled got all but one element at most
open_at : (j : Joint) (s g : List Item) → Histories j s g → (joint_wire j s g).inp ≢ Cancelled → elements s ≤ elements g + 1
open_at idle s g h n = let same : elements s ≡ elements g = ap elements h in omega (arith, same)
open_at asking s g h n = let same : elements s ≡ elements g = ap elements h in omega (arith, same)
open_at asked s g h n = let same : elements s ≡ elements g = ap elements h in omega (arith, same)
open_at (moving x) s g h n = let same : elements s ≡ elements (g ++ item.Elem x ∷ []) = ap elements h in omega (arith, same, elements_elem g x)
open_at (ending c) s g h n = let same : elements s ≡ elements (g ++ end_item c ∷ []) = ap elements h in omega (arith, same, elements_end g c)
open_at (closing t c) s g h n =
    let same : elements s ≡ elements (g ++ (under_way t ++ end_item c ∷ [])) = ap elements h in
    omega (arith, same, elements_append g (under_way t ++ end_item c ∷ []), elements_append (under_way t) (end_item c ∷ []), end_none c, way_few t)
open_at (leaving true t) s g h n = absurd (n refl)
open_at (leaving false t) s g h n = absurd (n refl)
open_at (finished t c) s g h n = let same : elements s ≡ elements g = ap elements h in omega (arith, same)
open_at (parted t c) s g h n = absurd (n refl)
open_at (cancelled t c) s g h n = absurd (n refl)

open_few : (w : JointPorts) (q : Bool) → IsSound w q → w.inp ≢ Cancelled → elements w.sent ≤ elements w.got + 1
open_few w q h n = open_at h.joint w.sent w.got h.histories (λ e. n (ap (λ (v : JointPorts). v.inp) h.is ∙ e))

-- no more was pushed than was wanted
pushed_wanted : (c : WireState) → elements c.wire.sent ≤ wanted c
pushed_wanted c = by c.asked (elements c.wire.sent)
  where
    by : (b : Bool) (n : ℕ) → n ≤ (if b then n + 1 else n)
    by true n = omega arith
    by false n = omega arith

-- ---- a lane that keeps

-- where nothing is lost, an end comes behind all
nothing_lost : (t : List Tree) (e : End) (l : List Tree) (f : End) → Carries 0 t e l f → f ≢ unended → (l ≡ t) × (f ≡ e)
nothing_lost t e l unended c n = absurd (n refl)
nothing_lost t e l ended c n = (c.1, sym c.0)
nothing_lost t e l (failed d) c n = let count = c.2 in (prefix_whole c.1 (omega (arith, count)), sym c.0)

module _ (s : ℕ) (near far : WireState) (p q : Bool) (asked : ℕ) (sn : IsSound near.wire p) (sf : IsSound far.wire q) (k : LaneKeeps true s near far asked) where
  pushed_on : IsPrefix far.wire.got (told k.in_keeps.pushed_list k.in_keeps.pushed_end)
  pushed_on = subst (λ (x : List Item). IsPrefix far.wire.got x) k.in_keeps.pushed_is (got_begins far.wire q sf)

  took : IsToldList far.wire.got
  took = begun_told far.wire.got k.in_keeps.pushed_list k.in_keeps.pushed_end pushed_on.rest pushed_on.is

  carried : Carries 0 (list_of near.wire.sent) (end_of_items near.wire.sent) took.list took.end
  carried = brings true s near far p q asked sn sf k took.list took.end took.is

  few : elements near.wire.sent ≤ elements far.wire.sent + s
  few =
      let pushed = pushed_wanted near in
      let wants = k.out_keeps.wants in
      let seen = k.met.seen in
      let asks = k.in_keeps.asks in
      omega (arith, pushed, wants, seen, asks)

  brought : far.wire.inp ≢ Cancelled → elements far.wire.sent ≤ length took.list + 1
  brought n =
      let got = open_few far.wire q sf n in
      let count : elements far.wire.got ≡ length took.list = ap elements took.is ∙ elements_told took.list took.end in
      omega (arith, got, count)

  pub lane_carries : CarriesParty s near far
  lane_carries = record {
    list = took.list;
    end = took.end;
    took = took.is;
    order = carries_part 0 (list_of near.wire.sent) (end_of_items near.wire.sent) took.list took.end carried;
    few = few;
    brought = brought;
    end_last = nothing_lost (list_of near.wire.sent) (end_of_items near.wire.sent) took.list took.end carried;
  }

-- ---- the wires of hubs

-- a wire that belongs to a hub is a lane of the hub's size, which keeps
hub_lane : (nodes : List Node) (w : WireDecl) (n : ℕ) → size_of_hub nodes w ≡ Some n → ((wire_of nodes w).lane ≡ Some n) × ((wire_of nodes w).keep ≡ true)
hub_lane nodes w n h = (ap (λ (o : Option ℕ). lane_by o w.lane) h, ap (λ (o : Option ℕ). keep_by o w.keep) h)

pub hub_wire : (b : Blueprint) (u : ℕ) (v : Edge) (n : ℕ) → slice_get (blueprint_wires b) u ≡ Some v → hub_size b.nodes.items v.from v.to ≡ Some n → (v.lane ≡ Some n) × (v.keep ≡ true)
hub_wire b u v n there hub =
    let w = mapped_from (wire_of b.nodes.items) b.wires.items u v there in
    let size : size_of_hub b.nodes.items w.0 ≡ Some n = subst (λ (x : Edge). hub_size b.nodes.items x.from x.to ≡ Some n) (sym w.1.1) hub in
    let lane = hub_lane b.nodes.items w.0 n size in
    (sym (ap (λ (x : Edge). x.lane) w.1.1) ∙ lane.0, sym (ap (λ (x : Edge). x.keep) w.1.1) ∙ lane.1)

module _ {S D L H B : Type 0} (sources : S → SourceState) (drains : D → DrainState) (book : Book) (b : Blueprint) (ss : List S) (ds : List D) (a : Account (IslandNode S D L H B)) (nodes : List (IslandNode S D L H B)) (m : Moment sources drains book b ss ds a nodes) where
  pub hub_carries : (u : ℕ) (v : Edge) (n : ℕ) → slice_get (blueprint_wires b) u ≡ Some v → hub_size b.nodes.items v.from v.to ≡ Some n → CarriesParty n (a.near u) (a.far u)
  hub_carries u v n there hub =
      let lane = hub_wire b u v n there hub in
      let lane_is : v.lane ≡ Some n = lane.0 in
      let keep_is : v.keep ≡ true = lane.1 in
      let keeps : WireKeeps v.keep v.lane (a.near u) (a.far u) (a.asked u) = m.run.keeps.wires u v there in
      let within = slice_get_within (blueprint_wires b) u v there in
      let near = m.run.keeps.near_sound u within in
      let far = m.run.keeps.far_sound u within in
      lane_carries n (a.near u) (a.far u) near.0 far.0 (a.asked u) near.1 far.1 (rw (keep_is, lane_is) at keeps)
