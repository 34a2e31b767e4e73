-- The islands of a blueprint that have started, with the ends of all its lanes and a blank table for each, are fit to be bodies.
use Rattle.std.specs.Prelude.{slice_get, replicate}
use Rattle.std.proofs.Common.{◌≡◌, ℕ, ◌+◌, ◌<◌, ◌≤◌, List, length, map, Some, sym, ap, ◌∙◌, subst, arith}
use Rattle.std.proofs.lemmas.List.{length-map}
use Rattle.std.proofs.lemmas.Option.{slice_get_within}
use Rattle.std.specs.declared.vec.Vec.{Vec}
use Rattle.std.specs.declared.alloc.Global.{Global}
use Rattle.stream_io.specs.State.{SourceState, DrainState}
use Rattle.stream_model.specs.Linear.{Book}
use Rattle.stream_model.specs.declared.blueprint.Blueprint.{Blueprint}
use Rattle.blue_check.specs.Wires.{blueprint_wires}
use Rattle.interpreter.specs.Island.{Kept}
use Rattle.interpreter.specs.declared.parts.Parts.{Parts}
use Rattle.blue_check.specs.Plan.{lanes_from}
use Rattle.blue_check.specs.declared.plan.LanePlan.{LanePlan}
use Rattle.scatter.specs.Shares.{share_of, items_in, items_at}
use Rattle.scatter.proofs.Sharing.{share_count}
use Rattle.island_parts.specs.Whole.{lanes_in, whole_links}
use Rattle.island_parts.proofs.Cutting.{lanes_count}
use Rattle.island_parts.proofs.Wiring.{there, whole_count}
use Rattle.island_body.specs.declared.input.IslandInput.{IslandInput}
use Rattle.island_body.specs.declared.output.OutputBoundary.{OutputBoundary}
use Rattle.island_plans.specs.LaneEnds.{AreAllEnds}
use Rattle.island_plans.specs.declared.lane_ends.AllEnds.{AllEnds}
use Rattle.island_parts.specs.Starts.{HasStarted, AllStarted}
use Rattle.island_body.specs.Keeping.{BodyBegins}
use Rattle.island_body.specs.declared.way.Way.{Way}
use Rattle.island_body.specs.declared.way.Way.TheVariants.{Inner}
use Rattle.island_plans.specs.Ends.{wire_home}
use Rattle.island_plans.specs.Plans.{IsFilled}
use Rattle.island_plans.specs.declared.plans.Filled.{Filled}
use Rattle.island_runs.specs.Made.{ArePartsOf}
use Rattle.island_runs.specs.Sized.{HasFewLinks}
use Rattle.island_runs.proofs.Beginning.{begins}
use Rattle.island_runs.proofs.Filling.{seated, parts_are}
use Rattle.island_body.specs.declared.peers.Peers.{Peers}
use Rattle.island_plans.specs.Peers.{ArePeers}
use Rattle.island_plans.specs.Making.{way_homes, AreBlank, CanAllBegin}
use Rattle.island_runs.proofs.Ways.{connections}

module _ {S D L H B : Type 0} (sources : S → SourceState) (drains : D → DrainState) (book : Book) (b : Blueprint) (ss : List S) (ds : List D) (f : Filled S D L H B) (filled : IsFilled b ss ds f) (started : List (Kept S D L H B)) (all : AllStarted sources drains book f.islands.items started) where
  -- island k had these parts, and has started
  pub record IsStarted (k : ℕ) (i : Kept S D L H B) : Type 0 where
    pub parts : Parts S D L H B
    pub parts_are : ArePartsOf f.homes.items (blueprint_wires b) filled.nodes k parts
    pub started_is : HasStarted sources drains book parts i

  pub is_started : (k : ℕ) (i : Kept S D L H B) → slice_get started k ≡ Some i → IsStarted k i
  is_started k i at =
      let lt = slice_get_within started k i at in
      let x = there f.islands.items k (omega (arith, lt, all.many)) in
      record { parts = (x.0).0; parts_are = parts_are b ss ds f filled k x.0 x.1; started_is = all.each k x.0 i x.1 at }

  pub its_ends : (e : AllEnds) → AreAllEnds f.lanes.items f.count e → AreAllEnds (lanes_from f.homes.items 0 (blueprint_wires b)) f.count e
  its_ends e ends = subst (λ (ls : List LanePlan). AreAllEnds ls f.count e) filled.lanes_are ends

  pub started_many : length started ≡ f.count
  started_many = all.many ∙ filled.many

  -- ---- islands fit to be bodies

  module _ (few : HasFewLinks b) (e : AllEnds) (ends : AreAllEnds f.lanes.items f.count e) (tables : List (Vec Way Global)) (blank : AreBlank (way_homes f.ends.wires.items f.lanes.items) f.count tables) (peers : List Peers) (others : ArePeers f.lanes.items f.count peers) where
    abbrev homes : List ℕ
    homes = f.homes.items

    few_lanes : length f.lanes.items ≤ 4294967295
    few_lanes =
        let ws = blueprint_wires b in
        let n = length b.nodes.items in
        let many : length f.lanes.items ≡ lanes_in ws = ap length filled.lanes_are ∙ lanes_count homes 0 ws in
        let whole : length (whole_links n ws) ≡ length ws + lanes_in ws = whole_count n ws in
        let less : length (whole_links n ws) < 4294967296 = few in
        omega (arith, many, whole, less)

    begin : (k : ℕ) (i : Kept S D L H B) (x : Vec IslandInput Global) (o : Vec OutputBoundary Global) → slice_get started k ≡ Some i → slice_get e.ins.items k ≡ Some x → slice_get e.outs.items k ≡ Some o → BodyBegins i x.items o.items
    begin k i x o at ins outs =
        let s = is_started k i at in
        let own : BodyBegins i (items_at e.ins.items k) (items_at e.outs.items k) =
        begins sources drains book homes f.count (blueprint_wires b) filled.nodes k s.parts i e (seated b ss ds f filled few) s.parts_are.nodes_are s.parts_are.links_are s.started_is (its_ends e ends) in
        let taking : BodyBegins i x.items (items_at e.outs.items k) = subst (λ (l : List IslandInput). BodyBegins i l (items_at e.outs.items k)) (ap items_in ins) own in
        subst (λ (l : List OutputBoundary). BodyBegins i x.items l) (ap items_in outs) taking

    blank_at : (k : ℕ) (i : Kept S D L H B) (t : Vec Way Global) → slice_get started k ≡ Some i → slice_get tables k ≡ Some t → t.items ≡ replicate (length i.net.wires) Inner
    blank_at k i t at here =
        let s = is_started k i at in
        let ws = blueprint_wires b in
        let wires : share_of k (way_homes f.ends.wires.items f.lanes.items) ≡ share_of k (way_homes (map (wire_home homes) ws) f.lanes.items) = ap (λ (l : List ℕ). share_of k (way_homes l f.lanes.items)) filled.ends_are.wires_are in
        let lanes : share_of k (way_homes (map (wire_home homes) ws) f.lanes.items) ≡ share_of k (way_homes (map (wire_home homes) ws) (lanes_from homes 0 ws)) = ap (λ (l : List LanePlan). share_of k (way_homes (map (wire_home homes) ws) l)) filled.lanes_are in
        let own = connections homes f.count ws filled.nodes (seated b ss ds f filled few) sources drains book k s.parts i s.parts_are s.started_is in
        blank.each k t here ∙ ap (λ n. replicate n Inner) (wires ∙ (lanes ∙ sym own))

    abbrev froms : List ℕ
    froms = map (λ (l : LanePlan). l.from) f.lanes.items

    abbrev tos : List ℕ
    tos = map (λ (l : LanePlan). l.to) f.lanes.items

    as_many : length froms ≡ length tos
    as_many = length-map f.lanes.items (λ (l : LanePlan). l.from) ∙ sym (length-map f.lanes.items (λ (l : LanePlan). l.to))

    pub can_begin : CanAllBegin started e.ins.items e.outs.items tables peers
    can_begin = record {
      ins_many = ends.ins_many ∙ sym started_many;
      outs_many = ends.outs_many ∙ sym started_many;
      tables_many = blank.many ∙ sym started_many;
      begin = begin;
      few_ins = λ k x at.
          let own : length (items_at e.ins.items k) ≡ length x.items = ap (λ o. length (items_in o)) at in
          let few_own = ends.ins_few k in
          let most = few_lanes in
          omega (arith, own, few_own, most);
      few_outs = λ k o at.
          let own : length (items_at e.outs.items k) ≡ length o.items = ap (λ o. length (items_in o)) at in
          let few_own = ends.outs_few k in
          let most = few_lanes in
          omega (arith, own, few_own, most);
      blank = blank_at;
      peers_many = others.many ∙ sym started_many;
      in_peers = λ k x p at here.
          let own : length (items_at e.ins.items k) ≡ length x.items = ap (λ o. length (items_in o)) at in
          ap length (others.ins_are k p here) ∙ (share_count tos froms k as_many ∙ (sym (ends.ins_count k) ∙ own));
      out_peers = λ k o p at here.
          let own : length (items_at e.outs.items k) ≡ length o.items = ap (λ o. length (items_in o)) at in
          ap length (others.outs_are k p here) ∙ (share_count froms tos k (sym as_many) ∙ (sym (ends.outs_count k) ∙ own));
    }
