-- The picture of a run: it is lawful at every moment, and where no event is left it rests and its sinks match.
use Rattle.std.proofs.Common.{◌≡◌, ℕ, ◌≤◌, List, None, ap, arith}
use Rattle.std.specs.Prelude.{slice_get, Option, Some}
use Rattle.stream_io.specs.State.{SourceState, DrainState}
use Rattle.stream_model.specs.Composed.{composed, IsRanked}
use Rattle.stream_model.specs.Fits.{CanTrip, valve_order}
use Rattle.stream_model.specs.Graph.{Graph}
use Rattle.stream_model.specs.Graph as graph
use Rattle.stream_model.specs.Node.{World}
use Rattle.stream_model.specs.Outlook.{Outlook}
use Rattle.stream_model.specs.Lawful.{sent_in}
use Rattle.stream_model.specs.Rests.{SinksMatch}
use Rattle.stream_model.specs.View.{ins}
use Rattle.nodes.specs.declared.node.IslandNode.{IslandNode}
use Rattle.nodes.specs.Nodes.{node_port_state, node_law, node_asking, node_moves}
use Rattle.run_laws.specs.Account.{Account, knows, took, gave, IsStill}
use Rattle.run_laws.specs.KindLaws.{HearsAll}
use Rattle.run_laws.specs.Pictures.{picture_counts, AllAgreeWith, AllPass}
use Rattle.run_laws.specs.Replayed.{Plans, RestsBy, IsLawfulBy, FitsBy}
use Rattle.run_laws.proofs.Drawing.{first_sent, all_lawful, all_rest, all_match}
use Rattle.run_laws.specs.Made.{FirstOf}
use Rattle.run_laws.specs.Runs.{IsRun}
use Rattle.run_laws.specs.Telling.{AreSettled, FollowsPlans, TellsMoves, TellsPicks, WorldTells, chosen_world}
use Rattle.nodes.specs.Nodes.{node_plan}
use Rattle.run_laws.proofs.OutlookAgreeing.{every_wire_of, every_move_fits, came_of}
use Rattle.run_laws.proofs.Choosing.{chosen_told}
use Rattle.run_laws.proofs.Hearing.{node_hears}
use Rattle.stage_switch.proofs.Shown.{can_still}
use Rattle.run_laws.specs.Picture.{sink_ended, ended_there}
use Rattle.run_laws.proofs.AnyPicture.{node_picture}
use Rattle.run_laws.proofs.PictureOrders.{took_at, took_there, shown, given_there, all_fit_by, few_came}
use Rattle.run_laws.proofs.Telling.{agrees_passes}
use Rattle.stream_model.specs.Linear.{Book}

module _ {S D L H B : Type 0} (sources : S → SourceState) (drains : D → DrainState) (g : Graph) (w : World) (a : Account (IslandNode S D L H B)) (run : IsRun sources drains w.book g a) where
  hears : (k : ℕ) (n : graph.Node) → slice_get g.nodes k ≡ Some n → HearsAll (knows g a k n) (took g a k n)
  hears k n e = let m = run.keeps.each_node k n e in node_hears sources drains w.book g.chains k n m.first m.now (knows g a k n) (took g a k n) (gave g a k n) (run.made k n m.first e m.first_at) m.law_holds

  -- what passes the wires is by the composed outlooks
  pub all_pass : (rank : ℕ → ℕ) → WorldTells sources g w a → IsRanked g rank → AllPass a g (composed g w)
  all_pass rank tells ranked u h = agrees_passes (composed g w u) (a.near u).wire.sent (every_wire_of sources drains g w a run tells rank ranked u h)

  -- the moves of a run fit
  pub fits : (plans : Plans) → FollowsPlans plans a → AreSettled g a → (rank : ℕ → ℕ) → WorldTells sources g w a → IsRanked g rank → FitsBy g w plans
  fits plans follows settled rank tells ranked =
      all_fit_by g w plans (took_at g a) (shown sources drains g w a run plans follows tells.picks settled) (every_move_fits sources drains g w a run tells rank ranked) (few_came sources drains g w a run tells rank ranked)

  module _ (plans : Plans) (follows : FollowsPlans plans a) (chose : TellsPicks w a) (outlook : ℕ → Outlook) where
    pub lawful : AreSettled g a → AllPass a g outlook → IsLawfulBy g w plans (picture_counts a g) outlook
    lawful settled passes =
        all_lawful node_port_state (node_law sources drains w.book) node_asking node_moves sink_ended (FirstOf sources g.chains) (λ k x. TellsMoves w k x) g w plans a run.joined run.keeps run.made chose hears (λ k n first now is os there at. node_picture sources drains g w plans k n first now is os (follows k first at)) outlook passes orders
      where
        -- the trip took no more elements than were sent to it
        orders : (k : ℕ) (n : graph.Node) (v : List ℕ × ℕ) → slice_get g.nodes k ≡ Some n → plans k ≡ None → valve_order n.kind (w.moves k) ≡ Some v
            → (trip : ℕ) × (t : graph.Node) × (slice_get g.nodes trip ≡ Some t) × CanTrip v.0 v.1 t.kind (sent_in (ins g (picture_counts a g) outlook trip t))
        orders k n v e free order =
            let t = given_there g w plans (took_at g a) (shown sources drains g w a run plans follows chose settled) k n v e free order in
            let sent = first_sent node_port_state (node_law sources drains w.book) node_asking node_moves sink_ended (FirstOf sources g.chains) (λ k x. TellsMoves w k x) g w plans a run.joined run.keeps run.made chose hears (λ k n first now is os there at. node_picture sources drains g w plans k n first now is os (follows k first at)) outlook passes t.0 t.1.0 t.1.1.0 in
            let same = took_there g a t.0 t.1.0 t.1.1.0 in
            let few : took_at g a t.0 ≤ sent_in (ins g (picture_counts a g) outlook t.0 t.1.0) = omega (arith, sent, same) in
            (t.0, t.1.0, t.1.1.0, can_still v.0 v.1 t.1.0.kind (took_at g a t.0) (sent_in (ins g (picture_counts a g) outlook t.0 t.1.0)) few t.1.1.1)

    pub rests : IsStill g a → AllAgreeWith a g outlook → RestsBy g w plans (picture_counts a g) outlook
    rests still agree = all_rest node_port_state (node_law sources drains w.book) node_asking node_moves sink_ended (FirstOf sources g.chains) (λ k x. TellsMoves w k x) g w plans a run.joined run.keeps run.made chose hears (λ k n first now is os there at. node_picture sources drains g w plans k n first now is os (follows k first at)) outlook still (λ u h. agrees_passes (outlook u) (a.near u).wire.sent (agree u h)) (came_of sources drains g w a run chose outlook agree)

    pub matches_by : IsStill g a → SinksMatch g w (picture_counts a g) outlook (λ k. ended_there (a.nodes k))
    matches_by still = all_match node_port_state (node_law sources drains w.book) node_asking node_moves sink_ended (FirstOf sources g.chains) (λ k x. TellsMoves w k x) g w plans a run.joined run.keeps run.made chose hears (λ k n first now is os there at. node_picture sources drains g w plans k n first now is os (follows k first at)) outlook still (λ k. ended_there (a.nodes k)) (λ k x e. ap ended_there e)

-- what a node follows, where there is one
abbrev plan_of : {S D L H B : Type 0} → Option (IslandNode S D L H B) → Option (List ℕ)
plan_of None = None
plan_of (Some x) = node_plan x

-- how the sinks match has nothing to do with what a world tells
pub matches : {S D L H B : Type 0} (sources : S → SourceState) (drains : D → DrainState) (book : Book) (g : Graph) (a : Account (IslandNode S D L H B)) → IsRun sources drains book g a → (w : World) (outlook : ℕ → Outlook) → IsStill g a
    → SinksMatch g w (picture_counts a g) outlook (λ k. ended_there (a.nodes k))
matches sources drains book g a run w outlook still = matches_by sources drains g (chosen_world book w.file a) a run (λ k. plan_of (a.firsts k)) (λ k first at. ap plan_of at) (chosen_told book w.file a) outlook still
