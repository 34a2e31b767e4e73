-- The laws of a run, as the functions of the crates below state them.
use Rattle.std.proofs.Common.{◌≡◌, ◌≢◌, ◌⊎◌, ℕ, ◌<◌, Bool, true, false, List, [], map, length, slice_get}
use Rattle.std.specs.Prelude.{Some}
use Rattle.elem_core.specs.Prefix.{IsPrefix}
use Rattle.elem_core.specs.Items.{elements}
use Rattle.stream_model.specs.declared.kind.Kind.TheVariants as kind
use Rattle.stream_model.specs.declared.outcome.WireCount.{WireCount}
use Rattle.stream_model.specs.declared.outcome.EndState.TheVariants.{Unended}
use Rattle.stream_model.specs.Graph.{Graph, Edge}
use Rattle.stream_model.specs.Graph as graph
use Rattle.stream_model.specs.Node.{World}
use Rattle.stream_model.specs.Outlook.{Outlook}
use Rattle.stream_model.specs.Blame.{GivenLeads}
use Rattle.stream_model.specs.Composed.{next, composed, sink_outlook, IsRanked}
use Rattle.stream_model.specs.OneWay as oneway
use Rattle.stream_model.specs.Rests.{Rests, SinksMatch}
use Rattle.stream_model.specs.Listed.{AllTell, tells_none}
use Rattle.stream_model.specs.Shape.{IsPolytree, IsWired}
use Rattle.run_laws.specs.Picture.{ended_there}
use Rattle.stream_io.specs.State.{SourceState, DrainState}
use Rattle.nodes.specs.Source.{Lines}
use Rattle.nodes.specs.Sink.{Sink, sink_late}
use Rattle.nodes.specs.Ignoring.{Ignorer}
use Rattle.nodes.specs.Nodes.{node_moves, node_misfit, node_plan}
use Rattle.nodes.specs.declared.node.IslandNode.{IslandNode}
use Rattle.nodes.specs.declared.node.IslandNode.TheVariants as node
use Rattle.run_laws.specs.Account.{Account, IsStill, took}
use Rattle.run_laws.specs.Items.{AgreesWith, IsToldList}
use Rattle.run_laws.specs.Pictures as pictures
use Rattle.run_laws.specs.Runs.{IsRun}
use Rattle.run_laws.specs.Replayed.{Plans, IsAtOnce, FitsBy, IsLawfulBy, RestsBy, MisfitsOver}
use Rattle.run_laws.specs.Telling.{FollowsPlans, ServesPlans, TellsFiles, TellsPicks, TellsCustoms, WorldTells, AreSettled}
use Rattle.run_laws.specs.Sinks.{TookList, SinkWrote, SentTo, IsSinkAt, IsIgnorerAt}
use Rattle.run_laws.specs.Reads.{IsSourceAt, SentLines, GivesTexts}
use Rattle.stream_model.specs.declared.blueprint.Blueprint.{Blueprint}
use Rattle.stream_model.specs.declared.blueprint.ChainDecl.{ChainDecl}
use Rattle.stream_model.specs.declared.blueprint.Node as blue
use Rattle.blue_check.specs.Fitness.{IsFit}
use Rattle.blue_check.specs.Wires.{blueprint_wires}
use Rattle.stream_model.specs.Known.{HeadLists}
use Rattle.graph_stage.specs.Passed.{ItemsTyped}
use Rattle.graph_stage.specs.State.{CustomState}
use Rattle.materializer.specs.Graphs.{graph_node, graph_of, graph_chain}
use Rattle.run_blueprint.specs.Checked.{PassesRules}
use Rattle.run_blueprint.specs.Plugs.{KeepsPlugTypes, GivenTyped}
use Rattle.run_blueprint.specs.Sent.{SendsItsType}
use Rattle.stream_model.specs.Linear.{Book}

module _ {S D : Type 0} (L H B : Type 0) (sources : S → SourceState) (drains : D → DrainState) (book : Book) where
  abbrev pub WroteLaw : Type 0
  WroteLaw = (g : Graph) (a : Account (IslandNode S D L H B)) → IsRun sources drains book g a
      → (k : ℕ) (n : graph.Node) (first now : Sink D) → slice_get g.nodes k ≡ Some n → IsSinkAt a k first now → SinkWrote sources drains book g a k n first now

  abbrev TookLaw : Type 0
  TookLaw = (g : Graph) (w : World) (rank : ℕ → ℕ) (a : Account (IslandNode S D L H B)) → IsRun sources drains w.book g a → WorldTells sources g w a → IsRanked g rank
      → (k : ℕ) (n : graph.Node) (name : List ℕ) (first now : Sink D) → slice_get g.nodes k ≡ Some n → n.kind ≡ kind.ToLines name → IsSinkAt a k first now → TookList (sink_outlook g w k n) now.end (took g a k n)

  abbrev SentLaw : Type 0
  SentLaw = (g : Graph) (a : Account (IslandNode S D L H B)) → IsRun sources drains book g a
      → (k : ℕ) (n : graph.Node) (name : List ℕ) (first now : Sink D) (u : ℕ) (v : Edge) → slice_get g.nodes k ≡ Some n → n.kind ≡ kind.ToLines name → IsSinkAt a k first now → slice_get g.wires u ≡ Some v → v.to ≡ k
      → SentTo now.gather.room now.end (elements (a.far u).wire.sent) now.count

  abbrev RestLaw : Type 0
  RestLaw = (g : Graph) (a : Account (IslandNode S D L H B)) → IsRun sources drains book g a
      → (k : ℕ) (n : graph.Node) (name : List ℕ) (first now : Sink D) (u : ℕ) (v : Edge) → slice_get g.nodes k ≡ Some n → n.kind ≡ kind.ToLines name → IsSinkAt a k first now → slice_get g.wires u ≡ Some v → v.to ≡ k
      → IsStill g a → now.end ≡ Unended → sink_late now ≡ 0 → elements (a.far u).wire.sent ≡ now.count

  abbrev ReadsLaw : Type 0
  ReadsLaw = (g : Graph) (a : Account (IslandNode S D L H B)) → IsRun sources drains book g a
      → (k : ℕ) (n : graph.Node) (first now : Lines S) (u : ℕ) (v : Edge) (bytes : List ℕ) → slice_get g.nodes k ≡ Some n → IsSourceAt a k first now → slice_get g.wires u ≡ Some v → v.from ≡ k
      → (sources first.reader.source).whole ≡ Some bytes → SentLines bytes (sources first.reader.source) (sources now.reader.source) (a.near u).wire.sent

  abbrev LawfulLaw : Type 0
  LawfulLaw = (g : Graph) (w : World) (plans : Plans) (rank : ℕ → ℕ) (a : Account (IslandNode S D L H B)) → IsRun sources drains w.book g a → AreSettled g a
      → WorldTells sources g w a → FollowsPlans plans a → IsRanked g rank → IsLawfulBy g w plans (pictures.picture_counts a g) (composed g w)

  abbrev RestsLaw : Type 0
  RestsLaw = (g : Graph) (w : World) (plans : Plans) (rank : ℕ → ℕ) (a : Account (IslandNode S D L H B)) → IsRun sources drains w.book g a → IsStill g a
      → WorldTells sources g w a → FollowsPlans plans a → IsRanked g rank → RestsBy g w plans (pictures.picture_counts a g) (composed g w)

  abbrev LawfulByLaw : Type 0
  LawfulByLaw = (g : Graph) (w : World) (plans : Plans) (a : Account (IslandNode S D L H B)) (outlook : ℕ → Outlook) → IsRun sources drains w.book g a → AreSettled g a → TellsPicks w a → FollowsPlans plans a
      → pictures.AllPass a g outlook → IsLawfulBy g w plans (pictures.picture_counts a g) outlook

  abbrev RestsByLaw : Type 0
  RestsByLaw = (g : Graph) (w : World) (plans : Plans) (a : Account (IslandNode S D L H B)) (outlook : ℕ → Outlook) → IsRun sources drains w.book g a → IsStill g a → TellsPicks w a → FollowsPlans plans a
      → pictures.AllAgreeWith a g outlook → RestsBy g w plans (pictures.picture_counts a g) outlook

  abbrev MovesLaw : Type 0
  MovesLaw = (g : Graph) (w : World) (plans : Plans) (rank : ℕ → ℕ) (a : Account (IslandNode S D L H B)) → IsRun sources drains w.book g a → AreSettled g a
      → WorldTells sources g w a → FollowsPlans plans a → IsRanked g rank → FitsBy g w plans

  abbrev BeginsLaw : Type 0
  BeginsLaw = (g : Graph) (w : World) (a : Account (IslandNode S D L H B)) → IsRun sources drains w.book g a → (k : ℕ) (n : graph.Node) (first now : IslandNode S D L H B) (plan : List ℕ)
      → slice_get g.nodes k ≡ Some n → a.firsts k ≡ Some first → a.nodes k ≡ Some now → node_plan first ≡ Some plan → IsPrefix (node_moves now) plan × (IsAtOnce n.kind → (node_moves now ≡ []) ⊎ (node_moves now ≡ plan))

  abbrev MisfitLaw : Type 0
  MisfitLaw = (g : Graph) (w : World) (plans : Plans) (a : Account (IslandNode S D L H B)) (outlook : ℕ → Outlook) → IsRun sources drains w.book g a → TellsPicks w a → FollowsPlans plans a → pictures.AllAgreeWith a g outlook
      → (k : ℕ) (n : graph.Node) (now : IslandNode S D L H B) (place : ℕ) → slice_get g.nodes k ≡ Some n → a.nodes k ≡ Some now → node_misfit now ≡ Some place → (place ≡ length (node_moves now)) × MisfitsOver g w plans outlook k n

  abbrev ServesLaw : Type 0
  ServesLaw = (g : Graph) (w : World) (rank : ℕ → ℕ) (a : Account (IslandNode S D L H B)) → IsRun sources drains w.book g a → TellsFiles sources g w a → ServesPlans g w a → IsRanked g rank
      → (i : ℕ) → i < length g.wires → AgreesWith (composed g w i) (a.near i).wire.sent

  abbrev MatchLaw : Type 0
  MatchLaw = (g : Graph) (w : World) (a : Account (IslandNode S D L H B)) (outlook : ℕ → Outlook) → IsRun sources drains book g a → IsStill g a
      → SinksMatch g w (pictures.picture_counts a g) outlook (λ k. ended_there (a.nodes k))

  abbrev AgreeLaw : Type 0
  AgreeLaw = (g : Graph) (w : World) (rank : ℕ → ℕ) (a : Account (IslandNode S D L H B)) → IsRun sources drains w.book g a
      → WorldTells sources g w a → IsRanked g rank → (i : ℕ) → i < length g.wires → AgreesWith (composed g w i) (a.near i).wire.sent

  abbrev BlameLaw : Type 0
  BlameLaw = (g : Graph) (w : World) (rank : ℕ → ℕ) (a : Account (IslandNode S D L H B)) → IsRun sources drains w.book g a
      → WorldTells sources g w a → IsRanked g rank → GivenLeads g w

  abbrev TreesLaw : Type 0
  TreesLaw = (g : Graph) (w : World) (counts : List WireCount) (outlook : ℕ → Outlook) → IsWired g counts → Rests g w counts outlook → AllTell g w.book → IsPolytree g → (ended : ℕ → Bool) → SinksMatch g w counts outlook ended
      → (i : ℕ) (v : Edge) (n : graph.Node) → slice_get g.wires i ≡ Some v → slice_get g.nodes v.to ≡ Some n → oneway.is_sink n.kind ≡ true → ended v.to ≡ true

  abbrev IgnorerThere : Type 0
  IgnorerThere = (g : Graph) (a : Account (IslandNode S D L H B)) → IsRun sources drains book g a
      → (k : ℕ) (n : graph.Node) → slice_get g.nodes k ≡ Some n → n.kind ≡ kind.Ignore → (first : Ignorer) × ((now : Ignorer) × IsIgnorerAt a k first now)

  abbrev FitsLaw : Type 0
  FitsLaw = (b : Blueprint) (heads : HeadLists) (taken : List (List ℕ)) (g : Graph) → IsFit b heads taken → g.nodes ≡ map (graph_node b.wires.items) b.nodes.items → g.wires ≡ blueprint_wires b → g.chains ≡ map graph_chain b.chains.items
      → PassesRules heads b.chains.items b.nodes.items g

  abbrev TypesLaw : Type 0
  TypesLaw = (heads : HeadLists) (chains : List ChainDecl) (nodes : List blue.Node) (g : Graph) (w : World) (rank : ℕ → ℕ) (a : Account (IslandNode S D L H B)) → IsRun sources drains w.book g a → TellsPicks w a → TellsCustoms g w a
      → PassesRules heads chains nodes g → KeepsPlugTypes heads w.book → GivenTyped heads nodes g.wires w → IsRanked g rank
      → (i : ℕ) (v : Edge) → slice_get g.wires i ≡ Some v → SendsItsType heads chains nodes g w i v (a.near i).wire.sent

  abbrev GivesLaw : Type 0
  GivesLaw = (g : Graph) (w : World) (a : Account (IslandNode S D L H B)) → IsRun sources drains w.book g a → TellsPicks w a
      → (sent : ℕ → Outlook) (j : ℕ) (v : Edge) (n : graph.Node) → slice_get g.wires j ≡ Some v → slice_get g.nodes v.from ≡ Some n → ((name : List ℕ) → n.kind ≢ kind.Lines name) → tells_none w.book n.kind ≡ false
      → ((u : ℕ) (x : Edge) → slice_get g.wires u ≡ Some x → x.to ≡ v.from → AgreesWith (sent u) (a.near u).wire.sent) → AgreesWith (next g w sent j) (a.near j).wire.sent

  abbrev TextsLaw : Type 0
  TextsLaw = (g : Graph) (a : Account (IslandNode S D L H B)) → IsRun sources drains book g a
      → (u : ℕ) (v : Edge) (n : graph.Node) (name : List ℕ) → slice_get g.wires u ≡ Some v → slice_get g.nodes v.from ≡ Some n → n.kind ≡ kind.Lines name → GivesTexts (a.near u).wire.sent

  abbrev CustomsLaw : Type 0
  CustomsLaw = (g : Graph) (a : Account (IslandNode S D L H B)) → IsRun sources drains book g a
      → (u : ℕ) (v : Edge) (n : graph.Node) (name : List ℕ) → slice_get g.wires u ≡ Some v → slice_get g.nodes v.from ≡ Some n → n.kind ≡ kind.Custom name → IsToldList (a.near u).wire.sent

  abbrev TypedLaw : Type 0
  TypedLaw = (g : Graph) (a : Account (IslandNode S D L H B)) → IsRun sources drains book g a
      → (u : ℕ) (v : Edge) (n : graph.Node) (name : List ℕ) → slice_get g.wires u ≡ Some v → slice_get g.nodes v.from ≡ Some n → n.kind ≡ kind.Custom name
      → (first : CustomState) → a.firsts v.from ≡ Some (node.Custom first) → ItemsTyped (slice_get first.types v.output) (a.near u).wire.sent

  pub record RunLaws : Type 0 where
    pub fits : FitsLaw
    pub types : TypesLaw
    pub texts : TextsLaw
    pub customs : CustomsLaw
    pub typed : TypedLaw
    pub gives : GivesLaw
    pub ranked : (b : Blueprint) (heads : HeadLists) (taken : List (List ℕ)) → IsFit b heads taken → (rank : ℕ → ℕ) × IsRanked (graph_of b) rank
    pub agree : AgreeLaw
    pub blames : BlameLaw
    pub trees : TreesLaw
    pub wrote : WroteLaw
    pub sent : SentLaw
    pub rest : RestLaw
    pub reads : ReadsLaw
    pub lawful : LawfulLaw
    pub lawful_by : LawfulByLaw
    pub rests : RestsLaw
    pub rests_by : RestsByLaw
    pub moves : MovesLaw
    pub begins : BeginsLaw
    pub misfit : MisfitLaw
    pub serves : ServesLaw
    pub match : MatchLaw
    pub ignorer : IgnorerThere
    pub took : TookLaw
