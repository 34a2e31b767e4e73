-- What was sent on every wire of a run agrees with the outlook of that wire, and so does what every node took.
use Rattle.std.proofs.Common.{◌≡◌, ◌≢◌, ℕ, ◌<◌, Bool, true, false, List, length, refl, ap, ◌∙◌}
use Rattle.std.specs.Prelude.{slice_get, Some}
use Rattle.stream_model.specs.Graph.{Graph, Edge}
use Rattle.stream_model.specs.Outlook.{Outlook}
use Rattle.stream_model.specs.declared.kind.Kind.TheVariants as kind
use Rattle.stream_model.specs.Fits.{moves_fit, inputs}
use Rattle.stream_model.specs.Graph as graph
use Rattle.stream_model.specs.Listed.{tells_none}
use Rattle.stream_model.specs.Node.{World}
use Rattle.stream_model.specs.Composed.{inputs_of, count_from, ports_of, next, composed, IsRanked}
use Rattle.graph_stage.specs.State.{CustomState}
use Rattle.stream_io.specs.State.{SourceState, DrainState}
use Rattle.nodes.specs.declared.node.IslandNode.{IslandNode}
use Rattle.nodes.specs.declared.node.IslandNode.TheVariants.{Reading, Custom}
use Rattle.nodes.specs.Nodes.{node_port_state, node_law, node_asking, node_moves}
use Rattle.run_laws.specs.Account.{Account, took}
use Rattle.run_laws.specs.Items.{AllMayPass, AgreesWith}
use Rattle.run_laws.proofs.Agreeing.{every_wire, every_input, gives_by, inputs_pass, list_agrees, all_fit}
use Rattle.stream_model.proofs.Compositions.{slice_get-below}
use Rattle.run_laws.specs.Pictures.{AllAgreeWith}
use Rattle.run_laws.specs.Made.{FirstOf}
use Rattle.run_laws.specs.Runs.{IsRun}
use Rattle.run_laws.specs.Telling.{TellsNode, TellsMoves, TellsPicks, TellsGave, TellsCustoms, WorldTells}
use Rattle.run_laws.proofs.AnyKind.{node_laws}

module _ {S D L H B : Type 0} (sources : S → SourceState) (drains : D → DrainState) (g : Graph) (w : World) (a : Account (IslandNode S D L H B)) (run : IsRun sources drains w.book g a) (tells : WorldTells sources g w a) (rank : ℕ → ℕ) (ranked : IsRanked g rank) where
  -- what the world tells of each node
  told : (k : ℕ) (n : graph.Node) (first now : IslandNode S D L H B) → slice_get g.nodes k ≡ Some n → a.firsts k ≡ Some first → a.nodes k ≡ Some now → TellsNode sources w n first now × TellsMoves w k now
  told k n first now e f x = (tells.files k n first now e f x, tells.picks k now x)

  pub every_wire_of : (i : ℕ) → i < length g.wires → AgreesWith (composed g w i) (a.near i).wire.sent
  every_wire_of = every_wire node_port_state (node_law sources drains w.book) node_asking node_moves (FirstOf sources g.chains) (λ v k n first now. TellsNode sources v n first now × TellsMoves v k now) g w
      (λ k n first now v took gave made each many law. node_laws sources drains g w k n first now v took gave made each many law) a run.joined run.keeps run.made told rank ranked

  pub every_input_of : (k : ℕ) (n : graph.Node) → slice_get g.nodes k ≡ Some n → AllMayPass (ports_of g w (composed g w) k (count_from 0 (inputs_of n))) (took g a k n)
  every_input_of = every_input node_port_state (node_law sources drains w.book) node_asking node_moves (FirstOf sources g.chains) (λ v k n first now. TellsNode sources v n first now × TellsMoves v k now) g w
      (λ k n first now v took gave made each many law. node_laws sources drains g w k n first now v took gave made each many law) a run.joined run.keeps run.made told rank ranked

  -- the moves of every stage fit what may come in there
  pub every_move_fits : (k : ℕ) (n : graph.Node) → slice_get g.nodes k ≡ Some n → moves_fit g w k n.kind (inputs g w k n) ≡ true
  every_move_fits = all_fit node_port_state (node_law sources drains w.book) node_asking node_moves (FirstOf sources g.chains) (λ v k n first now. TellsNode sources v n first now × TellsMoves v k now) g w
      (λ k n first now v took gave made each many law. node_laws sources drains g w k n first now v took gave made each many law) a run.joined run.keeps run.made told rank ranked

told_not : (b : Bool) → b ≡ false → b ≡ true → ⊥
told_not b e f = cc

-- what the world tells of a node that is no source of lines and no custom stage that tells no list
neither : {S D L H B : Type 0} (sources : S → SourceState) (w : World) (n : graph.Node) (first now : IslandNode S D L H B) → ((name : List ℕ) → n.kind ≢ kind.Lines name) → tells_none w.book n.kind ≡ false
    → TellsNode sources w n first now
neither sources w n (Reading first) (Reading now) other tells = λ name is. absurd (other name is)
neither sources w n (Custom first) (Custom now) other tells = record { given = λ untold. absurd (told_not (tells_none w.book n.kind) tells untold) }
neither sources w n _ _ other tells = tt

-- what it tells of one that is no source of lines, where it tells what a custom stage gave
no_lines : {S D L H B : Type 0} (sources : S → SourceState) (w : World) (n : graph.Node) (first now : IslandNode S D L H B) → ((name : List ℕ) → n.kind ≢ kind.Lines name) → ((x : CustomState) → now ≡ Custom x → TellsGave w n x)
    → TellsNode sources w n first now
no_lines sources w n (Reading first) (Reading now) other gave = λ name is. absurd (other name is)
no_lines sources w n (Custom first) (Custom now) other gave = gave now refl
no_lines sources w n _ _ other gave = tt

module _ {S D L H B : Type 0} (sources : S → SourceState) (drains : D → DrainState) (g : Graph) (w : World) (a : Account (IslandNode S D L H B)) (run : IsRun sources drains w.book g a) (chose : TellsPicks w a) where
  -- what was sent on a wire from a node of which the world tells, by any outlooks with which what came to it agrees
  given_where : (sent : ℕ → Outlook) (j : ℕ) (v : Edge) (n : graph.Node) → slice_get g.wires j ≡ Some v → slice_get g.nodes v.from ≡ Some n
      → ((first now : IslandNode S D L H B) → a.firsts v.from ≡ Some first → a.nodes v.from ≡ Some now → TellsNode sources w n first now)
      → ((u : ℕ) (x : Edge) → slice_get g.wires u ≡ Some x → x.to ≡ v.from → AgreesWith (sent u) (a.near u).wire.sent) → AgreesWith (next g w sent j) (a.near j).wire.sent
  given_where sent j v n vi ni tells b =
      gives_by node_port_state (node_law sources drains w.book) node_asking node_moves (FirstOf sources g.chains) (λ x k m first now. TellsNode sources x m first now × TellsMoves x k now) g w
      (λ k m first now view took gave made told many law. node_laws sources drains g w k m first now view took gave made told many law) a run.joined run.keeps run.made sent j v n vi ni
      (λ first now fi xi. (tells first now fi xi, chose v.from now xi)) b

  -- from a node that is no source of lines and no custom stage that tells no list
  pub given_of : (sent : ℕ → Outlook) (j : ℕ) (v : Edge) (n : graph.Node) → slice_get g.wires j ≡ Some v → slice_get g.nodes v.from ≡ Some n → ((name : List ℕ) → n.kind ≢ kind.Lines name) → tells_none w.book n.kind ≡ false
      → ((u : ℕ) (x : Edge) → slice_get g.wires u ≡ Some x → x.to ≡ v.from → AgreesWith (sent u) (a.near u).wire.sent) → AgreesWith (next g w sent j) (a.near j).wire.sent
  given_of sent j v n vi ni other tells b = given_where sent j v n vi ni (λ first now fi xi. neither sources w n first now other tells) b

  -- from one that is no source of lines, where the world tells what custom stages gave
  pub given_told : TellsCustoms g w a → (sent : ℕ → Outlook) (j : ℕ) (v : Edge) (n : graph.Node) → slice_get g.wires j ≡ Some v → slice_get g.nodes v.from ≡ Some n → ((name : List ℕ) → n.kind ≢ kind.Lines name)
      → ((u : ℕ) (x : Edge) → slice_get g.wires u ≡ Some x → x.to ≡ v.from → AgreesWith (sent u) (a.near u).wire.sent) → AgreesWith (next g w sent j) (a.near j).wire.sent
  given_told gave sent j v n vi ni other b =
      given_where sent j v n vi ni (λ first now fi xi. no_lines sources w n first now other (λ x e. gave v.from n x ni (xi ∙ ap (λ (y : IslandNode S D L H B). Some y) e))) b

  -- what every node took, by any outlooks with which what was sent agrees
  pub came_of : (outlook : ℕ → Outlook) → AllAgreeWith a g outlook → (k : ℕ) (n : graph.Node) → slice_get g.nodes k ≡ Some n → AllMayPass (ports_of g w outlook k (count_from 0 (inputs_of n))) (took g a k n)
  came_of outlook agree k n e =
      inputs_pass node_port_state (node_law sources drains w.book) node_asking node_moves (FirstOf sources g.chains) (λ x k m first now. TellsNode sources x m first now × TellsMoves x k now) g w
      (λ k m first now view took gave made told many law. node_laws sources drains g w k m first now view took gave made told many law) a run.joined run.keeps run.made outlook k (count_from 0 (inputs_of n))
      (λ u v at to. list_agrees (outlook u) (a.near u).wire.sent (agree u (slice_get-below g.wires u v at)))
