-- What a node of any kind gives of its law for a picture. A kind more is one line more.
use Rattle.std.proofs.Common.{◌≡◌, ◌∙◌, ℕ, List, Option, None, Some, map, refl, sym, ap, subst}
use Rattle.stream_io.specs.State.{SourceState, DrainState}
use Rattle.stream_model.specs.declared.kind.Kind.{Kind}
use Rattle.stream_model.specs.declared.kind.Kind.TheVariants as kind
use Rattle.stream_model.specs.Graph.{Graph}
use Rattle.stream_model.specs.Graph as graph
use Rattle.stream_model.specs.Node.{World}
use Rattle.nodes.specs.declared.node.IslandNode.{IslandNode}
use Rattle.nodes.specs.declared.node.IslandNode.TheVariants.{Reading, Making, Linear, State, Sub, FanIn, FanOut, Custom, Writing, Ignoring, Entering, Leaving}
use Rattle.nodes.specs.declared.sink.Writes.TheVariants.{First}
use Rattle.nodes.specs.Kinds.{writes_of}
use Rattle.nodes.specs.Nodes.{node_port_state, node_law, node_asking, node_moves, node_plan}
use Rattle.nodes.specs.Sink.{sink_port_state_in}
use Rattle.nodes.specs.Ignoring.{ignore_port_state_in}
use Rattle.run_laws.specs.KindLaws.{PictureLaws, PictureLawsBy}
use Rattle.run_laws.specs.Replayed.{Plans}
use Rattle.stage_state.specs.declared.logic.StateLogic.{StateLogic}
use Rattle.stage_state.specs.Moves.{state_plan}
use Rattle.port_core.specs.Picks.{plan_of}
use Rattle.line_chain.specs.Line.{Line}
use Rattle.stage_sub.specs.Leds.{Led, made_moves, sub_plan}
use Rattle.run_laws.specs.Ports.{InPort, OutPort, views_of}
use Rattle.run_laws.specs.Made.{FirstOf}
use Rattle.run_laws.specs.Telling.{TellsMoves}
use Rattle.run_laws.specs.Picture.{sink_ended}
use Rattle.run_laws.proofs.CustomRows.{custom_picture}
use Rattle.run_laws.proofs.EndRows.{SourceRows, maker_rows, lines_rows, SinkRows, file_sink_rows, ignore_rows, first_wants, source_picture, sink_picture}
use Rattle.run_laws.proofs.ByPlan.{in_by_plan, out_by_plan}
use Rattle.run_laws.proofs.Freely.{freely}
use Rattle.run_laws.proofs.Led.{led_state}
use Rattle.run_laws.proofs.FanRows.{fan_in_picture, fan_out_picture}
use Rattle.run_laws.proofs.LinearRows.{linear_picture}
use Rattle.run_laws.proofs.StateRows.{state_picture}
use Rattle.run_laws.proofs.SubRows.{sub_picture}
use Rattle.run_laws.proofs.LedSubs.{some_followed, subs_picture}
use Rattle.run_laws.proofs.PictureStages.{sink_ports, ignore_ports}

module _ {S D L H B : Type 0} (sources : S → SourceState) (drains : D → DrainState) (g : Graph) (w : World) (plans : Plans) (k : ℕ) (n : graph.Node) where
  abbrev Own : IslandNode S D L H B → IslandNode S D L H B → List InPort → List OutPort → Type 0
  Own first x is os = PictureLaws node_port_state (node_law sources drains w.book) node_asking node_moves sink_ended g w k n first x is os

  abbrev Tells : IslandNode S D L H B → IslandNode S D L H B → List InPort → List OutPort → Type 0
  Tells first x is os = PictureLawsBy node_port_state (node_law sources drains w.book) node_asking node_moves sink_ended g w plans k n first x is os

  -- one that follows no moves
  own : (first x : IslandNode S D L H B) (is : List InPort) (os : List OutPort) → plans k ≡ None → Own first x is os → Tells first x is os
  own first x is os free p = freely g w plans k free node_port_state (node_law sources drains w.book) node_asking node_moves sink_ended n first x is os p

  -- a stage with state, by what it follows
  abbrev as_state : StateLogic → IslandNode S D L H B
  as_state l = State l

  state_by_plan : (first x : StateLogic) (is : List InPort) (os : List OutPort) (plan : Option (List ℕ)) → state_plan first ≡ plan → plans k ≡ state_plan first → FirstOf sources g.chains k n (as_state first) → TellsMoves w k (as_state x)
      → node_port_state (as_state x) (views_of is os) → node_law sources drains w.book (as_state first) (as_state x) (views_of is os) (map (λ (i : InPort). i.got) is) (map (λ (o : OutPort). o.sent) os) → Tells (as_state first) (as_state x) is os
  state_by_plan first x is os None e same f t r law = own (State first) (State x) is os (same ∙ e) (state_picture L H B sources drains g w k n first x is os f e t r law)
  state_by_plan first x is os (Some plan) e same f t r law = led_state L H B sources drains g w plans k n first x is os plan (same ∙ e) f e t r law

  -- a stage with substreams, by what it follows
  abbrev as_subs : Led Line → IslandNode S D L H B
  as_subs l = Sub l

  subs_by_plan : (first x : Led Line) (is : List InPort) (os : List OutPort) (l : Option (List ℕ)) → first.left ≡ l → plans k ≡ sub_plan first → FirstOf sources g.chains k n (as_subs first) → TellsMoves w k (as_subs x)
      → node_port_state (as_subs x) (views_of is os) → node_law sources drains w.book (as_subs first) (as_subs x) (views_of is os) (map (λ (i : InPort). i.got) is) (map (λ (o : OutPort). o.sent) os) → Tells (as_subs first) (as_subs x) is os
  subs_by_plan first x is os None e same f t r law = own (Sub first) (Sub x) is os (same ∙ ap (plan_of (made_moves first)) e) (sub_picture L H B sources drains g w k n first x is os e f t r law)
  subs_by_plan first x is os (Some l) e same f t r law = let follows = some_followed first.left l e in subs_picture g w k n first f follows L H B sources drains plans x is os (same ∙ sym law.plan) t r (law.led follows)

  pub node_picture : (first x : IslandNode S D L H B) (is : List InPort) (os : List OutPort) → plans k ≡ node_plan first → FirstOf sources g.chains k n first → TellsMoves w k x → node_port_state x (views_of is os)
      → node_law sources drains w.book first x (views_of is os) (map (λ (i : InPort). i.got) is) (map (λ (o : OutPort). o.sent) os)
      → Tells first x is os
  node_picture (Reading first) (Reading x) is os same f t r law = own (Reading first) (Reading x) is os same (source_picture L H B sources drains g w k n (Reading first) (Reading x) x.phase is os (subst (λ (kd : Kind). SourceRows g w kd) (sym f.kind_is) (lines_rows g w f.name)) r)
  node_picture (Making first) (Making x) is os same f t r law = own (Making first) (Making x) is os same (source_picture L H B sources drains g w k n (Making first) (Making x) x.phase is os (maker_rows g w n.kind f.is_maker) r)
  node_picture (Linear first) (Linear x) is os same f t r law = own (Linear first) (Linear x) is os same (linear_picture L H B sources drains g w k n first x is os f r law)
  node_picture (State first) (State x) is os same f t r law = state_by_plan first x is os (state_plan first) refl same f t r law
  node_picture (Sub first) (Sub x) is os same f t r law = subs_by_plan first x is os first.left refl same f t r law
  node_picture (FanIn first) (FanIn x) is os same f t r law = fan_in_picture sources drains g w plans k n first x is os (in_by_plan g w plans k n first x is os f.begins t same r law)
  node_picture (FanOut first) (FanOut x) is os same f t r law = fan_out_picture sources drains g w plans k n first x is os (out_by_plan g w plans k n first x is os f.begins t same r law)
  node_picture (Custom first) (Custom x) is os same f t r law = own (Custom first) (Custom x) is os same (custom_picture S D L H B sources drains g w k n first x is os f law)
  node_picture (Writing first) (Writing x) is os same f t r law =
      own (Writing first) (Writing x) is os same (sink_picture L H B sources drains g w k n (Writing first) (Writing x) (writes_of n.kind ≡ First) (sink_port_state_in x.started x.end) is os (file_sink_rows g w n.kind f.is_sink) r (sink_ports x.started x.end)
      (λ i ii oo s m is_first. first_wants L H B sources drains g w k n first x i (f.writes ∙ is_first) s m))
  node_picture (Ignoring first) (Ignoring x) is os same f t r law =
      own (Ignoring first) (Ignoring x) is os same (sink_picture L H B sources drains g w k n (Ignoring first) (Ignoring x) ⊥ (ignore_port_state_in x.started x.end) is os (subst (λ (kd : Kind). SinkRows g w kd ⊥) (sym f.kind_is) (ignore_rows g w)) r (ignore_ports x.started x.end)
      (λ i ii oo s m none. absurd none))
  node_picture (Entering first) x is os same f t r law = absurd f
  node_picture (Leaving first) x is os same f t r law = absurd f
  node_picture first x is os same f t r law = absurd law
