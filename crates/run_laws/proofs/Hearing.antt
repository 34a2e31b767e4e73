-- What came at each input of a node is a list and an end, which is known there.
use Rattle.std.proofs.Common.{◌≡◌, ℕ, List, Option, None, Some, refl, sym, ◌∙◌, arith}
use Rattle.std.proofs.lemmas.Option.{slice_get_within}
use Rattle.elem_core.specs.Tree.{Tree}
use Rattle.elem_core.specs.declared.item.Item.{Item}
use Rattle.elem_core.specs.declared.why.Decider.TheVariants.{Stop}
use Rattle.port_core.specs.View.{View}
use Rattle.stream_io.specs.State.{SourceState, DrainState}
use Rattle.nodes.specs.declared.node.IslandNode.{IslandNode}
use Rattle.nodes.specs.declared.node.IslandNode.TheVariants.{Reading, Making, Linear, State, Sub, FanIn, FanOut, Custom, Writing, Ignoring, Entering, Leaving}
use Rattle.nodes.specs.Nodes.{node_law}
use Rattle.stream_model.specs.Graph as graph
use Rattle.stream_model.specs.Linear.{Book}
use Rattle.graph_stage.proofs.Passing.{inputs_pass}
use Rattle.run_laws.specs.KindLaws.{HearsAll}
use Rattle.stream_model.specs.Outlook.{End}
use Rattle.stream_model.specs.FanIn.{Inflow}
use Rattle.stage_core.specs.PortsLaws.{InPortsLaw}
use Rattle.stage_state.specs.declared.logic.StateLogic.{StateLogic}
use Rattle.stage_state.specs.declared.logic.StateLogic.TheVariants.{Machine, Dropping, Recovering, Obeying, Tripping}
use Rattle.stage_state.specs.Handling.{StateLaw}
use Rattle.line_chain.specs.Line.{Line, line_whole, line_rest, line_is_open}
use Rattle.stage_sub.specs.Leds.{Led}
use Rattle.stage_sub.specs.LedLaws.{SubsLaw}
use Rattle.fused_net.proofs.Reading.{get_there}
use Rattle.run_laws.proofs.InRuns.{in_hears, at_index}
use Rattle.run_laws.proofs.OutStages.{out_hears}
use Rattle.run_laws.specs.Made.{FirstOf, FirstSub}
use Rattle.run_laws.proofs.Ports.{none_at, heard_one}
use Rattle.run_laws.proofs.Subs.{sub_hears}
use Rattle.run_laws.proofs.LedSubs.{some_followed, own_law}

-- the law by ports tells what came at each input
ports_hear : (K : List Inflow → List Tree → End → Type 0) (v : View) (took gave : List (List Item)) → InPortsLaw K v took gave → HearsAll v took
ports_hear K v took gave law p h at =
    let l = law.law in
    let within = slice_get_within took p h at in
    let ports = l.ports in
    let histories = law.ports in
    let f = get_there l.ins p (omega (arith, within, ports, histories)) in
    record { list = f.0.list; end = f.0.end; is = sym (at_index took p h at) ∙ l.took_is p f.0 f.1; as_seen = l.took_as p f.0 f.1 }

state_hears : (book : Book) (first now : StateLogic) (v : View) (took gave : List (List Item)) → StateLaw first now v took gave → HearsAll v took
state_hears book (Machine first) (Machine now) v took gave law p h at =
    let its = law.law book in heard_one v took law.took_list law.took_is (record { list = its.in_list; end = its.in_end; is = its.took_is; as_seen = its.took_as }) p h at
state_hears book (Dropping first) (Dropping now) v took gave law p h at = ports_hear _ v took gave law.by p h at
state_hears book (Recovering first) (Recovering now) v took gave law p h at = ports_hear _ v took gave law.by p h at
state_hears book (Obeying first) (Obeying now) v took gave law p h at = ports_hear _ v took gave law.by p h at
state_hears book (Tripping first) (Tripping now) v took gave law p h at =
    let its = law.law book Stop in heard_one v took law.took_list law.took_is (record { list = its.in_list; end = its.in_end; is = its.took_is; as_seen = its.took_as }) p h at
state_hears book first now v took gave law p h at = absurd law

-- a stage with substreams, by what it follows
subs_hear : (chains : List graph.Chain) (k : ℕ) (n : graph.Node) (first now : Led Line) (v : View) (took gave : List (List Item)) → FirstSub chains k n first → SubsLaw line_rest line_is_open line_whole first now v took gave → (l : Option (List ℕ)) → first.left ≡ l → HearsAll v took
subs_hear chains k n first now v took gave made law None e p h at = sub_hears k n first.logic now.logic v took gave made.begins.as_kind (law.unled e).1.1 p h at
subs_hear chains k n first now v took gave made law (Some l) e p h at = let follows = some_followed first.left l e in ports_hear _ v took gave (own_law chains k n first made follows now v took gave (law.led follows)) p h at

module _ {S D L H B : Type 0} (sources : S → SourceState) (drains : D → DrainState) (book : Book) (chains : List graph.Chain) (k : ℕ) (n : graph.Node) where
  pub node_hears : (first now : IslandNode S D L H B) (v : View) (took gave : List (List Item)) → FirstOf sources chains k n first → node_law sources drains book first now v took gave → HearsAll v took
  node_hears (Reading first) (Reading now) v took gave made law p h at = absurd (none_at took p h law.took_is at)
  node_hears (Making first) (Making now) v took gave made law p h at = absurd (none_at took p h law.took_is at)
  node_hears (Linear first) (Linear now) v took gave made law p h at =
      let its = law.law in heard_one v took law.took_list law.took_is (record { list = its.in_list; end = its.in_end; is = its.took_is; as_seen = its.took_as }) p h at
  node_hears (State first) (State now) v took gave made law p h at = state_hears book first now v took gave law p h at
  node_hears (Sub first) (Sub now) v took gave made law p h at = subs_hear chains k n first now v took gave made law first.left refl p h at
  node_hears (FanIn first) (FanIn now) v took gave made law p h at = in_hears first now v took gave law p h at
  node_hears (FanOut first) (FanOut now) v took gave made law p h at = out_hears book k n.kind first now v took gave made.begins law p h at
  node_hears (Custom first) (Custom now) v took gave made law p h at =
      let q = (inputs_pass first now v took gave law).1 p h at in
      record { list = q.list; end = q.end; is = q.is; as_seen = q.ends }
  node_hears (Writing first) (Writing now) v took gave made law p h at = heard_one v took _ law.took_is (record { list = law.elems; end = law.in_end; is = refl; as_seen = law.took_as }) p h at
  node_hears (Ignoring first) (Ignoring now) v took gave made law p h at = heard_one v took _ law.took_is (record { list = law.elems; end = law.in_end; is = refl; as_seen = law.took_as }) p h at
  node_hears (Entering first) now v took gave made law p h at = absurd made
  node_hears (Leaving first) now v took gave made law p h at = absurd made
  node_hears first now v took gave made law p h at = absurd law
