-- What a stage with substreams gives of its law for a picture. Its machine gives as many elements as the one that joins its
-- substreams: the numbers of its outputs' substreams are left out there.
use Rattle.std.proofs.Common.{◌≡◌, ◌≢◌, ◌⊎◌, inl, inr, ℕ, ◌-◌, ◌<◌, ◌≤◌, Bool, true, false, List, [], ◌∷◌, length, take, Some, None, refl, sym, ap, ◌∙◌, subst}
use Rattle.std.proofs.lemmas.List.{length-map}
use Rattle.elem_core.specs.Tree.{Tree}
use Rattle.elem_core.specs.Items.{elements}
use Rattle.elem_core.specs.declared.item.Item.{Item}
use Rattle.port_core.specs.View.{View, in_at, out_at}
use Rattle.port_core.specs.declared.view.InView.{InView}
use Rattle.port_core.specs.declared.view.InView.TheVariants.{Idle, Pulled, Finished}
use Rattle.port_core.specs.declared.view.OutView.{OutView}
use Rattle.port_core.specs.declared.view.OutView.TheVariants.{Unpulled, Available}
use Rattle.stream_io.specs.State.{SourceState, DrainState}
use Rattle.stream_model.specs.declared.kind.Joining.{Joining}
use Rattle.stream_model.specs.declared.kind.Joining.TheVariants as joining
use Rattle.stream_model.specs.FanIn.{Tagged}
use Rattle.stream_model.specs.Graph.{Graph, steps_of}
use Rattle.stream_model.specs.Graph as graph
use Rattle.stream_model.specs.Machine.{Run, Machine, Given, is_going, run, close}
use Rattle.stream_model.specs.Node.{World, chain_of}
use Rattle.stream_model.specs.Outlook.{End, ended}
use Rattle.stream_model.specs.Substreams.{Opening, Subs, substreams, begin_subs}
use Rattle.stream_model.specs.Lawful.{StageLawful, SubsLawful}
use Rattle.stream_model.specs.OneWay.{OneWay, of_machine}
use Rattle.stream_model.specs.Rests.{IsShut, StageRests, RowRests}
use Rattle.stream_model.specs.View.{EachWire, demand, wanted}
use Rattle.stream_model.specs.View as picture
use Rattle.stage_core.specs.Law.{Law}
use Rattle.stage_core.specs.Row.{InClosed, OutClosed}
use Rattle.stage_core.specs.declared.phase.Phase.{Phase}
use Rattle.stage_core.specs.declared.phase.Phase.TheVariants.{New, Open, Closed}
use Rattle.step_work.specs.LineChains.{list_function}
use Rattle.stage_sub.specs.Joined.{untag, joined_machine}
use Rattle.stage_sub.specs.KeptSubs.{opening_of}
use Rattle.stage_sub.specs.States.{Logic, port_state_in}
use Rattle.stage_sub.specs.Handling.{SubPortState, SubLaw, TellsMachine, new_log}
use Rattle.stage_sub.specs.Leds.{Led}
use Rattle.stage_sub.specs.LedLaws.{LedPortState, SubsLaw}
use Rattle.stage_sub.proofs.Rows.{waiting_gave}
use Rattle.stage_sub.proofs.Untagging.{run_untag, closed_untag}
use Rattle.line_chain.specs.Line.{Line, line_whole, line_rest, line_is_open}
use Rattle.nodes.specs.declared.node.IslandNode.{IslandNode}
use Rattle.nodes.specs.declared.node.IslandNode.TheVariants.{Sub}
use Rattle.nodes.specs.Nodes.{node_port_state, node_law, node_asking, node_moves}
use Rattle.run_laws.specs.KindLaws.{Moments, PictureLaws}
use Rattle.run_laws.specs.Ports.{InPort, OutPort, InStands, OutStands, InRests, OutRests, views_of, gots_of, sents_of}
use Rattle.run_laws.specs.Made.{FirstSub, chain_name}
use Rattle.run_laws.proofs.Coming.{elements_told}
use Rattle.run_laws.proofs.Subs.{SubFirst, sub_first, yields_of, tells_of, logs_on, unled_ports}
use Rattle.run_laws.specs.Picture.{sink_ended}
use Rattle.run_laws.proofs.MachineRows.{stage_given, stage_asked, waited_rests, idles}
use Rattle.run_laws.proofs.OnePorts.{one_same, began, given_one, reached, not_both}
use Rattle.run_laws.proofs.PictureStages.{closed_both, law_at, Waited}

-- ---- what its row says

-- it waits and was asked, nobody asks it, it holds outputs behind the end of its input, or all is closed
data SubPorts (x : InView) (y : OutView) : Type 0 where
  busy : x ≡ Pulled → y ≡ Available → SubPorts x y
  free : x ≡ Idle → y ≡ Unpulled → SubPorts x y
  left : x ≡ Finished → y ≡ Unpulled → SubPorts x y
  gone : InClosed x → OutClosed y → SubPorts x y

sub_ports : (p : Phase) (over asked : Bool) (h : List Tagged) (x : InView) (y : OutView) → p ≢ New → port_state_in p over asked h x y → SubPorts x y
sub_ports New over asked h x y n r = absurd (n refl)
sub_ports Closed over asked h x y n r = let c = closed_both x y r in gone c.0 c.1
sub_ports Open false true h Pulled Available n r = busy refl refl
sub_ports Open false false h Idle Unpulled n r = free refl refl
sub_ports Open true false h Finished Unpulled n r = left refl refl
sub_ports p over asked h x y n r = absurd r

-- ---- two stages that give as many elements have the same rows

pub record Alike (a b : OneWay) : Type 0 where
  pub given : (l : List Tree) → a.given l ≡ b.given l
  pub given_at_end : (l : List Tree) → a.given_at_end l ≡ b.given_at_end l
  pub goes_on : (l : List Tree) → a.goes_on l ≡ b.goes_on l
  pub holds : a.holds ≡ b.holds

module _ (a b : OneWay) (s : Alike a b) (i o : picture.SeenWire) where
  pub alike_lawful : StageLawful a i o → StageLawful b i o
  alike_lawful h = (
    rw (← s.given (take i.sent i.list), ← s.given_at_end (take i.sent i.list)) h.0,
    λ some. (
      sym (s.goes_on (take (demand i - 1) i.list)) ∙ (h.1 some).0,
      subst (λ n. n < wanted o) (s.given (take (demand i - 1) i.list)) (h.1 some).1,
    ),
  )

  pub alike_rests : StageRests a i o → StageRests b i o
  alike_rests (inl h) = inl (h.0, h.1, h.2 ∙ s.given (take i.sent i.list))
  alike_rests (inr (inl h)) = inr (inl h)
  alike_rests (inr (inr h)) = inr (inr (sym s.holds ∙ h.0, h.1, h.2))

-- so have the machine of substreams and the one that joins them
pub joined_alike : (yields : List Tree → End → Given Tree) (o : Opening) (start : Run Subs Tagged) → Alike (of_machine (joined_machine yields o) (untag start) true) (of_machine (substreams yields o) start true)
joined_alike yields o start = record {
  given = λ l. ap (λ (y : Run Subs Tree). length y.gave) (run_untag yields o start l) ∙ length-map (run (substreams yields o) start l).gave (λ (x : Tagged). x.item);
  given_at_end = λ l. ap (λ (y : Given Tree). length y.list) (closed_untag yields o start l ended) ∙ length-map (close (substreams yields o) (run (substreams yields o) start l) ended).list (λ (x : Tagged). x.item);
  goes_on = λ l. ap (λ (y : Run Subs Tree). is_going y.state) (run_untag yields o start l);
  holds = refl;
}

-- ---- the node

module _ {S D : Type 0} (L H B : Type 0) (sources : S → SourceState) (drains : D → DrainState) (g : Graph) (w : World) (k : ℕ) (n : graph.Node) where
  -- its kind stays the same
  record SubNow (first : Logic Line) (v : View) (took gave : List (List Item)) : Type 0 where
    now : Logic Line
    port_state_holds : SubPortState line_rest line_is_open now v
    law_holds : SubLaw line_rest line_is_open line_whole first now v took gave

  sub_now : (first : Led Line) → first.left ≡ None → (x : IslandNode S D L H B) (v : View) (took gave : List (List Item)) → node_port_state x v → node_law sources drains w.book (Sub first) x v took gave → SubNow first.logic v took gave
  sub_now first plain (Sub x) v took gave r law = let u = law.unled plain in record { now = x.logic; port_state_holds = unled_ports x v u.0 r; law_holds = u.1.1 }
  sub_now first plain x v took gave r law = absurd law

  abbrev Laws : IslandNode S D L H B → IslandNode S D L H B → List InPort → List OutPort → Type 0
  Laws first x is os = PictureLaws node_port_state (node_law sources drains w.book) node_asking node_moves sink_ended g w k n first x is os

  module _ (led : Led Line) (plain : led.left ≡ None) (made : FirstSub g.chains k n led) where
    abbrev first : Logic Line
    first = led.logic

    f : SubFirst k n.kind first.chain first
    f = sub_first k n.kind first.chain first made.begins.as_kind

    abbrev yields : List Tree → End → Given Tree
    yields = yields_of g w k n.kind

    abbrev m : Machine Subs Tree
    m = joined_machine yields (opening_of first.how)

    abbrev start : Run Subs Tree
    start = untag (begin_subs yields k)

    -- its law, by the chain that its kind names
    tells_at : (now : Logic Line) (v : View) (took gave : List (List Item)) → (law : SubLaw line_rest line_is_open line_whole first now v took gave)
        → TellsMachine line_rest line_is_open (list_function w.book (chain_of k (steps_of (chain_name n.kind) g.chains))) yields (begin_subs yields k) first now v law.took_list law.gave_list
    tells_at now v took gave law = tells_of k first now v took gave f.how f.join f.is law w.book (steps_of (chain_name n.kind) g.chains) made.line

    -- one that waits was asked, and gave all that its machine gives
    waits_at : (now : Logic Line) (v : View) (took gave : List (List Item)) → SubPortState line_rest line_is_open now v → SubLaw line_rest line_is_open line_whole first now v took gave → in_at v 0 ≡ Pulled
        → (out_at v 0 ≡ Available) × ((t h : List Item) → took ≡ t ∷ [] → gave ≡ h ∷ [] → Waited m start t h)
    waits_at now v took gave r law waits =
        let its = tells_at now v took gave law in
        let all = waiting_gave line_rest line_is_open (list_function w.book (chain_of k (steps_of (chain_name n.kind) g.chains))) yields m start law.took_list law.gave_list now its.held v r.started its.owes r.ports waits its.law in (
          all.asked,
          λ t h ti gi. record {
            in_list = its.law.in_list;
            in_end = its.law.in_end;
            out_list = its.law.out_list;
            out_end = its.law.out_end;
            all = its.law.out_list;
            state = all.state;
            took_is = one_same t law.took_list (sym ti ∙ law.took_is) ∙ its.law.took_is;
            gave_is = one_same h law.gave_list (sym gi ∙ law.gave_is) ∙ its.law.gave_is;
            count = refl;
            runs = all.runs;
          },
        )

    -- the rows of its kind
    lawful_by : (i o : picture.SeenWire) → StageLawful (of_machine m start true) i o → StageLawful (of_machine (substreams yields (opening_of f.how)) (begin_subs yields k) true) i o
    lawful_by i o h =
        subst (λ (q : Opening). StageLawful (of_machine (substreams yields q) (begin_subs yields k) true) i o) (ap (λ (x : Logic Line). opening_of x.how) f.is)
        (alike_lawful _ _ (joined_alike yields (opening_of first.how) (begin_subs yields k)) i o h)

    rests_by : (i o : picture.SeenWire) → StageRests (of_machine m start true) i o → StageRests (of_machine (substreams yields (opening_of f.how)) (begin_subs yields k) true) i o
    rests_by i o h =
        subst (λ (q : Opening). StageRests (of_machine (substreams yields q) (begin_subs yields k) true) i o) (ap (λ (x : Logic Line). opening_of x.how) f.is)
        (alike_rests _ _ (joined_alike yields (opening_of first.how) (begin_subs yields k)) i o h)

    module _ (x : Led Line) (told_moves : (ms : List ℕ) → x.logic.moves ≡ Some ms → w.moves k ≡ ms) (i : InPort) (o : OutPort) (r : SubPortState line_rest line_is_open x.logic (record { ins = i.view ∷ []; outs = o.view ∷ [] }))
        (law : SubLaw line_rest line_is_open line_whole first x.logic (record { ins = i.view ∷ []; outs = o.view ∷ [] }) (i.got ∷ []) (o.sent ∷ [])) where
      its : TellsMachine line_rest line_is_open (list_function w.book (chain_of k (steps_of (chain_name n.kind) g.chains))) yields (begin_subs yields k) first x.logic (record { ins = i.view ∷ []; outs = o.view ∷ [] }) law.took_list law.gave_list
      its = tells_at x.logic _ _ _ law

      at : Law m start its.held i.view o.view i.got o.sent
      at = law_at m start _ its.held _ i.view _ o.view _ law.took_list i.got law.gave_list o.sent refl refl refl refl (one_same _ _ (sym law.took_is)) (one_same _ _ (sym law.gave_is)) its.law

      asked_then : InStands i → OutStands o → Moments {N = IslandNode S D L H B} node_port_state (node_law sources drains w.book) node_asking node_moves (Sub led) (Sub x) (i ∷ []) (o ∷ []) 0 → 1 ≤ demand i.wire
          → (is_going (run m start (take (demand i.wire - 1) i.wire.list)).state ≡ true) × (length (run m start (take (demand i.wire - 1) i.wire.list)).gave < wanted o.wire)
      asked_then si so last some =
          let e = last.0 in
          let l = sub_now led plain e.old e.knew e.had e.given e.port_state_held e.law_held in
          let s = waits_at l.now e.knew e.had e.given l.port_state_holds l.law_holds e.waited in
          let b = began e.had i.got i.want e.took_on e.one_more in
          let q = given_one e.given o.sent o.want e.gave_on (e.wants 0 s.0) in
          stage_asked m start i o si so at.in_list at.in_end at.took_is b.part q.0 (s.1 b.part q.0 b.is q.1.0) b.begins b.one_more q.1.1.1 some

      -- it gave an element for each move
      moves_by : (j : Joining) → first.moves ≡ new_log j → OutStands o → SubsLawful j (w.moves k) i.wire o.wire
      moves_by joining.Merge m so =
          let log = logs_on first.moves x.logic.moves law.chooses m in
          let gave_told = one_same o.sent law.gave_list law.gave_is ∙ its.law.gave_is in
          so.count ∙ (ap elements gave_told ∙ (elements_told its.law.out_list its.law.out_end ∙ (sym (its.counts log.0 log.1) ∙ ap length (sym (told_moves log.0 log.1)))))
      moves_by joining.Concat m so = tt

      abbrev Still : Type 0
      Still = (EachWire IsShut (i.wire ∷ []) × EachWire IsShut (o.wire ∷ [])) ⊎ RowRests g w k n.kind n.decider (i.wire ∷ []) (o.wire ∷ [])

      by_row : StageRests (of_machine m start true) i.wire o.wire → Still
      by_row h = inr (f.kind.rests g w k n.decider (i.wire ∷ []) (o.wire ∷ []) (rests_by i.wire o.wire h))

      still : InStands i → OutStands o → InRests i → OutRests o → SubPorts i.view o.view → Still
      still si so ri ro (busy xi yo) = by_row (inl (waited_rests m start i o si so ri ro ((waits_at x.logic _ _ _ r law xi).1 i.got o.sent refl refl) xi yo))
      still si so ri ro (free xi yo) = by_row (inr (inl (ro.unasked yo, idles i ri xi)))
      still si so ri ro (left xi yo) = by_row (inr (inr (refl, ro.unasked yo, ri.shut (subst InClosed (sym xi) tt))))
      still si so ri ro (gone xi yo) = inl ((ri.shut xi, tt), (ro.shut yo, tt))

      one_picture : Laws (Sub led) (Sub x) (i ∷ []) (o ∷ [])
      one_picture = record {
        lawful = λ si so last. f.kind.lawful g w k n.decider (i.wire ∷ []) (o.wire ∷ []) (lawful_by i.wire o.wire (
          stage_given m start its.held i o at si.0 so.0,
          λ some. asked_then si.0 so.0 (last 0 (reached i si.0 some)) some,
        )) (moves_by f.join (ap (λ (l : Logic Line). l.moves) f.is) so.0);
        rests = λ si so ri ro. still si.0 so.0 ri.0 ro.0 (sub_ports x.logic.phase x.logic.over x.logic.asked x.logic.pending i.view o.view r.started r.ports);
        matches = λ sink ri. absurd (not_both f.kind.no_sink sink);
      }

  pub sub_picture : (first x : Led Line) (is : List InPort) (os : List OutPort) → first.left ≡ None → FirstSub g.chains k n first → ((ms : List ℕ) → x.logic.moves ≡ Some ms → w.moves k ≡ ms) → LedPortState line_rest line_is_open x (views_of is os)
      → SubsLaw line_rest line_is_open line_whole first x (views_of is os) (gots_of is) (sents_of os) → Laws (Sub first) (Sub x) is os
  sub_picture first x is os plain made told_moves r law = let u = law.unled plain in by_ports is os (unled_ports x (views_of is os) u.0 r) u.1.1
    where
      by_ports : (is : List InPort) (os : List OutPort) → SubPortState line_rest line_is_open x.logic (views_of is os) → SubLaw line_rest line_is_open line_whole first.logic x.logic (views_of is os) (gots_of is) (sents_of os) → Laws (Sub first) (Sub x) is os
      by_ports (i ∷ []) (o ∷ []) p l = one_picture first plain made x told_moves i o p l
      by_ports [] os p l = absurd p.ports
      by_ports (i ∷ []) [] p l = absurd p.ports
      by_ports (i ∷ []) (o ∷ q ∷ os) p l = absurd p.ports
      by_ports (i ∷ j ∷ is) os p l = absurd p.ports
