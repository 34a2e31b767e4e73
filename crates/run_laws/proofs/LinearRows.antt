-- What a linear stage gives of its law for a picture, and any node that is one.
use Rattle.std.proofs.Common.{◌≡◌, ◌⊎◌, inl, inr, ℕ, ◌-◌, ◌<◌, ◌≤◌, Bool, true, Some, if◌then◌else◌, List, [], ◌∷◌, length, take, map, refl, sym, ap, ◌∙◌, subst, arith}
use Rattle.elem_core.specs.declared.item.Item.{Item}
use Rattle.port_core.specs.View.{View, in_at, out_at}
use Rattle.port_core.specs.declared.view.InView.{InView}
use Rattle.port_core.specs.declared.view.InView.TheVariants.{Pulled}
use Rattle.port_core.specs.declared.view.OutView.{OutView}
use Rattle.port_core.specs.declared.view.OutView.TheVariants.{Available}
use Rattle.stream_io.specs.State.{SourceState, DrainState}
use Rattle.stream_model.specs.declared.kind.Kind.{Kind}
use Rattle.stream_model.specs.declared.kind.Kind.TheVariants.{Map, Filter, FilterNot, Take, TakeWhile, Drop, DropWhile, Limit, MapConcat, Plug}
use Rattle.stream_model.specs.Graph.{Graph}
use Rattle.stream_model.specs.Graph as graph
use Rattle.stream_model.specs.Linear.{Book, Stage, Work, linear, begin_work, work_of}
use Rattle.stream_model.specs.Machine.{Machine, is_going, run}
use Rattle.stream_model.specs.Node.{World}
use Rattle.stream_model.specs.OneWay.{holds_at_end}
use Rattle.stream_model.specs.Rests.{IsShut, RowRests}
use Rattle.stream_model.specs.View.{EachWire, demand, wanted}
use Rattle.elem_core.specs.Tree.{Tree}
use Rattle.stage_core.specs.Law.{Law}
use Rattle.stage_core.specs.Row.{InClosed}
use Rattle.stage_core.specs.declared.phase.Phase.TheVariants.{Open}
use Rattle.stage_linear.specs.declared.course.Course.TheVariants.{Waits}
use Rattle.stage_linear.specs.States.{Logic, held, port_state_in, IsLinear}
use Rattle.nodes.specs.declared.node.IslandNode.{IslandNode}
use Rattle.nodes.specs.declared.node.IslandNode.TheVariants.{Linear}
use Rattle.stage_linear.specs.Handling.{LinearPortState, LinearLaw}
use Rattle.nodes.specs.Nodes.{node_port_state, node_law, node_asking, node_moves}
use Rattle.run_laws.specs.KindLaws.{IsOneMachine, Moments, PictureLaws}
use Rattle.run_laws.specs.Ports.{InPort, OutPort, InStands, OutStands, InRests, OutRests}
use Rattle.run_laws.specs.Made.{FirstLinear}
use Rattle.run_laws.proofs.Machines.{linear_machine}
use Rattle.run_laws.specs.Picture.{sink_ended}
use Rattle.run_laws.proofs.MachineRows.{stage_given, stage_asked, waited_rests, idles}
use Rattle.run_laws.proofs.OnePorts.{one_views, one_same, began, given_one, reached, not_both}
use Rattle.run_laws.proofs.PictureStages.{LinearPorts, busy, free, behind, over, linear_ports, law_at, same_start, Waited, linear_waited}

-- of the linear kinds, one that may lose the outputs of an element may hold them behind the end of its input
some_work : (a b : Work) → Some a ≡ Some b → a ≡ b
some_work a b e = cc

holds_first : (book : Book) (kd : Kind) (wk : Work) → IsLinear kd → work_of kd ≡ Some wk → (linear book wk).hold ≡ 1 → holds_at_end wk ≡ true
holds_first book (Map f) wk h e one = let no : 0 ≡ 1 = subst (λ (x : Work). (linear book x).hold ≡ 1) (sym (some_work _ wk e)) one in absurd (omega (arith, no))
holds_first book (Filter f) wk h e one = let no : 0 ≡ 1 = subst (λ (x : Work). (linear book x).hold ≡ 1) (sym (some_work _ wk e)) one in absurd (omega (arith, no))
holds_first book (FilterNot f) wk h e one = let no : 0 ≡ 1 = subst (λ (x : Work). (linear book x).hold ≡ 1) (sym (some_work _ wk e)) one in absurd (omega (arith, no))
holds_first book (Take f) wk h e one = let no : 0 ≡ 1 = subst (λ (x : Work). (linear book x).hold ≡ 1) (sym (some_work _ wk e)) one in absurd (omega (arith, no))
holds_first book (TakeWhile f) wk h e one = let no : 0 ≡ 1 = subst (λ (x : Work). (linear book x).hold ≡ 1) (sym (some_work _ wk e)) one in absurd (omega (arith, no))
holds_first book (Drop f) wk h e one = let no : 0 ≡ 1 = subst (λ (x : Work). (linear book x).hold ≡ 1) (sym (some_work _ wk e)) one in absurd (omega (arith, no))
holds_first book (DropWhile f) wk h e one = let no : 0 ≡ 1 = subst (λ (x : Work). (linear book x).hold ≡ 1) (sym (some_work _ wk e)) one in absurd (omega (arith, no))
holds_first book (Limit f) wk h e one = let no : 0 ≡ 1 = subst (λ (x : Work). (linear book x).hold ≡ 1) (sym (some_work _ wk e)) one in absurd (omega (arith, no))
holds_first book (MapConcat x) wk h e one = subst (λ (z : Work). holds_at_end z ≡ true) (some_work _ wk e) refl
holds_first book (Plug name) wk h e one = subst (λ (z : Work). holds_at_end z ≡ true) (some_work _ wk e) refl
holds_first book _ wk h e one = absurd h

-- one that waits was asked, and is open
waits_busy : (l : Logic) (x : InView) (y : OutView) → LinearPorts l.phase l.course l.pending l.stage.work x y → x ≡ Pulled → (l.phase ≡ Open) × ((y ≡ Available) × ((l.course ≡ Waits) × (l.pending ≡ [])))
waits_busy l x y (busy po on none xi yo) e = (po, (yo, (on, none)))
waits_busy l x y (behind sp xi yo) e = cc
waits_busy l x y (free xi yo) e = cc
waits_busy l x y (over xi yo) e = let no : InClosed Pulled = subst InClosed e xi in absurd no

-- a linear stage as it stood when it last asked at its input
pub record Moment (book : Book) (k : ℕ) (n : graph.Node) (first : Logic) (v : View) (took gave : List (List Item)) : Type 0 where
  pub asked : out_at v 0 ≡ Available
  pub waited : (t g : List Item) → took ≡ t ∷ [] → gave ≡ g ∷ [] → Waited (linear book first.stage.work) (begin_work k n.decider first.stage.work) t g

pub moment_of : (book : Book) (k : ℕ) (n : graph.Node) (first l : Logic) (v : View) (took gave : List (List Item)) → FirstLinear k n first → LinearPortState l v → LinearLaw book first l v took gave → in_at v 0 ≡ Pulled → Moment book k n first v took gave
moment_of book k n first l v took gave f r law waits =
    let o = one_views (port_state_in l.phase l.course l.pending l.stage.work l.ready) v r.ports in
    let s = waits_busy l o.x o.y (linear_ports l.phase l.course l.pending l.stage.work l.ready o.x o.y r.started o.holds) (sym o.inp ∙ waits) in
    record {
      asked = o.out ∙ s.1.0;
      waited = λ t g ti gi. linear_waited book k n.kind n.decider first l v took gave t g f.begins law s.0 s.1.1.0 s.1.1.1 waits (o.out ∙ s.1.0) ti gi;
    }

-- a node that is such a stage, by what it tells of the moment at which it last asked
module _ {N : Type 0} (state_of : N → View → Type 0) (law_of : N → N → View → List (List Item) → List (List Item) → Type 0) (asking : N → View → Type 0) (moves : N → List ℕ) (ended : N → Bool)
    (g : Graph) (w : World) (k : ℕ) (n : graph.Node) (start now : N) (first x : Logic) (f : FirstLinear k n first)
    (moment : (y : N) (v : View) (took gave : List (List Item)) → state_of y v → law_of start y v took gave → in_at v 0 ≡ Pulled → Moment w.book k n first v took gave) where
  abbrev Laws : List InPort → List OutPort → Type 0
  Laws is os = PictureLaws state_of law_of asking moves ended g w k n start now is os

  module _ (i : InPort) (o : OutPort) (r : LinearPortState x (record { ins = i.view ∷ []; outs = o.view ∷ [] }))
      (law : LinearLaw w.book first x (record { ins = i.view ∷ []; outs = o.view ∷ [] }) (i.got ∷ []) (o.sent ∷ [])) where
    machine : IsOneMachine n.kind first.stage.work
    machine = linear_machine n.kind first.stage.work f.is_linear f.begins.work

    at : Law (linear w.book first.stage.work) (begin_work k n.decider first.stage.work) (held w.book x) i.view o.view i.got o.sent
    at = law_at (linear w.book first.stage.work) law.start _ (held w.book x) _ i.view _ o.view _ law.took_list i.got law.gave_list o.sent
        (same_start _ _ (sym law.owes ∙ f.begins.owes w.book)) refl refl refl (one_same _ _ (sym law.took_is)) (one_same _ _ (sym law.gave_is)) law.law

    asked_then : InStands i → OutStands o → Moments state_of law_of asking moves start now (i ∷ []) (o ∷ []) 0 → 1 ≤ demand i.wire
        → (is_going (run (linear w.book first.stage.work) (begin_work k n.decider first.stage.work) (take (demand i.wire - 1) i.wire.list)).state ≡ true)
        × (length (run (linear w.book first.stage.work) (begin_work k n.decider first.stage.work) (take (demand i.wire - 1) i.wire.list)).gave < wanted o.wire)
    asked_then si so m some =
        let e = m.0 in
        let t = moment e.old e.knew e.had e.given e.port_state_held e.law_held e.waited in
        let b = began e.had i.got i.want e.took_on e.one_more in
        let q = given_one e.given o.sent o.want e.gave_on (e.wants 0 t.asked) in
        stage_asked (linear w.book first.stage.work) (begin_work k n.decider first.stage.work) i o si so at.in_list at.in_end at.took_is b.part q.0 (t.waited b.part q.0 b.is q.1.0) b.begins b.one_more q.1.1.1 some

    still : InStands i → OutStands o → InRests i → OutRests o → LinearPorts x.phase x.course x.pending x.stage.work i.view o.view
        → (EachWire IsShut (i.wire ∷ []) × EachWire IsShut (o.wire ∷ [])) ⊎ RowRests g w k n.kind n.decider (i.wire ∷ []) (o.wire ∷ [])
    still si so ri ro (busy po on none xi yo) =
        inr (machine.rests g w k n.decider (i.wire ∷ []) (o.wire ∷ [])
        (inl (waited_rests (linear w.book first.stage.work) (begin_work k n.decider first.stage.work) i o si so ri ro (linear_waited w.book k n.kind n.decider first x _ _ _ i.got o.sent f.begins law po on none xi yo refl refl) xi yo)))
    still si so ri ro (free xi yo) = inr (machine.rests g w k n.decider (i.wire ∷ []) (o.wire ∷ []) (inr (inl (ro.unasked yo, idles i ri xi))))
    still si so ri ro (behind sp xi yo) =
        let one : (linear w.book x.stage.work).hold ≡ 1 = ap (λ (b : Bool). if b then 1 else 0) sp.0 in
        let same : (linear w.book first.stage.work).hold ≡ 1 = ap (λ (z : Machine Stage Tree). z.hold) (sym (law.same w.book)) ∙ one in
        inr (machine.rests g w k n.decider (i.wire ∷ []) (o.wire ∷ []) (inr (inr (holds_first w.book n.kind first.stage.work f.is_linear f.begins.work same, ro.unasked yo, ri.shut (subst InClosed (sym xi) tt)))))
    still si so ri ro (over xi yo) = inl ((ri.shut xi, tt), (ro.shut yo, tt))

    one_picture : Laws (i ∷ []) (o ∷ [])
    one_picture = record {
      lawful = λ si so m. machine.lawful g w k n.decider (i.wire ∷ []) (o.wire ∷ []) (
        stage_given (linear w.book first.stage.work) (begin_work k n.decider first.stage.work) (held w.book x) i o at si.0 so.0,
        λ some. asked_then si.0 so.0 (m 0 (reached i si.0 some)) some,
      );
      rests = λ si so ri ro. still si.0 so.0 ri.0 ro.0 (linear_ports x.phase x.course x.pending x.stage.work x.ready i.view o.view r.started r.ports);
      matches = λ sink ri. absurd (not_both machine.no_sink sink);
    }

  pub staged_picture : (is : List InPort) (os : List OutPort) → LinearPortState x (record { ins = map (λ (i : InPort). i.view) is; outs = map (λ (o : OutPort). o.view) os })
      → LinearLaw w.book first x (record { ins = map (λ (i : InPort). i.view) is; outs = map (λ (o : OutPort). o.view) os }) (map (λ (i : InPort). i.got) is) (map (λ (o : OutPort). o.sent) os) → Laws is os
  staged_picture (i ∷ []) (o ∷ []) r law = one_picture i o r law
  staged_picture [] os r law = absurd r.ports
  staged_picture (i ∷ []) [] r law = absurd r.ports
  staged_picture (i ∷ []) (o ∷ p ∷ os) r law = absurd r.ports
  staged_picture (i ∷ j ∷ is) os r law = absurd r.ports

module _ {S D : Type 0} (L H B : Type 0) (sources : S → SourceState) (drains : D → DrainState) (g : Graph) (w : World) (k : ℕ) (n : graph.Node) where
  -- by its kind, which stays the same
  moment_by : (first : Logic) (x : IslandNode S D L H B) (v : View) (took gave : List (List Item)) → FirstLinear k n first → node_port_state x v → node_law sources drains w.book (Linear first) x v took gave → in_at v 0 ≡ Pulled → Moment w.book k n first v took gave
  moment_by first (Linear l) v took gave f r law waits = moment_of w.book k n first l v took gave f r law waits
  moment_by first x v took gave f r law waits = absurd law

  pub linear_picture : (first x : Logic) (is : List InPort) (os : List OutPort) → FirstLinear k n first → LinearPortState x (record { ins = map (λ (i : InPort). i.view) is; outs = map (λ (o : OutPort). o.view) os })
      → LinearLaw w.book first x (record { ins = map (λ (i : InPort). i.view) is; outs = map (λ (o : OutPort). o.view) os }) (map (λ (i : InPort). i.got) is) (map (λ (o : OutPort). o.sent) os)
      → PictureLaws {N = IslandNode S D L H B} node_port_state (node_law sources drains w.book) node_asking node_moves sink_ended g w k n (Linear first) (Linear x) is os
  linear_picture first x is os f r law =
      staged_picture {N = IslandNode S D L H B} node_port_state (node_law sources drains w.book) node_asking node_moves sink_ended g w k n (Linear first) (Linear x) first x f
      (λ y v took gave h l waits. moment_by first y v took gave f h l waits) is os r law
