-- What an account wants of a lane, from what its two ends keep at their stages.
use Rattle.std.specs.Prelude.{◌↔◌, IsTrue}
use Rattle.std.proofs.Common.{◌≡◌, inl, inr, ℕ, zero, suc, ◌<◌, ◌≤◌, Bool, true, false, List, [], ◌++◌, length, refl, sym, ap, ◌∙◌, subst, arith, append-nil}
use Rattle.elem_core.proofs.Prefixes.{prefix_whole}
use Rattle.elem_core.specs.Items.{elements}
use Rattle.elem_core.specs.declared.item.Item.{Item}
use Rattle.stream_io.specs.State.{SourceState, DrainState}
use Rattle.port_core.specs.Ring.{is_queued}
use Rattle.port_core.specs.Joint.{IsSound}
use Rattle.port_core.specs.declared.view.InView.{InView}
use Rattle.port_core.specs.declared.view.InView.TheVariants.{Idle}
use Rattle.port_core.specs.declared.view.OutView.TheVariants as outlet
use Rattle.stream_model.specs.Linear.{Book}
use Rattle.stage_core.specs.Row.{InClosed}
use Rattle.nodes.specs.declared.node.IslandNode.{IslandNode}
use Rattle.nodes.specs.Nodes.{node_port_state, node_law, node_asking, node_moves, node_gone, node_waits}
use Rattle.fused_net.specs.Net.{Net, wire_at}
use Rattle.fused_net.specs.Laws.{Settled}
use Rattle.lane_core.specs.declared.lane_out.LaneOut.{LaneOut}
use Rattle.lane_core.specs.declared.room.Waits.{Waits}
use Rattle.lane_core.specs.Ends.{sent, seen_count, saw_cancel, taken_items, asked_in_all, has_cancelled, in_size, IsLaneHistory, WaitsAre}
use Rattle.lane_core.specs.declared.boundary.InputBoundary.{InputBoundary}
use Rattle.lane_core.specs.declared.state.State.{State}
use Rattle.lane_core.specs.declared.state.State.TheVariants.{Flowing, Closed, Cancelled}
use Rattle.lane_core.specs.Boundary.{given, state, keeps_all, BoundaryKeeps}
use Rattle.lane_core.specs.Flow.{cancelled_by}
use Rattle.interpreter.specs.Island.{Kept}
use Rattle.interpreter.specs.Boundary.{Enters, Leaves, way_in, way_out, cell_in, cell_out}
use Rattle.island_body.specs.Beside.{waits_of}
use Rattle.island_body.specs.Serving.{Serves, IsServed}
use Rattle.island_body.specs.Feeding.{Feeds, IsFed}
use Rattle.island_body.proofs.Wires.{rest_open}
use Rattle.island_body.proofs.Stage.{gave_there}
use Rattle.bodies_run.specs.Ends.{out_end, in_end}
use Rattle.bodies_run.proofs.Meeting.{are_met, boundary_keeps}
use Rattle.run_laws.specs.Ends.{OutKeeps, InKeeps, LaneKeeps}
use Rattle.run_laws.specs.Quiet.{OutQuiet, InQuiet, MetQuiet, LaneQuiet}
use Rattle.bodies_run.proofs.StandLeaving.{took_there, there, idle_rest}

-- no wire is queued where no event is left
sound_rest : {S D L H B : Type 0} {sources : S → SourceState} {drains : D → DrainState} {book : Book} (net : Net (IslandNode S D L H B)) → Settled node_port_state (node_law sources drains book) node_asking node_moves net → net.queue ≡ [] → (q : ℕ) → q < length net.wires → IsSound (wire_at net q).wire false
sound_rest net s none q h = subst (λ (l : List ℕ). IsSound (wire_at net q).wire (is_queued l q)) none (s.sound q h)

-- ---- small facts

not_closed : (y : InView) → InClosed y → y ≡ Idle → ⊥
not_closed y c e = subst InClosed e c

no_one : (n : ℕ) → n ≤ 1 → (n ≡ 1 → ⊥) → n ≡ 0
no_one zero h k = refl
no_one (suc zero) h k = absurd (k refl)
no_one (suc (suc n)) h k = absurd (omega (arith, h))

false_true : (b : Bool) → b ≡ false → b ≡ true → ⊥
false_true b e f = cc

-- ---- the end that sends

module _ {S D L H B : Type 0} (sources : S → SourceState) (drains : D → DrainState) (book : Book) (o : LaneOut) (i : Kept S D L H B) (u : ℕ) (s : Settled node_port_state (node_law sources drains book) node_asking node_moves i.net) (l : Leaves i u) (serves : Serves o i u) where
  pub out_keeps : OutKeeps (cell_out i u) (out_end o)
  out_keeps =
      let x = there sources drains book i.net s (way_out i u) l.place l.stage in
      let t = took_there sources drains book i.net s (way_out i u) l.place l.stage x.0 x.1 in
      record { came_list = t.list; came_end = t.end; came_is = t.is; came_as = t.known; part = serves.part; wants = serves.wants }

  -- all that came was sent, where nothing waits
  sent_all : IsServed o i u → saw_cancel o ≡ 0 → sent o ≡ (cell_out i u).wire.got
  sent_all served z =
      let x = there sources drains book i.net s (way_out i u) l.place l.stage in
      let t = took_there sources drains book i.net s (way_out i u) l.place l.stage x.0 x.1 in
      let none : node_waits x.0 ≡ [] = sym (ap waits_of x.1) ∙ served.sent_all z in
      sym (t.parts ∙ ap (λ (r : List Item). node_gone x.0 ++ r) none ∙ append-nil (node_gone x.0) ∙ (serves.live z).gone x.0 x.1)

  -- one that asks for nothing has used all demand that it saw
  used_all : (b : InputBoundary) → i.net.queue ≡ [] → IsLaneHistory o b.lane → IsServed o i u → (cell_out i u).wire.inp ≡ Idle → elements (cell_out i u).wire.sent ≡ seen_count o
  used_all b none h served e =
      let most : saw_cancel o ≤ 1 = let a = h.cancel in let c = (are_met o b.lane h).once in omega (arith, a, c) in
      let z : saw_cancel o ≡ 0 = no_one (saw_cancel o) most (λ c. not_closed (cell_out i u).wire.inp (serves.closed c) e) in
      let rest = idle_rest (cell_out i u).wire (sound_rest i.net s none (way_out i u) l.place) e in
      let all : (cell_out i u).wire.sent ≡ sent o = rest.1 ∙ sym (sent_all served z) in
      let count : elements (cell_out i u).wire.sent ≡ elements (sent o) = ap elements all in
      let least : elements (sent o) ≤ seen_count o = h.used in
      elim (served.used z e) [
        | inl f ↦ omega (arith, count, least, f)
        | inr f ↦ absurd (false_true (cell_out i u).wire.conn.out_closed rest.0 f)
      ]

  pub out_quiet : (b : InputBoundary) → i.net.queue ≡ [] → IsLaneHistory o b.lane → IsServed o i u → OutQuiet (cell_out i u) (out_end o)
  out_quiet b none h served = record { sent_all = sent_all served; used = used_all b none h served; closed = serves.closed; left = serves.left }

-- ---- the end that takes

module _ {S D L H B : Type 0} (sources : S → SourceState) (drains : D → DrainState) (book : Book) (b : InputBoundary) (j : Kept S D L H B) (u : ℕ) (s : Settled node_port_state (node_law sources drains book) node_asking node_moves j.net) (l : Enters j u) (k : BoundaryKeeps b) (f : Feeds b j u) where
  pub in_keeps : InKeeps (keeps_all b) (in_size b.lane) (cell_in j u) (in_end b.lane)
  in_keeps =
      let g = gave_there sources drains book j.net s (way_in j u) l.place l.stage in
      boundary_keeps b (cell_in j u) g.list g.end k f.given_is g.is g.known

  -- where the stage is asked, it still hands on
  asked_flows : (cell_in j u).wire.out ≡ outlet.Available → state b ≡ Flowing
  asked_flows e = by_state (state b) refl
    where
      by_state : (z : State) → state b ≡ z → state b ≡ Flowing
      by_state Flowing is = is
      by_state Closed is = let c = f.closed is in absurd cc
      by_state Cancelled is = let c = f.cancelled is in absurd cc

  refused_cancelled : IsFed b j u → (cell_in j u).wire.out ≡ outlet.Cancelled → state b ≡ Cancelled
  refused_cancelled fed e = by_state (state b) refl
    where
      by_state : (z : State) → state b ≡ z → state b ≡ Cancelled
      by_state Flowing is = absurd (fed.refused e is)
      by_state Closed is = let c = f.closed is in absurd cc
      by_state Cancelled is = is

  pub in_quiet : j.net.queue ≡ [] → IsFed b j u → InQuiet (cell_in j u) (in_end b.lane)
  in_quiet none fed = record {
    pushed_all = λ e. elim (fed.given_all e) [
      | inl g ↦ g ∙ sym f.given_is
      | inr g ↦ absurd (false_true (cell_in j u).wire.conn.in_closed (rest_open (cell_in j u).wire (sound_rest j.net s none (way_in j u) l.place) e) g)
    ];
    more = λ e.
        let count : elements (given b) ≡ elements (cell_in j u).wire.sent = ap elements (sym f.given_is) in
        let m = k.more in
        omega (arith, count, m);
    goes_on = λ e. k.cancelled ∙ ap cancelled_by (asked_flows e);
    cancels = λ e. k.cancelled ∙ ap cancelled_by (refused_cancelled fed e);
  }

-- ---- the lane

not_true : (b : Bool) (P : Type 0) → IsTrue b ↔ P → b ≡ false → P → ⊥
not_true b P e n p = let t : b ≡ true = e.1 p in cc

no_less : (m n : ℕ) → (m < n → ⊥) → n ≤ m
no_less m n h = grind (arith, h)

pub met_quiet : (o : LaneOut) (b : InputBoundary) (w : Waits) → IsLaneHistory o b.lane → WaitsAre o b.lane w → w.item ≡ false → w.demand ≡ false → MetQuiet (out_end o) (in_end b.lane)
met_quiet o b w h waits item demand = record {
  taken_all = prefix_whole h.prefix (no_less (length (taken_items b.lane)) (length (sent o)) (not_true w.item _ waits.0 item));
  seen_all = let n : asked_in_all b.lane ≤ seen_count o = no_less (seen_count o) (asked_in_all b.lane) (λ e. not_true w.demand _ waits.1 demand (inl e)) in let m = h.seen_asked in omega (arith, m, n);
  refused_is = let n : has_cancelled b.lane ≤ saw_cancel o = no_less (saw_cancel o) (has_cancelled b.lane) (λ e. not_true w.demand _ waits.1 demand (inr e)) in let m = h.cancel in omega (arith, m, n);
}

module _ {S D L H B : Type 0} (sources : S → SourceState) (drains : D → DrainState) (book : Book) (o : LaneOut) (b : InputBoundary) (i j : Kept S D L H B) (u : ℕ) (s : Settled node_port_state (node_law sources drains book) node_asking node_moves i.net) (t : Settled node_port_state (node_law sources drains book) node_asking node_moves j.net) (l : Leaves i u) (e : Enters j u) (k : BoundaryKeeps b) (h : IsLaneHistory o b.lane) (serves : Serves o i u) (feeds : Feeds b j u) where
  pub lane_keeps : (k : LaneKeeps (keeps_all b) (in_size b.lane) (cell_out i u) (cell_in j u) (asked_in_all b.lane)) × ((k.out ≡ out_end o) × (k.inp ≡ in_end b.lane))
  lane_keeps = (
    record {
      out = out_end o;
      inp = in_end b.lane;
      out_keeps = out_keeps sources drains book o i u s l serves;
      in_keeps = in_keeps sources drains book b j u t e k feeds;
      met = are_met o b.lane h;
      asked_is = refl;
    },
    (refl, refl),
  )

  pub lane_quiet : i.net.queue ≡ [] → j.net.queue ≡ [] → IsServed o i u → IsFed b j u → (w : Waits) → WaitsAre o b.lane w → w.item ≡ false → w.demand ≡ false
      → (x : LaneKeeps (keeps_all b) (in_size b.lane) (cell_out i u) (cell_in j u) (asked_in_all b.lane)) → x.out ≡ out_end o → x.inp ≡ in_end b.lane → LaneQuiet (keeps_all b) (in_size b.lane) (cell_out i u) (cell_in j u) (asked_in_all b.lane) x
  lane_quiet none none' served fed w waits item demand x out inp = record {
    out = rw out (out_quiet sources drains book o i u s l serves b none h served);
    inp = rw inp (in_quiet sources drains book b j u t e k feeds none' fed);
    met = rw (out, inp) (met_quiet o b w h waits item demand);
  }
