-- What an output boundary keeps as it serves, while others act, and while its island runs.
use Rattle.std.specs.Prelude.{slice_get, IsTrue, map, Option}
use Rattle.std.proofs.Common.{◌≡◌, ◌≢◌, ◌⊎◌, inl, inr, ℕ, zero, suc, ◌+◌, ◌<◌, ◌≤◌, Bool, true, false, List, [], ◌∷◌, ◌++◌, None, Some, length, set, refl, sym, ap, ◌∙◌, subst, arith, length-append, get_or-set_same}
use Rattle.std.proofs.lemmas.Option.{slice_get_within}
use Rattle.elem_core.specs.Prefix.{IsPrefix}
use Rattle.elem_core.proofs.Prefixes.{prefix_refl, prefix_trans, prefix_append}
use Rattle.elem_core.specs.Tree.{Tree}
use Rattle.elem_core.specs.declared.item.Item.{Item}
use Rattle.stream_io.specs.State.{SourceState, DrainState}
use Rattle.port_core.specs.Decoding.{can_pull}
use Rattle.port_core.specs.Joint.{Joint, idle, asking, asked, moving, ending, closing, leaving, finished, parted, cancelled, joint_wire, IsSound, Histories}
use Rattle.port_core.specs.Wire.{JointPorts}
use Rattle.port_core.specs.View.{View, input_closed}
use Rattle.port_core.specs.declared.view.InView.{InView}
use Rattle.port_core.specs.declared.view.InView.TheVariants.{Idle, Pulled, Finished, Cancelled}
use Rattle.port_core.specs.declared.act.Act.TheVariants as act
use Rattle.stream_model.specs.Linear.{Book}
use Rattle.stage_core.specs.Row.{InClosed}
use Rattle.port_core.specs.Cell.{WireState, moved_by}
use Rattle.port_core.specs.Marks.{wanted}
use Rattle.port_core.specs.Reading.{no_wire}
use Rattle.nodes.specs.declared.node.IslandNode.{IslandNode}
use Rattle.nodes.specs.declared.node.IslandNode.TheVariants as node
use Rattle.nodes.specs.Nodes.{node_port_state, node_law, node_asking, node_moves, node_gone, node_waits, node_passive}
use Rattle.fused_net.specs.Net.{Net, end_at, wire_at, with_node, ports_at, view_of, took, gave}
use Rattle.fused_net.specs.Laws.{Settled, NetGoesOn}
use Rattle.fused_net.specs.Poking.{AtNode, HandsAt}
use Rattle.fused_net.specs.Outside.{IsPassiveAt, StandsStill, Untouched, IsElse, HasOnly}
use Rattle.fused_net.proofs.Reading.{get_set_same, get_there}
use Rattle.lane_core.specs.declared.lane_out.LaneOut.{LaneOut}
use Rattle.lane_core.specs.Lane as lane
use Rattle.lane_core.specs.Ends.{sent, seen_count, saw_cancel, has_ended}
use Rattle.interpreter.specs.BoundaryPlaces.{ReceivedAt, IsClearAt, IsLeaving, LeavesAt, moved_at, cancelled_at}
use Rattle.interpreter.specs.Island.{Kept, IslandKeeps}
use Rattle.interpreter.specs.Boundary.{way_out, cell_out, Leaves, HandsOut, Drops, with_net}
use Rattle.island_body.specs.Beside.{Beside, out_node, waits_of, waiting}
use Rattle.island_body.specs.Sending.{Sends}
use Rattle.island_body.specs.Serving.{MayNotAsk, Serves, IsServed}
use Rattle.island_body.proofs.Beside.{beside_same, beside_trans, beside_moved, beside_node, beside_hands, way_out_beside, out_node_beside}

-- ---- one wire

-- where an input is idle it may ask, or the output has closed
idle_j : (j : Joint) (s g : List Item) → (joint_wire j s g).inp ≡ Idle → (can_pull (joint_wire j s g).conn ≡ true) ⊎ ((joint_wire j s g).conn.out_closed ≡ true)
idle_j idle s g e = inl refl
idle_j asking s g e = cc
idle_j asked s g e = cc
idle_j (moving x) s g e = cc
idle_j (ending c) s g e = inr refl
idle_j (closing t c) s g e = cc
idle_j (leaving true t) s g e = cc
idle_j (leaving false t) s g e = cc
idle_j (finished t c) s g e = cc
idle_j (parted t c) s g e = cc
idle_j (cancelled t c) s g e = cc

pub idle_may : (w : JointPorts) (q : Bool) → IsSound w q → w.inp ≡ Idle → (can_pull w.conn ≡ true) ⊎ (w.conn.out_closed ≡ true)
idle_may w q s e = elim (idle_j s.joint w.sent w.got (sym (ap (λ (v : JointPorts). v.inp) s.is) ∙ e)) [
  | inl c ↦ inl (ap (λ (v : JointPorts). can_pull v.conn) s.is ∙ c)
  | inr c ↦ inr (ap (λ (v : JointPorts). v.conn.out_closed) s.is ∙ c)
]

-- an input is closed exactly where its connection knows it
shut_j : (j : Joint) (s g : List Item) → InClosed (joint_wire j s g).inp → (joint_wire j s g).conn.in_closed ≡ true
shut_j idle s g h = absurd h
shut_j asking s g h = absurd h
shut_j asked s g h = absurd h
shut_j (moving x) s g h = absurd h
shut_j (ending c) s g h = absurd h
shut_j (closing t c) s g h = absurd h
shut_j (leaving true t) s g h = refl
shut_j (leaving false t) s g h = refl
shut_j (finished t c) s g h = refl
shut_j (parted t c) s g h = refl
shut_j (cancelled t c) s g h = refl

closed_j : (j : Joint) (s g : List Item) → (joint_wire j s g).conn.in_closed ≡ true → InClosed (joint_wire j s g).inp
closed_j idle s g h = cc
closed_j asking s g h = cc
closed_j asked s g h = cc
closed_j (moving x) s g h = cc
closed_j (ending c) s g h = cc
closed_j (closing t c) s g h = cc
closed_j (leaving true t) s g h = tt
closed_j (leaving false t) s g h = tt
closed_j (finished t c) s g h = tt
closed_j (parted t c) s g h = tt
closed_j (cancelled t c) s g h = tt

pub shut_conn : (w : JointPorts) (q : Bool) → IsSound w q → InClosed w.inp → w.conn.in_closed ≡ true
shut_conn w q s h = ap (λ (v : JointPorts). v.conn.in_closed) s.is ∙ shut_j s.joint w.sent w.got (subst (λ (v : JointPorts). InClosed v.inp) s.is h)

pub closed_conn : (w : JointPorts) (q : Bool) → IsSound w q → w.conn.in_closed ≡ true → InClosed w.inp
closed_conn w q s e = subst (λ (v : JointPorts). InClosed v.inp) (sym s.is) (closed_j s.joint w.sent w.got (sym (ap (λ (v : JointPorts). v.conn.in_closed) s.is) ∙ e))

-- ---- what waits at a node

some_same : {A : Type 0} (x y : A) → Some x ≡ Some y → x ≡ y
some_same x y e = cc

module _ {S D L H B : Type 0} where
  pub waiting_at : (i : Kept S D L H B) (u : ℕ) (x : IslandNode S D L H B) → slice_get i.net.nodes (out_node i u) ≡ Some x → waiting i u ≡ node_waits x
  waiting_at i u x at = ap waits_of at

  pub clear_waits : (i : Kept S D L H B) (u : ℕ) → IsClearAt i.net (way_out i u) → waiting i u ≡ []
  clear_waits i u clear = by_node (slice_get i.net.nodes (out_node i u)) refl
    where
      by_node : (o : Option (IslandNode S D L H B)) → slice_get i.net.nodes (out_node i u) ≡ o → waiting i u ≡ []
      by_node None e = ap waits_of e
      by_node (Some x) e = ap waits_of e ∙ clear x e

  pub waits_clear : (i : Kept S D L H B) (u : ℕ) → waiting i u ≡ [] → IsClearAt i.net (way_out i u)
  waits_clear i u none x at = sym (waiting_at i u x at) ∙ none

  -- an item that was handed out waits no longer
  pub handed_less : (i new : Kept S D L H B) (u : ℕ) (x : Item) → HandsOut i u (x ∷ []) new → length (waiting new u) < length (waiting i u)
  handed_less i new u x h =
      let b : Beside (way_out i u) (out_node i u) i new = beside_hands (way_out i u) i new u (x ∷ []) h in
      let net_is : new ≡ with_net i (with_node i.net (out_node i u) h.hands.next) = h.rest ∙ ap (λ (n : Net _). with_net i n) h.hands.is in
      let within = slice_get_within i.net.nodes (out_node i u) h.hands.node h.hands.at in
      let there : slice_get new.net.nodes (out_node new u) ≡ Some h.hands.next = rw (out_node_beside _ _ i new u b, net_is) (get_set_same i.net.nodes (out_node i u) h.hands.next within) in
      let now : waiting new u ≡ node_waits h.hands.next = ap waits_of there in
      let was : waiting i u ≡ x ∷ node_waits h.hands.next = ap waits_of h.hands.at ∙ h.hands.waits_is in
      omega (arith, ap length now, ap length was)

-- ---- what is kept between two moments

module _ {S D L H B : Type 0} (o : LaneOut) (i : Kept S D L H B) (u : ℕ) where
  -- one that has seen no cancel
  pub serves_live : ReceivedAt i.net (way_out i u) → out_node i u < length i.net.nodes → Sends o i u → ((cell_out i u).wire.inp ≡ Cancelled → ⊥) → Serves o i u
  serves_live came h s live_in =
      let x = get_there i.net.nodes (out_node i u) h in
      let parts : (cell_out i u).wire.got ≡ sent o ++ node_waits x.0 = came.got x.0 x.1 ∙ ap (λ (l : List Item). l ++ node_waits x.0) (s.gone x.0 x.1) in
      record {
        part = subst (λ (l : List Item). IsPrefix (sent o) l) (sym parts) (prefix_append (sent o) (node_waits x.0));
        wants = s.wants;
        live = λ z. s;
        closed = λ c. let l = s.live in cc;
        left = λ e. absurd (live_in e);
      }

  -- all was sent, and it has asked or not
  pub serves_asked : ReceivedAt i.net (way_out i u) → out_node i u < length i.net.nodes → Sends o i u → ((cell_out i u).wire.inp ≡ Cancelled → ⊥) → (new : Kept S D L H B) → Sends o new u → (cell_out new u).wire.got ≡ (cell_out i u).wire.got → ((cell_out new u).wire.inp ≡ Cancelled → (cell_out i u).wire.inp ≡ Cancelled) → Serves o new u
  serves_asked came h s none new t got left =
      let r = serves_live came h s none in
      record { part = rw got r.part; wants = t.wants; live = λ z. t; closed = λ c. let l = s.live in cc; left = λ e. absurd (none (left e)) }

  -- it has seen more asked, and has asked or not
  pub serves_found : Serves o i u → saw_cancel o ≡ 0 → (p : LaneOut) (new : Kept S D L H B) → sent p ≡ sent o → Sends p new u → (cell_out new u).wire.got ≡ (cell_out i u).wire.got → ((cell_out new u).wire.inp ≡ Cancelled → (cell_out i u).wire.inp ≡ Cancelled) → Serves p new u
  serves_found r zero_is p new same t got left = record {
    part = rw (got, same) r.part;
    wants = t.wants;
    live = λ z. t;
    closed = λ c. let l = t.live in cc;
    left = λ e. let c = r.left (left e) in cc;
  }

  -- it has asked, or may not
  pub served_now : waiting i u ≡ [] → MayNotAsk o i u → IsServed o i u
  served_now none may = record { sent_all = λ z. none; used = λ z. may }

  pub served_waiting : waiting i u ≡ [] → (cell_out i u).wire.inp ≡ Pulled → IsServed o i u
  served_waiting none e = record { sent_all = λ z. none; used = λ z idle. cc }

  -- one that has seen a cancel has nothing to do
  pub served_cancelled : saw_cancel o ≡ 1 → IsServed o i u
  served_cancelled c = record { sent_all = λ z. cc; used = λ z. cc }

  over_closed : (x : InView) → input_closed x ≡ true → InClosed x
  over_closed Idle e = cc
  over_closed Pulled e = cc
  over_closed Finished e = tt
  over_closed Cancelled e = tt

  -- The cancel is handed on: the input is closed, nothing was asked, and what came begins with what was sent.
  pub cancelled_serves : ReceivedAt i.net (way_out i u) → Sends o i u → Leaves i u → out_node i u < length i.net.nodes → (p : LaneOut) (new : Kept S D L H B) → Drops i u new → sent p ≡ sent o → seen_count o ≤ seen_count p → saw_cancel p ≡ 1 → Serves p new u
  cancelled_serves came s l h p new d same more cancel =
      let q : ℕ = way_out i u in
      let mid : Net (IslandNode S D L H B) = cancelled_at i.net (way_out i u) in
      let x = get_there i.net.nodes (out_node i u) h in
      let parts : (cell_out i u).wire.got ≡ sent o ++ node_waits x.0 = came.got x.0 x.1 ∙ ap (λ (w : List Item). w ++ node_waits x.0) (s.gone x.0 x.1) in
      let c = cell_out i u in
      let w = s.wants in
      let at = d.drops x.0 (mid_node x.0 x.1) in
      let new_is : new ≡ with_net i (with_node mid (out_node i u) at.next) = d.rest ∙ ap (λ (n : Net _). with_net i n) at.is in
      let kept = mid_cell l.place in
      subst (λ (z : Kept S D L H B). Serves p z u) (sym new_is) (record {
        part = subst (λ (g : List Item). IsPrefix (sent p) g) (sym kept.1.0) (subst (λ (g : List Item). IsPrefix (sent p) g) (sym parts) (subst (λ (g : List Item). IsPrefix g (sent o ++ node_waits x.0)) (sym same) (prefix_append (sent o) (node_waits x.0))));
        wants = let k = kept.1.1 in omega (arith, k, w, more);
        live = λ z. cc;
        closed = λ z. kept.0;
        left = λ z. cancel;
      })
    where
      mid_node : (x : IslandNode S D L H B) → slice_get i.net.nodes (out_node i u) ≡ Some x → slice_get (cancelled_at i.net (way_out i u)).nodes (out_node i u) ≡ Some x
      mid_node x at = by_over (input_closed (wire_at i.net (way_out i u)).wire.inp) refl
        where
          by_over : (b : Bool) → input_closed (wire_at i.net (way_out i u)).wire.inp ≡ b → slice_get (cancelled_at i.net (way_out i u)).nodes (out_node i u) ≡ Some x
          by_over true e = rw e at
          by_over false e = rw e at

      mid_cell : way_out i u < length i.net.wires → InClosed (wire_at (cancelled_at i.net (way_out i u)) (way_out i u)).wire.inp × (((wire_at (cancelled_at i.net (way_out i u)) (way_out i u)).wire.got ≡ (cell_out i u).wire.got) × (wanted (wire_at (cancelled_at i.net (way_out i u)) (way_out i u)) ≡ wanted (cell_out i u)))
      mid_cell h = by_over (input_closed (wire_at i.net (way_out i u)).wire.inp) refl
        where
          there : wire_at (moved_at i.net (way_out i u) (act.Cancel 0)) (way_out i u) ≡ moved_by (act.Cancel 0) (cell_out i u)
          there = get_or-set_same i.net.wires (way_out i u) (moved_by (act.Cancel 0) (cell_out i u)) no_wire h

          by_over : (b : Bool) → input_closed (wire_at i.net (way_out i u)).wire.inp ≡ b → InClosed (wire_at (cancelled_at i.net (way_out i u)) (way_out i u)).wire.inp × (((wire_at (cancelled_at i.net (way_out i u)) (way_out i u)).wire.got ≡ (cell_out i u).wire.got) × (wanted (wire_at (cancelled_at i.net (way_out i u)) (way_out i u)) ≡ wanted (cell_out i u)))
          by_over true e = rw e (over_closed _ e, (refl, refl))
          by_over false e = rw (e, there) (tt, (refl, refl))

-- ---- while another end of a lane acts

module _ {S D L H B : Type 0} (o : LaneOut) (q n : ℕ) (old new : Kept S D L H B) (u : ℕ) (b : Beside q n old new) (apart : way_out old u ≢ q) (other : out_node old u ≢ n) where
  cell_same : cell_out new u ≡ cell_out old u
  cell_same = rw (way_out_beside q n old new u b) (b.cells (way_out old u) apart)

  node_same : slice_get new.net.nodes (out_node new u) ≡ slice_get old.net.nodes (out_node old u)
  node_same = rw (out_node_beside q n old new u b) (b.nodes (out_node old u) other)

  sends_beside : Sends o old u → Sends o new u
  sends_beside s = record { gone = λ x at. s.gone x (sym node_same ∙ at); wants = rw cell_same s.wants; live = s.live; ended = s.ended }

  pub serves_beside : Serves o old u → Serves o new u
  serves_beside s = record {
    part = rw cell_same s.part;
    wants = rw cell_same s.wants;
    live = λ z. sends_beside (s.live z);
    closed = λ z. rw cell_same (s.closed z);
    left = λ e. s.left (rw cell_same at e);
  }

  pub served_beside : IsServed o old u → IsServed o new u
  served_beside s = record { sent_all = λ z. ap waits_of node_same ∙ s.sent_all z; used = λ z e. rw cell_same (s.used z (rw cell_same at e)) }

-- ---- while the island runs

-- what stands at the end of a lane is passive
leaving_passive : {S D L H B : Type 0} (sources : S → SourceState) (drains : D → DrainState) (book : Book) (x first : IslandNode S D L H B) (v : View) (t g : List (List Item)) → IsLeaving first → node_law sources drains book first x v t g → node_passive x ≡ true
leaving_passive sources drains book (node.Leaving x) (node.Leaving f) v t g h law = refl
leaving_passive sources drains book (node.Reading x) (node.Leaving f) v t g h law = absurd law
leaving_passive sources drains book (node.Making x) (node.Leaving f) v t g h law = absurd law
leaving_passive sources drains book (node.Linear x) (node.Leaving f) v t g h law = absurd law
leaving_passive sources drains book (node.State x) (node.Leaving f) v t g h law = absurd law
leaving_passive sources drains book (node.Sub x) (node.Leaving f) v t g h law = absurd law
leaving_passive sources drains book (node.FanIn x) (node.Leaving f) v t g h law = absurd law
leaving_passive sources drains book (node.FanOut x) (node.Leaving f) v t g h law = absurd law
leaving_passive sources drains book (node.Custom x) (node.Leaving f) v t g h law = absurd law
leaving_passive sources drains book (node.Writing x) (node.Leaving f) v t g h law = absurd law
leaving_passive sources drains book (node.Ignoring x) (node.Leaving f) v t g h law = absurd law
leaving_passive sources drains book (node.Entering x) (node.Leaving f) v t g h law = refl
leaving_passive sources drains book x (node.Reading f) v t g h law = absurd h
leaving_passive sources drains book x (node.Making f) v t g h law = absurd h
leaving_passive sources drains book x (node.Linear f) v t g h law = absurd h
leaving_passive sources drains book x (node.State f) v t g h law = absurd h
leaving_passive sources drains book x (node.Sub f) v t g h law = absurd h
leaving_passive sources drains book x (node.FanIn f) v t g h law = absurd h
leaving_passive sources drains book x (node.FanOut f) v t g h law = absurd h
leaving_passive sources drains book x (node.Custom f) v t g h law = absurd h
leaving_passive sources drains book x (node.Writing f) v t g h law = absurd h
leaving_passive sources drains book x (node.Ignoring f) v t g h law = absurd h
leaving_passive sources drains book x (node.Entering f) v t g h law = absurd h

pub passive_there : {S D L H B : Type 0} (sources : S → SourceState) (drains : D → DrainState) (book : Book) (net : Net (IslandNode S D L H B)) (q : ℕ) → Settled node_port_state (node_law sources drains book) node_asking node_moves net → q < length net.wires → LeavesAt net q → IsPassiveAt node_passive net (end_at net.ends q).to
passive_there sources drains book net q s h stage x at =
    let to = (end_at net.ends q).to in
    let first = get_there net.firsts to (rw s.each_first (s.wired.to_within q h)) in
    leaving_passive sources drains book x first.0 (view_of net to) (took net to) (gave net to) (stage first.0 first.1) (s.minded to (s.wired.to_within q h) x first.0 at first.1).law_holds

map_at : {A B : Type 0} (f : A → B) (xs ys : List A) (n : ℕ) (y : A) → map f ys ≡ map f xs → slice_get ys n ≡ Some y → (x : A) × ((slice_get xs n ≡ Some x) × (f y ≡ f x))
map_at f [] [] n y e at = cc
map_at f [] (z ∷ ys) n y e at = cc
map_at f (x ∷ xs) [] n y e at = cc
map_at f (x ∷ xs) (z ∷ ys) zero y e at = let same : z ≡ y = some_same z y at in let both : f z ≡ f x = cc in (x, (refl, ap f (sym same) ∙ both))
map_at f (x ∷ xs) (z ∷ ys) (suc n) y e at = let t : map f ys ≡ map f xs = cc in map_at f xs ys n y t at

module _ {S D L H B : Type 0} (sources : S → SourceState) (drains : D → DrainState) (book : Book) (o : LaneOut) (old new : Kept S D L H B) (u : ℕ) (before : Settled node_port_state (node_law sources drains book) node_asking node_moves old.net) (after : Settled node_port_state (node_law sources drains book) node_asking node_moves new.net)
    (l : Leaves old u) (on : NetGoesOn old.net new.net) (outs : new.outs ≡ old.outs) (gone : map node_gone new.net.nodes ≡ map node_gone old.net.nodes) (still : StandsStill node_passive old.net new.net) where
  here : IsPassiveAt node_passive old.net (out_node old u)
  here = passive_there sources drains book old.net (way_out old u) before l.place l.stage

  way_same : way_out new u ≡ way_out old u
  way_same = rw outs refl

  to_same : out_node new u ≡ out_node old u
  to_same = rw (outs, on.ends) refl

  place_new : way_out old u < length new.net.wires
  place_new = rw on.wires l.place

  sends_ran : Sends o old u → Sends o new u
  sends_ran s = record {
    gone = λ x at. let y = map_at node_gone old.net.nodes new.net.nodes (out_node old u) x gone (rw to_same at at) in y.1.1 ∙ s.gone y.0 y.1.0;
    wants = let w = s.wants in let e = still.asks (way_out old u) here in rw way_same (omega (arith, w, e));
    live = s.live;
    ended = s.ended;
  }

  -- what is kept stands while the island runs
  pub serves_ran : Serves o old u → Serves o new u
  serves_ran s = record {
    part = rw way_same (prefix_trans s.part (still.grown (way_out old u)).got);
    wants = let w = s.wants in let e = still.asks (way_out old u) here in rw way_same (omega (arith, w, e));
    live = λ z. sends_ran (s.live z);
    closed = λ z. rw way_same (closed_conn (wire_at new.net (way_out old u)).wire _ (after.sound (way_out old u) place_new) ((still.grown (way_out old u)).in_closed (shut_conn (cell_out old u).wire _ (before.sound (way_out old u) l.place) (s.closed z))));
    left = λ e. s.left (still.left (way_out old u) here (rw way_same at e));
  }

  -- and one that heard of nothing has nothing to do
  pub served_ran : (at : _) → Untouched node_passive at old.net new.net → IsElse at (way_out old u) → HasOnly (ports_at old.net (out_node old u)) (way_out old u) → IsServed o old u → IsServed o new u
  served_ran at un other only s = record {
    sent_all = λ z. let e : slice_get new.net.nodes (out_node new u) ≡ slice_get old.net.nodes (out_node old u) = rw to_same (un.nodes (way_out old u) (out_node old u) other here only) in ap waits_of e ∙ s.sent_all z;
    used = λ z e. elim (s.used z (sym (un.ins (way_out old u) other here).0 ∙ rw way_same at e)) [
      | inl f ↦ inl f
      | inr f ↦ inr (rw way_same ((still.grown (way_out old u)).out_closed f))
    ];
  }
