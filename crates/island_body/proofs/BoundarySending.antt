-- What an output boundary keeps as it sends and asks.
use Rattle.std.specs.Prelude.{slice_get}
use Rattle.std.proofs.Common.{◌≡◌, ◌≢◌, ℕ, ◌+◌, ◌<◌, ◌≤◌, Bool, true, false, List, [], ◌∷◌, ◌++◌, Some, length, set, refl, sym, ap, ◌∙◌, subst, arith, append-nil, get_or-set_same}
use Rattle.std.proofs.lemmas.Option.{slice_get_within}
use Rattle.elem_core.specs.Tree.{Tree}
use Rattle.elem_core.specs.Items.{elements}
use Rattle.elem_core.specs.declared.item.Item.{Item}
use Rattle.elem_core.specs.declared.item.Item.TheVariants as item
use Rattle.port_core.specs.Decoding.{can_pull}
use Rattle.port_core.specs.Joint.{Joint, idle, asking, asked, moving, ending, closing, leaving, finished, parted, cancelled, joint_wire, IsSound, Histories}
use Rattle.port_core.specs.Wire.{JointPorts}
use Rattle.port_core.specs.declared.act.Act.TheVariants as act
use Rattle.stream_io.specs.State.{SourceState, DrainState}
use Rattle.stream_model.specs.Outlook.{End, unended, ended, failed}
use Rattle.stream_model.specs.Linear.{Book}
use Rattle.stage_core.specs.Held.{told}
use Rattle.port_core.specs.Cell.{WireState, moved_by}
use Rattle.port_core.specs.Marks.{wanted}
use Rattle.port_core.specs.Reading.{no_wire}
use Rattle.nodes.specs.declared.node.IslandNode.{IslandNode}
use Rattle.nodes.specs.Nodes.{node_gone, node_waits}
use Rattle.fused_net.specs.Net.{Net, end_at, wire_at, with_node}
use Rattle.fused_net.proofs.Reading.{get_set_same, get_there}
use Rattle.lane_core.specs.Lane.{weight, ends}
use Rattle.lane_core.specs.declared.lane_out.LaneOut.{LaneOut}
use Rattle.lane_core.specs.Ends.{sent, seen_count, saw_cancel, has_ended}
use Rattle.lane_core.proofs.Lists.{elements_first}
use Rattle.interpreter.specs.BoundaryPlaces.{ReceivedAt, IsClearAt, moved_at}
use Rattle.interpreter.specs.Island.{Kept, IslandKeeps}
use Rattle.interpreter.specs.Boundary.{way_out, cell_out, Leaves, HandsOut, with_net}
use Rattle.island_body.specs.Sending.{has_end, Sends}

came_j : (j : Joint) (s g : List Item) → can_pull (joint_wire j s g).conn ≡ true → Histories j s g → s ≡ g
came_j idle s g e h = h
came_j asking s g e h = cc
came_j asked s g e h = cc
came_j (moving x) s g e h = cc
came_j (ending c) s g e h = cc
came_j (closing t c) s g e h = cc
came_j (leaving true t) s g e h = cc
came_j (leaving false t) s g e h = cc
came_j (finished t c) s g e h = cc
came_j (parted t c) s g e h = cc
came_j (cancelled t c) s g e h = cc

-- where an input may ask, all that was sent has come
pub all_came : (w : JointPorts) (q : Bool) → IsSound w q → can_pull w.conn ≡ true → w.sent ≡ w.got
all_came w q s e = came_j s.joint w.sent w.got (sym (ap (λ (v : JointPorts). can_pull v.conn) s.is) ∙ e) s.histories

elems-append : (xs ys : List Item) → elements (xs ++ ys) ≡ elements xs + elements ys
elems-append [] ys = omega arith
elems-append (item.Elem t ∷ xs) ys = let e = elems-append xs ys in omega (arith, e)
elems-append (item.Ended ∷ xs) ys = elems-append xs ys
elems-append (item.Failed c ∷ xs) ys = elems-append xs ys

-- nothing stands behind an end
end_last : (a : List Item) (x : Item) (b : List Item) (l : List Tree) (e : End) → told l e ≡ a ++ x ∷ b → has_end a ≡ false
end_last [] x b l e h = refl
end_last (item.Elem t ∷ a) x b [] unended h = absurd cc
end_last (item.Elem t ∷ a) x b [] ended h = absurd cc
end_last (item.Elem t ∷ a) x b [] (failed c) h = absurd cc
end_last (item.Elem t ∷ a) x b (u ∷ l) e h = end_last a x b l e cc
end_last (item.Ended ∷ a) x b [] unended h = absurd cc
end_last (item.Ended ∷ []) x b [] ended h = absurd cc
end_last (item.Ended ∷ y ∷ a) x b [] ended h = absurd cc
end_last (item.Ended ∷ a) x b [] (failed c) h = absurd cc
end_last (item.Ended ∷ a) x b (u ∷ l) e h = absurd cc
end_last (item.Failed d ∷ a) x b [] unended h = absurd cc
end_last (item.Failed d ∷ a) x b [] ended h = absurd cc
end_last (item.Failed d ∷ []) x b [] (failed c) h = absurd cc
end_last (item.Failed d ∷ y ∷ a) x b [] (failed c) h = absurd cc
end_last (item.Failed d ∷ a) x b (u ∷ l) e h = absurd cc

end_new : (a : List Item) (x : Item) → has_end a ≡ false → has_end (a ++ x ∷ []) ≡ ends x
end_new [] (item.Elem t) h = refl
end_new [] item.Ended h = refl
end_new [] (item.Failed c) h = refl
end_new (item.Elem t ∷ a) x h = end_new a x h
end_new (item.Ended ∷ a) x h = absurd cc
end_new (item.Failed c ∷ a) x h = absurd cc

some_same : {A : Type 0} (x y : A) → Some x ≡ Some y → x ≡ y
some_same x y e = cc

module _ {S D L H B : Type 0} (o : LaneOut) (i : Kept S D L H B) (u : ℕ) (came : ReceivedAt i.net (way_out i u)) (s : Sends o i u) where
  -- an item that was handed out there
  module _ (new : Kept S D L H B) (x : Item) (h : HandsOut i u (x ∷ []) new) where
    got_is : (cell_out i u).wire.got ≡ sent o ++ x ∷ node_waits h.hands.next
    got_is = came.got h.hands.node h.hands.at ∙ ap (λ (l : List Item). l ++ node_waits h.hands.node) (s.gone h.hands.node h.hands.at) ∙ ap (λ (l : List Item). sent o ++ l) h.hands.waits_is

    no_end : has_end (sent o) ≡ false
    no_end = end_last (sent o) x (node_waits h.hands.next) came.list came.end (sym came.told_is ∙ got_is)

    pub may_send : (has_ended o ≡ false) × (saw_cancel o ≡ 0)
    may_send = (s.ended ∙ no_end, s.live)

    pub room_for : elements (sent o) + weight x ≤ seen_count o
    room_for =
        let all : elements (cell_out i u).wire.got ≡ elements (sent o) + elements (x ∷ node_waits h.hands.next) = ap elements got_is ∙ elems-append (sent o) (x ∷ node_waits h.hands.next) in
        let first = elements_first x (node_waits h.hands.next) in
        let few = came.few in
        let wants = s.wants in
        omega (arith, all, first, few, wants)

    pub sent_keeps : (p : LaneOut) → sent p ≡ sent o ++ x ∷ [] → has_ended p ≡ ends x → seen_count p ≡ seen_count o → saw_cancel p ≡ saw_cancel o → Sends p new u
    sent_keeps p e f g k =
        let net_is : new ≡ record i { net = with_node i.net (end_at i.net.ends (way_out i u)).to h.hands.next } = h.rest ∙ ap (λ (n : Net _). record i { net = n }) h.hands.is in
        let within = slice_get_within i.net.nodes (end_at i.net.ends (way_out i u)).to h.hands.node h.hands.at in
        subst (λ (z : Kept S D L H B). Sends p z u) (sym net_is) (record {
          gone = λ y yi.
              let same : h.hands.next ≡ y = some_same h.hands.next y (sym (get_set_same i.net.nodes (end_at i.net.ends (way_out i u)).to h.hands.next within) ∙ yi) in
              ap node_gone (sym same) ∙ h.hands.gone_is ∙ ap (λ (l : List Item). l ++ x ∷ []) (s.gone h.hands.node h.hands.at) ∙ sym e;
          wants = rw g s.wants;
          live = k ∙ s.live;
          ended = f ∙ sym (end_new (sent o) x no_end) ∙ ap has_end (sym e);
        })

  -- it asks
  pub ask_keeps : (sources : S → SourceState) (drains : D → DrainState) (book : Book) → IslandKeeps sources drains book i.net i.used → (new : Kept S D L H B) (left : ℕ) → new ≡ with_net i (moved_at i.net (way_out i u) (act.Pull 0)) → Leaves i u → can_pull (cell_out i u).wire.conn ≡ true → IsClearAt i.net (way_out i u) → elements (sent o) + left ≡ seen_count o → left ≢ 0 → Sends o new u
  ask_keeps sources drains book k new left is l can clear unused some =
      let c = cell_out i u in
      let there = get_there i.net.nodes (end_at i.net.ends (way_out i u)).to (k.laws.wired.to_within (way_out i u) l.place) in
      let all : c.wire.sent ≡ sent o = all_came c.wire _ (k.laws.sound (way_out i u) l.place) can ∙ came.got there.0 there.1 ∙ ap (λ (w : List Item). node_gone there.0 ++ w) (clear there.0 there.1) ∙ append-nil (node_gone there.0) ∙ s.gone there.0 there.1 in
      let count : elements c.wire.sent ≡ elements (sent o) = ap elements all in
      let asks : wanted (moved_by (act.Pull 0) c) ≡ elements c.wire.sent + 1 = rw can refl in
      let few : wanted (moved_by (act.Pull 0) c) ≤ seen_count o = omega (arith, asks, count, unused, some) in
      subst (λ (z : Kept S D L H B). Sends o z u) (sym is) (record {
        gone = s.gone;
        wants = subst (λ (z : WireState). wanted z ≤ seen_count o) (sym (get_or-set_same i.net.wires (way_out i u) (moved_by (act.Pull 0) c) no_wire l.place)) few;
        live = s.live;
        ended = s.ended;
      })

-- more is seen asked, and no cancel
pub look_keeps : {S D L H B : Type 0} (o p : LaneOut) (i : Kept S D L H B) (u : ℕ) → Sends o i u → sent p ≡ sent o → has_ended p ≡ has_ended o → seen_count o ≤ seen_count p → saw_cancel p ≡ 0 → Sends p i u
look_keeps o p i u s e f g h = let w = s.wants in record {
  gone = λ x at. s.gone x at ∙ sym e;
  wants = omega (arith, w, g);
  live = h;
  ended = f ∙ s.ended ∙ ap has_end (sym e);
}
