-- The graph goes on: its wiring stays, and each unit raises what its wires have cost.
use Rattle.std.proofs.Common.{◌≡◌, ◌≢◌, inl, inr, ℕ, ◌+◌, ◌<◌, ◌≤◌, Bool, false, ◌||◌, None, Some, List, [], ◌∷◌, length, slice_get, refl, sym, ap, ◌∙◌, subst, arith, get_or-set_same, get_or-set_other}
use Rattle.std.proofs.lemmas.List.{length-set}
use Rattle.elem_core.specs.Prefix.{IsPrefix}
use Rattle.elem_core.specs.declared.item.Item.{Item}
use Rattle.elem_core.specs.declared.item.Item.TheVariants as item
use Rattle.elem_core.specs.declared.count.TheConstants.{MOST_COUNT}
use Rattle.port_core.specs.Ring.{is_queued}
use Rattle.port_core.specs.Joint.{IsSound}
use Rattle.port_core.specs.View.{View}
use Rattle.port_core.specs.View as view
use Rattle.port_core.specs.Wire.{JointPorts, Delivery, nothing, pull, cancel, arrived, delivery_of, after_delivery, again}
use Rattle.port_core.specs.declared.act.Act.{Act}
use Rattle.port_core.specs.declared.act.Act.TheVariants.{Pull, Push, Complete, FailOut, Cancel}
use Rattle.port_core.specs.Cell.{WireState, moved_by}
use Rattle.port_core.specs.Marks.{IsMarked}
use Rattle.port_core.specs.Counts.{spent, asks, events_heard}
use Rattle.port_core.proofs.Counting.{pull_spent, push_spent, close_spent, cancel_spent, deliver_spent, pull_asks, push_asks, close_asks, cancel_asks, pull_heard, push_heard, close_heard, cancel_heard, deliver_heard}
use Rattle.fused_net.specs.declared.net.WireEnds.{WireEnds}
use Rattle.port_core.specs.Reading.{no_wire}
use Rattle.fused_net.specs.Net.{Net, end_at, target, delivered_on, wire_at, ports_at, view_of, wire_for, acted, acted_all, event_told, with_node, before}
use Rattle.stage_core.specs.Handling.{Pulls}
use Rattle.fused_net.specs.Laws.{AnyRow, AnyLaw, IsAsking, MovesGrow, IsMinded, AllAsked, AllMoments, Settled, Busy, NetGoesOn}
use Rattle.fused_net.specs.Costs.{total_cost, all_asks, all_heard, Uses}
use Rattle.fused_net.proofs.Reading.{same_or_not, some_same, get_there, get_set_same}
use Rattle.fused_net.proofs.Sums.{sum_le, sum_up, sum_up_most, by_place}
use Rattle.fused_net.proofs.Nets.{holds_put_same, holds_put_other}
use Rattle.fused_net.proofs.Acting.{Fits, fits, act_allowed, port_within, acted_busy, busy_any, acts_settled}
use Rattle.fused_net.proofs.Ongoing.{goes_trans, goes_put, goes_acts, goes_node}
use Rattle.fused_net.proofs.Asking.{moves_node, moves_from, asking_kept, after_acts, event_asked}
use Rattle.fused_net.proofs.Moments.{allowed_of, acts_moments, told_moments, node_moments}
use Rattle.fused_net.proofs.Delivering.{queued_here, queued_there, sound_here, nothing_settled}

-- the numbers of one wire
move_spent : (a : Act) (c : WireState) (q r : Bool) → IsSound c.wire q → Fits a c.wire → spent c.wire q ≤ spent (moved_by a c).wire r
move_spent (Pull i) c q r s f = pull_spent c.wire q r s f
move_spent (Push j e) c q r s f = push_spent e c.wire q r s f
move_spent (Complete j) c q r s f = close_spent None c.wire q r s f
move_spent (FailOut j d) c q r s f = close_spent (Some d) c.wire q r s f
move_spent (Cancel i) c q r s f = cancel_spent c.wire q r s f

move_asks : (a : Act) (c : WireState) → Fits a c.wire → asks (moved_by a c).wire ≤ asks c.wire
move_asks (Pull i) c f = pull_asks c.wire
move_asks (Push j e) c f = push_asks e c.wire f
move_asks (Complete j) c f = close_asks None c.wire
move_asks (FailOut j d) c f = close_asks (Some d) c.wire
move_asks (Cancel i) c f = cancel_asks c.wire

move_heard : (a : Act) (c : WireState) → IsMarked c → Fits a c.wire → events_heard (moved_by a c) ≤ events_heard c
move_heard (Pull i) c m f = pull_heard i c
move_heard (Push j e) c m f = push_heard j e c m f
move_heard (Complete j) c m f = close_heard None c
move_heard (FailOut j d) c m f = close_heard (Some d) c
move_heard (Cancel i) c m f = cancel_heard c

deliver_asks : (d : Delivery) (w : JointPorts) → asks (after_delivery d w) ≤ asks w + 1
deliver_asks nothing w = omega arith
deliver_asks pull w = omega arith
deliver_asks cancel w = omega arith
deliver_asks (arrived (item.Elem e) more) w = omega arith
deliver_asks (arrived item.Ended more) w = omega arith
deliver_asks (arrived (item.Failed c) more) w = omega arith

module _ {N : Type 0} where
  pub uses_trans : (a b c : Net N) (k l : ℕ) → Uses a b k → Uses b c l → Uses a c (k + l)
  uses_trans a b c k l f g = record { least = omega (arith, f.least, g.least); most = omega (arith, f.most, g.most); each = omega (arith, f.each, g.each) }

  pub uses_none : (net : Net N) → Uses net net 0
  uses_none net = record { least = omega arith; most = omega arith; each = omega arith }

  -- an action lowers no cost, raises no pull, and no end hears of it
  acted_uses : (net : Net N) (n : ℕ) (a : Act) (acts : List Act) → Busy AnyRow AnyLaw net n (a ∷ acts) → Uses net (acted net n a) 0
  acted_uses net n a acts busy =
      let x = get_there net.nodes n busy.within in
      let first = get_there net.firsts n (rw busy.each_first busy.within) in
      let f = fits net n a (act_allowed AnyRow AnyLaw net n a acts x.0 first.0 busy x.1 first.1) in
      let w : ℕ = wire_for a (ports_at net n) in
      let h : wire_for a (ports_at net n) < length net.wires = port_within net n a _ busy.wired busy.within f.0 in
      let cost : total_cost net ≤ total_cost (acted net n a) = rw length-set (sum_le _ _ (length net.wires) (λ k l. elim (same_or_not k (wire_for a (ports_at net n))) [
        | inl e ↦ rw e (rw (get_or-set_same net.wires (wire_for a (ports_at net n)) (moved_by a (wire_at net (wire_for a (ports_at net n)))) no_wire h) (move_spent a (wire_at net (wire_for a (ports_at net n))) _ _ (busy.sound _ h) f.1))
        | inr ne ↦ rw (get_or-set_other net.wires (wire_for a (ports_at net n)) k (moved_by a (wire_at net (wire_for a (ports_at net n)))) no_wire ne, holds_put_other net.queue (wire_for a (ports_at net n)) k _ ne) (omega arith)
      ])) in
      let asked : all_asks (acted net n a) ≤ all_asks net = rw length-set (sum_le _ _ (length net.wires) (λ k l. elim (same_or_not k (wire_for a (ports_at net n))) [
        | inl e ↦ rw e (rw (get_or-set_same net.wires (wire_for a (ports_at net n)) (moved_by a (wire_at net (wire_for a (ports_at net n)))) no_wire h) (move_asks a (wire_at net (wire_for a (ports_at net n))) f.1))
        | inr ne ↦ rw (get_or-set_other net.wires (wire_for a (ports_at net n)) k (moved_by a (wire_at net (wire_for a (ports_at net n)))) no_wire ne) (omega arith)
      ])) in
      let delivered_on : all_heard (acted net n a) ≤ all_heard net = rw length-set (sum_le _ _ (length net.wires) (λ k l. elim (same_or_not k (wire_for a (ports_at net n))) [
        | inl e ↦ rw e (rw (get_or-set_same net.wires (wire_for a (ports_at net n)) (moved_by a (wire_at net (wire_for a (ports_at net n)))) no_wire h) (move_heard a (wire_at net (wire_for a (ports_at net n))) (busy.marked _ h) f.1))
        | inr ne ↦ rw (get_or-set_other net.wires (wire_for a (ports_at net n)) k (moved_by a (wire_at net (wire_for a (ports_at net n)))) no_wire ne) (omega arith)
      ])) in
      record { least = omega (arith, cost); most = omega (arith, asked); each = omega (arith, delivered_on) }

  pub acts_uses : (acts : List Act) (net : Net N) (n : ℕ) → Busy AnyRow AnyLaw net n acts → Uses net (acted_all net n acts) 0
  acts_uses [] net n busy = uses_none net
  acts_uses (a ∷ acts) net n busy =
      let one = acted_uses net n a acts busy in
      let more = acts_uses acts (acted net n a) n (acted_busy AnyRow AnyLaw net n a acts busy) in
      record { least = omega (arith, one.least, more.least); most = omega (arith, one.most, more.most); each = omega (arith, one.each, more.each) }

  -- in the loop over the actions
  pub few_next : (net on : Net N) (n : ℕ) (a : Act) (old new : List Act) → old ≡ a ∷ new → on ≡ acted net n a → Busy AnyRow AnyLaw net n old → all_asks net ≤ MOST_COUNT → all_asks on ≤ MOST_COUNT
  few_next net on n a old new e is busy few =
      let at : Busy AnyRow AnyLaw net n (a ∷ new) = rw e at busy in
      rw is (let one = acted_uses net n a new at in omega (arith, one.most, few))

module _ {N : Type 0} (port_state : N → View → Type 0) (law : N → N → View → List (List Item) → List (List Item) → Type 0) (asking : N → View → Type 0) (moves : N → List ℕ) where
  -- the handler of node n was called, and its actions were done
  pub record Responds (old new : Net N) (n : ℕ) : Type 0 where
    pub node : N
    pub acts : List Act
    pub busy : Busy port_state law (with_node old n node) n acts
    pub asks : Pulls acts → asking node (view.acted_all (view_of old n) acts)
    pub grows : (x : N) → slice_get old.nodes n ≡ Some x → IsPrefix (moves x) (moves node)
    pub is : new ≡ acted_all (with_node old n node) n acts

module _ {N : Type 0} (port_state : N → View → Type 0) (law : N → N → View → List (List Item) → List (List Item) → Type 0) (asking : N → View → Type 0) (moves : N → List ℕ) where
  -- an event is delivered
  pub event_uses : (net : Net N) (w : ℕ) → Settled port_state law asking moves (before net w) → w < length net.wires → is_queued net.queue w ≡ false → Uses (before net w) (event_told net w) 1
  event_uses net w s h absent =
      let d : Delivery = delivery_of (wire_at net w).wire in
      let queue : is_queued (event_told net w).queue w ≡ again (delivery_of (wire_at net w).wire) = holds_put_same net.queue w (again (delivery_of (wire_at net w).wire)) ∙ ap (λ (q : Bool). q || again (delivery_of (wire_at net w).wire)) absent in
      let up : spent (wire_at net w).wire (is_queued (w ∷ net.queue) w) + 1 ≤ spent (after_delivery (delivery_of (wire_at net w).wire) (wire_at net w).wire) (is_queued (event_told net w).queue w) =
      rw (queued_here net.queue w, queue) (deliver_spent (wire_at net w).wire (sound_here port_state law asking moves net w s h)) in
      let cost : total_cost (before net w) + 1 ≤ total_cost (event_told net w) = rw length-set (sum_up _ _ (length net.wires) w h
      (λ k l. by_place (λ z. spent (wire_at (before net w) z).wire (is_queued (w ∷ net.queue) z)) (λ z. spent (wire_at (event_told net w) z).wire (is_queued (event_told net w).queue z)) w k
      (rw (get_or-set_same net.wires w _ no_wire h) (omega (arith, up)))
      (λ ne. rw (get_or-set_other net.wires w k _ no_wire ne, holds_put_other net.queue w k (again (delivery_of (wire_at net w).wire)) ne, queued_there net.queue w k ne) (omega arith)))
      (rw (get_or-set_same net.wires w _ no_wire h) up)) in
      let asked : all_asks (event_told net w) ≤ all_asks (before net w) + 1 = rw length-set (sum_up_most _ _ (length net.wires) w
      (λ k l ne. rw (get_or-set_other net.wires w k _ no_wire ne) (omega arith))
      (rw (get_or-set_same net.wires w _ no_wire h) (deliver_asks (delivery_of (wire_at net w).wire) (wire_at net w).wire))) in
      let delivered_on : all_heard (event_told net w) ≤ all_heard (before net w) + 1 = rw length-set (sum_up_most _ _ (length net.wires) w
      (λ k l ne. rw (get_or-set_other net.wires w k _ no_wire ne) (omega arith))
      (rw (get_or-set_same net.wires w _ no_wire h) (deliver_heard (delivery_of (wire_at net w).wire) (wire_at net w)))) in
      record { least = cost; most = asked; each = delivered_on }

  -- a node responded
  pub response_goes : (old new : Net N) (n : ℕ) → Responds port_state law asking moves old new n → NetGoesOn old new
  response_goes old new n r = rw r.is (goes_trans old (with_node old n r.node) _ (goes_node old n r.node) (goes_acts r.acts (with_node old n r.node) n))

  -- what the node tells as it pulls holds once its actions are done
  asked_after : (old new : Net N) (n : ℕ) → (r : Responds port_state law asking moves old new n) → Pulls r.acts → IsAsking asking (acted_all (with_node old n r.node) n r.acts) n
  asked_after old new n r pulls = asking_kept asking (with_node old n r.node) n r.acts (busy_any port_state law _ n r.acts r.busy)
      (λ x xi. let within : n < length old.nodes = rw length-set at r.busy.within in let same : r.node ≡ x = some_same r.node x (sym (get_set_same old.nodes n r.node within) ∙ xi) in rw same at (r.asks pulls))

  pub response_settled : (old new : Net N) (n : ℕ) → (r : Responds port_state law asking moves old new n) → AllAsked port_state law asking moves (with_node old n r.node) → AllMoments port_state law asking moves (with_node old n r.node) → Settled port_state law asking moves new
  response_settled old new n r asked moments =
      let any = busy_any port_state law (with_node old n r.node) n r.acts r.busy in
      let later : AllAsked port_state law asking moves (acted_all (with_node old n r.node) n r.acts) = after_acts port_state law asking moves (with_node old n r.node) n r.acts any r.busy.here (asked_after old new n r) asked in
      let last : AllMoments port_state law asking moves (acted_all (with_node old n r.node) n r.acts) =
      acts_moments port_state law asking moves (with_node old n r.node) n r.acts any (allowed_of port_state law (with_node old n r.node) n r.acts r.busy) r.busy.here (asked_after old new n r) later moments in
      rw r.is (acts_settled port_state law asking moves (with_node old n r.node) n r.acts r.busy later last)

  pub response_uses : (old new : Net N) (n : ℕ) → Responds port_state law asking moves old new n → Uses old new 0
  response_uses old new n r =
      let u = acts_uses r.acts (with_node old n r.node) n (busy_any port_state law _ n r.acts r.busy) in
      rw r.is (record { least = u.least; most = u.most; each = u.each })

  -- what is left once an event was handled
  pub record Handled (net new : Net N) (w : ℕ) : Type 0 where
    pub laws : Settled port_state law asking moves new
    pub on : NetGoesOn net new
    pub uses : Uses (before net w) new 1

  pub handled : (net v new : Net N) (w n : ℕ) (d : Delivery) (ends : WireEnds) → Settled port_state law asking moves (before net w) → w < length net.wires → is_queued net.queue w ≡ false
      → d ≡ delivery_of (wire_at net w).wire → d ≢ nothing → v ≡ event_told net w → ends ≡ end_at net.ends w → n ≡ target d ends → Responds port_state law asking moves v new n → Handled net new w
  handled net v new w n d ends s h absent e ne is same at r =
      let event : Uses (before net w) v 1 = rw is (event_uses net w s h absent) in
      let on : NetGoesOn net v = rw is (goes_put net w _ _) in
      let told_is : delivered_on net w d ≡ v = ap (λ (x : Delivery). delivered_on net w x) e ∙ sym is in
      let within : n < length v.nodes = rw length-set at r.busy.within in
      let to : n ≡ target d (end_at net.ends w) = at ∙ ap (λ (x : WireEnds). target d x) same in
      let moved : MovesGrow moves v (with_node v n r.node) = moves_node moves v n r.node within r.grows in
      let moved_on : MovesGrow moves (before net w) (with_node (delivered_on net w d) n r.node) = rw (sym told_is) at (moves_from moves (before net w) v n r.node (rw is refl) moved) in
      let asked : AllAsked port_state law asking moves (with_node v n r.node) =
      subst (λ (a : Net N). AllAsked port_state law asking moves (with_node a n r.node)) told_is (event_asked port_state law asking moves net w n d r.node ne to s.wired h moved_on s.asked) in
      let moments : AllMoments port_state law asking moves (with_node v n r.node) =
      node_moments port_state law asking moves v n r.node moved (subst (λ (a : Net N). AllMoments port_state law asking moves a) told_is (told_moments port_state law asking moves net w d h s.moments)) in
      let done = response_uses v new n r in
      record {
        laws = response_settled v new n r asked moments;
        on = goes_trans net v new on (response_goes v new n r);
        uses = record { least = omega (arith, event.least, done.least); most = omega (arith, event.most, done.most); each = omega (arith, event.each, done.each) };
      }

  pub handled_nothing : (net new : Net N) (w : ℕ) → Settled port_state law asking moves (before net w) → w < length net.wires → is_queued net.queue w ≡ false → delivery_of (wire_at net w).wire ≡ nothing → new ≡ event_told net w → Handled net new w
  handled_nothing net new w s h absent e is = rw is (record {
    laws = nothing_settled port_state law asking moves net w s h absent e;
    on = goes_put net w _ _;
    uses = event_uses net w s h absent;
  })
