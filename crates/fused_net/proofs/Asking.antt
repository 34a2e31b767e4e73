-- Each wire's last ask is kept while a node acts, and made anew where the node asks.
use Rattle.std.proofs.Common.{◌≡◌, ◌≢◌, ◌⊎◌, inl, inr, ℕ, zero, suc, ◌+◌, ◌<◌, ◌≤◌, Bool, true, false, None, Some, List, [], ◌∷◌, length, slice_get, refl, sym, ap, ◌∙◌, subst, arith, length-append, get_or-set_same, get_or-set_other}
use Rattle.std.proofs.lemmas.List.{length-set}
use Rattle.elem_core.specs.Prefix.{IsPrefix}
use Rattle.elem_core.proofs.Prefixes.{prefix_refl, prefix_trans, prefix_length, prefix_whole}
use Rattle.elem_core.specs.declared.item.Item.{Item}
use Rattle.elem_core.specs.declared.item.Item.TheVariants as item
use Rattle.port_core.specs.Asking.{NoCancel, PullsStand}
use Rattle.port_core.specs.Connection.{pulled}
use Rattle.port_core.specs.Decoding.{can_pull}
use Rattle.port_core.specs.Wire.{JointPorts, Delivery, nothing, pull, cancel, arrived, after_delivery, again}
use Rattle.port_core.specs.Joint.{Joint, idle, asking, asked, moving, ending, closing, leaving, finished, parted, cancelled, joint_wire, IsSound}
use Rattle.port_core.specs.View.{View}
use Rattle.port_core.specs.View as view
use Rattle.port_core.specs.declared.act.Act.{Act}
use Rattle.port_core.specs.declared.act.Act.TheVariants.{Pull, Push, Complete, FailOut, Cancel}
use Rattle.port_core.specs.declared.view.InView.TheVariants.{Idle, Pulled}
use Rattle.port_core.specs.declared.view.OutView.TheVariants.{Available}
use Rattle.port_core.specs.Cell.{WireState, moved_by}
use Rattle.port_core.specs.Marks.{wants, IsMarked, wanted, Grown}
use Rattle.port_core.proofs.Marking.{pull_grown, push_grown, close_grown, cancel_grown, push_wanted, close_wanted, deliver_grown, deliver_wanted, grown_same, grown_trans}
use Rattle.stage_core.specs.Handling.{Pulls}
use Rattle.fused_net.specs.PortLists.{PortLists}
use Rattle.port_core.specs.Reading.{no_wire}
use Rattle.fused_net.specs.Net.{Net, end_at, port_at, wire_at, ports_at, view_of, wire_for, target, put, acted, acted_all, told_by, delivered_on, with_node, before}
use Rattle.fused_net.specs.Laws.{AnyRow, AnyLaw, Wired, NetGoesOn, NodeStays, TellsStill, IsAsking, MovesGrow, IsMinded, LastAsk, AllAsked, Busy}
use Rattle.fused_net.proofs.Reading.{same_or_not, some_same, get_there, get_within, get_set_same, get_set_other}
use Rattle.fused_net.proofs.Ongoing.{goes_same, goes_trans, goes_put, goes_node}
use Rattle.fused_net.proofs.Acting.{Fits, PortAt, fits, act_allowed, port_within, queued, acted_busy, acts_busy, acts_here}

-- ---- one wire

-- an input that waits has not closed
open_j : (j : Joint) (s g : List Item) → (joint_wire j s g).inp ≡ Pulled → (joint_wire j s g).conn.in_closed ≡ false
open_j idle s g e = cc
open_j asking s g e = refl
open_j asked s g e = refl
open_j (moving x) s g e = refl
open_j (ending c) s g e = cc
open_j (closing t c) s g e = refl
open_j (leaving true t) s g e = cc
open_j (leaving false t) s g e = cc
open_j (finished t c) s g e = cc
open_j (parted t c) s g e = cc
open_j (cancelled t c) s g e = cc

waits_open : (w : JointPorts) (q : Bool) → IsSound w q → w.inp ≡ Pulled → w.conn.in_closed ≡ false
waits_open w q h e = ap (λ (v : JointPorts). v.conn.in_closed) h.is ∙ open_j h.joint w.sent w.got (sym (ap (λ (v : JointPorts). v.inp) h.is) ∙ e)

-- a pull that is on its way has not come to the output
unasked_j : (j : Joint) (s g : List Item) → (joint_wire j s g).inp ≡ Pulled → (joint_wire j s g).conn.step ≡ pulled → (joint_wire j s g).out ≡ Available → ⊥
unasked_j idle s g i t o = cc
unasked_j asking s g i t o = cc
unasked_j asked s g i t o = cc
unasked_j (moving x) s g i t o = cc
unasked_j (ending c) s g i t o = cc
unasked_j (closing u c) s g i t o = cc
unasked_j (leaving true u) s g i t o = cc
unasked_j (leaving false u) s g i t o = cc
unasked_j (finished u c) s g i t o = cc
unasked_j (parted u c) s g i t o = cc
unasked_j (cancelled u c) s g i t o = cc

not_come : (w : JointPorts) (q : Bool) → IsSound w q → w.inp ≡ Pulled → w.conn.step ≡ pulled → w.out ≡ Available → ⊥
not_come w q h i t o =
    unasked_j h.joint w.sent w.got (sym (ap (λ (v : JointPorts). v.inp) h.is) ∙ i) (sym (ap (λ (v : JointPorts). v.conn.step) h.is) ∙ t) (sym (ap (λ (v : JointPorts). v.out) h.is) ∙ o)

pub move_grown : (a : Act) (c : WireState) → Fits a c.wire → IsMarked c → Grown c (moved_by a c)
move_grown (Pull i) c f m = pull_grown c.wire c.asked
move_grown (Push j x) c f m = push_grown x c.wire c.asked (m.known f)
move_grown (Complete j) c f m = close_grown None c.wire c.asked
move_grown (FailOut j d) c f m = close_grown (Some d) c.wire c.asked
move_grown (Cancel i) c f m = cancel_grown c.wire c.asked

-- the pull of this wire was made by the actions so far, is on its way, and those still to do leave it; P is what a stage tells as it pulls
pub record AsksAt (p : PortLists) (acts : List Act) (w : ℕ) (c : WireState) (P : Type 0) : Type 0 where
  pub port : ℕ
  pub at : slice_get p.ins port ≡ Some w
  pub waits : c.wire.inp ≡ Pulled
  pub step : c.wire.conn.step ≡ pulled
  pub kept : NoCancel port acts
  pub tells : P

-- a port has one wire, and a wire one port
abbrev Once : PortLists → ℕ → Type 0
Once p w = (i k : ℕ) → slice_get p.ins i ≡ Some w → slice_get p.ins k ≡ Some w → i ≡ k

pull_here : (i : ℕ) (acts : List Act) (p : PortLists) (w : ℕ) (c : WireState) (t : Bool) → can_pull c.wire.conn ≡ t → slice_get p.ins i ≡ Some w → c.wire.inp ≡ Idle → NoCancel i acts
    → (L P : Type 0) → P → (1 ≤ wanted c → L ⊎ AsksAt p (Pull i ∷ acts) w c P) → 1 ≤ wanted (moved_by (Pull i) c) → ((wanted (moved_by (Pull i) c) ≡ wanted c) × L) ⊎ AsksAt p acts w (moved_by (Pull i) c) P
pull_here i acts p w c true e at f stands L P tells before some = inr (record { port = i; at = at; waits = refl; step = rw e refl; kept = stands; tells = tells })
pull_here i acts p w c false e at f stands L P tells before some =
    let same : wanted (moved_by (Pull i) c) ≡ wanted c = rw e refl in
    elim (before (subst (λ (n : ℕ). 1 ≤ n) same some)) [ inl l ↦ inl (same, l) | inr k ↦ let x = k.waits in cc ]

-- an action at the wire leaves its last ask, or is a new one
acted_here : (a : Act) (acts : List Act) (p : PortLists) (w : ℕ) (c : WireState) (q : Bool) → PortAt a p w → Fits a c.wire → IsSound c.wire q → IsMarked c → PullsStand (a ∷ acts) → Once p w
    → (L P : Type 0) → (Pulls (a ∷ acts) → P) → (1 ≤ wanted c → L ⊎ AsksAt p (a ∷ acts) w c P) → 1 ≤ wanted (moved_by a c) → ((wanted (moved_by a c) ≡ wanted c) × L) ⊎ AsksAt p acts w (moved_by a c) P
acted_here (Pull i) acts p w c q at f s m stands once L P tells before some = pull_here i acts p w c (can_pull c.wire.conn) refl at f stands.0 L P (tells tt) before some
acted_here (Push j x) acts p w c q at f s m stands once L P tells before some =
    let same : wanted (moved_by (Push j x) c) ≡ wanted c = push_wanted x c.wire c.asked (m.known f) in
    elim (before (subst (λ (n : ℕ). 1 ≤ n) same some)) [ inl l ↦ inl (same, l) | inr k ↦ absurd (not_come c.wire q s k.waits k.step f) ]
acted_here (Complete j) acts p w c q at f s m stands once L P tells before some =
    let same : wanted (moved_by (Complete j) c) ≡ wanted c = close_wanted None c.wire c.asked in
    elim (before (subst (λ (n : ℕ). 1 ≤ n) same some)) [ inl l ↦ inl (same, l) | inr k ↦ inr (record { port = k.port; at = k.at; waits = k.waits; step = k.step; kept = k.kept; tells = k.tells }) ]
acted_here (FailOut j d) acts p w c q at f s m stands once L P tells before some =
    let same : wanted (moved_by (FailOut j d) c) ≡ wanted c = close_wanted (Some d) c.wire c.asked in
    elim (before (subst (λ (n : ℕ). 1 ≤ n) same some)) [ inl l ↦ inl (same, l) | inr k ↦ inr (record { port = k.port; at = k.at; waits = k.waits; step = k.step; kept = k.kept; tells = k.tells }) ]
acted_here (Cancel i) acts p w c q at f s m stands once L P tells before some =
    elim (before some) [ inl l ↦ inl (refl, l) | inr k ↦ absurd (k.kept.0 (once i k.port at k.at)) ]

still_pulls : (a : Act) (acts : List Act) → Pulls acts → Pulls (a ∷ acts)
still_pulls (Pull k) acts h = tt
still_pulls (Push j x) acts h = h
still_pulls (Complete j) acts h = h
still_pulls (FailOut j d) acts h = h
still_pulls (Cancel k) acts h = h

still_kept : (a : Act) (acts : List Act) (i : ℕ) → NoCancel i (a ∷ acts) → NoCancel i acts
still_kept (Pull k) acts i h = h
still_kept (Push j x) acts i h = h
still_kept (Complete j) acts i h = h
still_kept (FailOut j d) acts i h = h
still_kept (Cancel k) acts i h = h.1

-- the one place of a list, and the places of none
only_place : (u i w : ℕ) → slice_get (u ∷ []) i ≡ Some w → u ≡ w
only_place u zero w e = cc
only_place u (suc i) w e = cc

no_place : (i w : ℕ) → slice_get [] i ≡ Some w → ⊥
no_place i w e = cc

-- an item that was brought makes the history of the input longer
brought_longer : (x : Item) (more : Bool) (w : JointPorts) → length (after_delivery (arrived x more) w).got ≡ length w.got + 1
brought_longer (item.Elem e) more w = length-append w.got (item.Elem e ∷ [])
brought_longer item.Ended more w = length-append w.got (item.Ended ∷ [])
brought_longer (item.Failed c) more w = length-append w.got (item.Failed c ∷ [])

-- ---- all wires

module _ {N : Type 0} where
  -- every wire goes on where one was put that goes on
  pub grown_put : (net : Net N) (w : ℕ) (new : WireState) (b : Bool) → w < length net.wires → Grown (wire_at net w) new → (u : ℕ) → Grown (wire_at net u) (wire_at (put net w new b) u)
  grown_put net w new b h g u = elim (same_or_not u w) [
    | inl same ↦ rw same (rw (get_or-set_same net.wires w new no_wire h) g)
    | inr other ↦ rw (get_or-set_other net.wires w u new no_wire other) (grown_same (wire_at net u))
  ]

  -- what a node tells still over one stretch it tells over two, where it is as it was over the other
  stays_trans : (tells : N → View → Type 0) (a b c : Net N) (w : ℕ) → NetGoesOn a b → IsPrefix (wire_at a w).wire.got (wire_at b w).wire.got → IsPrefix (wire_at b w).wire.got (wire_at c w).wire.got → TellsStill tells a b w → NodeStays b c w → TellsStill tells a c w
  stays_trans tells a b c w on p q f g k ins outs same x at =
      let count : length (wire_at c w).wire.got ≡ length (wire_at a w).wire.got = ap (λ (l : List Item). length l) same in
      let then : (wire_at a w).wire.got ≡ (wire_at b w).wire.got = prefix_whole p (omega (arith, count, prefix_length q)) in
      let ports : ports_at b k ≡ ports_at a k = ap (λ (l : List PortLists). port_at l k) on.ports in
      f k ins outs (sym then) x (sym (g k (ap (λ (z : PortLists). z.ins) ports ∙ ins) (ap (λ (z : PortLists). z.outs) ports ∙ outs) (same ∙ then)) ∙ at)

  -- ---- an event

  pub goes_told : (net : Net N) (w : ℕ) (d : Delivery) → NetGoesOn (before net w) (delivered_on net w d)
  goes_told net w d = record { firsts = refl; ends = refl; ports = refl; nodes = refl; wires = length-set _ _ _ }

  pub told_grown : (net : Net N) (w : ℕ) (d : Delivery) → w < length net.wires → (u : ℕ) → Grown (wire_at net u) (wire_at (delivered_on net w d) u)
  told_grown net w d h = grown_put net w (told_by d (wire_at net w)) (again d) h (deliver_grown d (wire_at net w).wire (wire_at net w).asked)

  pub told_wanted : (net : Net N) (w : ℕ) (d : Delivery) → w < length net.wires → (u : ℕ) → wanted (wire_at (delivered_on net w d) u) ≡ wanted (wire_at net u)
  told_wanted net w d h u = elim (same_or_not u w) [
    | inl e ↦ rw e (ap (λ (c : WireState). wanted c) (get_or-set_same net.wires w (told_by d (wire_at net w)) no_wire h) ∙ deliver_wanted d (wire_at net w).wire (wire_at net w).asked)
    | inr ne ↦ ap (λ (c : WireState). wanted c) (get_or-set_other net.wires w u (told_by d (wire_at net w)) no_wire ne)
  ]

  -- an item that was brought is in the history of the input
  came_there : (d : Delivery) (net : Net N) (w u k : ℕ) → d ≢ nothing → Wired net.ends net.ports (length net.nodes) (length net.wires) → w < length net.wires → k ≡ target d (end_at net.ends w)
      → (ports_at net k).ins ≡ u ∷ [] → (ports_at net k).outs ≡ [] → (wire_at (delivered_on net w d) u).wire.got ≡ (wire_at net u).wire.got → ⊥
  came_there nothing net w u k ne wired h to ins outs same = ne refl
  came_there pull net w u k ne wired h to ins outs same = no_place (end_at net.ends w).output w (rw (← to, outs) at (wired.from_output w h))
  came_there cancel net w u k ne wired h to ins outs same = no_place (end_at net.ends w).output w (rw (← to, outs) at (wired.from_output w h))
  came_there (arrived x more) net w u k ne wired h to ins outs same =
      let here : u ≡ w = only_place u (end_at net.ends w).input w (rw (← to, ins) at (wired.to_input w h)) in
      let now : (wire_at (delivered_on net w (arrived x more)) w).wire.got ≡ (wire_at net w).wire.got = rw here at same in
      let told_here : wire_at (delivered_on net w (arrived x more)) w ≡ told_by (arrived x more) (wire_at net w) = get_or-set_same net.wires w (told_by (arrived x more) (wire_at net w)) no_wire h in
      let longer : length (told_by (arrived x more) (wire_at net w)).wire.got ≡ length (wire_at net w).wire.got = ap (λ (l : List Item). length l) (rw told_here at now) in
      let more_got = brought_longer x more (wire_at net w).wire in
      omega (arith, longer, more_got)

  -- the moves grow where the nodes stay, over two stretches, and where a node is replaced by one whose moves begin with its own
  pub moves_same : (moves : N → List ℕ) (a b : Net N) → b.nodes ≡ a.nodes → MovesGrow moves a b
  moves_same moves a b same k x y xk yk = let at : x ≡ y = some_same x y (sym xk ∙ (ap (λ (l : List N). slice_get l k) (sym same) ∙ yk)) in rw at (prefix_refl (moves y))

  pub moves_trans : (moves : N → List ℕ) (a b c : Net N) → NetGoesOn a b → MovesGrow moves a b → MovesGrow moves b c → MovesGrow moves a c
  moves_trans moves a b c on f g k x z xk zk =
      let within : k < length b.nodes = let n = on.nodes in let h = get_within a.nodes k x xk in omega (arith, n, h) in
      let y = get_there b.nodes k within in
      prefix_trans (f k x y.0 xk y.1) (g k y.0 z y.1 zk)

  pub moves_node : (moves : N → List ℕ) (net : Net N) (n : ℕ) (y : N) → n < length net.nodes → ((x : N) → slice_get net.nodes n ≡ Some x → IsPrefix (moves x) (moves y)) → MovesGrow moves net (with_node net n y)
  moves_node moves net n y h grows k x z xk zk = elim (same_or_not k n) [
    | inl e ↦
        let here : slice_get net.nodes n ≡ Some x = rw e at xk in
        let there : slice_get (with_node net n y).nodes n ≡ Some z = rw e at zk in
        let same : y ≡ z = some_same y z (sym (get_set_same net.nodes n y h) ∙ there) in
        rw same at (grows x here)
    | inr ne ↦
        let same : x ≡ z = some_same x z (sym xk ∙ (sym (get_set_other net.nodes n k y ne) ∙ zk)) in
        rw same (prefix_refl (moves z))
  ]

  pub moves_from : (moves : N → List ℕ) (net v : Net N) (n : ℕ) (y : N) → v.nodes ≡ net.nodes → MovesGrow moves v (with_node v n y) → MovesGrow moves net (with_node v n y)
  moves_from moves net v n y same moved k x z xk zk = moved k x z (ap (λ (l : List N). slice_get l k) same ∙ xk) zk

  -- what a stage tells as it pulls holds of the graph once its actions are done
  pub asking_kept : (tells : N → View → Type 0) (net : Net N) (n : ℕ) (acts : List Act) → Busy AnyRow AnyLaw net n acts → ((x : N) → slice_get net.nodes n ≡ Some x → tells x (view.acted_all (view_of net n) acts)) → IsAsking tells (acted_all net n acts) n
  asking_kept tells net n acts busy known x at =
      let ends = acts_busy AnyRow AnyLaw acts net n busy in
      let held : IsMinded tells AnyLaw net n acts = λ y first yi fi. record { allowed = (busy.here y first yi fi).allowed; port_state_holds = known y yi; law_holds = tt } in
      let done = acts_here tells AnyLaw acts net n busy held in
      let first = get_there (acted_all net n acts).firsts n (rw ends.each_first ends.within) in
      (done x first.0 at first.1).port_state_holds

  -- another node stands in the place of node n
  node_elsewhere : (net : Net N) (n k : ℕ) (y : N) → (k ≡ n → ⊥) → slice_get (with_node net n y).nodes k ≡ slice_get net.nodes k
  node_elsewhere net n k y ne = get_set_other net.nodes n k y ne

module _ {N : Type 0} (port_state : N → View → Type 0) (law : N → N → View → List (List Item) → List (List Item) → Type 0) (asking : N → View → Type 0) (moves : N → List ℕ) where
  -- the last ask stays the last one where the graph goes on and the wire is not pulled again
  pub later : (net new : Net N) (w : ℕ) → w < length net.wires → NetGoesOn net new → ((u : ℕ) → Grown (wire_at net u) (wire_at new u)) → MovesGrow moves net new → NodeStays net new w → wanted (wire_at new w) ≡ wanted (wire_at net w) → LastAsk port_state law asking moves net w → LastAsk port_state law asking moves new w
  later net new w h on grown moved stays same a = record {
    old = a.old;
    on = goes_trans a.old net new a.on on;
    grown = λ u h. grown_trans (wire_at a.old u) (wire_at net u) (wire_at new u) (a.grown u h) (grown u);
    moves_on = moves_trans moves a.old net new a.on a.moves_on moved;
    sound = a.sound;
    marked = a.marked;
    waits = a.waits;
    asked = a.asked;
    same = same ∙ a.same;
    stays = stays_trans asking a.old net new w a.on (a.grown w (rw a.on.wires at h)).got (grown w).got a.stays stays;
    minded = a.minded;
    asking_then = a.asking_then;
  }

  -- each wire whose input has pulled has a last ask, or it was pulled by the actions of node n so far
  abbrev AskedOr : Net N → ℕ → List Act → Type 0 → Type 0
  AskedOr net n acts P = (w : ℕ) → w < length net.wires → 1 ≤ wanted (wire_at net w) → LastAsk port_state law asking moves net w ⊎ AsksAt (ports_at net n) acts w (wire_at net w) P

  acted_asked : (net : Net N) (n : ℕ) (a : Act) (acts : List Act) → Busy AnyRow AnyLaw net n (a ∷ acts) → (P : Type 0) → (Pulls (a ∷ acts) → P) → AskedOr net n (a ∷ acts) P → AskedOr (acted net n a) n acts P
  acted_asked net n a acts busy P tells before w h some =
      let x = get_there net.nodes n busy.within in
      let first = get_there net.firsts n (rw busy.each_first busy.within) in
      let f = fits net n a (act_allowed AnyRow AnyLaw net n a acts x.0 first.0 busy x.1 first.1) in
      let at : wire_for a (ports_at net n) < length net.wires = port_within net n a _ busy.wired busy.within f.0 in
      let within : w < length net.wires = rw length-set at h in
      let on : NetGoesOn net (acted net n a) = goes_put net (wire_for a (ports_at net n)) _ (queued net n a) in
      let grown : (u : ℕ) → Grown (wire_at net u) (wire_at (acted net n a) u) =
      grown_put net (wire_for a (ports_at net n)) (moved_by a (wire_at net (wire_for a (ports_at net n)))) (queued net n a) at (move_grown a (wire_at net (wire_for a (ports_at net n))) f.1 (busy.marked _ at)) in
      elim (same_or_not w (wire_for a (ports_at net n))) [
        | inl here ↦
            let moved : wire_at (acted net n a) w ≡ moved_by a (wire_at net w) = rw here (get_or-set_same net.wires (wire_for a (ports_at net n)) (moved_by a (wire_at net (wire_for a (ports_at net n)))) no_wire at) in
            let port : PortAt a (ports_at net n) w = rw here f.0 in
            let may : Fits a (wire_at net w).wire = rw here f.1 in
            let some' : 1 ≤ wanted (moved_by a (wire_at net w)) = rw moved at some in
            let r = acted_here a acts (ports_at net n) w (wire_at net w) _ port may (busy.sound w within) (busy.marked w within) busy.stands
            (λ i k e d. sym (busy.wired.input_to n i w busy.within e).1.1 ∙ (busy.wired.input_to n k w busy.within d).1.1)
            (LastAsk port_state law asking moves net w) P tells (before w within) some' in
            elim r [
              | inl l ↦ inl (later net (acted net n a) w within on grown (moves_same moves net (acted net n a) refl) (λ k _ _ _. refl) (ap (λ (c : WireState). wanted c) moved ∙ l.0) l.1)
              | inr k ↦ inr (rw moved k)
            ]
        | inr other ↦
            let same : wire_at (acted net n a) w ≡ wire_at net w = get_or-set_other net.wires (wire_for a (ports_at net n)) w _ no_wire other in
            let some' : 1 ≤ wanted (wire_at net w) = rw same at some in
            elim (before w within some') [
              | inl l ↦ inl (later net (acted net n a) w within on grown (moves_same moves net (acted net n a) refl) (λ k _ _ _. refl) (ap (λ (c : WireState). wanted c) same) l)
              | inr k ↦ inr (rw same (record { port = k.port; at = k.at; waits = k.waits; step = k.step; kept = still_kept a acts k.port k.kept; tells = k.tells }))
            ]
      ]

  acts_asked : (acts : List Act) (net : Net N) (n : ℕ) → Busy AnyRow AnyLaw net n acts → (P : Type 0) → (Pulls acts → P) → AskedOr net n acts P → AskedOr (acted_all net n acts) n [] P
  acts_asked [] net n busy P tells before = before
  acts_asked (a ∷ acts) net n busy P tells before =
      acts_asked acts (acted net n a) n (acted_busy AnyRow AnyLaw net n a acts busy) P (λ h. tells (still_pulls a acts h)) (acted_asked net n a acts busy P tells before)

  -- once its actions are done, a pull that the node made is the last one of its wire
  done_asked : (net : Net N) (n : ℕ) → Busy AnyRow AnyLaw net n [] → IsMinded port_state law net n [] → AskedOr net n [] (IsAsking asking net n) → AllAsked port_state law asking moves net
  done_asked net n busy minded before w h some = elim (before w h some) [
    | inl l ↦ l
    | inr k ↦
        let to : (end_at net.ends w).to ≡ n = (busy.wired.input_to n k.port w busy.within k.at).1.0 in
        let mark : (wire_at net w).asked ≡ wants (wire_at net w).wire.conn.step = (busy.marked w h).unclosed (waits_open (wire_at net w).wire _ (busy.sound w h) k.waits) in
        record {
          old = net;
          on = goes_same net;
          grown = λ u hu. grown_same (wire_at net u);
          moves_on = moves_same moves net net refl;
          sound = busy.sound;
          marked = busy.marked;
          waits = k.waits;
          asked = mark ∙ ap wants k.step;
          same = refl;
          stays = λ j ins outs same x at.
              let within : j < length net.nodes = get_within net.nodes j x at in
              let here : n ≡ j = sym to ∙ (busy.wired.input_to j 0 w within (ap (λ (l : List ℕ). slice_get l 0) ins)).1.0 in
              subst (λ (i : ℕ). asking x (view_of net i)) here (k.tells x (ap (slice_get net.nodes) here ∙ at));
          minded = rw to minded;
          asking_then = rw to k.tells;
        }
  ]

  pub after_acts : (net : Net N) (n : ℕ) (acts : List Act) → Busy AnyRow AnyLaw net n acts → IsMinded port_state law net n acts → (Pulls acts → IsAsking asking (acted_all net n acts) n) → AllAsked port_state law asking moves net → AllAsked port_state law asking moves (acted_all net n acts)
  after_acts net n acts busy minded tells all =
      done_asked (acted_all net n acts) n (acts_busy AnyRow AnyLaw acts net n busy) (acts_here port_state law acts net n busy minded) (acts_asked acts net n busy (IsAsking asking (acted_all net n acts) n) tells (λ w h some. inl (all w h some)))

  -- ---- an event, and another node in a node's place

  pub told_asked : (net : Net N) (w : ℕ) (d : Delivery) → w < length net.wires → AllAsked port_state law asking moves (before net w) → AllAsked port_state law asking moves (delivered_on net w d)
  told_asked net w d h all u hu some =
      let within : u < length net.wires = rw length-set at hu in
      later (before net w) (delivered_on net w d) u within (goes_told net w d) (told_grown net w d h) (moves_same moves (before net w) (delivered_on net w d) refl) (λ k _ _ _. refl) (told_wanted net w d h u) (all u within (subst (λ (n : ℕ). 1 ≤ n) (told_wanted net w d h u) some))

  -- the event of wire w was delivered, and another node stands in the place of the one that heard it
  pub event_asked : (net : Net N) (w n : ℕ) (d : Delivery) (y : N) → d ≢ nothing → n ≡ target d (end_at net.ends w) → Wired net.ends net.ports (length net.nodes) (length net.wires) → w < length net.wires
      → MovesGrow moves (before net w) (with_node (delivered_on net w d) n y) → AllAsked port_state law asking moves (before net w) → AllAsked port_state law asking moves (with_node (delivered_on net w d) n y)
  event_asked net w n d y ne to wired h moved all u hu some =
      let within : u < length net.wires = rw length-set at hu in
      later (before net w) (with_node (delivered_on net w d) n y) u within (goes_trans (before net w) (delivered_on net w d) (with_node (delivered_on net w d) n y) (goes_told net w d) (goes_node (delivered_on net w d) n y)) (told_grown net w d h) moved
      (λ k ins outs same. node_elsewhere net n k y (λ e. came_there d net w u k ne wired h (e ∙ to) ins outs same))
      (told_wanted net w d h u) (all u within (subst (λ (m : ℕ). 1 ≤ m) (told_wanted net w d h u) some))

  -- another node stands in the place of one, and tells still what that told as it last pulled
  pub swap_asked : (net : Net N) (n : ℕ) (x y : N) → n < length net.nodes → slice_get net.nodes n ≡ Some x → ((v : View) → asking x v → asking y v) → MovesGrow moves net (with_node net n y) → AllAsked port_state law asking moves net → AllAsked port_state law asking moves (with_node net n y)
  swap_asked net n x y h at tells moved all w l some =
      let last = all w l some in
      record {
        old = last.old;
        on = goes_trans last.old net (with_node net n y) last.on (goes_node net n y);
        grown = last.grown;
        moves_on = moves_trans moves last.old net (with_node net n y) last.on last.moves_on moved;
        sound = last.sound;
        marked = last.marked;
        waits = last.waits;
        asked = last.asked;
        same = last.same;
        stays = λ k ins outs got z zi. elim (same_or_not k n) [
          | inl e ↦
              let there : slice_get (with_node net n y).nodes n ≡ Some z = ap (slice_get (with_node net n y).nodes) (sym e) ∙ zi in
              let same : y ≡ z = some_same y z (sym (get_set_same net.nodes n y h) ∙ there) in
              subst (λ (a : N). asking a (view_of last.old k)) same (tells (view_of last.old k) (last.stays k ins outs got x (ap (slice_get net.nodes) e ∙ at)))
          | inr ne ↦ last.stays k ins outs got z (sym (node_elsewhere net n k y ne) ∙ zi)
        ];
        minded = last.minded;
        asking_then = last.asking_then;
      }

  -- another node stands in the place of one that has not pulled
  pub node_asked : (net : Net N) (n : ℕ) (y : N) → ((u : ℕ) → u < length net.wires → (ports_at net n).ins ≡ u ∷ [] → 1 ≤ wanted (wire_at net u) → ⊥) → MovesGrow moves net (with_node net n y) → AllAsked port_state law asking moves net → AllAsked port_state law asking moves (with_node net n y)
  node_asked net n y none moved all w h some = later net (with_node net n y) w h (goes_node net n y) (λ u. grown_same (wire_at net u)) moved
      (λ k ins outs same. node_elsewhere net n k y (λ e. none w h (rw e at ins) some)) refl (all w h some)
