-- An event's delivery and its handling keep the graph's laws.
use Rattle.std.proofs.Common.{◌≡◌, ◌≢◌, ℕ, ◌<◌, Bool, true, false, if◌then◌else◌, Some, List, [], ◌∷◌, ◌++◌, length, get_or, set-set, slice_get, refl, sym, ap, ◌∙◌, subst, arith}
use Rattle.std.proofs.lemmas.Grind.{common_steps}
use Rattle.std.proofs.lemmas.Bool.Decides.{nat_tests}
use Rattle.std.proofs.lemmas.List.{length-set, get_or_default}
use Rattle.elem_core.specs.Tree.{Tree}
use Rattle.elem_core.specs.declared.item.Item.{Item}
use Rattle.elem_core.specs.declared.item.Item.TheVariants as item
use Rattle.port_core.specs.Ring.{is_queued}
use Rattle.port_core.specs.Joint.{IsSound, Heard}
use Rattle.port_core.specs.View.{View, IsOutOpen}
use Rattle.port_core.specs.View as view
use Rattle.port_core.specs.Asking.{PullsStand}
use Rattle.port_core.specs.Call.{Call, CallAllowed, MayCome, Meets, seen}
use Rattle.port_core.specs.Wire.{Delivery, nothing, pull, cancel, arrived, end_item, delivery_of, after_delivery, again}
use Rattle.port_core.specs.declared.act.Act.{Act}
use Rattle.port_core.specs.declared.view.InView.TheVariants.{Cancelled}
use Rattle.port_core.specs.declared.view.OutView.TheVariants.{Closed}
use Rattle.port_core.proofs.Wires.{deliver_kept, deliver_heard}
use Rattle.port_core.specs.Cell.{WireState, brought_in, delivered, Brings, Brought}
use Rattle.port_core.specs.Marks.{IsMarked}
use Rattle.port_core.proofs.Marking.{deliver_marked}
use Rattle.stage_core.specs.Histories.{brought_by}
use Rattle.stage_core.specs.Rooms.{HasRoom}
use Rattle.stage_core.specs.Handling.{Pulls, PullsAs, Handles}
use Rattle.fused_net.specs.declared.net.WireEnds.{WireEnds}
use Rattle.port_core.specs.Reading.{no_wire, inp_of, out_of, got_of, sent_of}
use Rattle.fused_net.specs.Net.{Net, end_at, wire_at, ports_at, view_of, took, gave, target, call_of, put, told_by, delivered_on, event_told, with_node, before}
use Rattle.fused_net.specs.Laws.{HaveRoom, AnyLaw, Wired, Minds, IsMinded, Settled, Busy}
use Rattle.fused_net.proofs.Reading.{has_room, read_same, read_at, some_same, get_there, get_set_same, get_set_other}
use Rattle.fused_net.proofs.Nets.{sound_put, marked_put, minds_along, others_in, others_out, here_in, here_out}
use Rattle.fused_net.proofs.Acting.{keep_at}
use Rattle.fused_net.proofs.Asking.{told_asked}
use Rattle.fused_net.proofs.Moments.{told_moments}

-- ---- an event that is told in two steps, where it brings an element

pub brings_elem : (old new : WireState) (e : Tree) (more : Bool) → Brings more old new → new.wire.conn.to_grab ≡ Some e → arrived (item.Elem e) more ≡ delivery_of old.wire
brings_elem old new e more b there = sym (b.brings ∙ ap (λ (t : Tree). arrived (item.Elem t) more) (some_same b.e e (sym b.waits ∙ there)))

module _ {N : Type 0} where
  put_twice : (net : Net N) (w : ℕ) (c x : WireState) (more : Bool) → put (put net w c false) w x more ≡ put net w x more
  put_twice net w c x more = ap (λ (ws : List WireState). record net { wires = ws; queue = if more then net.queue ++ w ∷ [] else net.queue }) (set-set net.wires w c x)

  pub told_brought : (net v : Net N) (w : ℕ) (d : Delivery) → Brought d (wire_at net w) (wire_at v w) → v ≡ put net w (wire_at v w) false → again d ≡ false → v ≡ event_told net w
  told_brought net v w d b is last =
      is ∙ ap (λ (c : WireState). put net w c false) b.after ∙ ap (λ (q : Bool). put net w (delivered (wire_at net w)) q) (sym last ∙ ap again (sym b.brings))

  pub told_brings : (net v new : Net N) (w : ℕ) (e : Tree) (more : Bool) → Brings more (wire_at net w) (wire_at v w) → v ≡ put net w (wire_at v w) false → (wire_at v w).wire.conn.to_grab ≡ Some e → new ≡ put v w (brought_in e (wire_at v w)) more → new ≡ event_told net w
  told_brings net v new w e more b is there on =
      let c = wire_at v w in
      let same : b.e ≡ e = some_same b.e e (sym b.waits ∙ there) in
      on
      ∙ ap (λ (a : Net N). put a w (brought_in e c) more) is
      ∙ put_twice net w c (brought_in e c) more
      ∙ ap (λ (x : WireState). put net w x more) (ap (λ (t : Tree). brought_in t c) (sym same) ∙ b.after)
      ∙ ap (λ (q : Bool). put net w (delivered (wire_at net w)) q) (sym (ap again b.brings))

  -- the end that is told is the one that the wire has, as it is read behind the telling
  pub told_end : (net told u : Net N) (w : ℕ) (c : WireState) (i : Item) → w < length net.wires → told ≡ put net w (wire_at told w) false → u ≡ told → c ≡ get_or u.wires w c → i ≡ end_item c.wire.conn.cause
      → Brought (arrived (end_item (wire_at told w).wire.conn.cause) false) (wire_at net w) (wire_at told w) → delivery_of (wire_at net w).wire ≡ arrived i false
  told_end net told u w c i h tells is at end brought =
      let same : length net.wires ≡ length u.wires = sym (length-set net.wires w (wire_at told w)) ∙ sym (ap (λ (a : Net N). length a.wires) tells) ∙ sym (ap (λ (a : Net N). length a.wires) is) in
      let within : w < length u.wires = subst (λ (k : ℕ). w < k) same h in
      let read : c ≡ wire_at told w = at ∙ get_or_default u.wires w c no_wire within ∙ ap (λ (a : Net N). wire_at a w) is in
      brought.brings ∙ ap (λ (t : Item). arrived t false) (sym (end ∙ ap (λ (x : WireState). end_item x.wire.conn.cause) read))

pub queued_here : (queue : List ℕ) (w : ℕ) → is_queued (w ∷ queue) w ≡ true
queued_here queue w = grind (arith, common_steps, nat_tests)

pub queued_there : (queue : List ℕ) (w u : ℕ) → u ≢ w → is_queued (w ∷ queue) u ≡ is_queued queue u
queued_there queue w u n = grind (arith, common_steps, nat_tests)

module _ {N : Type 0} where
  pub target_within : (d : Delivery) (net : Net N) (w : ℕ) → Wired net.ends net.ports (length net.nodes) (length net.wires) → w < length net.wires → target d (end_at net.ends w) < length net.nodes
  target_within nothing net w wired h = wired.from_within w h
  target_within pull net w wired h = wired.from_within w h
  target_within cancel net w wired h = wired.from_within w h
  target_within (arrived x more) net w wired h = wired.to_within w h

  -- the event comes where the node's view allows it
  pub may_at : (d : Delivery) (net : Net N) (w : ℕ) → d ≢ nothing → Wired net.ends net.ports (length net.nodes) (length net.wires) → w < length net.wires → Heard d (wire_at net w).wire
      → CallAllowed (call_of d (end_at net.ends w)) (view_of net (target d (end_at net.ends w)))
  may_at nothing net w n wired h m = absurd (n refl)
  may_at pull net w n wired h m = read_at out_of net.wires (ports_at net (end_at net.ends w).from).outs (end_at net.ends w).output w Closed (wired.from_output w h) ∙ m
  may_at cancel net w n wired h m = subst IsOutOpen (sym (read_at out_of net.wires (ports_at net (end_at net.ends w).from).outs (end_at net.ends w).output w Closed (wired.from_output w h))) m
  may_at (arrived x more) net w n wired h m = subst (MayCome x) (sym (read_at inp_of net.wires (ports_at net (end_at net.ends w).to).ins (end_at net.ends w).input w Cancelled (wired.to_input w h))) m

module _ {N : Type 0} (port_state : N → View → Type 0) (law : N → N → View → List (List Item) → List (List Item) → Type 0) where
  -- an event was handled
  pub minds_event : (call : Call) (x y first : N) (v : View) (t g : List (List Item)) (acts : List Act) → Handles port_state law call x y acts → CallAllowed call v
      → Minds port_state law x first v t g [] → Minds port_state law y first (seen call v) (brought_by call t) g acts
  minds_event call x y first v t g acts d may m = record {
    allowed = d.obeys.allowed v may m.port_state_holds;
    port_state_holds = d.obeys.ports v may m.port_state_holds;
    law_holds = d.keeps first v t g may m.port_state_holds m.law_holds;
  }

  -- what the node that heard it knows
  here_told : (d : Delivery) (net : Net N) (w : ℕ) (y first : N) (acts : List Act) → d ≢ nothing → Wired net.ends net.ports (length net.nodes) (length net.wires) → w < length net.wires
      → Minds port_state law y first (seen (call_of d (end_at net.ends w)) (view_of net (target d (end_at net.ends w)))) (brought_by (call_of d (end_at net.ends w)) (took net (target d (end_at net.ends w)))) (gave net (target d (end_at net.ends w))) acts
      → Minds port_state law y first (view_of (delivered_on net w d) (target d (end_at net.ends w))) (took (delivered_on net w d) (target d (end_at net.ends w))) (gave (delivered_on net w d) (target d (end_at net.ends w))) acts
  here_told nothing net w y first acts n wired h m = absurd (n refl)
  here_told pull net w y first acts n wired h m =
      here_out port_state law net y first (end_at net.ends w).from (end_at net.ends w).output w _ false acts wired (wired.from_within w h) (wired.from_output w h) h refl refl
      (rw (keep_at sent_of net.wires (ports_at net (end_at net.ends w).from).outs (end_at net.ends w).output w [] (wired.from_output w h)) m)
  here_told cancel net w y first acts n wired h m =
      here_out port_state law net y first (end_at net.ends w).from (end_at net.ends w).output w _ false acts wired (wired.from_within w h) (wired.from_output w h) h refl refl
      (rw (keep_at sent_of net.wires (ports_at net (end_at net.ends w).from).outs (end_at net.ends w).output w [] (wired.from_output w h)) m)
  here_told (arrived (item.Elem x) more) net w y first acts n wired h m =
      here_in port_state law net y first (end_at net.ends w).to (end_at net.ends w).input w _ more acts wired (wired.to_within w h) (wired.to_input w h) h refl refl
      (rw (read_at got_of net.wires (ports_at net (end_at net.ends w).to).ins (end_at net.ends w).input w [] (wired.to_input w h)) at m)
  here_told (arrived item.Ended more) net w y first acts n wired h m =
      here_in port_state law net y first (end_at net.ends w).to (end_at net.ends w).input w _ more acts wired (wired.to_within w h) (wired.to_input w h) h refl refl
      (rw (read_at got_of net.wires (ports_at net (end_at net.ends w).to).ins (end_at net.ends w).input w [] (wired.to_input w h)) at m)
  here_told (arrived (item.Failed c) more) net w y first acts n wired h m =
      here_in port_state law net y first (end_at net.ends w).to (end_at net.ends w).input w _ more acts wired (wired.to_within w h) (wired.to_input w h) h refl refl
      (rw (read_at got_of net.wires (ports_at net (end_at net.ends w).to).ins (end_at net.ends w).input w [] (wired.to_input w h)) at m)

  others_told : (d : Delivery) (net : Net N) (w : ℕ) → d ≢ nothing → Wired net.ends net.ports (length net.nodes) (length net.wires) → w < length net.wires
      → (k : ℕ) → k < length net.nodes → k ≢ target d (end_at net.ends w) → IsMinded port_state law net k [] → IsMinded port_state law (delivered_on net w d) k []
  others_told nothing net w n wired h = absurd (n refl)
  others_told pull net w n wired h = others_out port_state law net (end_at net.ends w).from (end_at net.ends w).output w _ false wired (wired.from_within w h) (wired.from_output w h) h refl refl
  others_told cancel net w n wired h = others_out port_state law net (end_at net.ends w).from (end_at net.ends w).output w _ false wired (wired.from_within w h) (wired.from_output w h) h refl refl
  others_told (arrived (item.Elem x) more) net w n wired h = others_in port_state law net (end_at net.ends w).to (end_at net.ends w).input w _ more wired (wired.to_within w h) (wired.to_input w h) h refl refl
  others_told (arrived item.Ended more) net w n wired h = others_in port_state law net (end_at net.ends w).to (end_at net.ends w).input w _ more wired (wired.to_within w h) (wired.to_input w h) h refl refl
  others_told (arrived (item.Failed c) more) net w n wired h = others_in port_state law net (end_at net.ends w).to (end_at net.ends w).input w _ more wired (wired.to_within w h) (wired.to_input w h) h refl refl

  -- a node is replaced by one that minds what it knows
  pub with_node_busy : (net : Net N) (n : ℕ) (y : N) (acts : List Act) → Wired net.ends net.ports (length net.nodes) (length net.wires) → length net.firsts ≡ length net.nodes
      → ((u : ℕ) → u < length net.wires → IsSound (wire_at net u).wire (is_queued net.queue u)) → ((u : ℕ) → u < length net.wires → IsMarked (wire_at net u)) → n < length net.nodes → PullsStand acts
      → ((first : N) → slice_get net.firsts n ≡ Some first → Minds port_state law y first (view_of net n) (took net n) (gave net n) acts)
      → ((k : ℕ) → k < length net.nodes → k ≢ n → IsMinded port_state law net k [])
      → Busy port_state law (with_node net n y) n acts
  with_node_busy net n y acts wired each sound marked h stands m others = record {
    wired = rw length-set wired;
    each_first = rw length-set each;
    sound = sound;
    marked = marked;
    within = rw length-set h;
    stands = stands;
    here = λ x first xi fi. let same : y ≡ x = some_same y x (sym (get_set_same net.nodes n y h) ∙ xi) in subst (λ (z : N). Minds port_state law z first (view_of net n) (took net n) (gave net n) acts) same (m first fi);
    others = λ k hk ne x first xi fi. let within : k < length net.nodes = rw length-set at hk in
        others k within ne x first (sym (get_set_other net.nodes n k y ne) ∙ xi) fi;
  }

module _ {N : Type 0} (port_state : N → View → Type 0) (law : N → N → View → List (List Item) → List (List Item) → Type 0) where
  -- whatever the handler of node n does for this call, the laws stand with its actions still to do
  abbrev pub Awaits : Call → Net N → ℕ → Type 0
  Awaits call net n = (x y : N) (acts : List Act) → slice_get net.nodes n ≡ Some x → Handles port_state law call x y acts → Busy port_state law (with_node net n y) n acts

  -- and what it tells as it pulls is told of the graph
  abbrev pub TellsAsking : (N → View → Type 0) → Call → Net N → ℕ → Type 0
  TellsAsking asking call net n = (x y : N) (acts : List Act) → slice_get net.nodes n ≡ Some x → Handles port_state law call x y acts → PullsAs call (port_state x) (asking y) acts → Pulls acts → asking y (view.acted_all (view_of net n) acts)

module _ {N : Type 0} (port_state : N → View → Type 0) (law : N → N → View → List (List Item) → List (List Item) → Type 0) (asking : N → View → Type 0) (moves : N → List ℕ) where
  pub sound_here : (net : Net N) (w : ℕ) → Settled port_state law asking moves (before net w) → w < length net.wires → IsSound (wire_at net w).wire true
  sound_here net w s h = subst (IsSound (wire_at net w).wire) (queued_here net.queue w) (s.sound w h)

  sound_there : (net : Net N) (w : ℕ) → Settled port_state law asking moves (before net w) → (u : ℕ) → u < length net.wires → u ≢ w → IsSound (wire_at net u).wire (is_queued net.queue u)
  sound_there net w s u h n = subst (IsSound (wire_at net u).wire) (queued_there net.queue w u n) (s.sound u h)

  sound_told : (net : Net N) (w : ℕ) (d : Delivery) → Settled port_state law asking moves (before net w) → w < length net.wires → is_queued net.queue w ≡ false → IsSound (after_delivery d (wire_at net w).wire) (again d)
      → (u : ℕ) → u < length (delivered_on net w d).wires → IsSound (wire_at (delivered_on net w d) u).wire (is_queued (delivered_on net w d).queue u)
  sound_told net w d s h absent sound = sound_put net w _ _ h (sound_there net w s) (rw absent sound)

  marked_told : (net : Net N) (w : ℕ) (d : Delivery) → Settled port_state law asking moves (before net w) → w < length net.wires → IsMarked (told_by d (wire_at net w))
      → (u : ℕ) → u < length (delivered_on net w d).wires → IsMarked (wire_at (delivered_on net w d) u)
  marked_told net w d s h m = marked_put net w (told_by d (wire_at net w)) (again d) h (λ u hu n. s.marked u hu) m

  -- the wire of the event stays marked as it was pulled
  pub marked_here : (net : Net N) (w : ℕ) → Settled port_state law asking moves (before net w) → w < length net.wires → IsMarked (told_by (delivery_of (wire_at net w).wire) (wire_at net w))
  marked_here net w s h = deliver_marked (wire_at net w).wire (wire_at net w).asked (sound_here net w s h) (s.marked w h)

  -- an event that comes to nothing
  pub nothing_settled : (net : Net N) (w : ℕ) → Settled port_state law asking moves (before net w) → w < length net.wires → is_queued net.queue w ≡ false → delivery_of (wire_at net w).wire ≡ nothing → Settled port_state law asking moves (event_told net w)
  nothing_settled net w s h absent e =
      let marked : IsMarked (told_by nothing (wire_at net w)) = rw e at (marked_here net w s h) in
      let sound : IsSound (wire_at net w).wire false = rw e at (deliver_kept (wire_at net w).wire (sound_here net w s h)) in
      rw e (record {
        wired = rw length-set s.wired;
        each_first = s.each_first;
        sound = sound_told net w nothing s h absent sound;
        marked = marked_told net w nothing s h marked;
        minded = λ n hn x first xi fi. minds_along port_state law x first _ _ _ _ _ _ []
            (read_same inp_of net.wires w (told_by nothing (wire_at net w)) (ports_at net n).ins h refl)
            (read_same out_of net.wires w (told_by nothing (wire_at net w)) (ports_at net n).outs h refl)
            (read_same got_of net.wires w (told_by nothing (wire_at net w)) (ports_at net n).ins h refl)
            (read_same sent_of net.wires w (told_by nothing (wire_at net w)) (ports_at net n).outs h refl)
            (s.minded n hn x first xi fi);
        asked = told_asked port_state law asking moves net w nothing h s.asked;
        moments = told_moments port_state law asking moves net w nothing h s.moments;
      })

  pub handled_busy : (net : Net N) (w : ℕ) (d : Delivery) (x y : N) (acts : List Act) → Settled port_state law asking moves (before net w) → w < length net.wires → is_queued net.queue w ≡ false
      → d ≡ delivery_of (wire_at net w).wire → d ≢ nothing → slice_get net.nodes (target d (end_at net.ends w)) ≡ Some x → Handles port_state law (call_of d (end_at net.ends w)) x y acts
      → Busy port_state law (with_node (delivered_on net w d) (target d (end_at net.ends w)) y) (target d (end_at net.ends w)) acts
  handled_busy net w d x y acts s h absent e n xi handles =
      let heard : Heard d (wire_at net w).wire = rw e (deliver_heard (wire_at net w).wire (sound_here net w s h)) in
      let marked : IsMarked (told_by d (wire_at net w)) = rw e (marked_here net w s h) in
      let sound : IsSound (after_delivery d (wire_at net w).wire) (again d) = rw e (deliver_kept (wire_at net w).wire (sound_here net w s h)) in
      let hn : target d (end_at net.ends w) < length net.nodes = target_within d net w s.wired h in
      let may : CallAllowed (call_of d (end_at net.ends w)) (view_of net (target d (end_at net.ends w))) = may_at d net w n s.wired h heard in
      with_node_busy port_state law (delivered_on net w d) (target d (end_at net.ends w)) y acts
      (rw length-set s.wired)
      s.each_first
      (sound_told net w d s h absent sound)
      (marked_told net w d s h marked)
      hn
      handles.stands
      (λ first fi. here_told port_state law d net w y first acts n s.wired h (minds_event port_state law (call_of d (end_at net.ends w)) x y first _ _ _ acts handles may (s.minded (target d (end_at net.ends w)) hn x first xi fi)))
      (λ k hk ne. others_told port_state law d net w n s.wired h k hk ne (s.minded k hk))

  -- what a handler's call needs, once the wire's event was delivered
  pub record Called (call : Call) (v : Net N) (n : ℕ) : Type 0 where
    pub within : n < length v.nodes
    pub meets : (x : N) → slice_get v.nodes n ≡ Some x → Meets call (port_state x)
    pub fits : (x : N) (room : ℕ) → slice_get v.nodes n ≡ Some x → HaveRoom v.ports room → HasRoom call (port_state x) room
    pub awaits : Awaits port_state law call v n
    pub tells : TellsAsking port_state law asking call v n

  called : (net : Net N) (w : ℕ) (d : Delivery) → Settled port_state law asking moves (before net w) → w < length net.wires → is_queued net.queue w ≡ false
      → d ≡ delivery_of (wire_at net w).wire → d ≢ nothing → Called (call_of d (end_at net.ends w)) (event_told net w) (target d (end_at net.ends w))
  called net w d s h absent e n =
      let heard : Heard d (wire_at net w).wire = rw e (deliver_heard (wire_at net w).wire (sound_here net w s h)) in
      let hn : target d (end_at net.ends w) < length net.nodes = target_within d net w s.wired h in
      let may : CallAllowed (call_of d (end_at net.ends w)) (view_of net (target d (end_at net.ends w))) = may_at d net w n s.wired h heard in
      let same : delivered_on net w d ≡ event_told net w = ap (λ (z : Delivery). delivered_on net w z) e in
      let first = get_there net.firsts (target d (end_at net.ends w)) (rw s.each_first hn) in
      record {
        within = hn;
        meets = λ x xi. (view_of net (target d (end_at net.ends w)), (may, (s.minded (target d (end_at net.ends w)) hn x first.0 xi first.1).port_state_holds));
        fits = λ x room xi have. (view_of net (target d (end_at net.ends w)), (may, ((s.minded (target d (end_at net.ends w)) hn x first.0 xi first.1).port_state_holds, has_room net (target d (end_at net.ends w)) room have)));
        awaits = λ x y acts xi handles. subst (λ (a : Net N). Busy port_state law (with_node a (target d (end_at net.ends w)) y) (target d (end_at net.ends w)) acts) same (handled_busy net w d x y acts s h absent e n xi handles);
        tells = λ x y acts xi handles asks pulls.
            let held = (s.minded (target d (end_at net.ends w)) hn x first.0 xi first.1).port_state_holds in
            let at = here_told asking AnyLaw d net w y first.0 acts n s.wired h (record {
              allowed = handles.obeys.allowed (view_of net (target d (end_at net.ends w))) may held;
              port_state_holds = asks (view_of net (target d (end_at net.ends w))) may held pulls;
              law_holds = tt;
            }) in
            subst (λ (a : Net N). asking y (view.acted_all (view_of a (target d (end_at net.ends w))) acts)) same at.port_state_holds;
      }

  pub call_at : (net v : Net N) (w n : ℕ) (d : Delivery) (ends : WireEnds) → Settled port_state law asking moves (before net w) → w < length net.wires → is_queued net.queue w ≡ false
      → d ≡ delivery_of (wire_at net w).wire → d ≢ nothing → v ≡ event_told net w → ends ≡ end_at net.ends w → n ≡ target d ends → Called (call_of d ends) v n
  call_at net v w n d ends s h absent e ne is same at = rw (at, same, is) (called net w d s h absent e ne)
