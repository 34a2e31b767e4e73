-- An event is handled: its node was called over the graph in which the event is told, and did what it wants done.
use Rattle.std.proofs.Common.{◌≡◌, ◌≢◌, ℕ, ◌+◌, ◌<◌, ◌≤◌, Bool, false, true, Some, List, [], length, map, get_or, slice_set, set-set, get_or-set_same, inr, refl, sym, ap, ◌∙◌, subst}
use Rattle.std.proofs.lemmas.List.{length-set}
use Rattle.elem_core.specs.Prefix.{IsPrefix}
use Rattle.elem_core.specs.Tree.{Tree}
use Rattle.elem_core.specs.declared.item.Item.{Item}
use Rattle.elem_core.specs.declared.item.Item.TheVariants as item
use Rattle.elem_core.specs.declared.count.TheConstants.{MOST_COUNT}
use Rattle.port_core.specs.Ring.{is_queued}
use Rattle.port_core.specs.View.{View}
use Rattle.port_core.specs.Call.{Call, pulls, arrives, Meets}
use Rattle.port_core.specs.Reading.{no_wire}
use Rattle.port_core.specs.Wire.{Delivery, nothing, pull, cancel, arrived, delivery_of, again}
use Rattle.port_core.specs.declared.act.Act.{Act}
use Rattle.stage_core.specs.Rooms.{HasRoom}
use Rattle.stage_core.specs.Handling.{PullsAs, StaysPassive, Handles}
use Rattle.fused_net.specs.declared.net.WireEnds.{WireEnds}
use Rattle.port_core.specs.Cell.{WireState, brought_in, delivered, Brings, Brought}
use Rattle.fused_net.specs.declared.engine.Delivered.{Delivered}
use Rattle.fused_net.specs.declared.engine.Delivered.TheVariants as brings
use Rattle.fused_net.specs.Net.{Net, end_at, wire_at, target, call_of, IsBrought, node_for, call_for, told_by, put, acted_all, event_told, with_node, before}
use Rattle.fused_net.specs.Laws.{HaveRoom, AnyRow, AnyLaw, Settled, Busy, AllKept}
use Rattle.fused_net.specs.Costs.{all_asks}
use Rattle.fused_net.specs.Poking.{AtNode}
use Rattle.fused_net.specs.Outside.{StandsStill}
use Rattle.fused_net.specs.Events.{EventHandled}
use Rattle.fused_net.proofs.Delivering.{brings_elem, told_brought, told_brings, target_within, Called, call_at}
use Rattle.fused_net.proofs.Going.{handled, handled_nothing}
use Rattle.fused_net.proofs.Responding.{node_is, the_ends, awaited, responded, few_told}
use Rattle.fused_net.proofs.Keeping.{kept_called}
use Rattle.fused_net.proofs.Poking.{gone_acts}
use Rattle.fused_net.proofs.Events.{step_before}
use Rattle.fused_net.proofs.Taking.{taken_settled}
use Rattle.fused_net.proofs.Still.{still_told, still_trans, still_acts, heard_acts, called_still, handle_untouched, untouched_nothing}

-- the ends of a wire, as they were read behind the telling of its event
told_ends : {N : Type 0} (net told u : Net N) (w : ℕ) (x : WireEnds) → length net.ends ≡ length net.wires → w < length net.wires → told ≡ put net w (wire_at told w) false → u ≡ told → x ≡ get_or u.ends w x → x ≡ end_at net.ends w
told_ends net told u w x each h tells is at = the_ends (put net w (wire_at told w) false) u w x (is ∙ tells) (rw length-set each) (rw length-set h) at

module _ {N : Type 0} (port_state : N → View → Type 0) (law : N → N → View → List (List Item) → List (List Item) → Type 0) (asking : N → View → Type 0) (moves : N → List ℕ) where
  -- what is known where a handler is called: `net` is the graph before the event of wire w, `heard` the same with the event told, and `v` that as the code reads it
  pub record Calling (net heard v : Net N) (w n : ℕ) (call : Call) (ends : WireEnds) (x : N) : Type 0 where
    pub laws : Settled port_state law asking moves (before net w)
    pub within : w < length net.wires
    pub absent : is_queued net.queue w ≡ false
    pub some : delivery_of (wire_at net w).wire ≢ nothing
    pub after : heard ≡ event_told net w
    pub ends_are : ends ≡ end_at net.ends w
    pub node : n ≡ target (delivery_of (wire_at net w).wire) ends
    pub call_is : call ≡ call_of (delivery_of (wire_at net w).wire) ends
    pub same : v ≡ heard
    pub read : x ≡ get_or v.nodes n x

  called_at : (net heard v : Net N) (w n : ℕ) (call : Call) (ends : WireEnds) (x : N) → Calling net heard v w n call ends x → Called port_state law asking moves call heard n
  called_at net heard v w n call ends x c = rw c.call_is (call_at port_state law asking moves net heard w n (delivery_of (wire_at net w).wire) ends c.laws c.within c.absent refl c.some c.after c.ends_are c.node)

  pub call_meets : (net heard v : Net N) (w n : ℕ) (call : Call) (ends : WireEnds) (x : N) → Calling net heard v w n call ends x → Meets call (port_state x)
  call_meets net heard v w n call ends x c =
      let k = called_at net heard v w n call ends x c in
      k.meets x (node_is heard v n x c.same k.within c.read)

  pub call_fits : (net heard v : Net N) (w n : ℕ) (call : Call) (ends : WireEnds) (x : N) (room : ℕ) → Calling net heard v w n call ends x → HaveRoom net.ports room → HasRoom call (port_state x) room
  call_fits net heard v w n call ends x room c have =
      let k = called_at net heard v w n call ends x c in
      k.fits x room (node_is heard v n x c.same k.within c.read) (subst (λ (a : Net N). HaveRoom a.ports room) (sym c.after) have)

  pub call_busy : (net heard v : Net N) (w n : ℕ) (call : Call) (ends : WireEnds) (x y : N) (acts : List Act) → Calling net heard v w n call ends x → Handles port_state law call x y acts → Busy AnyRow AnyLaw (with_node v n y) n acts
  call_busy net heard v w n call ends x y acts c handles =
      let k = called_at net heard v w n call ends x c in
      awaited port_state law call heard v n x y acts c.same k.within c.read k.awaits handles

  pub call_few : (net heard v : Net N) (w n : ℕ) (call : Call) (ends : WireEnds) (x y : N) → Calling net heard v w n call ends x → all_asks net + 1 ≤ MOST_COUNT → all_asks (with_node v n y) ≤ MOST_COUNT
  call_few net heard v w n call ends x y c few = subst (λ (a : Net N). all_asks a ≤ MOST_COUNT) (sym c.same) (few_told port_state law asking moves net heard w c.laws c.within c.absent c.after few)

  calling : (net heard v : Net N) (w n : ℕ) (d : Delivery) (ends : WireEnds) (x : N) → Settled port_state law asking moves (before net w) → w < length net.wires → is_queued net.queue w ≡ false → d ≡ delivery_of (wire_at net w).wire → d ≢ nothing
      → heard ≡ event_told net w → ends ≡ end_at net.ends w → n ≡ target d ends → v ≡ heard → x ≡ get_or v.nodes n x → Calling net heard v w n (call_of d ends) ends x
  calling net heard v w n d ends x laws within absent event some after ends_are node same read = record {
    laws = laws;
    within = within;
    absent = absent;
    some = λ none. some (event ∙ none);
    after = after;
    ends_are = ends_are;
    node = node ∙ ap (λ (b : Delivery). target b ends) event;
    call_is = ap (λ (b : Delivery). call_of b ends) event;
    same = same;
    read = read;
  }

  -- an element is told and then taken
  pub calling_push : (net told heard u v : Net N) (w : ℕ) (e : Tree) (ends : WireEnds) (x : N) → Settled port_state law asking moves (before net w) → w < length net.wires → is_queued net.queue w ≡ false → Brings false (wire_at net w) (wire_at told w) → told ≡ put net w (wire_at told w) false
      → (wire_at told w).wire.conn.to_grab ≡ Some e → heard ≡ put told w (brought_in e (wire_at told w)) false → u ≡ net → ends ≡ get_or u.ends w ends → v ≡ heard → x ≡ get_or v.nodes ends.to x → Calling net heard v w ends.to (arrives ends.input (item.Elem e)) ends x
  calling_push net told heard u v w e ends x laws within absent brings tells there on is at same read =
      calling net heard v w ends.to (arrived (item.Elem e) false) ends x laws within absent (brings_elem (wire_at net w) (wire_at told w) e false brings there) (λ none. cc) (told_brings net told heard w e false brings tells there on)
      (the_ends net u w ends is laws.wired.each_wire within at) refl same read

  -- a pull is told
  pub calling_pull : (net heard u v : Net N) (w : ℕ) (ends : WireEnds) (x : N) → Settled port_state law asking moves (before net w) → w < length net.wires → is_queued net.queue w ≡ false → Brought pull (wire_at net w) (wire_at heard w) → heard ≡ put net w (wire_at heard w) false
      → u ≡ net → ends ≡ get_or u.ends w ends → v ≡ heard → x ≡ get_or v.nodes ends.from x → Calling net heard v w ends.from (pulls ends.output) ends x
  calling_pull net heard u v w ends x laws within absent brought tells is at same read =
      calling net heard v w ends.from pull ends x laws within absent (sym brought.brings) (λ none. cc) (told_brought net heard w pull brought tells refl) (the_ends net u w ends is laws.wired.each_wire within at) refl same read

  -- the node that any other event is for is there
  pub closing_within : (b : Delivered) (net told heard u v : Net N) (w n : ℕ) (ends : WireEnds) → Settled port_state law asking moves (before net w) → w < length net.wires → told ≡ put net w (wire_at told w) false → u ≡ told → ends ≡ get_or u.ends w ends → heard ≡ event_told net w → n ≡ node_for b ends
      → v ≡ heard → n < length v.nodes
  closing_within brings.Cancel net told heard u v w n ends laws within tells is at after node same =
      rw (same, after, node, told_ends net told u w ends laws.wired.each_wire within tells is at) (target_within cancel net w laws.wired within)
  closing_within (brings.Arrived i) net told heard u v w n ends laws within tells is at after node same =
      rw (same, after, node, told_ends net told u w ends laws.wired.each_wire within tells is at) (target_within (arrived i false) net w laws.wired within)

  -- any other event is told, and what it brings is taken
  pub calling_closing : (b : Delivered) (net told heard u v : Net N) (w n : ℕ) (ends : WireEnds) (x : N) → Settled port_state law asking moves (before net w) → w < length net.wires → is_queued net.queue w ≡ false → told ≡ put net w (wire_at told w) false → u ≡ told → ends ≡ get_or u.ends w ends
      → IsBrought b (delivery_of (wire_at net w).wire) → heard ≡ event_told net w → n ≡ node_for b ends → v ≡ heard → x ≡ get_or v.nodes n x → Calling net heard v w n (call_for b ends) ends x
  calling_closing brings.Cancel net told heard u v w n ends x laws within absent tells is at brought after node same read =
      calling net heard v w n cancel ends x laws within absent (sym brought) (λ none. cc) after (told_ends net told u w ends laws.wired.each_wire within tells is at) node same read
  calling_closing (brings.Arrived i) net told heard u v w n ends x laws within absent tells is at brought after node same read =
      calling net heard v w n (arrived i brought.0) ends x laws within absent (sym brought.1) (λ none. cc) after (told_ends net told u w ends laws.wired.each_wire within tells is at) node same read

  -- what was done at an open wire is told at once
  pub calling_held : (self heard u v : Net N) (w : ℕ) (c : WireState) (d : Delivery) (ends : WireEnds) (x : N) → Settled port_state law asking moves (put self w c true) → w < length self.wires → self.queue ≡ [] → delivery_of c.wire ≡ d → d ≢ nothing → again d ≡ false
      → heard ≡ put self w (delivered c) false → u ≡ self → ends ≡ get_or u.ends w ends → v ≡ heard → x ≡ get_or v.nodes (target d ends) x → Calling (put self w c false) heard v w (target d ends) (call_of d ends) ends x
  calling_held self heard u v w c d ends x laws within none brings some once after is at same read =
      let net : Net N = put self w c false in
      let there : wire_at net w ≡ c = get_or-set_same self.wires w c no_wire within in
      let told : event_told net w ≡ put self w (delivered c) false = rw (there, brings, once, set-set self.wires w c (told_by d c)) refl in
      calling net heard v w (target d ends) d ends x (taken_settled port_state law asking moves (put self w c true) net w (record { is = refl; stood = inr refl }) laws) (rw length-set within) (ap (λ (q : List ℕ). is_queued q w) none)
      (sym (ap (λ (z : WireState). delivery_of z.wire) there ∙ brings)) some (after ∙ sym told) (the_ends self u w ends is (laws.wired.each_wire ∙ length-set _ _ _) within at) refl same read

  module _ (gone : N → List Item) (passive : N → Bool) where
    pub call_still : (net heard v : Net N) (w n : ℕ) (call : Call) (ends : WireEnds) (x y : N) (acts : List Act) → Calling net heard v w n call ends x → StaysPassive (passive x) (passive y) acts → AtNode (with_node v n y) n (λ z. passive z ≡ true → acts ≡ [])
    call_still net heard v w n call ends x y acts c stays = called_still passive heard v n x y acts c.same (called_at net heard v w n call ends x c).within c.read stays

    pub answered : (net heard v new : Net N) (w n : ℕ) (call : Call) (ends : WireEnds) (x y : N) (acts : List Act) (b : Bool) → Calling net heard v w n call ends x → Handles port_state law call x y acts → PullsAs call (port_state x) (asking y) acts → IsPrefix (moves x) (moves y)
        → StaysPassive (passive x) (passive y) acts → gone y ≡ gone x → new ≡ acted_all (with_node v n y) n acts → AtNode new n (λ z. b ≡ passive z) → EventHandled port_state law asking moves gone passive net new w b
    answered net heard v new w n call ends x y acts b c handles asks grows stays gone_same on known =
        let k = called_at net heard v w n call ends x c in
        let busy : Busy AnyRow AnyLaw (with_node v n y) n acts = awaited port_state law call heard v n x y acts c.same k.within c.read k.awaits handles in
        let done = handled port_state law asking moves net heard new w n (delivery_of (wire_at net w).wire) ends c.laws c.within c.absent refl c.some c.after c.ends_are c.node
        (responded port_state law asking moves call heard v new n x y acts c.same k.within c.read k.awaits k.tells handles asks grows on) in
        let stood : StandsStill passive heard new = still_acts passive heard v new n x y acts c.same k.within c.read busy stays on in
        record {
          step = step_before port_state law asking moves gone passive net new w done.laws done.on done.uses (gone_acts gone heard v new n x y acts c.same k.within c.read gone_same on ∙ ap (λ (a : Net N). map gone a.nodes) c.after)
              (still_trans passive net heard new (ap (λ (a : Net N). a.ends) c.after) (still_told passive net heard w c.within c.after) stood);
          untouched = handle_untouched passive net heard new w n (delivery_of (wire_at net w).wire) ends b c.laws.wired c.within c.after refl c.some c.ends_are c.node (heard_acts passive heard v new n x y acts c.same k.within c.read busy stays on) stood.kinds k.within known;
        }

    -- the event brought nothing
    pub answered_nothing : (net new : Net N) (w : ℕ) → Settled port_state law asking moves (before net w) → w < length net.wires → is_queued net.queue w ≡ false → delivery_of (wire_at net w).wire ≡ nothing → new ≡ event_told net w → EventHandled port_state law asking moves gone passive net new w false
    answered_nothing net new w laws within absent none after =
        let done = handled_nothing port_state law asking moves net new w laws within absent none after in
        record {
          step = step_before port_state law asking moves gone passive net new w done.laws done.on done.uses (ap (λ (a : Net N). map gone a.nodes) after) (still_told passive net new w within after);
          untouched = untouched_nothing passive net new w within after none;
        }

    pub call_kept : (keeps : N → N → Type 0) (net heard v : Net N) (w n : ℕ) (call : Call) (ends : WireEnds) (x y : N) → Calling net heard v w n call ends x → keeps x y → AllKept keeps net.nodes (slice_set v.nodes n y)
    call_kept keeps net heard v w n call ends x y c k =
        subst (λ (xs : List N). AllKept keeps xs (slice_set v.nodes n y)) (ap (λ (a : Net N). a.nodes) c.after) (kept_called keeps heard v n x y c.same (called_at net heard v w n call ends x c).within c.read k)
