-- What a handler's call leaves, said of the graph.
use Rattle.std.proofs.Common.{◌≡◌, ℕ, ◌+◌, ◌<◌, ◌≤◌, false, Some, List, length, get_or, slice_get, refl, sym, ap, ◌∙◌, arith}
use Rattle.std.proofs.lemmas.List.{get_or_default}
use Rattle.std.proofs.lemmas.Option.{slice_get-get_or}
use Rattle.elem_core.specs.Prefix.{IsPrefix}
use Rattle.elem_core.specs.declared.item.Item.{Item}
use Rattle.elem_core.specs.declared.count.TheConstants.{MOST_COUNT}
use Rattle.port_core.specs.Ring.{is_queued}
use Rattle.port_core.specs.View.{View}
use Rattle.port_core.specs.Call.{Call, Meets, starts}
use Rattle.port_core.specs.declared.act.Act.{Act}
use Rattle.stage_core.specs.Rooms.{HasRoom}
use Rattle.stage_core.specs.Handling.{PullsAs, Starts, Handles}
use Rattle.fused_net.specs.declared.net.WireEnds.{WireEnds}
use Rattle.fused_net.specs.Net.{Net, no_ends, end_at, view_of, acted_all, event_told, with_node, before}
use Rattle.fused_net.specs.Laws.{HaveRoom, AnyRow, AnyLaw, Busy, Settled, Starting, NetGoesOn}
use Rattle.fused_net.specs.Costs.{all_asks, Uses}
use Rattle.fused_net.proofs.Reading.{has_room, some_same, get_there}
use Rattle.fused_net.proofs.Acting.{busy_any}
use Rattle.fused_net.proofs.Ongoing.{goes_trans, goes_acts, goes_node}
use Rattle.fused_net.proofs.Delivering.{Awaits, TellsAsking}
use Rattle.fused_net.proofs.Going.{Responds, acts_uses, event_uses}
use Rattle.fused_net.proofs.Starting.{start_busy, start_done}

module _ {N : Type 0} where
  -- the node that was read
  pub node_is : (net v : Net N) (n : ℕ) (x : N) → v ≡ net → n < length net.nodes → x ≡ get_or v.nodes n x → slice_get net.nodes n ≡ Some x
  node_is net v n x e h is =
      let within : n < length v.nodes = rw e h in
      let at : slice_get v.nodes n ≡ Some x = slice_get-get_or v.nodes n x within ∙ ap (λ (z : N). Some z) (sym is) in
      sym (ap (λ (a : Net N). slice_get a.nodes n) e) ∙ at

  -- the ends of the wire, as they were read
  pub the_ends : (net v : Net N) (w : ℕ) (x : WireEnds) → v ≡ net → length net.ends ≡ length net.wires → w < length net.wires → x ≡ get_or v.ends w x → x ≡ end_at net.ends w
  the_ends net v w x e each h is =
      let within : w < length v.ends = rw (e, each) h in
      is ∙ get_or_default v.ends w x no_ends within ∙ ap (λ (a : Net N). end_at a.ends w) e

module _ {N : Type 0} (port_state : N → View → Type 0) (law : N → N → View → List (List Item) → List (List Item) → Type 0) where
  pub awaited : (call : Call) (net v : Net N) (n : ℕ) (x y : N) (acts : List Act) → v ≡ net → n < length net.nodes → x ≡ get_or v.nodes n x → Awaits port_state law call net n → Handles port_state law call x y acts → Busy AnyRow AnyLaw (with_node v n y) n acts
  awaited call net v n x y acts e h is awaits handles = rw e (busy_any port_state law (with_node net n y) n acts (awaits x y acts (node_is net v n x e h is) handles))

module _ {N : Type 0} (port_state : N → View → Type 0) (law : N → N → View → List (List Item) → List (List Item) → Type 0) (asking : N → View → Type 0) (moves : N → List ℕ) where
  pub responded : (call : Call) (net v new : Net N) (n : ℕ) (x y : N) (acts : List Act) → v ≡ net → n < length net.nodes → x ≡ get_or v.nodes n x → Awaits port_state law call net n → TellsAsking port_state law asking call net n → Handles port_state law call x y acts
      → PullsAs call (port_state x) (asking y) acts → IsPrefix (moves x) (moves y) → new ≡ acted_all (with_node v n y) n acts → Responds port_state law asking moves net new n
  responded call net v new n x y acts e h is awaits tells handles asks grows on =
      let at : slice_get net.nodes n ≡ Some x = node_is net v n x e h is in
      record {
        node = y;
        acts = acts;
        busy = awaits x y acts at handles;
        asks = tells x y acts at handles asks;
        grows = λ z zi. let same : x ≡ z = some_same x z (sym at ∙ zi) in rw same at grows;
        is = rw e at on;
      }

  -- an event leaves few asks
  pub few_told : (net v : Net N) (w : ℕ) → Settled port_state law asking moves (before net w) → w < length net.wires → is_queued net.queue w ≡ false → v ≡ event_told net w → all_asks net + 1 ≤ MOST_COUNT → all_asks v ≤ MOST_COUNT
  few_told net v w s h absent is few = rw is (let u = event_uses port_state law asking moves net w s h absent in omega (arith, u.most, few))

  module _ (fresh : N → View → Type 0) where
    pub start_meets : (net v : Net N) (n : ℕ) (x : N) → Starting port_state law asking moves fresh net n → v ≡ net → n < length net.nodes → x ≡ get_or v.nodes n x → Meets starts (fresh x)
    start_meets net v n x s e h is =
        let first = get_there net.firsts n (rw s.each_first h) in
        let a = s.above n (omega arith) h x first.0 (node_is net v n x e h is) first.1 in
        (view_of net n, (a.1.1.0, a.0))

    pub start_fits : (net v : Net N) (n room : ℕ) (x : N) → Starting port_state law asking moves fresh net n → v ≡ net → n < length net.nodes → x ≡ get_or v.nodes n x → HaveRoom net.ports room → HasRoom starts (fresh x) room
    start_fits net v n room x s e h is have =
        let first = get_there net.firsts n (rw s.each_first h) in
        let a = s.above n (omega arith) h x first.0 (node_is net v n x e h is) first.1 in
        (view_of net n, (a.1.1.0, (a.0, has_room net n room have)))

    pub start_awaited : (net v : Net N) (n : ℕ) (x y : N) (acts : List Act) → Starting port_state law asking moves fresh net n → v ≡ net → n < length net.nodes → x ≡ get_or v.nodes n x → Starts port_state law fresh x y acts → Busy AnyRow AnyLaw (with_node v n y) n acts
    start_awaited net v n x y acts s e h is st = rw e (start_busy port_state law asking moves fresh net n x y acts s h (node_is net v n x e h is) st)

    -- what the start of a node leaves
    pub record Started (net new : Net N) (n : ℕ) : Type 0 where
      pub starting : Starting port_state law asking moves fresh new (n + 1)
      pub on : NetGoesOn net new
      pub asks : all_asks new ≤ all_asks net

    pub started : (net v new : Net N) (n : ℕ) (x y : N) (acts : List Act) → Starting port_state law asking moves fresh net n → v ≡ net → n < length net.nodes → x ≡ get_or v.nodes n x → Starts port_state law fresh x y acts
        → PullsAs starts (fresh x) (asking y) acts → IsPrefix (moves x) (moves y) → new ≡ acted_all (with_node v n y) n acts → Started net new n
    started net v new n x y acts s e h is st asks grows on =
        let at : new ≡ acted_all (with_node net n y) n acts = rw e at on in
        let u : Uses (with_node net n y) (acted_all (with_node net n y) n acts) 0 = acts_uses acts (with_node net n y) n (start_busy port_state law asking moves fresh net n x y acts s h (node_is net v n x e h is) st) in
        let same : all_asks (with_node net n y) ≡ all_asks net = refl in
        record {
          starting = start_done port_state law asking moves fresh net new n x y acts s h (node_is net v n x e h is) st asks grows at;
          on = rw at (goes_trans net (with_node net n y) _ (goes_node net n y) (goes_acts acts (with_node net n y) n));
          asks = rw at (omega (arith, u.most, same));
        }
