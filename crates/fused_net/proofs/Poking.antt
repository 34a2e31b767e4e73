-- A node that acts outside of its handlers, or from which something is handed out: the graph's laws stand.
use Rattle.std.proofs.Common.{◌≡◌, inl, inr, ℕ, zero, suc, ◌+◌, ◌^◌, ◌<◌, ◌≤◌, true, false, None, Some, List, [], ◌∷◌, length, map, get_or, slice_get, set, refl, sym, ap, ◌∙◌, subst, arith}
use Rattle.std.specs.Prelude.{Option, IfNone, IfSome}
use Rattle.std.proofs.lemmas.List.{length-set}
use Rattle.elem_core.specs.Tree.{Tree}
use Rattle.elem_core.specs.Items.{elements}
use Rattle.elem_core.specs.declared.count.TheConstants.{MOST_COUNT}
use Rattle.elem_core.specs.declared.item.Item.{Item}
use Rattle.port_core.specs.Cell.{moved_by, queues_by}
use Rattle.port_core.specs.Ring.{is_queued}
use Rattle.port_core.specs.View.{View}
use Rattle.port_core.specs.Asking.{PullsStand}
use Rattle.port_core.specs.declared.act.Act.{Act}
use Rattle.port_core.specs.declared.act.Act.TheVariants.{Pull, Push, Complete, FailOut, Cancel}
use Rattle.stage_core.specs.Handling.{Pulls}
use Rattle.stage_core.specs.Handing.{Hands}
use Rattle.fused_net.specs.Net.{Net, end_at, wire_at, ports_at, view_of, took, gave, put, wire_for, acted, acted_all, with_node, Able}
use Rattle.fused_net.specs.Laws.{AnyRow, AnyLaw, IsAsking, MovesGrow, Minds, IsMinded, Settled, Busy, AllAsked, AllMoments, NetGoesOn}
use Rattle.fused_net.specs.Costs.{all_asks, Uses}
use Rattle.fused_net.specs.Poking.{AtNode, HandsAt, TellsPoked}
use Rattle.fused_net.proofs.Reading.{same_or_not, some_same, get_set_same, get_set_other}
use Rattle.fused_net.proofs.Ongoing.{goes_node, goes_acts, nodes-acts}
use Rattle.fused_net.proofs.Acting.{busy_any, acts_settled, next_able}
use Rattle.fused_net.proofs.Asking.{moves_node, asking_kept, after_acts, swap_asked}
use Rattle.fused_net.proofs.Moments.{allowed_of, acts_moments, node_moments}
use Rattle.fused_net.proofs.Going.{acts_uses}
use Rattle.fused_net.proofs.Responding.{node_is}

-- what was handed out of each node stays where a node has as much as before
pub gone_set : {N : Type 0} (gone : N → List Item) (xs : List N) (n : ℕ) (x y : N) → slice_get xs n ≡ Some x → gone y ≡ gone x → map gone (set xs n y) ≡ map gone xs
gone_set gone [] n x y at e = refl
gone_set gone (z ∷ xs) zero x y at e = let same : z ≡ x = some_same z x at in ap (λ (g : List Item). g ∷ map gone xs) (e ∙ ap gone (sym same))
gone_set gone (z ∷ xs) (suc n) x y at e = ap (λ (l : List (List Item)). gone z ∷ l) (gone_set gone xs n x y at e)

-- the node that was called, in the graph once it did what it wants done
pub gone_acts : {N : Type 0} (gone : N → List Item) (net v new : Net N) (n : ℕ) (x y : N) (acts : List Act) → v ≡ net → n < length net.nodes → x ≡ get_or v.nodes n x → gone y ≡ gone x → new ≡ acted_all (with_node v n y) n acts → map gone new.nodes ≡ map gone net.nodes
gone_acts gone net v new n x y acts e h is same on =
    ap (λ (a : Net _). map gone a.nodes) on
    ∙ ap (map gone) (nodes-acts acts (with_node v n y) n)
    ∙ ap (λ (a : Net _). map gone (set a.nodes n y)) e
    ∙ gone_set gone net.nodes n x y (node_is net v n x e h is) same

-- a node in its own place
set_same : {N : Type 0} (xs : List N) (n : ℕ) (x : N) → slice_get xs n ≡ Some x → set xs n x ≡ xs
set_same [] n x at = refl
set_same (z ∷ xs) zero x at = ap (λ (w : _). w ∷ xs) (sym (some_same z x at))
set_same (z ∷ xs) (suc n) x at = ap (λ (l : List _). z ∷ l) (set_same xs n x at)

stands_one : (a : Act) → PullsStand (a ∷ [])
stands_one (Pull i) = (tt, tt)
stands_one (Push j e) = tt
stands_one (Complete j) = tt
stands_one (FailOut j c) = tt
stands_one (Cancel i) = tt

-- the wire of a port
wire_of : (ws : List ℕ) (i w : ℕ) → slice_get ws i ≡ Some w → get_or ws i 0 ≡ w
wire_of [] i w e = absurd cc
wire_of (x ∷ ws) zero w e = cc
wire_of (x ∷ ws) (suc i) w e = wire_of ws i w e

-- what an action needs of its wire
free_at : {N : Type 0} (net : Net N) (n w : ℕ) (a : Act) → wire_for a (ports_at net n) ≡ w → Able net n a
    → (queues_by a (wire_at net w).wire.conn ≡ true → is_queued net.queue w ≡ false) × (elements (wire_at net w).wire.sent + 1 < 2 ^ 64)
free_at net n w a e able = (rw e at able.free, rw e at able.count)

-- what an action does at its wire
acted_at : {N : Type 0} (net : Net N) (n w : ℕ) (a : Act) → wire_for a (ports_at net n) ≡ w → acted net n a ≡ put net w (moved_by a (wire_at net w)) (queues_by a (wire_at net w).wire.conn)
acted_at net n w a e = rw e refl

-- to push asks nothing
pub push_asks_nothing : {N : Type 0} (asking : N → View → Type 0) (net : Net N) (n j : ℕ) (e : Tree) → TellsPoked asking net n (Push j e)
push_asks_nothing asking net n j e p = absurd p

module _ {N : Type 0} (port_state : N → View → Type 0) (law : N → N → View → List (List Item) → List (List Item) → Type 0) (asking : N → View → Type 0) (moves : N → List ℕ) where
  pub poked_busy : (net : Net N) (n : ℕ) (a : Act) → Settled port_state law asking moves net → n < length net.nodes → IsMinded port_state law net n (a ∷ []) → Busy port_state law net n (a ∷ [])
  poked_busy net n a s h m = record { wired = s.wired; each_first = s.each_first; sound = s.sound; marked = s.marked; within = h; stands = stands_one a; here = m; others = λ k l ne. s.minded k l }

  pub record Poked (net new : Net N) (n : ℕ) (a : Act) : Type 0 where
    pub any : Busy AnyRow AnyLaw net n (a ∷ [])
    pub laws : Settled port_state law asking moves new
    pub on : NetGoesOn net new
    pub uses : Uses net new 0

  pub poked : (net new : Net N) (n : ℕ) (a : Act) → new ≡ acted net n a → Settled port_state law asking moves net → n < length net.nodes → IsMinded port_state law net n (a ∷ []) → TellsPoked asking net n a → Poked net new n a
  poked net new n a is s h m tells =
      let busy : Busy port_state law net n (a ∷ []) = poked_busy net n a s h m in
      let any : Busy AnyRow AnyLaw net n (a ∷ []) = busy_any port_state law net n (a ∷ []) busy in
      let told : Pulls (a ∷ []) → IsAsking asking (acted net n a) n = λ p. asking_kept asking net n (a ∷ []) any (λ x at. tells p x at) in
      let asked : AllAsked port_state law asking moves (acted net n a) = after_acts port_state law asking moves net n (a ∷ []) any m told s.asked in
      let moments : AllMoments port_state law asking moves (acted net n a) = acts_moments port_state law asking moves net n (a ∷ []) any (allowed_of port_state law net n (a ∷ []) busy) m told asked s.moments in
      rw is (record {
        any = any;
        laws = acts_settled port_state law asking moves net n (a ∷ []) busy asked moments;
        on = goes_acts (a ∷ []) net n;
        uses = acts_uses (a ∷ []) net n any;
      })

  -- a node acts at the wire of its port
  module _ (net : Net N) (s : Settled port_state law asking moves net) (w : ℕ) (h : w < length net.wires) where
    from_wire : get_or (ports_at net (end_at net.ends w).from).outs (end_at net.ends w).output 0 ≡ w
    from_wire = wire_of (ports_at net (end_at net.ends w).from).outs (end_at net.ends w).output w (s.wired.from_output w h)

    to_wire : get_or (ports_at net (end_at net.ends w).to).ins (end_at net.ends w).input 0 ≡ w
    to_wire = wire_of (ports_at net (end_at net.ends w).to).ins (end_at net.ends w).input w (s.wired.to_input w h)

    pub push_free : (e : Tree) → IsMinded port_state law net (end_at net.ends w).from (Push (end_at net.ends w).output e ∷ []) → all_asks net ≤ MOST_COUNT
        → (queues_by (Push 0 e) (wire_at net w).wire.conn ≡ true → is_queued net.queue w ≡ false) × (elements (wire_at net w).wire.sent + 1 < 2 ^ 64)
    push_free e m few = free_at net _ w (Push (end_at net.ends w).output e) from_wire
        (next_able port_state law _ _ (Push (end_at net.ends w).output e) (Push (end_at net.ends w).output e ∷ []) [] refl (poked_busy net _ _ s (s.wired.from_within w h) m) few)

    pub pull_free : IsMinded port_state law net (end_at net.ends w).to (Pull (end_at net.ends w).input ∷ []) → all_asks net ≤ MOST_COUNT
        → (queues_by (Pull 0) (wire_at net w).wire.conn ≡ true → is_queued net.queue w ≡ false) × (elements (wire_at net w).wire.sent + 1 < 2 ^ 64)
    pull_free m few = free_at net _ w (Pull (end_at net.ends w).input) to_wire
        (next_able port_state law _ _ (Pull (end_at net.ends w).input) (Pull (end_at net.ends w).input ∷ []) [] refl (poked_busy net _ _ s (s.wired.to_within w h) m) few)

    pub pushed_there : (new : Net N) (e : Tree) → new ≡ put net w (moved_by (Push 0 e) (wire_at net w)) (queues_by (Push 0 e) (wire_at net w).wire.conn)
        → new ≡ acted net (end_at net.ends w).from (Push (end_at net.ends w).output e)
    pushed_there new e is = is ∙ sym (acted_at net _ w (Push (end_at net.ends w).output e) from_wire)

    pub pulled_there : (new : Net N) → new ≡ put net w (moved_by (Pull 0) (wire_at net w)) (queues_by (Pull 0) (wire_at net w).wire.conn)
        → new ≡ acted net (end_at net.ends w).to (Pull (end_at net.ends w).input)
    pulled_there new is = is ∙ sym (acted_at net _ w (Pull (end_at net.ends w).input) to_wire)

    pub push_poked : (new : Net N) (e : Tree) → new ≡ put net w (moved_by (Push 0 e) (wire_at net w)) (queues_by (Push 0 e) (wire_at net w).wire.conn)
        → IsMinded port_state law net (end_at net.ends w).from (Push (end_at net.ends w).output e ∷ []) → Poked net new (end_at net.ends w).from (Push (end_at net.ends w).output e)
    push_poked new e is m = poked net new _ _ (pushed_there new e is) s (s.wired.from_within w h) m (push_asks_nothing asking net _ _ e)

    pub pull_poked : (new : Net N) → new ≡ put net w (moved_by (Pull 0) (wire_at net w)) (queues_by (Pull 0) (wire_at net w).wire.conn)
        → IsMinded port_state law net (end_at net.ends w).to (Pull (end_at net.ends w).input ∷ []) → TellsPoked asking net (end_at net.ends w).to (Pull (end_at net.ends w).input)
        → Poked net new (end_at net.ends w).to (Pull (end_at net.ends w).input)
    pull_poked new is m tells = poked net new _ _ (pulled_there new is) s (s.wired.to_within w h) m tells

  module _ (gone waits : N → List Item) where
    -- the moves of the nodes only grow
    hands_moved : (net : Net N) (n : ℕ) (x y : N) (given : List Item) → n < length net.nodes → slice_get net.nodes n ≡ Some x → Hands port_state law asking moves gone waits x given y → MovesGrow moves net (with_node net n y)
    hands_moved net n x y given h at hands = moves_node moves net n y h (λ z zi. let same : x ≡ z = some_same x z (sym at ∙ zi) in rw same at hands.grows)

    hands_asked : (net : Net N) (n : ℕ) (x y : N) (given : List Item) → Settled port_state law asking moves net → n < length net.nodes → slice_get net.nodes n ≡ Some x → Hands port_state law asking moves gone waits x given y → AllAsked port_state law asking moves (with_node net n y)
    hands_asked net n x y given s h at hands = swap_asked port_state law asking moves net n x y h at hands.asks (hands_moved net n x y given h at hands) s.asked

    hands_minds : (x y first : N) (given : List Item) (v : View) (t g : List (List Item)) → Hands port_state law asking moves gone waits x given y → Minds port_state law x first v t g [] → Minds port_state law y first v t g []
    hands_minds x y first given v t g h m = record { allowed = tt; port_state_holds = h.port_state_holds v m.port_state_holds; law_holds = h.law_holds first v t g m.port_state_holds m.law_holds }

    hands_settled : (net : Net N) (n : ℕ) (x y : N) (given : List Item) → Settled port_state law asking moves net → n < length net.nodes → slice_get net.nodes n ≡ Some x → Hands port_state law asking moves gone waits x given y → Settled port_state law asking moves (with_node net n y)
    hands_settled net n x y given s h at hands = record {
      wired = rw length-set s.wired;
      each_first = rw length-set s.each_first;
      sound = s.sound;
      marked = s.marked;
      minded = λ k l z first zi fi. elim (same_or_not k n) [
        | inl e ↦
            let same : y ≡ z = some_same y z (sym (get_set_same net.nodes n y h) ∙ ap (slice_get (set net.nodes n y)) (sym e) ∙ zi) in
            subst (λ (a : N). Minds port_state law a first (view_of net k) (took net k) (gave net k) []) same
            (hands_minds x y first given _ _ _ hands (s.minded k (rw e h) x first (ap (slice_get net.nodes) e ∙ at) fi))
        | inr ne ↦ s.minded k (rw length-set at l) z first (sym (get_set_other net.nodes n k y ne) ∙ zi) fi
      ];
      asked = hands_asked net n x y given s h at hands;
      moments = node_moments port_state law asking moves net n y (hands_moved net n x y given h at hands) s.moments;
    }

    -- what the code leaves once it called the node
    pub handed : (net v new : Net N) (n : ℕ) (x y : N) (given : List Item) → v ≡ net → n < length net.nodes → x ≡ get_or v.nodes n x → Settled port_state law asking moves net → Hands port_state law asking moves gone waits x given y → new ≡ with_node v n y → (HandsAt gone waits net n given new) × Settled port_state law asking moves new
    handed net v new n x y given e h is s hands on =
        let at = node_is net v n x e h is in
        let to : new ≡ with_node net n y = on ∙ ap (λ (a : Net N). with_node a n y) e in
        (record { node = x; next = y; at = at; is = to; gone_is = hands.gone_is; waits_is = hands.waits_is }, rw to (hands_settled net n x y given s h at hands))

    pub hand_none : (net v new : Net N) (n : ℕ) (x y : N) (r : Option Item) → v ≡ net → n < length net.nodes → x ≡ get_or v.nodes n x → new ≡ with_node v n y → IfNone r ((waits x ≡ []) × (y ≡ x)) → IfNone r ((new ≡ net) × AtNode net n (λ z. waits z ≡ []))
    hand_none net v new n x y (Some i) e h is on none = tt
    hand_none net v new n x y None e h is on none =
        let at = node_is net v n x e h is in
        let same : with_node net n x ≡ net = ap (λ (l : List N). record net { nodes = l }) (set_same net.nodes n x at) in (
          on ∙ ap (λ (a : Net N). with_node a n y) e ∙ ap (λ (z : N). with_node net n z) none.1 ∙ same,
          λ z zi. ap waits (some_same z x (sym zi ∙ at)) ∙ none.0,
        )

    pub hand_some : (net v new : Net N) (n : ℕ) (x y : N) (r : Option Item) → v ≡ net → n < length net.nodes → x ≡ get_or v.nodes n x → Settled port_state law asking moves net → new ≡ with_node v n y → IfSome r (λ i. Hands port_state law asking moves gone waits x (i ∷ []) y) → IfSome r (λ i. HandsAt gone waits net n (i ∷ []) new)
    hand_some net v new n x y None e h is s on some = tt
    hand_some net v new n x y (Some i) e h is s on some = (handed net v new n x y (i ∷ []) e h is s some on).0

    pub hand_laws : (net v new : Net N) (n : ℕ) (x y : N) (r : Option Item) → v ≡ net → n < length net.nodes → x ≡ get_or v.nodes n x → Settled port_state law asking moves net → new ≡ with_node v n y → IfNone r ((waits x ≡ []) × (y ≡ x)) → IfSome r (λ i. Hands port_state law asking moves gone waits x (i ∷ []) y) → Settled port_state law asking moves new
    hand_laws net v new n x y None e h is s on none some = rw (hand_none net v new n x y None e h is on none).0 s
    hand_laws net v new n x y (Some i) e h is s on none some = (handed net v new n x y (i ∷ []) e h is s some on).1

-- another node in a place costs nothing
pub node_goes : {N : Type 0} (net v new : Net N) (n : ℕ) (y : N) → v ≡ net → new ≡ with_node v n y → NetGoesOn net new
node_goes net v new n y e is = rw (is, e) (goes_node net n y)

pub node_uses : {N : Type 0} (net v new : Net N) (n : ℕ) (y : N) → v ≡ net → new ≡ with_node v n y → Uses net new 0
node_uses net v new n y e is = rw (is, e) (record { least = omega arith; most = omega arith; each = omega arith })
