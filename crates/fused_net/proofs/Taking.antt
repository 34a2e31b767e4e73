-- The laws of a graph do not depend on where in the queue a wire stands, so a wire may be taken out at either end.
use Rattle.std.proofs.Common.{◌≡◌, inl, inr, ℕ, zero, suc, ◌+◌, ◌≤◌, ◌==◌, Bool, true, false, ◌||◌, List, [], ◌∷◌, ◌++◌, length, map, refl, sym, ap, ◌∙◌, subst, arith}
use Rattle.std.proofs.lemmas.List.Folds.{list_any-append}
use Rattle.elem_core.specs.declared.item.Item.{Item}
use Rattle.port_core.specs.Ring.{is_queued}
use Rattle.port_core.specs.Joint.{IsSound}
use Rattle.port_core.specs.View.{View}
use Rattle.port_core.specs.Counts.{spent}
use Rattle.fused_net.specs.Net.{Net, wire_at, before, Takes}
use Rattle.fused_net.specs.Laws.{HaveRoom, NetGoesOn, Settled, AllKept}
use Rattle.fused_net.specs.Costs.{sum_below, total_cost, all_asks, Uses}

-- a number stands in a list, at whichever end
holds_last : (queue : List ℕ) (w u : ℕ) → is_queued (queue ++ w ∷ []) u ≡ is_queued (w ∷ queue) u
holds_last queue w u = list_any-append (λ x. x == u) queue (w ∷ []) ∙ or_swap (is_queued queue u) (w == u)
  where
    or_swap : (a b : Bool) → (a || (b || false)) ≡ (b || a)
    or_swap true true = refl
    or_swap true false = refl
    or_swap false true = refl
    or_swap false false = refl

sum_same : (f g : ℕ → ℕ) (n : ℕ) → ((k : ℕ) → f k ≡ g k) → sum_below f n ≡ sum_below g n
sum_same f g zero h = refl
sum_same f g (suc n) h = let rest = sum_same f g n h in let one = h n in omega (arith, rest, one)

-- a graph with these wires in its queue
abbrev queued : {N : Type 0} → Net N → List ℕ → Net N
queued net q = record net { queue = q }

-- the same wires wait
abbrev Same : List ℕ → List ℕ → Type 0
Same q r = (u : ℕ) → is_queued q u ≡ is_queued r u

module _ {N : Type 0} where
  moved_goes : (net new : Net N) (q r : List ℕ) → NetGoesOn (queued net q) new → NetGoesOn (queued net r) new
  moved_goes net new q r on = record { firsts = on.firsts; ends = on.ends; ports = on.ports; nodes = on.nodes; wires = on.wires }

  went_moved : (old net : Net N) (q r : List ℕ) → NetGoesOn old (queued net q) → NetGoesOn old (queued net r)
  went_moved old net q r on = record { firsts = on.firsts; ends = on.ends; ports = on.ports; nodes = on.nodes; wires = on.wires }

  moved_total : (net : Net N) (q r : List ℕ) → Same q r → total_cost (queued net q) ≡ total_cost (queued net r)
  moved_total net q r same = sum_same _ _ (length net.wires) (λ w. ap (spent (wire_at net w).wire) (same w))

  moved_uses : (net new : Net N) (q r : List ℕ) (units : ℕ) → Same q r → Uses (queued net q) new units → Uses (queued net r) new units
  moved_uses net new q r units same u = let cost = moved_total net q r same in let least = u.least in record { least = omega (arith, cost, least); most = u.most; each = u.each }

module _ {N : Type 0} (port_state : N → View → Type 0) (law : N → N → View → List (List Item) → List (List Item) → Type 0) (asking : N → View → Type 0) (moves : N → List ℕ) where
  moved_settled : (net : Net N) (q r : List ℕ) → Same q r → Settled port_state law asking moves (queued net q) → Settled port_state law asking moves (queued net r)
  moved_settled net q r same s = record {
    wired = s.wired;
    each_first = s.each_first;
    sound = λ w h. subst (IsSound (wire_at net w).wire) (same w) (s.sound w h);
    marked = s.marked;
    minded = s.minded;
    asked = λ w h some.
        let a = s.asked w h some in
        record {
          old = a.old;
          on = went_moved a.old net q r a.on;
          grown = a.grown;
          moves_on = a.moves_on;
          sound = a.sound;
          marked = a.marked;
          waits = a.waits;
          asked = a.asked;
          same = a.same;
          stays = a.stays;
          minded = a.minded;
          asking_then = a.asking_then;
        };
    moments = λ n u hn hu to some.
        let a = s.moments n u hn hu to some in
        record {
          old = a.old;
          on = went_moved a.old net q r a.on;
          grown = a.grown;
          moves_on = a.moves_on;
          sound = a.sound;
          marked = a.marked;
          minded = a.minded;
          asking_then = a.asking_then;
          before = a.before;
          port = a.port;
          waits = a.waits;
          same = a.same;
        };
  }

-- ---- a wire was taken

module _ {N : Type 0} where
  same_wires : (old new : Net N) (w : ℕ) → Takes old w new → Same old.queue (w ∷ new.queue)
  same_wires old new w t u = elim (t.stood) [
    | inl e ↦ ap (λ (q : List ℕ). is_queued q u) e
    | inr e ↦ ap (λ (q : List ℕ). is_queued q u) e ∙ holds_last new.queue w u
  ]

  pub taken_goes : (old net new : Net N) (w : ℕ) → Takes old w net → NetGoesOn net new → NetGoesOn old new
  taken_goes old net new w t on = subst (λ (a : Net N). NetGoesOn a new) (sym t.is) (moved_goes net new net.queue old.queue on)

  pub taken_room : (old net : Net N) (w room : ℕ) → Takes old w net → HaveRoom old.ports room → HaveRoom net.ports room
  taken_room old net w room t h = subst (λ (a : Net N). HaveRoom a.ports room) t.is h

  pub taken_uses : (old net new : Net N) (w units : ℕ) → Takes old w net → Uses (before net w) new units → Uses old new units
  taken_uses old net new w units t u = subst (λ (a : Net N). Uses a new units) (sym t.is) (moved_uses net new (w ∷ net.queue) old.queue units (λ k. sym (same_wires old net w t k)) u)

  pub taken_few : (old net : Net N) (w n most : ℕ) → Takes old w net → all_asks old + n ≤ most → all_asks net + n ≤ most
  taken_few old net w n most t h = subst (λ (a : Net N). all_asks a + n ≤ most) t.is h

  pub taken_nodes : (old net : Net N) (w : ℕ) → Takes old w net → net.nodes ≡ old.nodes
  taken_nodes old net w t = sym (ap (λ (a : Net N). a.nodes) t.is)

  pub taken_read : {X : Type 0} (f : N → X) (old net : Net N) (w : ℕ) (nodes : List N) → Takes old w net → map f nodes ≡ map f net.nodes → map f nodes ≡ map f old.nodes
  taken_read f old net w nodes t e = e ∙ ap (map f) (taken_nodes old net w t)

  pub taken_kept : (keeps : N → N → Type 0) (old net : Net N) (w : ℕ) (nodes : List N) → Takes old w net → AllKept keeps net.nodes nodes → AllKept keeps old.nodes nodes
  taken_kept keeps old net w nodes t k = subst (λ (xs : List N). AllKept keeps xs nodes) (taken_nodes old net w t) k

module _ {N : Type 0} (port_state : N → View → Type 0) (law : N → N → View → List (List Item) → List (List Item) → Type 0) (asking : N → View → Type 0) (moves : N → List ℕ) where
  pub taken_settled : (old net : Net N) (w : ℕ) → Takes old w net → Settled port_state law asking moves old → Settled port_state law asking moves (before net w)
  taken_settled old net w t s = moved_settled port_state law asking moves net old.queue (w ∷ net.queue) (same_wires old net w t) (subst (Settled port_state law asking moves) t.is s)
