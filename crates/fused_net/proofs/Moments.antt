-- Each node's last ask is kept while nodes act and events are delivered, and made anew where the node asks.
use Rattle.std.proofs.Common.{◌≡◌, ◌≢◌, ◌⊎◌, inl, inr, ℕ, zero, suc, ◌<◌, ◌≤◌, List, [], ◌∷◌, length, get_or, slice_get, None, Some, refl, sym, ap, ◌∙◌, subst, arith, get_or-set_same, get_or-set_other}
use Rattle.std.proofs.lemmas.List.{length-set}
use Rattle.elem_core.specs.declared.item.Item.{Item}
use Rattle.port_core.specs.Asking.{NoCancel, PullsStand}
use Rattle.port_core.specs.Wire.{Delivery}
use Rattle.port_core.specs.View.{View, in_at, ActsAllowed}
use Rattle.port_core.specs.View as view
use Rattle.port_core.specs.declared.act.Act.{Act}
use Rattle.port_core.specs.declared.act.Act.TheVariants.{Pull, Push, Complete, FailOut, Cancel}
use Rattle.port_core.specs.declared.view.InView.{InView}
use Rattle.port_core.specs.declared.view.InView.TheVariants.{Idle, Pulled, Cancelled}
use Rattle.port_core.specs.Cell.{WireState, moved_by}
use Rattle.port_core.specs.Marks.{IsMarked, wanted, Grown}
use Rattle.port_core.proofs.Marking.{push_wanted, close_wanted, grown_same, grown_trans}
use Rattle.stage_core.specs.Handling.{Pulls}
use Rattle.port_core.specs.Reading.{no_wire}
use Rattle.fused_net.specs.Net.{Net, end_at, wire_at, ports_at, view_of, wire_for, acted, acted_all, delivered_on, with_node, before}
use Rattle.fused_net.specs.Laws.{AnyRow, AnyLaw, NetGoesOn, IsAsking, MovesGrow, IsMinded, AllAsked, NodeAsked, AllMoments, Busy}
use Rattle.fused_net.proofs.Reading.{same_or_not, get_there}
use Rattle.fused_net.proofs.Ongoing.{goes_same, goes_trans, goes_acts, goes_node, nodes-acts}
use Rattle.fused_net.proofs.Acting.{Fits, PortAt, fits, act_allowed, port_within, queued, acted_busy, acts_busy, acts_here}
use Rattle.fused_net.proofs.Asking.{move_grown, grown_put, moves_same, moves_trans, goes_told, told_grown, told_wanted}

-- ---- what a node knows of an input that it asked

in_range : (xs : List InView) (i : ℕ) (x : InView) → get_or xs i Cancelled ≡ x → x ≢ Cancelled → i < length xs
in_range [] i x e n = absurd (n (sym e))
in_range (y ∷ xs) zero x e n = omega arith
in_range (y ∷ xs) (suc i) x e n = omega (arith, in_range xs i x e n)

set_there : (v : View) (i : ℕ) (x : InView) → i < length v.ins → in_at (view.with_in v i x) i ≡ x
set_there v i x h = get_or-set_same v.ins i x Cancelled h

set_elsewhere : (v : View) (i k : ℕ) (x : InView) → i ≢ k → in_at (view.with_in v k x) i ≡ in_at v i
set_elsewhere v i k x n = get_or-set_other v.ins k i x Cancelled n

idle_not : {x : InView} → x ≡ Idle → x ≡ Pulled → ⊥
idle_not a b = cc

-- one that waits goes on to wait
stays_waiting : (acts : List Act) (v : View) (i : ℕ) → in_at v i ≡ Pulled → NoCancel i acts → ActsAllowed v acts → in_at (view.acted_all v acts) i ≡ Pulled
stays_waiting [] v i w n a = w
stays_waiting (Pull k ∷ acts) v i w n a = stays_waiting acts (view.with_in v k Pulled) i (set_elsewhere v i k Pulled (λ e. idle_not (subst (λ (j : ℕ). in_at v j ≡ Idle) (sym e) a.0) w) ∙ w) n a.1
stays_waiting (Push j x ∷ acts) v i w n a = stays_waiting acts (view.acted v (Push j x)) i w n a.1
stays_waiting (Complete j ∷ acts) v i w n a = stays_waiting acts (view.acted v (Complete j)) i w n a.1
stays_waiting (FailOut j c ∷ acts) v i w n a = stays_waiting acts (view.acted v (FailOut j c)) i w n a.1
stays_waiting (Cancel k ∷ acts) v i w n a = stays_waiting acts (view.with_in v k Cancelled) i (set_elsewhere v i k Cancelled (λ e. n.0 (sym e)) ∙ w) n.1 a.1

idle_left : Idle ≡ Cancelled → ⊥
idle_left e = cc

-- some input is pulled and waits once all is done, or none is pulled
asks_or_not : (acts : List Act) (v : View) → ActsAllowed v acts → PullsStand acts → (Pulls acts × ((i : ℕ) × (in_at (view.acted_all v acts) i ≡ Pulled))) ⊎ (Pulls acts → ⊥)
asks_or_not [] v a s = inr (λ h. h)
asks_or_not (Pull k ∷ acts) v a s = inl (tt, (k, stays_waiting acts (view.with_in v k Pulled) k (set_there v k Pulled (in_range v.ins k Idle a.0 idle_left)) s.0 a.1))
asks_or_not (Push j x ∷ acts) v a s = asks_or_not acts (view.acted v (Push j x)) a.1 s
asks_or_not (Complete j ∷ acts) v a s = asks_or_not acts (view.acted v (Complete j)) a.1 s
asks_or_not (FailOut j c ∷ acts) v a s = asks_or_not acts (view.acted v (FailOut j c)) a.1 s
asks_or_not (Cancel k ∷ acts) v a s = asks_or_not acts (view.with_in v k Cancelled) a.1 s

-- ---- what is wanted

-- only a pull raises it
abbrev IsPull : Act → Type 0
IsPull (Pull i) = Unit {0}
IsPull _ = ⊥

move_wanted : (a : Act) (c : WireState) → Fits a c.wire → IsMarked c → (IsPull a → ⊥) → wanted (moved_by a c) ≡ wanted c
move_wanted (Pull i) c f m n = absurd (n tt)
move_wanted (Push j x) c f m n = push_wanted x c.wire c.asked (m.known f)
move_wanted (Complete j) c f m n = close_wanted None c.wire c.asked
move_wanted (FailOut j d) c f m n = close_wanted (Some d) c.wire c.asked
move_wanted (Cancel i) c f m n = refl

is_pull : (a : Act) → IsPull a ⊎ (IsPull a → ⊥)
is_pull (Pull i) = inl tt
is_pull (Push j x) = inr (λ e. e)
is_pull (Complete j) = inr (λ e. e)
is_pull (FailOut j d) = inr (λ e. e)
is_pull (Cancel i) = inr (λ e. e)

no_pull_first : (a : Act) (acts : List Act) → (Pulls (a ∷ acts) → ⊥) → (IsPull a → ⊥) × (Pulls acts → ⊥)
no_pull_first (Pull i) acts h = absurd (h tt)
no_pull_first (Push j x) acts h = (λ e. e, h)
no_pull_first (Complete j) acts h = (λ e. e, h)
no_pull_first (FailOut j d) acts h = (λ e. e, h)
no_pull_first (Cancel i) acts h = (λ e. e, h)

module _ {N : Type 0} where
  pub pull_to : (net : Net N) (n : ℕ) (a : Act) (w : ℕ) → IsPull a → PortAt a (ports_at net n) w → (i : ℕ) × (slice_get (ports_at net n).ins i ≡ Some w)
  pull_to net n (Pull i) w p at = (i, at)
  pull_to net n (Push j x) w p at = absurd p
  pull_to net n (Complete j) w p at = absurd p
  pull_to net n (FailOut j d) w p at = absurd p
  pull_to net n (Cancel i) w p at = absurd p

  -- what is wanted of a wire stays, where the node asks nothing or the wire goes to another node
  act_wanted : (net : Net N) (n : ℕ) (a : Act) (acts : List Act) (u : ℕ) → Busy AnyRow AnyLaw net n (a ∷ acts) → (IsPull a → (end_at net.ends u).to ≢ n) → wanted (wire_at (acted net n a) u) ≡ wanted (wire_at net u)
  act_wanted net n a acts u busy other =
      let x = get_there net.nodes n busy.within in
      let first = get_there net.firsts n (rw busy.each_first busy.within) in
      let f = fits net n a (act_allowed AnyRow AnyLaw net n a acts x.0 first.0 busy x.1 first.1) in
      let at : wire_for a (ports_at net n) < length net.wires = port_within net n a _ busy.wired busy.within f.0 in
      elim (same_or_not u (wire_for a (ports_at net n))) [
        | inl here ↦ elim (is_pull a) [
          | inl p ↦
              let port = pull_to net n a (wire_for a (ports_at net n)) p f.0 in
              let to : (end_at net.ends (wire_for a (ports_at net n))).to ≡ n = (busy.wired.input_to n port.0 _ busy.within port.1).1.0 in
              absurd (other p (rw here to))
          | inr none ↦ rw here (ap wanted (get_or-set_same net.wires (wire_for a (ports_at net n)) (moved_by a (wire_at net (wire_for a (ports_at net n)))) no_wire at) ∙ move_wanted a _ f.1 (busy.marked _ at) none)
        ]
        | inr there ↦ ap wanted (get_or-set_other net.wires (wire_for a (ports_at net n)) u _ no_wire there)
      ]

  act_grown : (net : Net N) (n : ℕ) (a : Act) (acts : List Act) → Busy AnyRow AnyLaw net n (a ∷ acts) → (u : ℕ) → Grown (wire_at net u) (wire_at (acted net n a) u)
  act_grown net n a acts busy u =
      let x = get_there net.nodes n busy.within in
      let first = get_there net.firsts n (rw busy.each_first busy.within) in
      let f = fits net n a (act_allowed AnyRow AnyLaw net n a acts x.0 first.0 busy x.1 first.1) in
      let at : wire_for a (ports_at net n) < length net.wires = port_within net n a _ busy.wired busy.within f.0 in
      grown_put net (wire_for a (ports_at net n)) (moved_by a (wire_at net (wire_for a (ports_at net n)))) (queued net n a) at (move_grown a (wire_at net (wire_for a (ports_at net n))) f.1 (busy.marked _ at)) u

  pub acts_wanted : (acts : List Act) (net : Net N) (n u : ℕ) → Busy AnyRow AnyLaw net n acts → (Pulls acts → ⊥) ⊎ ((end_at net.ends u).to ≢ n) → wanted (wire_at (acted_all net n acts) u) ≡ wanted (wire_at net u)
  acts_wanted [] net n u busy h = refl
  acts_wanted (a ∷ acts) net n u busy (inl h) =
      let first = no_pull_first a acts h in
      acts_wanted acts (acted net n a) n u (acted_busy AnyRow AnyLaw net n a acts busy) (inl first.1) ∙ act_wanted net n a acts u busy (λ p. absurd (first.0 p))
  acts_wanted (a ∷ acts) net n u busy (inr h) = acts_wanted acts (acted net n a) n u (acted_busy AnyRow AnyLaw net n a acts busy) (inr h) ∙ act_wanted net n a acts u busy (λ p. h)

  pub acts_grown : (acts : List Act) (net : Net N) (n : ℕ) → Busy AnyRow AnyLaw net n acts → (u : ℕ) → Grown (wire_at net u) (wire_at (acted_all net n acts) u)
  acts_grown [] net n busy u = grown_same (wire_at net u)
  acts_grown (a ∷ acts) net n busy u = grown_trans (wire_at net u) (wire_at (acted net n a) u) _ (act_grown net n a acts busy u) (acts_grown acts (acted net n a) n (acted_busy AnyRow AnyLaw net n a acts busy) u)

module _ {N : Type 0} (port_state : N → View → Type 0) (law : N → N → View → List (List Item) → List (List Item) → Type 0) where
  pub allowed_of : (net : Net N) (n : ℕ) (acts : List Act) → Busy port_state law net n acts → ActsAllowed (view_of net n) acts
  allowed_of net n acts busy =
      let x = get_there net.nodes n busy.within in
      let first = get_there net.firsts n (rw busy.each_first busy.within) in
      (busy.here x.0 first.0 x.1 first.1).allowed

module _ {N : Type 0} (port_state : N → View → Type 0) (law : N → N → View → List (List Item) → List (List Item) → Type 0) (asking : N → View → Type 0) (moves : N → List ℕ) where
  -- the moment stays the last one where the graph goes on and no input of the node is pulled
  later : (net new : Net N) (n : ℕ) → NetGoesOn net new → MovesGrow moves net new → ((u : ℕ) → Grown (wire_at net u) (wire_at new u)) → ((u : ℕ) → u < length net.wires → (end_at net.ends u).to ≡ n → wanted (wire_at new u) ≡ wanted (wire_at net u)) → NodeAsked port_state law asking moves net n → NodeAsked port_state law asking moves new n
  later net new n on moved grown same a = record {
    old = a.old;
    on = goes_trans a.old net new a.on on;
    grown = λ u h. grown_trans (wire_at a.old u) (wire_at net u) (wire_at new u) (a.grown u h) (grown u);
    moves_on = moves_trans moves a.old net new a.on a.moves_on moved;
    sound = a.sound;
    marked = a.marked;
    minded = a.minded;
    asking_then = a.asking_then;
    before = a.before;
    port = a.port;
    waits = a.waits;
    same = λ u h to. same u (let w = a.on.wires in omega (arith, w, h)) (rw a.on.ends to) ∙ a.same u h to;
  }

  -- ---- a node acts

  pub acts_moments : (net : Net N) (n : ℕ) (acts : List Act) → Busy AnyRow AnyLaw net n acts → ActsAllowed (view_of net n) acts → IsMinded port_state law net n acts → (Pulls acts → IsAsking asking (acted_all net n acts) n) → AllAsked port_state law asking moves (acted_all net n acts) → AllMoments port_state law asking moves net → AllMoments port_state law asking moves (acted_all net n acts)
  acts_moments net n acts busy allowed minded tells asked all k u hk hu to some = elim (same_or_not k n) [ inl here ↦ own (asks_or_not acts (view_of net n) allowed busy.stands) here | inr there ↦ keep (inr (λ e. there (sym to_old ∙ e))) ]
    where
      new : Net N
      new = acted_all net n acts

      on : NetGoesOn net (acted_all net n acts)
      on = goes_acts acts net n

      to_old : (end_at net.ends u).to ≡ k
      to_old = rw (sym on.ends) to

      within : u < length net.wires
      within = let w = on.wires in omega (arith, w, hu)

      node_within : k < length net.nodes
      node_within = let w = on.nodes in omega (arith, w, hk)

      busy_end : Busy AnyRow AnyLaw (acted_all net n acts) n []
      busy_end = acts_busy AnyRow AnyLaw acts net n busy

      keep : (Pulls acts → ⊥) ⊎ ((end_at net.ends u).to ≢ n) → NodeAsked port_state law asking moves (acted_all net n acts) k
      keep (inl h) = later net (acted_all net n acts) k on (moves_same moves net (acted_all net n acts) (nodes-acts acts net n)) (acts_grown acts net n busy) (λ w hw t. acts_wanted acts net n w busy (inl h)) (all k u node_within within to_old (subst (λ (m : ℕ). 1 ≤ m) (acts_wanted acts net n u busy (inl h)) some))
      keep (inr h) = later net (acted_all net n acts) k on (moves_same moves net (acted_all net n acts) (nodes-acts acts net n)) (acts_grown acts net n busy) (λ w hw t. acts_wanted acts net n w busy (inr (λ e. h (to_old ∙ (sym t ∙ e)))))
          (all k u node_within within to_old (subst (λ (m : ℕ). 1 ≤ m) (acts_wanted acts net n u busy (inr h)) some))

      -- in the words of the graph: the input that was pulled waits once all is done
      waits_at : (i : ℕ) → in_at (view.acted_all (view_of net n) acts) i ≡ Pulled → in_at (view_of (acted_all net n acts) n) i ≡ Pulled
      waits_at i e =
          let x = get_there net.nodes n busy.within in
          let first = get_there net.firsts n (rw busy.each_first busy.within) in
          let held : IsMinded (λ (y : N) (v : View). in_at v i ≡ Pulled) AnyLaw net n acts = λ y fy yi fi. record { allowed = (busy.here y fy yi fi).allowed; port_state_holds = e; law_holds = tt } in
          let done = acts_here (λ (y : N) (v : View). in_at v i ≡ Pulled) AnyLaw acts net n busy held in
          let x_new = get_there (acted_all net n acts).nodes n busy_end.within in
          let first_new = get_there (acted_all net n acts).firsts n (rw busy_end.each_first busy_end.within) in
          (done x_new.0 first_new.0 x_new.1 first_new.1).port_state_holds

      own : (Pulls acts × ((i : ℕ) × (in_at (view.acted_all (view_of net n) acts) i ≡ Pulled))) ⊎ (Pulls acts → ⊥) → k ≡ n → NodeAsked port_state law asking moves (acted_all net n acts) k
      own (inr none) here = keep (inl none)
      own (inl p) here = rw here (record {
        old = acted_all net n acts;
        on = goes_same (acted_all net n acts);
        grown = λ w hw. grown_same (wire_at (acted_all net n acts) w);
        moves_on = moves_same moves (acted_all net n acts) (acted_all net n acts) refl;
        sound = busy_end.sound;
        marked = busy_end.marked;
        minded = acts_here port_state law acts net n busy minded;
        asking_then = tells p.0;
        before = asked;
        port = p.1.0;
        waits = waits_at p.1.0 p.1.1;
        same = λ w hw t. refl;
      })

  -- ---- an event, and another node in a node's place

  pub told_moments : (net : Net N) (w : ℕ) (d : Delivery) → w < length net.wires → AllMoments port_state law asking moves (before net w) → AllMoments port_state law asking moves (delivered_on net w d)
  told_moments net w d h all k u hk hu to some =
      later (before net w) (delivered_on net w d) k (goes_told net w d) (moves_same moves (before net w) (delivered_on net w d) refl) (told_grown net w d h) (λ v hv t. told_wanted net w d h v)
      (all k u hk (rw length-set at hu) to (subst (λ (m : ℕ). 1 ≤ m) (told_wanted net w d h u) some))

  pub node_moments : (net : Net N) (n : ℕ) (y : N) → MovesGrow moves net (with_node net n y) → AllMoments port_state law asking moves net → AllMoments port_state law asking moves (with_node net n y)
  node_moments net n y moved all k u hk hu to some =
      later net (with_node net n y) k (goes_node net n y) moved (λ v. grown_same (wire_at net v)) (λ v hv t. refl) (all k u (rw length-set at hk) hu to some)
