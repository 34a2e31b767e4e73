-- What stands still at the wires of passive nodes while the graph runs by itself.
use Rattle.std.specs.Prelude.{Option, None}
use Rattle.std.proofs.Common.{◌≡◌, ◌≢◌, ◌⊎◌, inl, inr, ℕ, zero, suc, ◌<◌, Bool, true, false, Some, List, [], ◌∷◌, ◌++◌, length, map, get_or, slice_get, slice_set, refl, sym, ap, ◌∙◌, subst, get_or-set_same, get_or-set_other}
use Rattle.elem_core.specs.declared.item.Item.{Item}
use Rattle.elem_core.specs.declared.item.Item.TheVariants as item
use Rattle.port_core.specs.Wire.{JointPorts, Delivery, nothing, pull, cancel, arrived, after_delivery, delivery_of}
use Rattle.port_core.specs.View.{View}
use Rattle.port_core.specs.declared.act.Act.{Act}
use Rattle.port_core.specs.declared.act.Act.TheVariants.{Pull, Push, Complete, FailOut, Cancel}
use Rattle.port_core.specs.declared.view.InView.TheVariants.{Cancelled}
use Rattle.port_core.specs.Cell.{WireState, moved_by}
use Rattle.port_core.proofs.Marking.{grown_same, grown_trans}
use Rattle.port_core.specs.Reading.{no_wire}
use Rattle.stage_core.specs.Handling.{StaysPassive}
use Rattle.fused_net.specs.declared.net.WireEnds.{WireEnds}
use Rattle.fused_net.specs.Net.{Net, end_at, target, wire_at, ports_at, wire_for, acted, acted_all, told_by, event_told, with_node, Takes}
use Rattle.fused_net.specs.Laws.{AnyRow, AnyLaw, Wired, Busy, Settled, NetGoesOn, AllKept}
use Rattle.fused_net.specs.PortLists.{PortLists}
use Rattle.fused_net.specs.Poking.{AtNode}
use Rattle.fused_net.specs.Outside.{BreaksAside, IsPassiveAt, StandsStill, touched, IsElse, HasOnly, Untouched}
use Rattle.fused_net.proofs.Reading.{same_or_not, some_same, get_there, get_set_same, get_set_other}
use Rattle.fused_net.proofs.Ongoing.{nodes-acts}
use Rattle.fused_net.proofs.Acting.{PortAt, fits, act_allowed, port_within, acted_busy}
use Rattle.fused_net.proofs.Asking.{told_wanted, told_grown}
use Rattle.fused_net.proofs.Moments.{acts_wanted, acts_grown}
use Rattle.fused_net.proofs.Responding.{node_is}

-- ---- one wire

-- an action at an input pushes and closes nothing there, and one at an output neither asks nor cancels
abbrev AtOutput : Act → Type 0
AtOutput (Pull i) = ⊥
AtOutput (Push j e) = Unit {0}
AtOutput (Complete j) = Unit {0}
AtOutput (FailOut j c) = Unit {0}
AtOutput (Cancel i) = ⊥

at_output : (a : Act) → AtOutput a ⊎ (AtOutput a → ⊥)
at_output (Pull i) = inr (λ e. e)
at_output (Push j e) = inl tt
at_output (Complete j) = inl tt
at_output (FailOut j c) = inl tt
at_output (Cancel i) = inr (λ e. e)

in_sent : (a : Act) (c : WireState) → (AtOutput a → ⊥) → (moved_by a c).wire.sent ≡ c.wire.sent
in_sent (Pull i) c n = refl
in_sent (Push j e) c n = absurd (n tt)
in_sent (Complete j) c n = absurd (n tt)
in_sent (FailOut j d) c n = absurd (n tt)
in_sent (Cancel i) c n = refl

out_inp : (a : Act) (c : WireState) → AtOutput a → (moved_by a c).wire.inp ≡ c.wire.inp
out_inp (Pull i) c n = absurd n
out_inp (Push j e) c n = refl
out_inp (Complete j) c n = refl
out_inp (FailOut j d) c n = refl
out_inp (Cancel i) c n = absurd n

-- a delivery pushes nothing, and cancels nothing
told_sent : (d : Delivery) (w : JointPorts) → (after_delivery d w).sent ≡ w.sent
told_sent nothing w = refl
told_sent pull w = refl
told_sent cancel w = refl
told_sent (arrived (item.Elem e) more) w = refl
told_sent (arrived item.Ended more) w = refl
told_sent (arrived (item.Failed c) more) w = refl

told_left : (d : Delivery) (w : JointPorts) → (after_delivery d w).inp ≡ Cancelled → w.inp ≡ Cancelled
told_left nothing w e = e
told_left pull w e = e
told_left cancel w e = e
told_left (arrived (item.Elem x) more) w e = cc
told_left (arrived item.Ended more) w e = cc
told_left (arrived (item.Failed c) more) w e = cc

-- ---- the actions of another node

module _ {N : Type 0} where
  from_of : (net : Net N) (n : ℕ) (a : Act) (w : ℕ) → ((n j u : ℕ) → n < length net.nodes → slice_get (ports_at net n).outs j ≡ Some u → (end_at net.ends u).from ≡ n) → n < length net.nodes → AtOutput a → PortAt a (ports_at net n) w → (end_at net.ends w).from ≡ n
  from_of net n (Pull i) w f h o at = absurd o
  from_of net n (Push j e) w f h o at = f n j w h at
  from_of net n (Complete j) w f h o at = f n j w h at
  from_of net n (FailOut j c) w f h o at = f n j w h at
  from_of net n (Cancel i) w f h o at = absurd o

  to_of : (net : Net N) (n : ℕ) (a : Act) (w : ℕ) → ((n i u : ℕ) → n < length net.nodes → slice_get (ports_at net n).ins i ≡ Some u → (end_at net.ends u).to ≡ n) → n < length net.nodes → (AtOutput a → ⊥) → PortAt a (ports_at net n) w → (end_at net.ends w).to ≡ n
  to_of net n (Pull i) w f h o at = f n i w h at
  to_of net n (Push j e) w f h o at = absurd (o tt)
  to_of net n (Complete j) w f h o at = absurd (o tt)
  to_of net n (FailOut j c) w f h o at = absurd (o tt)
  to_of net n (Cancel i) w f h o at = f n i w h at

  act_sent : (net : Net N) (n : ℕ) (a : Act) (acts : List Act) (u : ℕ) → Busy AnyRow AnyLaw net n (a ∷ acts) → (end_at net.ends u).from ≢ n → (wire_at (acted net n a) u).wire.sent ≡ (wire_at net u).wire.sent
  act_sent net n a acts u busy other =
      let x = get_there net.nodes n busy.within in
      let first = get_there net.firsts n (rw busy.each_first busy.within) in
      let f = fits net n a (act_allowed AnyRow AnyLaw net n a acts x.0 first.0 busy x.1 first.1) in
      let at : wire_for a (ports_at net n) < length net.wires = port_within net n a _ busy.wired busy.within f.0 in
      elim (same_or_not u (wire_for a (ports_at net n))) [
        | inl here ↦ elim (at_output a) [
          | inl o ↦ absurd (other (rw here (from_of net n a (wire_for a (ports_at net n)) (λ k j w h e. (busy.wired.output_from k j w h e).1.0) busy.within o f.0)))
          | inr none ↦ rw here (ap (λ (c : WireState). c.wire.sent) (get_or-set_same net.wires (wire_for a (ports_at net n)) (moved_by a (wire_at net (wire_for a (ports_at net n)))) no_wire at) ∙ in_sent a _ none)
        ]
        | inr there ↦ ap (λ (c : WireState). c.wire.sent) (get_or-set_other net.wires (wire_for a (ports_at net n)) u _ no_wire there)
      ]

  act_inp : (net : Net N) (n : ℕ) (a : Act) (acts : List Act) (u : ℕ) → Busy AnyRow AnyLaw net n (a ∷ acts) → (end_at net.ends u).to ≢ n → (wire_at (acted net n a) u).wire.inp ≡ (wire_at net u).wire.inp
  act_inp net n a acts u busy other =
      let x = get_there net.nodes n busy.within in
      let first = get_there net.firsts n (rw busy.each_first busy.within) in
      let f = fits net n a (act_allowed AnyRow AnyLaw net n a acts x.0 first.0 busy x.1 first.1) in
      let at : wire_for a (ports_at net n) < length net.wires = port_within net n a _ busy.wired busy.within f.0 in
      elim (same_or_not u (wire_for a (ports_at net n))) [
        | inl here ↦ elim (at_output a) [
          | inl o ↦ rw here (ap (λ (c : WireState). c.wire.inp) (get_or-set_same net.wires (wire_for a (ports_at net n)) (moved_by a (wire_at net (wire_for a (ports_at net n)))) no_wire at) ∙ out_inp a _ o)
          | inr none ↦ absurd (other (rw here (to_of net n a (wire_for a (ports_at net n)) (λ k i w h e. (busy.wired.input_to k i w h e).1.0) busy.within none f.0)))
        ]
        | inr there ↦ ap (λ (c : WireState). c.wire.inp) (get_or-set_other net.wires (wire_for a (ports_at net n)) u _ no_wire there)
      ]

  acts_sent : (acts : List Act) (net : Net N) (n u : ℕ) → Busy AnyRow AnyLaw net n acts → (end_at net.ends u).from ≢ n → (wire_at (acted_all net n acts) u).wire.sent ≡ (wire_at net u).wire.sent
  acts_sent [] net n u busy other = refl
  acts_sent (a ∷ acts) net n u busy other = acts_sent acts (acted net n a) n u (acted_busy AnyRow AnyLaw net n a acts busy) other ∙ act_sent net n a acts u busy other

  acts_inp : (acts : List Act) (net : Net N) (n u : ℕ) → Busy AnyRow AnyLaw net n acts → (end_at net.ends u).to ≢ n → (wire_at (acted_all net n acts) u).wire.inp ≡ (wire_at net u).wire.inp
  acts_inp [] net n u busy other = refl
  acts_inp (a ∷ acts) net n u busy other = acts_inp acts (acted net n a) n u (acted_busy AnyRow AnyLaw net n a acts busy) other ∙ act_inp net n a acts u busy other

-- ---- one step and the next

module _ {N : Type 0} (passive : N → Bool) where
  pub still_same : (net : Net N) → StandsStill passive net net
  still_same net = record { kinds = refl; grown = λ w. grown_same (wire_at net w); sent = λ w p. refl; asks = λ w p. refl; left = λ w p e. e }

  -- of which a node is depends only on whether each is passive
  passive_as : (xs ys : List N) (n : ℕ) (y : N) → map passive ys ≡ map passive xs → ((x : N) → slice_get xs n ≡ Some x → passive x ≡ true) → slice_get ys n ≡ Some y → passive y ≡ true
  passive_as [] [] n y same p at = cc
  passive_as [] (z ∷ ys) n y same p at = cc
  passive_as (x ∷ xs) [] n y same p at = cc
  passive_as (x ∷ xs) (z ∷ ys) zero y same p at = let here : z ≡ y = some_same z y at in let one : passive x ≡ true = p x refl in let both : passive z ≡ passive x = cc in rw (sym here) (both ∙ one)
  passive_as (x ∷ xs) (z ∷ ys) (suc n) y same p at = passive_as xs ys n y (cc) p at

  pub still_trans : (a b c : Net N) → b.ends ≡ a.ends → StandsStill passive a b → StandsStill passive b c → StandsStill passive a c
  still_trans a b c ends f g =
      let on : (n : ℕ) → IsPassiveAt passive a n → IsPassiveAt passive b n = λ n p y at. passive_as a.nodes b.nodes n y f.kinds p at in
      record {
        kinds = g.kinds ∙ f.kinds;
        grown = λ w. grown_trans (wire_at a w) (wire_at b w) (wire_at c w) (f.grown w) (g.grown w);
        sent = λ w p. g.sent w (rw ends (on _ p)) ∙ f.sent w p;
        asks = λ w p. g.asks w (rw ends (on _ p)) ∙ f.asks w p;
        left = λ w p e. f.left w p (g.left w (rw ends (on _ p)) e);
      }

  -- an event is delivered
  pub still_told : (net v : Net N) (w : ℕ) → w < length net.wires → v ≡ event_told net w → StandsStill passive net v
  still_told net v w h is =
      let d : Delivery = delivery_of (wire_at net w).wire in
      rw is (record {
        kinds = refl;
        grown = λ u. told_grown net w (delivery_of (wire_at net w).wire) h u;
        sent = λ u p. elim (same_or_not u w) [
          | inl e ↦ rw e (ap (λ (c : WireState). c.wire.sent) (get_or-set_same net.wires w (told_by (delivery_of (wire_at net w).wire) (wire_at net w)) no_wire h) ∙ told_sent (delivery_of (wire_at net w).wire) (wire_at net w).wire)
          | inr ne ↦ ap (λ (c : WireState). c.wire.sent) (get_or-set_other net.wires w u _ no_wire ne)
        ];
        asks = λ u p. told_wanted net w (delivery_of (wire_at net w).wire) h u;
        left = λ u p e. elim (same_or_not u w) [
          | inl same ↦ rw same (told_left (delivery_of (wire_at net w).wire) (wire_at net w).wire (sym (ap (λ (c : WireState). c.wire.inp) (get_or-set_same net.wires w (told_by (delivery_of (wire_at net w).wire) (wire_at net w)) no_wire h)) ∙ rw same at e))
          | inr ne ↦ sym (ap (λ (c : WireState). c.wire.inp) (get_or-set_other net.wires w u _ no_wire ne)) ∙ e
        ];
      })

  -- whether each node is passive stays where one is replaced by one of which this is so
  kinds_set : (xs : List N) (n : ℕ) (x y : N) → slice_get xs n ≡ Some x → passive y ≡ passive x → map passive (slice_set xs n y) ≡ map passive xs
  kinds_set [] n x y at e = refl
  kinds_set (z ∷ xs) zero x y at e = let same : z ≡ x = some_same z x at in ap (λ (g : Bool). g ∷ map passive xs) (e ∙ ap passive (sym same))
  kinds_set (z ∷ xs) (suc n) x y at e = ap (λ (l : List Bool). passive z ∷ l) (kinds_set xs n x y at e)

  stays_kind : (p q : Bool) (acts : List Act) → StaysPassive p q acts → q ≡ p
  stays_kind false q acts s = s
  stays_kind true q acts s = s.0

  no_acts : (p q : Bool) (acts : List Act) → p ≡ true → StaysPassive p q acts → acts ≡ []
  no_acts false q acts e s = cc
  no_acts true q acts e s = s.1

  -- node n was called, and did what it wants done
  pub still_acts : (net v new : Net N) (n : ℕ) (x y : N) (acts : List Act) → v ≡ net → n < length net.nodes → x ≡ get_or v.nodes n x → Busy AnyRow AnyLaw (with_node v n y) n acts → StaysPassive (passive x) (passive y) acts → new ≡ acted_all (with_node v n y) n acts → StandsStill passive net new
  still_acts net v new n x y acts e h is busy stays on =
      let at : slice_get net.nodes n ≡ Some x = node_is net v n x e h is in
      let b : Busy AnyRow AnyLaw (with_node net n y) n acts = rw e at busy in
      let now : new ≡ acted_all (with_node net n y) n acts = rw e at on in
      rw now (record {
        kinds = ap (map passive) (nodes-acts acts (with_node net n y) n) ∙ kinds_set net.nodes n x y at (stays_kind (passive x) (passive y) acts stays);
        grown = λ u. acts_grown acts (with_node net n y) n b u;
        sent = λ w p. elim (same_or_not (end_at net.ends w).from n) [
          | inl here ↦ let none : acts ≡ [] = no_acts (passive x) (passive y) acts (p x (rw here at)) stays in rw none refl
          | inr there ↦ acts_sent acts (with_node net n y) n w b there
        ];
        asks = λ w p. elim (same_or_not (end_at net.ends w).to n) [
          | inl here ↦ let none : acts ≡ [] = no_acts (passive x) (passive y) acts (p x (rw here at)) stays in rw none refl
          | inr there ↦ acts_wanted acts (with_node net n y) n w b (inr there)
        ];
        left = λ w p f. elim (same_or_not (end_at net.ends w).to n) [
          | inl here ↦ let none : acts ≡ [] = no_acts (passive x) (passive y) acts (p x (rw here at)) stays in (rw none at f)
          | inr there ↦ sym (acts_inp acts (with_node net n y) n w b there) ∙ f
        ];
      })

  -- the first wire was taken out of the queue
  pub still_taken : (old net new : Net N) (w : ℕ) → Takes old w net → StandsStill passive net new → StandsStill passive old new
  still_taken old net new w t s = subst (λ (a : Net N). StandsStill passive a new) (sym t.is) (record { kinds = s.kinds; grown = s.grown; sent = s.sent; asks = s.asks; left = s.left })

-- ---- which passive nodes have heard

-- an action changes no history of what came, and one at an input leaves what the output knows
move_got : (a : Act) (c : WireState) → (moved_by a c).wire.got ≡ c.wire.got
move_got (Pull i) c = refl
move_got (Push j e) c = refl
move_got (Complete j) c = refl
move_got (FailOut j d) c = refl
move_got (Cancel i) c = refl

in_out : (a : Act) (c : WireState) → (AtOutput a → ⊥) → (moved_by a c).wire.out ≡ c.wire.out
in_out (Pull i) c n = refl
in_out (Push j e) c n = absurd (n tt)
in_out (Complete j) c n = absurd (n tt)
in_out (FailOut j d) c n = absurd (n tt)
in_out (Cancel i) c n = refl

module _ {N : Type 0} where
  act_got : (net : Net N) (n : ℕ) (a : Act) (acts : List Act) (u : ℕ) → Busy AnyRow AnyLaw net n (a ∷ acts) → (wire_at (acted net n a) u).wire.got ≡ (wire_at net u).wire.got
  act_got net n a acts u busy =
      let x = get_there net.nodes n busy.within in
      let first = get_there net.firsts n (rw busy.each_first busy.within) in
      let f = fits net n a (act_allowed AnyRow AnyLaw net n a acts x.0 first.0 busy x.1 first.1) in
      let at : wire_for a (ports_at net n) < length net.wires = port_within net n a _ busy.wired busy.within f.0 in
      elim (same_or_not u (wire_for a (ports_at net n))) [
        | inl here ↦ rw here (ap (λ (c : WireState). c.wire.got) (get_or-set_same net.wires (wire_for a (ports_at net n)) (moved_by a (wire_at net (wire_for a (ports_at net n)))) no_wire at) ∙ move_got a _)
        | inr there ↦ ap (λ (c : WireState). c.wire.got) (get_or-set_other net.wires (wire_for a (ports_at net n)) u _ no_wire there)
      ]

  act_out : (net : Net N) (n : ℕ) (a : Act) (acts : List Act) (u : ℕ) → Busy AnyRow AnyLaw net n (a ∷ acts) → (end_at net.ends u).from ≢ n → (wire_at (acted net n a) u).wire.out ≡ (wire_at net u).wire.out
  act_out net n a acts u busy other =
      let x = get_there net.nodes n busy.within in
      let first = get_there net.firsts n (rw busy.each_first busy.within) in
      let f = fits net n a (act_allowed AnyRow AnyLaw net n a acts x.0 first.0 busy x.1 first.1) in
      let at : wire_for a (ports_at net n) < length net.wires = port_within net n a _ busy.wired busy.within f.0 in
      elim (same_or_not u (wire_for a (ports_at net n))) [
        | inl here ↦ elim (at_output a) [
          | inl o ↦ absurd (other (rw here (from_of net n a (wire_for a (ports_at net n)) (λ k j w h e. (busy.wired.output_from k j w h e).1.0) busy.within o f.0)))
          | inr none ↦ rw here (ap (λ (c : WireState). c.wire.out) (get_or-set_same net.wires (wire_for a (ports_at net n)) (moved_by a (wire_at net (wire_for a (ports_at net n)))) no_wire at) ∙ in_out a _ none)
        ]
        | inr there ↦ ap (λ (c : WireState). c.wire.out) (get_or-set_other net.wires (wire_for a (ports_at net n)) u _ no_wire there)
      ]

  acts_got : (acts : List Act) (net : Net N) (n u : ℕ) → Busy AnyRow AnyLaw net n acts → (wire_at (acted_all net n acts) u).wire.got ≡ (wire_at net u).wire.got
  acts_got [] net n u busy = refl
  acts_got (a ∷ acts) net n u busy = acts_got acts (acted net n a) n u (acted_busy AnyRow AnyLaw net n a acts busy) ∙ act_got net n a acts u busy

  acts_out : (acts : List Act) (net : Net N) (n u : ℕ) → Busy AnyRow AnyLaw net n acts → (end_at net.ends u).from ≢ n → (wire_at (acted_all net n acts) u).wire.out ≡ (wire_at net u).wire.out
  acts_out [] net n u busy other = refl
  acts_out (a ∷ acts) net n u busy other = acts_out acts (acted net n a) n u (acted_busy AnyRow AnyLaw net n a acts busy) other ∙ act_out net n a acts u busy other

-- the one wire of a node
in_only : (p : PortLists) (u w i : ℕ) → HasOnly p u → slice_get p.ins i ≡ Some w → u ≡ w
in_only p u w i only at = first p.ins p.outs i only at
  where
    rest_none : (xs ys : List ℕ) (i : ℕ) → xs ++ ys ≡ [] → slice_get xs i ≡ Some w → u ≡ w
    rest_none [] ys i e at = cc
    rest_none (x ∷ xs) ys i e at = cc

    first : (xs ys : List ℕ) (i : ℕ) → xs ++ ys ≡ u ∷ [] → slice_get xs i ≡ Some w → u ≡ w
    first [] ys i e at = cc
    first (x ∷ xs) ys zero e at = cc
    first (x ∷ xs) ys (suc i) e at = let none : xs ++ ys ≡ [] = cc in rest_none xs ys i none at

out_only : (p : PortLists) (u w i : ℕ) → HasOnly p u → slice_get p.outs i ≡ Some w → u ≡ w
out_only p u w i only at = behind p.ins p.outs i only at
  where
    one : (ys : List ℕ) (i : ℕ) → ys ≡ u ∷ [] → slice_get ys i ≡ Some w → u ≡ w
    one [] i e at = cc
    one (y ∷ ys) zero e at = cc
    one (y ∷ []) (suc i) e at = cc
    one (y ∷ z ∷ ys) (suc i) e at = cc

    none : (xs ys : List ℕ) (i : ℕ) → xs ++ ys ≡ [] → slice_get ys i ≡ Some w → u ≡ w
    none [] [] i e at = cc
    none [] (y ∷ ys) i e at = cc
    none (x ∷ xs) ys i e at = cc

    behind : (xs ys : List ℕ) (i : ℕ) → xs ++ ys ≡ u ∷ [] → slice_get ys i ≡ Some w → u ≡ w
    behind [] ys i e at = one ys i e at
    behind (x ∷ xs) ys i e at = let t : xs ++ ys ≡ [] = cc in none xs ys i t at

module _ {N : Type 0} (passive : N → Bool) where
  -- node n heard of an event, and did what it wants done: the passive nodes know of their ports what they knew, and the other nodes are as they were
  pub record HeardBy (n : ℕ) (old new : Net N) : Type 0 where
    pub outs : (u : ℕ) → IsPassiveAt passive old (end_at old.ends u).from → (wire_at new u).wire.out ≡ (wire_at old u).wire.out
    pub ins : (u : ℕ) → IsPassiveAt passive old (end_at old.ends u).to → ((wire_at new u).wire.inp ≡ (wire_at old u).wire.inp) × ((wire_at new u).wire.got ≡ (wire_at old u).wire.got)
    pub nodes : (k : ℕ) → k ≢ n → slice_get new.nodes k ≡ slice_get old.nodes k

module _ {N : Type 0} (passive : N → Bool) where
  -- node n was called, and did what it wants done
  pub heard_acts : (net v new : Net N) (n : ℕ) (x y : N) (acts : List Act) → v ≡ net → n < length net.nodes → x ≡ get_or v.nodes n x → Busy AnyRow AnyLaw (with_node v n y) n acts → StaysPassive (passive x) (passive y) acts → new ≡ acted_all (with_node v n y) n acts → HeardBy passive n net new
  heard_acts net v new n x y acts e h is busy stays on =
      let at : slice_get net.nodes n ≡ Some x = node_is net v n x e h is in
      let b : Busy AnyRow AnyLaw (with_node net n y) n acts = rw e at busy in
      let now : new ≡ acted_all (with_node net n y) n acts = rw e at on in
      rw now (record {
        outs = λ u p. elim (same_or_not (end_at net.ends u).from n) [
          | inl here ↦ let none : acts ≡ [] = no_acts passive (passive x) (passive y) acts (p x (rw here at)) stays in rw none refl
          | inr there ↦ acts_out acts (with_node net n y) n u b there
        ];
        ins = λ u p. elim (same_or_not (end_at net.ends u).to n) [
          | inl here ↦ let none : acts ≡ [] = no_acts passive (passive x) (passive y) acts (p x (rw here at)) stays in rw none (refl, refl)
          | inr there ↦ (acts_inp acts (with_node net n y) n u b there, acts_got acts (with_node net n y) n u b)
        ];
        nodes = λ k ne. ap (λ (l : List N). slice_get l k) (nodes-acts acts (with_node net n y) n) ∙ get_set_other net.nodes n k y ne;
      })

  -- nothing was heard
  pub untouched_same : (net : Net N) → Untouched passive None net net
  untouched_same net = record { outs = λ u e p. refl; ins = λ u e p. (refl, refl); nodes = λ u k e p o. refl }

  pub untouched_trans : (at : Option ℕ) (a b c : Net N) → b.ends ≡ a.ends → b.ports ≡ a.ports → map passive b.nodes ≡ map passive a.nodes → Untouched passive None a b → Untouched passive at b c → Untouched passive at a c
  untouched_trans at a b c ends ports kinds f g =
      let on : (n : ℕ) → IsPassiveAt passive a n → IsPassiveAt passive b n = λ n p y yi. passive_as passive a.nodes b.nodes n y kinds p yi in
      record {
        outs = λ u e p. g.outs u e (rw ends (on _ p)) ∙ f.outs u tt p;
        ins = λ u e p. let x = g.ins u e (rw ends (on _ p)) in let y = f.ins u tt p in (x.0 ∙ y.0, x.1 ∙ y.1);
        nodes = λ u k e p o. g.nodes u k e (on k p) (rw ports o) ∙ f.nodes u k tt p o;
      }

  out_told : (d : Delivery) (w : JointPorts) (from to n : ℕ) (e : WireEnds) → n ≡ target d e → d ≢ nothing → (e.from ≡ n → ⊥) → (after_delivery d w).out ≡ w.out
  out_told nothing w from to n e is some ne = refl
  out_told pull w from to n e is some ne = absurd (ne (sym is))
  out_told cancel w from to n e is some ne = absurd (ne (sym is))
  out_told (arrived (item.Elem x) more) w from to n e is some ne = refl
  out_told (arrived item.Ended more) w from to n e is some ne = refl
  out_told (arrived (item.Failed c) more) w from to n e is some ne = refl

  in_told : (d : Delivery) (w : JointPorts) (n : ℕ) (e : WireEnds) → n ≡ target d e → d ≢ nothing → (e.to ≡ n → ⊥) → ((after_delivery d w).inp ≡ w.inp) × ((after_delivery d w).got ≡ w.got)
  in_told nothing w n e is some ne = (refl, refl)
  in_told pull w n e is some ne = (refl, refl)
  in_told cancel w n e is some ne = (refl, refl)
  in_told (arrived x more) w n e is some ne = absurd (ne (sym is))

  -- a node that hears of a wire has it
  heard_only : (d : Delivery) (net : Net N) (w u n : ℕ) → Wired net.ends net.ports (length net.nodes) (length net.wires) → w < length net.wires → n ≡ target d (end_at net.ends w) → d ≢ nothing → HasOnly (ports_at net n) u → u ≡ w
  heard_only nothing net w u n wired h is some only = absurd (some refl)
  heard_only pull net w u n wired h is some only = out_only (ports_at net n) u w (end_at net.ends w).output only (rw is (wired.from_output w h))
  heard_only cancel net w u n wired h is some only = out_only (ports_at net n) u w (end_at net.ends w).output only (rw is (wired.from_output w h))
  heard_only (arrived x more) net w u n wired h is some only = in_only (ports_at net n) u w (end_at net.ends w).input only (rw is (wired.to_input w h))

  -- the node at its place in another list of the same kinds
  kind_there : (xs ys : List N) (n : ℕ) (y : N) → map passive xs ≡ map passive ys → slice_get ys n ≡ Some y → (x : N) × ((slice_get xs n ≡ Some x) × (passive x ≡ passive y))
  kind_there [] [] n y e at = cc
  kind_there [] (z ∷ ys) n y e at = cc
  kind_there (x ∷ xs) [] n y e at = cc
  kind_there (x ∷ xs) (z ∷ ys) zero y e at = let same : z ≡ y = some_same z y at in let both : passive x ≡ passive z = cc in (x, (refl, both ∙ ap passive same))
  kind_there (x ∷ xs) (z ∷ ys) (suc n) y e at = let t : map passive xs ≡ map passive ys = cc in kind_there xs ys n y t at

  else_not : (b : Bool) (w : ℕ) → IsElse (touched b w) w → b ≡ true → ⊥
  else_not true w e t = e refl
  else_not false w e t = cc

  -- the event of wire w was delivered, and node n heard of it
  pub untouched_handled : (net v new : Net N) (w n : ℕ) (heard : Bool) → Wired net.ends net.ports (length net.nodes) (length net.wires) → w < length net.wires → v ≡ event_told net w → delivery_of (wire_at net w).wire ≢ nothing → n ≡ target (delivery_of (wire_at net w).wire) (end_at net.ends w)
      → HeardBy passive n v new → map passive new.nodes ≡ map passive v.nodes → ((y : N) → slice_get new.nodes n ≡ Some y → heard ≡ passive y) → n < length net.nodes → Untouched passive (touched heard w) net new
  untouched_handled net v new w n heard wired h is some to by kinds known within =
      let d : Delivery = delivery_of (wire_at net w).wire in
      let told_here : wire_at (event_told net w) w ≡ told_by (delivery_of (wire_at net w).wire) (wire_at net w) = get_or-set_same net.wires w (told_by (delivery_of (wire_at net w).wire) (wire_at net w)) no_wire h in
      let b : HeardBy passive n (event_told net w) new = rw is at by in
      let kinds_here : map passive new.nodes ≡ map passive net.nodes = kinds ∙ ap (λ (a : Net N). map passive a.nodes) is in
      let know : (y : N) → slice_get net.nodes n ≡ Some y → heard ≡ passive y = λ y yi. let z = kind_there new.nodes net.nodes n y kinds_here yi in known z.0 z.1.0 ∙ z.1.1 in
      let there = get_there net.nodes n within in
      let was : (k : ℕ) → IsPassiveAt passive net k → k ≡ n → heard ≡ true = λ k p e. know there.0 there.1 ∙ p there.0 (rw e there.1) in
      record {
        outs = λ u e p. b.outs u p ∙ elim (same_or_not u w) [
          | inl same ↦
              let here : IsElse (touched heard w) w = rw same at e in
              let q : IsPassiveAt passive net (end_at net.ends w).from = rw same at p in
              rw same (ap (λ (c : WireState). c.wire.out) told_here ∙ out_told (delivery_of (wire_at net w).wire) (wire_at net w).wire 0 0 n (end_at net.ends w) to some (λ t. else_not heard w here (was _ q t)))
          | inr ne ↦ ap (λ (c : WireState). c.wire.out) (get_or-set_other net.wires w u _ no_wire ne)
        ];
        ins = λ u e p. let f = b.ins u p in let g : ((wire_at (event_told net w) u).wire.inp ≡ (wire_at net u).wire.inp) × ((wire_at (event_told net w) u).wire.got ≡ (wire_at net u).wire.got) = elim (same_or_not u w) [
          | inl same ↦
              let here : IsElse (touched heard w) w = rw same at e in
              let q : IsPassiveAt passive net (end_at net.ends w).to = rw same at p in
              let r = in_told (delivery_of (wire_at net w).wire) (wire_at net w).wire n (end_at net.ends w) to some (λ t. else_not heard w here (was _ q t)) in
              rw same (ap (λ (c : WireState). c.wire.inp) told_here ∙ r.0, ap (λ (c : WireState). c.wire.got) told_here ∙ r.1)
          | inr ne ↦ let o = get_or-set_other net.wires w u (told_by (delivery_of (wire_at net w).wire) (wire_at net w)) no_wire ne in (ap (λ (c : WireState). c.wire.inp) o, ap (λ (c : WireState). c.wire.got) o)
        ] in (f.0 ∙ g.0, f.1 ∙ g.1);
        nodes = λ u k e p o. b.nodes k (λ t.
            let only : HasOnly (ports_at net n) u = rw t at o in
            let same : u ≡ w = heard_only (delivery_of (wire_at net w).wire) net w u n wired h to some only in
            let here : IsElse (touched heard w) w = rw same at e in
            else_not heard w here (was k p t));
      }

  -- an event that brings nothing
  nothing_told : (d : Delivery) (c : WireState) → d ≡ nothing → told_by d c ≡ c
  nothing_told d c e = rw e refl

  pub untouched_nothing : (net v : Net N) (w : ℕ) → w < length net.wires → v ≡ event_told net w → delivery_of (wire_at net w).wire ≡ nothing → Untouched passive None net v
  untouched_nothing net v w h is none =
      let same : (u : ℕ) → wire_at (event_told net w) u ≡ wire_at net u = λ u. elim (same_or_not u w) [
        | inl e ↦ rw e (get_or-set_same net.wires w (told_by (delivery_of (wire_at net w).wire) (wire_at net w)) no_wire h ∙ nothing_told (delivery_of (wire_at net w).wire) (wire_at net w) none)
        | inr ne ↦ get_or-set_other net.wires w u _ no_wire ne
      ] in
      rw is (record {
        outs = λ u e p. ap (λ (c : WireState). c.wire.out) (same u);
        ins = λ u e p. (ap (λ (c : WireState). c.wire.inp) (same u), ap (λ (c : WireState). c.wire.got) (same u));
        nodes = λ u k e p o. refl;
      })

  untouched_taken : (at : Option ℕ) (old net new : Net N) (w : ℕ) → Takes old w net → Untouched passive at net new → Untouched passive at old new
  untouched_taken at old net new w t s = subst (λ (a : Net N). Untouched passive at a new) (sym t.is) (record { outs = s.outs; ins = s.ins; nodes = s.nodes })

  pub untouched_as : (b c : Bool) (w : ℕ) (old new : Net N) → b ≡ c → Untouched passive (touched b w) old new → Untouched passive (touched c w) old new
  untouched_as b c w old new e u = subst (λ (z : Bool). Untouched passive (touched z w) old new) e u

  pub untouched_next : (b c : Bool) (w : ℕ) (old net new : Net N) → b ≡ c → Takes old w net → Untouched passive (touched b w) net new → Untouched passive (touched c w) old new
  untouched_next b c w old net new e t u = untouched_taken (touched c w) old net new w t (untouched_as b c w net new e u)

  -- who looks at a wire of which no passive node heard has the more to look at
  pub untouched_more : (b : Bool) (w : ℕ) (old new : Net N) → Untouched passive (touched b w) old new → Untouched passive (touched true w) old new
  untouched_more true w old new u = u
  untouched_more false w old new u = record { outs = λ k e p. u.outs k tt p; ins = λ k e p. u.ins k tt p; nodes = λ k n e p o. u.nodes k n tt p o }

  pub untouched_stop : (b : Bool) (w : ℕ) (old net new : Net N) → Takes old w net → Untouched passive (touched b w) net new → Untouched passive (touched true w) old new
  untouched_stop b w old net new t u = untouched_taken (touched true w) old net new w t (untouched_more b w net new u)

  -- a node is passive as it was before it did what it wants done
  pub acts_passive : (net v new : Net N) (n : ℕ) (acts : List Act) (x : N) (b : Bool) → v ≡ net → new ≡ acted_all net n acts → n < length net.nodes → x ≡ get_or v.nodes n x → b ≡ passive x → AtNode new n (λ y. b ≡ passive y)
  acts_passive net v new n acts x b e is h at known y yi =
      let nodes : new.nodes ≡ net.nodes = ap (λ (a : Net N). a.nodes) is ∙ nodes-acts acts net n in
      known ∙ ap passive (some_same x y (sym (node_is net v n x e h at) ∙ ap (λ (xs : List N). slice_get xs n) (sym nodes) ∙ yi))

  -- one that is passive once it was called has nothing to do
  pub called_still : (net v : Net N) (n : ℕ) (x y : N) (acts : List Act) → v ≡ net → n < length net.nodes → x ≡ get_or v.nodes n x → StaysPassive (passive x) (passive y) acts → AtNode (with_node v n y) n (λ z. passive z ≡ true → acts ≡ [])
  called_still net v n x y acts e h is stays z zi p =
      let within : n < length v.nodes = rw e h in
      let same : y ≡ z = some_same y z (sym (get_set_same v.nodes n y within) ∙ zi) in
      still_by (passive x) (passive y) acts stays (ap passive same ∙ p)
    where
      still_by : (a b : Bool) (acts : List Act) → StaysPassive a b acts → b ≡ true → acts ≡ []
      still_by false b acts s e = absurd (let t : true ≡ false = sym e ∙ s in cc)
      still_by true b acts s e = s.1

  -- the same by what the code of it reads
  pub handle_untouched : (net v new : Net N) (w n : ℕ) (event : Delivery) (ends : WireEnds) (heard : Bool) → Wired net.ends net.ports (length net.nodes) (length net.wires) → w < length net.wires → v ≡ event_told net w → event ≡ delivery_of (wire_at net w).wire → event ≢ nothing → ends ≡ end_at net.ends w → n ≡ target event ends
      → HeardBy passive n v new → map passive new.nodes ≡ map passive v.nodes → n < length v.nodes → AtNode new n (λ x. heard ≡ passive x) → Untouched passive (touched heard w) net new
  handle_untouched net v new w n event ends heard wired h is event_is some ends_is to by kinds within known =
      let target_is : n ≡ target (delivery_of (wire_at net w).wire) (end_at net.ends w) = rw (sym event_is, sym ends_is) to in
      let there : n < length net.nodes = rw is at within in
      untouched_handled net v new w n heard wired h is (λ e. some (event_is ∙ e)) target_is by kinds known there

-- memory was wanting behind that moment
pub breaks_aside : {N : Type 0} (port_state : N → View → Type 0) (law : N → N → View → List (List Item) → List (List Item) → Type 0) (asking : N → View → Type 0) (moves : N → List ℕ) (gone : N → List Item) (passive : N → Bool) (keeps : N → N → Type 0) (old last : Net N) (nodes : List N)
    → Settled port_state law asking moves last → NetGoesOn old last → AllKept keeps last.nodes nodes → map gone last.nodes ≡ map gone old.nodes → StandsStill passive old last → BreaksAside port_state law asking moves gone passive keeps old nodes
breaks_aside port_state law asking moves gone passive keeps old last nodes settled on kept none still = record { breaks = record { last = last; settled = settled; on = on; kept = kept }; none_gone = none; still = still }
