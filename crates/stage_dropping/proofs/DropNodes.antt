-- A buffer that drops as a node: where it is open, how calls keep its law over its histories, and what it gave against its outlook.
use Rattle.std.specs.Prelude.{slice_index_or, Option, None, Some}
use Rattle.std.specs.Option.{option_map, option_to_list}
use Rattle.std.proofs.Common.{◌≡◌, ◌≢◌, ℕ, ◌<◌, ◌⊎◌, inl, Bool, true, false, List, [], ◌∷◌, ◌++◌, length, refl, sym, ap, ◌∙◌, subst}
use Rattle.elem_core.specs.Tree.{Tree}
use Rattle.elem_core.specs.declared.item.Item.{Item}
use Rattle.elem_core.specs.declared.why.Decider.{Decider}
use Rattle.port_core.specs.Picks.{Picks, IsFreeLog, planned, next_move}
use Rattle.port_core.specs.declared.pick_log.Next.{Next}
use Rattle.port_core.specs.declared.act.Act.{Act}
use Rattle.port_core.specs.declared.view.InView.{InView}
use Rattle.port_core.specs.declared.view.InView.TheVariants.{Idle}
use Rattle.port_core.specs.declared.view.OutView.{OutView}
use Rattle.port_core.specs.declared.view.OutView.TheVariants as outlet
use Rattle.port_core.specs.View.{View, OneOneOf, IsInOpen, IsOutOpen, ActsAllowed, acted_all, unpulled_ports}
use Rattle.port_core.specs.Call.{Call, starts, pulls, arrives, cancels, CallAllowed, seen, Obeys, given_on}
use Rattle.stream_model.specs.declared.kind.Kind.TheVariants.{Buffer}
use Rattle.stream_model.specs.declared.kind.Policy.{Policy}
use Rattle.stream_model.specs.declared.kind.Policy.TheVariants.{Backpressure, DropHead, DropTail, DropBuffer, DropNew, Fail}
use Rattle.stream_model.specs.Graph.{Graph}
use Rattle.stream_model.specs.Node.{World, node_outlook}
use Rattle.stream_model.specs.Fits.{moves_fit}
use Rattle.stream_model.specs.Outlook.{Outlook, End, unended, Agrees}
use Rattle.stream_model.specs.FanIn.{Inflow, AllAgree}
use Rattle.stream_model.specs.Picks.{buffer_fits, buffer_outlook}
use Rattle.stream_model.proofs.Agreeing.{buffer_moves_fit}
use Rattle.stream_model.proofs.PickTraces.{buffer_trace}
use Rattle.stage_core.specs.Handling.{Starts, Handles}
use Rattle.stage_core.specs.Histories.{given_all, brought_by, AllEmpty}
use Rattle.stage_core.proofs.OneOnes.{one_input}
use Rattle.stage_core.specs.Law.{GaveAs}
use Rattle.stage_core.specs.Inflows.{PortsLaw, nothing_came}
use Rattle.stage_core.proofs.OpenPorts.{may_come, closed_ports}
use Rattle.stage_core.specs.declared.phase.Phase.{Phase}
use Rattle.stage_core.specs.declared.phase.Phase.TheVariants.{New, Open, Closed}
use Rattle.stage_core.specs.PortsLaws.{InPortsLaw}
use Rattle.stage_core.specs.Seats.{wish}
use Rattle.stage_core.proofs.Histories.{in_node, ins_seen, ins_acted, begun}
use Rattle.stage_dropping.specs.Drops.{holds, Obligation, serves, stopped, LostAt, OwesAt, Keeps, DropStandsOf, RestGiven, DropCounts, DropMisfits, drop_moves}
use Rattle.stage_dropping.specs.Droppings.{Dropping, NamesMoves, in_of, DropKnows, Fresh, drop_at, drop_in, port_state, pending, held_by, held_in, held_of, Turned, Begins, DropFresh, DropPortState, DropsAs}
use Rattle.stage_dropping.proofs.Counts.{moves_counted}
use Rattle.stage_dropping.proofs.DropTurns as turns
use Rattle.stage_dropping.proofs.DropCalls.{new_waits, new_lists}

-- ---- where it is called

some_open : (call : Call) (x : InView) (y : OutView) → CallAllowed call (record { ins = x ∷ []; outs = y ∷ [] }) → IsInOpen x ⊎ IsOutOpen y
some_open starts x y h = inl (rw h.0.0 tt)
some_open (pulls j) x y h = may_come (pulls j) x y (λ e. cc) h
some_open (arrives i b) x y h = may_come (arrives i b) x y (λ e. cc) h
some_open (cancels j) x y h = may_come (cancels j) x y (λ e. cc) h

open_at : (l : Dropping) (p : Phase) (x : InView) (y : OutView) → l.phase ≡ p → (p ≡ New → ⊥) → (IsInOpen x ⊎ IsOutOpen y) → drop_at l p x y → l.phase ≡ Open
open_at l Open x y is n h r = is
open_at l New x y is n h r = absurd (n refl)
open_at l Closed x y is n h r = absurd (closed_ports x y h r)

open_in : (l : Dropping) (b : Bool) (x : InView) (y : OutView) → (l.phase ≡ New → ⊥) → (IsInOpen x ⊎ IsOutOpen y) → drop_in b l x y → l.phase ≡ Open
open_in l false x y n h r = open_at l l.phase x y refl n h r
open_in l true x y n h r = r.phase_is

open_lists : (l : Dropping) (call : Call) (xs : List InView) (ys : List OutView) → (l.phase ≡ New → ⊥) → CallAllowed call (record { ins = xs; outs = ys }) → OneOneOf (drop_in l.log.stuck l) xs ys → l.phase ≡ Open
open_lists l call (x ∷ []) (y ∷ []) n h r = open_in l l.log.stuck x y n (some_open call x y h) r
open_lists l call [] ys n h r = absurd r
open_lists l call (x ∷ []) [] n h r = absurd r
open_lists l call (x ∷ []) (y ∷ z ∷ ys) n h r = absurd r
open_lists l call (x ∷ u ∷ xs) ys n h r = absurd r

pub called_open : (l : Dropping) (call : Call) (v : View) → (l.phase ≡ New → ⊥) → CallAllowed call v → port_state l v → l.phase ≡ Open
called_open l call v n h r = open_lists l call v.ins v.outs n h r

-- ---- calls

module _ (node : ℕ) (p : Policy) (n : ℕ) where
  keeps_ports : (c : Call) (old new : Obligation) (v : View) (took gave : List (List Item)) (acts : List Act) → CallAllowed c v → ActsAllowed (seen c v) acts → OwesAt node p n c old (given_on 0 acts) new → ((next : Next) (moves : List ℕ) → old ≡ stopped next moves → acts ≡ [])
      → InPortsLaw (Keeps node p n old) v took gave → InPortsLaw (Keeps node p n new) (acted_all (seen c v) acts) (brought_by c took) (given_all acts gave)
  keeps_ports c old new v took gave acts may allowed turn none law =
      in_node (Keeps node p n old) (Keeps node p n new) c v (acted_all (seen c v) acts) took gave acts (ins_acted acts (seen c v) ∙ ins_seen c v)
      (λ given l. turns.any_call node p n c old new v (λ i. slice_index_or took i []) given acts may allowed turn none l) law

is_stuck : (l : Dropping) (next : Next) (moves : List ℕ) → held_of l ≡ stopped next moves → l.log.stuck ≡ true
is_stuck l next moves h = by_stuck l.log.stuck refl
  where
    by_stuck : (b : Bool) → l.log.stuck ≡ b → l.log.stuck ≡ true
    by_stuck true e = e
    by_stuck false e = let k : held_of l ≡ serves (held_by l.phase l) = ap (λ b. held_in b l) e in let x : serves (held_by l.phase l) ≡ stopped next moves = sym k ∙ h in cc

-- the law over its histories once a call's actions are done
law_after : (c : Call) (first old new : Dropping) (v : View) (took gave : List (List Item)) (acts : List Act) → CallAllowed c v → ActsAllowed (seen c v) acts → Turned c old acts new
    → DropsAs first old v took gave → DropsAs first new (acted_all (seen c v) acts) (brought_by c took) (given_all acts gave)
law_after c first old new v took gave acts may allowed t law = record {
  unmoved = law.unmoved;
  node = t.node ∙ law.node;
  policy = t.policy ∙ law.policy;
  size = t.size ∙ law.size;
  plan = t.plan ∙ law.plan;
  by = keeps_ports first.node first.policy first.size c (held_of old) (held_of new) v took gave acts may allowed
      (subst (λ k. OwesAt k first.policy first.size c (held_of old) (given_on 0 acts) (held_of new)) law.node
      (subst (λ q. OwesAt old.node q first.size c (held_of old) (given_on 0 acts) (held_of new)) law.policy
      (subst (λ m. OwesAt old.node old.policy m c (held_of old) (given_on 0 acts) (held_of new)) law.size t.turn)))
      (λ next moves h. t.still (is_stuck old next moves h))
      law.by;
}

pub handled : (c : Call) (old new : Dropping) (acts : List Act) → Obeys c (port_state old) (port_state new) acts → Turned c old acts new → Handles DropPortState DropsAs c old new acts
handled c old new acts o t = record {
  obeys = record {
    allowed = λ v may r. o.allowed v may r.ports;
    ports = λ v may r. record { started = t.started; ports = o.ports v may r.ports };
  };
  stands = t.stands;
  keeps = λ first v took gave may r law. law_after c first old new v took gave acts may (o.allowed v may r.ports) t law;
}

-- ---- before anything came

fresh_law : (l : Dropping) (v : View) (took gave : List (List Item)) → CallAllowed starts v → DropFresh l v → AllEmpty took → AllEmpty gave → length took ≡ length v.ins → length gave ≡ length v.outs → DropsAs l l v took gave
fresh_law l v took gave may f a b m n =
    let w = new_waits l v f.fresh f.ports in
    let k = new_lists l v.ins v.outs w f.ports in
    let new : Fresh l = k.1 in
    let outs : v.outs ≡ outlet.Unpulled ∷ [] = ap (λ (u : View). u.outs) k.0 ∙ ap (λ q. wish q ∷ []) new.unasked in
    let owes : held_of l ≡ serves (holds 0 [] [] nothing_came) =
    ap (λ q. held_in q l) w.calm ∙ ap (λ q. serves (held_by q l)) f.fresh ∙ ap (λ c. serves (holds c l.log.moves l.held (pending l))) new.none_came ∙ ap (λ ms. serves (holds 0 ms l.held (pending l))) new.unmoved
    ∙ ap (λ h. serves (holds 0 [] h (pending l))) new.empty ∙ ap (λ o. serves (holds 0 [] [] (record { list = option_to_list o; end = l.after }))) new.none ∙ ap (λ e. serves (holds 0 [] [] (record { list = []; end = e }))) new.going in
    let one : length v.ins ≡ 1 = one_input (drop_in l.log.stuck l) v.ins v.outs f.ports in
    record {
      unmoved = new.unmoved;
      node = refl;
      policy = refl;
      size = refl;
      plan = refl;
      by = begun (Keeps l.node l.policy l.size (held_of l)) v took gave a b m (n ∙ ap length outs)
          (subst (λ x. PortsLaw (Keeps l.node l.policy l.size x) v (λ _. []) []) (sym owes)
          (turns.drop_new l.node l.policy l.size v one may.0 (subst (λ ys. GaveAs (slice_index_or ys 0 outlet.Closed) unended) (sym outs) refl)));
    }

pub started : (old new : Dropping) (acts : List Act) → Obeys starts (port_state old) (port_state new) acts → Turned starts old acts new → Starts DropPortState DropsAs DropFresh old new acts
started old new acts o t = record {
  obeys = record {
    allowed = λ v may r. o.allowed v may r.ports;
    ports = λ v may r. record { started = t.started; ports = o.ports v may r.ports };
  };
  stands = t.stands;
  begins = λ v took gave may r a b m n. law_after starts old old new v took gave acts may (o.allowed v may r.ports) t (fresh_law old v took gave may r a b m n);
}

pub new_may_start : (node n : ℕ) (p : Policy) (l : Dropping) → p ≢ Backpressure → 0 < n → Begins node n p l → DropFresh l unpulled_ports
new_may_start node n p l drops some b =
    let new : l.phase ≡ New = ap (λ (x : Dropping). x.phase) b.is in
    let going : l.after ≡ unended = ap (λ (x : Dropping). x.after) b.is in
    let unpulled : l.pulled ≡ false = ap (λ (x : Dropping). x.pulled) b.is in
    let unasked : l.asked ≡ false = ap (λ (x : Dropping). x.asked) b.is in
    let policy : l.policy ≡ p = ap (λ (x : Dropping). x.policy) b.is in
    let size : l.size ≡ n = ap (λ (x : Dropping). x.size) b.is in
    let known : DropKnows l Idle outlet.Unpulled = record {
      input = sym (ap (λ e. in_of e l.pulled) going ∙ ap (λ q. in_of unended q) unpulled);
      output = sym (ap wish unasked);
    } in
    let fresh : Fresh l = record {
      phase_is = new;
      calm = b.calm;
      unmoved = b.unmoved;
      drops = subst (λ q. q ≢ Backpressure) (sym policy) drops;
      some = subst (λ k. 0 < k) (sym size) some;
      none_came = ap (λ (x : Dropping). x.came) b.is;
      empty = ap (λ (x : Dropping). x.held) b.is;
      unasked = unasked;
      unpulled = unpulled;
      none = ap (λ (x : Dropping). x.waiting) b.is;
      going = going;
      named = b.named;
    } in
    record { fresh = new; ports = subst (λ q. drop_in q l Idle outlet.Unpulled) (sym b.calm) (subst (λ q. drop_at l q Idle outlet.Unpulled) (sym new) (known, fresh)) }

-- ---- outlooks

moves_by : (l : Dropping) (b : Bool) (f : Phase) → l.phase ≡ f → drop_moves (held_in b l) ≡ l.log.moves
moves_by l true f e = refl
moves_by l false f e = ap (λ q. drop_moves (serves (held_by q l))) e ∙ by_phase f
  where
    by_phase : (f : Phase) → drop_moves (serves (held_by f l)) ≡ l.log.moves
    by_phase New = refl
    by_phase Open = refl
    by_phase Closed = refl

moves_held : (l : Dropping) → drop_moves (held_of l) ≡ l.log.moves
moves_held l = moves_by l l.log.stuck l.phase refl

module _ (g : Graph) (w : World) (node n : ℕ) (ms : List ℕ) (same : w.moves node ≡ ms) where
  fits_by : (p : Policy) (o : Outlook) → p ≢ Backpressure → buffer_fits p n ms o ≡ true → moves_fit g w node (Buffer n p) (o ∷ []) ≡ true
  fits_by Backpressure o drops h = absurd (drops refl)
  fits_by DropHead o drops h = ap (λ k. buffer_fits DropHead n k o) same ∙ h
  fits_by DropTail o drops h = ap (λ k. buffer_fits DropTail n k o) same ∙ h
  fits_by DropBuffer o drops h = ap (λ k. buffer_fits DropBuffer n k o) same ∙ h
  fits_by DropNew o drops h = ap (λ k. buffer_fits DropNew n k o) same ∙ h
  fits_by Fail o drops h = ap (λ k. buffer_fits Fail n k o) same ∙ h

  agrees_by : (d : Decider) (p : Policy) (o : Outlook) (h : List Tree) (e : End) → p ≢ Backpressure → Agrees (buffer_outlook node p n ms o) h e → Agrees (node_outlook g w node (Buffer n p) d (o ∷ []) 0) h e
  agrees_by d Backpressure o h e drops a = absurd (drops refl)
  agrees_by d DropHead o h e drops a = subst (λ k. Agrees (buffer_outlook node DropHead n k o) h e) (sym same) a
  agrees_by d DropTail o h e drops a = subst (λ k. Agrees (buffer_outlook node DropTail n k o) h e) (sym same) a
  agrees_by d DropBuffer o h e drops a = subst (λ k. Agrees (buffer_outlook node DropBuffer n k o) h e) (sym same) a
  agrees_by d DropNew o h e drops a = subst (λ k. Agrees (buffer_outlook node DropNew n k o) h e) (sym same) a
  agrees_by d Fail o h e drops a = subst (λ k. Agrees (buffer_outlook node Fail n k o) h e) (sym same) a

module _ (first now : Dropping) (v : View) (took gave : List (List Item)) (law : DropsAs first now v took gave) where
  pub stands : DropStandsOf first.node first.policy first.size now.log.moves law.by.law.ins law.by.law.out_list law.by.law.out_end
  stands = subst (λ ms. DropStandsOf first.node first.policy first.size ms law.by.law.ins law.by.law.out_list law.by.law.out_end) (moves_held now)
      (turns.drop_stands first.node first.policy first.size (held_of now) v (λ i. slice_index_or took i []) law.by.given law.by.law)

  pub rest_given : RestGiven first.policy first.size (held_of now) law.by.law.ins law.by.law.out_list
  rest_given = turns.rest_given first.node first.policy first.size (held_of now) v (λ i. slice_index_or took i []) law.by.given law.by.law

  pub counted : DropCounts now.log.moves law.by.law.ins law.by.law.out_list
  counted = moves_counted first.node first.policy first.size now.log.moves law.by.law.ins law.by.law.out_list law.by.law.out_end stands

  module _ (g : Graph) (w : World) (drops : first.policy ≢ Backpressure) (same : w.moves first.node ≡ now.log.moves) where
    pub fits : (is : List Outlook) → AllAgree is law.by.law.ins → moves_fit g w first.node (Buffer first.size first.policy) is ≡ true
    fits is a = by_ports is law.by.law.ins a stands
      where
        by_ports : (is : List Outlook) (ins : List Inflow) → AllAgree is ins → DropStandsOf first.node first.policy first.size now.log.moves ins law.by.law.out_list law.by.law.out_end → moves_fit g w first.node (Buffer first.size first.policy) is ≡ true
        by_ports (o ∷ []) (f ∷ []) a s =
            fits_by g w first.node first.size now.log.moves same first.policy o drops (buffer_moves_fit first.node first.policy first.size now.log.moves o f law.by.law.out_list law.by.law.out_end a.0 s)
        by_ports is [] a s = absurd s
        by_ports is (f ∷ h ∷ fs) a s = absurd s
        by_ports [] (f ∷ []) a s = absurd a
        by_ports (o ∷ q ∷ os) (f ∷ []) a s = absurd a.1

    pub agrees : (d : Decider) (is : List Outlook) → AllAgree is law.by.law.ins → Agrees (node_outlook g w first.node (Buffer first.size first.policy) d is 0) law.by.law.out_list law.by.law.out_end
    agrees d is a = by_ports is law.by.law.ins a stands
      where
        by_ports : (is : List Outlook) (ins : List Inflow) → AllAgree is ins → DropStandsOf first.node first.policy first.size now.log.moves ins law.by.law.out_list law.by.law.out_end
            → Agrees (node_outlook g w first.node (Buffer first.size first.policy) d is 0) law.by.law.out_list law.by.law.out_end
        by_ports (o ∷ []) (f ∷ []) a s =
            agrees_by g w first.node first.size now.log.moves same d first.policy o law.by.law.out_list law.by.law.out_end drops
            (buffer_trace first.node first.policy first.size now.log.moves o f law.by.law.out_list law.by.law.out_end a.0 s)
        by_ports is [] a s = absurd s
        by_ports is (f ∷ h ∷ fs) a s = absurd s
        by_ports [] (f ∷ []) a s = absurd a
        by_ports (o ∷ q ∷ os) (f ∷ []) a s = absurd a.1

-- ---- one that follows moves

pub has_cause : (is : List Outlook) (first now : Dropping) (v : View) (took gave : List (List Item)) → now.log.stuck ≡ true → (law : DropsAs first now v took gave) → AllAgree is law.by.law.ins
    → (o : Outlook) × ((is ≡ o ∷ []) × DropMisfits first.policy first.size (next_move now.log.left) now.log.moves o)
has_cause is first now v took gave stuck law a = by_stuck now.log.stuck stuck law.by.law a
  where
    by_stuck : (b : Bool) → b ≡ true → (p : PortsLaw (Keeps first.node first.policy first.size (held_in b now)) v (λ i. slice_index_or took i []) law.by.given) → AllAgree is p.ins
        → (o : Outlook) × ((is ≡ o ∷ []) × DropMisfits first.policy first.size (next_move now.log.left) now.log.moves o)
    by_stuck true e p a = turns.has_cause first.node first.policy first.size (next_move now.log.left) now.log.moves is v (λ i. slice_index_or took i []) law.by.given p a
    by_stuck false e p a = cc

pub plan_begins : (first now : Dropping) (v : View) (took gave : List (List Item)) → DropsAs first now v took gave → planned now.log ≡ first.log.left
plan_begins first now v took gave law = law.plan ∙ by_left first.log.left refl
  where
    by_left : (l : Option (List ℕ)) → first.log.left ≡ l → planned first.log ≡ first.log.left
    by_left None e = rw e refl
    by_left (Some ms) e = let u = law.unmoved in rw (e, u) refl

free_is_calm : (first now : Dropping) (v : View) (took gave : List (List Item)) → now.log.left ≡ None → DropsAs first now v took gave → now.log.stuck ≡ false
free_is_calm first now v took gave none law = by_stuck now.log.stuck refl law.by.law
  where
    by_stuck : (b : Bool) → now.log.stuck ≡ b → PortsLaw (Keeps first.node first.policy first.size (held_in b now)) v (λ i. slice_index_or took i []) law.by.given → now.log.stuck ≡ false
    by_stuck false e p = e
    by_stuck true e p = absurd (subst (λ (l : Option (List ℕ)). LostAt (next_move l) p.keeps.items p.keeps.left) none p.keeps.lost)

pub none_left_over : (p : Picks) → planned p ≡ None → p.left ≡ None
none_left_over p h = by_left p.left refl h
  where
    by_left : (l : Option (List ℕ)) → p.left ≡ l → option_map (λ (ms : List ℕ). p.moves ++ ms) l ≡ None → p.left ≡ None
    by_left None e k = e
    by_left (Some ms) e k = cc

pub stays_free : (first now : Dropping) (v : View) (took gave : List (List Item)) → first.log.left ≡ None → DropsAs first now v took gave → IsFreeLog now.log
stays_free first now v took gave none law =
    let left : now.log.left ≡ None = none_left_over now.log (plan_begins first now v took gave law ∙ none) in
    record { none = left; calm = free_is_calm first now v took gave left law }

-- a new one that takes moves to follow is a new one still
pub follows : (v old : Dropping) (log : Picks) (moves : List ℕ) → v ≡ old → NamesMoves (Some moves) → log.moves ≡ [] → log.left ≡ Some moves → log.stuck ≡ false → (node n : ℕ) (p : Policy) → Begins node n p old → Begins node n p (record v { log = log })
follows v old log moves same named none left calm node n p b =
    let i : v ≡ record v { phase = New; node = node; policy = p; size = n; came = 0; held = []; asked = false; pulled = false; waiting = None; after = unended } = (subst (λ (x : Dropping). Begins node n p x) (sym same) b).is in
    record {
      is = ap (λ (x : Dropping). record x { log = log }) i;
      unmoved = none;
      calm = calm;
      named = subst (λ (l : Option (List ℕ)). NamesMoves l) (sym left) named;
    }
