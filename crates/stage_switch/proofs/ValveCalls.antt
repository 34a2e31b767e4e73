-- What each handler of a valve comes to, by what it found and by its parts.
use Rattle.std.specs.Prelude.{Option, None, Some}
use Rattle.std.proofs.Common.{◌≡◌, ℕ, ◌+◌, Bool, true, false, List, [], ◌∷◌, refl, sym, ap, ◌∙◌, subst}
use Rattle.elem_core.specs.Tree.{Tree}
use Rattle.elem_core.specs.declared.why.Cause.{Cause}
use Rattle.elem_core.specs.declared.item.Item.{Item}
use Rattle.elem_core.specs.declared.item.Item.TheVariants as item
use Rattle.port_core.specs.Picks.{next_move, may_end}
use Rattle.port_core.specs.declared.act.Act.{Act}
use Rattle.port_core.specs.declared.act.Act.TheVariants.{Pull, Push, Complete, FailOut, Cancel}
use Rattle.port_core.specs.declared.view.InView.{InView}
use Rattle.port_core.specs.declared.view.OutView.{OutView}
use Rattle.port_core.specs.View.{View, OneOneOf}
use Rattle.port_core.specs.Call.{Call, starts, pulls, arrives, cancels, Meets}
use Rattle.stage_core.specs.declared.phase.Phase.{Phase}
use Rattle.stage_core.specs.declared.phase.Phase.TheVariants.{New, Open, Closed}
use Rattle.stage_switch.specs.declared.order.Order.{Order}
use Rattle.stage_switch.specs.States.{Valve, MayCount, SeatBy, IsDue, valve_in, valve_port_state, watched, stop_acts}
use Rattle.stage_switch.proofs.ValveSteps.{Handled, Found, found, stays_still, still_moves, begins, begins_acting, asks, passes_on, ends, fails, stops_ended, stops_failed, leaves, asked_acts, dropped_acts, ended_acts, failed_acts, leaves_acting, one_more_counts}

-- ---- what a handler finds

-- how many passed is within what its moves count
pub counts_by : (call : Call) (old : Valve) → old.stuck ≡ false → Meets call (valve_port_state old) → MayCount old.left old.passed
counts_by call old on m = by_lists m.0.ins m.0.outs m.1.1.0
  where
    by_lists : (xs : List InView) (ys : List OutView) → OneOneOf (valve_in old.stuck old) xs ys → MayCount old.left old.passed
    by_lists (x ∷ []) (y ∷ []) r = (subst (λ b. valve_in b old x y) on r).1
    by_lists [] ys r = absurd r
    by_lists (x ∷ []) [] r = absurd r
    by_lists (x ∷ []) (y ∷ z ∷ ys) r = absurd r
    by_lists (x ∷ w ∷ xs) ys r = absurd r

-- one that stopped was started
pub never_new : (old : Valve) → old.phase ≡ New → old.stuck ≡ true → Meets starts (valve_port_state old) → ⊥
never_new old fresh on m = by_lists m.0.ins m.0.outs m.1.1.0
  where
    by_lists : (xs : List InView) (ys : List OutView) → OneOneOf (valve_in old.stuck old) xs ys → ⊥
    by_lists (x ∷ []) (y ∷ []) r = let s = (subst (λ b. valve_in b old x y) on r).0 in let z : New ≡ Open = sym fresh ∙ s in cc
    by_lists [] ys r = r
    by_lists (x ∷ []) [] r = r
    by_lists (x ∷ []) (y ∷ z ∷ ys) r = r
    by_lists (x ∷ w ∷ xs) ys r = r

pub still_by : (call : Call) (old : Valve) (acts : List Act) → acts ≡ [] → old.stuck ≡ true → old.phase ≡ Open → SeatBy old.left old.switch old.seat old.moves → Meets call (valve_port_state old) → Handled call old acts old
still_by call old acts e on op well m = let k = still_moves call old on m in rw e (stays_still call old on op well k.0 k.1)

-- what a look at its switch, or at its moves, comes to
pub record Watched (old : Valve) (o : Option Order) (mid : Valve) : Type 0 where
  pub is : mid ≡ watched old o
  pub due : IsDue old.left old.passed o
  pub seat : SeatBy mid.left mid.switch mid.seat mid.moves
  pub well : SeatBy old.left old.switch old.seat old.moves
  pub on : old.stuck ≡ false
  pub unmoved : old.moves ≡ []
  pub count : MayCount old.left old.passed

found_by : (old mid : Valve) (o : Option Order) → Watched old o mid → Found old o mid
found_by old mid o w = found old o mid w.is w.unmoved w.well w.due w.seat

-- an order acts at the node of the valve
stops_at : (old mid : Valve) (o : Option Order) (w : Watched old o mid) (a : Order) (b : Bool) (acts : List Act) → acts ≡ stop_acts mid.node a b → acts ≡ stop_acts old.node a b
stops_at old mid o w a b acts e = e ∙ ap (λ n. stop_acts n a b) (found_by old mid o w).node

-- ---- the start

pub starts_open : (old mid new : Valve) (o : Option Order) (acts : List Act) → old.phase ≡ New → Watched old o mid → o ≡ None → new ≡ record mid { phase = Open } → acts ≡ [] → Handled starts old acts new
starts_open old mid new o acts fresh w nothing is e = rw (is, e) (begins old mid o fresh w.on w.unmoved w.count (found_by old mid o w) nothing)

pub starts_shut : (old mid new : Valve) (o : Option Order) (acts : List Act) (a : Order) → old.phase ≡ New → Watched old o mid → o ≡ Some a → new ≡ record mid { phase = Closed } → acts ≡ stop_acts mid.node a true → Handled starts old acts new
starts_shut old mid new o acts a fresh w some is e = rw (is, stops_at old mid o w a true acts e) (begins_acting old mid o fresh w.on w.unmoved w.count (found_by old mid o w) a some)

-- ---- its further calls

module _ (old mid new : Valve) (o : Option Order) (acts : List Act) (op : old.phase ≡ Open) (w : Watched old o mid) where
  pub asked_by : o ≡ None → new ≡ mid → acts ≡ Pull 0 ∷ [] → Handled (pulls 0) old acts new
  asked_by nothing is e = rw (is, e) (asks old mid o op w.on w.unmoved w.count (found_by old mid o w) nothing)

  pub asked_shuts : (a : Order) → o ≡ Some a → new ≡ record mid { phase = Closed } → acts ≡ stop_acts mid.node a true → Handled (pulls 0) old acts new
  asked_shuts a some is e = rw (is, stops_at old mid o w a true acts e) (asked_acts old mid o op w.on w.unmoved w.count (found_by old mid o w) a some)

  pub passed_by : (t : Tree) (passed : ℕ) → o ≡ None → passed ≡ old.passed + 1 → new ≡ record mid { passed = passed } → acts ≡ Push 0 t ∷ [] → Handled (arrives 0 (item.Elem t)) old acts new
  passed_by t passed nothing more is e =
      let f = found_by old mid o w in
      let due : IsDue old.left old.passed None = subst (λ (x : Option Order). IsDue old.left old.passed x) nothing w.due in
      let room : MayCount mid.left (old.passed + 1) = subst (λ (q : Option (List ℕ)). MayCount q (old.passed + 1)) (sym (f.none nothing).1) (one_more_counts old.left old.passed w.count due) in
      rw (is, e, more) (passes_on old mid o op w.on w.unmoved w.count f nothing t room)

  pub pushed_shuts : (t : Tree) (a : Order) → o ≡ Some a → new ≡ record mid { phase = Closed } → acts ≡ stop_acts mid.node a true → Handled (arrives 0 (item.Elem t)) old acts new
  pushed_shuts t a some is e = rw (is, stops_at old mid o w a true acts e) (dropped_acts old mid o op w.on w.unmoved w.count (found_by old mid o w) t a some)

  -- the next of what it follows stays where nothing was found
  same_next : o ≡ None → next_move mid.left ≡ next_move old.left
  same_next nothing = ap (λ (q : Option (List ℕ)). next_move q) ((found_by old mid o w).none nothing).1

  pub ended_by : o ≡ None → (may_end (next_move mid.left) ≡ true → (new ≡ record mid { phase = Closed }) × (acts ≡ Complete 0 ∷ [])) → (may_end (next_move mid.left) ≡ false → (new ≡ record mid { stuck = true }) × (acts ≡ []))
      → Handled (arrives 0 item.Ended) old acts new
  ended_by nothing closes lacks = by_end (may_end (next_move old.left)) refl
    where
      by_end : (b : Bool) → may_end (next_move old.left) ≡ b → Handled (arrives 0 item.Ended) old acts new
      by_end true e = let d = closes (ap may_end (same_next nothing) ∙ e) in rw (d.0, d.1) (ends old mid o op w.on w.unmoved w.count (found_by old mid o w) nothing e)
      by_end false e =
          let d = lacks (ap may_end (same_next nothing) ∙ e) in
          rw (d.0, d.1) (stops_ended old mid o op w.on w.unmoved w.count (found_by old mid o w) nothing w.well (subst (λ (x : Option Order). IsDue old.left old.passed x) nothing w.due) e)

  pub ended_shuts : (a : Order) → o ≡ Some a → new ≡ record mid { phase = Closed } → acts ≡ stop_acts mid.node a false → Handled (arrives 0 item.Ended) old acts new
  ended_shuts a some is e = rw (is, stops_at old mid o w a false acts e) (ended_acts old mid o op w.on w.unmoved w.count (found_by old mid o w) a some)

  pub failed_by : (c : Cause) → o ≡ None → (may_end (next_move mid.left) ≡ true → (new ≡ record mid { phase = Closed }) × (acts ≡ FailOut 0 c ∷ [])) → (may_end (next_move mid.left) ≡ false → (new ≡ record mid { stuck = true }) × (acts ≡ []))
      → Handled (arrives 0 (item.Failed c)) old acts new
  failed_by c nothing closes lacks = by_end (may_end (next_move old.left)) refl
    where
      by_end : (b : Bool) → may_end (next_move old.left) ≡ b → Handled (arrives 0 (item.Failed c)) old acts new
      by_end true e = let d = closes (ap may_end (same_next nothing) ∙ e) in rw (d.0, d.1) (fails old mid o op w.on w.unmoved w.count (found_by old mid o w) nothing c e)
      by_end false e =
          let d = lacks (ap may_end (same_next nothing) ∙ e) in
          rw (d.0, d.1) (stops_failed old mid o op w.on w.unmoved w.count (found_by old mid o w) nothing c w.well (subst (λ (x : Option Order). IsDue old.left old.passed x) nothing w.due) e)

  pub failed_shuts : (c : Cause) (a : Order) → o ≡ Some a → new ≡ record mid { phase = Closed } → acts ≡ stop_acts mid.node a false → Handled (arrives 0 (item.Failed c)) old acts new
  failed_shuts c a some is e = rw (is, stops_at old mid o w a false acts e) (failed_acts old mid o op w.on w.unmoved w.count (found_by old mid o w) c a some)

  pub left_by : new ≡ record mid { phase = Closed } → acts ≡ Cancel 0 ∷ [] → Handled (cancels 0) old acts new
  left_by is e = rw (is, e) (by_found o refl)
    where
      by_found : (x : Option Order) → o ≡ x → Handled (cancels 0) old (Cancel 0 ∷ []) (record mid { phase = Closed })
      by_found None nothing = leaves old mid o op w.on w.unmoved w.count (found_by old mid o w) nothing
      by_found (Some a) some = leaves_acting old mid o op w.on w.unmoved w.count (found_by old mid o w) a some
