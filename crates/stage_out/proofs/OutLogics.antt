-- A logic with several outputs as the stage of its kind: what a call owes, what it knows when it asks, its moves, and how a
-- new one begins.
use Rattle.std.specs.Prelude.{OnOk, Ok, Err}
use Rattle.std.specs.declared.result.Result.{Result}
use Rattle.std.proofs.Common.{◌≡◌, ℕ, ◌≤◌, true, List, [], ◌++◌, refl, sym, ap, ◌∙◌, subst, arith, Option, Some}
use Rattle.elem_core.specs.Prefix.{IsPrefix}
use Rattle.elem_core.specs.declared.item.Item.{Item}
use Rattle.port_core.specs.declared.act.Act.{Act}
use Rattle.port_core.specs.Picks.{plan_of, planned}
use Rattle.port_core.specs.View.{View, acted_all, unpulled_outs}
use Rattle.port_core.specs.Call.{Call, starts, CallAllowed, seen, Obeys, Meets}
use Rattle.stream_model.specs.declared.kind.Kind.{Kind}
use Rattle.stream_model.specs.declared.kind.Kind.TheVariants.{Broadcast, BroadcastHub, Balance, Partition, Unzip}
use Rattle.stream_model.specs.declared.kind.TheConstants.{MAX_FAN}
use Rattle.stage_core.specs.Rooms.{acts_for, HasRoom}
use Rattle.stage_core.specs.Handling.{PullsAs, Starts, Handles}
use Rattle.stage_core.specs.Histories.{given_all, brought_by}
use Rattle.stage_out.specs.Balancings.{Core, Balancing, BalancesAs}
use Rattle.stage_out.specs.Balancings as balance
use Rattle.stage_out.proofs.BalanceNodes as balances
use Rattle.stage_out.specs.declared.machines.OutMachines.{OutMachines}
use Rattle.stage_out.specs.declared.logic.OutLogic.{OutLogic}
use Rattle.stage_out.specs.declared.logic.OutLogic.TheVariants.{Machines, Balances}
use Rattle.stage_out.specs.Machines.{IsMachines}
use Rattle.stage_out.specs.Machines as machines
use Rattle.stage_out.specs.MachineNodes.{MachinesLaw}
use Rattle.stage_out.specs.OutLogics.{is_live, room_of, port_state, OutAsking, Turned, OutFresh, OutLaw, IsOut, outputs_of, BeginsAs, Begins}
use Rattle.stage_out.specs.Moves.{out_moves}
use Rattle.stage_out.proofs.MachineNodes as machine
use Rattle.stage_out.proofs.OutRests as rests

-- ---- where a call may come

pub called_is_live : (l : OutLogic) (call : Call) (v : View) → CallAllowed call v → port_state l v → is_live l ≡ true
called_is_live (Machines l) call v may r = rests.called_is_live l call v may r
called_is_live (Balances l) call v may r = balances.called_live l call v may r

pub called_fits : (l : OutLogic) (call : Call) (v : View) → CallAllowed call v → port_state l v → room_of l ≤ acts_for v
called_fits (Machines l) call v may r = rests.called_fits l call v may r
called_fits (Balances l) call v may r = balances.called_fits l call v may r

-- what every stage is given is room enough for a call of a handler
pub fits : (call : Call) (l : OutLogic) (n : ℕ) → HasRoom call (port_state l) n → room_of l ≤ n
fits call l n m = let r : room_of l ≤ acts_for m.0 = called_fits l call m.0 m.1.0 m.1.1.0 in let h : acts_for m.0 ≤ n = m.1.1.1 in omega (arith, r, h)

-- a balance that may be called is open
pub balance_live : (call : Call) (l : Balancing) (whole : OutLogic) → whole ≡ Balances l → Meets call (port_state whole) → l.core.live ≡ true
balance_live call l whole is m = balances.called_live l call m.0 m.1.0 (subst (λ x. port_state x m.0) is m.1.1)

-- ---- what is owed

machines_handled : (c : Call) (l m : OutMachines) (acts : List Act) → Handles machines.port_state MachinesLaw c l m acts → Handles port_state OutLaw c (Machines l) (Machines m) acts
machines_handled c l m acts h = record { obeys = h.obeys; stands = h.stands; keeps = kept }
  where
    kept : (first : OutLogic) (v : View) (took gave : List (List Item)) → CallAllowed c v → machines.port_state l v → OutLaw first (Machines l) v took gave
        → OutLaw first (Machines m) (acted_all (seen c v) acts) (brought_by c took) (given_all acts gave)
    kept (Machines f) v took gave may r law = h.keeps f v took gave may r law
    kept (Balances f) v took gave may r law = absurd law

balance_handled : (c : Call) (l m : Balancing) (acts : List Act) → Handles balance.port_state BalancesAs c l m acts → Handles port_state OutLaw c (Balances l) (Balances m) acts
balance_handled c l m acts h = record { obeys = h.obeys; stands = h.stands; keeps = kept }
  where
    kept : (first : OutLogic) (v : View) (took gave : List (List Item)) → CallAllowed c v → balance.port_state l v → OutLaw first (Balances l) v took gave
        → OutLaw first (Balances m) (acted_all (seen c v) acts) (brought_by c took) (given_all acts gave)
    kept (Balances f) v took gave may r law = h.keeps f v took gave may r law
    kept (Machines f) v took gave may r law = absurd law

pub handled : (c : Call) (old new : OutLogic) (acts : List Act) → Obeys c (port_state old) (port_state new) acts → Turned c old acts new → Handles port_state OutLaw c old new acts
handled c (Machines l) (Machines m) acts o t = machines_handled c l m acts (machine.handled c l m acts o t)
handled c (Balances l) (Balances m) acts o t = balance_handled c l m acts (balances.handled c l m acts o t)
handled c (Machines l) (Balances m) acts o t = absurd t
handled c (Balances l) (Machines m) acts o t = absurd t

pub started : (old new : OutLogic) (acts : List Act) → Obeys starts (port_state old) (port_state new) acts → Turned starts old acts new → Starts port_state OutLaw OutFresh old new acts
started (Machines l) (Machines m) acts o t = let s = machine.started l m acts o t in record { obeys = s.obeys; stands = s.stands; begins = s.begins }
started (Balances l) (Balances m) acts o t = let s = balances.started l m acts o t in record { obeys = s.obeys; stands = s.stands; begins = s.begins }
started (Machines l) (Balances m) acts o t = absurd t
started (Balances l) (Machines m) acts o t = absurd t

-- ---- its asks and its moves

pub asks_on : (c : Call) (old new : OutLogic) (acts : List Act) → Turned c old acts new → PullsAs c (port_state old) (OutAsking new) acts
asks_on c (Machines l) (Machines m) acts t = λ v may r p. tt
asks_on c (Balances l) (Balances m) acts t = λ v may r p free. t.pulls (balances.free_before l m t.plan free) v may r p
asks_on c (Machines l) (Balances m) acts t = absurd t
asks_on c (Balances l) (Machines m) acts t = absurd t

fresh_row : (l : OutLogic) (v : View) → OutFresh l v → port_state l v
fresh_row (Machines l) v f = f.ports
fresh_row (Balances l) v f = f.ports

asks_first : (old new : OutLogic) (acts : List Act) → Turned starts old acts new → PullsAs starts (OutFresh old) (OutAsking new) acts
asks_first old new acts t = λ v may f p. asks_on starts old new acts t v may (fresh_row old v f) p

pub grows_on : (c : Call) (old new : OutLogic) (acts : List Act) → Turned c old acts new → IsPrefix (out_moves old) (out_moves new)
grows_on c (Machines l) (Machines m) acts t = record { rest = []; is = refl }
grows_on c (Balances l) (Balances m) acts t = record { rest = t.more; is = t.grows }
grows_on c (Machines l) (Balances m) acts t = absurd t
grows_on c (Balances l) (Machines m) acts t = absurd t

-- where the answer is Ok
module _ {T E : Type 0} (r : Result T E) (old new : OutLogic) (acts : List Act) where
  pub asks_ok : (c : Call) → OnOk r (Turned c old acts new) → OnOk r (PullsAs c (port_state old) (OutAsking new) acts)
  asks_ok c t = by r t
    where
      by : (r : Result T E) → OnOk r (Turned c old acts new) → OnOk r (PullsAs c (port_state old) (OutAsking new) acts)
      by (Ok x) t = asks_on c old new acts t
      by (Err e) t = tt

  pub asks_first_ok : OnOk r (Turned starts old acts new) → OnOk r (PullsAs starts (OutFresh old) (OutAsking new) acts)
  asks_first_ok t = by r t
    where
      by : (r : Result T E) → OnOk r (Turned starts old acts new) → OnOk r (PullsAs starts (OutFresh old) (OutAsking new) acts)
      by (Ok x) t = asks_first old new acts t
      by (Err e) t = tt

  pub grows_ok : (c : Call) → OnOk r (Turned c old acts new) → OnOk r (IsPrefix (out_moves old) (out_moves new))
  grows_ok c t = by r t
    where
      by : (r : Result T E) → OnOk r (Turned c old acts new) → OnOk r (IsPrefix (out_moves old) (out_moves new))
      by (Ok x) t = grows_on c old new acts t
      by (Err e) t = tt

-- ---- a new one

pub machines_begin : (node : ℕ) (kind : Kind) (l : OutMachines) → IsMachines kind → machines.Begins node kind l → Begins node kind (Machines l)
machines_begin node (Broadcast n) l ok b = record { fresh = record { ports = b.ready; fresh = b.fresh }; as_kind = (ok, b) }
machines_begin node (BroadcastHub s n) l ok b = record { fresh = record { ports = b.ready; fresh = b.fresh }; as_kind = (ok, b) }
machines_begin node (Partition n f) l ok b = record { fresh = record { ports = b.ready; fresh = b.fresh }; as_kind = (ok, b) }
machines_begin node Unzip l ok b = record { fresh = record { ports = b.ready; fresh = b.fresh }; as_kind = (ok, b) }
machines_begin node kind l ok b = absurd ok

pub balance_begins : (node : ℕ) (kind : Kind) (outputs : ℕ) (l : Balancing) → kind ≡ Balance outputs → IsOut kind → balance.Begins outputs l → Begins node kind (Balances l)
balance_begins node kind outputs l is ok b =
    let few = subst IsOut is ok in
    subst (λ k. Begins node k (Balances l)) (sym is) (record { fresh = balances.new_may_start outputs l few.0 few.1 b; as_kind = b })

-- ---- one that follows

-- a new balance that takes moves to follow is a new balance still
pub follows : (node : ℕ) (kind : Kind) (n : ℕ) (was new : Balancing) → (2 ≤ n) × (n ≤ MAX_FAN) → balance.Begins n was → ((k : ℕ) → balance.Begins k was → balance.Begins k new) → Begins node kind (Balances was) → Begins node kind (Balances new)
follows node kind n was new few begun then_begins b = record { fresh = subst (λ k. OutFresh (Balances new) (unpulled_outs k)) (sym (outputs_are kind b.as_kind)) (balances.new_may_start n new few.0 few.1 (then_begins n begun)); as_kind = begins_as kind b.as_kind }
  where
    one_fan : (k : ℕ) → balance.Begins k was → k ≡ n
    one_fan k x = ap (λ (c : Core). c.room) (sym x.core ∙ begun.core)

    outputs_are : (kind : Kind) → BeginsAs node kind (Balances was) → outputs_of kind ≡ n
    outputs_are (Balance k) x = one_fan k x
    outputs_are kind x = absurd x

    begins_as : (kind : Kind) → BeginsAs node kind (Balances was) → BeginsAs node kind (Balances new)
    begins_as (Balance k) x = then_begins k x
    begins_as kind x = absurd x

pub followed_plan : (l : Balancing) (moves : List ℕ) → l.log.left ≡ Some moves → l.log.moves ≡ [] → planned l.log ≡ Some moves
followed_plan l moves left none = ap (λ (p : Option (List ℕ)). plan_of l.log.moves p) left ∙ ap (λ (ms : List ℕ). Some (ms ++ moves)) none
