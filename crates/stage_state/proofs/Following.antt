-- A new stage with state that follows moves may be started.
use Rattle.std.specs.Prelude.{Some}
use Rattle.std.proofs.Common.{◌≡◌, ℕ, List, sym, subst}
use Rattle.port_core.specs.View.{unpulled_ports}
use Rattle.stream_model.specs.declared.kind.Policy.{Policy}
use Rattle.stage_dropping.specs.Droppings as dropping
use Rattle.stage_dropping.specs.Recoverings as recover
use Rattle.stage_dropping.proofs.DropNodes as drops
use Rattle.stage_dropping.proofs.RecoverNodes as recovers
use Rattle.stage_switch.specs.States.{Valve, follows_order}
use Rattle.stage_switch.specs.Handling.{ValveFresh}
use Rattle.stage_switch.proofs.Rows as switch_rows
use Rattle.stage_state.specs.declared.logic.StateLogic.TheVariants.{Dropping, Recovering, Obeying}
use Rattle.stage_state.specs.Logics.{StateMayFollow}

-- a buffer that drops
pub drop_begins : (moves : List ℕ) (l : dropping.Dropping) → StateMayFollow moves (Dropping l) → (node : ℕ) × (n : ℕ) × (p : Policy) × dropping.Begins node n p l
drop_begins moves l m = (m.0, m.1, m.2, m.5)

pub drop_named : (moves : List ℕ) (l : dropping.Dropping) → StateMayFollow moves (Dropping l) → dropping.NamesMoves (Some moves)
drop_named moves l m = m.6

pub drop_fresh : (moves : List ℕ) (l new : dropping.Dropping) → StateMayFollow moves (Dropping l) → ((node : ℕ) → (n : ℕ) → (p : Policy) → dropping.Begins node n p l → dropping.Begins node n p new) → dropping.DropFresh new unpulled_ports
drop_fresh moves l new m begins = drops.new_may_start m.0 m.1 m.2 new m.3 m.4 (begins m.0 m.1 m.2 m.5)

-- a recover
pub recover_fresh : (moves : List ℕ) (l new : recover.Recover) → StateMayFollow moves (Recovering l) → new ≡ recover.follows moves l → recover.RecoverFresh new unpulled_ports
recover_fresh moves l new m is =
    subst (λ (r : recover.Recover). recover.RecoverFresh r unpulled_ports) (sym is)
    (subst (λ (r : recover.Recover). recover.RecoverFresh (recover.follows moves r) unpulled_ports) (sym m.0.1) (recovers.follower_may_start m.0.0 moves m.1))

-- a valve
pub valve_fresh : (moves : List ℕ) (l new : Valve) → StateMayFollow moves (Obeying l) → new ≡ follows_order moves l → ValveFresh new unpulled_ports
valve_fresh moves l new m is =
    subst (λ (r : Valve). ValveFresh r unpulled_ports) (sym is)
    (subst (λ (r : Valve). ValveFresh (follows_order moves r) unpulled_ports) (sym m.0) (switch_rows.following_valve l.node l.switch l.seat moves m.1 m.3))
