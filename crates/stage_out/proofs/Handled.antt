-- What a logic with several outputs owes by a call is what the logic of its kind owes by it.
use Rattle.std.proofs.Common.{◌≡◌, true, List, [], refl, sym, subst}
use Rattle.port_core.specs.declared.act.Act.{Act}
use Rattle.port_core.specs.Call.{Call, starts, Obeys, Meets}
use Rattle.stage_out.specs.declared.machines.OutMachines.{OutMachines}
use Rattle.stage_out.specs.declared.machines.OutMachines.TheVariants.{Copies, Deals}
use Rattle.stage_out.specs.CopyStates as copy
use Rattle.stage_out.specs.CopyStates.{CopyLogic}
use Rattle.stage_out.specs.PartitionStates as part
use Rattle.stage_out.specs.PartitionStates.{PartitionLogic}
use Rattle.stage_out.specs.Machines.{port_state, Turned}
use Rattle.stage_out.proofs.OutRests.{copies_live, deals_live}
use Rattle.stage_out.proofs.Serves as copies
use Rattle.stage_out.proofs.Deals as deals

pub record Handled (call : Call) (old : OutMachines) (acts : List Act) (new : OutMachines) : Type 0 where
  pub ports : Obeys call (port_state old) (port_state new) acts
  pub gives : Turned call old acts new

module _ (call : Call) (whole : OutMachines) (m : Meets call (port_state whole)) where
  module _ (old : CopyLogic) (is : whole ≡ Copies old) where
    pub copies_meet : Meets call (copy.port_state old)
    copies_meet = subst (λ x. Meets call (port_state x)) is m

    pub copies_do : (new : CopyLogic) (acts : List Act) → (old.live ≡ true → Meets call (copy.port_state old) → copies.Handled call old acts new)
        → Handled call whole acts (Copies new)
    copies_do new acts f =
        let h = f (copies_live call old whole is m) copies_meet in
        subst (λ x. Handled call x acts (Copies new)) (sym is) (record { ports = h.ports; gives = h.gives })

  module _ (old : PartitionLogic) (is : whole ≡ Deals old) where
    pub deals_meet : Meets call (part.port_state old)
    deals_meet = subst (λ x. Meets call (port_state x)) is m

    pub deals_do : (new : PartitionLogic) (acts : List Act) → (old.live ≡ true → Meets call (part.port_state old) → deals.Handled call old acts new)
        → Handled call whole acts (Deals new)
    deals_do new acts f =
        let h = f (deals_live call old whole is m) deals_meet in
        subst (λ x. Handled call x acts (Deals new)) (sym is) (record { ports = h.ports; gives = h.gives })

pub begins_idle : (whole : OutMachines) → Meets starts (port_state whole) → Handled starts whole [] whole
begins_idle (Copies l) m = copies_do starts (Copies l) m l refl l [] (λ h n. copies.started l h)
begins_idle (Deals l) m = deals_do starts (Deals l) m l refl l [] (λ h n. deals.started l h n)
