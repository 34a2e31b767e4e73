use Rattle.std.proofs.Common.{None, refl, sym, ◌∙◌, ap}
use Rattle.stage_out.specs.PartitionStates.{PartitionLogic}
use Rattle.stage_out.proofs.Parted.{took_by}
use Rattle.stage_out.proofs.partition_logic.PartitionLogic.take_for.Goals as goal

pub returns-then-self-port : goal.returns-then-self-port
returns-then-self-port c = took_by c.args.port c.args.self.now _ c.take.result (sym (ap (λ (l : PartitionLogic). l.to) c.self.view_is) ∙ c.if-self-port.true) (c.take.ensures.value ∙ ap (λ (l : PartitionLogic). l.held) c.self.view_is) (rw c.take.ensures.after (ap (λ (l : PartitionLogic). record l { held = None }) c.self.view_is))

pub returns-else-self-port : goal.returns-else-self-port
returns-else-self-port c = (λ e. absurd (c.if-self-port.false (ap (λ (l : PartitionLogic). l.to) c.self.view_is ∙ e)), refl)
