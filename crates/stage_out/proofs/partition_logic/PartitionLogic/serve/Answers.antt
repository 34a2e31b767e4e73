use Rattle.std.specs.Prelude.{Err}
use Rattle.std.proofs.Common.{ℕ, ◌+◌, ◌∙◌, ap, subst}
use Rattle.elem_core.specs.Answer.{Answers}
use Rattle.elem_core.specs.Values.{map_value, part_of}
use Rattle.stage_out.specs.PartitionStates.{PartitionLogic}
use Rattle.stage_out.proofs.Parted.{dealt_by, blamed_by}
use Rattle.stage_out.proofs.partition_logic.PartitionLogic.serve.Goals as goal

pub returns-in-Ok-clause-does : goal.returns-in-Ok-clause-does
returns-in-Ok-clause-does c = dealt_by c.args.e c.args.self.now c.recount.new.self c.deal.new.self c.deal.new.acts.items c.in_ok-taken.taken c.in-Ok.p (c.in_ok-taken.ensures ∙ ap (λ (k : ℕ). k + 1) (ap (λ (l : PartitionLogic). l.taken) c.self.view_is)) c.recount.ensures.stage
    c.in-Ok.ensures c.deal.ensures.does

pub returns-in-Err-Why-clause-does : goal.returns-in-Err-Why-clause-does
returns-in-Err-Why-clause-does c = blamed_by c.args.e c.args.self.now c.blame.new.self c.blame.new.acts.items c.in_ok-taken.taken c.in-Err-Why.why (c.in_ok-taken.ensures ∙ ap (λ (k : ℕ). k + 1) (ap (λ (l : PartitionLogic). l.taken) c.self.view_is))
    (subst (λ x. Answers (part_of c.args.self.now.parts (map_value c.args.self.now.fun c.args.e)) (Err x)) c.in-Err-Why.field-0-is c.in-Err-Why.ensures) c.blame.ensures.does.to_is c.blame.ensures.does.acts_are
