-- The goal of `replays::plans_in_file` that the search leaves.
use Rattle.std.proofs.Common.{subst}
use Rattle.stream_command.specs.Replays.{SaysOf}
use Rattle.stream_command.proofs.MovesRead.{reads_said}
use Rattle.stream_command.proofs.replays.plans_in_file.Goals as goal

pub returns-in-Ok-clause-reads : goal.returns-in-Ok-clause-reads
returns-in-Ok-clause-reads g c =
    reads_said _ _ c.args.name.now c.in-Ok.text.items c.args.nodes.now c.plans_of_text.result c.in-Ok.ensures.ok (subst (λ t. SaysOf t c.args.nodes.now c.plans_of_text.result) c.deref.ensures.value c.plans_of_text.ensures.says)
