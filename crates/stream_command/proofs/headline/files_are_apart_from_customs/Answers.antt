use Rattle.stream_command.proofs.SinkFiles.{ended_apart, failed_apart}
use Rattle.stream_command.proofs.headline.files_are_apart_from_customs.Goals as goal

pub returns-clause-ended : goal.returns-clause-ended
returns-clause-ended c = λ p a d old new e w x k n file is there lists.
    ended_apart c.fit_blueprints_are_whole.ensures.ranked c.lists_are_apart_from_customs.ensures.sinks p a d old new e w x k n is lists file (e.ended w k n file is there)

pub returns-clause-failed : goal.returns-clause-failed
returns-clause-failed c = λ p a d old new e w x k n file cause is there lists.
    failed_apart c.fit_blueprints_are_whole.ensures.ranked c.lists_are_apart_from_customs.ensures.sinks p a d old new e w x k n is lists file cause (e.failed w k n file cause is there)
