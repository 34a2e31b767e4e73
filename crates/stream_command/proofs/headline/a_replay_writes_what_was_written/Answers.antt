use Rattle.stream_command.proofs.Alike.{replay_bytes}
use Rattle.stream_command.proofs.headline.a_replay_writes_what_was_written.Goals as goal

pub returns : goal.returns
returns c = λ p a x d e old new before after first second alike k n file here there lists.
    replay_bytes c.fit_blueprints_are_whole.ensures.ranked c.lists_are_apart_from_customs.ensures.sinks p a x d e old new before after first second alike k n file here there lists
