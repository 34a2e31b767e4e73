use Rattle.stream_command.proofs.Alike.{same_bytes}
use Rattle.stream_command.proofs.headline.the_same_moves_write_the_same.Goals as goal

pub returns : goal.returns
returns c = λ p a x d e old new before after first second alike k n file here there lists.
    same_bytes c.fit_blueprints_are_whole.ensures.ranked c.lists_are_apart_from_customs.ensures.sinks p a x d e old new before after first second alike k n file here there lists
