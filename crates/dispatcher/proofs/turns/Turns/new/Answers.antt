-- The goals of `turns::Turns::new` that the search leaves.
use Rattle.std.proofs.Common.{rules, ◌∙◌}
use Rattle.dispatcher.proofs.Closing.{opens, some_each, same_wrapped}
use Rattle.dispatcher.proofs.turns.Turns.new.Goals as goal

pub new-requires : goal.new-requires
new-requires g c = opens g.T.Kept.origin _ _ _ _ (search rules) (search rules)

pub unwrap_all-requires-clause-full : goal.unwrap_all-requires-clause-full
unwrap_all-requires-clause-full g c = some_each c.args.values.items c.in-Err.field-0.slots.items (c.in-Err.ensures.err ∙ c.wrap.ensures)

pub returns-clause-refused : goal.returns-clause-refused
returns-clause-refused g c = same_wrapped c.unwrap_all.result.items c.args.values.items (c.unwrap_all.ensures ∙ c.in-Err.ensures.err ∙ c.wrap.ensures)
