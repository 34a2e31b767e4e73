-- The goals of `choosers::next_moves` that the search leaves.
use Rattle.std.proofs.Common.{sym, ◌∙◌, map}
use Rattle.std.specs.Prelude.{slice_get, None}
use Rattle.std.specs.Vec.Iter.{into_iter_items}
use Rattle.blue_names.specs.Picks.{picks}
use Rattle.materializer.proofs.Choosing.{if_false}
use Rattle.materializer.proofs.ChooserLoops.{Lists, first_taken, behind_taken, each_taken}
use Rattle.materializer.proofs.choosers.next_moves.Goals as goal

pub take_next-requires : goal.take_next-requires
take_next-requires c = c.requires (sym c.picks.ensures ∙ c.if-picks.true)

pub returns-then-picks-clause-moves : goal.returns-then-picks-clause-moves
returns-then-picks-clause-moves c = first_taken c.args.kind.now c.take_next.result _ _ (sym c.picks.ensures ∙ c.if-picks.true) c.take_next.ensures.items

pub returns-then-picks-clause-left : goal.returns-then-picks-clause-left
returns-then-picks-clause-left c = behind_taken c.args.kind.now c.take_next.result _ _ (sym c.picks.ensures ∙ c.if-picks.true) c.take_next.ensures.items

pub returns-then-picks-clause-each : goal.returns-then-picks-clause-each
returns-then-picks-clause-each c = λ each. each_taken c.take_next.result _ _ _ _ c.take_next.ensures.items c.take_next.ensures.len each

pub returns-else-picks-clause-moves : goal.returns-else-picks-clause-moves
returns-else-picks-clause-moves c = sym (if_false (picks c.args.kind.now) _ None (sym c.picks.ensures ∙ c.if-picks.false))

pub returns-else-picks-clause-left : goal.returns-else-picks-clause-left
returns-else-picks-clause-left c = sym (if_false (picks c.args.kind.now) _ (Lists (into_iter_items c.args.left.now)) (sym c.picks.ensures ∙ c.if-picks.false))
