-- The goal of `run::take_turns` that the search leaves.
use Rattle.std.proofs.Common.{arith, sym, subst}
use Rattle.std.specs.List.{All}
use Rattle.std.proofs.lemmas.List.Elements.{All-push, All-same}
use Rattle.dispatcher.specs.PublicTurns.{IsFree}
use Rattle.dispatcher.proofs.Lists.{taken_whole}
use Rattle.dispatcher.proofs.run.take_turns.Goals as goal

pub close-requires-clause-free : goal.close-requires-clause-free
close-requires-clause-free g c =
    let free = subst (All (IsFree c.args.turns)) (sym (taken_whole c.pop.new.self.len c.work_all.new.seats _ (omega (arith, c.pop.new.self.ok, c.work_all.ensures.len)))) c.work_all.ensures.free in
    All-same (IsFree c.args.turns) _ _ c.push_reserved.ensures.items (All-push (IsFree c.args.turns) _ _ free c.wake_each.ensures)
