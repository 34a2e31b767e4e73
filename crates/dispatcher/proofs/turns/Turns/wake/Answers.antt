-- The goal of `turns::Turns::wake` that the search leaves.
use Rattle.std.proofs.Common.{rules, length}
use Rattle.dispatcher.specs.Table.{OriginFits}
use Rattle.dispatcher.proofs.Keeps.{wakes}
use Rattle.dispatcher.proofs.turns.Turns.wake.Goals as goal

pub fetch_or-found-requires : goal.fetch_or-found-requires
fetch_or-found-requires g c = let key = c.args.self.now.table.shared.key in
    (search rules, search rules, wakes (OriginFits g.T.Kept.origin key.values.value.items) (length key.values.value.items) key.seats _ _ _ _ c.requires.inside (search rules))
