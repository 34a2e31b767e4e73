-- The goals of `turns::Turns::take_out` that the search leaves.
use Rattle.std.proofs.Common.{rules, arith, ◌∷◌, length, Some, sym, ap, ◌∙◌, subst}
use Rattle.atomic_table.specs.Table.{rest}
use Rattle.dispatcher.specs.Sums.{times}
use Rattle.dispatcher.specs.Table.{OriginFits}
use Rattle.dispatcher.proofs.Totals.{times_here}
use Rattle.dispatcher.proofs.Keeps.{begins, leaves_at}
use Rattle.dispatcher.proofs.turns.Turns.take_out.Goals as goal

pub compare_exchange-found-requires : goal.compare_exchange-found-requires
compare_exchange-found-requires g c = let me = c.requires.seat.1 in let key = c.args.self.now.table.shared.key in let part = ap (λ m. m.0.parts) me in (
  search rules,
  search rules,
  begins (OriginFits g.T.Kept.origin key.values.value.items) (length key.values.value.items) key.seats (OriginFits g.T.Kept.origin g.J.Told.values) _ _ c.args.mine.now.me _ c.requires.inside
      (ap (λ m. m.0.out) me) (omega (arith, part)) (λ x f. subst (λ vs. OriginFits g.T.Kept.origin vs c.args.id x) (sym c.requires.told) f),
)

pub exchange-requires : goal.exchange-requires
exchange-requires g c = let t = c.compare_exchange-found.ensures.2.0 c.if-found-ne-READY.false in
    (search rules, (Some t.0, ap (λ m. m.1) t.1 ∙ ap (λ l. (c.args.id, Some t.0) ∷ rest l) (sym (ap (λ m. m.1) t.1))))

pub load-requires : goal.load-requires
load-requires g c = let key = c.args.self.now.table.shared.key in let t = c.compare_exchange-found.ensures.2.0 c.if-found-ne-READY.false in (
  search rules,
  search rules,
  leaves_at (OriginFits g.T.Kept.origin key.values.value.items) (length key.values.value.items) key.seats _ _ _ _ _ _ c.exchange.ensures.3 c.requires.inside (ap (λ m. m.0.out) t.1)
      (omega (arith, ap (λ m. times c.args.id m.0.held) t.1, times_here c.args.id c.args.mine.now.me.0.held)),
)
