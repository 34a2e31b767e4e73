-- The goals of `turns::Turns::end` that the search leaves.
use Rattle.std.proofs.Common.{rules, arith, ap, sym, ◌∙◌, length}
use Rattle.dispatcher.specs.Sums.{times}
use Rattle.dispatcher.specs.Table.{OriginFits}
use Rattle.dispatcher.proofs.Totals.{same_head}
use Rattle.dispatcher.proofs.Keeps.{fetches, ends_at}
use Rattle.dispatcher.proofs.turns.Turns.end.Goals as goal

pub load-requires : goal.load-requires
load-requires g c =
    let key = c.args.self.now.table.shared.key in
    let me = same_head _ _ (sym c.into_seat-mine.ensures.2 ∙ ap (λ b. b.views) c.replace.ensures.value ∙ c.requires.seat.1) in (
      search rules,
      search rules,
      fetches (OriginFits g.T.Kept.origin key.values.value.items) (length key.values.value.items) key.seats _ _ _ _ c.requires.inside (ap (λ v. v.out) me) (omega (arith, ap (λ v. times c.args.turn.id v.held) me, c.requires.begun)),
    )

pub fetch_and-found-requires : goal.fetch_and-found-requires
fetch_and-found-requires g c =
    let key = c.args.self.now.table.shared.key in
    let me = same_head _ _ (sym c.into_seat-mine.ensures.2 ∙ ap (λ b. b.views) c.replace.ensures.value ∙ c.requires.seat.1) in
    let got = c.load.ensures.2 in (
      search rules,
      search rules,
      ends_at (OriginFits g.T.Kept.origin key.values.value.items) (length key.values.value.items) key.seats _ _ _ _ _ _ _ c.exchange.ensures.3 c.requires.inside
          (ap (λ m. m.0.out) got) (omega (arith, ap (λ m. times c.args.turn.id m.0.held) got, ap (λ v. times c.args.turn.id v.held) me, c.requires.begun)) c.requires.origin,
    )
