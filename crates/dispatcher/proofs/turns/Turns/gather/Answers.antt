-- The goals of `turns::Turns::gather` that the search leaves.
use Rattle.std.proofs.Common.{rules, arith, ap, sym, ◌∙◌, length}
use Rattle.std.proofs.lemmas.List.Elements.{All-pop}
use Rattle.dispatcher.specs.Table.{OriginFits}
use Rattle.dispatcher.specs.PublicTurns.{IsFree}
use Rattle.dispatcher.proofs.Totals.{same_head}
use Rattle.dispatcher.proofs.Keeps.{joins}
use Rattle.dispatcher.proofs.Closing.{popped, seat_is}
use Rattle.dispatcher.proofs.turns.Turns.gather.Goals as goal

pub join_seat-requires : goal.join_seat-requires
join_seat-requires g c =
    let key = c.args.self.now.table.shared.key in let inv = c.loop-badge.invariant in
    let all = All-pop (IsFree c.args.self.now) _ _ _ c.pop-in-loop-badge.ensures.items inv.3 in
    let free = popped (IsFree c.args.self.now) _ c.in-Some.field-0 all.1 c.in-Some.is in
    let me = same_head _ _ (sym c.into_seat.ensures.2 ∙ free.0.1) in (
      search rules,
      c.into_seat.ensures.0 ∙ free.0.0,
      search rules,
      search rules,
      joins (OriginFits g.T.Kept.origin key.values.value.items) (length key.values.value.items) key.seats _ _ _ _ (ap (λ v. v.held) me ∙ free.1) (ap (λ v. v.out) me),
    )

pub loop-badge-preserved : goal.loop-badge-preserved
loop-badge-preserved g c =
    let inv = c.loop-badge.invariant in let join = c.join_seat.ensures in
    let all = All-pop (IsFree c.args.self.now) _ _ _ c.pop-in-loop-badge.ensures.items inv.3 in
    let free = popped (IsFree c.args.self.now) _ c.in-Some.field-0 all.1 c.in-Some.is in
    let me = same_head _ _ (sym c.into_seat.ensures.2 ∙ free.0.1) in
    let one = ap (λ v. v.parts) me in let sum = ap (λ m. m.0.parts) join.2 in let was = inv.2 in let cases = c.in-Some.ensures.cases in (
      join.0 ∙ inv.0,
      seat_is _ (ap (λ m. m.0.held) join.2 ∙ ap (λ m. m.0.held) inv.1) (ap (λ m. m.0.out) join.2 ∙ ap (λ m. m.0.out) inv.1) (ap (λ m. m.1) join.2 ∙ ap (λ m. m.1) inv.1),
      omega arith,
      all.0,
    )
