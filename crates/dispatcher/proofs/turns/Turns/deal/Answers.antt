-- The goals of `turns::Turns::deal` that the search leaves.
use Rattle.std.proofs.Common.{rules, arith, ap, ◌≡◌, ◌∙◌, ◌∷◌, [], length}
use Rattle.std.proofs.lemmas.List.Elements.{All-push, All-same}
use Rattle.dispatcher.specs.Table.{hold, OriginFits}
use Rattle.dispatcher.specs.PublicTurns.{IsFree, first_held}
use Rattle.dispatcher.proofs.Keeps.{deals}
use Rattle.dispatcher.proofs.Closing.{seat_is, own_views}
use Rattle.dispatcher.proofs.turns.Turns.deal.Goals as goal

pub split_seat-other-requires : goal.split_seat-other-requires
split_seat-other-requires g c = let key = c.args.self.now.table.shared.key in let sum = c.loop.invariant.2 in let less = c.loop-test.true in
    (search rules, search rules, deals (OriginFits g.T.Kept.origin key.values.value.items) (length key.values.value.items) key.seats _ c.loop.first.me.0 (omega arith))

pub loop-preserved : goal.loop-preserved
loop-preserved g c =
    let inv = c.loop.invariant in let split = c.split_seat-other.ensures in let sum = inv.2 in let less = c.loop-test.true in let parts = ap (λ m. m.0.parts) split.2 in
    let badge = c.into_badge.ensures in let views = badge.2 ∙ ap (λ m. m.0 ∷ []) split.4 in let none = ap first_held views in (
      split.0 ∙ inv.0,
      seat_is _ (ap (λ m. m.0.held) split.2 ∙ ap (λ m. m.0.held) inv.1) (ap (λ m. m.0.out) split.2 ∙ ap (λ m. m.0.out) inv.1) (ap (λ m. m.1) split.2 ∙ ap (λ m. m.1) inv.1),
      omega arith,
      omega (arith, inv.3, c.push_reserved.ensures.len),
      c.push_reserved.ensures.capacity ∙ inv.4,
      All-same (IsFree c.args.self.now) _ _ c.push_reserved.ensures.items
          (All-push (IsFree c.args.self.now) _ _ inv.5 ((badge.0 ∙ split.3 ∙ inv.0, own_views _ _ _ _ _ _ views), none)),
    )

pub returns : goal.returns
returns g c =
    let inv = c.loop.invariant in let sum = inv.2 in let over = c.loop-test.false in let least = inv.3 in let auto = c.loop.auto.counter-end in
    let badge = c.into_badge-2.ensures in let one : c.loop.first.me.0.parts ≡ 1 = omega arith in
    let views = badge.2 ∙ ap (λ m. m.0 ∷ []) inv.1 ∙ ap (λ p. hold p [] 0 c.loop.first.me.0.found c.loop.first.me.0.began c.loop.first.me.0.woke ∷ []) one in let none = ap first_held views in (
      omega (arith, c.push_reserved-2.ensures.len),
      All-same (IsFree c.args.self.now) _ _ c.push_reserved-2.ensures.items
          (All-push (IsFree c.args.self.now) _ _ inv.5 ((badge.0 ∙ inv.0, own_views _ _ _ _ _ _ views), none)),
    )
