use Rattle.std.specs.Prelude.{◌≢◌, ◌<◌, ◌≤◌, ◌^◌}
use Rattle.std.proofs.Common.{◌≡◌, ◌+◌, length, sym, ap, ◌∙◌, subst, Some}
use Rattle.port_core.specs.Picks.{next_move}
use Rattle.stream_model.specs.declared.kind.Policy.TheVariants.{Backpressure}
use Rattle.stage_dropping.specs.Droppings.{Dropping, may_take, NamesMoves, Serving}
use Rattle.stage_dropping.proofs.DropActions.{not_both}
use Rattle.stage_dropping.proofs.dropping.Dropping.wait.Goals as goal

pub give_then_take-requires-clause-none : goal.give_then_take-requires-clause-none
give_then_take-requires-clause-none c = λ o may. absurd (not_both (ap (λ (l : Dropping). may_take (next_move l.log.left)) (sym c.store.ensures) ∙ may) c.requires.next)

pub give_then_take-requires-clause-drops : goal.give_then_take-requires-clause-drops
give_then_take-requires-clause-drops c = subst (λ (l : Dropping). (l.policy ≢ Backpressure) × (0 < l.size)) (sym c.store.ensures) (c.requires.enters.drops, c.requires.enters.some)

pub give_then_take-requires-clause-few : goal.give_then_take-requires-clause-few
give_then_take-requires-clause-few c = subst (λ (l : Dropping). length l.held ≤ l.size) (sym c.store.ensures) c.requires.enters.few

pub give_then_take-requires-clause-fits : goal.give_then_take-requires-clause-fits
give_then_take-requires-clause-fits c = λ some. subst (λ (l : Dropping). l.came + 1 < 2 ^ 64) (sym c.store.ensures) c.requires.enters.fits

pub give_then_take-requires-clause-named : goal.give_then_take-requires-clause-named
give_then_take-requires-clause-named c = subst (λ (l : Dropping). NamesMoves l.log.left) (sym c.store.ensures) c.requires.enters.named

pub returns-clause-served : goal.returns-clause-served
returns-clause-served c = subst (λ (l : Dropping). Serving l c.give_then_take.new.self c.give_then_take.new.acts.items) c.store.ensures c.give_then_take.ensures.served
