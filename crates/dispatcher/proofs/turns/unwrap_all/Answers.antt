-- The goal of `turns::unwrap_all` that the search leaves.
use Rattle.std.proofs.Common.{rules, ◌≡◌, arith, ap, sym, ◌∙◌, ◌++◌, ◌∷◌, [], length, map, Some, IsSome, Option, vec_len, subst}
use Rattle.std.specs.List.{All}
use Rattle.std.proofs.lemmas.List.Elements.{All-tail}
use Rattle.std.specs.Vec.Iter.{into_iter_items}
use Rattle.dispatcher.proofs.Closing.{map_snoc, app_next}
use Rattle.dispatcher.proofs.turns.unwrap_all.Goals as goal

pub loop-slot-preserved : goal.loop-slot-preserved
loop-slot-preserved g c =
    let inv = c.loop-slot.invariant in let step = c.in-Some.ensures.steps in let left = into_iter_items c.next.new.self in
    let items = c.push_reserved.ensures.items in let len = c.push_reserved.ensures.len in let room = c.push_reserved.ensures.capacity in let was = inv.3 in let fewer = ap length step.0 in (
      search rules,
      search rules,
      search rules,
      omega (arith, len, room, was, fewer),
      All-tail IsSome c.in-Some.slot left (subst (All IsSome) step.0 inv.4),
      inv.5 ∙ ap (λ l. map Some c.loop-slot.values.items ++ l) step.0 ∙ ap (λ s. map Some c.loop-slot.values.items ++ s ∷ left) c.unwrap.ensures
          ∙ sym (app_next (map Some c.loop-slot.values.items) (Some c.unwrap.result) left) ∙ ap (λ l. l ++ left) (sym (ap (map Some) items ∙ map_snoc (λ x. Some x) c.loop-slot.values.items c.unwrap.result)),
    )
