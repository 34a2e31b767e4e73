-- The goals of `turns::take_all` that the search leaves.
use Rattle.std.proofs.Common.{rules, arith, ◌≡◌, set, ap, sym, ◌∙◌, ◌∷◌, ◌++◌, ◌+◌, [], subst, Some, map, take, false, get_or-set_same, get_or-set_other, get_or}
use mathlib.Core.Option.{some, some-injective}
use mathlib.Core.Logic.{dite}
use lib.ListN.{get_elem?}
use native.Mathlib.Decide.{ℕ_discrete}
use Rattle.std.specs.Option.{IsSome}
use Rattle.std.specs.Slots.{slots_items, slots_filled, slots_counts}
use Rattle.dispatcher.proofs.Closing.{take_next, map_snoc}
use Rattle.dispatcher.proofs.turns.take_all.Goals as goal

pub unwrap-requires : goal.unwrap-requires
unwrap-requires g c =
    let inv = c.loop-i.invariant in let len = c.slot_count-i-end.ensures in let less = c.loop-i-test.true in
    let t = c.requires.each c.loop-i.i (omega arith) in
    let is = some-injective _ _ (sym t.1 ∙ ap (λ l. get_elem? l c.loop-i.i) (sym inv.2) ∙ c.take.ensures.value) in
    subst (λ o. IsSome o) is (search rules)

pub loop-i-preserved : goal.loop-i-preserved
loop-i-preserved g c =
    let inv = c.loop-i.invariant in let other = c.take.ensures.others in let filled = slots_filled c.loop-i.closed.slots in let i = c.loop-i.i in
    let less = c.loop-i-test.true in let end = c.slot_count-i-end.ensures in let counts = (slots_counts c.loop-i.closed.slots).1 in let same = inv.3 in let same' = other.2 in (
      λ k from to. ap (λ l. get_or l k false) other.1 ∙ get_or-set_other filled i k false false (λ e. omega arith) ∙ inv.0 k (omega arith) (omega arith),
      λ k below. ap (λ l. get_or l k false) other.1 ∙ dite (ℕ_discrete k i)
          (λ e. subst (λ j. get_or (set filled i false) j false ≡ false) (sym e) (get_or-set_same filled i false false (omega arith)))
          (λ ne. get_or-set_other filled i k false false ne ∙ inv.1 k (omega arith)),
      other.0 ∙ inv.2,
      other.2 ∙ inv.3,
      ap (map Some) c.push_reserved.ensures.items ∙ map_snoc (λ x. Some x) c.loop-i.values.items c.unwrap.result ∙ ap (λ l. l ++ Some c.unwrap.result ∷ []) inv.4
          ∙ sym (take_next (slots_items c.loop-i.closed.slots) i (Some c.unwrap.result) (c.take.ensures.value ∙ ap some c.unwrap.ensures)) ∙ ap (take (i + 1)) (sym other.0),
      omega (arith, c.push_reserved.ensures.len, inv.5),
      c.push_reserved.ensures.capacity ∙ inv.6,
    )
