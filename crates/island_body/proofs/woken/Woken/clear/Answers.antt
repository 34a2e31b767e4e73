-- The goals of `woken::Woken::clear` that the search leaves.
use Rattle.std.proofs.Common.{rules, ◌≡◌, ◌∙◌, ◌+◌, ◌-◌, ◌++◌, ◌∷◌, [], ap, ℕ, arith}
use Rattle.std.proofs.lemmas.List.{length-set}
use Rattle.island_body.proofs.Wakes.{last_from, left_from}
use Rattle.island_body.proofs.woken.Woken.clear.Goals as goal

pub overflow_sub-island : goal.overflow_sub-island
overflow_sub-island c =
    let last : c.loop-island.self-inside.islands.items ≡ c.pop.new.self.items ++ c.in-Some.island ∷ [] = search rules in
    (last_from _ _ _ _ _ c.in-Some.island last c.loop-island.invariant.marked).0

pub index_mut-requires : goal.index_mut-requires
index_mut-requires c =
    let last : c.loop-island.self-inside.islands.items ≡ c.pop.new.self.items ++ c.in-Some.island ∷ [] = search rules in
    let there = last_from _ _ _ _ _ c.in-Some.island last c.loop-island.invariant.marked in
    omega (arith, there.0, there.1)

pub loop-island-preserved : goal.loop-island-preserved
loop-island-preserved c =
    let last : c.loop-island.self-inside.islands.items ≡ c.pop.new.self.items ++ c.in-Some.island ∷ [] = search rules in
    let there = last_from _ _ _ _ _ c.in-Some.island last c.loop-island.invariant.marked in
    let place : c.in-Some.island ≡ c.loop-island.self-inside.least + (c.in-Some.island - c.loop-island.self-inside.least) = omega (arith, there.0) in
    record {
      marked = rw c.in-Some.ensures.capacity (left_from _ _ _ _ _ _ c.in-Some.island last place c.loop-island.invariant.marked);
      least = c.loop-island.invariant.least;
      size = ap (λ (n : ℕ). c.loop-island.self-inside.least + n) (length-set _ _ _) ∙ c.loop-island.invariant.size;
    }
