-- The loop of `engine::Engine::perform_many`.
use Rattle.std.proofs.Common.{◌≡◌, ◌≤◌, [], ◌∷◌, ◌++◌, length, reverse}
use Rattle.elem_core.specs.declared.count.TheConstants.{MOST_COUNT}
use Rattle.fused_net.specs.Net.{acted_all}
use Rattle.fused_net.specs.Laws.{AnyRow, AnyLaw, Busy}
use Rattle.fused_net.specs.Costs.{all_asks}
use Rattle.fused_net.proofs.engine.Engine.perform_many.Given as goal

-- what is left to do, from the last on, leads to where all of it would have led
abbrev pub invariant-loop-act : goal.invariant-loop-act
invariant-loop-act g l =
    Busy AnyRow AnyLaw l.self l.n (reverse l.acts.items ++ l.last ∷ [])
    × (acted_all l.self l.n (reverse l.acts.items ++ l.last ∷ []) ≡ acted_all l.fn.self l.n (l.fn.acts.items ++ l.last ∷ []))
    × (l.acts.room ≡ l.fn.acts.room)
    × (all_asks l.self ≤ MOST_COUNT)

abbrev pub decreases-loop-act : goal.decreases-loop-act
decreases-loop-act g l = length l.acts.items
