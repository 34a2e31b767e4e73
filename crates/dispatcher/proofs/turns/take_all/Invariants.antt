-- The loop of `turns::take_all`.
use Rattle.std.proofs.Common.{◌≡◌, ℕ, ◌<◌, false, Some, get_or, map, take, vec_len, vec_capacity}
use Rattle.std.specs.Slots.{slots_items, slots_filled, slots_len}
use Rattle.std.specs.Slots.Ownership.{Filled}
use Rattle.dispatcher.proofs.turns.take_all.Given as goal

abbrev pub invariant-loop-i : goal.invariant-loop-i
invariant-loop-i g l =
    Filled (slots_filled l.closed.slots) l.i (slots_len l.closed.slots)
    × ((k : ℕ) → k < l.i → get_or (slots_filled l.closed.slots) k false ≡ false)
    × (slots_items l.closed.slots ≡ slots_items l.fn.closed.slots)
    × (slots_len l.closed.slots ≡ slots_len l.fn.closed.slots)
    × (map Some l.values.items ≡ take l.i (slots_items l.closed.slots))
    × (vec_len l.values ≡ l.i)
    × (vec_capacity l.values ≡ vec_capacity l.fn.values)
