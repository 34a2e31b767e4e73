use Rattle.std.proofs.Common.{◌≡◌, ◌<◌, ◌≤◌, ℕ, [], slice_index, vec_len}
use Rattle.scatter.specs.Shares.{items_at, room_at}
use Rattle.scatter.proofs.shares.rooms.Given as goal

-- the lists so far are empty and have room
abbrev pub invariant-loop-count : goal.invariant-loop-count
invariant-loop-count g l =
    (vec_len l.lists ≡ l.count-index)
    × ((k : ℕ) → items_at l.lists.items k ≡ [])
    × ((k : ℕ) → k < l.count-index → slice_index l.counts k ≤ room_at l.lists.items k)
