-- The loop of `shares::gather`.
use Rattle.std.proofs.Common.{◌≡◌, ◌-◌, ◌≤◌, length, vec_len, vec_capacity}
use Rattle.scatter.proofs.Putting.{Gathering}
use Rattle.scatter.proofs.shares.gather.Given as goal

-- behind what is left of the lists, the shares of what was gathered are those that were handed in
abbrev pub invariant-loop-i : goal.invariant-loop-i
invariant-loop-i g l =
    (l.n ≡ length l.homes)
    × (vec_len l.items ≡ l.i)
    × (length l.homes ≤ vec_capacity l.items)
    × Gathering l.homes l.fn.lists.items (l.n - l.i) l.items.items l.lists.items
