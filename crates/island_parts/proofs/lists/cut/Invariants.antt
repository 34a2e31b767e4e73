-- The loop of `lists::cut`.
use Rattle.std.proofs.Common.{◌≡◌, vec_len}
use Rattle.island_parts.proofs.Listing.{CutSoFar}
use Rattle.island_parts.proofs.lists.cut.Given as goal

abbrev pub invariant-loop-k : goal.invariant-loop-k
invariant-loop-k g l = record {
  count : vec_len l.lists ≡ vec_len l.fn.lists;
  so_far : CutSoFar l.counts l.fn.lists.items l.k l.lists.items;
}
