-- The goals of `ranks::ranks_of` that the search leaves.
use Rattle.std.proofs.Common.{◌≡◌, ◌<◌, ◌^◌, ◌+◌, ◌∙◌, rules, refl, length, take, arith}
use Rattle.std.specs.Prelude.{slice_index}
use Rattle.std.proofs.lemmas.List.{length-take-le}
use Rattle.std.proofs.lemmas.List.Elements.{All-get_or}
use Rattle.scatter.specs.Shares.{share_of}
use Rattle.scatter.proofs.Sharing.{count_within}
use Rattle.scatter.proofs.Putting.{ranking_next, same_number}
use Rattle.scatter.proofs.ranks.ranks_of.Goals as goal

pub overflow_add-rank : goal.overflow_add-rank
overflow_add-rank c =
    let hs = c.args.homes.now in
    let i = c.loop-i.i in
    let h = slice_index hs i in
    let below : h < c.args.count = All-get_or (λ x. x < c.args.count) hs i 0 c.loop-i-test.true c.requires in
    let rank : c.index-rank.result.now ≡ share_of h (take i hs) = same_number c.loop-i.counts.items h c.index-rank.result.now c.index-rank.ensures (omega (arith, below, c.loop-i.invariant.many)) ∙ c.loop-i.invariant.counts_are h below in
    let most = count_within h (take i hs) in
    let size : length (take i hs) ≡ i = length-take-le i hs (omega (arith, c.loop-i-test.true)) in
    let few : c.index-rank.result.now + 1 < 2 ^ 64 = omega (arith, rank, most, size, c.loop-i.invariant.each, c.loop-i.ranks.ok.0, c.loop-i.ranks.ok.1, c.loop-i.ranks.small) in
    search (rules, few)

pub loop-i-preserved : goal.loop-i-preserved
loop-i-preserved c =
    let hs = c.args.homes.now in
    let i = c.loop-i.i in
    let below : slice_index hs i < c.args.count = All-get_or (λ x. x < c.args.count) hs i 0 c.loop-i-test.true c.requires in
    ranking_next hs c.args.count i _ _ _ _ _ c.loop-i-test.true below c.loop-i.invariant
    (same_number c.loop-i.counts.items (slice_index hs i) c.index-rank.result.now c.index-rank.ensures (omega (arith, below, c.loop-i.invariant.many))) c.in_ok-push.ensures.items refl
