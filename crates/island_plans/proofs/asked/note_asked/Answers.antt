-- The goals of `asked::note_asked` that the search leaves.
use Rattle.std.proofs.Common.{◌≡◌, ◌<◌, length, sym, subst, rules}
use Rattle.std.specs.Prelude.{get_or}
use Rattle.island_plans.proofs.LaneMaking.{no_lane}
use Rattle.island_plans.proofs.Noting.{at_place, no_count, noted_next, noted_last, set_many}
use Rattle.island_plans.proofs.asked.note_asked.Goals as goal

pub loop-n-preserved : goal.loop-n-preserved
loop-n-preserved c =
    let kept = c.loop-n.invariant in
    let al = at_place c.args.lanes.now c.loop-n.n no_lane c.loop-n-test.true in
    let aa = at_place c.args.all.now c.loop-n.n 0 (subst (λ m. c.loop-n.n < m) (sym c.requires.many) c.loop-n-test.true) in
    let there = subst (λ m. (get_or c.args.lanes.now c.loop-n.n no_lane).wire < m) (sym kept.many) (c.requires.within c.loop-n.n (get_or c.args.lanes.now c.loop-n.n no_lane) al) in
    noted_next c.args.all.now c.args.lanes.now c.args.counts.now c.requires.order c.loop-n.n _ _ no_count _ c.loop-n.counts al aa there c.note.ensures kept (set_many c.loop-n.counts _ _)

pub returns : goal.returns
returns c =
    let all : c.loop-n.n ≡ length c.args.lanes.now = search rules in
    noted_last c.args.all.now c.args.lanes.now c.args.counts.now c.loop-n.n _ all c.loop-n.invariant
