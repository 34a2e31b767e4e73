use Rattle.std.proofs.Common.{◌≡◌, ◌<◌, ◌∙◌, sym, length, arith}
use Rattle.stage_merge.proofs.Choosing.{at_place, one_further, same_at}
use Rattle.stage_merge.proofs.merging.first_at.Goals as goal

pub returns-then-from-m : goal.returns-then-from-m
returns-then-from-m c =
    let x = c.index.result.now in
    let k = c.loop-place-test.true in
    let l : c.loop-place.place < length c.args.queue.now.items = rw (c.len-place-end.ensures, c.args.queue.now.ok.0) at k in
    (x, (l, (at_place c.args.m c.loop-place.place c.args.queue.now.items x c.loop-place.invariant l (sym c.index.ensures) (sym c.from.ensures ∙ c.if-from-m.true), λ d. same_at c.loop-place.place c.args.queue.now.items x d l (sym c.index.ensures))))

pub loop-place-preserved : goal.loop-place-preserved
loop-place-preserved c =
    let k = c.loop-place-test.true in
    let l : c.loop-place.place < length c.args.queue.now.items = rw (c.len-place-end.ensures, c.args.queue.now.ok.0) at k in
    one_further c.args.m c.loop-place.place c.args.queue.now.items c.index.result.now c.loop-place.invariant l (sym c.index.ensures) (λ e. c.if-from-m.false (c.from.ensures ∙ e))
