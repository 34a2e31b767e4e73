use Rattle.std.proofs.Common.{◌≡◌, ◌<◌, ◌∙◌, sym, length, arith}
use Rattle.stage_sub.proofs.Picking.{at_place, one_further, same_at}
use Rattle.stage_sub.proofs.outputs.first_at.Goals as goal

pub returns-then-is_of : goal.returns-then-is_of
returns-then-is_of c =
    let x = c.index.result.now in
    let k = c.loop-place-test.true in
    let l : c.loop-place.place < length c.args.queue.now.items = rw (c.len-place-end.ensures, c.args.queue.now.ok.0) at k in
    (x, (l, (at_place c.args.port c.loop-place.place c.args.queue.now.items x c.loop-place.invariant l (sym c.index.ensures) (c.is_of.ensures.yes c.if-is_of.true), λ d. same_at c.loop-place.place c.args.queue.now.items x d l (sym c.index.ensures))))

pub loop-place-preserved : goal.loop-place-preserved
loop-place-preserved c =
    let k = c.loop-place-test.true in
    let l : c.loop-place.place < length c.args.queue.now.items = rw (c.len-place-end.ensures, c.args.queue.now.ok.0) at k in
    one_further c.args.port c.loop-place.place c.args.queue.now.items c.index.result.now c.loop-place.invariant l (sym c.index.ensures) (c.is_of.ensures.no c.if-is_of.false)
