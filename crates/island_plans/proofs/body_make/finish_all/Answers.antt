-- The goals of `make::finish_all` that the search leaves.
use Rattle.std.proofs.Common.{◌≡◌, length, ap, sym, arith, rules}
use Rattle.std.specs.Vec.Iter.{into_iter_items, into_iter_len}
use Rattle.island_plans.proofs.Making.{fewer, none_left, behind_at, going_first, going_next, going_size}
use Rattle.island_plans.proofs.Bodies.{EndsAt, ends_at, all_ended}
use Rattle.island_plans.proofs.body_make.finish_all.Goals as goal

pub loop-body-init : goal.loop-body-init
loop-body-init g c =
    let r = c.into_iter-body-iterator.result in
    let all : into_iter_items r ≡ c.args.bodies.items = search rules in
    let left : into_iter_len r ≡ length (into_iter_items r) = search rules in
    let size : length (into_iter_items r) ≡ length c.args.bodies.items = ap length all in
    let none : length c.args.ends.items ≡ 0 = ap length c.requires.none_ended in (
      tt,
      tt,
      left,
      omega (arith, none, left, size, c.args.ends.ok.0, c.args.bodies.ok.0, c.requires.room),
      going_first (EndsAt c.args.bodies.items) c.args.bodies.items _ _ all c.requires.none_ended,
    )

pub loop-body-preserved : goal.loop-body-preserved
loop-body-preserved g c =
    let kept = c.loop-body.invariant in
    let next = c.in-Some.ensures.steps in
    let put = c.push_reserved.ensures in
    let left = c.finish.ensures in
    let at = behind_at c.args.bodies.items _ _ _ _ kept.4.behind next.0 in (
      tt,
      tt,
      fewer _ _ _ _ _ next.0 (sym next.1) kept.2,
      omega (arith, kept.3, next.1, put.len, put.capacity),
      going_next (EndsAt c.args.bodies.items) c.args.bodies.items _ _ _ _ _ _ kept.4 next.0 put.items
          (ends_at c.args.bodies.items _ _ _ at (record { sinks = left.sinks; wires = left.wires; picks = left.picks; misfit = left.misfit; seats = left.seats; readers = left.readers; writers = left.writers })),
    )

pub returns : goal.returns
returns g c =
    let kept = c.loop-body.invariant in
    all_ended c.args.bodies.items _ (going_size (EndsAt c.args.bodies.items) c.args.bodies.items _ _ kept.4 (none_left _ _ c.in-None.ensures.steps.0 kept.2)) kept.4.each
