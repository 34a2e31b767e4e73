-- The goals of `start::hand_all_back` that the search leaves.
use Rattle.std.proofs.Common.{sym, refl, arith}
use Rattle.std.specs.Vec.Iter.{into_iter_items}
use Rattle.island_parts.specs.Starts.{GivesBack}
use Rattle.island_parts.proofs.Starting.{fewer, none_more, going_first, going_next, going_last, next_can, later_can}
use Rattle.island_parts.proofs.start.hand_all_back.Goals as goal

pub loop-next-init : goal.loop-next-init
loop-next-init g c = (c.requires.len, c.requires.room, c.requires.can, going_first (GivesBack g.S.Source.state g.D.Drain.state) (into_iter_items c.args.islands) c.args.ends.now.items _ _ refl refl)

pub hand_one_back-requires : goal.hand_one_back-requires
hand_one_back-requires g c = next_can _ _ _ c.loop-next.invariant.2 c.in-Some.ensures.items

pub loop-next-preserved : goal.loop-next-preserved
loop-next-preserved g c =
    let kept = c.loop-next.invariant in
    let next = c.in-Some.ensures in (
      fewer _ _ _ _ _ next.items (sym next.len) kept.0,
      omega (arith, kept.1, next.len, c.push_reserved.ensures.len, c.push_reserved.ensures.capacity),
      later_can _ _ _ kept.2 next.items,
      going_next (GivesBack g.S.Source.state g.D.Drain.state) (into_iter_items c.args.islands) c.args.ends.now.items _ _ _ _ _ _ kept.3 next.items c.push_reserved.ensures.items c.hand_one_back.ensures,
    )

pub returns : goal.returns
returns g c =
    let kept = c.loop-next.invariant in
    going_last (GivesBack g.S.Source.state g.D.Drain.state) (into_iter_items c.args.islands) c.args.ends.now.items _ _ kept.3 (none_more _ _ c.in_default.ensures.variant.1 kept.0)
