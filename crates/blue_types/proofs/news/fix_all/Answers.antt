use Rattle.std.proofs.Common.{◌<◌, length, arith}
use Rattle.blue_names.specs.Links.{wires_of_links}
use Rattle.blue_types.specs.Net.{type_at}
use Rattle.blue_types.proofs.NewsLoops.{AreBelow-item, AreReached-more, put_more}
use Rattle.blue_types.proofs.news.fix_all.Goals as goal

pub fix-requires-clause-below : goal.fix-requires-clause-below
fix-requires-clause-below c =
    let lt : c.fixed-item.result.node < length c.args.types.now = AreBelow-item (length c.args.types.now) c.args.news.now c.loop-fixed.fixed-index c.fixed-item.result c.requires.below c.loop-fixed-test.true c.fixed-item.is in
    omega arith

pub loop-fixed-preserved : goal.loop-fixed-preserved
loop-fixed-preserved c =
    let v = c.loop-fixed.invariant in
    let e = c.in_ok-fix.ensures in
    let k = c.loop-fixed.fixed-index in
    let f = c.fixed-item.result in (
      λ i. put_more c.args.news.now k f i (type_at c.args.types.now i) (type_at c.loop-fixed.types i) (type_at c.fix.new.types i) c.loop-fixed-test.true c.fixed-item.is (v.0 i) (e.types i),
      AreReached-more (wires_of_links c.args.links.now) (type_at c.args.types.now) (type_at c.loop-fixed.types) c.args.news.now k f c.loop-fixed.front.items c.fix.new.front.items c.loop-fixed-test.true c.fixed-item.is
          v.0 v.1 e.kept e.added,
    )
