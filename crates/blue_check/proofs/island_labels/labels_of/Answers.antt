use Rattle.std.proofs.Common.{sym, ◌∙◌, arith}
use Rattle.blue_check.proofs.ForestLoops.{label_in_range}
use Rattle.blue_check.proofs.Joining.{AreListed-own}
use Rattle.blue_check.proofs.Linking.{AreLabels-own, AreLabels-more}
use Rattle.blue_check.proofs.island_labels.labels_of.Goals as goal

pub loop-link-init : goal.loop-link-init
loop-link-init c =
    let e = c.in_ok-labels.ensures in
    let labels = c.in_ok-labels.labels in
    let long = sym labels.ok.0 ∙ e.length in
    record { labels = AreLabels-own labels.items c.args.count long e.own; listed = AreListed-own labels.items c.in_ok-members.members.items c.args.count long e.own (sym c.in_ok-members.members.ok.0 ∙ c.in_ok-members.ensures) }

pub merge-requires-clause-one : goal.merge-requires-clause-one
merge-requires-clause-one c =
    let v = c.loop-link.invariant in
    let lt = (c.requires c.loop-link.link-index _ c.loop-link-test.true).0 in
    let row = label_in_range c.loop-link.labels.items c.deref.result.now c.loop-link.members.items _ c.args.count c.rank_of-from.result lt v.labels.each c.deref.ensures.value c.rank_of-from.ensures v.listed in
    omega (arith, row, c.loop-link.members.ok.0)

pub merge-requires-clause-other : goal.merge-requires-clause-other
merge-requires-clause-other c =
    let v = c.loop-link.invariant in
    let lt = (c.requires c.loop-link.link-index _ c.loop-link-test.true).1 in
    let row = label_in_range c.loop-link.labels.items c.deref-in-loop-link.result.now c.loop-link.members.items _ c.args.count c.rank_of-to.result lt v.labels.each c.deref-in-loop-link.ensures.value c.rank_of-to.ensures v.listed in
    omega (arith, row, c.loop-link.members.ok.0)

pub loop-link-preserved : goal.loop-link-preserved
loop-link-preserved c =
    let v = c.loop-link.invariant in
    let e = c.in_ok-merge.ensures in
    let new = c.merge.new.labels in
    let long = sym new.ok.0 ∙ e.length ∙ c.loop-link.labels.ok.0 in
    record {
      labels = AreLabels-more c.args.links.now c.loop-link.link-index _ c.args.count c.loop-link.labels.items new.items c.deref.result.now c.deref-in-loop-link.result.now c.rank_of-from.result c.rank_of-to.result
          c.loop-link-test.true c.requires c.deref.ensures.value c.deref-in-loop-link.ensures.value c.rank_of-from.ensures c.rank_of-to.ensures long v.labels e.joined;
      listed = e.listed;
    }
