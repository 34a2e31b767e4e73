use Rattle.std.proofs.Common.{sym, ◌∙◌, arith}
use Rattle.std.specs.Prelude.{slice_index}
use Rattle.blue_check.proofs.Forests.{Labels-none}
use Rattle.blue_check.proofs.ForestLoops.{Labels-cycle, Labels-step, label_in_range}
use Rattle.blue_check.proofs.Joining.{AreListed-own}
use Rattle.blue_check.proofs.forest.is_polytree.Goals as goal

pub loop-link-init : goal.loop-link-init
loop-link-init c =
    let e = c.in_ok-labels.ensures in
    (e.length, Labels-none c.args.count (slice_index c.in_ok-labels.labels.items) e.own, AreListed-own c.in_ok-labels.labels.items c.in_ok-members.members.items c.args.count (sym c.in_ok-labels.labels.ok.0 ∙ e.length) e.own (sym c.in_ok-members.members.ok.0 ∙ c.in_ok-members.ensures))

pub returns-then-from-to-clause-no_tree : goal.returns-then-from-to-clause-no_tree
returns-then-from-to-clause-no_tree c = λ _ t.
    Labels-cycle c.args.links.now c.loop-link.link-index _ c.args.count c.loop-link.labels.items c.deref.result.now c.deref-in-loop-link.result.now c.rank_of-from.result c.rank_of-to.result c.loop-link-test.true c.requires
    c.deref.ensures.value c.deref-in-loop-link.ensures.value c.rank_of-from.ensures c.rank_of-to.ensures c.loop-link.invariant.1 c.if-from-to.true t

pub unite-requires-clause-one : goal.unite-requires-clause-one
unite-requires-clause-one c =
    let v = c.loop-link.invariant in
    let lt = (c.requires c.loop-link.link-index _ c.loop-link-test.true).0 in
    let row = label_in_range c.loop-link.labels.items c.deref.result.now c.loop-link.members.items _ c.args.count c.rank_of-from.result lt (sym c.loop-link.labels.ok.0 ∙ v.0) c.deref.ensures.value c.rank_of-from.ensures v.2 in
    omega (arith, row, c.loop-link.members.ok.0)

pub unite-requires-clause-other : goal.unite-requires-clause-other
unite-requires-clause-other c =
    let v = c.loop-link.invariant in
    let lt = (c.requires c.loop-link.link-index _ c.loop-link-test.true).1 in
    let row = label_in_range c.loop-link.labels.items c.deref-in-loop-link.result.now c.loop-link.members.items _ c.args.count c.rank_of-to.result lt (sym c.loop-link.labels.ok.0 ∙ v.0) c.deref-in-loop-link.ensures.value c.rank_of-to.ensures v.2 in
    omega (arith, row, c.loop-link.members.ok.0)

pub loop-link-preserved : goal.loop-link-preserved
loop-link-preserved c =
    let v = c.loop-link.invariant in
    let e = c.in_ok-unite.ensures in
    let step = Labels-step c.args.links.now c.loop-link.link-index _ c.args.count c.loop-link.labels.items c.deref.result.now c.deref-in-loop-link.result.now c.rank_of-from.result c.rank_of-to.result c.loop-link-test.true c.requires
    c.deref.ensures.value c.deref-in-loop-link.ensures.value c.rank_of-from.ensures c.rank_of-to.ensures v.1 c.unite.new.labels.items (sym c.loop-link.labels.ok.0 ∙ v.0) c.if-from-to.false e.joined in
    (e.length ∙ v.0, step, e.listed)
