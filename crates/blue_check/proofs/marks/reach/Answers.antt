use Rattle.std.proofs.Common.{◌<◌, ◌≤◌, [], ◌∷◌, ◌++◌, length, ap, set, true, ◌∙◌, sym, subst, arith}
use Rattle.blue_names.specs.Links.{wires_of_links}
use Rattle.blue_check.specs.Marks.{Reaches}
use Rattle.blue_check.proofs.Reaching.{Reaches-first, Reaches-count, IsClosed-none, IsClosed-all}
use Rattle.blue_check.proofs.marks.reach.Goals as goal

pub walk-init : goal.walk-init
walk-init c =
    let ws = wires_of_links c.args.links.now in
    let marks = c.in_ok-marks.marks in
    let count = c.in_ok-marks.ensures.length in
    let long : c.args.start < length marks.items = omega (arith, c.requires.start, count, marks.ok.0) in
    let items = c.in_ok-push.ensures.items in
    (count, subst (Reaches ws c.args.start c.args.count (set marks.items c.args.start true)) (sym (items ∙ ap (λ xs. xs ++ c.args.start ∷ []) c.new-order.ensures.items)) (Reaches-first ws c.args.start c.args.count marks.items c.requires.start long c.in_ok-marks.ensures.none), IsClosed-none ws c.push.new.self.items)

pub returns-then-k-len-clause-all : goal.returns-then-k-len-clause-all
returns-then-k-len-clause-all c = λ i p.
    let v = c.walk.invariant in
    IsClosed-all (wires_of_links c.args.links.now) c.args.start c.args.count c.walk.marks.items c.walk.order.items c.walk.k (omega (arith, c.walk.order.ok.0, c.len.ensures, c.if-k-len.true)) v.1 v.2 i p

pub returns-clause-all : goal.returns-clause-all
returns-clause-all c = λ i p.
    let v = c.walk.invariant in
    let ws = wires_of_links c.args.links.now in
    let few : length c.walk.order.items ≤ c.args.count = Reaches-count ws c.args.start c.args.count c.walk.marks.items c.walk.order.items c.args.start v.1 in
    IsClosed-all ws c.args.start c.args.count c.walk.marks.items c.walk.order.items c.walk.k (omega (arith, few, c.walk-test.false)) v.1 v.2 i p
