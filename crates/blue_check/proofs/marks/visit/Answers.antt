use Rattle.std.proofs.Common.{◌++◌, [], ◌∷◌, vec_len, take, get_or, sym, ◌∙◌, subst}
use Rattle.blue_names.specs.Links.{wires_of_links}
use Rattle.blue_check.specs.Visits.{Visits}
use Rattle.blue_check.proofs.VisitSteps.{from_row, Visits-take}
use Rattle.blue_check.proofs.marks.visit.Goals as goal

pub loop-i-preserved : goal.loop-i-preserved
loop-i-preserved c =
    let ws = wires_of_links c.args.links.now in
    let v = c.loop-i.invariant in
    let e = c.in_ok-follow.ensures in
    let row = c.row_of-i-items.result.now in
    let k = c.loop-i.i-index in
    let old = c.args.marks.now.items in
    let begun = c.args.order.now.items in
    let now : Visits ws c.args.node (vec_len c.loop-i.marks) old c.loop-i.marks.items begun c.loop-i.order.items (take k row) =
    subst (λ n. Visits ws c.args.node n old c.loop-i.marks.items begun c.loop-i.order.items (take k row)) (sym v.0) v.1 in
    let more = e.visits c.args.node old begun (take k row) (from_row c.args.outs.now ws c.args.node row k 0 c.requires.outs c.row_of-i-items.ensures c.loop-i-test.true) now in
    let moved : Visits ws c.args.node (vec_len c.args.marks.now) old c.follow.new.marks.items begun c.follow.new.order.items (take k row ++ get_or row k 0 ∷ []) =
    subst (λ n. Visits ws c.args.node n old c.follow.new.marks.items begun c.follow.new.order.items (take k row ++ get_or row k 0 ∷ [])) v.0 more in
    (e.length ∙ v.0, Visits-take ws c.args.node (vec_len c.args.marks.now) old c.follow.new.marks.items begun c.follow.new.order.items row k 0 c.loop-i-test.true moved)
