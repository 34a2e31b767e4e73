use Rattle.std.proofs.Common.{◌<◌, ◌≤◌, vec_len, length, subst, arith}
use Rattle.blue_names.specs.Links.{wires_of_links}
use Rattle.blue_check.proofs.VisitSteps.{Visits-more, target_path, wire_in_range}
use Rattle.blue_check.proofs.marks.follow.Goals as goal

pub arrive-requires : goal.arrive-requires
arrive-requires c =
    let w = c.in-Some.ensures.wire in
    let lt = wire_in_range (vec_len c.args.marks.now) c.args.links.now c.args.i w.0 c.requires w.1 in
    subst (λ t. t < vec_len c.args.marks.now) w.2 lt.1

pub returns-in_ok-arrive-in-Some-clause-visits : goal.returns-in_ok-arrive-in-Some-clause-visits
returns-in_ok-arrive-in-Some-clause-visits c = λ node first begun row from v.
    let ws = wires_of_links c.args.links.now in
    let count = vec_len c.args.marks.now in
    let w = c.in-Some.ensures.wire in
    let e = c.in_ok-arrive-in-Some.ensures in
    let lt : c.in-Some.target < count = subst (λ t. t < count) w.2 (wire_in_range count c.args.links.now c.args.i w.0 c.requires w.1).1 in
    let a : length c.args.order.now.items ≤ length c.arrive.new.order.items = omega (arith, e.longer, c.args.order.now.ok.0, c.arrive.new.order.ok.0) in
    Visits-more ws node count first c.args.marks.now.items c.arrive.new.marks.items begun c.args.order.now.items c.arrive.new.order.items row v c.args.i c.in-Some.target c.in-Some.ensures.to
    (λ start p. target_path ws start node c.args.i c.in-Some.target w.0 w.1 (from w.0 w.1) w.2 p) lt
    (λ start p below r. e.reaches ws start count p below r) a (λ k le. e.front k (omega (arith, le, c.args.order.now.ok.0))) e.kept (λ start r. e.here ws start count r)
