use Rattle.std.proofs.Common.{◌≡◌, ◌<◌, true, false, length, set, ◌∙◌, sym, subst, arith}
use Rattle.blue_check.specs.Marks.{Reaches, mark_at}
use Rattle.blue_check.proofs.Reaching.{Reaches-push, Reaches-there, mark_at-get_or}
use Rattle.blue_check.proofs.marks.arrive.Goals as goal

pub returns-in_ok-push-clause-reaches : goal.returns-in_ok-push-clause-reaches
returns-in_ok-push-clause-reaches c = λ ws start count path lt r.
    let marks = c.args.marks.now.items in
    let long : c.args.node < length marks = omega (arith, c.args.marks.now.ok.0) in
    let free : mark_at marks c.args.node ≡ false = mark_at-get_or marks c.args.node c.index.result.now long ∙ sym c.index.ensures ∙ c.if-not-index.true in
    subst (Reaches ws start count (set marks c.args.node true)) (sym c.in_ok-push.ensures.items) (Reaches-push ws start count marks c.args.order.now.items c.args.node path lt long free r)

pub returns-else-not-index-clause-here : goal.returns-else-not-index-clause-here
returns-else-not-index-clause-here c = λ ws start count r.
    let marks = c.args.marks.now.items in
    let long : c.args.node < length marks = omega (arith, c.args.marks.now.ok.0) in
    let set_already : mark_at marks c.args.node ≡ true = mark_at-get_or marks c.args.node c.index.result.now long ∙ sym c.index.ensures ∙ c.if-not-index.false in
    Reaches-there ws start count marks c.args.order.now.items c.args.node set_already r
