use Rattle.std.proofs.Common.{sym, ap, ◌∙◌, arith}
use Rattle.std.specs.Prelude.{slice_index}
use Rattle.blue_names.specs.Links.{wires_of_links}
use Rattle.blue_check.proofs.Carrying.{path_by_goal}
use Rattle.blue_check.proofs.ClosedWalks.{rises_along}
use Rattle.blue_check.proofs.closed.leads_back.Goals as goal

pub returns-then-rank_of-clause-leads_not : goal.returns-then-rank_of-clause-leads_not
returns-then-rank_of-clause-leads_not c = λ _ p.
    let found = c.args.found.now in
    let le = rises_along (wires_of_links c.args.links.now) found.ranks.items c.args.to c.args.from c.requires.ranks p in
    let first = c.rank_of.ensures ∙ ap (λ xs. slice_index xs c.args.from) c.deref.ensures.value in
    let second = c.rank_of-2.ensures ∙ ap (λ xs. slice_index xs c.args.to) c.deref-2.ensures.value in
    omega (arith, le, first, second, c.if-rank_of.true)

pub returns-then-rank_of-2-clause-leads : goal.returns-then-rank_of-2-clause-leads
returns-then-rank_of-2-clause-leads c = λ _.
    let found = c.args.found.now in
    let r = c.requires in
    let goal_of_to = c.rank_of-3.ensures ∙ ap (λ xs. slice_index xs c.args.to) c.deref-3.ensures.value in
    let origin_of_from = c.rank_of-4.ensures ∙ ap (λ xs. slice_index xs c.args.from) c.deref-4.ensures.value in
    path_by_goal (wires_of_links c.args.links.now) found.origins.items found.goals.items c.args.to c.args.from (omega (arith, r.to, r.goals_length, found.goals.ok.0)) (omega (arith, r.from, r.origins_length, found.origins.ok.0)) r.goals r.origins
    (sym goal_of_to ∙ c.if-rank_of-2.true ∙ origin_of_from)
