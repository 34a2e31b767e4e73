use Rattle.std.proofs.Common.{◌≡◌, ◌<◌, ◌++◌, [], ◌∷◌, Some, length, refl, subst, sym, ◌∙◌}
use Rattle.blue_names.specs.Rounds.{attempt_at, fixes}
use Rattle.blue_names.specs.Links.{wires_of_links}
use Rattle.blue_types.specs.Net.{type_at}
use Rattle.blue_types.specs.News.{AreNews, AreBelow}
use Rattle.blue_types.specs.Would.{would}
use Rattle.blue_types.proofs.NewsLists.{AreNews-push, AreBelow-push, below_from_some}
use Rattle.blue_types.proofs.news.add_news.Goals as goal

pub returns-in_ok-push-in-Some-clause-news : goal.returns-in_ok-push-in-Some-clause-news
returns-in_ok-push-in-Some-clause-news c = λ front old.
    let types = type_at c.args.types.now in
    let fix = would c.args.library.now c.args.net.now types in
    let is : fix c.args.node ≡ Some c.in-Some.fixed = sym c.in_ok-fixed.ensures ∙ c.in-Some.is in
    subst (AreNews types fix (front ++ c.args.node ∷ [])) (sym c.in_ok-push-in-Some.ensures.items)
    (AreNews-push types fix front c.args.news.now.items (record { node = c.args.node; fixed = c.in-Some.fixed }) is old)

pub returns-in_ok-push-in-Some-clause-below : goal.returns-in_ok-push-in-Some-clause-below
returns-in_ok-push-in-Some-clause-below c = λ old.
    let n = c.args.net.now in
    let l = c.args.library.now in
    let types = type_at c.args.types.now in
    let is : would l n types c.args.node ≡ Some c.in-Some.fixed = sym c.in_ok-fixed.ensures ∙ c.in-Some.is in
    let lt = below_from_some n.nodes.now c.args.node (λ o. fixes (attempt_at l.heads.now l.chains.now n.nodes.now (wires_of_links n.links.now) types c.args.node o)) c.in-Some.fixed refl is in
    subst (AreBelow (length n.nodes.now)) (sym c.in_ok-push-in-Some.ensures.items) (AreBelow-push (length n.nodes.now) c.args.news.now.items (record { node = c.args.node; fixed = c.in-Some.fixed }) lt old)
