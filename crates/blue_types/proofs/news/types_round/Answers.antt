use Rattle.std.proofs.Common.{◌≡◌, ℕ, ap, subst}
use Rattle.std.specs.Prelude.{slice_get}
use Rattle.std.specs.Option.{option_or}
use Rattle.blue_names.specs.Rounds.{fixes}
use Rattle.blue_names.specs.Links.{wires_of_links}
use Rattle.blue_types.specs.Net.{type_at}
use Rattle.blue_types.specs.News.{AreReached, news_at}
use Rattle.blue_types.specs.Would.{would}
use Rattle.blue_types.proofs.RoundSteps.{RestsOn-next, attempt_at-same}
use Rattle.blue_types.proofs.news.types_round.Goals as goal

pub returns-clause-rests : goal.returns-clause-rests
returns-clause-rests c =
    let n = c.args.net.now in
    let l = c.args.library.now in
    let t = type_at c.args.types.now in
    let u = type_at c.fix_all.new.types in
    let ws = wires_of_links n.links.now in
    RestsOn-next n.nodes.now ws (would l n) t u c.in_ok-news.news.items c.args.front.now c.in_ok-next.next.items
    (λ i same. ap fixes (attempt_at-same l.heads.now n.nodes.now ws u t i same l.chains.now (slice_get n.nodes.now i)))
    c.in_ok-news.ensures.news c.requires.rests
    (subst (λ xs. (i : ℕ) → u i ≡ option_or (t i) (news_at xs i)) c.deref.ensures.value c.in_ok-next.ensures.types)
    (subst (λ xs. AreReached ws t xs c.in_ok-next.next.items) c.deref.ensures.value c.in_ok-next.ensures.reached)
