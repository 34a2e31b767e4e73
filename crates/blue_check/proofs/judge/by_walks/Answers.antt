use Rattle.std.proofs.Common.{ℕ, Option, refl, inr, subst, sym}
use Rattle.std.specs.Option.{IfSome, IfNone}
use Rattle.blue_names.specs.Links.{wires_of_links}
use Rattle.blue_names.specs.Paths.{IsFirstClosed, HasNoClosedWalk}
use Rattle.blue_check.proofs.judge.by_walks.Goals as goal

pub returns-in_ok-numbered-in-Some : goal.returns-in_ok-numbered-in-Some
returns-in_ok-numbered-in-Some c =
    let ws = wires_of_links c.args.links.now in
    let first : IsFirstClosed ws c.in-Some.i = subst (λ (o : Option ℕ). IfSome o (IsFirstClosed ws)) c.in-Some.is c.in_ok-i.ensures.first in
    inr (refl, subst (IsFirstClosed ws) (sym c.in_ok-numbered-in-Some.ensures.number) first)

pub returns-in_ok-is_polytree-in-None : goal.returns-in_ok-is_polytree-in-None
returns-in_ok-is_polytree-in-None c =
    let ws = wires_of_links c.args.links.now in
    let e = c.in_ok-is_polytree-in-None.ensures in
    (refl, record { none = subst (λ (o : Option ℕ). IfNone o (HasNoClosedWalk ws)) c.in-None.is c.in_ok-i.ensures.none; tells = record { yes = e.tree; no = e.no_tree } })
