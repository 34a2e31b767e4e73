-- The goals of `board::make` that the search leaves.
use Rattle.std.proofs.Common.{◌≡◌, ◌∙◌, ◌<◌, refl, sym, ap, None, arith}
use Rattle.std.specs.Arc.{arc_value}
use Rattle.std.proofs.lemmas.Option.{slice_get-get_or}
use Rattle.stage_switch.specs.Public.{SwitchState}
use Rattle.materializer.specs.Board.{count_at}
use Rattle.materializer.specs.Dealing.{owns, nothing}
use Rattle.materializer.proofs.Sitting.{some_sit, nobody_sits}
use Rattle.materializer.proofs.switch_board.make.Goals as goal

pub returns : goal.returns
returns c =
    let count = c.count_at-count.ensures in
    let at = slice_get-get_or c.args.places.now c.args.j None c.requires.within in
    let some : 0 < count_at c.args.j c.args.places.now = some_sit c.args.j c.args.j c.args.places.now _ at (sym c.sits.ensures ∙ c.if-not-sits.false) in
    let size : (arc_value c.in_ok-switch-2.switch).seats ≡ count_at c.args.j c.args.places.now = ap (λ (s : SwitchState). s.seats) c.in_ok-switch-2.ensures.ok ∙ c.in_ok-switch.ensures.seats.0 ∙ c.in_ok-counted.ensures ∙ count in
    let exact = c.in_ok-with_capacity.ensures.exact in
    owns c.in_ok-switch-2.switch some refl size c.in_ok-with_capacity.ensures.items (omega (arith, exact, count)) c.in_ok-deal.ensures

pub returns-then-not-sits : goal.returns-then-not-sits
returns-then-not-sits c =
    let at = slice_get-get_or c.args.places.now c.args.j None c.requires.within in
    nothing (nobody_sits c.args.j c.args.places.now _ c.requires.rooted at (sym c.sits.ensures ∙ c.if-not-sits.true)) refl c.new.ensures.items refl

pub new-requires-2 : goal.new-requires-2
new-requires-2 c =
    let at = slice_get-get_or c.args.places.now c.args.j None c.requires.within in
    let some : 0 < count_at c.args.j c.args.places.now = some_sit c.args.j c.args.j c.args.places.now _ at (sym c.sits.ensures ∙ c.if-not-sits.false) in
    let count = c.count_at-count.ensures in
    let counted = c.in_ok-counted.ensures in
    record { some = omega (arith, some, count, counted) }
