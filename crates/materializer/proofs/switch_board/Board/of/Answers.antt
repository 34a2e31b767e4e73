-- The goals of `board::Board::of` that the search leaves.
use Rattle.std.proofs.Common.{◌≡◌, ◌∙◌, ℕ, List, length, sym, subst, Option, rules, arith}
use Rattle.materializer.specs.Dealing.{AreRooted, IsSwitchMade}
use Rattle.materializer.proofs.Places.{rooted}
use Rattle.materializer.proofs.Dealt.{MadeTo, made_next, is_board, at_switches, are_handed}
use Rattle.materializer.proofs.switch_board.Board.of.Goals as goal

pub make-requires-clause-rooted : goal.make-requires-clause-rooted
make-requires-clause-rooted c = subst (λ (l : List (Option ℕ)). AreRooted l) (sym (c.deref.ensures.value ∙ c.in_ok-places.ensures)) (rooted _)

pub loop-j-preserved : goal.loop-j-preserved
loop-j-preserved c =
    made_next c.in_ok-places.places.items c.loop-j.j _ _ _ _ c.loop-j.ends.items c.make.new.ends.items c.in_ok-switch.switch c.in_ok-switch.list c.loop-j.invariant
    (subst (λ (l : List (Option ℕ)). IsSwitchMade c.loop-j.j l c.loop-j.ends.items c.make.new.ends.items c.in_ok-switch.switch c.in_ok-switch.list) c.deref.ensures.value c.in_ok-switch.ensures) c.in_ok-push.ensures.items c.in_ok-push-2.ensures.items

pub returns-clause-board : goal.returns-clause-board
returns-clause-board c =
    let all : c.loop-j.j ≡ length c.in_ok-places.places.items = search (rules, arith) in
    is_board _ _ c.loop-j.ends.items (subst (λ n. MadeTo c.in_ok-places.places.items n c.loop-j.switches.items c.loop-j.seats.items c.loop-j.ends.items) all c.loop-j.invariant) c.in_ok-places.ensures

pub returns-clause-ends : goal.returns-clause-ends
returns-clause-ends c =
    let all : c.loop-j.j ≡ length c.in_ok-places.places.items = search (rules, arith) in
    at_switches _ _ c.loop-j.ends.items (subst (λ n. MadeTo c.in_ok-places.places.items n c.loop-j.switches.items c.loop-j.seats.items c.loop-j.ends.items) all c.loop-j.invariant) c.in_ok-places.ensures

pub returns-clause-handed : goal.returns-clause-handed
returns-clause-handed c =
    let all : c.loop-j.j ≡ length c.in_ok-places.places.items = search (rules, arith) in
    are_handed _ (record { places = c.in_ok-places.places; switches = c.loop-j.switches; seats = c.loop-j.seats }) c.loop-j.ends.items (subst (λ n. MadeTo c.in_ok-places.places.items n c.loop-j.switches.items c.loop-j.seats.items c.loop-j.ends.items) all c.loop-j.invariant) c.in_ok-places.ensures
