-- The goals of `input::IslandInput::serve_now` that the search leaves.
use Rattle.std.proofs.Common.{◌∙◌, inl, inr, sym, ap, arith}
use Rattle.fused_net.proofs.Going.{uses_trans}
use Rattle.lane_core.specs.Ends.{taken_items, ask_calls, has_cancelled, found_sent, told_sent, in_lane, in_size}
use Rattle.island_body.proofs.Beside.{place_in_beside}
use Rattle.island_body.proofs.Feeding.{quiet_away, asks_least, asks_more, asks_none, beside_next}
use Rattle.island_body.proofs.input.IslandInput.serve_now.Goals as goal

pub hand_on_last-requires-clause-place : goal.hand_on_last-requires-clause-place
hand_on_last-requires-clause-place g c = place_in_beside _ _ c.args.place c.args.island.now c.hand_on-told.new.island c.args.self.now.wire c.hand_on-told.new.self.wire c.hand_on-told.ensures.beside c.hand_on-told.ensures.wire.0 c.requires.place

pub hand_on_last-requires-clause-given : goal.hand_on_last-requires-clause-given
hand_on_last-requires-clause-given g c e = inl (c.hand_on-told.ensures.given e)

pub hand_on_last-requires-in-Quiet-clause-given : goal.hand_on_last-requires-in-Quiet-clause-given
hand_on_last-requires-in-Quiet-clause-given g c e = inr (quiet_away c.args.self.now.boundary c.args.island.now c.args.self.now.wire (c.laws.ensures c.requires.whole) c.requires.enters (sym c.wanted_by_place.ensures ∙ c.in-Quiet.is) e)

pub returns-in-Asked-clause-least : goal.returns-in-Asked-clause-least
returns-in-Asked-clause-least g c =
    let lane = c.hand_on_last.ensures.wire.1 in
    let same = ap has_cancelled lane ∙ c.hand_on-told.ensures.wire.3 in
    (asks_least c.hand_on-told.result _ _ (ap ask_calls lane ∙ c.hand_on-told.ensures.asks), omega (arith, same))

pub returns-in-Asked-clause-told : goal.returns-in-Asked-clause-told
returns-in-Asked-clause-told g c e = inl (asks_more c.hand_on-told.result _ _ (ap ask_calls c.hand_on_last.ensures.wire.1 ∙ c.hand_on-told.ensures.asks) e)

pub returns-in-Asked-clause-quiet : goal.returns-in-Asked-clause-quiet
returns-in-Asked-clause-quiet g c e =
    let lane = c.hand_on_last.ensures.wire.1 in
    (asks_none c.hand_on-told.result _ _ (ap ask_calls lane ∙ c.hand_on-told.ensures.asks) e, ap has_cancelled lane ∙ c.hand_on-told.ensures.wire.3)

pub returns-in-Asked-clause-wire : goal.returns-in-Asked-clause-wire
returns-in-Asked-clause-wire g c =
    let first = c.hand_on-told.ensures.wire in
    let last = c.hand_on_last.ensures.wire in
    (last.0 ∙ first.0, (ap in_lane last.1 ∙ first.1.0, ap in_size last.1 ∙ first.1.1, last.2 ∙ first.1.2), ap taken_items last.1 ∙ first.2)

pub returns-in-Asked-clause-known : goal.returns-in-Asked-clause-known
returns-in-Asked-clause-known g c =
    let first = c.hand_on-told.ensures.known in
    let lane = c.hand_on_last.ensures.wire.1 in
    (ap found_sent lane ∙ first.0, ap told_sent lane ∙ first.1, c.hand_on_last.ensures.over ∙ first.2)

pub returns-in-Asked-clause-beside : goal.returns-in-Asked-clause-beside
returns-in-Asked-clause-beside g c =
    beside_next c.args.self.now.wire c.args.island.now c.hand_on-told.new.island c.hand_on_last.new.island c.hand_on-told.ensures.beside (rw c.hand_on-told.ensures.wire.0 at c.hand_on_last.ensures.beside)

pub returns-in-Asked-clause-uses : goal.returns-in-Asked-clause-uses
returns-in-Asked-clause-uses g c = uses_trans _ _ _ 0 0 c.hand_on-told.ensures.uses c.hand_on_last.ensures.uses

pub returns-in-Quiet-clause-wire : goal.returns-in-Quiet-clause-wire
returns-in-Quiet-clause-wire g c =
    let last = c.hand_on_last-in-Quiet.ensures.wire in
    (last.0, (ap in_lane last.1, ap in_size last.1, last.2), ap taken_items last.1)

pub returns-in-Quiet-clause-least : goal.returns-in-Quiet-clause-least
returns-in-Quiet-clause-least g c =
    let lane = c.hand_on_last-in-Quiet.ensures.wire.1 in
    let asks = ap ask_calls lane in
    let cancels = ap has_cancelled lane in
    (omega (arith, asks), omega (arith, cancels))

pub returns-in-Quiet-clause-quiet : goal.returns-in-Quiet-clause-quiet
returns-in-Quiet-clause-quiet g c e =
    let lane = c.hand_on_last-in-Quiet.ensures.wire.1 in
    (ap ask_calls lane, ap has_cancelled lane)

pub returns-in-Quiet-clause-known : goal.returns-in-Quiet-clause-known
returns-in-Quiet-clause-known g c =
    let lane = c.hand_on_last-in-Quiet.ensures.wire.1 in
    (ap found_sent lane, ap told_sent lane, c.hand_on_last-in-Quiet.ensures.over)
