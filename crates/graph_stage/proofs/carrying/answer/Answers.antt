use Rattle.std.proofs.Common.{◌≡◌, ◌++◌, ◌∷◌, List, ◌∙◌, ap, sym, arith}
use Rattle.graph_stage.specs.declared.ask.Ask.{Ask}
use Rattle.graph_stage.specs.OwnView.{carried_out}
use Rattle.graph_stage.proofs.Rooms.{step_on, step_room}
use Rattle.graph_stage.proofs.carrying.answer.Goals as goal

pub loop-ask-preserved : goal.loop-ask-preserved
loop-ask-preserved c =
    let inv = c.loop-ask.invariant in
    let steps = c.if-not-take_ask.ensures.steps in
    let first = sym c.in-Some.ensures.first in
    let types = c.args.types.now.items in
    let s = step_on types c.args.occasion.now c.loop-ask.sight c.in-Some.ask c.loop-ask.acts.items c.take_ask.new.sight c.take_ask.new.acts.items c.take.new.self steps in
    let r = step_room types c.args.occasion.now c.loop-ask.sight c.in-Some.ask c.loop-ask.acts.items c.take_ask.new.sight c.take_ask.new.acts.items c.loop-ask.acts.room steps inv.few inv.fits in
    record {
      rest = s.0 ∙ ap (λ (z : List Ask). c.loop-ask.acts.items ++ (carried_out types c.args.occasion.now c.loop-ask.sight z).acts) first ∙ inv.rest;
      sees = s.1 ∙ ap (λ (z : List Ask). (carried_out types c.args.occasion.now c.loop-ask.sight z).sight) first ∙ inv.sees;
      few = r.0;
      fits = let n = c.take_ask.ensures.room in omega (arith, r.1, n);
      room = c.take_ask.ensures.room ∙ inv.room;
    }
