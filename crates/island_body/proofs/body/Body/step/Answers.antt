-- The goals of `body::Body::step` that the search leaves.
use Rattle.std.proofs.Common.{refl}
use Rattle.fused_net.proofs.Keeping.{on_err}
use Rattle.island_body.proofs.Standing.{served_then}
use Rattle.island_body.proofs.Acting.{ran_stands, ran_breaks}
use Rattle.island_body.proofs.body.Body.step.Goals as goal

pub returns-in_err-advance-clause-breaks : goal.returns-in_err-advance-clause-breaks
returns-in_err-advance-clause-breaks g c = on_err _ (ran_breaks g.S.Source.state g.D.Drain.state g.B.PlugBook.lists c.args.self.now _ (c.laws.ensures c.requires.stands.whole).laws c.in_err-advance.ensures.breaks refl refl c.requires.stands)

pub returns-clause-stands : goal.returns-clause-stands
returns-clause-stands g c =
    let a = c.in_ok-advance.ensures in
    ran_stands g.S.Source.state g.D.Drain.state g.B.PlugBook.lists c.args.self.now _ (c.laws.ensures c.requires.stands.whole).laws (c.laws-2.ensures a.whole).laws (record { on = a.on; ins = a.ways.0; outs = a.ways.1; numbers = a.numbers; places = a.places }) a.gone a.still a.whole refl refl refl c.requires.stands

pub returns-clause-served : goal.returns-clause-served
returns-clause-served g c =
    let a = c.in_ok-advance.ensures in
    let b = c.args.self.now in
    served_then g.S.Source.state g.D.Drain.state g.B.PlugBook.lists b.island c.advance.new.self b.ins.items b.outs.items (c.laws.ensures c.requires.stands.whole).laws (c.laws-2.ensures a.whole).laws (record { on = a.on; ins = a.ways.0; outs = a.ways.1; numbers = a.numbers; places = a.places }) a.gone a.still c.requires.stands.stand _ _ _ a.untouched c.requires.served
