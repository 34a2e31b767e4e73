-- The goals of `body::Body::write_off` that the search leaves.
use Rattle.std.proofs.Common.{refl}
use Rattle.island_body.proofs.Standing.{served_then}
use Rattle.island_body.proofs.Acting.{ran_stands}
use Rattle.island_body.proofs.body.Body.write_off.Goals as goal

pub returns-clause-stands : goal.returns-clause-stands
returns-clause-stands g c =
    let a = c.put_off.ensures in
    ran_stands g.S.Source.state g.D.Drain.state g.B.PlugBook.lists c.args.self.now _ (c.laws.ensures c.requires.stands.whole).laws (c.laws-2.ensures a.whole).laws (record { on = a.on; ins = a.ways.0; outs = a.ways.1; numbers = a.numbers; places = a.places }) a.gone a.still a.whole refl refl refl c.requires.stands

pub returns-clause-served : goal.returns-clause-served
returns-clause-served g c =
    let a = c.put_off.ensures in
    let b = c.args.self.now in
    served_then g.S.Source.state g.D.Drain.state g.B.PlugBook.lists b.island c.put_off.new.self b.ins.items b.outs.items (c.laws.ensures c.requires.stands.whole).laws (c.laws-2.ensures a.whole).laws (record { on = a.on; ins = a.ways.0; outs = a.ways.1; numbers = a.numbers; places = a.places }) a.gone a.still c.requires.stands.stand _ _ _ a.untouched c.requires.served
