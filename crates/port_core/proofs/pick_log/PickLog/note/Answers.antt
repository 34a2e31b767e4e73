use Rattle.std.proofs.Common.{◌≡◌, refl, sym, subst, length}
use Rattle.port_core.specs.Picks.{Picks, MayNote, logged}
use Rattle.port_core.specs.PickPlaces.{left_of}
use Rattle.port_core.proofs.Noting.{noted_is}
use Rattle.port_core.proofs.pick_log.PickLog.note.Goals as goal

pub returns-in-Some : goal.returns-in-Some
returns-in-Some c =
    let may : MayNote c.args.m (left_of c.self.inside.made c.self.inside.moves.items) = subst (λ (x : Picks). MayNote c.args.m x.left) (sym c.self.view_is) c.requires.next in
    let may2 = rw c.in-Some.is at may in
    rw (sym c.self.view_is, c.in-Some.is) (noted_is c.self.inside.moves.items c.in-Some.made c.args.m (length c.self.inside.moves.items) c.self.inside.stuck refl may2)
