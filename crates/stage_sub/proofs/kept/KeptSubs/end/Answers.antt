use Rattle.std.proofs.Common.{sym, subst}
use Rattle.stage_sub.specs.KeptSubs.{KeptSubs, MayCallKept}
use Rattle.stage_sub.proofs.KeptSubs.{may_last, may_slots}
use Rattle.stage_sub.proofs.kept.KeptSubs.end.Goals as goal

pub returns-in-Before-clause-may : goal.returns-in-Before-clause-may
returns-in-Before-clause-may g c =
    let k : KeptSubs g.row.C.Denot = record { last = c.self.inside.last; places = c.self.inside.places.entries; slots = c.self.inside.slots.items } in
    let may : MayCallKept g.C.Chain.rest g.C.Chain.is_open k = subst (MayCallKept g.C.Chain.rest g.C.Chain.is_open) (sym c.self.view_is) c.requires.may in
    may_last g.C.Chain.rest g.C.Chain.is_open k c.end_last.new.last c.end_last.result may c.end_last.ensures.may

pub returns-in-Behind-clause-may : goal.returns-in-Behind-clause-may
returns-in-Behind-clause-may g c =
    let k : KeptSubs g.row.C.Denot = record { last = c.self.inside.last; places = c.self.inside.places.entries; slots = c.self.inside.slots.items } in
    let may : MayCallKept g.C.Chain.rest g.C.Chain.is_open k = subst (MayCallKept g.C.Chain.rest g.C.Chain.is_open) (sym c.self.view_is) c.requires.may in
    may_last g.C.Chain.rest g.C.Chain.is_open k c.end_last-in-Behind.new.last c.end_last-in-Behind.result may c.end_last-in-Behind.ensures.may

pub returns-in-Key-clause-may : goal.returns-in-Key-clause-may
returns-in-Key-clause-may g c =
    let k : KeptSubs g.row.C.Denot = record { last = c.self.inside.last; places = c.self.inside.places.entries; slots = c.self.inside.slots.items } in
    let may : MayCallKept g.C.Chain.rest g.C.Chain.is_open k = subst (MayCallKept g.C.Chain.rest g.C.Chain.is_open) (sym c.self.view_is) c.requires.may in
    may_slots g.C.Chain.rest g.C.Chain.is_open k c.end_groups.new.slots.items c.end_groups.result may c.end_groups.ensures.may c.end_groups.ensures.count
