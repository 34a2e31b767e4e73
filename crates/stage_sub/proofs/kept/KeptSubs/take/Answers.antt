use Rattle.std.proofs.Common.{sym, subst}
use Rattle.stage_sub.specs.KeptSubs.{KeptSubs, MayCallKept}
use Rattle.stage_sub.proofs.KeptSubs.{may_last, may_groups, before_takes, behind_takes}
use Rattle.stage_sub.proofs.kept.KeptSubs.take.Goals as goal

pub take_group-requires-clause-within : goal.take_group-requires-clause-within
take_group-requires-clause-within g c κs within =
    let k : KeptSubs g.row.C.Denot = record { last = c.self.inside.last; places = c.self.inside.places.entries; slots = c.self.inside.slots.items } in
    let may : MayCallKept g.C.Chain.rest g.C.Chain.is_open k = subst (MayCallKept g.C.Chain.rest g.C.Chain.is_open) (sym c.self.view_is) c.requires.may in
    may.within

pub returns-in-Before-clause-takes : goal.returns-in-Before-clause-takes
returns-in-Before-clause-takes g c =
    let k : KeptSubs g.row.C.Denot = record { last = c.self.inside.last; places = c.self.inside.places.entries; slots = c.self.inside.slots.items } in
    let may : MayCallKept g.C.Chain.rest g.C.Chain.is_open k = subst (MayCallKept g.C.Chain.rest g.C.Chain.is_open) (sym c.self.view_is) c.requires.may in
    before_takes g.C.Chain.rest g.C.Chain.is_open (g.C.Chain.whole c.args.chain.now) c.args.how.now c.in-Before.test k c.args.self.now c.take_before.new.last c.take_before.result c.args.e c.args.outs.now c.take_before.new.outs c.in-Before.is c.self.view_is c.take_before.ensures.takes

pub returns-in-Before-clause-may : goal.returns-in-Before-clause-may
returns-in-Before-clause-may g c =
    let k : KeptSubs g.row.C.Denot = record { last = c.self.inside.last; places = c.self.inside.places.entries; slots = c.self.inside.slots.items } in
    let may : MayCallKept g.C.Chain.rest g.C.Chain.is_open k = subst (MayCallKept g.C.Chain.rest g.C.Chain.is_open) (sym c.self.view_is) c.requires.may in
    may_last g.C.Chain.rest g.C.Chain.is_open k c.take_before.new.last c.take_before.result may c.take_before.ensures.may

pub returns-in-Behind-clause-takes : goal.returns-in-Behind-clause-takes
returns-in-Behind-clause-takes g c =
    let k : KeptSubs g.row.C.Denot = record { last = c.self.inside.last; places = c.self.inside.places.entries; slots = c.self.inside.slots.items } in
    let may : MayCallKept g.C.Chain.rest g.C.Chain.is_open k = subst (MayCallKept g.C.Chain.rest g.C.Chain.is_open) (sym c.self.view_is) c.requires.may in
    behind_takes g.C.Chain.rest g.C.Chain.is_open (g.C.Chain.whole c.args.chain.now) c.args.how.now c.in-Behind.test k c.args.self.now c.take_behind.new.last c.take_behind.result c.args.e c.args.outs.now c.take_behind.new.outs c.in-Behind.is c.self.view_is c.take_behind.ensures.takes

pub returns-in-Behind-clause-may : goal.returns-in-Behind-clause-may
returns-in-Behind-clause-may g c =
    let k : KeptSubs g.row.C.Denot = record { last = c.self.inside.last; places = c.self.inside.places.entries; slots = c.self.inside.slots.items } in
    let may : MayCallKept g.C.Chain.rest g.C.Chain.is_open k = subst (MayCallKept g.C.Chain.rest g.C.Chain.is_open) (sym c.self.view_is) c.requires.may in
    may_last g.C.Chain.rest g.C.Chain.is_open k c.take_behind.new.last c.take_behind.result may c.take_behind.ensures.may

pub returns-in-Key-clause-may : goal.returns-in-Key-clause-may
returns-in-Key-clause-may g c =
    let k : KeptSubs g.row.C.Denot = record { last = c.self.inside.last; places = c.self.inside.places.entries; slots = c.self.inside.slots.items } in
    let may : MayCallKept g.C.Chain.rest g.C.Chain.is_open k = subst (MayCallKept g.C.Chain.rest g.C.Chain.is_open) (sym c.self.view_is) c.requires.may in
    may_groups g.C.Chain.rest g.C.Chain.is_open k c.take_group.new.places.entries c.take_group.new.slots.items c.take_group.result may c.take_group.ensures.may c.take_group.ensures.within
