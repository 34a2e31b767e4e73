use Rattle.std.proofs.Common.{sym, subst, ◌∙◌}
use Rattle.step_work.specs.Slots.{MayCall}
use Rattle.stage_sub.proofs.Groups.{may_at, is_there}
use Rattle.stage_sub.proofs.keyed.take_slot.Goals as goal

pub returns-clause-call : goal.returns-clause-call
returns-clause-call g c =
    let at = is_there c.args.slots.now.items c.args.i c.index_mut.result.now c.requires.within in
    subst (MayCall g.C.Chain.rest g.C.Chain.is_open) (sym (c.take.ensures.value ∙ c.index_mut.ensures.value)) (may_at g.C.Chain.rest g.C.Chain.is_open c.args.slots.now.items c.args.i _ c.requires.may at)
