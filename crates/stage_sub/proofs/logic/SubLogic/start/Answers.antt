use Rattle.std.proofs.Common.{ap, sym}
use Rattle.stage_sub.proofs.LedHandlers.{begins_so, opened_is}
use Rattle.stage_sub.proofs.logic.SubLogic.start.Goals as goal

pub returns-clause-ports : goal.returns-clause-ports
returns-clause-ports g c =
    (begins_so g.C.Chain.whole g.C.Chain.rest g.C.Chain.is_open c.args.self.now _ c.args.acts.now.items c.requires.calm c.requires.new c.requires.empty (opened_is c.args.self.now c.self.inside.state.value c.begin.new.self c.self.inside.log c.self.view_is (rw (sym c.deref_mut.ensures.value) c.begin.ensures))).ports

pub returns-clause-gives : goal.returns-clause-gives
returns-clause-gives g c =
    (begins_so g.C.Chain.whole g.C.Chain.rest g.C.Chain.is_open c.args.self.now _ c.args.acts.now.items c.requires.calm c.requires.new c.requires.empty (opened_is c.args.self.now c.self.inside.state.value c.begin.new.self c.self.inside.log c.self.view_is (rw (sym c.deref_mut.ensures.value) c.begin.ensures))).gives
