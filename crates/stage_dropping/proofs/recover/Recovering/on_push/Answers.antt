use Rattle.port_core.specs.Call.{arrives}
use Rattle.elem_core.specs.declared.item.Item.TheVariants as item
use Rattle.std.proofs.Common.{◌∙◌, sym, refl}
use Rattle.stage_dropping.proofs.RecoverCalls.{still_by, passed_by, full_by}
use Rattle.stage_dropping.proofs.recover.Recovering.on_push.Goals as goal

pub returns-then-is_still-clause-ports : goal.returns-then-is_still-clause-ports
returns-then-is_still-clause-ports c = (still_by (arrives 0 (item.Elem c.args.e)) c.args.self.now c.args.acts.now.items c.requires.empty (sym c.is_still.ensures ∙ c.if-is_still.true) c.requires.open).ports

pub returns-then-is_still-clause-gives : goal.returns-then-is_still-clause-gives
returns-then-is_still-clause-gives c = (still_by (arrives 0 (item.Elem c.args.e)) c.args.self.now c.args.acts.now.items c.requires.empty (sym c.is_still.ensures ∙ c.if-is_still.true) c.requires.open).gives

pub returns-then-is_full-clause-ports : goal.returns-then-is_full-clause-ports
returns-then-is_full-clause-ports c = (full_by c.args.self.now c.stop.new.self c.args.acts.now.items c.args.e (sym c.is_still.ensures ∙ c.if-is_still.false) c.requires.open c.requires.meets (sym c.is_full.ensures ∙ c.if-is_full.true) c.stop.ensures c.requires.empty).ports

pub returns-then-is_full-clause-gives : goal.returns-then-is_full-clause-gives
returns-then-is_full-clause-gives c = (full_by c.args.self.now c.stop.new.self c.args.acts.now.items c.args.e (sym c.is_still.ensures ∙ c.if-is_still.false) c.requires.open c.requires.meets (sym c.is_full.ensures ∙ c.if-is_full.true) c.stop.ensures c.requires.empty).gives

pub returns-clause-ports : goal.returns-clause-ports
returns-clause-ports c = (passed_by c.args.self.now c.count.new.self c.add.new.self.items c.args.port c.args.e (sym c.is_still.ensures ∙ c.if-is_still.false) c.requires.open c.requires.port c.requires.meets (sym c.is_full.ensures ∙ c.if-is_full.false) c.in_ok-count.ensures.stage (rw (c.add.ensures, c.requires.empty) refl)).ports

pub returns-clause-gives : goal.returns-clause-gives
returns-clause-gives c = (passed_by c.args.self.now c.count.new.self c.add.new.self.items c.args.port c.args.e (sym c.is_still.ensures ∙ c.if-is_still.false) c.requires.open c.requires.port c.requires.meets (sym c.is_full.ensures ∙ c.if-is_full.false) c.in_ok-count.ensures.stage (rw (c.add.ensures, c.requires.empty) refl)).gives
