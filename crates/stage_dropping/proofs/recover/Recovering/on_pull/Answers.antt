use Rattle.port_core.specs.Call.{pulls}
use Rattle.std.proofs.Common.{◌∙◌, sym}
use Rattle.stage_dropping.proofs.RecoverCalls.{still_by, asked_by, own_owed, gave_by}
use Rattle.stage_dropping.proofs.recover.Recovering.on_pull.Goals as goal

pub returns-then-is_still-clause-ports : goal.returns-then-is_still-clause-ports
returns-then-is_still-clause-ports c = (still_by (pulls 0) c.args.self.now c.args.acts.now.items c.requires.empty (sym c.is_still.ensures ∙ c.if-is_still.true) c.requires.open).ports

pub returns-then-is_still-clause-gives : goal.returns-then-is_still-clause-gives
returns-then-is_still-clause-gives c = (still_by (pulls 0) c.args.self.now c.args.acts.now.items c.requires.empty (sym c.is_still.ensures ∙ c.if-is_still.true) c.requires.open).gives

pub give_own-requires-clause-own : goal.give_own-requires-clause-own
give_own-requires-clause-own c = own_owed c.args.self.now (sym c.is_still.ensures ∙ c.if-is_still.false) c.requires.open (sym c.is_over.ensures ∙ c.if-is_over.true) c.requires.meets

pub returns-then-is_over-clause-ports : goal.returns-then-is_over-clause-ports
returns-then-is_over-clause-ports c = (gave_by c.args.self.now c.give_own.new.self c.give_own.new.acts.items (sym c.is_still.ensures ∙ c.if-is_still.false) c.requires.open (sym c.is_over.ensures ∙ c.if-is_over.true) c.requires.meets c.give_own.ensures.stage c.give_own.ensures.acts).ports

pub returns-then-is_over-clause-gives : goal.returns-then-is_over-clause-gives
returns-then-is_over-clause-gives c = (gave_by c.args.self.now c.give_own.new.self c.give_own.new.acts.items (sym c.is_still.ensures ∙ c.if-is_still.false) c.requires.open (sym c.is_over.ensures ∙ c.if-is_over.true) c.requires.meets c.give_own.ensures.stage c.give_own.ensures.acts).gives

pub returns-else-is_over-clause-ports : goal.returns-else-is_over-clause-ports
returns-else-is_over-clause-ports c = (asked_by c.args.self.now c.ask.new.self c.ask.new.acts.items c.args.port (sym c.is_still.ensures ∙ c.if-is_still.false) c.requires.open c.requires.port (sym c.is_over.ensures ∙ c.if-is_over.false) c.ask.ensures.stage c.ask.ensures.acts).ports

pub returns-else-is_over-clause-gives : goal.returns-else-is_over-clause-gives
returns-else-is_over-clause-gives c = (asked_by c.args.self.now c.ask.new.self c.ask.new.acts.items c.args.port (sym c.is_still.ensures ∙ c.if-is_still.false) c.requires.open c.requires.port (sym c.is_over.ensures ∙ c.if-is_over.false) c.ask.ensures.stage c.ask.ensures.acts).gives
