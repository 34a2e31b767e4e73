use Rattle.std.proofs.Common.{◌∙◌, sym}
use Rattle.port_core.specs.Call.{starts}
use Rattle.stage_switch.proofs.Rows.{none_new}
use Rattle.stage_switch.proofs.ValveCalls.{counts_by, never_new, starts_open, starts_shut}
use Rattle.stage_switch.proofs.valve.Valve.start.Goals as goal

pub watch-requires : goal.watch-requires
watch-requires c = none_new starts c.args.self.now c.requires.new c.requires.meets

pub returns-then-is_stuck-clause-ports : goal.returns-then-is_stuck-clause-ports
returns-then-is_stuck-clause-ports c = absurd (never_new c.args.self.now c.requires.new (sym c.is_stuck.ensures.stuck ∙ c.if-is_stuck.true) c.requires.meets)

pub returns-then-is_stuck-clause-gives : goal.returns-then-is_stuck-clause-gives
returns-then-is_stuck-clause-gives c = absurd (never_new c.args.self.now c.requires.new (sym c.is_stuck.ensures.stuck ∙ c.if-is_stuck.true) c.requires.meets)

pub returns-in-None-clause-ports : goal.returns-in-None-clause-ports
returns-in-None-clause-ports c = (starts_open c.args.self.now c.watch.new.self c.open.new.self c.in_ok-found.found c.args.acts.now.items c.requires.new (record { is = c.in_ok-found.ensures.found; due = c.in_ok-found.ensures.due; seat = c.in_ok-found.ensures.valve; well = c.is_stuck.ensures.well; on = sym c.is_stuck.ensures.stuck ∙ c.if-is_stuck.false; unmoved = none_new starts c.args.self.now c.requires.new c.requires.meets; count = counts_by starts c.args.self.now (sym c.is_stuck.ensures.stuck ∙ c.if-is_stuck.false) c.requires.meets }) c.in-None.is c.open.ensures c.requires.empty).ports

pub returns-in-None-clause-gives : goal.returns-in-None-clause-gives
returns-in-None-clause-gives c = (starts_open c.args.self.now c.watch.new.self c.open.new.self c.in_ok-found.found c.args.acts.now.items c.requires.new (record { is = c.in_ok-found.ensures.found; due = c.in_ok-found.ensures.due; seat = c.in_ok-found.ensures.valve; well = c.is_stuck.ensures.well; on = sym c.is_stuck.ensures.stuck ∙ c.if-is_stuck.false; unmoved = none_new starts c.args.self.now c.requires.new c.requires.meets; count = counts_by starts c.args.self.now (sym c.is_stuck.ensures.stuck ∙ c.if-is_stuck.false) c.requires.meets }) c.in-None.is c.open.ensures c.requires.empty).gives

pub returns-in-Some-clause-ports : goal.returns-in-Some-clause-ports
returns-in-Some-clause-ports c = (starts_shut c.args.self.now c.watch.new.self c.stop.new.self c.in_ok-found.found c.stop.new.acts.items c.in-Some.order c.requires.new (record { is = c.in_ok-found.ensures.found; due = c.in_ok-found.ensures.due; seat = c.in_ok-found.ensures.valve; well = c.is_stuck.ensures.well; on = sym c.is_stuck.ensures.stuck ∙ c.if-is_stuck.false; unmoved = none_new starts c.args.self.now c.requires.new c.requires.meets; count = counts_by starts c.args.self.now (sym c.is_stuck.ensures.stuck ∙ c.if-is_stuck.false) c.requires.meets }) c.in-Some.is c.stop.ensures.closed c.stop.ensures.acts).ports

pub returns-in-Some-clause-gives : goal.returns-in-Some-clause-gives
returns-in-Some-clause-gives c = (starts_shut c.args.self.now c.watch.new.self c.stop.new.self c.in_ok-found.found c.stop.new.acts.items c.in-Some.order c.requires.new (record { is = c.in_ok-found.ensures.found; due = c.in_ok-found.ensures.due; seat = c.in_ok-found.ensures.valve; well = c.is_stuck.ensures.well; on = sym c.is_stuck.ensures.stuck ∙ c.if-is_stuck.false; unmoved = none_new starts c.args.self.now c.requires.new c.requires.meets; count = counts_by starts c.args.self.now (sym c.is_stuck.ensures.stuck ∙ c.if-is_stuck.false) c.requires.meets }) c.in-Some.is c.stop.ensures.closed c.stop.ensures.acts).gives
