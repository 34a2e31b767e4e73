use Rattle.std.proofs.Common.{◌∙◌, sym}
use Rattle.port_core.specs.Call.{arrives}
use Rattle.elem_core.specs.declared.item.Item.TheVariants as item
use Rattle.stage_switch.proofs.Rows.{none_open}
use Rattle.stage_switch.proofs.ValveCalls.{counts_by, still_by, passed_by, pushed_shuts}
use Rattle.stage_switch.proofs.valve.Valve.on_push.Goals as goal

pub watch-requires : goal.watch-requires
watch-requires c = none_open (arrives 0 (item.Elem c.args.e)) c.args.self.now c.requires.open c.requires.meets

pub returns-then-is_stuck-clause-ports : goal.returns-then-is_stuck-clause-ports
returns-then-is_stuck-clause-ports c = (still_by (arrives 0 (item.Elem c.args.e)) c.args.self.now c.args.acts.now.items c.requires.empty (sym c.is_stuck.ensures.stuck ∙ c.if-is_stuck.true) c.requires.open c.is_stuck.ensures.well c.requires.meets).ports

pub returns-then-is_stuck-clause-gives : goal.returns-then-is_stuck-clause-gives
returns-then-is_stuck-clause-gives c = (still_by (arrives 0 (item.Elem c.args.e)) c.args.self.now c.args.acts.now.items c.requires.empty (sym c.is_stuck.ensures.stuck ∙ c.if-is_stuck.true) c.requires.open c.is_stuck.ensures.well c.requires.meets).gives

pub returns-in-None-clause-ports : goal.returns-in-None-clause-ports
returns-in-None-clause-ports c = (passed_by c.args.self.now c.watch.new.self c.pass.new.self c.in_ok-found.found c.pass.new.acts.items c.requires.open (record { is = c.in_ok-found.ensures.found; due = c.in_ok-found.ensures.due; seat = c.in_ok-found.ensures.valve; well = c.is_stuck.ensures.well; on = sym c.is_stuck.ensures.stuck ∙ c.if-is_stuck.false; unmoved = none_open (arrives 0 (item.Elem c.args.e)) c.args.self.now c.requires.open c.requires.meets; count = counts_by (arrives 0 (item.Elem c.args.e)) c.args.self.now (sym c.is_stuck.ensures.stuck ∙ c.if-is_stuck.false) c.requires.meets }) c.args.e c.in_ok-passed.passed c.in-None.is c.in_ok-passed.ensures c.pass.ensures.stage c.pass.ensures.acts).ports

pub returns-in-None-clause-gives : goal.returns-in-None-clause-gives
returns-in-None-clause-gives c = (passed_by c.args.self.now c.watch.new.self c.pass.new.self c.in_ok-found.found c.pass.new.acts.items c.requires.open (record { is = c.in_ok-found.ensures.found; due = c.in_ok-found.ensures.due; seat = c.in_ok-found.ensures.valve; well = c.is_stuck.ensures.well; on = sym c.is_stuck.ensures.stuck ∙ c.if-is_stuck.false; unmoved = none_open (arrives 0 (item.Elem c.args.e)) c.args.self.now c.requires.open c.requires.meets; count = counts_by (arrives 0 (item.Elem c.args.e)) c.args.self.now (sym c.is_stuck.ensures.stuck ∙ c.if-is_stuck.false) c.requires.meets }) c.args.e c.in_ok-passed.passed c.in-None.is c.in_ok-passed.ensures c.pass.ensures.stage c.pass.ensures.acts).gives

pub returns-in-Some-clause-ports : goal.returns-in-Some-clause-ports
returns-in-Some-clause-ports c = (pushed_shuts c.args.self.now c.watch.new.self c.stop.new.self c.in_ok-found.found c.stop.new.acts.items c.requires.open (record { is = c.in_ok-found.ensures.found; due = c.in_ok-found.ensures.due; seat = c.in_ok-found.ensures.valve; well = c.is_stuck.ensures.well; on = sym c.is_stuck.ensures.stuck ∙ c.if-is_stuck.false; unmoved = none_open (arrives 0 (item.Elem c.args.e)) c.args.self.now c.requires.open c.requires.meets; count = counts_by (arrives 0 (item.Elem c.args.e)) c.args.self.now (sym c.is_stuck.ensures.stuck ∙ c.if-is_stuck.false) c.requires.meets }) c.args.e c.in-Some.order c.in-Some.is c.stop.ensures.closed c.stop.ensures.acts).ports

pub returns-in-Some-clause-gives : goal.returns-in-Some-clause-gives
returns-in-Some-clause-gives c = (pushed_shuts c.args.self.now c.watch.new.self c.stop.new.self c.in_ok-found.found c.stop.new.acts.items c.requires.open (record { is = c.in_ok-found.ensures.found; due = c.in_ok-found.ensures.due; seat = c.in_ok-found.ensures.valve; well = c.is_stuck.ensures.well; on = sym c.is_stuck.ensures.stuck ∙ c.if-is_stuck.false; unmoved = none_open (arrives 0 (item.Elem c.args.e)) c.args.self.now c.requires.open c.requires.meets; count = counts_by (arrives 0 (item.Elem c.args.e)) c.args.self.now (sym c.is_stuck.ensures.stuck ∙ c.if-is_stuck.false) c.requires.meets }) c.args.e c.in-Some.order c.in-Some.is c.stop.ensures.closed c.stop.ensures.acts).gives
