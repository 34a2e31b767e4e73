use Rattle.std.proofs.Common.{◌∙◌, sym, refl}
use Rattle.port_core.specs.Call.{pulls}
use Rattle.stage_switch.proofs.Rows.{none_open}
use Rattle.stage_switch.proofs.ValveCalls.{counts_by, still_by, asked_by, asked_shuts}
use Rattle.stage_switch.proofs.valve.Valve.on_pull.Goals as goal

pub watch-requires : goal.watch-requires
watch-requires c = none_open (pulls 0) c.args.self.now c.requires.open c.requires.meets

pub returns-then-is_stuck-clause-ports : goal.returns-then-is_stuck-clause-ports
returns-then-is_stuck-clause-ports c = (still_by (pulls 0) c.args.self.now c.args.acts.now.items c.requires.empty (sym c.is_stuck.ensures.stuck ∙ c.if-is_stuck.true) c.requires.open c.is_stuck.ensures.well c.requires.meets).ports

pub returns-then-is_stuck-clause-gives : goal.returns-then-is_stuck-clause-gives
returns-then-is_stuck-clause-gives c = (still_by (pulls 0) c.args.self.now c.args.acts.now.items c.requires.empty (sym c.is_stuck.ensures.stuck ∙ c.if-is_stuck.true) c.requires.open c.is_stuck.ensures.well c.requires.meets).gives

pub returns-in-None-clause-ports : goal.returns-in-None-clause-ports
returns-in-None-clause-ports c = (asked_by c.args.self.now c.watch.new.self c.watch.new.self c.in_ok-found.found c.add.new.self.items c.requires.open (record { is = c.in_ok-found.ensures.found; due = c.in_ok-found.ensures.due; seat = c.in_ok-found.ensures.valve; well = c.is_stuck.ensures.well; on = sym c.is_stuck.ensures.stuck ∙ c.if-is_stuck.false; unmoved = none_open (pulls 0) c.args.self.now c.requires.open c.requires.meets; count = counts_by (pulls 0) c.args.self.now (sym c.is_stuck.ensures.stuck ∙ c.if-is_stuck.false) c.requires.meets }) c.in-None.is refl (rw (c.add.ensures, c.requires.empty) refl)).ports

pub returns-in-None-clause-gives : goal.returns-in-None-clause-gives
returns-in-None-clause-gives c = (asked_by c.args.self.now c.watch.new.self c.watch.new.self c.in_ok-found.found c.add.new.self.items c.requires.open (record { is = c.in_ok-found.ensures.found; due = c.in_ok-found.ensures.due; seat = c.in_ok-found.ensures.valve; well = c.is_stuck.ensures.well; on = sym c.is_stuck.ensures.stuck ∙ c.if-is_stuck.false; unmoved = none_open (pulls 0) c.args.self.now c.requires.open c.requires.meets; count = counts_by (pulls 0) c.args.self.now (sym c.is_stuck.ensures.stuck ∙ c.if-is_stuck.false) c.requires.meets }) c.in-None.is refl (rw (c.add.ensures, c.requires.empty) refl)).gives

pub returns-in-Some-clause-ports : goal.returns-in-Some-clause-ports
returns-in-Some-clause-ports c = (asked_shuts c.args.self.now c.watch.new.self c.stop.new.self c.in_ok-found.found c.stop.new.acts.items c.requires.open (record { is = c.in_ok-found.ensures.found; due = c.in_ok-found.ensures.due; seat = c.in_ok-found.ensures.valve; well = c.is_stuck.ensures.well; on = sym c.is_stuck.ensures.stuck ∙ c.if-is_stuck.false; unmoved = none_open (pulls 0) c.args.self.now c.requires.open c.requires.meets; count = counts_by (pulls 0) c.args.self.now (sym c.is_stuck.ensures.stuck ∙ c.if-is_stuck.false) c.requires.meets }) c.in-Some.order c.in-Some.is c.stop.ensures.closed c.stop.ensures.acts).ports

pub returns-in-Some-clause-gives : goal.returns-in-Some-clause-gives
returns-in-Some-clause-gives c = (asked_shuts c.args.self.now c.watch.new.self c.stop.new.self c.in_ok-found.found c.stop.new.acts.items c.requires.open (record { is = c.in_ok-found.ensures.found; due = c.in_ok-found.ensures.due; seat = c.in_ok-found.ensures.valve; well = c.is_stuck.ensures.well; on = sym c.is_stuck.ensures.stuck ∙ c.if-is_stuck.false; unmoved = none_open (pulls 0) c.args.self.now c.requires.open c.requires.meets; count = counts_by (pulls 0) c.args.self.now (sym c.is_stuck.ensures.stuck ∙ c.if-is_stuck.false) c.requires.meets }) c.in-Some.order c.in-Some.is c.stop.ensures.closed c.stop.ensures.acts).gives
