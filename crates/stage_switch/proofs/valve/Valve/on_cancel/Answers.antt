use Rattle.std.proofs.Common.{◌∙◌, sym}
use Rattle.port_core.specs.Call.{cancels}
use Rattle.stage_switch.proofs.Rows.{none_open}
use Rattle.stage_switch.proofs.ValveCalls.{counts_by, still_by, left_by}
use Rattle.stage_switch.proofs.valve.Valve.on_cancel.Goals as goal

pub watch-requires : goal.watch-requires
watch-requires c = none_open (cancels 0) c.args.self.now c.requires.open c.requires.meets

pub returns-then-is_stuck-clause-ports : goal.returns-then-is_stuck-clause-ports
returns-then-is_stuck-clause-ports c = (still_by (cancels 0) c.args.self.now c.args.acts.now.items c.requires.empty (sym c.is_stuck.ensures.stuck ∙ c.if-is_stuck.true) c.requires.open c.is_stuck.ensures.well c.requires.meets).ports

pub returns-then-is_stuck-clause-gives : goal.returns-then-is_stuck-clause-gives
returns-then-is_stuck-clause-gives c = (still_by (cancels 0) c.args.self.now c.args.acts.now.items c.requires.empty (sym c.is_stuck.ensures.stuck ∙ c.if-is_stuck.true) c.requires.open c.is_stuck.ensures.well c.requires.meets).gives

pub returns-clause-ports : goal.returns-clause-ports
returns-clause-ports c = (left_by c.args.self.now c.watch.new.self c.leave.new.self c.in_ok-_found._found c.leave.new.acts.items c.requires.open (record { is = c.in_ok-_found.ensures.found; due = c.in_ok-_found.ensures.due; seat = c.in_ok-_found.ensures.valve; well = c.is_stuck.ensures.well; on = sym c.is_stuck.ensures.stuck ∙ c.if-is_stuck.false; unmoved = none_open (cancels 0) c.args.self.now c.requires.open c.requires.meets; count = counts_by (cancels 0) c.args.self.now (sym c.is_stuck.ensures.stuck ∙ c.if-is_stuck.false) c.requires.meets }) c.leave.ensures.stage c.leave.ensures.acts).ports

pub returns-clause-gives : goal.returns-clause-gives
returns-clause-gives c = (left_by c.args.self.now c.watch.new.self c.leave.new.self c.in_ok-_found._found c.leave.new.acts.items c.requires.open (record { is = c.in_ok-_found.ensures.found; due = c.in_ok-_found.ensures.due; seat = c.in_ok-_found.ensures.valve; well = c.is_stuck.ensures.well; on = sym c.is_stuck.ensures.stuck ∙ c.if-is_stuck.false; unmoved = none_open (cancels 0) c.args.self.now c.requires.open c.requires.meets; count = counts_by (cancels 0) c.args.self.now (sym c.is_stuck.ensures.stuck ∙ c.if-is_stuck.false) c.requires.meets }) c.leave.ensures.stage c.leave.ensures.acts).gives
