use Rattle.std.proofs.Common.{ap, ◌∙◌}
use Rattle.nodes.specs.Sink.{Sink}
use Rattle.nodes.proofs.Acting.{first_act}
use Rattle.nodes.proofs.Sinks.{open_no_fault, cancel_asks, handles_off, handles_each, handles_each_fault, room_behind, put_behind, short_behind, written_behind, fault_behind}
use Rattle.nodes.proofs.sink.FileSink.gather.Goals as goal

-- it was put off
pub returns-then-may_wait-clause-handles : goal.returns-then-may_wait-clause-handles
returns-then-may_wait-clause-handles g c =
    let x = c.args.self.now in
    let a = c.in_ok-add.ensures in
    handles_off g.D.Drain.state x.node x.count x.writes x.drain x.kept x.gather x.started x.end _ _ _ c.requires.each
    (room_behind g.D.Drain.state c.args.self.now c.add.new.self c.args.e.now a.off (c.may_wait.ensures c.if-may_wait.true)) a.no_lf a.off (first_act _ _ _ c.add-then-may_wait.ensures c.requires.empty)

-- it was written
pub returns-then-put_off-clause-handles : goal.returns-then-put_off-clause-handles
returns-then-put_off-clause-handles g c =
    let x = c.args.self.now in
    let a = c.in_ok-add.ensures in
    let e = c.put_off.ensures in
    let was = c.if-put_off.true in
    handles_each g.D.Drain.state x.node x.count x.writes x.drain x.kept x.gather x.started x.end _ _ _ _ c.requires.each
    (put_behind g.D.Drain.state c.args.self.now c.add.new.self c.put_off.new.self c.args.e.now a.off (e.puts was)) a.no_lf (written_behind g.D.Drain.state c.args.self.now c.add.new.self c.put_off.new.self c.args.e.now a.off (e.written was)) (first_act _ _ _ c.add-then-put_off.ensures c.requires.empty)

pub returns-else-put_off-clause-handles : goal.returns-else-put_off-clause-handles
returns-else-put_off-clause-handles g c =
    let x = c.args.self.now in
    let a = c.in_ok-add.ensures in
    let e = c.put_off.ensures in
    let was = c.if-put_off.false in
    handles_each_fault g.D.Drain.state x.node x.count x.writes x.drain x.kept x.gather x.started x.end _ _ _ _ _ c.requires.each
    (short_behind g.D.Drain.state c.args.self.now c.add.new.self c.put_off.new.self c.args.e.now a.off (e.part was)) a.no_lf (fault_behind g.D.Drain.state c.args.self.now c.add.new.self c.put_off.new.self c.args.e.now a.off (e.fault was)) (first_act _ _ _ c.add-else-put_off.ensures c.requires.empty)

-- it asks only where no write failed
pub returns-then-may_wait-clause-asks : goal.returns-then-may_wait-clause-asks
returns-then-may_wait-clause-asks g c = λ p f. c.may_wait.ensures c.if-may_wait.true

pub returns-then-put_off-clause-asks : goal.returns-then-put_off-clause-asks
returns-then-put_off-clause-asks g c = λ p f. absurd (open_no_fault g.D.Drain.state _ (ap (λ (z : Sink _). z.end) (c.put_off.ensures.written c.if-put_off.true) ∙ (ap (λ (z : Sink _). z.end) c.in_ok-add.ensures.off ∙ c.requires.waits)) f)

pub returns-else-put_off-clause-asks : goal.returns-else-put_off-clause-asks
returns-else-put_off-clause-asks g c = λ p. absurd (cancel_asks g.D.Drain.state _ (first_act _ _ _ c.add-else-put_off.ensures c.requires.empty) p)
