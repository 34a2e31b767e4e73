use Rattle.std.proofs.Common.{ap, ◌∙◌}
use Rattle.nodes.specs.Sink.{Sink, late_in}
use Rattle.nodes.proofs.Sinks.{settles, settles_fault}
use Rattle.nodes.proofs.sink.FileSink.put_late.Goals as goal

pub returns-then-put_off-clause-puts : goal.returns-then-put_off-clause-puts
returns-then-put_off-clause-puts g c = settles g.D.Drain.state c.args.self.now _ c.requires.waits (c.put_off.ensures.puts c.if-put_off.true) (c.put_off.ensures.written c.if-put_off.true)

pub returns-then-put_off-clause-all : goal.returns-then-put_off-clause-all
returns-then-put_off-clause-all g c =
    let was = c.put_off.ensures.written c.if-put_off.true in
    ap (λ (z : Sink _). late_in z.end z.gather.late) was ∙ ap (λ e. late_in e 0) c.requires.waits

pub returns-clause-puts : goal.returns-clause-puts
returns-clause-puts g c = settles_fault g.D.Drain.state c.args.self.now _ c.requires.waits c.requires.some (c.put_off.ensures.part c.if-put_off.false) (c.put_off.ensures.fault c.if-put_off.false)

pub returns-clause-all : goal.returns-clause-all
returns-clause-all g c = ap (λ (z : Sink _). late_in z.end z.gather.late) (c.put_off.ensures.fault c.if-put_off.false)
