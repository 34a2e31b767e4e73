use Rattle.std.proofs.Common.{ap, refl, ◌∙◌}
use Rattle.stream_model.specs.declared.outcome.EndState.TheVariants.{Ended}
use Rattle.nodes.specs.Sink.{Sink}
use Rattle.nodes.proofs.Sinks.{handles_finish, handles_finish_fault}
use Rattle.nodes.proofs.sink.FileSink.finish_each.Goals as goal

pub returns-then-put_off : goal.returns-then-put_off
returns-then-put_off g c =
    let x = c.args.self.now in
    let e = c.put_off.ensures in
    let was = c.if-put_off.true in
    handles_finish g.D.Drain.state x.node x.count x.writes x.drain x.kept x.gather x.started x.end _ _ _ c.requires (e.puts was)
    (ap (λ (z : Sink _). record z { end = Ended }) (c.self.view_is ∙ e.written was)) refl

pub returns-else-put_off : goal.returns-else-put_off
returns-else-put_off g c =
    let x = c.args.self.now in
    let e = c.put_off.ensures in
    let was = c.if-put_off.false in
    handles_finish_fault g.D.Drain.state x.node x.count x.writes x.drain x.kept x.gather x.started x.end _ _ _ _ c.requires (e.part was) (e.fault was) refl
