use Rattle.stage_dropping.proofs.DropCalls.{serving_few}
use Rattle.stage_dropping.proofs.DropEnters.{stays_idle}
use Rattle.stage_dropping.proofs.dropping.Dropping.answer.Goals as goal

pub returns-then-is_idle-clause-answered : goal.returns-then-is_idle-clause-answered
returns-then-is_idle-clause-answered c =
    let i = c.is_idle.ensures c.if-is_idle.true in
    stays_idle c.args.self.now c.args.acts.now.items c.requires.open i.0 i.1 (c.requires.idle i.0 i.1) c.requires.empty

pub returns-clause-answered : goal.returns-clause-answered
returns-clause-answered c = record { mid = c.serve.new.self; between = c.serve.new.acts.items; serves = c.serve.ensures.served; settles = c.settle.ensures.settling }
