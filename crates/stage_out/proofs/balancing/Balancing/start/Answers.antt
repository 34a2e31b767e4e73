use Rattle.stage_out.proofs.Comings.{started}
use Rattle.stage_out.proofs.balancing.Balancing.start.Goals as goal

pub returns-clause-ports : goal.returns-clause-ports
returns-clause-ports c = (started c.args.self.now c.args._acts.now.items c.requires.empty c.requires.live c.requires.meets).ports

pub returns-clause-gives : goal.returns-clause-gives
returns-clause-gives c = (started c.args.self.now c.args._acts.now.items c.requires.empty c.requires.live c.requires.meets).gives
